use Rattle.hevc_tables.specs.HrdTable.{sub_layer}
use Rattle.hevc_video_set.specs.HrdParams.{plain_hrd_params}
use Rattle.hevc_write_set_parts.specs.HrdParts.{same_sub_layers}
use Rattle.hevc_write_elements.specs.Filling.{WritesTurns}
use Rattle.hevc_write_set_parts.proofs.hrd_sub_layers.write_sub_layers.Given as goal

abbrev pub invariant-loop-i : goal.invariant-loop-i
invariant-loop-i l = WritesTurns sub_layer (same_sub_layers (plain_hrd_params l.x)) l.i l.fn.w l.w
