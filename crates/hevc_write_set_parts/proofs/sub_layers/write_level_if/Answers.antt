use Rattle.std.proofs.Common.{◌<◌, length, refl, sym, ◌∙◌, arith}
use Rattle.std.proofs.lemmas.List.{length-map, get_or-map}
use Rattle.hevc_records.specs.ProfileConformance.{is_level}
use Rattle.hevc_tables.specs.ProfileTierLevelTable.{sub_layer_level, level}
use Rattle.hevc_set_parts.specs.Level.{level_number}
use Rattle.hevc_set_parts.specs.ProfileTierLevel.{plain_profile_tier_level}
use Rattle.hevc_write_elements.proofs.Steps.{number_then, done_filled}
use Rattle.hevc_write_elements.proofs.Loops.{one_less}
use Rattle.hevc_write_elements.proofs.Chains.{is_present}
use Rattle.hevc_write_set_parts.proofs.sub_layers.write_level_if.Goals as goal

pub returns : goal.returns
unfolding sub_layer_level level
returns c =
    let x = plain_profile_tier_level c.args.x.now in
    let within : c.args.i < length x.sub_layer_level_idc = simp length-map (omega arith) in
    is_present c.if-not-present.false (record {
      written = λ y w.
          number_then _ refl 8 is_level c.in_ok-bits_u8.ensures (λ v b h. done_filled (λ a.
          let level = one_less c.args.i y.sub_layer_level_idc x.sub_layer_level_idc v 0 within a in (
            level.0,
            λ at. h (level.1 ∙ get_or-map level_number c.args.x.now.sub_layer_level_idc c.args.i _ 0
                (omega arith) ∙ sym c.number.ensures) at,
          )));
    })
