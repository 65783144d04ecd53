use Rattle.std.proofs.Common.{List, Bool, ap, ◌++◌, sym, ◌∙◌, arith}
use Rattle.hevc_spec.specs.Bits.{ue}
use Rattle.hevc_bit_writer.specs.Writing.{spelled}
use Rattle.hevc_write_elements.proofs.Chains.{is_present}
use Rattle.hevc_write_slice_header.proofs.HeaderKeeps.{header_extension_filled}
use Rattle.hevc_write_slice_header.proofs.ending.write_header_extension_if.Goals as goal

pub returns : goal.returns
returns c = is_present c.if-not-present.false (record {
  written = λ y w. header_extension_filled y w
      (λ e at. ap (λ (o : List Bool). o ++ spelled ue 0) at ∙ sym (c.in_ok-ue.ensures (omega arith)));
})
