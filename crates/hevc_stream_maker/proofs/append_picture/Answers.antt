use Rattle.std.proofs.Common.{◌≡◌, ◌++◌, ◌∷◌, subst, ap, ◌∙◌}
use Rattle.std.specs.Prelude.{OnOk}
use Rattle.hevc_bit_writer.specs.Writing.{packed}
use Rattle.hevc_bit_writer.specs.WrittenUnits.{escaped, started}
use Rattle.hevc_stream_maker.specs.Made.{picture_unit}
use Rattle.hevc_stream_maker.proofs.append_picture.Goals as goal

pub returns : goal.returns
unfolding picture_unit
returns c =
    let payload = c.as_bytes.ensures ∙ ap packed c.in_ok-write_slice.ensures.bits in
    subst (λ x. OnOk c.append_unit.result (c.append_unit.new.stream.items ≡ c.args.stream.now.items
    ++ started (2 ∷ 1 ∷ escaped x))) payload c.append_unit.ensures.ok
