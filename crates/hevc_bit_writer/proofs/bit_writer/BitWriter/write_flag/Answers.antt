use Rattle.std.proofs.Common.{◌++◌, ◌∷◌, [], ap, ◌∙◌, arith}
use Rattle.hevc_spec.specs.Payload.{bits_of}
use Rattle.hevc_bit_writer.proofs.Writes.{pushed_within, pushed_whole}
use Rattle.hevc_bit_writer.proofs.bit_writer.BitWriter.write_flag.Goals as goal

pub returns-then-self-lt7-clause-ok : goal.returns-then-self-lt7-clause-ok
returns-then-self-lt7-clause-ok c = let w =
    c.self.inside in pushed_within w.bytes.items w.filled w.partial c.args.flag
    ∙ ap (λ x. x ++ c.args.flag ∷ []) c.self.view_is

pub returns-in_ok-push-clause-ok : goal.returns-in_ok-push-clause-ok
returns-in_ok-push-clause-ok c =
    let w = c.self.inside in
    ap (λ x. bits_of x ++ []) c.in_ok-push.ensures.items
    ∙ pushed_whole w.bytes.items w.filled w.partial c.args.flag (omega (arith, c.self.invariant))
    ∙ ap (λ x. x ++ c.args.flag ∷ []) c.self.view_is
