use Rattle.std.proofs.Common.{ℤ, ◌+ℤ◌, ◌&&◌, ap, ◌∙◌, arith}
use Rattle.std.specs.Ordering.{int_eq}
use Rattle.std.proofs.lemmas.Int.{ints}
use Rattle.hevc_walk.specs.ReferenceSets.{first_number, is_short_term}
use Rattle.hevc_dpb.specs.Views.{buffer_of}
use Rattle.hevc_refs.proofs.short_term.number_of.Goals as goal

pub returns : goal.returns
returns g c =
    c.find.ensures
    ∙ ap (λ (x : ℤ). first_number (λ e. is_short_term e.mark && int_eq e.order_count x)
    (buffer_of c.args.dpb.now)) {y = c.args.order_count +ℤ c.args.delta} (omega (arith, ints))
