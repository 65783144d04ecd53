-- What is looked for among the stored pictures (8.3.2).
use Rattle.std.specs.Prelude.{pos, ◌<ℤ◌, ⊤, Bool, ◌&&◌}
use Rattle.std.specs.Ordering.{int_eq}
use Rattle.std.specs.Int.{int_rem_euclid}
use Rattle.hevc_walk.specs.Buffer.{Entry, is_reference}
use Rattle.hevc_walk.specs.ReferenceSets.{is_short_term}
use Rattle.hevc_dpb.specs.declared.finds.Sought.{Sought}
use Rattle.hevc_dpb.specs.declared.finds.Sought.TheVariants.{Count, CountModulo, ShortTermCount}

abbrev pub HasModulus : Sought → Type 0
HasModulus (Count order_count) = ⊤
HasModulus (CountModulo order_count modulus) = pos 0 <ℤ modulus
HasModulus (ShortTermCount order_count) = ⊤

abbrev pub fits : Sought → Entry → Bool
fits (Count order_count) e = is_reference e.mark && int_eq e.order_count order_count
fits (CountModulo order_count modulus) e =
    is_reference e.mark
    && int_eq (int_rem_euclid e.order_count modulus) (int_rem_euclid order_count modulus)
fits (ShortTermCount order_count) e = is_short_term e.mark && int_eq e.order_count order_count
