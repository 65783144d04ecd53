-- What is written is in the rows.
use Rattle.std.proofs.Common.{◌≡◌, ℕ, ◌+◌, ◌*◌, ◌/◌, ◌%◌, ◌^◌, ◌<◌, ◌≤◌, Bool, true, false, List, [], ◌∷◌, ◌++◌, length, take, drop, refl}
use Rattle.std.proofs.Common.{sym, ap, subst, ◌∙◌, append_assoc, arith}
use Rattle.std.specs.List.{AllByRecursion}
use Rattle.std.specs.Int.{from_bool}
use Rattle.std.proofs.lemmas.List.{take_at, drop_at, append-nil}
use Rattle.hevc_configuration.specs.declared.length_size.LengthSize.{LengthSize}
use Rattle.hevc_configuration.specs.declared.length_size.LengthSize.TheVariants.{One, Two, Four}
use Rattle.hevc_configuration.specs.LengthSizes.{size_minus_one}
use Rattle.hevc_configuration.specs.Configuration.{PlainArray, PlainConfiguration, unit_rows, array_rows, arrays_rows, configuration_rows}
use Rattle.hevc_configuration.specs.Rows.{Row, AreRows, bytes_of_rows}
use Rattle.hevc_configuration.specs.Held.{IsArrayHeld, IsHeld}
use Rattle.hevc_configuration.proofs.Steps.{rows_append}

units_back : (units : List (List ℕ)) (rows : List Row) (after : List ℕ)
    → AllByRecursion (λ unit. length unit < 65536) units → AreRows rows after
    → AreRows (unit_rows units ++ rows) (bytes_of_rows (unit_rows units) ++ after)
units_back [] rows after short more = more
units_back (u ∷ us) rows after short more =
    let lt : length u < 65536 = short.0 in
    let own = bytes_of_rows (unit_rows us) in
    let there : (u ++ own) ++ after ≡ u ++ (own ++ after) = append_assoc u own after in
    let first : take (length u) ((u ++ own) ++ after) ≡ u =
    ap (take (length u)) there ∙ take_at u (own ++ after) (length u) refl in
    let left : drop (length u) ((u ++ own) ++ after) ≡ own ++ after =
    ap (drop (length u)) there ∙ drop_at u (own ++ after) (length u) refl in (
      (omega arith, (omega (arith, lt), tt)),
      (first, subst (λ (bs : List ℕ). AreRows (unit_rows us ++ rows) bs) (sym left) (units_back us rows after short.1 more)),
    )

flag_below : (flag : Bool) → from_bool flag < 2
flag_below true = omega arith
flag_below false = omega arith

array_back : (a : PlainArray) (rows : List Row) (after : List ℕ) → IsArrayHeld a → AreRows rows after
    → AreRows (array_rows a ++ rows) (bytes_of_rows (array_rows a) ++ after)
array_back a rows after held more =
    let flag = flag_below a.array_completeness in
    let kind = held.nal_unit_type in
    let few = held.few in (
      (omega arith, (omega (arith, flag, kind), (omega (arith, flag, kind), tt))),
      ((omega arith, (omega (arith, few), tt)), units_back a.units rows after held.short more),
    )

arrays_back : (arrays : List PlainArray) (after : List ℕ) → AllByRecursion IsArrayHeld arrays
    → AreRows (arrays_rows arrays) (bytes_of_rows (arrays_rows arrays) ++ after)
arrays_back [] after held = tt
arrays_back (a ∷ others) after held =
    let rest = bytes_of_rows (arrays_rows others) ++ after in
    let same : bytes_of_rows (array_rows a ++ arrays_rows others) ++ after ≡ bytes_of_rows (array_rows a) ++ rest =
    ap (λ (bs : List ℕ). bs ++ after) (rows_append (array_rows a) (arrays_rows others))
    ∙ append_assoc (bytes_of_rows (array_rows a)) (bytes_of_rows (arrays_rows others)) after in
    subst (λ (bs : List ℕ). AreRows (array_rows a ++ arrays_rows others) bs) (sym same)
    (array_back a (arrays_rows others) rest held.0 (arrays_back others after held.1))

size_below : (size : LengthSize) → size_minus_one size < 4
size_below One = omega arith
size_below Two = omega arith
size_below Four = omega arith

pub configuration_back : (c : PlainConfiguration) (after : List ℕ) → IsHeld c
    → AreRows (configuration_rows c) (bytes_of_rows (configuration_rows c) ++ after)
configuration_back c after held =
    let tier = flag_below c.general_tier_flag in
    let nested = flag_below c.temporal_id_nested in
    let size = size_below c.length_size in
    let h1 = held.general_profile_space in
    let h2 = held.general_profile_idc in
    let h3 = held.general_profile_compatibility_flags in
    let h4 = held.general_constraint_indicator_flags in
    let h5 = held.general_level_idc in
    let h6 = held.min_spatial_segmentation_idc in
    let h7 = held.parallelism_type in
    let h8 = held.chroma_format_idc in
    let h9 = held.bit_depth_luma_minus8 in
    let h10 = held.bit_depth_chroma_minus8 in
    let h11 = held.avg_frame_rate in
    let h12 = held.constant_frame_rate in
    let h13 = held.num_temporal_layers in
    let h14 = held.few in (
      (omega arith, (refl, tt)),
      (
        (omega arith, (omega (arith, h1, tier, h2), (omega (arith, tier, h2), (omega (arith, h2), tt)))),
        (
          (omega arith, (omega (arith, h3), tt)),
          (
            (omega arith, (omega (arith, h4), tt)),
            (
              (omega arith, (omega (arith, h4), tt)),
              (
                (omega arith, (omega (arith, h5), tt)),
                (
                  (omega arith, (omega (arith, h6), tt)),
                  (
                    (omega arith, (omega (arith, h7), tt)),
                    (
                      (omega arith, (omega (arith, h8), tt)),
                      (
                        (omega arith, (omega (arith, h9), tt)),
                        (
                          (omega arith, (omega (arith, h10), tt)),
                          (
                            (omega arith, (omega (arith, h11), tt)),
                            (
                              (omega arith, (omega (arith, h12, h13, nested, size), (omega (arith, h13, nested, size), (omega (arith, nested, size), (omega (arith, size), tt))))),
                              ((omega arith, (omega (arith, h14), tt)), arrays_back c.arrays after held.arrays),
                            ),
                          ),
                        ),
                      ),
                    ),
                  ),
                ),
              ),
            ),
          ),
        ),
      ),
    )
