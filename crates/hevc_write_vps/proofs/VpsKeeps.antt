-- What the parts of table 1 leave, and their loops.
use Rattle.std.proofs.Common.{◌≡◌, ℕ, zero, suc, ◌+◌, ◌-◌, ◌<◌, Bool, true, false, eqb, List, []}
use Rattle.std.proofs.Common.{◌∷◌, ◌++◌, length, take, get_or, replicate, min, refl, sym, ap, ap₂}
use Rattle.std.proofs.Common.{subst, ◌∙◌, arith, inl, inr}
use Rattle.std.specs.Prelude.{not, ◌==◌, if◌then◌else◌}
use Rattle.std.proofs.lemmas.List.{length-append, length-take, take_all}
use Rattle.std.proofs.lemmas.Bool.{true≢false}
use Rattle.std.proofs.lemmas.Bool.Decides.{nat_tests}
use Rattle.hevc_spec.specs.Table.{Table}
use Rattle.hevc_spec.specs.Rows.{row, repeat, when}
use Rattle.hevc_records.specs.HrdParams.{PlainHrdParams, default_hrd_params}
use Rattle.hevc_records.specs.Vps.{PlainVps}
use Rattle.hevc_tables.specs.VpsTable.{identity, own_ordering, own_orderings, common_ordering}
use Rattle.hevc_tables.specs.VpsTable.{orderings, layer_sets, structure, structures, timing}
use Rattle.hevc_tables.specs.VpsTable.{timing_info, extension, up_to_highest}
use Rattle.hevc_write_elements.specs.Filling.{EachFilling, Keeps, Writes, WritesTurns}
use Rattle.hevc_write_elements.proofs.Fillings.{weakened, beside}
use Rattle.hevc_write_elements.proofs.Steps.{IsFillable, when_filled, then_filled, done_filled}
use Rattle.hevc_write_elements.proofs.Steps.{filled, part_kept, when_kept, either_kept}
use Rattle.hevc_write_elements.proofs.Steps.{flag_fillable, bits_fillable, ue_fillable}
use Rattle.hevc_write_elements.proofs.Steps.{when_fillable, skip_fillable, some_zeros_written}
use Rattle.hevc_write_elements.proofs.Steps.{check_if_then, counted_part_written, IsDecided}
use Rattle.hevc_write_elements.proofs.Steps.{numbers, by}
use Rattle.hevc_write_elements.proofs.Loops.{turns_keep, all_turns, all_same}
use Rattle.hevc_write_elements.proofs.Growing.{last_item}
use Rattle.hevc_write_set_parts.proofs.ProfileKeeps.{profile_tier_level_fillable}
use Rattle.hevc_write_set_parts.proofs.HrdKeeps.{hrd_fillable}
use Rattle.hevc_write_vps.specs.VpsParts as own

-- sets no elements but those of rows 1 to 7
pub identity_keeps : Keeps identity own.identity_of
unfolding identity
identity_keeps = record {
  same = λ y. refl;
  last = λ x y z. refl;
  kept = λ y w. then_filled (filled (bits_fillable _ refl _ _ _)
      (λ v1 b1. then_filled
      (filled (flag_fillable _ refl)
      (λ v2 b2. then_filled
      (filled (flag_fillable _ refl)
      (λ v3 b3. then_filled (filled (bits_fillable _ refl _ _ _)
      (λ v4 b4. then_filled (filled (bits_fillable _ refl _ _ _)
      (λ v5 b5. then_filled
      (filled (flag_fillable _ refl)
      (λ v6 b6. then_filled (filled (skip_fillable (row 1 6) 16 (omega arith))
      (λ v7 b7. then_filled (filled (profile_tier_level_fillable _) (λ v8 b8. done_filled refl))))))))))))))));
}

-- sets no elements but those of rows 9 to 13
own_ordering_keeps : (i : ℕ) → Keeps (own_ordering i) own.own_orderings_of
unfolding own_ordering
own_ordering_keeps i = record {
  same = λ y. refl;
  last = λ x y z. refl;
  kept = λ y w. then_filled
      (filled (ue_fillable _ refl _ _)
      (λ v1 b1. then_filled
      (filled (ue_fillable _ refl _ _)
      (λ v2 b2. then_filled
      (filled (ue_fillable _ refl _ _) (λ v3 b3. check_if_then _ _ _ (check_if_then _ _ _ (done_filled refl))))))));
}

-- sets no elements but those of rows 9 to 13
pub counted_orderings_keep : (n : ℕ) → Keeps (repeat own_ordering 0 n) own.own_orderings_of
counted_orderings_keep n = turns_keep own_ordering own.own_orderings_of own_ordering_keeps n

-- sets no elements but those of rows 9 to 13
pub own_orderings_keeps : Keeps own_orderings own.own_orderings_of
unfolding own_orderings
own_orderings_keeps = record {
  same = λ y. refl;
  last = λ x y z. refl;
  kept = λ y w. (counted_orderings_keep (y.max_sub_layers_minus1 + 1)).kept y w;
}

-- the whole of it is written once all its turns are
pub orderings_written : (x : PlainVps) (n : ℕ) {old new : List Bool}
    → WritesTurns own_ordering (own.same_orderings x) n old new → n ≡ x.max_sub_layers_minus1 + 1
    → Writes own_orderings own.own_orderings_with_inputs_of x old new
unfolding own_orderings
orderings_written x n {old = old} {new = new} turns e =
    let all : Writes (repeat own_ordering 0 (x.max_sub_layers_minus1 + 1)) own.own_orderings_of x old new =
    subst (λ (k : ℕ). Writes (repeat own_ordering 0 k) own.own_orderings_of x old new) e
    (all_turns own_ordering (own.same_orderings x)
    (λ z is. (
      all_same _ _ _ (by is (λ r. r.max_dec_pic_buffering_minus1)),
      all_same _ _ _ (by is (λ r. r.max_num_reorder_pics)),
      all_same _ _ _ (by is (λ r. r.max_latency_increase_plus1)),
    )) turns) in
    record {
      written = λ y w. counted_part_written
          (repeat own_ordering 0) own.own_orderings_of counted_orderings_keep
          (y.max_sub_layers_minus1 + 1) y all refl
          (λ z b h e at. h (by e (λ r. r.max_sub_layers_minus1 + 1)) _ e refl at);
    }

-- sets no elements but those of rows 9 to 13
pub common_ordering_keeps : Keeps common_ordering own.own_orderings_of
unfolding common_ordering
common_ordering_keeps = record {
  same = λ y. refl;
  last = λ x y z. refl;
  kept = λ y w. then_filled
      (filled (ue_fillable _ refl _ _)
      (λ v1 b1. then_filled
      (filled (ue_fillable _ refl _ _)
      (λ v2 b2. then_filled (filled (ue_fillable _ refl _ _) (λ v3 b3. done_filled refl))))));
}

-- sets no elements but those of rows 8 to 13
pub orderings_keeps : Keeps orderings own.orderings_of
unfolding orderings
orderings_keeps = record {
  same = λ y. refl;
  last = λ x y z. refl;
  kept = λ y w. then_filled
      (filled (flag_fillable _ refl)
      (λ v1 b1. either_kept own_orderings common_ordering own.own_orderings_of own_orderings_keeps
      common_ordering_keeps _ _ (λ z2 b2. refl)));
}

-- sets no elements but those of rows 14 to 16
pub layer_sets_keeps : Keeps layer_sets own.layer_sets_of
unfolding layer_sets
layer_sets_keeps = record {
  same = λ y. refl;
  last = λ x y z. refl;
  kept = λ y w. then_filled (filled (bits_fillable _ refl _ _ _)
      (λ v1 b1. then_filled
      (filled (ue_fillable _ refl _ _)
      (λ v2 b2. then_filled (some_zeros_written (row 1 16) _ 0 (λ k. refl) {old = []} refl
      (λ b3 h3. done_filled refl))))));
}

-- sets no elements but those of rows 22 to 24
structure_keeps : (i : ℕ) → Keeps (structure i) own.structures_of
unfolding structure
structure_keeps i = record {
  same = λ y. refl;
  last = λ x y z. refl;
  kept = λ y w. then_filled
      (filled (ue_fillable _ refl _ _)
      (λ v1 b1. then_filled (filled (when_fillable _ _ (flag_fillable _ refl))
      (λ v2 b2. then_filled (filled (hrd_fillable _ _ _) (λ v3 b3. done_filled refl))))));
}

-- sets no elements but those of rows 22 to 24
counted_structures_keep : (n : ℕ) → Keeps (repeat structure 0 n) own.structures_of
counted_structures_keep n = turns_keep structure own.structures_of structure_keeps n

-- sets no elements but those of rows 22 to 24
pub structures_keeps : Keeps (λ y. structures (own.without_structures y)) own.structures_of
unfolding structures
structures_keeps = record {
  same = λ y. refl;
  last = λ x y z. refl;
  kept = λ y w. (counted_structures_keep y.num_hrd_parameters).kept (own.without_structures y) w;
}

-- sets no elements but those of rows 18 to 24
pub timing_keeps : Keeps own.timing_rows own.timing_of
unfolding timing
timing_keeps = record {
  same = λ y. refl;
  last = λ x y z. refl;
  kept = λ y w. then_filled (filled (bits_fillable _ refl _ _ _)
      (λ v1 b1. then_filled (filled (bits_fillable _ refl _ _ _)
      (λ v2 b2. then_filled
      (filled (flag_fillable _ refl)
      (λ v3 b3. then_filled (filled (when_fillable _ _ (ue_fillable _ refl _ _))
      (λ v4 b4. then_filled
      (filled (ue_fillable _ refl _ _)
      (λ v5 b5. part_kept own.structures_rows own.structures_of structures_keeps
      (record (own.without_structures y) {
        num_units_in_tick = v1;
        time_scale = v2;
        poc_proportional_to_timing_flag = v3;
        num_ticks_poc_diff_one_minus1 = v4;
        num_hrd_parameters = v5;
      }) (λ z6 b6. refl)))))))))));
}

-- sets no elements but those of rows 17 to 24
pub timing_info_keeps : Keeps own.timing_info_rows own.timing_info_of
unfolding timing_info
timing_info_keeps = record {
  same = λ y. refl;
  last = λ x y z. refl;
  kept = λ y w. then_filled
      (filled (flag_fillable _ refl)
      (λ v1 b1. when_kept own.timing_rows own.timing_of timing_keeps
      (record (own.without_structures y) { timing_info_present_flag = v1 }) _ (λ z2 b2. refl)));
}

-- sets no elements but those of row 25
pub extension_keeps : Keeps extension own.extension_of
unfolding extension
extension_keeps = record {
  same = λ y. refl;
  last = λ x y z. refl;
  kept = λ y w. then_filled (filled (flag_fillable _ refl) (λ v1 b1. done_filled refl));
}

-- ---- structures

-- so many structures, each with a layer set and a flag
record AreMany (n : ℕ) (z : PlainVps) : Type 0 where
  layer_sets : length z.hrd_layer_set_idx ≡ n
  flags : length z.cprms_present_flag ≡ own.num_flags n
  structures : length z.hrd_parameters ≡ n

-- each turn adds a structure
many_structures : (i more : ℕ) (y : PlainVps) (w : List Bool) → AreMany i y
    → EachFilling (repeat structure i more y) w (λ z _. AreMany (i + more) z)
unfolding repeat structure
many_structures i zero y w are = let here : i ≡ i + 0 =
    omega arith in done_filled (subst (λ (k : ℕ). AreMany k y) here are)
many_structures i (suc more) y w are =
    let next : i + 1 + more ≡ i + suc more = omega arith in
    then_filled (then_filled (filled (ue_fillable _ refl _ _) (λ v1 b1.
    then_filled (filled (when_fillable _ _ (flag_fillable _ refl)) (λ v2 b2.
    then_filled (filled (hrd_fillable _ _ _) (λ v3 b3.
    done_filled (subst
    (λ (k : ℕ). EachFilling
    (repeat structure (i + 1) more (record y {
      hrd_layer_set_idx = y.hrd_layer_set_idx ++ v1 ∷ [];
      cprms_present_flag = if i == 0 then y.cprms_present_flag else y.cprms_present_flag ++ v2 ∷ [];
      hrd_parameters = y.hrd_parameters ++ v3 ∷ [];
    })) b3 (λ z _. AreMany k z)) next
    (many_structures (i + 1) more _ b3 (record {
      layer_sets = length-append y.hrd_layer_set_idx (v1 ∷ []) ∙ ap (λ (k : ℕ). k + 1) are.layer_sets;
      flags = flags_more v2;
      structures = length-append y.hrd_parameters (v3 ∷ []) ∙ ap (λ (k : ℕ). k + 1) are.structures;
    }))))))))))
  where
    some : own.num_flags (i + 1) ≡ i + 1
    some = let no : eqb (i + 1) 0 ≡ false = grind arith in rw no refl

    flags_more : (v2 : Bool)
        → length (if i == 0 then y.cprms_present_flag else y.cprms_present_flag ++ v2 ∷ []) ≡ own.num_flags (i + 1)
    flags_more v2 = by_test (i == 0) refl are.flags
      where
        by_test : (t : Bool) → (i == 0) ≡ t → length y.cprms_present_flag ≡ (if t then 1 else i)
            → length (if t then y.cprms_present_flag else y.cprms_present_flag ++ v2 ∷ []) ≡ own.num_flags (i + 1)
        by_test true is e = let none : i ≡ 0 = grind (arith, nat_tests, is) in e ∙ omega (arith, none, some)
        by_test false is e = length-append y.cprms_present_flag (v2 ∷ []) ∙ omega (arith, e, some)

module _ (x : PlainVps) where
  -- the whole of it is written once all its turns are
  pub structures_written : (n : ℕ) {old new : List Bool}
      → WritesTurns structure (own.SameStructures x) n old new → n ≡ length x.hrd_parameters
      → Writes own.structures_rows own.structures_with_inputs_of x old new
  unfolding structures
  structures_written n {old = old} {new = new} turns e = record {
    written = λ y w. by_decision y w (numbers y.num_hrd_parameters n);
  }
    where
      start : PlainVps → PlainVps
      start y = own.without_structures y

      many : (y : PlainVps) (w : List Bool)
          → EachFilling (repeat structure 0 y.num_hrd_parameters (own.without_structures y)) w
          (λ z _. AreMany y.num_hrd_parameters z)
      many y w = let here : 0 + y.num_hrd_parameters ≡ y.num_hrd_parameters = omega arith in
          subst (λ (k : ℕ). EachFilling (repeat structure 0 y.num_hrd_parameters (own.without_structures y))
          w (λ z _. AreMany k z)) here
          (many_structures 0 y.num_hrd_parameters (own.without_structures y) w (record {
            layer_sets = refl;
            flags = refl;
            structures = refl;
          }))

      by_decision : (y : PlainVps) (w : List Bool) → IsDecided y.num_hrd_parameters n
          → EachFilling (own.structures_rows y) w (λ z all. own.structures_with_inputs_of z x ≡ x → w ≡ old → all ≡ new)
      by_decision y w (inl same) =
          weakened (beside (many y w)
          (subst (λ (k : ℕ). EachFilling (repeat structure 0 k (own.without_structures y)) w
          (λ z all. own.SameStructures x n z → w ≡ old → all ≡ new)) (sym same)
          (turns.written (own.without_structures y) w))) (λ z all h is at.
          let m = h.0 in
          let layer_sets = by is (λ r. r.hrd_layer_set_idx) in
          let flags = by is (λ r. r.cprms_present_flag) in
          let structures = by is (λ r. r.hrd_parameters) in
          h.1 (record {
            sub_layers = by is (λ r. r.max_sub_layers_minus1);
            layer_sets =
                layer_sets ∙ sym
                (take_all n x.hrd_layer_set_idx (omega (arith, same, m.layer_sets, ap length layer_sets)));
            num_layer_sets = m.layer_sets ∙ same;
            flags = flags
                ∙ sym (take_all (own.num_flags n) x.cprms_present_flag
                (omega (arith, ap own.num_flags same, m.flags, ap length flags)));
            num_flags = m.flags ∙ ap own.num_flags same;
            structures = structures ∙ sym (take_all n x.hrd_parameters (omega (arith, e)));
          }) at)
      by_decision y w (inr differ) =
          weakened (many y w)
          (λ z all m is at. absurd (differ (sym m.structures ∙ ap length (by is (λ r. r.hrd_parameters)) ∙ sym e)))

  -- one structure fewer
  pub one_structure_less : (i : ℕ) (y : PlainVps) (v1 : ℕ) (v2 : Bool) (v3 : PlainHrdParams)
      → i < length x.hrd_parameters
      → own.SameStructures x (i + 1) (record y {
        hrd_layer_set_idx = y.hrd_layer_set_idx ++ v1 ∷ [];
        cprms_present_flag = if i == 0 then y.cprms_present_flag else y.cprms_present_flag ++ v2 ∷ [];
        hrd_parameters = y.hrd_parameters ++ v3 ∷ [];
      })
      → own.SameStructures x i y × (v1 ≡ get_or x.hrd_layer_set_idx i 0)
      × ((i == 0) ≡ false → v2 ≡ get_or x.cprms_present_flag i false)
      × (v3 ≡ get_or x.hrd_parameters i default_hrd_params)
  one_structure_less i y v1 v2 v3 lt a =
      let within : i < length x.hrd_layer_set_idx =
      omega (arith, ap length a.layer_sets, length-take (i + 1) x.hrd_layer_set_idx, a.num_layer_sets) in
      let layer = last_item i y.hrd_layer_set_idx x.hrd_layer_set_idx v1 0 within a.layer_sets in
      let structure = last_item i y.hrd_parameters x.hrd_parameters v3 default_hrd_params lt a.structures in
      let flags = by_test (i == 0) refl a.flags a.num_flags in (
        record {
          sub_layers = a.sub_layers;
          layer_sets = layer.0;
          num_layer_sets = omega (arith, a.num_layer_sets, length-append y.hrd_layer_set_idx (v1 ∷ []));
          flags = flags.0;
          num_flags = flags.1;
          structures = structure.0;
        },
        layer.1,
        flags.2,
        structure.1,
      )
    where
      some : own.num_flags (i + 1) ≡ i + 1
      some = let no : eqb (i + 1) 0 ≡ false = grind arith in rw no refl

      by_test : (t : Bool) → (i == 0) ≡ t
          → (if t then y.cprms_present_flag else y.cprms_present_flag ++ v2 ∷ []) ≡ take
          (own.num_flags (i + 1)) x.cprms_present_flag
          → length (if t then y.cprms_present_flag else y.cprms_present_flag ++ v2 ∷ []) ≡ own.num_flags (i + 1)
          → (y.cprms_present_flag ≡ take (if t then 1 else i) x.cprms_present_flag)
          × (length y.cprms_present_flag ≡ (if t then 1 else i))
          × (t ≡ false → v2 ≡ get_or x.cprms_present_flag i false)
      by_test true is e long =
          let none : i ≡ 0 = grind (arith, nat_tests, is) in
          let one : own.num_flags (i + 1) ≡ 1 = omega (arith, some, none) in
          (e ∙ ap (λ (k : ℕ). take k x.cprms_present_flag) one, long ∙ one, λ no. absurd (true≢false no))
      by_test false is e long =
          let all : y.cprms_present_flag ++ v2 ∷ [] ≡ take (i + 1) x.cprms_present_flag =
          e ∙ ap (λ (k : ℕ). take k x.cprms_present_flag) some in
          let within : i < length x.cprms_present_flag =
          omega (arith, ap length all, length-take (i + 1) x.cprms_present_flag, long, some) in
          let flag = last_item i y.cprms_present_flag x.cprms_present_flag v2 false within all in
          (flag.0, omega (arith, long, some, length-append y.cprms_present_flag (v2 ∷ [])), λ _. flag.1)

-- where a flag is absent
pub absent_told : {A : Type 0} {t : Table A} (c : Bool) (absent : A) (w : List Bool) → IsFillable t
    → EachFilling (when c absent t) w (λ v _. c ≡ false → v ≡ absent)
absent_told c absent w h = when_filled (λ is. filled h (λ v all e. absurd (true≢false (sym is ∙ e)))) (λ is e. refl)

-- the flag that is written is that of the structure
pub common_same : (first v common flag : Bool) → (not first ≡ false → v ≡ true) → (first ≡ false → v ≡ flag)
    → common ≡ (if first then true else flag) → v ≡ common
common_same true v common flag set told is = set refl ∙ sym is
common_same false v common flag set told is = told refl ∙ sym is
