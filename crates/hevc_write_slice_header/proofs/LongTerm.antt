-- Long-term pictures of a slice header (7.3.6.1).
use Rattle.std.proofs.Common.{◌≡◌, ℕ, zero, suc, ◌+◌, ◌-◌, ◌<◌, ◌≤◌, ◌^◌, Bool, true, false, eqb}
use Rattle.std.proofs.Common.{List, [], length, set, get_or, refl, sym, ap, subst, ◌∙◌, arith}
use Rattle.std.specs.Prelude.{◌==◌, ◌||◌, nat_lt, if◌then◌else◌}
use Rattle.std.proofs.lemmas.List.{length-set, get_or-set_other}
use Rattle.std.proofs.lemmas.Bool.{true≢false}
use Rattle.std.proofs.lemmas.Bool.Decides.{nat_tests}
use Rattle.std.proofs.Math.Pow.{pow_mono}
use Rattle.hevc_spec.specs.Bits.{in_range}
use Rattle.hevc_spec.specs.Rows.{row, ue_row, when, either}
use Rattle.hevc_records.specs.SliceHeader.{PlainSliceSegmentHeader}
use Rattle.hevc_records.specs.Sps.{PlainSps}
use Rattle.hevc_tables.specs.SliceHeaderTable.{lsb_bits, candidate_long_term_picture}
use Rattle.hevc_tables.specs.SliceHeaderTable.{other_long_term_picture, cycles_before, msb_cycles}
use Rattle.hevc_tables.specs.SliceHeaderTable.{long_term_picture}
use Rattle.hevc_write_elements.specs.Filling.{EachFilling, SameBelow, WritesEither, WritesTurn}
use Rattle.hevc_write_elements.proofs.Fillings.{weakened, beside}
use Rattle.hevc_write_elements.proofs.RowRules.{ue_written, either_filled}
use Rattle.hevc_write_elements.proofs.Steps.{then_filled, done_filled, filled, flag_fillable}
use Rattle.hevc_write_elements.proofs.Steps.{bits_fillable, ue_fillable, when_fillable, when_filled}
use Rattle.hevc_write_elements.proofs.Steps.{when_written, where_present, ue_table, flag_then}
use Rattle.hevc_write_elements.proofs.Steps.{bits_then, bits_if_then}
use Rattle.hevc_write_elements.proofs.Loops.{one_less, fewer_same}
use Rattle.hevc_write_slice_header.specs.HeaderParts as own

-- slice segment headers
H : Type 0
H = PlainSliceSegmentHeader

-- the same below, where an element was set
less_set : {X : Type 0} (i : ℕ) (xs ys : List X) (v : X) → SameBelow (i + 1) (set xs i v) ys → SameBelow i xs ys
less_set i xs ys v h = record {
  long = sym (length-set xs i v) ∙ h.long;
  same = λ k d lt. sym (get_or-set_other xs i k v d (omega arith)) ∙ h.same k d (omega arith);
}

-- which pictures the first ones are
pub record SamePlaces (x : PlainSliceSegmentHeader) (n : ℕ) (z : PlainSliceSegmentHeader) : Type 0 where
  pub counts : z.num_long_term_sps ≡ x.num_long_term_sps
  pub indices : SameBelow n z.lt_idx_sps x.lt_idx_sps
  pub lsbs : SameBelow n z.poc_lsb_lt x.poc_lsb_lt
  pub used : SameBelow n z.used_by_curr_pic_lt x.used_by_curr_pic_lt

-- what naming a picture leaves
record PlaceTold (x y : PlainSliceSegmentHeader) (i : ℕ) (w old mid : List Bool)
    (h : PlainSliceSegmentHeader) (all : List Bool) : Type 0 where
  less : SamePlaces x (i + 1) h → SamePlaces x i y × (w ≡ old → all ≡ mid)
  presence : h.delta_poc_msb_present_flag ≡ y.delta_poc_msb_present_flag
  cycles : h.delta_poc_msb_cycle_lt ≡ y.delta_poc_msb_cycle_lt

module _ (sps : PlainSps) (x : PlainSliceSegmentHeader) (i : ℕ) where
  -- which picture it is
  place_filled : (y : PlainSliceSegmentHeader) (w : List Bool) {old mid : List Bool}
      → WritesEither (nat_lt i x.num_long_term_sps) (own.WritesCandidate sps i x.lt_idx_sps)
      (own.WritesOther sps i x.poc_lsb_lt x.used_by_curr_pic_lt) old mid
      → EachFilling (either (nat_lt i y.num_long_term_sps) (candidate_long_term_picture sps i y)
      (other_long_term_picture sps i y)) w (PlaceTold x y i w old mid)
  unfolding candidate_long_term_picture other_long_term_picture
  place_filled y w {old = old} {mid = mid} writes = by_which (nat_lt i x.num_long_term_sps) refl writes
    where
      by_which : (t : Bool) → nat_lt i x.num_long_term_sps ≡ t
          → WritesEither t (own.WritesCandidate sps i x.lt_idx_sps)
          (own.WritesOther sps i x.poc_lsb_lt x.used_by_curr_pic_lt) old mid
          → EachFilling (either (nat_lt i y.num_long_term_sps) (candidate_long_term_picture sps i y)
          (other_long_term_picture sps i y)) w (PlaceTold x y i w old mid)
      by_which true e h =
          let first = h.first refl in
          either_filled (λ is. bits_if_then _ refl _ _ _ _ _ first.index (λ v1 b1 h1. done_filled (record {
            less = λ s.
                let index = one_less i y.lt_idx_sps x.lt_idx_sps v1 0 first.there s.indices in (
                  record {
                    counts = s.counts;
                    indices = index.0;
                    lsbs = less_set i _ _ _ s.lsbs;
                    used = less_set i _ _ _ s.used;
                  },
                  λ at. h1 refl index.1 at,
                );
            presence = refl;
            cycles = refl;
          })))
          (λ no. then_filled (filled (bits_fillable _ refl _ _ _)
          (λ v1 b1. then_filled (filled (flag_fillable _ refl) (λ v2 b2. done_filled (record {
            less = λ s. absurd (true≢false (sym e ∙ ap (λ (k : ℕ). nat_lt i k) (sym s.counts) ∙ no));
            presence = refl;
            cycles = refl;
          }))))))
      by_which false e h =
          let second = h.second refl in
          either_filled
          (λ is. then_filled (filled (when_fillable _ _ (bits_fillable _ refl _ _ _)) (λ v1 b1. done_filled (record {
            less = λ s. absurd (true≢false (sym is ∙ ap (λ (k : ℕ). nat_lt i k) s.counts ∙ e));
            presence = refl;
            cycles = refl;
          }))))
          (λ no. bits_then _ refl _ _ _ second.lsb
          (λ v1 _ b1 h1. flag_then _ refl second.flag (λ v2 b2 h2. done_filled (record {
            less = λ s.
                let lsb = one_less i y.poc_lsb_lt x.poc_lsb_lt v1 0 second.there s.lsbs in
                let used = one_less i y.used_by_curr_pic_lt x.used_by_curr_pic_lt v2 false second.flag_there s.used in (
                  record {
                    counts = s.counts;
                    indices = fewer_same i _ _ s.indices;
                    lsbs = lsb.0;
                    used = used.0;
                  },
                  λ at. h2 used.1 (h1 lsb.1 at),
                );
            presence = refl;
            cycles = refl;
          }))))

  -- the cycles before a picture are those of the record
  same_before : (h : PlainSliceSegmentHeader) → h.num_long_term_sps ≡ x.num_long_term_sps
      → SameBelow i h.delta_poc_msb_cycle_lt x.delta_poc_msb_cycle_lt → cycles_before i h ≡ cycles_before i x
  same_before h counts same = by_test (i == 0) refl
    where
      by_test : (t : Bool) → (i == 0) ≡ t
          → (if t || (i == h.num_long_term_sps) then 0 else get_or h.delta_poc_msb_cycle_lt (i - 1) 0)
          ≡ (if t || (i == x.num_long_term_sps) then 0 else get_or x.delta_poc_msb_cycle_lt (i - 1) 0)
      by_test true is = refl
      by_test false is =
          let some : i - 1 < i = grind (arith, nat_tests, is) in
          ap (λ (n : ℕ). if i == n then 0 else get_or h.delta_poc_msb_cycle_lt (i - 1) 0) counts
          ∙ ap (λ (v : ℕ). if i == x.num_long_term_sps then 0 else v) (same.same (i - 1) 0 some)

  -- cycles have 32 bits
  few_cycles : (c : Bool) (w : List Bool)
      → EachFilling (when c 0 (ue_row (row 14 20) 0 (2 ^ (32 - lsb_bits sps)))) w (λ v _. v < 2 ^ 32)
  few_cycles c w =
      when_filled (λ is. ue_written (row 14 20) {old = []} refl 0 (2 ^ (32 - lsb_bits sps)) {value = 0}
      (λ _. refl) (λ v within all h.
      let most : v ≤ 2 ^ (32 - lsb_bits sps) = grind (arith, nat_tests, within) in
      let few : 32 - lsb_bits sps ≤ 28 = omega arith in
      let low : 2 ^ (32 - lsb_bits sps) ≤ 2 ^ 28 = pow_mono few in
      omega (arith, most, low))) (λ is. omega arith)

  -- the cycles of a picture
  cycles_filled : (h : PlainSliceSegmentHeader) (w : List Bool) {mid new : List Bool} → own.WritesCycles x i mid new
      → EachFilling (msb_cycles sps i h) w (λ z all. own.SameLongTerm x (i + 1) z
      → SamePlaces x (i + 1) h × SameBelow i h.delta_poc_msb_present_flag x.delta_poc_msb_present_flag
      × SameBelow i h.delta_poc_msb_cycle_lt x.delta_poc_msb_cycle_lt × (w ≡ mid → all ≡ new))
  unfolding msb_cycles
  cycles_filled h w writes = flag_then _ refl writes.flag (λ v1 b1 h1.
      then_filled (weakened
      (beside (few_cycles v1 b1)
      (when_written (ue_row (row 14 20) 0 (2 ^ (32 - lsb_bits sps))) v1 0
      (ue_fillable (row 14 20) refl 0 (2 ^ (32 - lsb_bits sps)))
      (where_present (ue_table (row 14 20) refl 0 (2 ^ (32 - lsb_bits sps))) writes.added) (λ v b g. g))) (λ v2 b2 h2.
      done_filled (λ a.
      let presence =
      one_less i h.delta_poc_msb_present_flag x.delta_poc_msb_present_flag v1 false writes.there a.presence in
      let cycles =
      one_less i h.delta_poc_msb_cycle_lt x.delta_poc_msb_cycle_lt
      (v2 + cycles_before i h) 0 writes.cycles_there a.cycles in
      let same = ap (λ (n : ℕ). v2 + n) (sym (same_before h a.counts cycles.0)) ∙ cycles.1 in (
        record { counts = a.counts; indices = a.indices; lsbs = a.lsbs; used = a.used },
        presence.0,
        cycles.0,
        λ at. h2.1 presence.1 (writes.is_own v2 h2.0 same) (h1 presence.1 at),
      )))))

  -- one picture is written
  pub picture_written : {old mid new : List Bool}
      → WritesEither (nat_lt i x.num_long_term_sps) (own.WritesCandidate sps i x.lt_idx_sps)
      (own.WritesOther sps i x.poc_lsb_lt x.used_by_curr_pic_lt) old mid → own.WritesCycles x i mid new
      → WritesTurn (long_term_picture sps) (own.SameLongTerm x) i old new
  unfolding long_term_picture
  picture_written places cycles = record {
    written = λ y w. then_filled (weakened (place_filled y w places)
        (λ h b p. weakened (cycles_filled h b cycles) (λ z all q a.
        let r = q a in
        let s = p.less r.0 in (
          record {
            counts = s.0.counts;
            indices = s.0.indices;
            lsbs = s.0.lsbs;
            used = s.0.used;
            presence = subst (λ (l : List Bool). SameBelow i l x.delta_poc_msb_present_flag) p.presence r.1;
            cycles = subst (λ (l : List ℕ). SameBelow i l x.delta_poc_msb_cycle_lt) p.cycles r.2;
          },
          λ at. r.3 (s.1 at),
        ))));
  }
