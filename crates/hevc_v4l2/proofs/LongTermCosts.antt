-- How many bits rows 14 to 20 of table 14 take.
use Rattle.std.proofs.Common.{◌≡◌, ℕ, zero, suc, ◌+◌, ◌-◌, ◌^◌, ◌≤◌, ◌<◌, ◌==◌, ◌||◌, min, not}
use Rattle.std.proofs.Common.{Bool, true, false, List, length, map, sum, get_or, refl, sym, ap, ◌∙◌}
use Rattle.std.proofs.Common.{arith}
use Rattle.std.specs.Prelude.{nat_lt, slice_set, if◌then◌else◌}
use Rattle.std.specs.List.{range_with_len}
use Rattle.std.proofs.lemmas.List.{get_or-set_other, get_or-set_same, length-set}
use Rattle.std.proofs.lemmas.List.Sums.{sum_by-cons}
use Rattle.std.proofs.Math.Pow.{pow_mono}
use Rattle.hevc_spec.specs.Rows.{row, bits_row, ue_row, when, either, repeat}
use Rattle.hevc_spec.specs.Table.{gives, read}
use Rattle.hevc_spec.specs.UnitTypes.{is_idr}
use Rattle.hevc_records.specs.Sps.{PlainSps}
use Rattle.hevc_records.specs.SliceHeader.{PlainSliceSegmentHeader}
use Rattle.hevc_slice_parts.proofs.Logarithms.{no_powers}
use Rattle.hevc_tables.specs.MathFunctions.{ceil_log2}
use Rattle.hevc_tables.specs.SliceHeaderTable.{candidate_long_term_picture, cycles_before}
use Rattle.hevc_tables.specs.SliceHeaderTable.{long_term, long_term_counts, long_term_picture}
use Rattle.hevc_tables.specs.SliceHeaderTable.{long_term_pictures, lsb_bits, msb_cycles}
use Rattle.hevc_tables.specs.SliceHeaderTable.{other_long_term_picture}
use Rattle.hevc_v4l2.specs.LongTerm.{candidate_count_bits, cycle_bits, long_term_bits}
use Rattle.hevc_v4l2.specs.LongTerm.{long_term_size, picture_bits, ue_bits}
use Rattle.hevc_v4l2.specs.Places.{HasPlaces}
use Rattle.hevc_v4l2.proofs.Costs.{Costs, costs_bits, costs_done, costs_flag, costs_part, costs_so, costs_ue}

abbrev Header : Type 0
Header = PlainSliceSegmentHeader

-- what is set at one place is there, and what is at another stays
lower_stays : {X : Type 0} (xs : List X) (i j : ℕ) (a d : X) → j < i → get_or (slice_set xs i a) j d ≡ get_or xs j d
lower_stays xs i j a d lt = get_or-set_other xs i j a d (λ e. grind (arith, e, lt))

-- a header with the same counts
record SameCounts (s h : Header) : Type 0 where
  pub candidates : h.num_long_term_sps ≡ s.num_long_term_sps
  pub others : h.num_long_term_pics ≡ s.num_long_term_pics

-- and with the same cycles
record SameCycles (s h : Header) : Type 0 where
  pub counts : SameCounts s h
  pub flags : h.delta_poc_msb_present_flag ≡ s.delta_poc_msb_present_flag
  pub cycles : h.delta_poc_msb_cycle_lt ≡ s.delta_poc_msb_cycle_lt

-- ---- rows 14 and 15

candidates_cost : (n : ℕ) (none : Bool)
    → Costs (λ v m. (v ≤ 16) × (m ≡ (if none then 0 else ue_bits v)))
    (when (not none) 0 (ue_row (row 14 14) 0 (min 16 n)))
unfolding when
candidates_cost n true = costs_done (omega arith, refl)
candidates_cost n false =
    costs_so _ (λ v m p. (omega (arith, p.0), p.1)) (costs_ue (row 14 14) 0 (min 16 n) (omega arith))

record Counted (sps : PlainSps) (s h : Header) (n : ℕ) : Type 0 where
  pub few : h.num_long_term_sps + h.num_long_term_pics ≤ 16
  pub flags : h.delta_poc_msb_present_flag ≡ s.delta_poc_msb_present_flag
  pub cycles : h.delta_poc_msb_cycle_lt ≡ s.delta_poc_msb_cycle_lt
  pub count : n ≡ candidate_count_bits sps h + ue_bits h.num_long_term_pics

counts_cost : (sps : PlainSps) (s : Header) → Costs (Counted sps s) (long_term_counts sps s)
unfolding long_term_counts
counts_cost sps s =
    costs_part (candidates_cost sps.num_long_term_ref_pics_sps (sps.num_long_term_ref_pics_sps == 0)) (λ v n p.
    costs_part (costs_ue (row 14 15) 0 (16 - v) (omega arith)) (λ w m q.
    costs_done (record {
      few = omega (arith, p.0, q.0);
      flags = refl;
      cycles = refl;
      count = omega (arith, p.1, q.1);
    })))

-- ---- rows 16 to 18

index_cost : (n : ℕ) (some : Bool) → nat_lt 1 n ≡ some
    → Costs (λ (v : ℕ) m. m ≡ ceil_log2 n) (when some 0 (bits_row (row 14 16) (ceil_log2 n) 0 (n - 1)))
unfolding when
index_cost n true is = costs_bits (row 14 16) (ceil_log2 n) 0 (n - 1)
index_cost n false is = costs_done (sym (no_powers n (grind (arith, is))))

-- the bits that name picture i
abbrev named_bits : PlainSps → Bool → ℕ
named_bits sps candidate = if candidate then ceil_log2 sps.num_long_term_ref_pics_sps else lsb_bits sps + 1

named_cost : (sps : PlainSps) (i : ℕ) (s : Header) (candidate : Bool)
    → Costs (λ h n. SameCycles s h × (n ≡ named_bits sps candidate))
    (either candidate (candidate_long_term_picture sps i s) (other_long_term_picture sps i s))
unfolding either candidate_long_term_picture other_long_term_picture
named_cost sps i s true =
    costs_part (index_cost sps.num_long_term_ref_pics_sps (nat_lt 1 sps.num_long_term_ref_pics_sps) refl) (λ v n p.
    costs_done (
      record {
        counts = record { candidates = refl; others = refl };
        flags = refl;
        cycles = refl;
      },
      omega (arith, p),
    ))
named_cost sps i s false =
    costs_part (costs_bits (row 14 17) (lsb_bits sps) 0 (2 ^ lsb_bits sps - 1)) (λ v n p.
    costs_part (costs_flag (row 14 18)) (λ b m q.
    costs_done (
      record {
        counts = record { candidates = refl; others = refl };
        flags = refl;
        cycles = refl;
      },
      omega (arith, p, q),
    )))

-- ---- rows 19 and 20

-- a header with other cycles of picture i alone
record Cycled (i : ℕ) (s h : Header) : Type 0 where
  pub counts : SameCounts s h
  pub flag : Bool
  pub number : ℕ
  pub flags : h.delta_poc_msb_present_flag ≡ slice_set s.delta_poc_msb_present_flag i flag
  pub cycles : h.delta_poc_msb_cycle_lt ≡ slice_set s.delta_poc_msb_cycle_lt i number

number_cost : (present : Bool) (most : ℕ) → most ≤ 2147483647
    → Costs (λ v n. n ≡ (if present then ue_bits v else 0)) (when present 0 (ue_row (row 14 20) 0 most))
unfolding when
number_cost true most few = costs_so _ (λ v n p. p.1) (costs_ue (row 14 20) 0 most few)
number_cost false most few = costs_done refl

few_cycles : (sps : PlainSps) → 2 ^ (32 - lsb_bits sps) ≤ 2147483647
few_cycles sps =
    let up : 2 ^ (32 - lsb_bits sps) ≤ 2 ^ 28 = pow_mono {i = 32 - lsb_bits sps} {j = 28} (omega arith) in
    omega (arith, up)

-- the cycles of the picture before are untouched
before_stays : (i v : ℕ) (h : Header) (s : Header) → SameCounts s h
    → h.delta_poc_msb_cycle_lt ≡ slice_set s.delta_poc_msb_cycle_lt i v
    → i < length s.delta_poc_msb_cycle_lt → cycles_before i h ≡ cycles_before i s
before_stays i v h s counts is lt = by_first (i == 0) refl
  where
    other : (i == 0) ≡ false → get_or h.delta_poc_msb_cycle_lt (i - 1) 0 ≡ get_or s.delta_poc_msb_cycle_lt (i - 1) 0
    other more = rw is (lower_stays s.delta_poc_msb_cycle_lt i (i - 1) v 0 (grind (arith, more)))

    by_first : (b : Bool) → (i == 0) ≡ b
        → (if b || (i == h.num_long_term_sps) then 0 else get_or h.delta_poc_msb_cycle_lt (i - 1) 0)
        ≡ (if b || (i == s.num_long_term_sps) then 0 else get_or s.delta_poc_msb_cycle_lt (i - 1) 0)
    by_first true e = refl
    by_first false e = rw (counts.candidates, other e) refl

-- the bits of both rows, by what they give
cycle_bits_by : (h : Header) (i v : ℕ) (present : Bool)
    → get_or h.delta_poc_msb_present_flag i false ≡ present
    → get_or h.delta_poc_msb_cycle_lt i 0 - cycles_before i h ≡ v
    → cycle_bits h i ≡ 1 + (if present then ue_bits v else 0)
cycle_bits_by h i v true flag difference = rw (flag, difference) refl
cycle_bits_by h i v false flag difference = rw flag refl

cycles_cost : (sps : PlainSps) (i : ℕ) (s : Header) → HasPlaces s → i < 16
    → Costs (λ h n. Cycled i s h × (n ≡ cycle_bits h i)) (msb_cycles sps i s)
unfolding msb_cycles
cycles_cost sps i s places lt =
    costs_part (costs_flag (row 14 19)) (λ present n p.
    costs_part (number_cost present (2 ^ (32 - lsb_bits sps)) (few_cycles sps)) (λ v m q.
    costs_done (made present v, omega (arith, p, q, bits present v))))
  where
    after : Bool → ℕ → Header
    after present v =
        record s {
          delta_poc_msb_present_flag = slice_set s.delta_poc_msb_present_flag i present;
          delta_poc_msb_cycle_lt = slice_set s.delta_poc_msb_cycle_lt i (v + cycles_before i s);
        }

    made : (present : Bool) (v : ℕ)
        → Cycled i s
        (record s {
          delta_poc_msb_present_flag = slice_set s.delta_poc_msb_present_flag i present;
          delta_poc_msb_cycle_lt = slice_set s.delta_poc_msb_cycle_lt i (v + cycles_before i s);
        })
    made present v = record {
      counts = record { candidates = refl; others = refl };
      flag = present;
      number = v + cycles_before i s;
      flags = refl;
      cycles = refl;
    }

    bits : (present : Bool) (v : ℕ)
        → cycle_bits
        (record s {
          delta_poc_msb_present_flag = slice_set s.delta_poc_msb_present_flag i present;
          delta_poc_msb_cycle_lt = slice_set s.delta_poc_msb_cycle_lt i (v + cycles_before i s);
        }) i ≡ 1 + (if present then ue_bits v else 0)
    bits present v =
        let h : Header =
        record s {
          delta_poc_msb_present_flag = slice_set s.delta_poc_msb_present_flag i present;
          delta_poc_msb_cycle_lt = slice_set s.delta_poc_msb_cycle_lt i (v + cycles_before i s);
        } in
        let flag : get_or h.delta_poc_msb_present_flag i false ≡ present =
        get_or-set_same s.delta_poc_msb_present_flag i present false (omega (arith, places.flags, lt)) in
        let number : get_or h.delta_poc_msb_cycle_lt i 0 ≡ v + cycles_before i s =
        get_or-set_same s.delta_poc_msb_cycle_lt i (v + cycles_before i s) 0 (omega (arith, places.cycles, lt)) in
        let same : cycles_before i h ≡ cycles_before i s =
        before_stays i (v + cycles_before i s) h s (record { candidates = refl; others = refl }) refl
        (omega (arith, places.cycles, lt)) in
        let difference : get_or h.delta_poc_msb_cycle_lt i 0 - cycles_before i h ≡ v =
        rw (number, same) (omega arith) in
        cycle_bits_by h i v present flag difference

-- ---- rows 16 to 20

bits_agree : (sps : PlainSps) (i : ℕ) (s h : Header) → SameCounts s h
    → get_or h.delta_poc_msb_present_flag i false ≡ get_or s.delta_poc_msb_present_flag i false
    → get_or h.delta_poc_msb_cycle_lt i 0 ≡ get_or s.delta_poc_msb_cycle_lt i 0
    → get_or h.delta_poc_msb_cycle_lt (i - 1) 0 ≡ get_or s.delta_poc_msb_cycle_lt (i - 1) 0
    → picture_bits sps h i ≡ picture_bits sps s i
bits_agree sps i s h counts flag number before = rw (counts.candidates, flag, number, before) refl

record Pictured (sps : PlainSps) (i : ℕ) (s h : Header) (n : ℕ) : Type 0 where
  pub cycled : Cycled i s h
  pub count : n ≡ picture_bits sps h i

picture_cost : (sps : PlainSps) (i : ℕ) (s : Header) → HasPlaces s → i < 16
    → Costs (Pictured sps i s) (long_term_picture sps i s)
unfolding long_term_picture
picture_cost sps i s places lt =
    costs_part (named_cost sps i s (nat_lt i s.num_long_term_sps)) (λ x n p.
    let same = p.0 in
    let its : HasPlaces x = record {
      flags = ap length same.flags ∙ places.flags;
      cycles = ap length same.cycles ∙ places.cycles;
    } in
    costs_so _ (λ h m q. record {
      cycled = record {
        counts = record {
          candidates = q.0.counts.candidates ∙ same.counts.candidates;
          others = q.0.counts.others ∙ same.counts.others;
        };
        flag = q.0.flag;
        number = q.0.number;
        flags = q.0.flags ∙ ap (λ xs. slice_set xs i q.0.flag) same.flags;
        cycles = q.0.cycles ∙ ap (λ xs. slice_set xs i q.0.number) same.cycles;
      };
      count = rw (p.1, q.1, q.0.counts.candidates, same.counts.candidates) refl;
    }) (cycles_cost sps i x its lt))

-- what is told of the pictures before one
record Agrees (i : ℕ) (s h : Header) : Type 0 where
  pub counts : SameCounts s h
  pub flags : (j : ℕ) → j < i
      → get_or h.delta_poc_msb_present_flag j false ≡ get_or s.delta_poc_msb_present_flag j false
  pub cycles : (j : ℕ) → j < i → get_or h.delta_poc_msb_cycle_lt j 0 ≡ get_or s.delta_poc_msb_cycle_lt j 0

record Summed (sps : PlainSps) (i k : ℕ) (s h : Header) (n : ℕ) : Type 0 where
  pub agrees : Agrees i s h
  pub count : n ≡ sum (map (picture_bits sps h) (range_with_len i k))

more_summed : (sps : PlainSps) (i k : ℕ) (s x h : Header) (n m : ℕ) → Pictured sps i s x n
    → Summed sps (i + 1) k x h m → Summed sps i (suc k) s h (n + m)
more_summed sps i k s x h n m p q = record {
  agrees = record {
    counts = record {
      candidates = q.agrees.counts.candidates ∙ p.cycled.counts.candidates;
      others = q.agrees.counts.others ∙ p.cycled.counts.others;
    };
    flags = λ j lt. q.agrees.flags j (omega (arith, lt))
        ∙ rw p.cycled.flags (lower_stays s.delta_poc_msb_present_flag i j p.cycled.flag false lt);
    cycles = λ j lt. q.agrees.cycles j (omega (arith, lt))
        ∙ rw p.cycled.cycles (lower_stays s.delta_poc_msb_cycle_lt i j p.cycled.number 0 lt);
  };
  count =
      let same : picture_bits sps h i ≡ picture_bits sps x i =
      bits_agree sps i x h q.agrees.counts (q.agrees.flags i (omega arith))
      (q.agrees.cycles i (omega arith)) (q.agrees.cycles (i - 1) (omega arith)) in
      let one : n ≡ picture_bits sps h i = p.count ∙ sym same in
      let parts : sum (map (picture_bits sps h) (range_with_len i (suc k))) ≡ picture_bits sps h i + sum
      (map (picture_bits sps h) (range_with_len (i + 1) k)) =
      sum_by-cons (λ (x : ℕ). x) (picture_bits sps h i) (map (picture_bits sps h) (range_with_len (i + 1) k)) in
      ap (λ (a : ℕ). a + m) one ∙ (ap (λ (b : ℕ). picture_bits sps h i + b) q.count ∙ sym parts);
}

pictures_cost : (sps : PlainSps) (k i : ℕ) (s : Header) → HasPlaces s → i + k ≤ 16
    → Costs (Summed sps i k s) (repeat (long_term_picture sps) i k s)
unfolding repeat
pictures_cost sps zero i s places few = costs_done (record {
  agrees = record { counts = record { candidates = refl; others = refl }; flags = λ j lt. refl; cycles = λ j lt. refl };
  count = refl;
})
pictures_cost sps (suc k) i s places few =
    costs_part (picture_cost sps i s places (omega (arith, few))) (λ x n p.
    let its : HasPlaces x = record {
      flags = rw p.cycled.flags (length-set s.delta_poc_msb_present_flag i p.cycled.flag ∙ places.flags);
      cycles = rw p.cycled.cycles (length-set s.delta_poc_msb_cycle_lt i p.cycled.number ∙ places.cycles);
    } in
    costs_so _ (λ h m q. more_summed sps i k s x h n m p q) (pictures_cost sps k (i + 1) x its (omega (arith, few))))

-- ---- rows 14 to 20

add_parts : (n m a b a' b' s : ℕ) → n ≡ a + b → a' ≡ a → b' ≡ b → s ≡ m → n + m ≡ a' + b' + s
add_parts n m a b a' b' s of_n same_a same_b of_m = omega (arith, of_n, same_a, same_b, of_m)

all_bits : (sps : PlainSps) (x h : Header) (n m : ℕ) → SameCounts x h
    → n ≡ candidate_count_bits sps x + ue_bits x.num_long_term_pics
    → m ≡ sum (map (picture_bits sps h) (range_with_len 0 (x.num_long_term_sps + x.num_long_term_pics)))
    → n + m ≡ long_term_bits sps h
all_bits sps x h n m same of_counts of_pictures =
    let counts : h.num_long_term_sps + h.num_long_term_pics ≡ x.num_long_term_sps + x.num_long_term_pics =
    omega (arith, same.candidates, same.others) in
    add_parts n m (candidate_count_bits sps x) (ue_bits x.num_long_term_pics) (candidate_count_bits sps h)
    (ue_bits h.num_long_term_pics)
    (sum (map (picture_bits sps h) (range_with_len 0 (h.num_long_term_sps + h.num_long_term_pics))))
    of_counts
    (ap (λ (k : ℕ). if sps.num_long_term_ref_pics_sps == 0 then 0 else ue_bits k) same.candidates)
    (ap (λ (k : ℕ). ue_bits k) same.others)
    (ap (λ (k : ℕ). sum (map (picture_bits sps h) (range_with_len 0 k))) counts ∙ sym of_pictures)

all_cost : (sps : PlainSps) (s : Header) → HasPlaces s → Costs (λ h n. n ≡ long_term_bits sps h) (long_term sps s)
unfolding long_term long_term_pictures
all_cost sps s places =
    costs_part (counts_cost sps s) (λ x n p.
    let its : HasPlaces x = record {
      flags = ap length p.flags ∙ places.flags;
      cycles = ap length p.cycles ∙ places.cycles;
    } in
    costs_so _ (λ h m q. all_bits sps x h n m q.agrees.counts p.count q.count)
    (pictures_cost sps (x.num_long_term_sps + x.num_long_term_pics) 0 x its (omega (arith, p.few))))

where_present : (sps : PlainSps) (s : Header) → HasPlaces s → (present : Bool)
    → Costs (λ h n. n ≡ (if not present then 0 else long_term_bits sps h)) (when present s (long_term sps s))
unfolding when
where_present sps s places true = all_cost sps s places
where_present sps s places false = costs_done refl

pub long_term_cost : (nal_unit_type : ℕ) (sps : PlainSps) (s h : Header) (bits rest : List Bool)
    → HasPlaces s → is_idr nal_unit_type ≡ false
    → read (when sps.long_term_ref_pics_present_flag s (long_term sps s)) bits ≡ gives h rest
    → length bits ≡ long_term_size nal_unit_type sps h + length rest
long_term_cost nal_unit_type sps s h bits rest places other e =
    let took = (where_present sps s places sps.long_term_ref_pics_present_flag).cost bits h rest e in
    let size : long_term_size nal_unit_type sps h ≡ took.count = rw other (sym took.so) in
    took.all ∙ ap (λ (k : ℕ). k + length rest) (sym size)
