-- The units after the first one are those from its end on.
use Rattle.std.proofs.Common.{◌≡◌, ℕ, zero, suc, ◌+◌, ◌-◌, ◌≤◌, Bool, true, false, List, [], ◌∷◌}
use Rattle.std.proofs.Common.{length, drop, refl, ap, sym, subst, ◌∙◌, arith}
use Rattle.std.proofs.Math.ListN.{length-take}
use Rattle.std.specs.Prelude.{◌&&◌, ◌==◌, nat_le, Result, Ok, Err}
use Rattle.std.proofs.lemmas.Bool.{eqb-true, and_parts}
use Rattle.hevc_spec.specs.UnitHeader.{UnitHeader, HeaderFault, nal_unit_type, unit_header}
use Rattle.hevc_spec.specs.UnitTypes.{is_end}
use Rattle.hevc_spec.specs.Units.{NalUnit, begins_with_start_code, before_start_code, is_empty}
use Rattle.hevc_spec.specs.Units.{without_trailing_zeros, units_at, units_from, kept_bytes}
use Rattle.hevc_spec.proofs.UnitLaws.{drop-drop}
use Rattle.hevc_pull.specs.declared.units.UnitCall.{UnitCall}
use Rattle.hevc_pull.specs.Extents.{extent_of, first_extent}
use Rattle.hevc_pull.specs.Units.{GoesOnAt, lying, told_first, told_header}

-- ---- bytes in which no start code begins

passed_by : (place n byte : ℕ) (bytes : List ℕ)
    → (n ≤ length (before_start_code bytes)
    → units_at kept_bytes (place + 1) bytes ≡ units_at kept_bytes (place + 1 + n) (drop n bytes))
    → suc n ≤ length (before_start_code (byte ∷ bytes)) → (t : Bool)
    → begins_with_start_code (byte ∷ bytes) ≡ t
    → units_at kept_bytes place (byte ∷ bytes) ≡ units_at kept_bytes (place + suc n) (drop n bytes)
passed_by place n byte bytes more le true e = let short : suc n ≤ 0 = rw e at le in absurd (omega arith)
passed_by place n byte bytes more le false e =
    let few : suc n ≤ suc (length (before_start_code bytes)) = rw e at le in
    rw e (more (omega arith) ∙ ap (λ (k : ℕ). units_at kept_bytes k (drop n bytes)) (omega arith))

passed : (place n : ℕ) (bytes : List ℕ) → n ≤ length (before_start_code bytes)
    → units_at kept_bytes place bytes ≡ units_at kept_bytes (place + n) (drop n bytes)
passed place zero bytes le = ap (λ (k : ℕ). units_at kept_bytes k bytes) (omega arith)
passed place (suc n) [] le = absurd (omega arith)
passed place (suc n) (byte ∷ bytes) le =
    passed_by place n byte bytes (passed (place + 1) n bytes) le (begins_with_start_code (byte ∷ bytes)) refl

-- ---- a unit is no longer than the bytes before the next start code

trimmed_by : (byte : ℕ) (bytes : List ℕ) → length (without_trailing_zeros bytes) ≤ length bytes
    → (t : Bool) → (byte == 0 && is_empty (without_trailing_zeros bytes)) ≡ t
    → length (without_trailing_zeros (byte ∷ bytes)) ≤ suc (length bytes)
trimmed_by byte bytes more true e = rw e (omega arith)
trimmed_by byte bytes more false e = rw e (omega arith)

trimmed_short : (bytes : List ℕ) → length (without_trailing_zeros bytes) ≤ length bytes
trimmed_short [] = omega arith
trimmed_short (byte ∷ bytes) =
    trimmed_by byte bytes (trimmed_short bytes) (byte == 0 && is_empty (without_trailing_zeros bytes)) refl

kept_short : (bytes : List ℕ) → length (kept_bytes bytes) ≤ length bytes
kept_short bytes = by_test (nat_le 2 (length bytes) && is_end (nal_unit_type bytes)) refl
  where
    by_test : (t : Bool) → (nat_le 2 (length bytes) && is_end (nal_unit_type bytes)) ≡ t
        → length (kept_bytes bytes) ≤ length bytes
    by_test true e = rw e (grind (arith, length-take))
    by_test false e = rw e (omega arith)

-- ---- the first unit, and the others

-- after a start code the others are those of the bytes after its unit
started : (place : ℕ) (byte : ℕ) (bytes : List ℕ) → begins_with_start_code (byte ∷ bytes) ≡ true
    → units_at kept_bytes (place + 1) bytes
    ≡ units_at kept_bytes (place + 3 + length (kept_bytes (without_trailing_zeros (before_start_code (drop 2 bytes)))))
    (drop (3 + length (kept_bytes (without_trailing_zeros (before_start_code (drop 2 bytes))))) (byte ∷ bytes))
started place byte [] e = absurd (cc e)
started place byte (b ∷ []) e = absurd (cc e)
started place byte (b ∷ c ∷ rest) e =
    let own = kept_bytes (without_trailing_zeros (before_start_code rest)) in
    let long : 3 + length own ≡ suc (suc (suc (length own))) = omega arith in
    let at : place + 1 + 1 + 1 + length own ≡ place + 3 + length own = omega arith in
    let two = and_parts _ _ e in
    let one : c ≡ 1 = eqb-true c 1 two.1 in
    let short : length own ≤ length (before_start_code rest) =
    le_le (kept_short (without_trailing_zeros (before_start_code rest))) (trimmed_short (before_start_code rest)) in
    let skipped : units_at kept_bytes (place + 1) (b ∷ c ∷ rest) ≡ units_at kept_bytes
    (place + 1 + 1 + 1) rest =
    subst (λ (x : ℕ). units_at kept_bytes (place + 1) (b ∷ x ∷ rest) ≡ units_at kept_bytes
    (place + 1 + 1 + 1) rest) (sym one) (two_passed (place + 1) b rest) in
    rw long (skipped ∙ passed (place + 1 + 1 + 1) (length own) rest short
    ∙ ap (λ (k : ℕ). units_at kept_bytes k (drop (length own) rest)) at)
  where
    le_le : {a b c : ℕ} → a ≤ b → b ≤ c → a ≤ c
    le_le p q = omega arith

    one_begins : (xs : List ℕ) → begins_with_start_code (1 ∷ xs) ≡ false
    one_begins [] = refl
    one_begins (x ∷ []) = refl
    one_begins (x ∷ y ∷ xs) = refl

    before_one : (b : ℕ) (xs : List ℕ) → begins_with_start_code (b ∷ 1 ∷ xs) ≡ false
    before_one b [] = refl
    before_one zero (x ∷ xs) = refl
    before_one (suc b) (x ∷ xs) = grind arith

    two_passed : (place b : ℕ) (xs : List ℕ)
        → units_at kept_bytes place (b ∷ 1 ∷ xs) ≡ units_at kept_bytes (place + 1 + 1) xs
    two_passed place b xs = rw (before_one b xs, one_begins xs) refl

record IsCutBehind (place : ℕ) (bytes : List ℕ) (u : NalUnit) (others : List NalUnit) : Type 0 where
  pub ahead : place + 3 ≤ u.offset + length u.bytes
  pub left : others ≡ units_at kept_bytes (u.offset + length u.bytes) (drop (u.offset + length u.bytes - place) bytes)

cut_by : (place byte : ℕ) (bytes : List ℕ) (u : NalUnit) (others : List NalUnit)
    → (units_at kept_bytes (place + 1) bytes ≡ u ∷ others → IsCutBehind (place + 1) bytes u others)
    → units_at kept_bytes place (byte ∷ bytes) ≡ u ∷ others → (t : Bool)
    → begins_with_start_code (byte ∷ bytes) ≡ t → IsCutBehind place (byte ∷ bytes) u others
cut_by place byte bytes u others more e true t =
    let own = kept_bytes (without_trailing_zeros (before_start_code (drop 2 bytes))) in
    let here : record { offset = place + 3; bytes = own } ∷ units_at kept_bytes (place + 1) bytes ≡ u
    ∷ others = rw t at e in
    let first : record { offset = place + 3; bytes = own } ≡ u = cc here in
    let rest : units_at kept_bytes (place + 1) bytes ≡ others = cc here in
    let n : place + 3 + length own - place ≡ 3 + length own = omega arith in
    subst (λ (v : NalUnit). IsCutBehind place (byte ∷ bytes) v others) first
    (record {
      ahead = omega arith;
      left = sym rest ∙ started place byte bytes t
          ∙ ap (λ (k : ℕ). units_at kept_bytes (place + 3 + length own) (drop k (byte ∷ bytes))) (sym n);
    })
cut_by place byte bytes u others more e false t =
    let here : units_at kept_bytes (place + 1) bytes ≡ u ∷ others = rw t at e in
    let cut = more here in
    let far = cut.ahead in
    let n : u.offset + length u.bytes - place ≡ suc (u.offset + length u.bytes - (place + 1)) = omega arith in
    record {
      ahead = omega arith;
      left = cut.left ∙ ap (λ (k : ℕ). units_at kept_bytes (u.offset + length u.bytes) (drop k (byte ∷ bytes))) (sym n);
    }

-- the others lie after the first one
cut_behind : (place : ℕ) (bytes : List ℕ) (u : NalUnit) (others : List NalUnit)
    → units_at kept_bytes place bytes ≡ u ∷ others → IsCutBehind place bytes u others
cut_behind place [] u others e = absurd (cc e)
cut_behind place (byte ∷ bytes) u others e =
    cut_by place byte bytes u others (cut_behind (place + 1) bytes u others) e
    (begins_with_start_code (byte ∷ bytes)) refl

-- the units from a place on, after the first of them
pub others_from : (from : ℕ) (stream : List ℕ) (u : NalUnit) (others : List NalUnit)
    → units_from kept_bytes from stream ≡ u ∷ others
    → others ≡ units_from kept_bytes (u.offset + length u.bytes) stream
unfolding units_from
others_from from stream u others e =
    let end = u.offset + length u.bytes in
    let cut = cut_behind from (drop from stream) u others e in
    let n : from + (end - from) ≡ end = omega (arith, cut.ahead) in
    cut.left
    ∙ ap (λ (bytes : List ℕ). units_at kept_bytes end bytes)
    (drop-drop from (end - from) stream ∙ ap (λ (k : ℕ). drop k stream) n)

-- so are they from the place that is told
pub extent_goes_on : (from : ℕ) (stream : List ℕ) (next : ℕ)
    → next ≡ (first_extent (units_from kept_bytes from stream)).next
    → GoesOnAt next (units_from kept_bytes from stream) stream
extent_goes_on from stream next e = by_units (units_from kept_bytes from stream) refl e
  where
    by_units : (us : List NalUnit) → units_from kept_bytes from stream ≡ us → next ≡ (first_extent us).next
        → GoesOnAt next us stream
    by_units [] cut same = tt
    by_units (u ∷ others) cut same =
        others_from from stream u others cut ∙ ap (λ (k : ℕ). units_from kept_bytes k stream) (sym same)

-- what is told of the first unit has its place
told_next : (us : List NalUnit) → (told_first us).next ≡ (first_extent us).next
told_next [] = refl
told_next (u ∷ others) = by_header (unit_header u.bytes)
  where
    by_header : (r : Result UnitHeader HeaderFault)
        → (told_header r (lying (extent_of u))).next ≡ (extent_of u).next
    by_header (Ok header) = refl
    by_header (Err fault) = refl

pub told_goes_on : (from : ℕ) (stream : List ℕ) (told : UnitCall)
    → told ≡ told_first (units_from kept_bytes from stream)
    → GoesOnAt told.next (units_from kept_bytes from stream) stream
told_goes_on from stream told e =
    extent_goes_on from stream told.next
    (ap (λ (t : UnitCall). t.next) e ∙ told_next (units_from kept_bytes from stream))
