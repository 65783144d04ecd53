-- The units after the first one are those of the bytes after it.
use Rattle.std.proofs.Common.{◌≡◌, ℕ, zero, suc, ◌+◌, ◌-◌, ◌≤◌, Bool, true, false, List, [], ◌∷◌}
use Rattle.std.proofs.Common.{length, drop, map, refl, ap, sym, subst, ◌∙◌, arith}
use Rattle.std.proofs.Math.ListN.{length-take}
use Rattle.std.specs.Prelude.{◌&&◌, ◌==◌, nat_le}
use Rattle.std.proofs.lemmas.Bool.{eqb-true, and_parts}
use Rattle.hevc_spec.specs.UnitHeader.{nal_unit_type}
use Rattle.hevc_spec.specs.UnitTypes.{is_end}
use Rattle.hevc_spec.specs.Units.{NalUnit, begins_with_start_code, before_start_code, is_empty}
use Rattle.hevc_spec.specs.Units.{without_trailing_zeros, units_at, units_from, units, kept_bytes}
use Rattle.hevc_stateless_laws.specs.Shortened.{moved}

-- ---- places

moved_by : (n place : ℕ) (byte : ℕ) (bytes : List ℕ)
    → units_at kept_bytes (n + (place + 1)) bytes ≡ map (moved n) (units_at kept_bytes (place + 1) bytes)
    → (t : Bool) → begins_with_start_code (byte ∷ bytes) ≡ t
    → units_at kept_bytes (n + place) (byte ∷ bytes) ≡ map (moved n) (units_at kept_bytes place (byte ∷ bytes))
moved_by n place byte bytes more true e =
    let at : n + place + 3 ≡ n + (place + 3) = omega arith in
    let next : n + place + 1 ≡ n + (place + 1) = omega arith in
    rw (e, at, next, more) refl
moved_by n place byte bytes more false e =
    let next : n + place + 1 ≡ n + (place + 1) = omega arith in
    rw (e, next, more) refl

moved_on : (n place : ℕ) (bytes : List ℕ)
    → units_at kept_bytes (n + place) bytes ≡ map (moved n) (units_at kept_bytes place bytes)
moved_on n place [] = refl
moved_on n place (byte ∷ bytes) =
    moved_by n place byte bytes (moved_on n (place + 1) bytes) (begins_with_start_code (byte ∷ bytes)) refl

-- ---- bytes in which no start code begins

passed_by : (place n byte : ℕ) (bytes : List ℕ)
    → (n ≤ length (before_start_code bytes)
    → units_at kept_bytes (place + 1) bytes ≡ units_at kept_bytes (place + 1 + n) (drop n bytes))
    → suc n ≤ length (before_start_code (byte ∷ bytes)) → (t : Bool)
    → begins_with_start_code (byte ∷ bytes) ≡ t
    → units_at kept_bytes place (byte ∷ bytes) ≡ units_at kept_bytes (place + suc n) (drop n bytes)
passed_by place n byte bytes more le true e = let short : suc n ≤ 0 = rw e at le in absurd (omega arith)
passed_by place n byte bytes more le false e =
    let few : suc n ≤ suc (length (before_start_code bytes)) = rw e at le in
    rw e (more (omega arith) ∙ ap (λ (k : ℕ). units_at kept_bytes k (drop n bytes)) (omega arith))

passed : (place n : ℕ) (bytes : List ℕ) → n ≤ length (before_start_code bytes)
    → units_at kept_bytes place bytes ≡ units_at kept_bytes (place + n) (drop n bytes)
passed place zero bytes le = ap (λ (k : ℕ). units_at kept_bytes k bytes) (omega arith)
passed place (suc n) [] le = absurd (omega arith)
passed place (suc n) (byte ∷ bytes) le =
    passed_by place n byte bytes (passed (place + 1) n bytes) le (begins_with_start_code (byte ∷ bytes)) refl

-- ---- a unit is no longer than the bytes before the next start code

trimmed_by : (byte : ℕ) (bytes : List ℕ) → length (without_trailing_zeros bytes) ≤ length bytes
    → (t : Bool) → (byte == 0 && is_empty (without_trailing_zeros bytes)) ≡ t
    → length (without_trailing_zeros (byte ∷ bytes)) ≤ suc (length bytes)
trimmed_by byte bytes more true e = rw e (omega arith)
trimmed_by byte bytes more false e = rw e (omega arith)

trimmed_short : (bytes : List ℕ) → length (without_trailing_zeros bytes) ≤ length bytes
trimmed_short [] = omega arith
trimmed_short (byte ∷ bytes) =
    trimmed_by byte bytes (trimmed_short bytes) (byte == 0 && is_empty (without_trailing_zeros bytes)) refl

kept_short : (bytes : List ℕ) → length (kept_bytes bytes) ≤ length bytes
kept_short bytes = by_test (nat_le 2 (length bytes) && is_end (nal_unit_type bytes)) refl
  where
    by_test : (t : Bool) → (nat_le 2 (length bytes) && is_end (nal_unit_type bytes)) ≡ t
        → length (kept_bytes bytes) ≤ length bytes
    by_test true e = rw e (grind (arith, length-take))
    by_test false e = rw e (omega arith)

-- ---- the first unit, and the others

-- after a start code the others are those of the bytes after its unit
started : (place : ℕ) (byte : ℕ) (bytes : List ℕ) → begins_with_start_code (byte ∷ bytes) ≡ true
    → units_at kept_bytes (place + 1) bytes
    ≡ units_at kept_bytes (place + 3 + length (kept_bytes (without_trailing_zeros (before_start_code (drop 2 bytes)))))
    (drop (3 + length (kept_bytes (without_trailing_zeros (before_start_code (drop 2 bytes))))) (byte ∷ bytes))
started place byte [] e = absurd (cc e)
started place byte (b ∷ []) e = absurd (cc e)
started place byte (b ∷ c ∷ rest) e =
    let own = kept_bytes (without_trailing_zeros (before_start_code rest)) in
    let long : 3 + length own ≡ suc (suc (suc (length own))) = omega arith in
    let at : place + 1 + 1 + 1 + length own ≡ place + 3 + length own = omega arith in
    let two = and_parts _ _ e in
    let one : c ≡ 1 = eqb-true c 1 two.1 in
    let short : length own ≤ length (before_start_code rest) =
    le_le (kept_short (without_trailing_zeros (before_start_code rest))) (trimmed_short (before_start_code rest)) in
    let skipped : units_at kept_bytes (place + 1) (b ∷ c ∷ rest) ≡ units_at kept_bytes
    (place + 1 + 1 + 1) rest =
    subst (λ (x : ℕ). units_at kept_bytes (place + 1) (b ∷ x ∷ rest) ≡ units_at kept_bytes
    (place + 1 + 1 + 1) rest) (sym one) (two_passed (place + 1) b rest) in
    rw long (skipped ∙ passed (place + 1 + 1 + 1) (length own) rest short
    ∙ ap (λ (k : ℕ). units_at kept_bytes k (drop (length own) rest)) at)
  where
    le_le : {a b c : ℕ} → a ≤ b → b ≤ c → a ≤ c
    le_le p q = omega arith

    one_begins : (xs : List ℕ) → begins_with_start_code (1 ∷ xs) ≡ false
    one_begins [] = refl
    one_begins (x ∷ []) = refl
    one_begins (x ∷ y ∷ xs) = refl

    before_one : (b : ℕ) (xs : List ℕ) → begins_with_start_code (b ∷ 1 ∷ xs) ≡ false
    before_one b [] = refl
    before_one zero (x ∷ xs) = refl
    before_one (suc b) (x ∷ xs) = grind arith

    two_passed : (place b : ℕ) (xs : List ℕ)
        → units_at kept_bytes place (b ∷ 1 ∷ xs) ≡ units_at kept_bytes (place + 1 + 1) xs
    two_passed place b xs = rw (before_one b xs, one_begins xs) refl

record IsCutBehind (place : ℕ) (bytes : List ℕ) (u : NalUnit) (others : List NalUnit) : Type 0 where
  pub ahead : place + 3 ≤ u.offset + length u.bytes
  pub left : others ≡ units_at kept_bytes (u.offset + length u.bytes) (drop (u.offset + length u.bytes - place) bytes)

cut_by : (place byte : ℕ) (bytes : List ℕ) (u : NalUnit) (others : List NalUnit)
    → (units_at kept_bytes (place + 1) bytes ≡ u ∷ others → IsCutBehind (place + 1) bytes u others)
    → units_at kept_bytes place (byte ∷ bytes) ≡ u ∷ others → (t : Bool)
    → begins_with_start_code (byte ∷ bytes) ≡ t → IsCutBehind place (byte ∷ bytes) u others
cut_by place byte bytes u others more e true t =
    let own = kept_bytes (without_trailing_zeros (before_start_code (drop 2 bytes))) in
    let here : record { offset = place + 3; bytes = own } ∷ units_at kept_bytes (place + 1) bytes ≡ u
    ∷ others = rw t at e in
    let first : record { offset = place + 3; bytes = own } ≡ u = cc here in
    let rest : units_at kept_bytes (place + 1) bytes ≡ others = cc here in
    let n : place + 3 + length own - place ≡ 3 + length own = omega arith in
    subst (λ (v : NalUnit). IsCutBehind place (byte ∷ bytes) v others) first
    (record {
      ahead = omega arith;
      left = sym rest ∙ started place byte bytes t
          ∙ ap (λ (k : ℕ). units_at kept_bytes (place + 3 + length own) (drop k (byte ∷ bytes))) (sym n);
    })
cut_by place byte bytes u others more e false t =
    let here : units_at kept_bytes (place + 1) bytes ≡ u ∷ others = rw t at e in
    let cut = more here in
    let far = cut.ahead in
    let n : u.offset + length u.bytes - place ≡ suc (u.offset + length u.bytes - (place + 1)) = omega arith in
    record {
      ahead = omega arith;
      left = cut.left ∙ ap (λ (k : ℕ). units_at kept_bytes (u.offset + length u.bytes) (drop k (byte ∷ bytes))) (sym n);
    }

cut_behind : (place : ℕ) (bytes : List ℕ) (u : NalUnit) (others : List NalUnit)
    → units_at kept_bytes place bytes ≡ u ∷ others → IsCutBehind place bytes u others
cut_behind place [] u others e = absurd (cc e)
cut_behind place (byte ∷ bytes) u others e =
    cut_by place byte bytes u others (cut_behind (place + 1) bytes u others) e
    (begins_with_start_code (byte ∷ bytes)) refl

pub others_left : (stream : List ℕ) (u : NalUnit) (others : List NalUnit) → units stream ≡ u ∷ others
    → others ≡ map (moved (u.offset + length u.bytes)) (units (drop (u.offset + length u.bytes) stream))
unfolding units_from
others_left stream u others e =
    let end = u.offset + length u.bytes in
    let cut = cut_behind 0 stream u others e in
    let n : end - 0 ≡ end = omega arith in
    let zero_on : end + 0 ≡ end = omega arith in
    rw n at cut.left ∙ ap (λ (k : ℕ). units_at kept_bytes k (drop end stream)) (sym zero_on)
    ∙ moved_on end 0 (drop end stream)
