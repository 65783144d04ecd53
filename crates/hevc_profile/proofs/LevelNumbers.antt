-- Which numbers are those of levels.
use Rattle.std.proofs.Common.{◌≡◌, ◌≢◌, ℕ, true, false, Option, Some, None, refl, sym, arith}
use Rattle.std.specs.Prelude.{◌↔◌, nat_eq}
use Rattle.hevc_records.specs.ProfileConformance.{is_level}
use Rattle.hevc_set_parts.specs.Level.{level_number}
use Rattle.hevc_set_parts.specs.declared.level.Level.{Level}
use Rattle.hevc_set_parts.specs.declared.level.Level.TheVariants.{L1, L2, L2_1, L3, L3_1, L4, L4_1}
use Rattle.hevc_set_parts.specs.declared.level.Level.TheVariants.{L5, L5_1, L5_2, L6, L6_1, L6_2}

number_is_level : (level : Level) → is_level (level_number level) ≡ true
number_is_level L1 = refl
number_is_level L2 = refl
number_is_level L2_1 = refl
number_is_level L3 = refl
number_is_level L3_1 = refl
number_is_level L4 = refl
number_is_level L4_1 = refl
number_is_level L5 = refl
number_is_level L5_1 = refl
number_is_level L5_2 = refl
number_is_level L6 = refl
number_is_level L6_1 = refl
number_is_level L6_2 = refl

other : (n k : ℕ) → (k ≡ n → ⊥) → nat_eq n k ≡ false
other n k not_same = let ne : n ≢ k = λ e. not_same (sym e) in grind arith

no_level : (n : ℕ) → ((level : Level) → level_number level ≡ n → ⊥) → is_level n ≡ false
no_level n none =
    rw (
      other n 30 (none L1),
      other n 60 (none L2),
      other n 63 (none L2_1),
      other n 90 (none L3),
      other n 93 (none L3_1),
      other n 120 (none L4),
      other n 123 (none L4_1),
      other n 150 (none L5),
      other n 153 (none L5_1),
      other n 156 (none L5_2),
      other n 180 (none L6),
      other n 183 (none L6_1),
      other n 186 (none L6_2),
    ) refl

module _ (n : ℕ) (found : Option Level) (named : (level : Level)
    → (found ≡ Some level) ↔ (level_number level ≡ n)) where
  -- a number whose level is found is that level's
  pub level_found : (level : Level) → found ≡ Some level → (level_number level ≡ n) × (is_level n ≡ true)
  level_found level e = let is = (named level).0 e in (is, rw (← is) (number_is_level level))

  -- a number with no level found is none
  pub level_missing : found ≡ None → is_level n ≡ false
  level_missing e = no_level n (λ level is. cc (e, (named level).1 is))

pub ruleset level_numbers = (level_found, level_missing)
