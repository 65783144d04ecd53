-- What a unit means in a state of the decoder.
use Rattle.std.proofs.Common.{◌≡◌, ℕ, List, refl, sym, ◌∙◌, ap, subst, Option, Some, None, Ok, Bool}
use Rattle.std.proofs.Common.{true, false, if◌then◌else◌}
use Rattle.std.specs.Prelude.{is_some}
use Rattle.hevc_spec.specs.UnitHeader.{UnitHeader, unit_header}
use Rattle.hevc_walk.specs.Meanings.{Format, Meaning, SequenceSet, CodedSlice, EndOfSequence}
use Rattle.hevc_walk.specs.Meanings.{EndOfBitstream, Other, Refused}
use Rattle.hevc_walk.specs.Refusals.{refusal}
use Rattle.hevc_walk_units.specs.Units.{Standing, unit_part, refusal_at, is_full_at}
use Rattle.hevc_stream.specs.Options.{Options}
use Rattle.hevc_stream.specs.Kept.{Kept}
use Rattle.hevc_stream.specs.Contents.{content}
use Rattle.hevc_stream.specs.Stream.{meaning_of, meaning}
use Rattle.hevc_driver.specs.Moments.{begins_at, step_part}
use Rattle.hevc_stateless.specs.declared.state.State.TheVariants.{AwaitingStreamInfo}
use Rattle.hevc_stateless.specs.States.{Unit, unit_at, is_parameter_set, later_meaning, meaning_in}
use Rattle.hevc_stateless_laws.specs.Stands.{state_by, first_meaning}
use Rattle.hevc_stateless_laws.proofs.Keeping.{set_is_same, other_is_nothing}

-- What a unit means in a state is what it means where a decoder is.
pub record Means (x y : Meaning) (s : Standing) : Type 0 where
  pub part : step_part x s ≡ unit_part y s
  pub refusal : refusal_at x s ≡ refusal_at y s
  pub full : is_full_at x s ≡ is_full_at y s
  pub begins : begins_at x s ≡ begins_at y s

first_part : (x : Meaning) (s : Standing) → s.store.accepted ≡ None → step_part x s ≡ unit_part x s
first_part (SequenceSet f) s none = rw none refl
first_part (CodedSlice w) s none = refl
first_part EndOfSequence s none = refl
first_part EndOfBitstream s none = refl
first_part Other s none = refl
first_part (Refused c) s none = refl

pub later_part : (f : Format) (y : Meaning) (s : Standing) → s.store.accepted ≡ Some f → Means (later_meaning y) y s
later_part f (SequenceSet g) s is = record { part = rw is refl; refusal = refl; full = refl; begins = refl }
later_part f (CodedSlice w) s is = record { part = refl; refusal = refl; full = refl; begins = refl }
later_part f EndOfSequence s is = record { part = refl; refusal = refl; full = refl; begins = refl }
later_part f EndOfBitstream s is = record { part = refl; refusal = refl; full = refl; begins = refl }
later_part f Other s is = record { part = refl; refusal = refl; full = refl; begins = refl }
later_part f (Refused c) s is = record { part = refl; refusal = refl; full = refl; begins = refl }

module _ (o : Options) (k : Kept) (bytes : List ℕ) (h : UnitHeader) (parsed : unit_header bytes ≡ Ok h) where
  abbrev u : Unit
  u = unit_at o k h bytes

  -- where a sequence set is kept
  sure_means : k.has_sequence_set ≡ true → u.meaning ≡ meaning o k bytes
  sure_means has = ap (λ (b : Bool). meaning o (record k { has_sequence_set = b }) bytes) (sym has)

  -- and where none is
  pub none_means : k.has_sequence_set ≡ false → meaning_in AwaitingStreamInfo u ≡ meaning o k bytes
  unfolding meaning
  none_means none = by (is_parameter_set h.nal_unit_type) refl
    where
      by : (b : Bool) → is_parameter_set h.nal_unit_type ≡ b
          → (if is_parameter_set h.nal_unit_type then u.meaning else Other) ≡ meaning_of o k bytes (content o k bytes)
      by true e = ap (λ (b : Bool). if b then u.meaning else Other) e
          ∙ ap (meaning_of o (record k { has_sequence_set = true }) bytes) (set_is_same o k bytes h parsed e)
      by false e = ap (λ (b : Bool). if b then u.meaning else Other) e
          ∙ sym (ap (meaning_of o k bytes) (other_is_nothing o k bytes h parsed e none))

  pub first_is : (a : Option Format) → is_some a ≡ k.has_sequence_set
      → meaning_in (state_by a) u ≡ first_meaning a (meaning o k bytes)
  first_is None has = none_means (sym has)
  first_is (Some f) has = ap later_meaning (sure_means (sym has))

  pub means : (a : Option Format) (s : Standing) → s.store.accepted ≡ a → is_some a ≡ k.has_sequence_set
      → Means (meaning_in (state_by a) u) (meaning o k bytes) s
  means None s is has = subst (λ (x : Meaning). Means x (meaning o k bytes) s) (sym (none_means (sym has)))
      (record { part = first_part (meaning o k bytes) s is; refusal = refl; full = refl; begins = refl })
  means (Some f) s is has =
      subst (λ (x : Meaning). Means (later_meaning x) (meaning o k bytes) s) (sym (sure_means (sym has)))
      (later_part f (meaning o k bytes) s is)

-- where a format is accepted
pub later_is : (y : Meaning) (s : Standing) → is_some s.store.accepted ≡ true
    → step_part (later_meaning y) s ≡ unit_part y s
later_is y s some = by s.store.accepted refl some
  where
    by : (a : Option Format) → s.store.accepted ≡ a → is_some a ≡ true → step_part (later_meaning y) s ≡ unit_part y s
    by None is some = absurd (cc some)
    by (Some f) is some = (later_part f y s is).part
