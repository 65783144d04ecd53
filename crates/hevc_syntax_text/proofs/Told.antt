-- The cause that an error tells of is the one of the reading.
use Rattle.std.proofs.Common.{◌≡◌, ◌≢◌, ◌-◌, ◌∙◌, ℕ, List, Bool, true, false, None, refl, sym, ap, arith}
use Rattle.std.specs.Prelude.{◌==◌}
use Rattle.std.proofs.lemmas.Bool.Decides.{nat_tests}
use Rattle.hevc_spec.specs.Payload.{payload}
use Rattle.hevc_spec.specs.Table.{Fault, Reading, gives, refuses, read}
use Rattle.hevc_spec.specs.UnitHeader.{UnitHeader}
use Rattle.hevc_spec.specs.UnitTypes.{is_slice}
use Rattle.hevc_bits.specs.FoundUnit.{FoundUnit, bytes_of}
use Rattle.hevc_tables.specs.VpsTable.{video_parameter_set}
use Rattle.hevc_tables.specs.SpsTable.{sequence_parameter_set}
use Rattle.hevc_tables.specs.PpsTable.{picture_parameter_set}
use Rattle.hevc_slice_header.specs.Answers.{slice_table}
use Rattle.hevc_stream.specs.Kept.{Kept}
use Rattle.hevc_stream_laws.proofs.OneContent.{slice_isnt}
use Rattle.hevc_parser.specs.Slices.{active_of}
use Rattle.hevc_elements.specs.declared.parse_error.ParseError.{ParseError}
use Rattle.hevc_elements.specs.declared.parse_error.ParseError.TheVariants as errors
use Rattle.hevc_elements.specs.Sets.{RefusesSet}
use Rattle.hevc_syntax_text.specs.declared.counting.Counting.{Counting}
use Rattle.hevc_syntax_text.specs.Causes.{cause_in, cause_of_unit, error_cause}
use Rattle.hevc_syntax_text.specs.Order.{behind_end, behind_slice, counting_behind}
use Rattle.hevc_syntax_text.specs.Variables.{set_variables_in, slice_variables, variables_of_unit}

-- what is read has none
pub none_in : {A : Type 0} (reading : Reading A) (x : A) (rest : List Bool) → reading ≡ gives x rest
    → None ≡ cause_in reading
none_in reading x rest e = sym (ap cause_in e)

pub error_in : {A : Type 0} (e : ParseError) (reading : Reading A) → e ≢ errors.NoMemory → RefusesSet e reading
    → error_cause e ≡ cause_in reading
error_in errors.WrongNaluType reading isnt h = absurd h
error_in errors.OutOfBits reading isnt h = sym (ap cause_in h.1)
error_in (errors.OutOfRange table number) reading isnt h = sym (ap cause_in h.1)
error_in (errors.MissingSps id) reading isnt h = sym (ap cause_in h.1)
error_in (errors.MissingPps id) reading isnt h = sym (ap cause_in h.1)
error_in errors.NoMemory reading isnt h = absurd (isnt refl)

-- what is refused is so for some fault
pub refused_at : {A : Type 0} (e : ParseError) (reading : Reading A) → e ≢ errors.NoMemory → RefusesSet e reading
    → (fault : Fault) × (rest : List Bool) × (reading ≡ refuses fault rest)
refused_at errors.WrongNaluType reading isnt h = absurd h
refused_at errors.OutOfBits reading isnt h = (_, h.0, h.1)
refused_at (errors.OutOfRange table number) reading isnt h = (_, h.0, h.1)
refused_at (errors.MissingSps id) reading isnt h = (_, h.0, h.1)
refused_at (errors.MissingPps id) reading isnt h = (_, h.0, h.1)
refused_at errors.NoMemory reading isnt h = absurd (isnt refl)

-- ---- the cause of a unit, by its type

-- numbers that aren't equal by their test
pub differs : (n k : ℕ) → (n == k) ≡ false → n ≢ k
differs n k e f = grind (arith, nat_tests, e, f)

module _ (kept : Kept) (n : FoundUnit UnitHeader) where
  pub of_video_set : n.header.nal_unit_type ≡ 32
      → cause_of_unit kept n ≡ cause_in (read video_parameter_set (payload (bytes_of n)))
  unfolding cause_of_unit
  of_video_set t = rw t refl

  pub of_sequence_set : n.header.nal_unit_type ≡ 33
      → cause_of_unit kept n ≡ cause_in (read sequence_parameter_set (payload (bytes_of n)))
  unfolding cause_of_unit
  of_sequence_set t = rw t refl

  pub of_picture_set : n.header.nal_unit_type ≡ 34
      → cause_of_unit kept n ≡ cause_in
      (read (picture_parameter_set (n.header.nuh_temporal_id_plus1 - 1) kept.sequence_sets) (payload (bytes_of n)))
  unfolding cause_of_unit
  of_picture_set t = rw t refl

  pub of_slice : is_slice n.header.nal_unit_type ≡ true
      → cause_of_unit kept n ≡ cause_in (read (slice_table (active_of kept) n) (payload (bytes_of n)))
  unfolding cause_of_unit
  of_slice s =
      rw (
        slice_isnt n.header.nal_unit_type 32 s (omega arith),
        slice_isnt n.header.nal_unit_type 33 s (omega arith),
        slice_isnt n.header.nal_unit_type 34 s (omega arith),
        s,
      ) refl

  pub of_another : n.header.nal_unit_type ≢ 32 → n.header.nal_unit_type ≢ 33 → n.header.nal_unit_type ≢ 34
      → is_slice n.header.nal_unit_type ≡ false → None ≡ cause_of_unit kept n
  unfolding cause_of_unit
  of_another video sequence picture s =
      let v : (n.header.nal_unit_type == 32) ≡ false = grind (arith, video) in
      let q : (n.header.nal_unit_type == 33) ≡ false = grind (arith, sequence) in
      let p : (n.header.nal_unit_type == 34) ≡ false = grind (arith, picture) in
      rw (v, q, p, s) refl

-- ---- its variables and the order counts after it

module _ (c : Counting) (kept : Kept) (n : FoundUnit UnitHeader) where
  pub no_variables : (n.header.nal_unit_type == 33) ≡ false → is_slice n.header.nal_unit_type ≡ false
      → None ≡ variables_of_unit c kept n
  unfolding variables_of_unit
  no_variables t s = rw (t, s) refl

  pub sequence_variables : n.header.nal_unit_type ≡ 33
      → variables_of_unit c kept n ≡ set_variables_in (read sequence_parameter_set (payload (bytes_of n)))
  unfolding variables_of_unit
  sequence_variables t = rw t refl

  pub picture_variables : is_slice n.header.nal_unit_type ≡ true
      → variables_of_unit c kept n ≡ slice_variables c kept n
  unfolding variables_of_unit
  picture_variables s = rw (slice_isnt n.header.nal_unit_type 33 s (omega arith), s) refl

  pub behind_first : is_slice n.header.nal_unit_type ≡ true → counting_behind c kept n ≡ behind_slice c kept n
  unfolding counting_behind
  behind_first s = rw s refl

  pub behind_another : is_slice n.header.nal_unit_type ≡ false
      → counting_behind c kept n ≡ behind_end n.header.nal_unit_type c
  unfolding counting_behind
  behind_another s = rw s refl

  -- a parameter set changes no order count
  pub behind_plain : (t : ℕ) → n.header.nal_unit_type ≡ t → is_slice t ≡ false → behind_end t c ≡ c
      → c ≡ counting_behind c kept n
  behind_plain t typed slice same =
      sym (behind_another (ap is_slice typed ∙ slice) ∙ ap (λ (k : ℕ). behind_end k c) typed ∙ same)
