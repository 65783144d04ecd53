-- What is read back tells whether a value has lines.
use Rattle.std.proofs.Common.{◌≡◌, ℕ, Bool, true, false, List, [], ◌++◌, refl, sym, ap, ◌∙◌, append-nil, IsTrue, ◌↔◌}
use Rattle.std.specs.Prelude.{◌==◌, ◌&&◌}
use Rattle.std.proofs.lemmas.Bool.{eqb-true}
use Rattle.hevc_records.specs.Pps.{PlainPps}
use Rattle.hevc_records.specs.Sps.{PlainSps}
use Rattle.hevc_stream.specs.Slices.{temporal_id}
use Rattle.hevc_tables.specs.PpsTable.{picture_parameter_set}
use Rattle.hevc_spec.specs.Lines.{Line, joined}
use Rattle.hevc_spec.specs.Table.{Table, read, gives, Reading}
use Rattle.hevc_spec.specs.UnitHeader.{UnitHeader}
use Rattle.hevc_bit_writer.specs.Writing.{packed}
use Rattle.hevc_record_laws.specs.Values.{IsItsValues}
use Rattle.hevc_write_units.specs.Payloads.{AddsPayload, IsPayload, with_trailing_bits}
use Rattle.hevc_write_units.specs.Trials.{IsReadAs, WritesWhole}
use Rattle.hevc_write_units.specs.Values.{PictureSetLines, SetLines, only_sequence_set}
use Rattle.hevc_write_units.proofs.Tried.{tried, read_again}

-- two readings of the same bits give the same
gives_one : {A : Type 0} (x y : A) (r s : List Bool) → Path (Reading A) (gives x r) (gives y s) → x ≡ y
gives_one x y r s e = cc

-- the record that was read is the one that was written, exactly where the bits are read as it
pub same_read : {X A : Type 0} (view : X → A) (t : Table A) (x y : X) (bits : List Bool) (same : Bool)
    → IsItsValues view → (IsTrue same ↔ (y ≡ x)) → IsReadAs t (view y) bits → IsTrue same ↔ IsReadAs t (view x) bits
same_read view t x y bits same is test was = (
  λ s. (was.0, was.1 ∙ ap (λ r. gives (view r) was.0) (test.0 s)),
  λ again. test.1 (is y x (gives_one (view y) (view x) was.0 again.0 (sym was.1 ∙ again.1))),
)

module _ {A : Type 0} (n : ℕ) (t : Table A) (x : A) (header : UnitHeader) (bits : List Bool)
    (written : WritesWhole t x bits) where
  -- a set that is read back is added
  pub set_added : (payload old new : List ℕ) → header.nal_unit_type ≡ n → IsReadAs t x bits
      → payload ≡ packed bits → new ≡ old ++ payload → AddsPayload (SetLines n t x header) [] old new
  set_added payload old new typed is bytes grew =
      let was = tried t x bits written is in
      let is_payload : IsPayload (SetLines n t x header) [] payload = record {
        lines = was.lines;
        has = record { typed = typed; has = was.has; good = was.good };
        chosen = was.chosen;
        fewest = λ others h. was.fewest others h.has h.good;
        parts = bytes ∙ ap packed was.parts ∙ sym (append-nil (packed (with_trailing_bits (joined was.lines))));
      } in
      record { payload = payload; parts = grew; is_payload = is_payload }

  -- one that is not has no lines
  pub none_written : ¬ (IsReadAs t x bits) → (lines : List Line) → ¬ (SetLines n t x header lines)
  none_written other lines has = other (read_again t x bits written lines has.has has.good)

-- false is not so
pub not_true : (b : Bool) → b ≡ false → ¬ (IsTrue b)
not_true true e = λ t. cc e
not_true false e = λ t. cc t

-- the bits of the unit that is read back are those that were written
pub trial_read : {A : Type 0} (t : Table A) (x : A) (bits others : List Bool) → others ≡ bits
    → IsReadAs t x others → IsReadAs t x bits
trial_read t x bits others e is = (is.0, ap (read t) (sym e) ∙ is.1)

-- both are so
and_first : (a b : Bool) → (a && b) ≡ true → (a ≡ true) × (b ≡ true)
and_first true b e = (refl, e)
and_first false b e = absurd (cc e)

-- a picture set
module _ (sps : PlainSps) (pps : PlainPps) (header : UnitHeader) (bits : List Bool)
    (written : WritesWhole (picture_parameter_set (temporal_id header) (only_sequence_set sps)) pps bits) where
  -- a picture set that is read back is added
  pub picture_added : (payload old new : List ℕ) → header.nal_unit_type ≡ 34
      → (pps.seq_parameter_set_id == sps.seq_parameter_set_id) ≡ true
      → IsReadAs (picture_parameter_set (temporal_id header) (only_sequence_set sps)) pps bits
      → payload ≡ packed bits → new ≡ old ++ payload → AddsPayload (PictureSetLines sps pps header) [] old new
  picture_added payload old new typed named is bytes grew =
      let t = picture_parameter_set (temporal_id header) (only_sequence_set sps) in
      let added = set_added 34 t pps header bits written payload old new typed is bytes grew in
      record {
        payload = added.payload;
        parts = added.parts;
        is_payload = record {
          lines = added.is_payload.lines;
          has = record {
            names = eqb-true pps.seq_parameter_set_id sps.seq_parameter_set_id named;
            set = added.is_payload.has;
          };
          chosen = added.is_payload.chosen;
          fewest = λ others h. added.is_payload.fewest others h.set;
          parts = added.is_payload.parts;
        };
      }

  -- one that is not has no lines
  pub no_picture_written : ¬
      (IsReadAs (picture_parameter_set (temporal_id header) (only_sequence_set sps)) pps bits)
      → (lines : List Line) → ¬ (PictureSetLines sps pps header lines)
  no_picture_written other lines has =
      other (read_again (picture_parameter_set (temporal_id header) (only_sequence_set sps)) pps bits
      written lines has.set.has has.set.good)

-- two pairs of numbers that are equal
pub both_equal : (a b d e : ℕ) → (a == b && d == e) ≡ true → (a ≡ b) × (d ≡ e)
both_equal a b d e is = let both = and_first (a == b) (d == e) is in (eqb-true a b both.0, eqb-true d e both.1)
