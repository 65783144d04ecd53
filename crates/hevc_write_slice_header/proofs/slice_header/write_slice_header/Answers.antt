use Rattle.std.proofs.Common.{◌≡◌, ℕ, List, Bool, refl, ap, subst}
use Rattle.std.specs.Prelude.{Option, Some}
use Rattle.hevc_records.specs.SliceHeader.{PlainSliceSegmentHeader, default_slice_header}
use Rattle.hevc_tables.specs.SliceHeaderTable.{ActiveSets, beginning, elements}
use Rattle.hevc_sequence_set.specs.Sps.{plain_sps}
use Rattle.hevc_picture_slice.specs.Pps.{plain_pps}
use Rattle.hevc_picture_slice.specs.SliceHeader.{plain_slice_header}
use Rattle.hevc_write_pps.proofs.Named.{named_then, named_part_written}
use Rattle.hevc_write_units.specs.Slices.{WritesSized, with_sizes_of}
use Rattle.hevc_write_elements.specs.Filling.{Writes}
use Rattle.hevc_write_elements.proofs.Steps.{by, part_then}
use Rattle.hevc_write_slice_header.specs.HeaderParts as own
use Rattle.hevc_write_slice_header.proofs.HeaderKeeps.{beginning_keeps, header_keeps}
use Rattle.hevc_write_slice_header.proofs.Sizes.{sized_written}
use Rattle.hevc_write_slice_header.proofs.slice_header.write_slice_header.Goals as goal

elements_written : {m n : ℕ} → m ≡ n
    → (kept : ℕ → Option ActiveSets) (x : PlainSliceSegmentHeader)
    (sets : ActiveSets) {old mid new : List Bool} → kept x.pic_parameter_set_id ≡ Some sets
    → Writes (beginning m) own.beginning_of x old mid
    → Writes (own.header_rows m sets.sps sets.pps) own.header_with_inputs_of x mid new
    → WritesSized (elements n kept) x old new
elements_written {m = m} typed kept x sets {old = old} {new = new} is first second =
    subst (λ n. WritesSized (elements n kept) x old new) typed (
    sized_written m kept (
    part_then (beginning m) own.beginning_of (beginning_keeps m) default_slice_header first refl
    (λ v1 b1 beginning_rows.
    named_then _ _ (kept v1.pic_parameter_set_id) (λ s e1.
    named_part_written (λ (k : ActiveSets). own.header_rows m k.sps k.pps) own.header_of
    (λ k. header_keeps m k.sps k.pps) (own.beginning_of v1 default_slice_header) kept _ _ _ _ e1 is second
    refl (λ v2 b2 beginning_rows_2 e.
    let same = ap (with_sizes_of x) e in
    beginning_rows_2 (by e (λ r. r.pic_parameter_set_id)) _ same refl (beginning_rows _ same refl refl))))))

pub returns : goal.returns
returns c = λ kept is. elements_written c.nalu_type-nalu_type.ensures kept (plain_slice_header c.args.x.now)
    (record { sps = plain_sps c.args.sps.now; pps = plain_pps c.args.pps.now }) is
    c.in_ok-write_beginning.ensures c.in_ok-write_header_rows.ensures
