use Rattle.std.proofs.Common.{◌≡◌, ◌≢◌, Bool, false, length, IsTrue, subst, sym, ℕ, List}
use Rattle.hevc_bit_writer.specs.Writing.{trailing_bits}
use Rattle.hevc_elements.specs.declared.parse_error.ParseError.TheVariants.{NoMemory}
use Rattle.hevc_records.specs.SliceHeader.{PlainSliceSegmentHeader}
use Rattle.hevc_spec.specs.Table.{read, gives}
use Rattle.hevc_tables.specs.SliceHeaderTable.{elements}
use Rattle.hevc_write_units.specs.Payloads.{with_trailing_bits}
use Rattle.hevc_write_units.specs.Slices.{IsSameButSizes, only_sets}
use Rattle.hevc_slice_header.specs.Kept.{kept_active_sets}
use Rattle.hevc_sequence_set.specs.Sps.{plain_sps}
use Rattle.hevc_picture_slice.specs.Pps.{plain_pps}
use Rattle.hevc_picture_slice.specs.SliceHeader.{plain_slice_header}
use Rattle.hevc_write_units.specs.Trials.{IsTrial}
use Rattle.hevc_records.specs.SetsById.{sets_by_id}
use Rattle.hevc_write.proofs.SlicesBack.{if_ok, one_active, slice_found, slice_not_refused, slice_read}
use Rattle.hevc_write.proofs.slice_unit.is_read_back.Goals as goal

pub returns-in-Ok-clause-found : goal.returns-in-Ok-clause-found
returns-in-Ok-clause-found c = λ same.
    let header = c.args.header.now in
    let bits = c.args.w.now in
    let sps = plain_sps c.args.slice.now.sps.now in
    let pps = plain_pps c.args.slice.now.pps.now in
    let trial = subst (λ (s : List ℕ). IsTrial header bits s) (sym c.deref.ensures.value) c.in_ok-stream.ensures in
    let one = one_active sps pps (sets_by_id plain_sps c.in_ok-spses.spses)
    (sets_by_id plain_pps c.in_ok-ppses.ppses) c.in_ok-spses.ensures c.in_ok-ppses.ensures c.requires.named in
    slice_found c.trial_unit.result header bits sps pps
    (kept_active_sets c.in_ok-ppses.ppses c.in_ok-spses.spses)
    (c.trial_unit.ensures.header header bits trial) (c.trial_unit.ensures.bits header bits trial) one c.requires.typed
    c.read_slice_header.new.h (plain_slice_header c.args.slice.now.header.now) c.in-Ok.field-0
    c.in-Ok.ensures.reads (c.is_same_but_sizes.ensures.0 same)

pub returns-in-Ok-clause-read : goal.returns-in-Ok-clause-read
returns-in-Ok-clause-read c = λ own front whole is e.
    let header = c.args.header.now in
    let bits = c.args.w.now in
    let sps = plain_sps c.args.slice.now.sps.now in
    let pps = plain_pps c.args.slice.now.pps.now in
    let trial = subst (λ (s : List ℕ). IsTrial header bits s) (sym c.deref.ensures.value) c.in_ok-stream.ensures in
    let one = one_active sps pps (sets_by_id plain_sps c.in_ok-spses.spses)
    (sets_by_id plain_pps c.in_ok-ppses.ppses) c.in_ok-spses.ensures c.in_ok-ppses.ensures c.requires.named in
    c.is_same_but_sizes.ensures.1
    (slice_read c.trial_unit.result header bits sps pps
    (kept_active_sets c.in_ok-ppses.ppses c.in_ok-spses.spses)
    (c.trial_unit.ensures.header header bits trial) (c.trial_unit.ensures.bits header bits trial) one c.requires.typed
    c.read_slice_header.new.h (plain_slice_header c.args.slice.now.header.now) own front c.in-Ok.field-0
    c.in-Ok.ensures.reads whole is e)

pub returns-clause-read : goal.returns-clause-read
returns-clause-read c =
    let header = c.args.header.now in
    let bits = c.args.w.now in
    let sps = plain_sps c.args.slice.now.sps.now in
    let pps = plain_pps c.args.slice.now.pps.now in
    let x = plain_slice_header c.args.slice.now.header.now in
    let trial = subst (λ (s : List ℕ). IsTrial header bits s) (sym c.deref.ensures.value) c.in_ok-stream.ensures in
    let one = one_active sps pps (sets_by_id plain_sps c.in_ok-spses.spses)
    (sets_by_id plain_pps c.in_ok-ppses.ppses) c.in_ok-spses.ensures c.in_ok-ppses.ensures c.requires.named in
    if_ok c.refusal.result (λ same. (same ≡ false) × (c.in-Err.error ≢ NoMemory))
    (λ same. (own : PlainSliceSegmentHeader) (front : List Bool) → bits ≡ with_trailing_bits front
    → IsSameButSizes own x
    → read (elements header.nal_unit_type (only_sets sps pps)) bits ≡ gives own
    (trailing_bits (length front)) → IsTrue same)
    (λ same h own front whole is e. absurd
    (slice_not_refused c.trial_unit.result header bits sps pps
    (kept_active_sets c.in_ok-ppses.ppses c.in_ok-spses.spses)
    (c.trial_unit.ensures.header header bits trial) (c.trial_unit.ensures.bits header bits trial) one c.requires.typed
    c.read_slice_header.new.h own front c.in-Err.error h.1 c.in-Err.ensures.reads whole e))
    c.refusal.ensures
