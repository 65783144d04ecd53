use Rattle.std.proofs.Common.{◌≡◌, ℕ, ◌+◌, ◌-◌, ◌≤◌, length, ap, sym, ◌∙◌, arith}
use Rattle.hevc_bits.specs.NaluType.{nalu_type_number}
use Rattle.hevc_records.specs.SliceHeader.{PlainSliceSegmentHeader}
use Rattle.hevc_spec.specs.Payload.{bits, IsReached}
use Rattle.hevc_spec.specs.Table.{gives}
use Rattle.hevc_spec.proofs.PlaceLaws.{is_reached}
use Rattle.hevc_tables.specs.SliceHeaderTable.{with_sizes}
use Rattle.hevc_elements.specs.Scan.{left}
use Rattle.hevc_picture_slice.specs.SliceHeader.{plain_slice_header}
use Rattle.hevc_slice_header.specs.Kept.{kept_active_sets}
use Rattle.hevc_slice_header.proofs.Dropped.{few_between, sized}
use Rattle.hevc_slice_header.proofs.Answered.{header_refused, header_read}
use Rattle.hevc_slice_header.proofs.slice_header.read_payload.Goals as goal

-- no more 03 bytes are dropped than bits are read
pub overflow_cast-num_epb : goal.overflow_cast-num_epb
overflow_cast-num_epb c =
    let p = c.new-r.result.place in
    let q = c.read_aligned.new.r.place in
    let reached : IsReached p q = is_reached _ _ c.in-Ok.ensures.moves in
    let few = few_between c.args.payload.now p q c.new-r.ensures.place reached in
    grind (arith, few, c.in-Ok.ensures.few, c.num_epb.ensures.value)

-- the header with its sizes
pub returns-in-Ok-clause-read : goal.returns-in-Ok-clause-read
returns-in-Ok-clause-read c =
    let p = c.new-r.result.place in
    let q = c.read_aligned.new.r.place in
    let rest = bits q in
    let h = plain_slice_header c.read_aligned.new.h in
    let kept = kept_active_sets c.args.ppses.now c.args.spses.now in
    let all = header_read (nalu_type_number c.args.nalu_type) c.args.payload.now kept
    (left c.new-r.result) c.new-r.result.telling c.read_aligned.new.r h c.in-Ok.ensures.read in
    let reached : IsReached p q = is_reached _ _ c.in-Ok.ensures.moves in
    let size : c.bits_between.result ≡ length (bits p) - length rest =
    rw (← c.fork-start.ensures, ← c.fork.ensures) c.bits_between.ensures in
    let same : with_sizes c.args.payload.now h (length (bits p) - length rest) ≡ plain_slice_header c.set_sizes.new.h =
    sized c.args.payload.now p q c.new-r.ensures.place reached h
    ∙ ap (λ (n : ℕ). record h { header_bit_size = 16 + n; n_emulation_prevention_bytes = q.dropped }) (sym size)
    ∙ ap (λ (n : ℕ). record h {
      header_bit_size = 16 + c.bits_between.result;
      n_emulation_prevention_bytes = n;
    }) (sym c.num_epb.ensures.value)
    ∙ sym c.set_sizes.ensures.set in
    (rest, rw (← c.new-r.ensures.payload) (all ∙ ap (λ (x : PlainSliceSegmentHeader). gives x rest) same))

-- a refusal
pub returns-clause-read : goal.returns-clause-read
returns-clause-read c =
    let kept = kept_active_sets c.args.ppses.now c.args.spses.now in
    rw (← c.new-r.ensures.payload)
    (header_refused (nalu_type_number c.args.nalu_type) c.args.payload.now kept
    (left c.new-r.result) c.new-r.result.telling c.read_aligned.new.r c.in-Err.error c.in-Err.ensures.read)
