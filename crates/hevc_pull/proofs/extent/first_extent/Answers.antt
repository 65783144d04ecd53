use Rattle.std.proofs.Common.{ℕ, ap, sym, length, ◌≡◌, ◌+◌, ◌∙◌, List}
use Rattle.hevc_spec.specs.Units.{kept_bytes, units_from}
use Rattle.hevc_bits.specs.FoundUnit.{unit_of, bytes_of}
use Rattle.hevc_pull.proofs.Extents.{found_extent, found_none, no_cut, raw}
use Rattle.hevc_pull.proofs.extent.first_extent.Goals as goal

pub returns-in-Ok : goal.returns-in-Ok
returns-in-Ok c =
    let stream = c.args.bytes.now in
    let u = c.in-Ok.unit in
    let found = found_extent c.args.from stream (unit_of u) (units_from raw (u.offset + u.size) stream)
    c.in-Ok.ensures.next.first in
    let size : c.own_size.result ≡ length (kept_bytes (bytes_of u)) =
    c.own_size.ensures.value ∙ ap (λ (b : List ℕ). length (kept_bytes b)) c.as_ref.ensures.value in
    c.extent_at.ensures
    ∙ ap (λ (n : ℕ). record { offset = c.offset.result; size = n; next = c.offset.result + n }) size
    ∙ ap (λ (o : ℕ). record {
      offset = o;
      size = length (kept_bytes (bytes_of u));
      next = o + length (kept_bytes (bytes_of u));
    }) c.offset.ensures.value
    ∙ sym found

pub returns-in-Err : goal.returns-in-Err
returns-in-Err c =
    let stream = c.args.bytes.now in
    let none = no_cut (record {}) c.next-found.result c.in-Err.field-0 (units_from raw c.args.from stream) c.in-Err.is
    c.next-found.ensures.none c.next-found.ensures.refused in
    c.no_extent.ensures ∙ sym (found_none c.args.from stream none)
