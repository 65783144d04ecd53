use Rattle.std.proofs.Common.{◌≡◌, ◌≤◌, ◌+◌, ℕ, sym, ap, ◌∙◌, arith, length}
use Rattle.hevc_bits.specs.FoundUnit.{bytes_of}
use Rattle.hevc_pull.proofs.Extents.{long}
use Rattle.hevc_pull.proofs.extent.extent_of.Goals as goal

pub returns : goal.returns
returns c =
    let u = c.args.nalu.now in
    let size = c.size.ensures in
    let inside : u.offset + u.size ≤ length u.stream = omega (arith, size.value, size.within) in
    let same : c.size.result ≡ length (bytes_of u) =
    size.value ∙ sym (long u.offset u.size u.stream inside) in
    c.extent_at.ensures
    ∙ ap (λ (n : ℕ). record { offset = c.offset.result; size = n; next = c.offset.result + n }) same
    ∙ ap (λ (o : ℕ). record { offset = o; size = length (bytes_of u); next = o + length (bytes_of u) })
    c.offset.ensures.value
