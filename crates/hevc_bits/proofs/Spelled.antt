-- What was read is the number whose spelling is at the front.
use Rattle.std.proofs.Common.{◌≡◌, ℕ, ◌≤◌, Bool, List, Result, Ok, Err}
use Rattle.std.specs.Prelude.{IfOk}
use Rattle.hevc_spec.specs.Payload.{Place, bits}
use Rattle.hevc_spec.specs.Bits.{ue, IsAtFront, ue_at}
use Rattle.hevc_reading_laws.proofs.Spellings.{ue_at-front, ue_at-spelled}
use Rattle.hevc_bits.specs.declared.bit_error.BitError.{BitError}
use Rattle.hevc_bits.specs.declared.bit_error.BitError.TheVariants.{OutOfBits, OutOfRange}
use Rattle.hevc_bits.specs.Reading.{Finds}

pub is_spelled : (r : Result ℕ BitError) (old new : Place) → Finds (λ n. n) r old new (ue_at (bits old))
    → IfOk r (λ n. IsAtFront ue n (bits old) (bits new))
is_spelled (Ok n) old new e = ue_at-front (bits old) n (bits new) e
is_spelled (Err e) old new f = tt

pub is_only : (r : Result ℕ BitError) (old new : Place) → Finds (λ n. n) r old new (ue_at (bits old))
    → (v : ℕ) (rest : List Bool) → IsAtFront ue v (bits old) rest → v ≤ 2147483647 → (r ≡ Ok v) × (bits new ≡ rest)
is_only (Ok n) old new e v rest s small = let g = ue_at-spelled (bits old) v rest s small in (cc, cc)
is_only (Err OutOfBits) old new e v rest s small = let g = ue_at-spelled (bits old) v rest s small in
    let f = e.0 in absurd cc
is_only (Err OutOfRange) old new e v rest s small = let g = ue_at-spelled (bits old) v rest s small in
    let f = e.0 in absurd cc
