-- How many pictures are output in one call.
use Rattle.std.proofs.Common.{◌≡◌, ℕ, ◌+◌, ◌≤◌, length, arith, ap}
use Rattle.std.proofs.lemmas.List.{length-map}
use Rattle.hevc_dpb.specs.declared.dpb.Dpb.{Dpb}
use Rattle.hevc_dpb.specs.Plain.{plain_entry}
use Rattle.hevc_dpb.specs.Views.{stored_entries, buffer_of}
use Rattle.hevc_bumping.specs.Bumps.{num_waiting}
use Rattle.hevc_bumping.proofs.Steps.{few_wait}
use Rattle.hevc_driver.specs.declared.standing.Standing as driver
use Rattle.hevc_driver.specs.Sound.{total, Grows}
use Rattle.hevc_stateless.specs.Views.{View}

at_most_16 : {P : Type 0} (d : Dpb P) → num_waiting (buffer_of d) ≤ 16
at_most_16 d = omega (arith, few_wait (buffer_of d), length-map (stored_entries d) plain_entry, d.few)

-- those that waited, and so many more
pub few_came : {B H P : Type 0} (n : ℕ) (v : View B H) (a b c : driver.Standing H P)
    → a.queue.items ≡ v.queue → total b ≡ total a → Grows n b c → n ≤ 1 → length c.queue.items ≤ length v.queue + 17
few_came n v a b c is same grows few = let queued = ap (λ l. length l) is in
    omega (arith, at_most_16 a.dpb, same, grows.few, few, queued)
