-- What a reader reads out of its word.
use Rattle.std.proofs.Common.{◌≡◌, ℕ, ◌+◌, ◌*◌, ◌^◌, ◌<◌, Bool, false, length, refl, subst, ◌∙◌}
use Rattle.hevc_spec.specs.Payload.{Place, bits, IsAhead, IsReached}
use Rattle.hevc_spec.specs.Bits.{found, ended, bits_after}
use Rattle.hevc_spec.proofs.PlaceLaws.{passed}
use Rattle.hevc_spec.proofs.LowBits.{bits_after-ended}
use Rattle.hevc_bits.specs.declared.word.Word.{Word}
use Rattle.hevc_bits.specs.Cached.{place_of, Fills, Takes}

pub record Reads (num value : ℕ) (old new : Place) : Type 0 where
  pub spells : (front : ℕ) → bits_after front num (bits old) ≡ found (front * 2 ^ num + value) (bits new)
  pub ahead : IsAhead old new
  pub reached : IsReached old new

pub taken_reads : (num value : ℕ) (p : Place) (old new : Word) → place_of old ≡ p → Takes num value old new
    → Reads num value p (place_of new)
taken_reads num value p old new here t =
    let k = passed num (place_of old) (place_of new) t.passes in
    subst (λ (q : Place). Reads num value q (place_of new)) here (record {
      spells = t.spells;
      ahead = k.ahead;
      reached = k.reached;
    })

pub reads : (num value : ℕ) (enough : Bool) (p : Place) (old mid new : Word) → place_of old ≡ p
    → Fills num enough old mid → Takes num value mid new → Reads num value p (place_of new)
reads num value enough p old mid new here f t = taken_reads num value p mid new (f.same ∙ here) t

pub refuses : (num front : ℕ) (p : Place) (old mid : Word) → place_of old ≡ p → Fills num false old mid
    → (bits_after front num (bits p) ≡ ended) × (place_of mid ≡ p)
refuses num front p old mid here f =
    let few : length (bits p) < num = subst (λ (q : Place). length (bits q) < num) here (f.ends refl) in
    (bits_after-ended front num (bits p) few, f.same ∙ here)
