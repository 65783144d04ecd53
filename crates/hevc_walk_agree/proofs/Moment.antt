-- One more unit that isn't refused.
use Rattle.std.proofs.Common.{◌≡◌, ℕ, ◌+◌, List, [], ◌∷◌, ◌++◌, length, sym, ◌∙◌, ap, subst, None, add-zero, zero-add}
use Rattle.hevc_walk.specs.Meanings.{Meaning}
use Rattle.hevc_walk.specs.Pictures.{Stream, with_unit, nothing_yet, stream, stream_from}
use Rattle.hevc_walk.specs.Refusals.{refusal}
use Rattle.hevc_walk_units.specs.Units.{unit_part, is_full_at}
use Rattle.hevc_walk_agree.specs.Standings.{standing, Takes}
use Rattle.hevc_walk_agree.proofs.Joined.{Outcome, outcome, next-place}

pub stream-last : (k : ℕ) (v : Stream) (us : List Meaning) (x : Meaning)
    → stream_from k v (us ++ x ∷ []) ≡ with_unit (k + length us) x (stream_from k v us)
stream-last k v [] x = ap (λ (n : ℕ). with_unit n x v) (sym (add-zero k))
stream-last k v (u ∷ us) x = stream-last (k + 1) (with_unit k u v) us x
    ∙ ap (λ (n : ℕ). with_unit n x (stream_from (k + 1) (with_unit k u v) us)) (next-place k u us)

pub moment : (us : List Meaning) (x : Meaning) → refusal (stream us) x ≡ None
    → Takes (length us) (stream us) (unit_part x (standing (stream us)))
    (is_full_at x (standing (stream us))) (stream (us ++ x ∷ []))
moment us x none =
    let v = stream us in
    let taken : Outcome (length us) v (unit_part x (standing v)) (is_full_at x (standing v))
    (with_unit (length us) x v) None =
    subst (Outcome (length us) v (unit_part x (standing v)) (is_full_at x (standing v))
    (with_unit (length us) x v)) none (outcome (length us) v x) in
    subst (λ (w : Stream). Takes (length us) v (unit_part x (standing v)) (is_full_at x (standing v)) w)
    (sym (stream-last 0 nothing_yet us x ∙ ap (λ (n : ℕ). with_unit n x v) (zero-add (length us)))) taken
