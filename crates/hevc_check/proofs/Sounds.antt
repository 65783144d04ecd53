-- What holds between two calls goes on holding.
use Rattle.std.proofs.Common.{◌≡◌, ℕ, ◌+◌, ◌≤◌, ◌<◌, List, [], ◌∷◌, ◌++◌, sym, ◌∙◌, subst, arith, Option, Some, None}
use Rattle.std.specs.Prelude.{Contains, IfSome, option_map}
use Rattle.std.specs.declared.collections.VecDeque.{VecDeque}
use Rattle.std.specs.VecDeque.{deque_capacity}
use Rattle.std.proofs.lemmas.List.{length-map}
use Rattle.std.proofs.lemmas.List.Elements.{All-nil}
use Rattle.hevc_walk.specs.Walk.{accepted_size}
use Rattle.hevc_dpb.specs.declared.dpb.Dpb.{Dpb}
use Rattle.hevc_dpb.specs.declared.entry.DpbEntry.{DpbEntry}
use Rattle.hevc_dpb.specs.Entries.{IsPartOf, tickets}
use Rattle.hevc_dpb.specs.Plain.{HaveLatency, plain_entry}
use Rattle.hevc_dpb.specs.Views.{stored_entries, max_num_pics_of, room_of, buffer_of}
use Rattle.hevc_bumping.specs.declared.frame.Frame.{Frame}
use Rattle.hevc_bumping.specs.Bumps.{num_waiting}
use Rattle.hevc_bumping.proofs.Steps.{few_wait}
use Rattle.hevc_backend.specs.declared.negotiation.NegotiationInfo.{NegotiationInfo}
use Rattle.hevc_backend.specs.Negotiation.{format_of}
use Rattle.hevc_driver.specs.declared.head.Head.{Head}
use Rattle.hevc_driver.specs.declared.head.Context.{Context}
use Rattle.hevc_driver.specs.Sound.{AreBelow}
use Rattle.hevc_driver.proofs.Soundness.{below_part, stored_below}
use Rattle.hevc_check.specs.Places.{IsSound}

abbrev U : Type 0
U = Unit {0}

newest_part : (latest : Option Head) (n : ℕ) (ts us : List (ℕ × U)) → IsPartOf us ts
    → IfSome latest (λ h. AreBelow h.number ts × (h.number < n))
    → IfSome latest (λ h. AreBelow h.number us × (h.number < n))
newest_part None n ts us part h = tt
newest_part (Some p) n ts us part h = (below_part p.number p.number ts us h.0 (omega arith) part, h.1)

-- pictures leave, or other marks are made, and none comes in
pub left_sound : {Z : Type 0} (a b : Option NegotiationInfo) (old new : Dpb U) (out rest : VecDeque (Frame U) Z)
    (latest : Option Head) (next : Context)
    → IsSound a old out latest next → max_num_pics_of new ≡ accepted_size (option_map format_of b)
    → HaveLatency (stored_entries new) → room_of new ≡ room_of old → deque_capacity rest ≡ deque_capacity out
    → IsPartOf (tickets (stored_entries new)) (tickets (stored_entries old)) → IsSound b new rest latest next
left_sound a b old new out rest latest next s size latency room capacity part = record {
  sized = size;
  latency = latency;
  stored = (let r = s.stored in omega (arith, r, room));
  queue = (let q = s.queue in omega (arith, q, capacity));
  below =
      below_part next.number next.number (tickets (stored_entries old)) (tickets (stored_entries new)) s.below
      (omega arith) part;
  newest = newest_part latest next.number (tickets (stored_entries old)) (tickets (stored_entries new)) part s.newest;
}

pub none_part : (ts : List (ℕ × U)) (es : List (DpbEntry U)) → es ≡ [] → IsPartOf (tickets es) ts
none_part ts es none = λ x k.
    let c : Contains [] x = subst (λ (l : List (DpbEntry U)). Contains (tickets l) x) none k in
    let l : c.0 < 0 = c.1 in
    absurd (omega (arith, l))

pub none_latency : (es : List (DpbEntry U)) → es ≡ [] → HaveLatency es
none_latency es none = subst HaveLatency (sym none) (All-nil _)

-- there is room for all that may wait
pub few_waiting : (dpb : Dpb U) → num_waiting (buffer_of dpb) ≤ 16
few_waiting dpb =
    let most = few_wait (buffer_of dpb) in
    let same = length-map (stored_entries dpb) plain_entry in
    let few = dpb.few in
    omega (arith, most, same, few)

-- the latest picture is over
pub ended_sound : {Z : Type 0} (a : Option NegotiationInfo) (dpb : Dpb U) (out : VecDeque (Frame U) Z)
    (latest : Option Head) (next : Context) → IsSound a dpb out latest next → IsSound a dpb out None next
ended_sound a dpb out latest next s =
    record { sized = s.sized; latency = s.latency; stored = s.stored; queue = s.queue; below = s.below; newest = tt }

-- its number is another than those that are stored, and it is counted
pub newest_some : {Z : Type 0} (a : Option NegotiationInfo) (dpb : Dpb U) (out : VecDeque (Frame U) Z)
    (latest : Option Head) (next : Context) (p : Head) → IsSound a dpb out latest next → latest ≡ Some p
    → AreBelow p.number (tickets (stored_entries dpb)) × (p.number < next.number)
newest_some a dpb out latest next p s is =
    subst (λ (l : Option Head). IfSome l
    (λ h. AreBelow h.number (tickets (stored_entries dpb)) × (h.number < next.number))) is s.newest

-- it was stored
pub stored_sound : {Z : Type 0} (a : Option NegotiationInfo) (dpb new : Dpb U) (out : VecDeque (Frame U) Z)
    (latest : Option Head) (next : Context) (p : Head) → IsSound a dpb out latest next → latest ≡ Some p
    → max_num_pics_of new ≡ max_num_pics_of dpb → HaveLatency (stored_entries new) → room_of new ≡ room_of dpb
    → tickets (stored_entries new) ≡ tickets (stored_entries dpb) ++ (p.number, tt) ∷ []
    → IsSound a new out None next
stored_sound a dpb new out latest next p s is size latency room there = record {
  sized = size ∙ s.sized;
  latency = latency;
  stored = (let r = s.stored in omega (arith, r, room));
  queue = s.queue;
  below =
      stored_below next.number (tickets (stored_entries dpb)) (tickets (stored_entries new)) (p.number, tt) s.below
      (newest_some a dpb out latest next p s is).1 there;
  newest = tt;
}

-- the next picture has begun
pub begun_sound : {Z : Type 0} (a : Option NegotiationInfo) (dpb : Dpb U) (out : VecDeque (Frame U) Z)
    (latest : Option Head) (next after : Context) (p : Head) → IsSound a dpb out latest next → p.number ≡ next.number
    → after.number ≡ p.number + 1 → IsSound a dpb out (Some p) after
begun_sound a dpb out latest next after p s same more = record {
  sized = s.sized;
  latency = s.latency;
  stored = s.stored;
  queue = s.queue;
  below =
      below_part next.number after.number (tickets (stored_entries dpb)) (tickets (stored_entries dpb)) s.below
      (omega (arith, same, more)) (λ x k. k);
  newest = (
    below_part next.number p.number (tickets (stored_entries dpb)) (tickets (stored_entries dpb)) s.below
        (omega (arith, same)) (λ x k. k),
    omega (arith, more),
  );
}
