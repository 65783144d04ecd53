-- One output more, as bumping goes on.
use Rattle.std.proofs.Common.{◌≡◌, ⊎_elim, ℕ, ℤ, suc, ◌+◌, ◌≤◌, Bool, true, false, cond, List, []}
use Rattle.std.proofs.Common.{◌∷◌, ◌++◌, length, map, take, refl, sym, ap, ◌∙◌, subst, arith}
use Rattle.std.specs.Prelude.{Option, Some, None, Contains, ◌==◌, if◌then◌else◌}
use Rattle.std.specs.Option.{option_map}
use Rattle.std.proofs.lemmas.List.{append_assoc, map-append, append-nil, length-append, length-map}
use Rattle.hevc_walk.specs.Buffer.{Entry, Buffer, in_output_order, after_output, placed, due_outputs, bumping, Bumped}
use Rattle.hevc_walk_bumps.specs.Steps as steps
use Rattle.hevc_walk_bumps.specs.Steps.{after_one}
use Rattle.hevc_walk_bumps.proofs.Bumps.{one_more, over, order_after_one}
use Rattle.hevc_dpb.specs.declared.entry.DpbEntry.{DpbEntry}
use Rattle.hevc_dpb.specs.declared.dpb.Dpb.{Dpb}
use Rattle.hevc_dpb.specs.Numbers.{Absent, Distinct}
use Rattle.hevc_dpb.specs.Entries.{IsPartOf, numbers, ticket, tickets}
use Rattle.hevc_dpb.specs.Output.{first_in, as_output, behind_output, left_behind, stays}
use Rattle.hevc_dpb.specs.Plain.{plain_entry, plain_entries, plain_output, HaveLatency}
use Rattle.hevc_dpb.specs.Sublists.{IsSublist, nothing, kept, left_out}
use Rattle.hevc_dpb.specs.Views.{stored_entries, max_num_pics_of, room_of, buffer_of}
use Rattle.hevc_dpb.proofs.Sublists.{sublist_all, sublist_part}
use Rattle.hevc_dpb.proofs.Members.{contains_first, contains_later, contains_cases}
use Rattle.std.specs.declared.collections.VecDeque.{VecDeque}
use Rattle.std.specs.VecDeque.{deque_capacity}
use Rattle.hevc_walk.specs.Buffer.{shortest_front, draining}
use Rattle.hevc_bumping.specs.declared.frame.Frame.{Frame}
use Rattle.hevc_bumping.specs.Frames.{frame_of, frame_ticket, frame_output, entry_output}
use Rattle.hevc_bumping.specs.Bumps.{Bumps, num_waiting}

plain_absent : {T : Type 0} (n : ℕ) (es : List (DpbEntry T)) → Absent n (numbers es) → steps.Absent n (plain_entries es)
plain_absent n [] h = tt
plain_absent n (e ∷ es) h = (h.0, plain_absent n es h.1)

pub plain_distinct : {T : Type 0} (es : List (DpbEntry T)) → Distinct (numbers es) → steps.Distinct (plain_entries es)
plain_distinct [] d = tt
plain_distinct (e ∷ es) d = (plain_absent e.number es d.0, plain_distinct es d.1)

-- what one output does
pub record Step (rule : Buffer → Bool) (es left : Buffer) (x : Entry) : Type 0 where
  pub given : map entry_output (bumping rule es).outputs ≡ entry_output x ∷ map entry_output (bumping rule left).outputs
  pub left_is : (bumping rule es).left ≡ (bumping rule left).left
  pub fewer : length (in_output_order left) + 1 ≡ length (in_output_order es)

step_by : (rule : Buffer → Bool) (es : Buffer) (x : Entry) → steps.Distinct es → rule es ≡ true
    → (os : List Entry) → in_output_order es ≡ os → Some x ≡ option_map plain_output (first_in os)
    → Step rule es (after_one es) x
step_by rule es x distinct holds [] order is = absurd (cc is)
step_by rule es x distinct holds (e ∷ rest) order is =
    let first : x ≡ plain_output e = cc is in
    let more = one_more rule es e rest distinct order holds in
    record {
      given = ap (λ (b : Bumped). map entry_output b.outputs) more
          ∙ ap (λ (y : Entry). entry_output y ∷ map entry_output (bumping rule (after_one es)).outputs) (sym first);
      left_is = ap (λ (b : Bumped). b.left) more;
      fewer = (let a = ap length (order_after_one es e rest distinct order) in let b = ap length order in
          omega (arith, a, b));
    }

pub step : (rule : Buffer → Bool) (es left : Buffer) (x : Entry) → steps.Distinct es → rule es ≡ true
    → Some x ≡ option_map plain_output (first_in (in_output_order es)) → left ≡ after_one es → Step rule es left x
step rule es left x distinct holds is same =
    subst (λ (b : Buffer). Step rule es b x) (sym same) (step_by rule es x distinct holds (in_output_order es) refl is)

-- nothing is needed for output
none_in : (os : List Entry) → None ≡ option_map plain_output (first_in os) → os ≡ []
none_in [] is = refl
none_in (e ∷ os) is = absurd (cc is)

pub none_waits : (es : Buffer) → None ≡ option_map plain_output (first_in (in_output_order es))
    → in_output_order es ≡ []
none_waits es is = none_in (in_output_order es) is

all_stay : (es : Buffer) → after_output [] es ≡ es
all_stay [] = refl
all_stay (e ∷ es) = ap (λ (l : Buffer). e ∷ l) (all_stay es)

pub stays_whole : (es : Buffer) → in_output_order es ≡ [] → after_one es ≡ es
stays_whole es is = ap (λ (l : List Entry). after_output (take 1 l) es) is ∙ all_stay es

-- at most as many wait as are stored
pub placed_length : (e : Entry) (fs : Buffer) → length (placed e fs) ≡ suc (length fs)
placed_length e [] = refl
placed_length e (f ∷ fs) = by_test _ (placed_length e fs)
  where
    by_test : (b : Bool) → length (placed e fs) ≡ suc (length fs)
        → length (cond b (f ∷ placed e fs) (e ∷ f ∷ fs)) ≡ suc (length (f ∷ fs))
    by_test true is = ap suc is
    by_test false is = refl

wait_by : (b : Bool) (e : Entry) (fs es : Buffer) → length fs ≤ length es
    → length (cond b (placed e fs) fs) ≤ length (e ∷ es)
wait_by true e fs es h = let l = placed_length e fs in omega (arith, l)
wait_by false e fs es h = omega arith

pub few_wait : (es : Buffer) → length (in_output_order es) ≤ length es
few_wait [] = omega arith
few_wait (e ∷ es) = wait_by e.needed_for_output e (in_output_order es) es (few_wait es)

-- as far as bumping has come
pub record Progress {H Z : Type 0} (rule : Buffer → Bool) (old now : Dpb H)
    (before queue : VecDeque (Frame H) Z) : Type 0 where
  pub out : List (Frame H)
  pub appended : queue.items ≡ before.items ++ out
  pub given : map frame_output out ++ map entry_output (bumping rule (buffer_of now)).outputs
      ≡ map entry_output (bumping rule (buffer_of old)).outputs
  pub left : (bumping rule (buffer_of now)).left ≡ (bumping rule (buffer_of old)).left
  pub out_handles : IsPartOf (map frame_ticket out) (tickets (stored_entries old))
  pub handles : IsPartOf (tickets (stored_entries now)) (tickets (stored_entries old))
  pub entries : IsPartOf (map as_output (stored_entries now)) (map as_output (stored_entries old))
  pub size : max_num_pics_of now ≡ max_num_pics_of old
  pub room : room_of now ≡ room_of old
  pub latency : HaveLatency (stored_entries now)
  pub capacity : deque_capacity queue ≡ deque_capacity before
  pub fewer : length out + num_waiting (buffer_of now) ≡ num_waiting (buffer_of old)

-- what one output leaves of a buffer but its entries
pub record LeavesRest {H : Type 0} (mid now : Dpb H) : Type 0 where
  pub handles : IsSublist (tickets (stored_entries now)) (tickets (stored_entries mid))
  pub entries : IsSublist (map as_output (stored_entries now)) (map as_output (stored_entries mid))
  pub size : max_num_pics_of now ≡ max_num_pics_of mid
  pub room : room_of now ≡ room_of mid
  pub latency : HaveLatency (stored_entries now)

-- an entry that is output leaves, or is no longer needed for output; the others stay
left_by : {H : Type 0} (e : DpbEntry H) (es ys : List (DpbEntry H)) (is stays : Bool)
    → IsSublist (map as_output es) ys
    → IsSublist (map as_output ((if is then (if stays then as_output e ∷ [] else []) else e ∷ []) ++ es))
    (as_output e ∷ ys)
left_by e es ys true true s = kept (as_output e) (map as_output es) ys s
left_by e es ys true false s = left_out (as_output e) (map as_output es) ys s
left_by e es ys false stays s = kept (as_output e) (map as_output es) ys s

left_entries : {H : Type 0} (flush : Bool) (n : ℕ) (es : List (DpbEntry H))
    → IsSublist (map as_output (left_behind flush n es)) (map as_output es)
left_entries flush n [] = nothing
left_entries flush n (e ∷ es) =
    left_by e (left_behind flush n es) (map as_output es) (n == e.number) (stays flush e) (left_entries flush n es)

pub output_entries : {H : Type 0} (flush : Bool) (o : Option (DpbEntry H)) (es new : List (DpbEntry H))
    → new ≡ behind_output flush o es → IsSublist (map as_output new) (map as_output es)
output_entries flush o es new is = subst (λ l. IsSublist (map as_output l) (map as_output es)) (sym is) (by o)
  where
    by : (o : Option (DpbEntry _)) → IsSublist (map as_output (behind_output flush o es)) (map as_output es)
    by None = sublist_all (map as_output es)
    by (Some e) = left_entries flush e.number es

one_among : {H : Type 0} (out : List (Frame H)) (f : Frame H) (ts : List (ℕ × H))
    → IsPartOf (map frame_ticket out) ts → Contains ts (frame_ticket f) → IsPartOf (map frame_ticket (out ++ f ∷ [])) ts
one_among [] f ts h here = λ x k. ⊎_elim (λ is. subst (Contains ts) is here)
    (λ none. absurd (let l = none.1 in omega arith)) (contains_cases (frame_ticket f) x [] k)
one_among (g ∷ out) f ts h here =
    λ x k. ⊎_elim
    (λ is. h x (subst (Contains (map frame_ticket (g ∷ out))) is
    (contains_first (frame_ticket g) (map frame_ticket out))))
    (λ rest. one_among out f ts
    (λ y m. h y (contains_later (frame_ticket g) y (map frame_ticket out) m)) here x rest)
    (contains_cases (frame_ticket g) x (map frame_ticket (out ++ f ∷ [])) k)

module _ {H Z : Type 0} (rule : Buffer → Bool) where
  pub begun : (dpb : Dpb H) (queue : VecDeque (Frame H) Z) → HaveLatency (stored_entries dpb)
      → Progress rule dpb dpb queue queue
  begun dpb queue h = record {
    out = [];
    appended = sym (append-nil queue.items);
    given = refl;
    left = refl;
    out_handles = λ x k. absurd (let l = k.1 in omega arith);
    handles = λ x k. k;
    entries = λ x k. k;
    size = refl;
    room = refl;
    latency = h;
    capacity = refl;
    fewer = (let n : length {A = Frame H} [] ≡ 0 = refl in omega (arith, n));
  }

  pub ended : (old now : Dpb H) (before queue : VecDeque (Frame H) Z) → Progress rule old now before queue
      → bumping rule (buffer_of now) ≡ steps.nothing_output (buffer_of now)
      → Bumps (bumping rule (buffer_of old)) old now before queue
  ended old now before queue p over = record {
    out = p.out;
    appended = p.appended;
    given = sym (append-nil (map frame_output p.out))
        ∙ ap (λ (b : Bumped). map frame_output p.out ++ map entry_output b.outputs) (sym over) ∙ p.given;
    left = sym (ap (λ (b : Bumped). b.left) over) ∙ p.left;
    out_handles = p.out_handles;
    handles = p.handles;
    entries = p.entries;
    size = p.size;
    room = p.room;
    latency = p.latency;
    capacity = p.capacity;
    fewer = p.fewer;
  }

  pub onward : (old mid now : Dpb H) (before queue more : VecDeque (Frame H) Z) (e : DpbEntry H)
      → Progress rule old mid before queue → Step rule (buffer_of mid) (buffer_of now) (plain_entry e)
      → more.items ≡ queue.items ++ frame_of e ∷ [] → deque_capacity more ≡ deque_capacity queue
      → Contains (tickets (stored_entries mid)) (ticket e) → LeavesRest mid now → Progress rule old now before more
  onward old mid now before queue more e p s is capacity here rest = record {
    out = p.out ++ frame_of e ∷ [];
    appended = is ∙ ap (λ l. l ++ frame_of e ∷ []) p.appended ∙ append_assoc before.items p.out (frame_of e ∷ []);
    given = ap (λ (l : List (ℕ × ℤ)). l ++ map entry_output (bumping rule (buffer_of now)).outputs)
        (map-append frame_output p.out (frame_of e ∷ []))
        ∙ append_assoc (map frame_output p.out) (frame_output (frame_of e) ∷ [])
        (map entry_output (bumping rule (buffer_of now)).outputs)
        ∙ ap (λ (l : List (ℕ × ℤ)). map frame_output p.out ++ l) (sym s.given) ∙ p.given;
    left = sym s.left_is ∙ p.left;
    out_handles = one_among p.out (frame_of e) (tickets (stored_entries old)) p.out_handles (p.handles (ticket e) here);
    handles = λ x k. p.handles x (sublist_part rest.handles x k);
    entries = λ x k. p.entries x (sublist_part rest.entries x k);
    size = rest.size ∙ p.size;
    room = rest.room ∙ p.room;
    latency = rest.latency;
    capacity = capacity ∙ p.capacity;
    fewer = (let l = length-append p.out (frame_of e ∷ []) in omega (arith, l, s.fewer, p.fewer));
  }

  -- nothing was output
  pub unchanged : (old mid now : Dpb H) (before queue : VecDeque (Frame H) Z)
      → Progress rule old mid before queue → buffer_of now ≡ buffer_of mid → LeavesRest mid now
      → Progress rule old now before queue
  unchanged old mid now before queue p same rest = record {
    out = p.out;
    appended = p.appended;
    given = ap (λ (b : Buffer). map frame_output p.out ++ map entry_output (bumping rule b).outputs) same ∙ p.given;
    left = ap (λ (b : Buffer). (bumping rule b).left) same ∙ p.left;
    out_handles = p.out_handles;
    handles = λ x k. p.handles x (sublist_part rest.handles x k);
    entries = λ x k. p.entries x (sublist_part rest.entries x k);
    size = rest.size ∙ p.size;
    room = rest.room ∙ p.room;
    latency = rest.latency;
    capacity = p.capacity;
    fewer = ap (λ (b : Buffer). length p.out + num_waiting b) same ∙ p.fewer;
  }

-- ---- all that is needed for output

all_due : (xs : List Entry) → shortest_front (λ (outputs : List Entry). false) xs ≡ xs
all_due [] = refl
all_due (x ∷ xs) = ap (λ (l : List Entry). x ∷ l) (all_due xs)

-- bumping that always goes on outputs all that is needed for output
pub all_output : (es : Buffer) → (bumping (λ (b : Buffer). true) es).outputs ≡ (draining es).outputs
unfolding due_outputs
all_output es = all_due (in_output_order es)

none_latent : {H : Type 0} (es : List (DpbEntry H)) → es ≡ [] → HaveLatency es
none_latent es is = subst HaveLatency (sym is) (λ k d lt. absurd (omega (arith, lt)))

none_entries : {H : Type 0} (es os : List (DpbEntry H)) → es ≡ [] → IsPartOf (map as_output es) os
none_entries es os is = subst (λ l. IsPartOf (map as_output l) os) (sym is) (λ x k. absurd (let l = k.1 in omega arith))

none_part : {H : Type 0} (es : List (DpbEntry H)) (ts : List (ℕ × H)) → es ≡ [] → IsPartOf (tickets es) ts
none_part es ts is = subst (λ l. IsPartOf (tickets l) ts) (sym is) (λ x k. absurd (let l = k.1 in omega arith))

-- what is left is cleared away
pub drained : {H Z : Type 0} (old mid new : Dpb H) (before now : VecDeque (Frame H) Z)
    → Bumps (bumping (λ (b : Buffer). true) (buffer_of old)) old mid before now → stored_entries new ≡ []
    → max_num_pics_of new ≡ max_num_pics_of mid → room_of new ≡ room_of mid
    → Bumps (draining (buffer_of old)) old new before now
drained old mid new before now p none size room =
    let given = p.given ∙ ap (map entry_output) (all_output (buffer_of old)) in
    record {
      out = p.out;
      appended = p.appended;
      given = given;
      left = ap (map plain_entry) none;
      out_handles = p.out_handles;
      handles = none_part (stored_entries new) (tickets (stored_entries old)) none;
      entries = none_entries (stored_entries new) (map as_output (stored_entries old)) none;
      size = size ∙ p.size;
      room = room ∙ p.room;
      latency = none_latent (stored_entries new) none;
      capacity = p.capacity;
      fewer = (let l = ap length given in let a = length-map p.out frame_output in
          let b = length-map (in_output_order (buffer_of old)) entry_output in let n =
          ap num_waiting (ap (map plain_entry) none) in omega (arith, l, a, b, n));
    }
