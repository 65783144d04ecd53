-- What holds between two calls goes on holding.
use Rattle.std.proofs.Common.{◌≡◌, ⊎_elim, ℕ, zero, suc, map, if◌then◌else◌, ◌+◌, ◌<◌, ◌≤◌, Bool}
use Rattle.std.proofs.Common.{true, false, List, [], ◌∷◌, ◌++◌, refl, sym, ap, ◌∙◌, subst, arith}
use Rattle.std.proofs.Common.{Option, Some, None}
use Rattle.std.specs.Prelude.{Contains, option_map, length}
use Rattle.std.specs.declared.collections.VecDeque.{VecDeque}
use Rattle.std.specs.VecDeque.{deque_len}
use Rattle.std.proofs.lemmas.List.{length-append}
use Rattle.std.proofs.lemmas.List.Elements.{Contains-push_cases}
use Rattle.hevc_walk.specs.Buffer.{Bumped, Buffer, Entry, in_output_order, with_latency, with_stored, entry_of}
use Rattle.hevc_walk.specs.Pictures.{Head}
use Rattle.hevc_walk.specs.Refusals.{ChangedMidPicture}
use Rattle.hevc_walk_units.specs.Units.{changed_by}
use Rattle.hevc_dpb.specs.Numbers.{Absent}
use Rattle.hevc_dpb.proofs.Members.{contains_first, contains_later}
use Rattle.hevc_bumping.proofs.Steps.{few_wait}
use Rattle.hevc_driver.proofs.Rooms.{order_length}
use Rattle.hevc_dpb.specs.declared.dpb.Dpb.{Dpb}
use Rattle.hevc_bumping.specs.declared.frame.Frame.{Frame}
use Rattle.hevc_bumping.specs.Bumps.{Bumps, num_waiting}
use Rattle.hevc_walk.specs.Meanings.{Format, same_format}
use Rattle.hevc_walk.specs.Walk.{is_accepted, accepted_size}
use Rattle.hevc_walk_fates.proofs.Accepted.{same_format-equal}
use Rattle.hevc_walk_units.specs.Units as units
use Rattle.hevc_dpb.specs.declared.entry.DpbEntry.{DpbEntry}
use Rattle.hevc_dpb.specs.Entries.{IsPartOf, numbers, ticket, tickets}
use Rattle.hevc_dpb.specs.Plain.{HaveLatency}
use Rattle.hevc_dpb.specs.Views.{stored_entries, max_num_pics_of, buffer_of}
use Rattle.hevc_backend.specs.declared.call.Call.{Call}
use Rattle.hevc_backend.specs.declared.negotiation.NegotiationInfo.{NegotiationInfo}
use Rattle.hevc_backend.specs.Negotiation.{format_of, info_of}
use Rattle.hevc_backend.specs.Trait.{Counts, CountsEmptyAnswers, Frames, with_question}
use Rattle.hevc_driver.specs.Does.{questioned}
use Rattle.hevc_backend.specs.Told.{Told, WhereTold, BegunPicture}
use Rattle.hevc_backend.proofs.ToldLaws.{told_same}
use Rattle.hevc_driver.specs.declared.current.Current.{Current}
use Rattle.hevc_driver.specs.declared.current.Current.TheVariants.{NoPicture, SkippedPicture, OpenPicture}
use Rattle.hevc_driver.specs.declared.standing.Standing as driver
use Rattle.hevc_driver.specs.Standings.{standing, traces, current_of}
use Rattle.hevc_refs.specs.declared.ref_pic_set.RefPicSet.{RefPicSet}
use Rattle.hevc_refs.specs.Sets.{plain_set}
use Rattle.hevc_walk.specs.ReferenceSets.{names, all_members}
use Rattle.hevc_backend.specs.Trait.{logged}
use Rattle.hevc_backend.specs.Handed.{Handed, dpb_of, plain_dpb, stored_pictures}
use Rattle.hevc_backend.proofs.HandedLaws.{announced_same, announced_more, among_more}
use Rattle.hevc_driver.specs.Sound.{AsAnnounced, IsOpenAnnounced, AreBelow, IsAccepted, IsLatest}
use Rattle.hevc_driver.specs.Sound.{Fits, IsOpenNewest, IsSound, Leaves, Grows}

-- ---- no picture is open

pub none_newest : {H P : Type 0} (set : RefPicSet) (c : Current P) (w : driver.Standing H P)
    → current_of set c ≡ units.NoPicture → IsOpenNewest c w
none_newest set NoPicture w is = tt
none_newest set SkippedPicture w is = tt
none_newest set (OpenPicture o) w is = absurd (cc is)

pub none_latest : {P : Type 0} (set : RefPicSet) (c : Current P) (picture : Option BegunPicture)
    → current_of set c ≡ units.NoPicture → IsLatest c picture
none_latest set NoPicture picture is = tt
none_latest set SkippedPicture picture is = tt
none_latest set (OpenPicture o) picture is = absurd (cc is)

pub none_announced : {P : Type 0} (handed : Option (List Handed)) (set : RefPicSet) (c : Current P)
    → current_of set c ≡ units.NoPicture → IsOpenAnnounced handed c
none_announced handed set NoPicture is = tt
none_announced handed set SkippedPicture is = tt
none_announced handed set (OpenPicture o) is = absurd (cc is)

-- none is, whatever set is there
pub none_with : {P : Type 0} (set other : RefPicSet) (c : Current P) → current_of set c ≡ units.NoPicture
    → current_of other c ≡ units.NoPicture
none_with set other NoPicture is = refl
none_with set other SkippedPicture is = absurd (cc is)
none_with set other (OpenPicture o) is = absurd (cc is)

-- ---- numbers

pub below_part : {H : Type 0} (n m : ℕ) (ts us : List (ℕ × H)) → AreBelow n ts → n ≤ m → IsPartOf us ts → AreBelow m us
below_part n m ts us below more part = λ t k. let l = below t (part t k) in omega (arith, l, more)

-- ---- pictures are output, and some leave

-- the buffer is the walk's, sized by the accepted format
pub sized_dpb : {H P : Type 0} (w : driver.Standing H P)
    → max_num_pics_of w.dpb ≡ accepted_size (option_map format_of w.accepted)
    → plain_dpb w.dpb ≡ dpb_of (standing w).store
sized_dpb w sized = ap (λ (n : ℕ). record { entries = buffer_of w.dpb; max_num_pics = n }) sized

pub left_sound : {H P : Type 0} (log : Option (List (Call H))) (handed : Option (List Handed))
    (old new : driver.Standing H P) → IsSound log handed old
    → current_of old.set old.current ≡ units.NoPicture → Leaves old new → old.next.number ≤ new.next.number
    → IsSound log handed new
left_sound log handed old new s none l more = record {
  announced = record {
    stored = announced_same handed handed (stored_entries new.dpb)
        (stored_entries old.dpb) refl l.pictures s.announced.stored;
    current = none_announced handed old.set new.current (ap (current_of old.set) l.current ∙ none);
  };
  sized = l.size ∙ s.sized ∙ ap (λ (a : Option NegotiationInfo). accepted_size (option_map format_of a))
      (sym l.accepted);
  latency = l.latency;
  below = below_part old.next.number new.next.number (tickets (stored_entries old.dpb))
      (tickets (stored_entries new.dpb)) s.below more l.handles;
  newest = none_newest old.set new.current new (ap (current_of old.set) l.current ∙ none);
  told = told_same refl s.told (λ t h. record {
    handles = λ x k. h.handles x (l.handles x k);
    sequence = subst (λ (a : Option NegotiationInfo). IsAccepted a t.sequence) (sym l.accepted) h.sequence;
    picture = none_latest old.set new.current t.picture (ap (current_of old.set) l.current ∙ none);
  });
}

-- ---- the accepted format

pub accepted_sequence : (named : Format) (accepted : Option NegotiationInfo) (sequence : Option Format)
    → is_accepted named (option_map format_of accepted) ≡ true → IsAccepted accepted sequence → sequence ≡ Some named
accepted_sequence named None sequence is told = absurd (cc is)
accepted_sequence named (Some a) sequence is told = told ∙ ap Some (same_format-equal (format_of a) named is)

pub is_format : (named : Format) (format : NegotiationInfo) (accepted : Option NegotiationInfo)
    → is_accepted named (option_map format_of accepted) ≡ true → format ≡ info_of named → accepted ≡ Some format
is_format named format None is same = absurd (cc is)
is_format named format (Some a) is same = ap Some (ap info_of (same_format-equal (format_of a) named is) ∙ sym same)

-- ---- nothing but room has changed

pub part_same : {H : Type 0} (es fs : List (DpbEntry H)) → fs ≡ es → IsPartOf (tickets fs) (tickets es)
part_same {H} es fs same = λ x k. subst (λ (l : List (DpbEntry H)). Contains (tickets l) x) same k

kept_newest : {H P : Type 0} (c : Current P) (old new : driver.Standing H P) → new.set ≡ old.set
    → stored_entries new.dpb ≡ stored_entries old.dpb → new.accepted ≡ old.accepted
    → new.next.number ≡ old.next.number → IsOpenNewest c old → IsOpenNewest c new
kept_newest NoPicture old new set entries accepted number h = tt
kept_newest SkippedPicture old new set entries accepted number h = tt
kept_newest (OpenPicture o) old new set entries accepted number h = record {
  newer = below_part o.head.number o.head.number (tickets (stored_entries old.dpb))
      (tickets (stored_entries new.dpb)) h.newer (omega arith)
      (part_same (stored_entries old.dpb) (stored_entries new.dpb) entries);
  counted = (let l = h.counted in omega (arith, l, number));
  references =
      λ n k. subst (λ es. Contains (numbers es) n) (sym entries)
      (h.references n (subst (λ (x : RefPicSet). names n (all_members (plain_set x)) ≡ true) set k));
  accepted = accepted ∙ h.accepted;
}

pub same_pictures : {H : Type 0} (es fs : List (DpbEntry H)) → fs ≡ es
    → IsPartOf (stored_pictures fs) (stored_pictures es)
same_pictures {H} es fs same = λ x k. subst (λ (l : List (DpbEntry H)). Contains (stored_pictures l) x) same k

pub kept_sound : {H P : Type 0} (log : Option (List (Call H))) (handed : Option (List Handed))
    (old new : driver.Standing H P) → IsSound log handed old → new.set ≡ old.set
    → stored_entries new.dpb ≡ stored_entries old.dpb → max_num_pics_of new.dpb ≡ max_num_pics_of old.dpb
    → new.accepted ≡ old.accepted → new.current ≡ old.current → new.next.number ≡ old.next.number
    → IsSound log handed new
kept_sound log handed old new s set entries size accepted current number = record {
  announced = record {
    stored = announced_same handed handed (stored_entries new.dpb) (stored_entries old.dpb) refl
        (same_pictures (stored_entries old.dpb) (stored_entries new.dpb) entries) s.announced.stored;
    current = subst (IsOpenAnnounced handed) (sym current) s.announced.current;
  };
  sized = size ∙ s.sized ∙ ap (λ (a : Option NegotiationInfo). accepted_size (option_map format_of a)) (sym accepted);
  latency = subst HaveLatency (sym entries) s.latency;
  below = below_part old.next.number new.next.number (tickets (stored_entries old.dpb))
      (tickets (stored_entries new.dpb)) s.below (omega (arith, number))
      (part_same (stored_entries old.dpb) (stored_entries new.dpb) entries);
  newest = subst (λ c. IsOpenNewest c new) (sym current)
      (kept_newest old.current old new set entries accepted number s.newest);
  told = told_same refl s.told (λ t h. record {
    handles = λ x k. h.handles x (part_same (stored_entries old.dpb) (stored_entries new.dpb) entries x k);
    sequence = subst (λ (a : Option NegotiationInfo). IsAccepted a t.sequence) (sym accepted) h.sequence;
    picture = subst (λ c. IsLatest c t.picture) (sym current) h.picture;
  });
}

-- ---- room

pub bumped_total : {H Z : Type 0} (bumped : Bumped) (old new : Dpb H) (before now : VecDeque (Frame H) Z)
    → Bumps bumped old new before now
    → deque_len now + num_waiting (buffer_of new) ≡ deque_len before + num_waiting (buffer_of old)
bumped_total bumped old new before now b = let more = ap length b.appended in let sum =
    length-append before.items b.out in omega (arith, before.ok.0, now.ok.0, more, sum, b.fewer)

stored_by : (w : Bool) (e : Entry) (es rest : Buffer) → e.needed_for_output ≡ w
    → num_waiting (es ++ rest) ≤ num_waiting es + num_waiting rest
    → num_waiting ((e ∷ es) ++ rest) ≤ num_waiting (e ∷ es) + num_waiting rest
stored_by w e es rest is h = let a = order_length e.needed_for_output e (in_output_order (es ++ rest)) in
    let b = order_length e.needed_for_output e (in_output_order es) in by w is a b
  where
    by : (v : Bool) → e.needed_for_output ≡ v
        → length (in_output_order (e ∷ (es ++ rest)))
        ≡ (if e.needed_for_output then suc (num_waiting (es ++ rest)) else num_waiting (es ++ rest))
        → length (in_output_order (e ∷ es))
        ≡ (if e.needed_for_output then suc (num_waiting es) else num_waiting es)
        → num_waiting ((e ∷ es) ++ rest) ≤ num_waiting (e ∷ es) + num_waiting rest
    by true v a b = let c =
        a ∙ ap (λ (x : Bool). if x then suc (num_waiting (es ++ rest)) else num_waiting (es ++ rest)) v in
        let d = b ∙ ap (λ (x : Bool). if x then suc (num_waiting es) else num_waiting es) v in omega (arith, c, d, h)
    by false v a b = let c =
        a ∙ ap (λ (x : Bool). if x then suc (num_waiting (es ++ rest)) else num_waiting (es ++ rest)) v in
        let d = b ∙ ap (λ (x : Bool). if x then suc (num_waiting es) else num_waiting es) v in omega (arith, c, d, h)

joined_waiting : (es rest : Buffer) → num_waiting (es ++ rest) ≤ num_waiting es + num_waiting rest
joined_waiting [] rest = omega arith
joined_waiting (e ∷ es) rest = stored_by e.needed_for_output e es rest refl (joined_waiting es rest)

aged_waiting : (es : Buffer) → num_waiting (map with_latency es) ≡ num_waiting es
aged_waiting [] = refl
aged_waiting (e ∷ es) =
    order_length e.needed_for_output (with_latency e) (in_output_order (map with_latency es))
    ∙ ap (λ (n : ℕ). if e.needed_for_output then suc n else n) (aged_waiting es)
    ∙ sym (order_length e.needed_for_output e (in_output_order es))

-- one picture more waits at most
pub stored_waiting : (p : Head) (es : Buffer) → num_waiting (with_stored p es) ≤ num_waiting es + 1
unfolding with_stored
stored_waiting p es =
    let a = joined_waiting (map with_latency es) (entry_of p ∷ []) in
    let b = aged_waiting es in
    let c = few_wait (entry_of p ∷ []) in
    omega (arith, a, b, c)

-- ---- numbers that are below are others

pub below_absent : {H : Type 0} (n : ℕ) (es : List (DpbEntry H)) → AreBelow n (tickets es) → Absent n (numbers es)
below_absent n [] below = tt
below_absent {H} n (e ∷ es) below = (
  (λ is. let l = below (ticket e) (contains_first (ticket e) (tickets es)) in
      absurd (omega (arith, l, is))),
  below_absent n es (λ t k. below t (contains_later (ticket e) t (tickets es) k)),
)

-- ---- what a backend was told

pub both_told : {H : Type 0} (P Q : Told H → Type 0) (log : Option (List (Call H))) → WhereTold log P
    → WhereTold log Q → WhereTold log (λ t. P t × Q t)
both_told P Q None p q = record { of_log = tt }
both_told P Q (Some log) p q = record { of_log = (p.of_log, q.of_log) }

pub fits_none : {H P : Type 0} (w : driver.Standing H P) (t u : Told H)
    → current_of w.set w.current ≡ units.NoPicture → u.submitted ≡ t.submitted → u.sequence ≡ t.sequence
    → Fits w t → Fits w u
fits_none w t u none submitted sequence h = record {
  handles = λ x k. subst (λ ts. Contains ts x) (sym submitted) (h.handles x k);
  sequence = subst (IsAccepted w.accepted) (sym sequence) h.sequence;
  picture = none_latest w.set w.current u.picture none;
}

pub sound_told : {H P : Type 0} (log now : Option (List (Call H))) (handed new : Option (List Handed))
    (w : driver.Standing H P) → IsSound log handed w → WhereTold now (Fits w) → AsAnnounced new w → IsSound now new w
sound_told log now handed new w s told announced = record {
  sized = s.sized;
  latency = s.latency;
  below = s.below;
  newest = s.newest;
  told = told;
  announced = announced;
}

-- what was announced goes on
pub current_more : {P : Type 0} (before now : Option (List Handed)) (x : Handed) (c : Current P)
    → now ≡ logged before (x ∷ []) → IsOpenAnnounced before c → IsOpenAnnounced now c
current_more before now x NoPicture is h = tt
current_more before now x SkippedPicture is h = tt
current_more before now x (OpenPicture o) is h = among_more before now x o.head.number o.head.picture is h

pub as_announced_more : {H P : Type 0} (before now : Option (List Handed)) (x : Handed)
    (w : driver.Standing H P) → now ≡ logged before (x ∷ []) → AsAnnounced before w → AsAnnounced now w
as_announced_more before now x w is h = record {
  stored = announced_more before now x (stored_entries w.dpb) is h.stored;
  current = current_more before now x w.current is h.current;
}

pub as_announced_same : {H P : Type 0} (before now : Option (List Handed)) (w : driver.Standing H P)
    → now ≡ before → AsAnnounced before w → AsAnnounced now w
as_announced_same before now w is h = subst (λ o. AsAnnounced o w) (sym is) h

unchanged_by : (a named : Format) (b : Bool) → same_format a named ≡ b
    → (if b then None else Some (ChangedMidPicture a named)) ≡ None → b ≡ true
unchanged_by a named true is h = refl
unchanged_by a named false is h = absurd (cc h)

pub unchanged_accepted : (named : Format) (format : NegotiationInfo) (accepted : Option NegotiationInfo)
    → accepted ≡ Some format → changed_by named (Some (format_of format)) ≡ None
    → is_accepted named (option_map format_of accepted) ≡ true
unchanged_accepted named format accepted same is =
    rw same (unchanged_by (format_of format) named (same_format (format_of format) named) refl is)

pub stored_below : {H : Type 0} (n : ℕ) (ts us : List (ℕ × H)) (t : ℕ × H) → AreBelow n ts → t.0 < n
    → us ≡ ts ++ t ∷ [] → AreBelow n us
stored_below {H} n ts us t below less is = λ x k. ⊎_elim (λ old. below x old)
    (λ same. subst (λ (y : ℕ × H). y.0 < n) same less) (Contains-push_cases ts t x (subst (λ l. Contains l x) is k))

-- ---- counts

pub has_frames : (before now : Counts) (frames : ℕ) → (frames ≡ 0 → ⊥)
    → CountsEmptyAnswers before now frames → now ≡ before
has_frames before now zero is h = absurd (is refl)
has_frames before now (suc n) is h = h

-- ---- nothing comes in

pub same_grows : {H P : Type 0} (more : ℕ) (old new : driver.Standing H P) → new.queue ≡ old.queue
    → new.dpb ≡ old.dpb → Grows more old new
same_grows more old new queue dpb = rw (queue, dpb) (record { few = omega arith; capacity = refl; stored = refl })

-- a question for free frames is all that a backend was asked
pub once_questioned : {H P : Type 0} (w : driver.Standing H P) (log now : Option (List (Call H)))
    (handed handed_now : Option (List Handed)) (frames after : Frames) (answer : ℕ) → now ≡ log
    → handed_now ≡ handed → after ≡ with_question answer frames
    → traces now handed_now after.asked w ≡ questioned (traces log handed frames.asked w)
once_questioned w log now handed handed_now frames after answer log_is handed_is frames_is =
    ap (λ l. traces l handed_now after.asked w) log_is
    ∙ ap (λ h. traces log h after.asked w) handed_is
    ∙ ap (λ (f : Frames). traces log handed f.asked w) frames_is
