-- Where all picture numbers of a standing are raised by n, a unit asks the same with numbers raised by n.
use Rattle.std.proofs.Common.{◌≡◌, ℕ, ℤ, ◌+◌, Bool, true, false, cond, ◌&&◌, List, [], ◌∷◌, ◌++◌}
use Rattle.std.proofs.Common.{map, refl, sym, ◌∙◌, ap, ap₂, subst, arith, Option, Some, None}
use Rattle.std.proofs.Common.{is_some}
use Rattle.std.proofs.lemmas.List.{map-append}
use Rattle.hevc_walk.specs.Meanings.{Format, Slice, Meaning, SequenceSet, CodedSlice, EndOfSequence}
use Rattle.hevc_walk.specs.Meanings.{EndOfBitstream, Other, Refused}
use Rattle.hevc_walk.specs.DependentSlices.{KeptHeader, whole_slice, kept_header}
use Rattle.hevc_walk.specs.Pictures.{Head, Context, head, order_count_in_range}
use Rattle.hevc_walk.specs.ReferenceSets.{RefPicSet, reference_set}
use Rattle.hevc_walk.specs.Walk.{Event, Called, Part, ◌>>=◌, nothing, call, Store, finish}
use Rattle.hevc_walk.specs.Walk.{change_format, begin_picture, is_decoded, slice_call, is_full}
use Rattle.hevc_walk.specs.Walk.{closing}
use Rattle.hevc_walk.specs.Refusals.{Cause, refusal_of_picture}
use Rattle.hevc_walk_units.specs.Units.{Current, NoPicture, SkippedPicture, OpenPicture, Standing}
use Rattle.hevc_walk_units.specs.Units.{open_head, current_of, tid0_behind, finish_current}
use Rattle.hevc_walk_units.specs.Units.{context_behind, decode_current, decode_slice, begin_by}
use Rattle.hevc_walk_units.specs.Units.{begin_slice, first_slice, refusal_of_later, later_slice}
use Rattle.hevc_walk_units.specs.Units.{begins_picture, slice_part, whole_part, sequence_part}
use Rattle.hevc_walk_units.specs.Units.{unit_part, refusal_of_first, refusal_of_whole, refusal_at}
use Rattle.hevc_walk_units.specs.Units.{is_full_now, fills_by, is_full_at, closing_part}
use Rattle.hevc_walk_agree.proofs.Joined.{decode-next}
use Rattle.hevc_walk_splice.proofs.Raise.{cond-over, raise_set, raise_head, set-raised}
use Rattle.hevc_walk_splice.proofs.Parts.{raise_event, raise_store, raise_option, finish-raised}
use Rattle.hevc_walk_splice.proofs.Parts.{change-raised, begin-raised, slice-raised, full-raised}
use Rattle.hevc_walk_splice.proofs.Parts.{closing-raised}

abbrev pub raise_current : ℕ → Bool → Current → Current
raise_current n b NoPicture = NoPicture
raise_current n b SkippedPicture = SkippedPicture
raise_current n b (OpenPicture p set) = OpenPicture (raise_head n b p) (raise_set n set)

-- the count of prevTid0Pic before an open picture may be another
abbrev pub raise_standing : ℕ → Bool → Option ℤ → Standing → Standing
raise_standing n b x t = record {
  store = raise_store n t.store;
  current = raise_current n b t.current;
  kept = t.kept;
  next = record t.next { number = n + t.next.number; prev_tid0_count = x };
}

-- once the open picture is over, the counts of prevTid0Pic are the same
abbrev pub SameCount : Option ℤ → Standing → Type 0
SameCount x t = tid0_behind (open_head t.current) x ≡ tid0_behind (open_head t.current) t.next.prev_tid0_count

pub record Follows (n : ℕ) (whole part : Part Standing) : Type 0 where
  pub flag : Bool
  pub count : Option ℤ
  pub events : whole.events ≡ map (raise_event n) part.events
  pub next : whole.next ≡ raise_standing n flag count part.next
  pub same : SameCount count part.next

open-raised : (n : ℕ) (b : Bool) (c : Current) → open_head (raise_current n b c) ≡ raise_option n b (open_head c)
open-raised n b NoPicture = refl
open-raised n b SkippedPicture = refl
open-raised n b (OpenPicture p set) = refl

tid0-raised : (n : ℕ) (b : Bool) (c : Current) (x : Option ℤ)
    → tid0_behind (open_head (raise_current n b c)) x ≡ tid0_behind (open_head c) x
tid0-raised n b NoPicture x = refl
tid0-raised n b SkippedPicture x = refl
tid0-raised n b (OpenPicture p set) x = refl

begins-raised : (n : ℕ) (b : Bool) (c : Current) (slice : Slice)
    → begins_picture (raise_current n b c) slice ≡ begins_picture c slice
begins-raised n b NoPicture slice = refl
begins-raised n b SkippedPicture slice = refl
begins-raised n b (OpenPicture p set) slice = refl

later-raised : (n : ℕ) (b : Bool) (c : Current) (slice : Slice) (accepted : Option Format)
    → refusal_of_later (raise_current n b c) slice accepted ≡ refusal_of_later c slice accepted
later-raised n b NoPicture slice accepted = refl
later-raised n b SkippedPicture slice accepted = refl
later-raised n b (OpenPicture p set) slice accepted = refl

current-raised : (n : ℕ) (b : Bool) (p : Head) (set : RefPicSet)
    → current_of (raise_head n b p) (raise_set n set) ≡ raise_current n b (current_of p set)
current-raised n b p set = cond-over (raise_current n b) p.skipped SkippedPicture (OpenPicture p set)

pub head-raised : (n : ℕ) (c : Context) (slice : Slice)
    → head (record c { number = n + c.number }) slice ≡ raise_head n (head c slice).no_output_of_prior_pics
    (head c slice)
unfolding head
head-raised n c slice = refl

-- what a slice of the current picture does
decoded : Current → Slice → List Event
decoded NoPicture slice = []
decoded SkippedPicture slice = []
decoded (OpenPicture p set) slice = cond (is_decoded p) (Called (slice_call p set slice) ∷ []) []

decode-events : (c : Current) (slice : Slice) (s : Standing) → (decode_current c slice s).events ≡ decoded c slice
unfolding decoded
decode-events NoPicture slice s = refl
decode-events SkippedPicture slice s = refl
decode-events (OpenPicture p set) slice s =
    sym (cond-over (λ (x : Part Standing). x.events) (is_decoded p) (call (slice_call p set slice) s) (nothing s))

decoded-raised : (n : ℕ) (b : Bool) (c : Current) (slice : Slice)
    → decoded (raise_current n b c) slice ≡ map (raise_event n) (decoded c slice)
unfolding decoded order_count_in_range
decoded-raised n b NoPicture slice = refl
decoded-raised n b SkippedPicture slice = refl
decoded-raised n b (OpenPicture p set) slice =
    ap (λ c. cond (is_decoded p) (Called c ∷ []) []) (slice-raised n b p set slice)
    ∙ cond-over (map (raise_event n)) (is_decoded p) (Called (slice_call p set slice) ∷ []) []

pub decode-follows : (n : ℕ) (b : Bool) (x : Option ℤ) (c : Current) (slice : Slice) (t : Standing)
    → SameCount x t
    → Follows n (decode_current (raise_current n b c) slice (raise_standing n b x t)) (decode_current c slice t)
decode-follows n b x c slice t same = record {
  flag = b;
  count = x;
  events = decode-events (raise_current n b c) slice (raise_standing n b x t) ∙ decoded-raised n b c slice
      ∙ ap (map (raise_event n)) (sym (decode-events c slice t));
  next = decode-next (raise_current n b c) slice (raise_standing n b x t)
      ∙ ap (raise_standing n b x) (sym (decode-next c slice t));
  same = subst (λ (s : Standing). SameCount x s) (sym (decode-next c slice t)) same;
}

abbrev over : Store → Current → Option KeptHeader → Context → Standing
over store current kept c = record { store = store; current = current; kept = kept; next = c }

-- a picture begins
begin-follows : (n : ℕ) (p : Head) (slice : Slice) (t : Standing)
    → Follows n (begin_by (raise_head n p.no_output_of_prior_pics p) slice
    (raise_standing n false t.next.prev_tid0_count t)) (begin_by p slice t)
begin-follows n p slice t =
    let b = p.no_output_of_prior_pics in
    let q = raise_head n b p in
    let c = change_format p.format t.store in
    let s = begin_picture p slice c.next in
    let set = reference_set p slice c.next.buffer in
    let now = over s.next (current_of p set) t.kept (context_behind p t.next) in
    let c1 = change_format p.format (raise_store n t.store) in
    let s1 = begin_picture q slice c1.next in
    let set1 = reference_set q slice c1.next.buffer in
    let ctx1 = context_behind q (record t.next { number = n + t.next.number }) in
    let now1 = over s1.next (current_of q set1) t.kept ctx1 in
    let is = change-raised n p.format t.store in
    let begun = begin-raised n p slice c.next in
    let sets = set-raised n b p slice c.next.buffer ∙ refl in
    let current = ap (current_of q) sets ∙ current-raised n b p set in
    record {
      flag = b;
      count = t.next.prev_tid0_count;
      events =
          ap (λ l. c1.events ++ s1.events ++ l) (decode-events (current_of q set1) slice now1)
          ∙ ap (λ (x : Part Store). x.events ++ (begin_picture q slice x.next).events
          ++ decoded (current_of q (reference_set q slice x.next.buffer)) slice) is
          ∙ ap₂ (λ (x : Part Store) (y : Current). map (raise_event n) c.events ++ x.events
          ++ decoded y slice) begun current
          ∙ ap (λ l. map (raise_event n) c.events ++ map (raise_event n) s.events ++ l)
          (decoded-raised n b (current_of p set) slice
          ∙ ap (map (raise_event n)) (sym (decode-events (current_of p set) slice now)))
          ∙ ap (λ l. l ++ map (raise_event n) (decode_current (current_of p set) slice now).events)
          (sym (map-append (raise_event n) c.events s.events))
          ∙ sym (map-append (raise_event n) (c.events ++ s.events)
          (decode_current (current_of p set) slice now).events);
      next =
          decode-next (current_of q set1) slice now1
          ∙ ap (λ (x : Part Store). over (begin_picture q slice x.next).next
          (current_of q (reference_set q slice x.next.buffer)) t.kept ctx1) is
          ∙ ap₂ (λ (x : Part Store) (y : Current). over x.next y t.kept ctx1) begun current
          ∙ ap (λ (m : ℕ). over (raise_store n s.next) (raise_current n b (current_of p set)) t.kept
          (record ctx1 { number = m })) (number p.number)
          ∙ ap (raise_standing n b t.next.prev_tid0_count) (sym (decode-next (current_of p set) slice now));
      same = subst (λ (x : Standing). SameCount t.next.prev_tid0_count x)
          (sym (decode-next (current_of p set) slice now)) refl;
    }
  where
    number : (m : ℕ) → n + m + 1 ≡ n + (m + 1)
    number m = omega arith

-- the current picture is over
abbrev raise_finished : ℕ → Part Standing → Part Standing
raise_finished n f = record {
  events = map (raise_event n) f.events;
  next = raise_standing n false f.next.next.prev_tid0_count f.next;
}

finished-raised : (n : ℕ) (b : Bool) (x : Option ℤ) (t : Standing) → SameCount x t
    → finish_current (raise_standing n b x t) ≡ raise_finished n (finish_current t)
finished-raised n b x t same =
    ap (λ (o : Option Head). of_finished (finish o (raise_store n t.store))
    (tid0_behind (open_head (raise_current n b t.current)) x)) (open-raised n b t.current)
    ∙ ap₂ of_finished (finish-raised n b (open_head t.current) t.store) (tid0-raised n b t.current x ∙ same)
  where
    of_finished : Part Store → Option ℤ → Part Standing
    of_finished f y = record {
      events = f.events;
      next = over f.next NoPicture t.kept (record t.next { number = n + t.next.number; prev_tid0_count = y });
    }

first-follows : (n : ℕ) (b : Bool) (x : Option ℤ) (slice : Slice) (t : Standing) → SameCount x t
    → Follows n (first_slice slice (raise_standing n b x t)) (first_slice slice t)
first-follows n b x slice t same =
    let f = finish_current t in
    let h = head f.next.next slice in
    let g = subst
    (λ (p : Head). Follows n (begin_by p slice (raise_standing n false f.next.next.prev_tid0_count f.next))
    (begin_by h slice f.next)) (sym (head-raised n f.next.next slice)) (begin-follows n h slice f.next) in
    subst (λ (y : Part Standing). Follows n (y >>= begin_slice slice) (first_slice slice t))
    (sym (finished-raised n b x t same))
    (record {
      flag = g.flag;
      count = g.count;
      events = ap (λ l. map (raise_event n) f.events ++ l) g.events
          ∙ sym (map-append (raise_event n) f.events (begin_slice slice f.next).events);
      next = g.next;
      same = g.same;
    })

idle-follows : (n : ℕ) (b : Bool) (x : Option ℤ) (t : Standing) → SameCount x t
    → Follows n (nothing (raise_standing n b x t)) (nothing t)
idle-follows n b x t same = record { flag = b; count = x; events = refl; next = refl; same = same }

later-follows : (n : ℕ) (b : Bool) (x : Option ℤ) (slice : Slice) (t : Standing) → SameCount x t
    → Follows n (later_slice slice (raise_standing n b x t)) (later_slice slice t)
later-follows n b x slice t same =
    subst (λ (r : Option Cause). Follows n
    (cond (is_some r) (nothing (raise_standing n b x t)) (decode_slice slice (raise_standing n b x t)))
    (later_slice slice t)) (sym (later-raised n b t.current slice t.store.accepted))
    (by_test (is_some (refusal_of_later t.current slice t.store.accepted)))
  where
    by_test : (c : Bool)
        → Follows n (cond c (nothing (raise_standing n b x t))
        (decode_slice slice (raise_standing n b x t))) (cond c (nothing t) (decode_slice slice t))
    by_test true = idle-follows n b x t same
    by_test false = decode-follows n b x t.current slice t same

slice-follows : (n : ℕ) (b : Bool) (x : Option ℤ) (slice : Slice) (t : Standing) → SameCount x t
    → Follows n (slice_part slice (raise_standing n b x t)) (slice_part slice t)
slice-follows n b x slice t same =
    subst (λ (c : Bool). Follows n
    (cond c (first_slice slice (raise_standing n b x t)) (later_slice slice (raise_standing n b x t)))
    (slice_part slice t)) (sym (begins-raised n b t.current slice))
    (by_test (begins_picture t.current slice))
  where
    by_test : (c : Bool)
        → Follows n (cond c (first_slice slice (raise_standing n b x t))
        (later_slice slice (raise_standing n b x t))) (cond c (first_slice slice t) (later_slice slice t))
    by_test true = first-follows n b x slice t same
    by_test false = later-follows n b x slice t same

whole-follows : (n : ℕ) (b : Bool) (x : Option ℤ) (slice : Option Slice) (t : Standing) → SameCount x t
    → Follows n (whole_part slice (raise_standing n b x t)) (whole_part slice t)
whole-follows n b x None t same = idle-follows n b x t same
whole-follows n b x (Some slice) t same = slice-follows n b x slice t same

set-follows : (n : ℕ) (b : Bool) (x : Option ℤ) (a : Option Format) (format : Format) (t : Standing)
    → SameCount x t → Follows n (sequence_part a format (raise_standing n b x t)) (sequence_part a format t)
set-follows n b x None format t same = record { flag = b; count = x; events = refl; next = refl; same = same }
set-follows n b x (Some accepted) format t same = idle-follows n b x t same

pub unit-follows : (n : ℕ) (b : Bool) (x : Option ℤ) (u : Meaning) (t : Standing) → SameCount x t
    → Follows n (unit_part u (raise_standing n b x t)) (unit_part u t)
unit-follows n b x (SequenceSet format) t same = set-follows n b x t.store.accepted format t same
unit-follows n b x (CodedSlice slice) t same =
    whole-follows n b x (whole_slice t.kept slice) (record t { kept = kept_header t.kept slice }) same
unit-follows n b x EndOfSequence t same = record { flag = b; count = x; events = refl; next = refl; same = same }
unit-follows n b x EndOfBitstream t same = record { flag = b; count = x; events = refl; next = refl; same = same }
unit-follows n b x Other t same = idle-follows n b x t same
unit-follows n b x (Refused cause) t same = idle-follows n b x t same

-- refusals
range-raised : (n : ℕ) (b : Bool) (p : Head) → refusal_of_picture (raise_head n b p) ≡ refusal_of_picture p
unfolding order_count_in_range
range-raised n b p = refl

first_refusal-raised : (n : ℕ) (b : Bool) (x : Option ℤ) (slice : Slice) (t : Standing) → SameCount x t
    → refusal_of_first slice (raise_standing n b x t) ≡ refusal_of_first slice t
first_refusal-raised n b x slice t same =
    ap (λ (f : Part Standing). refusal_of_picture (head f.next.next slice)) (finished-raised n b x t same)
    ∙ ap refusal_of_picture (head-raised n (finish_current t).next.next slice)
    ∙ range-raised n _ (head (finish_current t).next.next slice)

whole_refusal-raised : (n : ℕ) (b : Bool) (x : Option ℤ) (slice : Option Slice) (t : Standing)
    → SameCount x t → refusal_of_whole slice (raise_standing n b x t) ≡ refusal_of_whole slice t
whole_refusal-raised n b x None t same = refl
whole_refusal-raised n b x (Some slice) t same =
    ap (λ (c : Bool). cond c (refusal_of_first slice (raise_standing n b x t))
    (refusal_of_later (raise_current n b t.current) slice t.store.accepted)) (begins-raised n b t.current slice)
    ∙ ap₂ (λ (r q : Option Cause). cond (begins_picture t.current slice) r q)
    (first_refusal-raised n b x slice t same) (later-raised n b t.current slice t.store.accepted)

pub refusal-raised : (n : ℕ) (b : Bool) (x : Option ℤ) (u : Meaning) (t : Standing) → SameCount x t
    → refusal_at u (raise_standing n b x t) ≡ refusal_at u t
refusal-raised n b x (SequenceSet format) t same = refl
refusal-raised n b x (CodedSlice slice) t same = whole_refusal-raised n b x (whole_slice t.kept slice) t same
refusal-raised n b x EndOfSequence t same = refl
refusal-raised n b x EndOfBitstream t same = refl
refusal-raised n b x Other t same = refl
refusal-raised n b x (Refused cause) t same = refl

pub full_now-raised : (n : ℕ) (b : Bool) (x : Option ℤ) (t : Standing)
    → is_full_now (raise_standing n b x t) ≡ is_full_now t
full_now-raised n b x t =
    ap (λ (o : Option Head). is_full o (raise_store n t.store)) (open-raised n b t.current)
    ∙ full-raised n b (open_head t.current) t.store

fills-raised : (n : ℕ) (b : Bool) (x : Option ℤ) (slice : Option Slice) (t : Standing)
    → fills_by slice (raise_standing n b x t) ≡ fills_by slice t
fills-raised n b x None t = refl
fills-raised n b x (Some slice) t =
    ap₂ (λ (c d : Bool). c && d) (begins-raised n b t.current slice) (full_now-raised n b x t)

pub full_at-raised : (n : ℕ) (b : Bool) (x : Option ℤ) (u : Meaning) (t : Standing)
    → is_full_at u (raise_standing n b x t) ≡ is_full_at u t
full_at-raised n b x (SequenceSet format) t = refl
full_at-raised n b x (CodedSlice slice) t = fills-raised n b x (whole_slice t.kept slice) t
full_at-raised n b x EndOfSequence t = refl
full_at-raised n b x EndOfBitstream t = refl
full_at-raised n b x Other t = refl
full_at-raised n b x (Refused cause) t = refl

pub end-raised : (n : ℕ) (b : Bool) (x : Option ℤ) (t : Standing)
    → (closing_part (raise_standing n b x t)).events ≡ map (raise_event n) (closing_part t).events
end-raised n b x t =
    ap (λ (o : Option Head). (closing o (raise_store n t.store)).events) (open-raised n b t.current)
    ∙ ap (λ (p : Part Store). p.events) (closing-raised n b (open_head t.current) t.store)
