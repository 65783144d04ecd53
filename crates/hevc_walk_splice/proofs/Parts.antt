-- The steps of the walk with all picture numbers raised by n.
use Rattle.std.proofs.Common.{◌≡◌, ℕ, ◌+◌, Bool, true, false, not, cond, ◌&&◌, List, [], ◌∷◌, ◌++◌}
use Rattle.std.proofs.Common.{map, refl, sym, ◌∙◌, ap, ap₂, Option, Some, None}
use Rattle.std.specs.Prelude.{nat_le}
use Rattle.std.proofs.lemmas.List.{map-append, length-map}
use Rattle.hevc_walk.specs.Meanings.{Format, Slice}
use Rattle.hevc_walk.specs.Pictures.{Head, order_count_in_range}
use Rattle.hevc_walk.specs.Buffer.{Entry, Buffer, Bumped, bumping, draining}
use Rattle.hevc_walk.specs.Buffer.{needs_additional_bumping, needs_bumping, with_stored}
use Rattle.hevc_walk.specs.ReferenceSets.{RefPicSet, reference_set, with_marks}
use Rattle.hevc_walk.specs.ReferenceLists.{RefPicListEntry}
use Rattle.hevc_walk.specs.Walk.{Call, DecodeSlice, SubmitPicture, Event, Called, Output, Part}
use Rattle.hevc_walk.specs.Walk.{◌>>=◌, nothing, call, Store, output_of, output_by, finish}
use Rattle.hevc_walk.specs.Walk.{store_picture, is_accepted, open_sequence, change_format}
use Rattle.hevc_walk.specs.Walk.{is_decoded, needed_entries, make_room, start_decoding}
use Rattle.hevc_walk.specs.Walk.{begin_picture, slice_call, accepted_size, is_full, closing}
use Rattle.hevc_walk_splice.specs.Splicing.{numbered_call}
use Rattle.hevc_walk_splice.proofs.Raise.{cond-over, raise_set, raise_entry, raise, raise_head}
use Rattle.hevc_walk_splice.proofs.Raise.{order-raised, IsBlind, due-raised, left-behind-raised}
use Rattle.hevc_walk_splice.proofs.Raise.{additional-blind, bumping-blind, needed-raised}
use Rattle.hevc_walk_splice.proofs.Raise.{stored-raised, set-raised, marks-raised, list0-raised}
use Rattle.hevc_walk_splice.proofs.Raise.{list1-raised}

abbrev pub numbered_event : (ℕ → ℕ) → Event → Event
numbered_event f (Called call) = Called (numbered_call f call)
numbered_event f (Output number order_count) = Output (f number) order_count

abbrev pub raise_call : ℕ → Call → Call
raise_call n = numbered_call (λ m. n + m)

abbrev pub raise_event : ℕ → Event → Event
raise_event n = numbered_event (λ m. n + m)

abbrev pub raise_store : ℕ → Store → Store
raise_store n s = record { accepted = s.accepted; buffer = raise n s.buffer }

abbrev pub raise_part : ℕ → Part Store → Part Store
raise_part n p = record { events = map (raise_event n) p.events; next = raise_store n p.next }

abbrev of_parts : List Event → Store → Part Store
of_parts l s = record { events = l; next = s }

-- one raised part, then the next
then-raised : (n : ℕ) (q p : Part Store) (g f : Store → Part Store) → q ≡ raise_part n p
    → ((s : Store) → g (raise_store n s) ≡ raise_part n (f s)) → q >>= g ≡ raise_part n (p >>= f)
then-raised n q p g f is h =
    ap (λ (x : Part Store). x >>= g) is
    ∙ ap (λ (x : Part Store). of_parts (map (raise_event n) p.events ++ x.events) x.next) (h p.next)
    ∙ ap (λ l. of_parts l (raise_store n (f p.next).next)) (sym (map-append (raise_event n) p.events (f p.next).events))

outputs-raised : (n : ℕ) (es : List Entry) → map output_of (raise n es) ≡ map (raise_event n) (map output_of es)
outputs-raised n [] = refl
outputs-raised n (e ∷ es) = ap (λ l. Output (n + e.number) e.order_count ∷ l) (outputs-raised n es)

-- a rule for bumping that doesn't look at numbers
abbrev IsRaised : ℕ → (Buffer → Bumped) → Type 0
IsRaised n rule = (es : List Entry) → ((rule (raise n es)).outputs ≡ raise n (rule es).outputs)
    × ((rule (raise n es)).left ≡ raise n (rule es).left)

bumping-raised : (rule : Buffer → Bool) → IsBlind rule → (n : ℕ) → IsRaised n (bumping rule)
bumping-raised rule h n es = (due-raised rule h n es, left-behind-raised rule h n es)

draining-raised : (n : ℕ) → IsRaised n draining
draining-raised n es = (order-raised n es, refl)

output-raised : (n : ℕ) (rule : Buffer → Bumped) → IsRaised n rule → (s : Store)
    → output_by rule (raise_store n s) ≡ raise_part n (output_by rule s)
output-raised n rule h s =
    ap₂ (λ (l : List Event) (b : Buffer). of_parts l (record { accepted = s.accepted; buffer = b }))
    (ap (map output_of) (h s.buffer).0 ∙ outputs-raised n (rule s.buffer).outputs) (h s.buffer).1

store-raised : (n : ℕ) (b : Bool) (q : Head) (s : Store)
    → store_picture (raise_head n b q) (raise_store n s) ≡ raise_part n (store_picture q s)
unfolding store_picture
store-raised n b q s =
    then-raised n _ (call (SubmitPicture q.number) (record s { buffer = with_stored q s.buffer }))
    (output_by (bumping (needs_additional_bumping q.limits))) (output_by (bumping (needs_additional_bumping q.limits)))
    (ap (λ (x : Buffer). of_parts (Called (SubmitPicture (n + q.number)) ∷ []) (record {
      accepted = s.accepted;
      buffer = x;
    })) (stored-raised n b q s.buffer))
    (output-raised n (bumping (needs_additional_bumping q.limits))
    (bumping-raised (needs_additional_bumping q.limits) (additional-blind q.limits) n))

abbrev pub raise_option : ℕ → Bool → Option Head → Option Head
raise_option n b None = None
raise_option n b (Some q) = Some (raise_head n b q)

pub finish-raised : (n : ℕ) (b : Bool) (q : Option Head) (s : Store)
    → finish (raise_option n b q) (raise_store n s) ≡ raise_part n (finish q s)
unfolding finish
finish-raised n b None s = refl
finish-raised n b (Some q) s =
    ap (λ (x : Part Store). cond q.skipped (nothing (raise_store n s)) x) (store-raised n b q s)
    ∙ cond-over (raise_part n) q.skipped (nothing s) (store_picture q s)

pub change-raised : (n : ℕ) (f : Format) (s : Store)
    → change_format f (raise_store n s) ≡ raise_part n (change_format f s)
unfolding change_format
change-raised n f s =
    ap (λ (x : Part Store). cond (is_accepted f s.accepted) (nothing (raise_store n s)) x)
    (then-raised n _ (output_by draining s) (open_sequence f) (open_sequence f)
    (output-raised n draining (draining-raised n) s) (λ t. refl))
    ∙ cond-over (raise_part n) (is_accepted f s.accepted) (nothing s) (output_by draining s >>= open_sequence f)

room-raised : (n : ℕ) (p : Head) (s : Store)
    → make_room (raise_head n p.no_output_of_prior_pics p) (raise_store n s) ≡ raise_part n (make_room p s)
unfolding make_room
room-raised n p s = by_tests p.no_output_of_prior_pics p.starts_sequence
  where
    rule : Buffer → Bumped
    rule = bumping (needs_bumping p.limits)

    by_tests : (b c : Bool)
        → cond b (nothing (record (raise_store n s) { buffer = [] }))
        (cond c (output_by draining (raise_store n s))
        (output_by rule (record (raise_store n s) { buffer = needed_entries (raise n s.buffer) })))
        ≡ raise_part n
        (cond b (nothing (record s { buffer = [] }))
        (cond c (output_by draining s) (output_by rule (record s { buffer = needed_entries s.buffer }))))
    by_tests true c = refl
    by_tests false true = output-raised n draining (draining-raised n) s
    by_tests false false =
        ap (λ (x : Buffer). output_by rule (record { accepted = s.accepted; buffer = x }))
        (needed-raised n s.buffer)
        ∙ output-raised n rule (bumping-raised (needs_bumping p.limits) (bumping-blind p.limits) n)
        (record s { buffer = needed_entries s.buffer })

pub begin-raised : (n : ℕ) (p : Head) (first : Slice) (s : Store)
    → begin_picture (raise_head n p.no_output_of_prior_pics p) first (raise_store n s) ≡ raise_part n
    (begin_picture p first s)
unfolding begin_picture start_decoding order_count_in_range
begin-raised n p first s = ap (λ (x : Part Store). cond (is_decoded p) x (nothing (raise_store n s))) begun
    ∙ cond-over (raise_part n) (is_decoded p)
    (make_room p marked >>= start_decoding p (reference_set p first s.buffer)) (nothing s)
  where
    q : Head
    q = raise_head n p.no_output_of_prior_pics p

    marked : Store
    marked = record s { buffer = with_marks p first s.buffer }

    begun : make_room q (record (raise_store n s) { buffer = with_marks q first (raise n s.buffer) }) >>=
        start_decoding q (reference_set q first (raise n s.buffer)) ≡ raise_part n
        (make_room p marked >>= start_decoding p (reference_set p first s.buffer))
    begun =
        ap₂ (λ (x : Buffer) (set : RefPicSet). make_room q (record {
          accepted = s.accepted;
          buffer = x;
        }) >>= start_decoding q set) (marks-raised n p.no_output_of_prior_pics p first s.buffer)
        (set-raised n p.no_output_of_prior_pics p first s.buffer)
        ∙ then-raised n _ (make_room p marked)
        (start_decoding q (raise_set n (reference_set p first s.buffer)))
        (start_decoding p (reference_set p first s.buffer)) (room-raised n p marked) (λ t. refl)

pub slice-raised : (n : ℕ) (b : Bool) (p : Head) (set : RefPicSet) (s : Slice)
    → slice_call (raise_head n b p) (raise_set n set) s ≡ raise_call n (slice_call p set s)
slice-raised n b p set s =
    ap₂ (λ (x y : List (Option RefPicListEntry)). DecodeSlice (n + p.number) s.segment_address s.bytes x y)
    (list0-raised n set s) (list1-raised n set s)

pub full-raised : (n : ℕ) (b : Bool) (q : Option Head) (s : Store)
    → is_full (raise_option n b q) (raise_store n s) ≡ is_full q s
full-raised n b None s = refl
full-raised n b (Some q) s =
    ap (λ (m : ℕ). not q.skipped && nat_le (accepted_size s.accepted) m) (length-map s.buffer (raise_entry n))

pub closing-raised : (n : ℕ) (b : Bool) (q : Option Head) (s : Store)
    → closing (raise_option n b q) (raise_store n s) ≡ raise_part n (closing q s)
closing-raised n b q s =
    then-raised n _ (finish q s) (output_by draining) (output_by draining) (finish-raised n b q s)
    (output-raised n draining (draining-raised n))
