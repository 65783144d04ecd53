-- What the steps of the walk do to a place.
use Rattle.std.proofs.Common.{◌≡◌, ℕ, ◌≤◌, Bool, true, false, cond, not, ◌&&◌, List, [], ◌∷◌, ◌++◌}
use Rattle.std.proofs.Common.{length, refl, sym, ap, ◌∙◌, subst, arith, Option, Some, None, Ok}
use Rattle.std.proofs.Common.{if◌then◌else◌}
use Rattle.std.specs.Prelude.{is_some, option_map, ◌||◌}
use Rattle.std.proofs.lemmas.Bool.Decides.{nat_tests}
use Rattle.hevc_walk.specs.Meanings.{Format, Slice, Meaning, SequenceSet, CodedSlice, EndOfSequence}
use Rattle.hevc_walk.specs.Meanings.{EndOfBitstream, Other, Refused}
use Rattle.hevc_walk.specs.DependentSlices.{KeptHeader, whole_slice, kept_header}
use Rattle.hevc_walk.specs.Pictures.{Context, Head, Picture, Stream, head, context}
use Rattle.hevc_walk.specs.Pictures.{order_count_in_range, with_unit, with_slice, with_whole}
use Rattle.hevc_walk.specs.Pictures.{with_set, with_sequence_end, with_bitstream_end, new_picture}
use Rattle.hevc_walk.specs.Buffer.{Buffer, bumping, draining, needs_bumping, needs_additional_bumping, with_stored}
use Rattle.hevc_walk.specs.ReferenceSets.{with_marks}
use Rattle.hevc_walk.specs.Walk.{Store, nothing, finish, store_picture, change_format, output_by}
use Rattle.hevc_walk.specs.Walk.{make_room, begin_picture, start_decoding, prepare, is_decoded}
use Rattle.hevc_walk.specs.Walk.{is_accepted, is_full, accepted_size, needed_entries, store}
use Rattle.hevc_walk.specs.Walk.{latest_head}
use Rattle.hevc_walk_fates.proofs.Accepted.{accepted_is}
use Rattle.hevc_check.specs.Places.{Place, place, with_picture, is_first_slice, first_if}
use Rattle.hevc_check.specs.Places.{with_first, accepted_after, after_unit, after_picture}
use Rattle.hevc_check.specs.Places.{room_left, context_after, starts_sequence_after, TellsPicture}
use Rattle.hevc_check.specs.Places.{TellsFirst, Takes}
use Rattle.hevc_check.specs.declared.begun.Begun.{Begun}

-- a place with another store
pub with_store : (w v : Place) (s t : Store) → w ≡ v → s ≡ t → record w { store = s } ≡ record v { store = t }
with_store w v s t a b = ap (λ (x : Place). record x { store = s }) a ∙ ap (λ (x : Store). record v { store = x }) b

pub store_by : (accepted : Option Format) (s t : Buffer) → s ≡ t
    → Path Store (record { accepted = accepted; buffer = s }) (record { accepted = accepted; buffer = t })
store_by accepted s t e = ap (λ (b : Buffer). record { accepted = accepted; buffer = b }) e

-- ---- the latest picture is over

pub stored_next : (q : Head) (s : Store) → q.skipped ≡ false
    → (finish (Some q) s).next
    ≡ record s { buffer = (bumping (needs_additional_bumping q.limits) (with_stored q s.buffer)).left }
unfolding finish store_picture
stored_next q s e = rw e refl

pub passed_next : (q : Head) (s : Store) → q.skipped ≡ true → (finish (Some q) s).next ≡ s
unfolding finish
passed_next q s e = rw e refl

pub none_next : (s : Store) → (finish None s).next ≡ s
unfolding finish
none_next s = refl

pub full_here : (q : Head) (s : Store) → q.skipped ≡ false → accepted_size s.accepted ≤ length s.buffer
    → is_full (Some q) s ≡ true
full_here q s e le = rw e (grind (arith, nat_tests, le))

pub finished_by : (w v : Place) (s : Store) (latest : Option Head) → w ≡ v → latest ≡ None
    → s ≡ (finish v.latest v.store).next → record w { store = s; latest = latest } ≡ after_picture v
finished_by w v s latest a none b =
    ap (λ (l : Option Head). record w { store = s; latest = l }) none
    ∙ ap (λ (x : Place). record x { store = s; latest = None }) a
    ∙ ap (λ (x : Store). record v { store = x; latest = None }) b

-- ---- another format

pub same_next : (f : Format) (s : Store) → is_accepted f s.accepted ≡ true → (change_format f s).next ≡ s
unfolding change_format
same_next f s e = rw e refl

pub other_next : (f : Format) (s : Store) → is_accepted f s.accepted ≡ false
    → (change_format f s).next ≡ record { accepted = Some f; buffer = [] }
unfolding change_format
other_next f s e = rw e refl

-- ---- a picture begins

room_next : (p : Head) (s : Store) → (make_room p s).next ≡ record s { buffer = room_left p (needed_entries s.buffer) }
unfolding make_room
room_next p s = by p.no_output_of_prior_pics p.starts_sequence
  where
    by : (b c : Bool)
        → (cond b (nothing (record s { buffer = [] }))
        (cond c (output_by draining s)
        (output_by (bumping (needs_bumping p.limits)) (record s { buffer = needed_entries s.buffer })))).next
        ≡ record s { buffer = cond b [] (cond c [] (bumping (needs_bumping p.limits) (needed_entries s.buffer)).left) }
    by true c = refl
    by false true = refl
    by false false = refl

pub entered_next : (p : Head) (first : Slice) (s : Store) → is_decoded p ≡ true
    → (begin_picture p first s).next ≡ record s { buffer = room_left p (needed_entries (with_marks p first s.buffer)) }
unfolding begin_picture start_decoding
entered_next p first s e = rw e (room_next p (record s { buffer = with_marks p first s.buffer }))

pub skipped_next : (p : Head) (first : Slice) (s : Store) → is_decoded p ≡ false → (begin_picture p first s).next ≡ s
unfolding begin_picture
skipped_next p first s e = rw e refl

pub decoded_is : (p : Head) → order_count_in_range p ≡ true → p.skipped ≡ false → is_decoded p ≡ true
decoded_is p range skipped = ap (λ (b : Bool). b && not p.skipped) range ∙ ap not skipped

pub not_decoded : (p : Head) → order_count_in_range p ≡ true → p.skipped ≡ true → is_decoded p ≡ false
not_decoded p range skipped = ap (λ (b : Bool). b && not p.skipped) range ∙ ap not skipped

pub head_format : (c : Context) (s : Slice) → (head c s).format ≡ s.format
unfolding head
head_format c s = refl

-- the standing as the picture of a slice of this format is to begin
pub prepared : (v : Place) (s : Slice) (f : Format) → s.format ≡ f
    → (change_format f (finish v.latest v.store).next).next ≡ (prepare v.latest (head v.next s) v.store).next
prepared v s f is =
    ap (λ (x : Format). (change_format x (finish v.latest v.store).next).next) (sym (head_format v.next s ∙ is))

abbrev place_of : Store → Head → Context → Option KeptHeader → Place
place_of s p next kept = record { store = s; latest = Some p; next = next; kept = kept }

pub begun_is : (v w : Place) (s : Slice) (p : Head) (next : Context) → p ≡ head v.next s
    → w.store ≡ (begin_picture p s (prepare v.latest (head v.next s) v.store).next).next → w.kept ≡ v.kept
    → next ≡ context_after p v.next
    → record w { latest = Some p; next = next } ≡ with_picture s v
begun_is v w s p next is store kept more =
    let q = head v.next s in
    let t = (prepare v.latest q v.store).next in
    let at : w.store ≡ (begin_picture q s t).next = store ∙ ap (λ (x : Head). (begin_picture x s t).next) is in
    ap (λ (x : Store). place_of x p next w.kept) at
    ∙ ap (λ (x : Context). place_of (begin_picture q s t).next p x w.kept) more
    ∙ ap (λ (x : Head). place_of (begin_picture q s t).next x (context_after x v.next) w.kept) is
    ∙ ap (λ (x : Option KeptHeader). place_of (begin_picture q s t).next q (context_after q v.next) x) kept

pub begins_or : {H : Type 0} (f : H → Head) (l : Option H) (p : Head) (b : Bool) → not b ≡ is_some l
    → (b || p.starts_sequence) ≡ starts_sequence_after p (option_map f l)
begins_or f None p true e = refl
begins_or f None p false e = absurd (cc e)
begins_or f (Some q) p true e = absurd (cc e)
begins_or f (Some q) p false e = refl

-- ---- units

opens_nothing : (s : Store) (f format : Format) → s.accepted ≡ Some f
    → s ≡ record s { accepted = accepted_after s.accepted format }
opens_nothing s f format e =
    ap (λ (a : Option Format). record s { accepted = a }) e
    ∙ ap (λ (a : Option Format). record s { accepted = accepted_after a format }) (sym e)

opened_by : (k : ℕ) (format : Format) (set : Option (ℕ × Format)) (ps : List Picture)
    → store (with_set k format set ps) ps
    ≡ record (store set ps) { accepted = accepted_after (store set ps).accepted format }
opened_by k format None [] = refl
opened_by k format (Some set) [] = refl
opened_by k format None (p ∷ before) =
    opens_nothing (store None (p ∷ before)) p.format format (accepted_is None p before)
opened_by k format (Some set) (p ∷ before) =
    opens_nothing (store (Some set) (p ∷ before)) p.format format (accepted_is (Some set) p before)

abbrev at : Option (ℕ × Format) → Option KeptHeader → List Picture → Place
at set kept ps = record { store = store set ps; latest = latest_head ps; next = context ps; kept = kept }

slice_place : (k : ℕ) (set : Option (ℕ × Format)) (kept : Option KeptHeader) (s : Slice) (ps : List Picture)
    → at set kept (with_slice k s ps) ≡ with_first (first_if (Some s) (latest_head ps)) (at set kept ps)
slice_place k set kept s [] = refl
slice_place k set kept s (p ∷ before) = by s.first_slice_segment_in_pic_flag
  where
    by : (b : Bool)
        → at set kept
        (cond b (new_picture k s (p ∷ before) ∷ p ∷ before)
        (record p { slices = p.slices ++ (k, s) ∷ [] } ∷ before))
        ≡ with_first (cond b (Some s) None) (at set kept (p ∷ before))
    by true = refl
    by false = refl

whole_place : (k : ℕ) (set : Option (ℕ × Format)) (kept : Option KeptHeader) (s : Option Slice) (ps : List Picture)
    → at set kept (with_whole k s ps) ≡ with_first (first_if s (latest_head ps)) (at set kept ps)
whole_place k set kept None ps = refl
whole_place k set kept (Some s) ps = slice_place k set kept s ps

sequence_end_place : (set : Option (ℕ × Format)) (kept : Option KeptHeader) (ps : List Picture)
    → at set kept (with_sequence_end ps) ≡ after_unit EndOfSequence (at set kept ps)
sequence_end_place set kept [] = refl
sequence_end_place set kept (p ∷ before) = refl

bitstream_end_place : (set : Option (ℕ × Format)) (kept : Option KeptHeader) (ps : List Picture)
    → at set kept (with_bitstream_end ps) ≡ after_unit EndOfBitstream (at set kept ps)
bitstream_end_place set kept [] = refl
bitstream_end_place set kept (p ∷ before) = refl

-- one more unit leads from place to place
pub place_unit : (k : ℕ) (u : Meaning) (v : Stream) → place (with_unit k u v) ≡ after_unit u (place v)
place_unit k (SequenceSet format) v =
    ap (λ (s : Store). record (place v) { store = s }) (opened_by k format v.first_set v.pictures)
place_unit k (CodedSlice s) v = whole_place k v.first_set (kept_header v.kept s) (whole_slice v.kept s) v.pictures
place_unit k EndOfSequence v = sequence_end_place v.first_set v.kept v.pictures
place_unit k EndOfBitstream v = bitstream_end_place v.first_set v.kept v.pictures
place_unit k Other v = refl
place_unit k (Refused cause) v = refl

-- ---- slices

-- what is kept of headers tells nothing of a picture
begun_kept : (s : Slice) (v : Place) (k : Option KeptHeader) (b : Begun) → TellsPicture s (record v { kept = k }) b
    → TellsPicture s v b
begun_kept s v k b is = record { same_head = is.same_head; begins = is.begins; stored = is.stored; filled = is.filled }

-- a picture begins with a slice
pub told_first : (v w new : Place) (s t : Slice) (b : Begun) → first_if (whole_slice v.kept s) v.latest ≡ Some t
    → w ≡ record v { kept = kept_header v.kept s } → TellsPicture t w b → new ≡ with_picture t w
    → Takes (Ok (Some b)) (CodedSlice s) v new
told_first v w new s t b first same is next =
    subst (λ (f : Option Slice). TellsFirst f v (Some b)
    × (new ≡ with_first f (record v { kept = kept_header v.kept s }))) (sym first) (
      (b, refl, begun_kept t v (kept_header v.kept s) b (subst (λ (x : Place). TellsPicture t x b) same is)),
      next
          ∙ ap (with_picture t) same,
    )

pub first_is : (s t : Slice) (kept : Option KeptHeader) (latest : Option Head) (b c : Bool)
    → whole_slice kept s ≡ (if b then Some t else None) → b ≡ true → c ≡ is_first_slice t latest → c ≡ true
    → first_if (whole_slice kept s) latest ≡ Some t
first_is s t kept latest b c whole is begins here =
    ap (λ (x : Option Slice). first_if x latest) (whole ∙ ap (λ (x : Bool). if x then Some t else None) is)
    ∙ ap (λ (x : Bool). if x then Some t else None) (sym begins ∙ here)
