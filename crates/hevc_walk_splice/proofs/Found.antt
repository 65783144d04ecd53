-- A picture among those of some units begins at its unit.
use Rattle.std.proofs.Common.{◌≡◌, ◌⊎◌, inl, inr, ⊎_elim, ℕ, ◌+◌, Bool, true, false, cond, ◌||◌}
use Rattle.std.proofs.Common.{List, [], ◌∷◌, ◌++◌, length, drop, refl, sym, ◌∙◌, ap, subst, arith}
use Rattle.std.proofs.Common.{Option, Some, None, Ok, add-zero, zero-add}
use Rattle.std.specs.Prelude.{All, Contains}
use Rattle.std.proofs.lemmas.List.{drop_at}
use Rattle.std.proofs.lemmas.List.Elements.{All-nil, All-cons, All-weaker, All-contains, Contains-append_right}
use Rattle.hevc_spec.specs.UnitTypes.{is_idr, is_bla}
use Rattle.hevc_walk.specs.Meanings.{Slice, Meaning, SequenceSet, CodedSlice, EndOfSequence}
use Rattle.hevc_walk.specs.Meanings.{EndOfBitstream, Other, Refused}
use Rattle.hevc_walk.specs.DependentSlices.{KeptHeader, whole_slice, with_kept, completes}
use Rattle.hevc_walk.specs.Pictures.{Head, Picture, Stream, context, head, new_picture, with_unit}
use Rattle.hevc_walk.specs.Pictures.{with_slice, with_whole, with_sequence_end, with_bitstream_end}
use Rattle.hevc_walk.specs.Pictures.{nothing_yet, stream_from, pictures}
use Rattle.hevc_walk.specs.Premises.{IsMeaning, AreMeanings}
use Rattle.hevc_walk.specs.Results.{verdict}
use Rattle.hevc_walk_fates.proofs.Numbers.{numbered-length, stream-numbered}
use Rattle.hevc_walk_agree.proofs.Joined.{next-place}
use Rattle.hevc_walk_splice.specs.Splicing.{IsOfSet, IsPoint, spliced}
use Rattle.hevc_walk_splice.proofs.Splice.{begins_after, IsStart, Whole, both-lists}

-- the same picture, later slices and ends apart
abbrev Same : Picture → Picture → Type 0
Same p q = (p.head ≡ q.head) × (p.unit ≡ q.unit) × (p.first ≡ q.first)

abbrev Among : Picture → List Picture → Type 0
Among p [] = ⊥
Among p (q ∷ qs) = Same p q ⊎ Among p qs

all-among : (ps : List Picture) → All (λ p. Among p ps) ps
all-among [] = All-nil (λ p. Among p [])
all-among (q ∷ qs) =
    All-cons (λ p. Among p (q ∷ qs)) q qs (inl (refl, refl, refl))
    (All-weaker (λ p. Among p qs) (λ p. Among p (q ∷ qs)) (λ p a. inr a) qs (all-among qs))

among : (ps : List Picture) (p : Picture) → Contains ps p → Among p ps
among ps p c = All-contains (λ q. Among q ps) ps p (all-among ps) c

-- where it begins
record Found (k : ℕ) (v : Stream) (us : List Meaning) (p : Picture) : Type 0 where
  before : List Meaning
  s : Slice
  back : List Meaning
  whole : us ≡ before ++ CodedSlice s ∷ back
  unit : p.unit ≡ k + length before
  first : whole_slice (stream_from k v before).kept s ≡ Some p.first
  head : p.head ≡ head (context (stream_from k v before).pictures) p.first
  begins : begins_after (stream_from k v before).pictures p.first ≡ true

-- a slice begins it
record Begins (k : ℕ) (ps : List Picture) (f : Slice) (p : Picture) : Type 0 where
  unit : p.unit ≡ k
  first : p.first ≡ f
  head : p.head ≡ head (context ps) f
  begins : begins_after ps f ≡ true

by_slice : (k : ℕ) (f : Slice) (ps : List Picture) (p : Picture) → Among p (with_slice k f ps)
    → Among p ps ⊎ Begins k ps f p
by_slice k f [] p (inl same) = inr (record { unit = same.1; first = same.2; head = same.0; begins = refl })
by_slice k f [] p (inr none) = absurd none
by_slice k f (q ∷ qs) p a = by_test f.first_slice_segment_in_pic_flag refl a
  where
    by_test : (b : Bool) → f.first_slice_segment_in_pic_flag ≡ b
        → Among p (cond b (new_picture k f (q ∷ qs) ∷ q ∷ qs)
        (record q { slices = q.slices ++ (k, f) ∷ [] } ∷ qs)) → Among p (q ∷ qs) ⊎ Begins k (q ∷ qs) f p
    by_test true is (inl same) = inr (record { unit = same.1; first = same.2; head = same.0; begins = is })
    by_test true is (inr a) = inl a
    by_test false is (inl same) = inl (inl same)
    by_test false is (inr a) = inl (inr a)

found_here : (k : ℕ) (v : Stream) (s f : Slice) (us : List Meaning) (p : Picture)
    → whole_slice v.kept s ≡ Some f → Begins k v.pictures f p → Found k v (CodedSlice s ∷ us) p
found_here k v s f us p is b = record {
  before = [];
  s = s;
  back = us;
  whole = refl;
  unit = b.unit ∙ sym (add-zero k);
  first = is ∙ ap (λ (x : Slice). Some x) (sym b.first);
  head = b.head ∙ ap (head (context v.pictures)) (sym b.first);
  begins = ap (begins_after v.pictures) b.first ∙ b.begins;
}

by_unit : (k : ℕ) (v : Stream) (u : Meaning) (us : List Meaning) (p : Picture)
    → Among p (with_unit k u v).pictures → Among p v.pictures ⊎ Found k v (u ∷ us) p
by_unit k v (SequenceSet format) us p a = inl a
by_unit k v (CodedSlice s) us p a = by_whole (whole_slice v.kept s) refl a
  where
    by_whole : (o : Option Slice) → whole_slice v.kept s ≡ o → Among p (with_whole k o v.pictures)
        → Among p v.pictures ⊎ Found k v (CodedSlice s ∷ us) p
    by_whole None is a = inl a
    by_whole (Some f) is a = ⊎_elim (λ (x : Among p v.pictures). inl x)
        (λ (x : Begins k v.pictures f p). inr (found_here k v s f us p is x)) (by_slice k f v.pictures p a)
by_unit k v EndOfSequence us p a = inl (over v.pictures a)
  where
    over : (ps : List Picture) → Among p (with_sequence_end ps) → Among p ps
    over [] a = a
    over (q ∷ qs) a = a
by_unit k v EndOfBitstream us p a = inl (over v.pictures a)
  where
    over : (ps : List Picture) → Among p (with_bitstream_end ps) → Among p ps
    over [] a = a
    over (q ∷ qs) a = a
by_unit k v Other us p a = inl a
by_unit k v (Refused cause) us p a = inl a

found : (k : ℕ) (v : Stream) (us : List Meaning) (p : Picture) → Among p (stream_from k v us).pictures
    → Among p v.pictures ⊎ Found k v us p
found k v [] p a = inl a
found k v (u ∷ us) p a = ⊎_elim (λ (x : Among p (with_unit k u v).pictures). by_unit k v u us p x)
    (λ (f : Found (k + 1) (with_unit k u v) us p). inr (later f)) (found (k + 1) (with_unit k u v) us p a)
  where
    later : Found (k + 1) (with_unit k u v) us p → Found k v (u ∷ us) p
    later f = record {
      before = u ∷ f.before;
      s = f.s;
      back = f.back;
      whole = ap (λ l. u ∷ l) f.whole;
      unit = f.unit ∙ next-place k u f.before;
      first = f.first;
      head = f.head;
      begins = f.begins;
    }

-- a header is kept only where there is a picture
abbrev IsKept : Option KeptHeader → List Picture → Type 0
IsKept None ps = Unit {0}
IsKept (Some h) [] = ⊥
IsKept (Some h) (p ∷ ps) = Unit {0}

kept-slice : (kept : Option KeptHeader) (k : ℕ) (f : Slice) (ps : List Picture) → IsKept kept (with_slice k f ps)
kept-slice None k f ps = tt
kept-slice (Some h) k f [] = tt
kept-slice (Some h) k f (p ∷ ps) = by_test f.first_slice_segment_in_pic_flag
  where
    by_test : (b : Bool)
        → IsKept (Some h)
        (cond b (new_picture k f (p ∷ ps) ∷ p ∷ ps) (record p { slices = p.slices ++ (k, f) ∷ [] } ∷ ps))
    by_test true = tt
    by_test false = tt

kept-whole : (kept : Option KeptHeader) (k : ℕ) (o : Option Slice) (ps : List Picture) → IsKept kept ps
    → IsKept kept (with_whole k o ps)
kept-whole kept k None ps h = h
kept-whole kept k (Some f) ps h = kept-slice kept k f ps

kept-unit : (k : ℕ) (u : Meaning) (v : Stream) → IsKept v.kept v.pictures
    → IsKept (with_unit k u v).kept (with_unit k u v).pictures
kept-unit k (SequenceSet format) v h = h
kept-unit k (CodedSlice s) v h = by_test s.dependent_slice_segment_flag
  where
    by_test : (b : Bool)
        → IsKept (cond b v.kept
        (Some (record { pic_parameter_set_id = s.pic_parameter_set_id; header = s.header })))
        (with_whole k (cond b (with_kept v.kept s) (Some s)) v.pictures)
    by_test true = kept-whole v.kept k (with_kept v.kept s) v.pictures h
    by_test false =
        kept-slice (Some (record { pic_parameter_set_id = s.pic_parameter_set_id; header = s.header })) k s v.pictures
kept-unit k EndOfSequence v h = over v.kept v.pictures h
  where
    over : (kept : Option KeptHeader) (ps : List Picture) → IsKept kept ps → IsKept kept (with_sequence_end ps)
    over None ps h = tt
    over (Some x) [] h = h
    over (Some x) (p ∷ ps) h = tt
kept-unit k EndOfBitstream v h = over v.kept v.pictures h
  where
    over : (kept : Option KeptHeader) (ps : List Picture) → IsKept kept ps → IsKept kept (with_bitstream_end ps)
    over None ps h = tt
    over (Some x) [] h = h
    over (Some x) (p ∷ ps) h = tt
kept-unit k Other v h = h
kept-unit k (Refused cause) v h = h

kept-stream : (k : ℕ) (v : Stream) (us : List Meaning) → IsKept v.kept v.pictures
    → IsKept (stream_from k v us).kept (stream_from k v us).pictures
kept-stream k v [] h = h
kept-stream k v (u ∷ us) h = kept-stream (k + 1) (with_unit k u v) us (kept-unit k u v h)

-- the slice that begins a picture has its own header
independent : (kept : Option KeptHeader) (ps : List Picture) (s f : Slice) → IsKept kept ps
    → (s.first_slice_segment_in_pic_flag ≡ true → s.dependent_slice_segment_flag ≡ false)
    → whole_slice kept s ≡ Some f → begins_after ps f ≡ true → s.dependent_slice_segment_flag ≡ false
independent kept ps s f h own is begins = by_test s.dependent_slice_segment_flag refl is
  where
    by_pictures : (x : KeptHeader) (qs : List Picture) → IsKept (Some x) qs
        → begins_after qs (record s { header = x.header }) ≡ true → s.first_slice_segment_in_pic_flag ≡ true
    by_pictures x [] h begins = absurd h
    by_pictures x (q ∷ qs) h begins = begins

    by_complete : (x : KeptHeader) → IsKept (Some x) ps → (c : Bool)
        → cond c (Some (record s { header = x.header })) None ≡ Some f → s.first_slice_segment_in_pic_flag ≡ true
    by_complete x h true is = by_pictures x ps h (ap (begins_after ps) (cc is) ∙ begins)
    by_complete x h false is = absurd (cc is)

    by_kept : (o : Option KeptHeader) → IsKept o ps → with_kept o s ≡ Some f → s.first_slice_segment_in_pic_flag ≡ true
    by_kept None h is = absurd (cc is)
    by_kept (Some x) h is = by_complete x h (completes x s) is

    by_test : (b : Bool) → s.dependent_slice_segment_flag ≡ b → cond b (with_kept kept s) (Some s) ≡ Some f
        → s.dependent_slice_segment_flag ≡ false
    by_test true dep is = own (by_kept kept h is)
    by_test false dep is = dep

own_slice : (kept : Option KeptHeader) (s f : Slice) → s.dependent_slice_segment_flag ≡ false
    → whole_slice kept s ≡ Some f → f ≡ s
own_slice kept s f own is = sym (cc (sym (ap (λ (b : Bool). cond b (with_kept kept s) (Some s)) own) ∙ is))

head-type : (c : _) (s : Slice) → (head c s).nal_unit_type ≡ s.nal_unit_type
unfolding head
head-type c s = refl

head-number : (c : _) (s : Slice) → (head c s).number ≡ c.number
unfolding head
head-number c s = refl

-- the list, cut at the point's first slice
record Cut (us : List Meaning) (p : Picture) : Type 0 where
  before : List Meaning
  s : Slice
  back : List Meaning
  whole : us ≡ before ++ CodedSlice s ∷ back
  start : IsStart before s
  unit : length before ≡ p.unit
  number : length (pictures before) ≡ p.number

cut : (us : List Meaning) (p : Picture) → AreMeanings us → IsPoint us p → Cut us p
cut us p real point = ⊎_elim (λ (x : ⊥). absurd x) (λ (f : Found 0 nothing_yet us p). of_found f)
    (found 0 nothing_yet us p (among (pictures us) p point.among))
  where
    of_found : Found 0 nothing_yet us p → Cut us p
    of_found f =
        let w = stream_from 0 nothing_yet f.before in
        let means = All-contains IsMeaning (f.before ++ CodedSlice f.s ∷ f.back) (CodedSlice f.s)
        (subst (λ (l : List Meaning). All IsMeaning l) f.whole real.each)
        (Contains-append_right f.before (CodedSlice f.s ∷ f.back) (CodedSlice f.s) (0, omega arith, refl)) in
        let own = independent w.kept w.pictures f.s p.first
        (kept-stream 0 nothing_yet f.before tt) means.0.first f.first f.begins in
        let is = own_slice w.kept f.s p.first own f.first in
        record {
          before = f.before;
          s = f.s;
          back = f.back;
          whole = f.whole;
          start = record {
            nal_unit_type =
                ap (λ (t : ℕ). is_idr t || is_bla t)
                (sym (ap (λ (h : Head). h.nal_unit_type) f.head ∙ head-type (context w.pictures) p.first
                ∙ ap (λ (x : Slice). x.nal_unit_type) is)) ∙ point.nal_unit_type;
            temporal_id = ap (λ (x : Slice). x.temporal_id) (sym is) ∙ point.temporal_id;
            first = ap (begins_after w.pictures) (sym is) ∙ f.begins;
            independent = own;
          };
          unit = sym (f.unit ∙ zero-add (length f.before));
          number = sym (ap (λ (h : Head). h.number) f.head ∙ head-number (context w.pictures) p.first
              ∙ numbered-length w.pictures (stream-numbered 0 nothing_yet f.before tt));
        }

-- the point's first slice and what comes after it
rest : (us : List Meaning) (p : Picture) (c : Cut us p) → drop p.unit us ≡ CodedSlice c.s ∷ c.back
rest us p c = ap (drop p.unit) c.whole ∙ drop_at c.before (CodedSlice c.s ∷ c.back) p.unit c.unit

pub spliced-whole : (us sets : List Meaning) (p : Picture) (m : ℕ) → AreMeanings us → verdict us ≡ Ok m
    → IsPoint us p → All IsOfSet sets → Whole p.number p.unit (length sets) m us (spliced sets p us)
spliced-whole us sets p m real ok point all =
    let c = cut us p real point in
    let k = length sets in
    let now = sets ++ CodedSlice c.s ∷ c.back in
    subst (λ (l : List Meaning). Whole p.number p.unit k m us (sets ++ l)) (sym (rest us p c))
    (subst (λ (l : List Meaning). Whole p.number p.unit k m l now) (sym c.whole)
    (subst (λ (n : ℕ). Whole n p.unit k m (c.before ++ CodedSlice c.s ∷ c.back) now) c.number
    (subst (λ (v : ℕ). Whole (length (pictures c.before)) v k m (c.before ++ CodedSlice c.s ∷ c.back) now) c.unit
    (both-lists c.before c.back sets c.s m c.start all (ap verdict (sym c.whole) ∙ ok)))))
