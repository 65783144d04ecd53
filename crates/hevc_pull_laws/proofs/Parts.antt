-- Where in what a unit asks a call is.
use Rattle.std.proofs.Common.{◌≡◌, ℕ, ◌+◌, ◌≤◌, Bool, true, false, not, ◌&&◌, cond, List, [], ◌∷◌, ◌++◌, map}
use Rattle.std.proofs.Common.{refl, sym, ◌∙◌, ap, subst, arith, Option, Some, None}
use Rattle.std.specs.Prelude.{ℤ}
use Rattle.hevc_walk.specs.Meanings.{Format, Slice}
use Rattle.hevc_walk.specs.Pictures.{Head}
use Rattle.hevc_walk.specs.Buffer.{Entry, bumping, draining, needs_bumping, needs_additional_bumping, with_stored}
use Rattle.hevc_walk.specs.ReferenceSets.{RefPicSet, reference_set, with_marks}
use Rattle.hevc_walk.specs.Walk.{Event, Called, Output, output_of, Store, ◌>>=◌, nothing, call, finish}
use Rattle.hevc_walk.specs.Walk.{store_picture, change_format, begin_picture, make_room, start_decoding, is_decoded}
use Rattle.hevc_walk.specs.Walk.{slice_call, open_sequence, output_by, needed_entries, is_accepted}
use Rattle.hevc_walk.specs.Walk.{NewSequence, NewPicture, BeginPicture, DecodeSlice, SubmitPicture}
use Rattle.hevc_walk_fates.proofs.Counts.{given, given-append}
use Rattle.hevc_walk_units.specs.Units.{Current, NoPicture, SkippedPicture, OpenPicture, Standing}
use Rattle.hevc_walk_units.specs.Units.{decode_current, decode_slice}
use Rattle.hevc_walk_frames.proofs.Balance.{hidden, hidden-append}

-- the ends that are told by some events
abbrev pub told_by : ℕ → List Event → ℕ
told_by n es = given n es + hidden n es

pub prefix : (n : ℕ) (plan done rest : List Event) → plan ≡ done ++ rest → told_by n done ≤ told_by n plan
prefix n plan done rest is =
    let a = given-append n done rest in
    let b = hidden-append n done rest in
    subst (λ (p : List Event). told_by n done ≤ told_by n p) (sym is) (omega (arith, a, b))

-- none of these events is such a one
abbrev pub none_is : (Event → Bool) → List Event → Bool
none_is test [] = true
none_is test (e ∷ es) = not (test e) && none_is test es

and_false : (b : Bool) → b && false ≡ false
and_false true = refl
and_false false = refl

some_is : (test : Event → Bool) (done : List Event) (e : Event) (rest : List Event) → test e ≡ true
    → none_is test (done ++ e ∷ rest) ≡ false
some_is test [] e rest is = ap (λ (b : Bool). not b && none_is test rest) is
some_is test (d ∷ done) e rest is =
    ap (λ (b : Bool). not (test d) && b) (some_is test done e rest is) ∙ and_false (not (test d))

pub nowhere : (test : Event → Bool) (ys done : List Event) (e : Event) (rest : List Event)
    → none_is test ys ≡ true → test e ≡ true → ys ≡ done ++ e ∷ rest → ⊥
nowhere test ys done e rest none is whole =
    let h : none_is test ys ≡ false = ap (none_is test) whole ∙ some_is test done e rest is in
    absurd (cc (none, h))

pub none-append : (test : Event → Bool) (xs ys : List Event) → none_is test xs ≡ true → none_is test ys ≡ true
    → none_is test (xs ++ ys) ≡ true
none-append test [] ys h k = k
none-append test (x ∷ xs) ys h k = by_test (not (test x)) h (none-append test xs ys)
  where
    by_test : (b : Bool) → b && none_is test xs ≡ true
        → (none_is test xs ≡ true → none_is test ys ≡ true → none_is test (xs ++ ys) ≡ true)
        → b && none_is test (xs ++ ys) ≡ true
    by_test true h further = further h k
    by_test false h further = absurd (cc h)

pub record Within (xs done : List Event) (e : Event) : Type 0 where
  pub rest : List Event
  pub whole : xs ≡ done ++ e ∷ rest

first_of : (x y : Event) (xs ys : List Event) → x ∷ xs ≡ y ∷ ys → x ≡ y
first_of x y xs ys is = cc is

rest_of : (x y : Event) (xs ys : List Event) → x ∷ xs ≡ y ∷ ys → xs ≡ ys
rest_of x y xs ys is = cc is

-- it is in the first part where there is none in the second one
pub within : (test : Event → Bool) (xs ys done : List Event) (e : Event) (rest : List Event)
    → none_is test ys ≡ true → test e ≡ true → xs ++ ys ≡ done ++ e ∷ rest → Within xs done e
within test [] ys done e rest none is whole = absurd (nowhere test ys done e rest none is whole)
within test (x ∷ xs) ys [] e rest none is whole = record {
  rest = xs;
  whole = ap (λ (y : Event). y ∷ xs) (first_of x e (xs ++ ys) rest whole);
}
within test (x ∷ xs) ys (d ∷ done) e rest none is whole =
    let k = within test xs ys done e rest none is (rest_of x d (xs ++ ys) (done ++ e ∷ rest) whole) in
    record {
      rest = k.rest;
      whole = ap (λ (y : Event). y ∷ xs) (first_of x d (xs ++ ys) (done ++ e ∷ rest) whole)
          ∙ ap (λ (l : List Event). d ∷ l) k.whole;
    }

-- outputs are no calls
pub record OfCalls (test : Event → Bool) : Type 0 where
  pub no_output : (m : ℕ) (c : ℤ) → test (Output m c) ≡ false

pub no_outputs : (test : Event → Bool) → OfCalls test → (es : List Entry) → none_is test (map output_of es) ≡ true
no_outputs test of [] = refl
no_outputs test of (e ∷ es) =
    ap (λ (b : Bool). not b && none_is test (map output_of es)) (of.no_output e.number e.order_count)
    ∙ no_outputs test of es

abbrev pub is_submission : Event → Bool
is_submission (Called (SubmitPicture number)) = true
is_submission (Called (NewSequence info)) = false
is_submission (Called (NewPicture number t c o s)) = false
is_submission (Called (BeginPicture number set)) = false
is_submission (Called (DecodeSlice number a b x y)) = false
is_submission (Output number count) = false

abbrev pub is_opening : Event → Bool
is_opening (Called (NewSequence info)) = true
is_opening (Called (SubmitPicture number)) = false
is_opening (Called (NewPicture number t c o s)) = false
is_opening (Called (BeginPicture number set)) = false
is_opening (Called (DecodeSlice number a b x y)) = false
is_opening (Output number count) = false

abbrev pub is_called : Event → Bool
is_called (Called call) = true
is_called (Output number count) = false

pub of_submissions : OfCalls is_submission
of_submissions = record { no_output = λ m c. refl }

pub of_openings : OfCalls is_opening
of_openings = record { no_output = λ m c. refl }

pub of_calls : OfCalls is_called
of_calls = record { no_output = λ m c. refl }

-- no call of a picture's first slice is such a one
pub record OfOthers (test : Event → Bool) : Type 0 where
  pub outputs : OfCalls test
  pub no_new : (m t : ℕ) (c : ℤ) (o : Bool) → test (Called (NewPicture m t c o 0)) ≡ false
  pub no_begin : (m : ℕ) (set : RefPicSet) → test (Called (BeginPicture m set)) ≡ false
  pub no_slice : (p : Head) (set : RefPicSet) (s : Slice) → test (Called (slice_call p set s)) ≡ false

pub other_submissions : OfOthers is_submission
other_submissions = record {
  outputs = of_submissions;
  no_new = λ m t c o. refl;
  no_begin = λ m set. refl;
  no_slice = λ p set s. refl;
}

pub other_openings : OfOthers is_opening
other_openings = record {
  outputs = of_openings;
  no_new = λ m t c o. refl;
  no_begin = λ m set. refl;
  no_slice = λ p set s. refl;
}

-- of a picture that is over only its submission is one, and it comes first
pub first_of_finish : (test : Event → Bool) → OfCalls test → (q : Option Head) (s : Store)
    (ys done : List Event) (e : Event) (rest : List Event) → none_is test ys ≡ true → test e ≡ true
    → (finish q s).events ++ ys ≡ done ++ e ∷ rest → done ≡ []
unfolding finish store_picture
first_of_finish test of None s ys done e rest none is whole = absurd (nowhere test ys done e rest none is whole)
first_of_finish test of (Some q) s ys done e rest none is whole = by_test q.skipped done whole
  where
    outs : List Event
    outs = map output_of (bumping (needs_additional_bumping q.limits) (with_stored q s.buffer)).outputs

    stored : (done : List Event) → Called (SubmitPicture q.number) ∷ outs ++ ys ≡ done ++ e ∷ rest → done ≡ []
    stored [] whole = refl
    stored (d ∷ done) whole =
        absurd (nowhere test (outs ++ ys) done e rest (none-append test outs ys
        (no_outputs test of (bumping (needs_additional_bumping q.limits) (with_stored q s.buffer)).outputs) none) is
        (rest_of (Called (SubmitPicture q.number)) d (outs ++ ys) (done ++ e ∷ rest) whole))

    by_test : (b : Bool) (done : List Event)
        → (cond b (nothing s) (store_picture q s)).events ++ ys ≡ done ++ e ∷ rest → done ≡ []
    by_test true done whole = absurd (nowhere test ys done e rest none is whole)
    by_test false done whole = stored done whole

pub none_in_finish : (q : Option Head) (s : Store) → none_is is_opening (finish q s).events ≡ true
unfolding finish store_picture
none_in_finish None s = refl
none_in_finish (Some q) s = by_test q.skipped
  where
    by_test : (b : Bool) → none_is is_opening (cond b (nothing s) (store_picture q s)).events ≡ true
    by_test true = refl
    by_test false =
        no_outputs is_opening of_openings (bumping (needs_additional_bumping q.limits) (with_stored q s.buffer)).outputs

pub none_in_change : (f : Format) (s : Store) → none_is is_submission (change_format f s).events ≡ true
unfolding change_format
none_in_change f s = by_test (is_accepted f s.accepted)
  where
    by_test : (b : Bool)
        → none_is is_submission (cond b (nothing s) (output_by draining s >>= open_sequence f)).events ≡ true
    by_test true = refl
    by_test false = none-append is_submission (output_by draining s).events
        (open_sequence f (output_by draining s).next).events
        (no_outputs is_submission of_submissions (draining s.buffer).outputs) refl

none_in_room : (test : Event → Bool) → OfOthers test → (p : Head) (s : Store)
    → none_is test (make_room p s).events ≡ true
unfolding make_room
none_in_room test of p s = by_tests p.no_output_of_prior_pics p.starts_sequence
  where
    by_tests : (d r : Bool) → none_is test (cond d (nothing (record s { buffer = [] }))
        (cond r (output_by draining s)
        (output_by (bumping (needs_bumping p.limits)) (record s { buffer = needed_entries s.buffer })))).events ≡ true
    by_tests true r = refl
    by_tests false true = no_outputs test of.outputs (draining s.buffer).outputs
    by_tests false false = no_outputs test of.outputs (bumping (needs_bumping p.limits) (needed_entries s.buffer)).outputs

both_not : (a b : Bool) → a ≡ false → b ≡ false → not a && (not b && true) ≡ true
both_not true b h k = absurd (cc h)
both_not false true h k = absurd (cc k)
both_not false false h k = refl

pub none_in_begin : (test : Event → Bool) → OfOthers test → (p : Head) (slice : Slice) (s : Store)
    → none_is test (begin_picture p slice s).events ≡ true
unfolding begin_picture start_decoding
none_in_begin test of p slice s = by_test (is_decoded p)
  where
    marked : Store
    marked = record s { buffer = with_marks p slice s.buffer }

    by_test : (b : Bool) → none_is test
        (cond b (make_room p marked >>= start_decoding p (reference_set p slice s.buffer)) (nothing s)).events ≡ true
    by_test true = none-append test (make_room p marked).events
        (start_decoding p (reference_set p slice s.buffer) (make_room p marked).next).events
        (none_in_room test of p marked)
        (both_not
        (test (Called (NewPicture p.number p.nal_unit_type p.order_count p.pic_output_flag 0)))
        (test (Called (BeginPicture p.number (reference_set p slice s.buffer))))
        (of.no_new p.number p.nal_unit_type p.order_count p.pic_output_flag)
        (of.no_begin p.number (reference_set p slice s.buffer)))
    by_test false = refl

pub none_in_slice : (test : Event → Bool) → OfOthers test → (slice : Slice) (s : Standing)
    → none_is test (decode_slice slice s).events ≡ true
none_in_slice test of slice s = by_current s.current
  where
    by_test : (b : Bool) (p : Head) (set : RefPicSet)
        → none_is test (cond b (call (slice_call p set slice) s) (nothing s)).events ≡ true
    by_test true p set = ap (λ (b : Bool). not b && true) (of.no_slice p set slice)
    by_test false p set = refl

    by_current : (c : Current) → none_is test (decode_current c slice s).events ≡ true
    by_current NoPicture = refl
    by_current SkippedPicture = refl
    by_current (OpenPicture p set) = by_test (is_decoded p) p set
