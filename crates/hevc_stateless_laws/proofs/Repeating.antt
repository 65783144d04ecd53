-- A unit that is given again once its format is accepted: what it asks is then the rest of what it asked at first.
use Rattle.std.proofs.Common.{◌≡◌, ℕ, ◌++◌, refl, sym, ◌∙◌, ap, append_assoc, Option, Some, Bool}
use Rattle.std.proofs.Common.{true, false, not, if◌then◌else◌, arith}
use Rattle.std.specs.Prelude.{◌==◌}
use Rattle.std.proofs.lemmas.Bool.Decides.{nat_tests}
use Rattle.hevc_walk.specs.Meanings.{Format, Slice, CodedSlice, same_format}
use Rattle.hevc_walk.specs.DependentSlices as dependent
use Rattle.hevc_walk.specs.DependentSlices.{KeptHeader, whole_slice, kept_header}
use Rattle.hevc_walk.specs.Pictures.{head}
use Rattle.hevc_walk.specs.Walk.{Part, ◌>>=◌, nothing, is_accepted, change_format, finish}
use Rattle.hevc_walk.specs.Refusals.{refusal_of_picture}
use Rattle.hevc_walk_units.specs.Units.{Standing, Current, NoPicture, on_store, finish_current}
use Rattle.hevc_walk_units.specs.Units.{open_picture, decode_slice, begin_slice, first_slice}
use Rattle.hevc_walk_units.specs.Units.{whole_part, refusal_of_whole, refusal_at, is_full_at}
use Rattle.hevc_walk_units.specs.Units.{fills_by}
use Rattle.hevc_driver.specs.Moments.{starts, with_kept, negotiates, negotiates_by, renegotiates, step_part}
use Rattle.hevc_driver.proofs.PictureBegins.{begin_accepted, begin_is, change_other}

-- a slice's header is kept once
kept_once : (k : Option KeptHeader) (x : Slice) → kept_header (kept_header k x) x ≡ kept_header k x
kept_once k x = by x.dependent_slice_segment_flag
  where
    by : (d : Bool)
        → (if d then
        (if d then k else Some (record {
          pic_parameter_set_id = x.pic_parameter_set_id;
          header = x.header;
        })) else Some (record { pic_parameter_set_id = x.pic_parameter_set_id; header = x.header }))
        ≡ (if d then k else Some (record { pic_parameter_set_id = x.pic_parameter_set_id; header = x.header }))
    by true = refl
    by false = refl

pub whole_once : (k : Option KeptHeader) (x : Slice) → whole_slice (kept_header k x) x ≡ whole_slice k x
whole_once k x = by x.dependent_slice_segment_flag
  where
    by : (d : Bool)
        → (if d then dependent.with_kept
        (if d then k else Some (record {
          pic_parameter_set_id = x.pic_parameter_set_id;
          header = x.header;
        })) x else Some x) ≡ (if d then dependent.with_kept k x else Some x)
    by true = refl
    by false = refl

eq_same : (n : ℕ) → (n == n) ≡ true
eq_same n = grind (arith, nat_tests)

same_refl : (f : Format) → same_format f f ≡ true
same_refl f =
    rw (
      eq_same f.coded_width,
      eq_same f.coded_height,
      eq_same f.general_profile_idc,
      eq_same f.bit_depth_luma_minus8,
      eq_same f.bit_depth_chroma_minus8,
      eq_same f.chroma_format_idc,
      eq_same f.max_num_pics,
    ) refl

-- nothing is current
pub finish_none : (s : Standing) → s.current ≡ NoPicture → finish_current s ≡ nothing s
unfolding finish
finish_none s none = ap (λ (v : Current). finish_current (record s { current = v })) none
    ∙ ap (λ (v : Current). nothing (record s { current = v })) (sym none)

-- the format that was negotiated is the accepted one
pub other_accepted : (w : Slice) (s : Standing) → is_accepted w.format s.store.accepted ≡ false
    → (on_store (change_format w.format) s).next.store.accepted ≡ Some w.format
other_accepted w s e = ap (λ (q : Part Standing). q.next.store.accepted) (change_other w s e)

part_assoc : (q : Part Standing) (f g : Standing → Part Standing) → ((q >>= f) >>= g) ≡ (q >>= (λ s. f s >>= g))
part_assoc q f g =
    ap (λ es. record { events = es; next = (g (f q.next).next).next })
    (append_assoc q.events (f q.next).events (g (f q.next).next).events)

module _ (x w : Slice) (s : Standing) (whole : whole_slice s.kept x ≡ Some w)
    (other : is_accepted w.format (finish_current (with_kept x s)).next.store.accepted ≡ false) where
  abbrev k : Standing
  k = with_kept x s

  abbrev m : Standing
  m = (finish_current k).next

  -- the standing once the format is accepted
  abbrev n : Standing
  n = (on_store (change_format w.format) m).next

  whole_again : whole_slice n.kept x ≡ Some w
  whole_again = whole_once s.kept x ∙ whole

  accepted_now : is_accepted w.format n.store.accepted ≡ true
  accepted_now = ap (is_accepted w.format) (other_accepted w m other) ∙ same_refl w.format

  pub negotiates_once : negotiates (CodedSlice x) n ≡ false
  negotiates_once = ap (λ o. negotiates_by o n) whole_again ∙ ap not accepted_now

  pub never_full : is_full_at (CodedSlice x) n ≡ false
  never_full = ap (λ o. fills_by o n) whole_again

  pub refused_alike : refusal_at (CodedSlice x) n ≡ refusal_of_picture (head m.next w)
  refused_alike = ap (λ o. refusal_of_whole o n) whole_again

  -- the unit that is given again
  pub again : step_part (CodedSlice x) n ≡ starts (head m.next w) w n
  again =
      ap (λ o. whole_part o (with_kept x n)) whole_again
      ∙ ap (λ (h : Option KeptHeader). first_slice w (record n { kept = h })) (kept_once s.kept x)
      ∙ ap (λ (q : Part Standing). q >>= begin_slice w) (finish_none n refl)
      ∙ begin_accepted w n accepted_now

  -- at first
  first_begins : begin_slice w m ≡ (on_store (change_format w.format) m >>= starts (head m.next w) w)
  first_begins = begin_is w m false other
      ∙ part_assoc (renegotiates w.format m) (open_picture (head m.next w) w) (decode_slice w)
      ∙ ap (λ (q : Part Standing). q >>= starts (head m.next w) w) (sym (change_other w m other))

  -- what it asked is what it asked up to the negotiation, then what it asks now
  pub in_two : (finish_current k >>= begin_slice w)
      ≡ ((finish_current k >>= on_store (change_format w.format)) >>= step_part (CodedSlice x))
  in_two =
      ap (λ (q : Part Standing). record { events = (finish_current k).events ++ q.events; next = q.next })
      (first_begins
      ∙ ap (λ (q : Part Standing). record {
        events = (on_store (change_format w.format) m).events ++ q.events;
        next = q.next;
      }) (sym again))
      ∙ sym (part_assoc (finish_current k) (on_store (change_format w.format)) (step_part (CodedSlice x)))
