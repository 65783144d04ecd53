-- At an IDR or BLA picture of temporal id 0 what was before is forgotten.
use Rattle.std.proofs.Common.{◌≡◌, ℕ, pos, ◌+◌, Bool, true, false, not, cond, ◌&&◌, ◌||◌, eqb, List}
use Rattle.std.proofs.Common.{[], ◌∷◌, ◌++◌, map, filter, refl, sym, ◌∙◌, ap, ap₂, arith, Option}
use Rattle.std.proofs.Common.{Some, None, append_assoc}
use Rattle.std.specs.Prelude.{◌==◌, if◌then◌else◌}
use Rattle.std.proofs.lemmas.Bool.Decides.{nat_tests}
use Rattle.hevc_spec.specs.UnitTypes.{is_idr, is_bla, is_cra, is_irap, is_radl, is_rasl, is_slnr}
use Rattle.hevc_walk.specs.Meanings.{Format, Slice, CodedSlice, ShortTermMember, LongTermMember}
use Rattle.hevc_walk.specs.DependentSlices.{KeptHeader, with_kept}
use Rattle.hevc_walk.specs.OrderCounts.{count_behind}
use Rattle.hevc_walk.specs.Pictures.{Head, Context, head, order_count_in_range, no_rasl_output}
use Rattle.hevc_walk.specs.Buffer.{Entry, LongTerm, bumping, needs_bumping, draining}
use Rattle.hevc_walk.specs.ReferenceSets.{RefPicSet, no_references, short_term_set, names}
use Rattle.hevc_walk.specs.ReferenceSets.{long_term_entry, short_term_entry, unmarked, long_term_if}
use Rattle.hevc_walk.specs.ReferenceSets.{with_long_term, five_lists, reference_set, with_marks}
use Rattle.hevc_walk.specs.ReferenceSets.{is_curr_short_term, is_curr_long_term}
use Rattle.hevc_walk.specs.Walk.{NewPicture, BeginPicture, Event, Called, Part, ◌>>=◌, nothing}
use Rattle.hevc_walk.specs.Walk.{Store, output_by, finish, change_format, is_decoded}
use Rattle.hevc_walk.specs.Walk.{needed_entries, make_room, start_decoding, begin_picture}
use Rattle.hevc_walk.specs.Walk.{slice_call}
use Rattle.hevc_walk.specs.Refusals.{PocOutOfRange, refusal_of_picture}
use Rattle.hevc_walk_fates.proofs.Accepted.{change-accepted}
use Rattle.hevc_walk_units.specs.Units.{Current, SkippedPicture, OpenPicture, Standing, open_head}
use Rattle.hevc_walk_units.specs.Units.{current_of, context_behind, finish_current, decode_current}
use Rattle.hevc_walk_units.specs.Units.{begin_by, first_slice, later_slice, whole_part}
use Rattle.hevc_walk_units.specs.Units.{begins_picture, unit_part, refusal_of_first}
use Rattle.hevc_walk_units.specs.Units.{refusal_of_later, refusal_of_whole, refusal_at, is_full_now}
use Rattle.hevc_walk_units.specs.Units.{fills_by, is_full_at}
use Rattle.hevc_walk_splice.proofs.Raise.{raise_set, raise_head, same-sets, set-raised}
use Rattle.hevc_walk_splice.proofs.Parts.{raise_event, slice-raised}
use Rattle.hevc_walk_splice.proofs.Earlier.{AllQuiet, quiet-append, finish-under, change-under}
use Rattle.hevc_walk_splice.proofs.Earlier.{room-under, under-marks, open-under, StandingUnder}

-- IDR and BLA pictures
irap : (t : ℕ) → is_idr t || is_bla t ≡ true → is_irap t ≡ true
irap t h = grind (arith, nat_tests)

rasl : (t : ℕ) → is_idr t || is_bla t ≡ true → is_rasl t ≡ false
rasl t h = grind (arith, nat_tests)

radl : (t : ℕ) → is_idr t || is_bla t ≡ true → is_radl t ≡ false
radl t h = grind (arith, nat_tests)

slnr : (t : ℕ) → is_idr t || is_bla t ≡ true → is_slnr t ≡ false
slnr t h = grind (arith, nat_tests)

-- what a head takes from the tests of its type
headed : Context → Slice → Bool → Bool → Bool → Bool → Head
headed c s i r n v = record {
  number = c.number;
  nal_unit_type = s.nal_unit_type;
  pic_order_cnt_lsb = s.pic_order_cnt_lsb;
  order_count =
      if i && n then pos s.pic_order_cnt_lsb else count_behind s.max_pic_order_cnt_lsb c.prev_tid0_count
      s.pic_order_cnt_lsb;
  valid_for_prev_tid0 = v;
  starts_sequence = i && n;
  skipped = r && c.latest_irap_no_rasl;
  pic_output_flag = s.pic_output_flag && not (r && n);
  no_output_of_prior_pics =
      i && n && not c.first_in_bitstream && (is_cra s.nal_unit_type || s.no_output_of_prior_pics_flag);
  latest_irap_no_rasl = if i then n else c.latest_irap_no_rasl;
  format = s.format;
  limits = s.limits;
}

-- the head of such a picture
abbrev pub point_head : Context → Slice → Head
point_head c s = record {
  number = c.number;
  nal_unit_type = s.nal_unit_type;
  pic_order_cnt_lsb = s.pic_order_cnt_lsb;
  order_count = pos s.pic_order_cnt_lsb;
  valid_for_prev_tid0 = true;
  starts_sequence = true;
  skipped = false;
  pic_output_flag = s.pic_output_flag && true;
  no_output_of_prior_pics = not c.first_in_bitstream && (is_cra s.nal_unit_type || s.no_output_of_prior_pics_flag);
  latest_irap_no_rasl = true;
  format = s.format;
  limits = s.limits;
}

or-true : (a b c : Bool) → a ≡ true → a || b || c ≡ true
or-true true b c h = refl
or-true false b c h = absurd (cc h)

pub head-at : (c : Context) (s : Slice) → is_idr s.nal_unit_type || is_bla s.nal_unit_type ≡ true
    → s.temporal_id ≡ 0 → head c s ≡ point_head c s
unfolding head headed
head-at c s type tid =
    let t = s.nal_unit_type in
    let v : (s.temporal_id == 0 && not (is_radl t || is_rasl t || is_slnr t)) ≡ true =
    ap (λ (x : ℕ). eqb x 0 && not (is_radl t || is_rasl t || is_slnr t)) tid
    ∙ ap₂ (λ (x y : Bool). not (x || y || is_slnr t)) (radl t type) (rasl t type)
    ∙ ap not (slnr t type) in
    ap (λ (x : Bool). headed c s x (is_rasl t) (no_rasl_output c s)
    (s.temporal_id == 0 && not (is_radl t || is_rasl t || is_slnr t))) (irap t type)
    ∙ ap (λ (x : Bool). headed c s true x (no_rasl_output c s)
    (s.temporal_id == 0 && not (is_radl t || is_rasl t || is_slnr t))) (rasl t type)
    ∙ ap (λ (x : Bool). headed c s true false x
    (s.temporal_id == 0 && not (is_radl t || is_rasl t || is_slnr t)))
    (or-true (is_idr t || is_bla t) (is_cra t && (c.first_in_bitstream || s.handled_as_bla)) c.first_after_end type)
    ∙ ap (headed c s true false true) v

-- it refers to nothing
unmarked-long : (p : Head) (first : Slice) (m : LongTermMember) (es : List Entry)
    → long_term_entry p first (map unmarked es) m ≡ None
unmarked-long p first m [] = refl
unmarked-long p first m (e ∷ es) = unmarked-long p first m es

unmarked-short : (p : Head) (ls : List (Option ℕ)) (m : ShortTermMember) (es : List Entry)
    → short_term_entry p (map (long_term_if ls) (map unmarked es)) m ≡ None
unmarked-short p ls m [] = refl
unmarked-short p ls m (e ∷ es) = by_test (names e.number ls) (unmarked-short p ls m es)
  where
    rest : List Entry
    rest = map (long_term_if ls) (map unmarked es)

    by_test : (b : Bool) → short_term_entry p rest m ≡ None
        → short_term_entry p (cond b (record (unmarked e) { mark = LongTerm }) (unmarked e) ∷ rest) m ≡ None
    by_test true h = h
    by_test false h = h

all-none : {X : Type 0} (f g : X → Option ℕ) → ((x : X) → f x ≡ None) → ((x : X) → g x ≡ None)
    → (xs : List X) → map f xs ≡ map g xs
all-none f g h k [] = refl
all-none f g h k (x ∷ xs) = ap₂ (λ y l. y ∷ l) (h x ∙ sym (k x)) (all-none f g h k xs)

pub set-fresh : (p : Head) (first : Slice) → p.starts_sequence ≡ true → (es : List Entry)
    → reference_set p first es ≡ reference_set p first []
unfolding reference_set
set-fresh p first starts es =
    ap (λ (b : Bool). cond (is_idr p.nal_unit_type) no_references (five (cond b (map unmarked es) es)))
    starts ∙ by_test (is_idr p.nal_unit_type)
    ∙ sym (ap (λ (b : Bool). cond (is_idr p.nal_unit_type) no_references (five (cond b [] []))) starts)
  where
    five : List Entry → RefPicSet
    five l = five_lists p first (short_term_set first) l (with_long_term p first l)

    short : (ms : List ShortTermMember)
        → map (short_term_entry p (with_long_term p first (map unmarked es))) ms ≡ map (short_term_entry p []) ms
    short ms = all-none (short_term_entry p (with_long_term p first (map unmarked es)))
        (short_term_entry p [])
        (λ m. unmarked-short p (map (long_term_entry p first (map unmarked es)) first.long_term_pics) m es)
        (λ m. refl) ms

    long : (ms : List LongTermMember)
        → map (long_term_entry p first (map unmarked es)) ms ≡ map (long_term_entry p first []) ms
    long ms = all-none (long_term_entry p first (map unmarked es)) (long_term_entry p first [])
        (λ m. unmarked-long p first m es) (λ m. refl) ms

    by_test : (b : Bool) → cond b no_references (five (map unmarked es)) ≡ cond b no_references (five [])
    by_test true = refl
    by_test false =
        let set = short_term_set first in
        same-sets (five (map unmarked es)) (five []) (short (filter is_curr_short_term set.negative_pics))
        (short (filter is_curr_short_term set.positive_pics))
        (short (filter (λ m. not (is_curr_short_term m)) (set.negative_pics ++ set.positive_pics)))
        (long (filter is_curr_long_term first.long_term_pics))
        (long (filter (λ m. not (is_curr_long_term m)) first.long_term_pics))

room-empties : (p : Head) (s : Store) → p.starts_sequence ≡ true → (make_room p s).next ≡ record s { buffer = [] }
unfolding make_room
room-empties p s starts = by_tests p.no_output_of_prior_pics p.starts_sequence starts
  where
    by_tests : (a b : Bool) → b ≡ true
        → (cond a (nothing (record s { buffer = [] }))
        (cond b (output_by draining s)
        (output_by (bumping (needs_bumping p.limits))
        (record s { buffer = needed_entries s.buffer })))).next ≡ record s { buffer = [] }
    by_tests true b h = refl
    by_tests false true h = refl
    by_tests false false h = absurd (cc h)

abbrev pub over : Store → Current → Option KeptHeader → Context → Standing
over store current kept c = record { store = store; current = current; kept = kept; next = c }

-- what is asked for the point itself
abbrev pub started : Head → Slice → List Event
started p slice = Called (NewPicture p.number p.nal_unit_type p.order_count p.pic_output_flag 0) ∷ Called
    (BeginPicture p.number (reference_set p slice [])) ∷ Called (slice_call p (reference_set p slice []) slice) ∷ []

abbrev pub stands : Head → Slice → Option KeptHeader → Context → Standing
stands p slice kept c =
    over (record { accepted = Some p.format; buffer = [] }) (OpenPicture p (reference_set p slice [])) kept
    (context_behind p c)

pub record Begun (n : ℕ) (p : Head) (slice : Slice) (kept : Option KeptHeader) (c : Context)
    (part : Part Standing) : Type 0 where
  pub front : List Event
  pub quiet : AllQuiet n front
  pub events : part.events ≡ front ++ started p slice
  pub next : part.next ≡ stands p slice kept c

-- beginning to decode
begin-point : (p : Head) (slice : Slice) (s : Store) → is_decoded p ≡ true
    → begin_picture p slice s ≡ make_room p (record s { buffer = with_marks p slice s.buffer }) >>=
    start_decoding p (reference_set p slice s.buffer)
unfolding begin_picture
begin-point p slice s h =
    ap (λ (b : Bool). cond b
    (make_room p (record s { buffer = with_marks p slice s.buffer }) >>= start_decoding p
    (reference_set p slice s.buffer)) (nothing s)) h

current-open : (p : Head) (set : RefPicSet) → p.skipped ≡ false → current_of p set ≡ OpenPicture p set
current-open p set h = ap (λ (b : Bool). cond b SkippedPicture (OpenPicture p set)) h

decode-open : (p : Head) (set : RefPicSet) (slice : Slice) (s : Standing) → is_decoded p ≡ true
    → decode_current (OpenPicture p set) slice s ≡ record { events = Called (slice_call p set slice) ∷ []; next = s }
decode-open p set slice s h =
    ap (λ (b : Bool). cond b (record { events = Called (slice_call p set slice) ∷ []; next = s }) (nothing s)) h

-- a slice begins such a picture
pub begun : (n : ℕ) (p : Head) (slice : Slice) (s : Standing) → StandingUnder n s → p.starts_sequence ≡ true
    → p.skipped ≡ false → is_decoded p ≡ true
    → Begun n p slice s.kept (finish_current s).next.next (finish_current s >>= begin_by p slice)
unfolding start_decoding
begun n p slice s h starts skipped is_decoded_p =
    let f = finish (open_head s.current) s.store in
    let fu = finish-under n (open_head s.current) s.store (open-under n s.current h.current) h.buffer in
    let c = change_format p.format f.next in
    let cu = change-under n p.format f.next fu.under in
    let marked : Store = record c.next { buffer = with_marks p slice c.next.buffer } in
    let r = make_room p marked in
    let ru = room-under n p marked (under-marks n p slice c.next.buffer cu.under) in
    let upcoming = (finish_current s).next.next in
    let set = reference_set p slice [] in
    let calls = Called (NewPicture p.number p.nal_unit_type p.order_count p.pic_output_flag 0) ∷ Called
    (BeginPicture p.number set) ∷ [] in
    let b : begin_picture p slice c.next ≡ r >>= start_decoding p set =
    begin-point p slice c.next is_decoded_p ∙ ap (λ (x : RefPicSet). r >>= start_decoding p x)
    (set-fresh p slice starts c.next.buffer) in
    let cur : current_of p (reference_set p slice c.next.buffer) ≡ OpenPicture p set =
    current-open p (reference_set p slice c.next.buffer) skipped
    ∙ ap (OpenPicture p) (set-fresh p slice starts c.next.buffer) in
    let is : finish_current s >>= begin_by p slice ≡ whole f.events c.events (r.events ++ calls)
    (Called (slice_call p set slice) ∷ []) (over r.next (OpenPicture p set) s.kept (context_behind p upcoming)) =
    ap₂ (λ (x : Part Store) (y : Current). after f.events c.events x.events
    (decode_current y slice (over x.next y s.kept (context_behind p upcoming)))) b cur
    ∙ ap (λ (x : Part Standing). after f.events c.events (r.events ++ calls) x)
    (decode-open p set slice (over r.next (OpenPicture p set) s.kept (context_behind p upcoming)) is_decoded_p) in
    record {
      front = f.events ++ (c.events ++ r.events);
      quiet = quiet-append n f.events (c.events ++ r.events) fu.quiet
          (quiet-append n c.events r.events cu.quiet ru.quiet);
      events =
          ap (λ (x : Part Standing). x.events) is
          ∙ ap (λ l. f.events ++ (l ++ Called (slice_call p set slice) ∷ []))
          (sym (append_assoc c.events r.events calls))
          ∙ ap (λ l. f.events ++ l) (append_assoc (c.events ++ r.events) calls (Called (slice_call p set slice) ∷ []))
          ∙ sym (append_assoc f.events (c.events ++ r.events) (started p slice));
      next =
          ap (λ (x : Part Standing). x.next) is
          ∙ ap (λ (x : Store). over x (OpenPicture p set) s.kept (context_behind p upcoming))
          (room-empties p marked starts ∙ ap (λ (x : Option Format). record { accepted = x; buffer = [] })
          (change-accepted p.format f.next));
    }
  where
    after : List Event → List Event → List Event → Part Standing → Part Standing
    after f c b d = record { events = f ++ (c ++ b ++ d.events); next = d.next }

    whole : List Event → List Event → List Event → List Event → Standing → Part Standing
    whole f c b d t = record { events = f ++ (c ++ b ++ d); next = t }

-- the point as number n, and as number 0
pub started-raised : (n : ℕ) (b : Bool) (q : Head) (slice : Slice)
    → started (raise_head n b q) slice ≡ map (raise_event n) (started q slice)
started-raised n b q slice =
    ap (λ (x : RefPicSet). Called
    (NewPicture (n + q.number) q.nal_unit_type q.order_count q.pic_output_flag 0) ∷ Called
    (BeginPicture (n + q.number) x) ∷ Called (slice_call (raise_head n b q) x slice) ∷ []) (set-raised n b q slice [])
    ∙ ap (λ c. Called (NewPicture (n + q.number) q.nal_unit_type q.order_count q.pic_output_flag 0) ∷ Called
    (BeginPicture (n + q.number) (raise_set n (reference_set q slice []))) ∷ Called c ∷ [])
    (slice-raised n b q (reference_set q slice []) slice)

-- a slice that begins a picture, and has its own header
abbrev pub own_header : Slice → Option KeptHeader
own_header s = Some (record { pic_parameter_set_id = s.pic_parameter_set_id; header = s.header })

pub part-at : (s : Slice) (t : Standing) → s.dependent_slice_segment_flag ≡ false
    → begins_picture t.current s ≡ true → unit_part (CodedSlice s) t ≡ first_slice s (record t { kept = own_header s })
part-at s t own begins =
    ap (λ (b : Bool). whole_part (cond b (with_kept t.kept s) (Some s))
    (record t { kept = cond b t.kept (own_header s) })) own
    ∙ ap (λ (b : Bool). cond b (first_slice s (record t { kept = own_header s }))
    (later_slice s (record t { kept = own_header s }))) begins

pub refusal-at : (s : Slice) (t : Standing) → s.dependent_slice_segment_flag ≡ false
    → begins_picture t.current s ≡ true
    → refusal_at (CodedSlice s) t ≡ refusal_of_picture (head (finish_current t).next.next s)
refusal-at s t own begins =
    ap (λ (b : Bool). refusal_of_whole (cond b (with_kept t.kept s) (Some s)) t) own
    ∙ ap (λ (b : Bool). cond b (refusal_of_first s t) (refusal_of_later t.current s t.store.accepted)) begins

pub full-at : (s : Slice) (t : Standing) → s.dependent_slice_segment_flag ≡ false
    → begins_picture t.current s ≡ true → is_full_at (CodedSlice s) t ≡ is_full_now t
full-at s t own begins =
    ap (λ (b : Bool). fills_by (cond b (with_kept t.kept s) (Some s)) t) own
    ∙ ap (λ (b : Bool). b && is_full_now t) begins

pub range-point : (c d : Context) (s : Slice)
    → order_count_in_range (point_head c s) ≡ order_count_in_range (point_head d s)
unfolding order_count_in_range
range-point c d s = refl

pub none-in_range : (p : Head) → refusal_of_picture p ≡ None → order_count_in_range p ≡ true
none-in_range p = by_test (order_count_in_range p)
  where
    by_test : (b : Bool) → cond b None (Some PocOutOfRange) ≡ None → b ≡ true
    by_test true h = refl
    by_test false h = absurd (cc h)

pub in_range-none : (p : Head) → order_count_in_range p ≡ true → refusal_of_picture p ≡ None
in_range-none p h = ap (λ (b : Bool). cond b None (Some PocOutOfRange)) h

pub decoded-point : (c : Context) (s : Slice) → order_count_in_range (point_head c s) ≡ true
    → is_decoded (point_head c s) ≡ true
decoded-point c s h = ap (λ (b : Bool). b && true) h
