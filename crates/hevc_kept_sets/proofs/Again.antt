-- Units that wait can't be read for as long as the sequence sets that they name stay.
use Rattle.std.proofs.Common.{◌≡◌, ◌≤◌, ℕ, Bool, true, false, List, [], ◌∷◌, ◌++◌, Option, Some}
use Rattle.std.proofs.Common.{None, Ok, refl, ap, sym, subst, ◌∙◌, append_assoc, arith}
use Rattle.std.specs.Prelude.{◌||◌, ◌&&◌, ◌==◌, min, fold, IfSome, option_to_list, if◌then◌else◌}
use Rattle.std.specs.List.{list_all}
use Rattle.std.proofs.lemmas.List.{append-nil}
use Rattle.std.proofs.lemmas.List.Folds.{list_any-append}
use Rattle.std.proofs.lemmas.Bool.Decides.{nat_tests}
use Rattle.std.specs.Int.{bit_at}
use Rattle.std.specs.Int.Bits.{bit_and}
use Rattle.std.proofs.lemmas.Nat.Bits.{bit_at-zero, bit_at_and}
use mathlib.Core.Path.{fun_ext}
use Rattle.hevc_spec.specs.UnitHeader.{UnitHeader, unit_header}
use Rattle.hevc_records.specs.Sps.{PlainSps}
use Rattle.hevc_stream.specs.Options.{Options}
use Rattle.hevc_stream.specs.Kept.{Kept, with_set, with_sequence_set, with_waiting}
use Rattle.hevc_stream.specs.Slices.{temporal_id}
use Rattle.hevc_stream.specs.Contents.{Content, refused, video_set, sequence_set, picture_set}
use Rattle.hevc_stream.specs.Contents.{unread_picture_set, slice, end_of_sequence, end_of_bitstream}
use Rattle.hevc_stream.specs.Contents.{nothing, content, wants}
use Rattle.hevc_stream.specs.Stream.{with_picture_set_unit, with_waited, with_all_waited}
use Rattle.hevc_stream_laws.specs.UnitMeans.{spells, breaks_off, is_video_set, is_sequence_set}
use Rattle.hevc_stream_laws.specs.UnitMeans.{is_picture_set, is_slice_segment, ends_sequence}
use Rattle.hevc_stream_laws.specs.UnitMeans.{ends_bitstream, comes_first, is_other, Means}
use Rattle.hevc_stream_laws.specs.UnitMeans.{is_faulty, is_unwanted, is_wanted}
use Rattle.hevc_stream_laws.proofs.OneContent.{means_content}
use Rattle.hevc_stream_laws.proofs.KeptWell.{same_picture_set}
use Rattle.hevc_kept_sets.specs.CutUnits as cut
use Rattle.hevc_kept_sets.specs.Settled.{named_set, has_id, is_none_or_among, is_id, is_named_by}
use Rattle.hevc_kept_sets.specs.Settled.{names_no_other, is_among, is_unread, is_settled}
use Rattle.hevc_kept_sets.proofs.Named.{any_temporal_id}

-- ---- tests

or_left : (a b : Bool) → a ≡ true → (a || b) ≡ true
or_left a b e = rw e refl

or_right : (a b : Bool) → b ≡ true → (a || b) ≡ true
or_right true b e = refl
or_right false b e = e

-- where the first may be true, the other is; and where the second is, that or the other
or_by : (a b c d : Bool) → (a ≡ true → c ≡ true) → (b ≡ true → d ≡ true) → (a || b) ≡ true → (c || d) ≡ true
or_by true b c d first second e = or_left c d (first refl)
or_by false b c d first second e = or_right c d (second e)

both_true : (a b : Bool) → (a && b) ≡ true → (a ≡ true) × (b ≡ true)
both_true true b e = (refl, e)
both_true false b e = absurd (cc e)

-- where both of the first are true, both of the others are
both : (a c b d : Bool) → (a ≡ true → c ≡ true) → (b ≡ true → d ≡ true) → (a && b) ≡ true → (c && d) ≡ true
both true c b d first second e = rw (first refl) (second e)
both false c b d first second e = absurd (cc e)

all_weaker : {A : Type 0} (p q : A → Bool) → ((x : A) → p x ≡ true → q x ≡ true) → (xs : List A)
    → list_all p xs ≡ true → list_all q xs ≡ true
all_weaker p q by [] e = refl
all_weaker p q by (x ∷ xs) e = both (p x) (q x) (list_all p xs) (list_all q xs) (by x) (all_weaker p q by xs) e

all_by_both : {A : Type 0} (p q r : A → Bool) → ((x : A) → p x ≡ true → q x ≡ true → r x ≡ true)
    → (xs : List A) → list_all p xs ≡ true → list_all q xs ≡ true → list_all r xs ≡ true
all_by_both p q r by [] e f = refl
all_by_both p q r by (x ∷ xs) e f =
    let first = both_true (p x) (list_all p xs) e in
    let second = both_true (q x) (list_all q xs) f in
    rw (by x first.0 second.0) (all_by_both p q r by xs first.1 second.1)

all_push : {A : Type 0} (p : A → Bool) (xs : List A) (x : A) → list_all p xs ≡ true → p x ≡ true
    → list_all p (xs ++ x ∷ []) ≡ true
all_push p [] x all one = rw one refl
all_push p (y ∷ xs) x all one = both (p y) (p y) (list_all p xs) (list_all p (xs ++ x ∷ [])) (λ e. e)
    (λ more. all_push p xs x more one) all

-- ---- a wanted unit waits after others

pub wanted_pushed : (options : Options) (units items : List (List ℕ)) (unit bytes : List ℕ)
    (header : UnitHeader) (pushed : Bool) → list_all (cut.is_wanted options) units ≡ true
    → unit_header bytes ≡ Ok header → wants options header ≡ true → unit ≡ bytes
    → items ≡ (if pushed then units ++ unit ∷ [] else units) → list_all (cut.is_wanted options) items ≡ true
wanted_pushed options units items unit bytes header true all parsed low same to =
    let this : cut.is_wanted options bytes ≡ true = ap (cut.is_wanted_header options) parsed ∙ low in
    ap (list_all (cut.is_wanted options)) (to ∙ ap (λ (u : List ℕ). units ++ u ∷ []) same)
    ∙ all_push (cut.is_wanted options) units bytes all this
wanted_pushed options units items unit bytes header false all parsed low same to =
    ap (list_all (cut.is_wanted options)) to ∙ all

-- ---- the ids that units name

covered_by : (ids : ℕ) (units : List (List ℕ))
    → ((k : ℕ) → is_named_by units k ≡ true → has_id ids k ≡ true) → list_all (names_no_other ids) units ≡ true
covered_by ids [] all = refl
covered_by ids (bytes ∷ units) all =
    rw (first (named_set bytes) (λ k e. all k (or_left (is_id k (named_set bytes)) (is_named_by units k) e)))
    (covered_by ids units (λ k e. all k (or_right (is_id k (named_set bytes)) (is_named_by units k) e)))
  where
    first : (o : Option ℕ) → ((k : ℕ) → is_id k o ≡ true → has_id ids k ≡ true) → is_none_or_among ids o ≡ true
    first None is = refl
    first (Some k) is = is k (grind (arith, nat_tests))

-- the ids that units name
pub covered_by_names : (ids : ℕ) (units : List (List ℕ)) → ((k : ℕ) → has_id ids k ≡ is_named_by units k)
    → list_all (names_no_other ids) units ≡ true
covered_by_names ids units are = covered_by ids units (λ k e. are k ∙ e)

-- the ids that units name, and one more unit
pub one_more : (ids more : ℕ) (units : List (List ℕ)) (bytes : List ℕ) (named : Option ℕ)
    → named ≡ named_set bytes → ((k : ℕ) → has_id more k ≡ (is_id k named || has_id ids k))
    → ((k : ℕ) → has_id ids k ≡ is_named_by units k)
    → (k : ℕ) → has_id more k ≡ is_named_by (units ++ bytes ∷ []) k
one_more ids more units bytes named is marks are k =
    marks k ∙ ap (λ (b : Bool). is_id k named || b) (are k) ∙ ap (λ (o : Option ℕ). is_id k o || is_named_by units k) is
    ∙ turned (is_id k (named_set bytes)) (is_named_by units k)
    ∙ sym (list_any-append (λ b. is_id k (named_set b)) units (bytes ∷ []))
  where
    turned : (a b : Bool) → (a || b) ≡ (b || (a || false))
    turned true true = refl
    turned true false = refl
    turned false true = refl
    turned false false = refl

-- one more unit and its id, or none
module _ (ids more : ℕ) (bytes : List ℕ) (marks : (k : ℕ)
    → has_id more k ≡ (is_id k (named_set bytes) || has_id ids k)) where
  still_covered : (o : Option ℕ) → is_none_or_among ids o ≡ true → is_none_or_among more o ≡ true
  still_covered None e = refl
  still_covered (Some k) e = marks k ∙ or_right (is_id k (named_set bytes)) (has_id ids k) e

  now_covered : (o : Option ℕ) → named_set bytes ≡ o → is_none_or_among more o ≡ true
  now_covered None e = refl
  now_covered (Some k) e =
      let is : is_id k (named_set bytes) ≡ true = ap (is_id k) e ∙ grind (arith, nat_tests) in
      marks k ∙ or_left (is_id k (named_set bytes)) (has_id ids k) is

  pub covered_pushed : (units items : List (List ℕ)) (unit : List ℕ) (pushed : Bool)
      → list_all (names_no_other ids) units ≡ true → unit ≡ bytes
      → items ≡ (if pushed then units ++ unit ∷ [] else units) → list_all (names_no_other more) items ≡ true
  covered_pushed units items unit true all same to =
      ap (list_all (names_no_other more)) (to ∙ ap (λ (u : List ℕ). units ++ u ∷ []) same)
      ∙ all_push (names_no_other more) units bytes (all_weaker (names_no_other ids) (names_no_other more)
      (λ b. still_covered (named_set b)) units all) (now_covered (named_set bytes) refl)
  covered_pushed units items unit false all same to =
      ap (list_all (names_no_other more)) to ∙ all_weaker (names_no_other ids) (names_no_other more)
      (λ b. still_covered (named_set b)) units all

-- ---- what can't be read

pub unread_is : (c : Content) → is_unread c ≡ true → c ≡ unread_picture_set
unread_is unread_picture_set e = refl
unread_is (refused cause) e = absurd (cc e)
unread_is (video_set set) e = absurd (cc e)
unread_is (sequence_set set) e = absurd (cc e)
unread_is (picture_set set) e = absurd (cc e)
unread_is (slice header segment) e = absurd (cc e)
unread_is end_of_sequence e = absurd (cc e)
unread_is end_of_bitstream e = absurd (cc e)
unread_is nothing e = absurd (cc e)

-- it is the unit of a picture set
record IsPictureSetUnit (bytes : List ℕ) : Type 0 where
  header : UnitHeader
  parsed : unit_header bytes ≡ Ok header
  typed : header.nal_unit_type ≡ 34

module _ (options : Options) where
  typed_by : (kept : Kept) (bytes : List ℕ) → Means options kept bytes unread_picture_set → IsPictureSetUnit bytes
  typed_by kept bytes (is_faulty fault e m) = absurd cc
  typed_by kept bytes (is_unwanted h e above m) = absurd cc
  typed_by kept bytes (is_wanted h e below (is_picture_set t m)) = record { header = h; parsed = e; typed = t }
  typed_by kept bytes (is_wanted h e below (is_sequence_set t (spells x rest s m))) = absurd cc
  typed_by kept bytes (is_wanted h e below (is_sequence_set t (breaks_off fault rest b m))) = absurd cc
  typed_by kept bytes (is_wanted h e below (is_video_set t (spells x rest s m))) = absurd cc
  typed_by kept bytes (is_wanted h e below (is_video_set t (breaks_off fault rest b m))) = absurd cc
  typed_by kept bytes (is_wanted h e below (is_slice_segment has t (spells x rest s m))) = absurd cc
  typed_by kept bytes (is_wanted h e below (is_slice_segment has t (breaks_off fault rest b m))) = absurd cc
  typed_by kept bytes (is_wanted h e below (ends_sequence has t m)) = absurd cc
  typed_by kept bytes (is_wanted h e below (ends_bitstream has t m)) = absurd cc
  typed_by kept bytes (is_wanted h e below (comes_first has n m)) = absurd cc
  typed_by kept bytes (is_wanted h e below (is_other n o m)) = absurd cc

  -- the units that can't be read with these sets
  abbrev pub unread_with : Kept → List ℕ → Bool
  unread_with kept bytes = is_unread (content options kept bytes)

  -- a unit can't be read after other sets either that have the same sequence set for it
  still_unread : (kept other : Kept) (bytes : List ℕ)
      → IfSome (named_set bytes) (λ id. kept.sequence_sets id ≡ other.sequence_sets id)
      → unread_with kept bytes ≡ true → unread_with other bytes ≡ true
  still_unread kept other bytes same e =
      let is : content options kept bytes ≡ unread_picture_set = unread_is (content options kept bytes) e in
      let means : Means options kept bytes unread_picture_set = rw (← is) (means_content options kept bytes) in
      let unit = typed_by kept bytes means in
      let named = subst (λ (o : Option ℕ). IfSome o (λ id. kept.sequence_sets id ≡ other.sequence_sets id))
      (sym (any_temporal_id (temporal_id unit.header) bytes)) same in
      ap is_unread (sym (same_picture_set options kept other bytes unit.header unit.parsed unit.typed named)) ∙ e

  by_sets : (f g : ℕ → Option PlainSps) → f ≡ g → (o : Option ℕ) → IfSome o (λ id. f id ≡ g id)
  by_sets f g same None = tt
  by_sets f g same (Some id) = ap (λ (h : ℕ → Option PlainSps). h id) same

  pub unread_by_sets : (kept other : Kept) → kept.sequence_sets ≡ other.sequence_sets → (bytes : List ℕ)
      → unread_with kept bytes ≡ true → unread_with other bytes ≡ true
  unread_by_sets kept other same bytes e =
      still_unread kept other bytes (by_sets kept.sequence_sets other.sequence_sets same (named_set bytes)) e

  -- ---- units that are settled

  -- the sequence sets stay
  pub settled_by_sets : (changed : ℕ) (kept other : Kept) → kept.sequence_sets ≡ other.sequence_sets
      → (units : List (List ℕ)) → list_all (is_settled changed options kept) units ≡ true
      → list_all (is_settled changed options other) units ≡ true
  settled_by_sets changed kept other same units all =
      all_weaker (is_settled changed options kept) (is_settled changed options other)
      (λ bytes. or_by (is_among changed (named_set bytes)) (unread_with kept bytes)
      (is_among changed (named_set bytes)) (unread_with other bytes)
      (λ e. e) (unread_by_sets kept other same bytes)) units all

  -- a unit that can't be read is settled
  pub settled_unread : (changed : ℕ) (kept : Kept) (bytes : List ℕ)
      → content options kept bytes ≡ unread_picture_set → is_settled changed options kept bytes ≡ true
  settled_unread changed kept bytes is =
      or_right (is_among changed (named_set bytes)) (unread_with kept bytes) (ap is_unread is)

  pub settled_push : (changed : ℕ) (kept : Kept) (units : List (List ℕ)) (bytes : List ℕ)
      → list_all (is_settled changed options kept) units ≡ true
      → content options kept bytes ≡ unread_picture_set
      → list_all (is_settled changed options kept) (units ++ bytes ∷ []) ≡ true
  settled_push changed kept units bytes all is =
      all_push (is_settled changed options kept) units bytes all (settled_unread changed kept bytes is)

  -- a unit that can't be read is pushed, or isn't
  pub settled_pushed : (changed : ℕ) (kept : Kept) (units items : List (List ℕ)) (unit bytes : List ℕ)
      (pushed : Bool) → list_all (is_settled changed options kept) units ≡ true
      → content options kept bytes ≡ unread_picture_set → unit ≡ bytes
      → items ≡ (if pushed then units ++ unit ∷ [] else units) → list_all (is_settled changed options kept) items ≡ true
  settled_pushed changed kept units items unit bytes true all is same to =
      ap (list_all (is_settled changed options kept)) (to ∙ ap (λ (u : List ℕ). units ++ u ∷ []) same)
      ∙ settled_push changed kept units bytes all is
  settled_pushed changed kept units items unit bytes false all is same to =
      ap (list_all (is_settled changed options kept)) to ∙ all

  -- the first unit leaves
  pub settled_rest : (changed : ℕ) (kept : Kept) (items others : List (List ℕ)) (bytes : List ℕ)
      (found : Option (List ℕ)) → items ≡ option_to_list found ++ others → found ≡ Some bytes
      → list_all (is_settled changed options kept) items ≡ true
      → list_all (is_settled changed options kept) others ≡ true
  settled_rest changed kept items others bytes found split is all =
      let whole : items ≡ bytes ∷ others = split ∙ ap (λ (o : Option (List ℕ)). option_to_list o ++ others) is in
      (both_true (is_settled changed options kept bytes) (list_all (is_settled changed options kept) others)
      (ap (list_all (is_settled changed options kept)) (sym whole) ∙ all)).1

  -- one sequence set is kept, and its id is among those that changed
  module _ (set : PlainSps) (changed more : ℕ) (marks : (k : ℕ)
      → has_id more k ≡ (k == set.seq_parameter_set_id || has_id changed k)) (kept : Kept) where
    by_name : (bytes : List ℕ) (o : Option ℕ) → named_set bytes ≡ o
        → (is_among changed o || unread_with kept bytes) ≡ true
        → (is_among more o || unread_with (with_sequence_set set kept) bytes) ≡ true
    by_name bytes None named e =
        still_unread kept (with_sequence_set set kept) bytes
        (subst (λ (o : Option ℕ). IfSome o
        (λ id. kept.sequence_sets id ≡ (with_sequence_set set kept).sequence_sets id)) (sym named) tt) e
    by_name bytes (Some k) named e = by_test (k == set.seq_parameter_set_id) refl
      where
        by_test : (b : Bool) → (k == set.seq_parameter_set_id) ≡ b
            → (has_id more k || unread_with (with_sequence_set set kept) bytes) ≡ true
        by_test true t =
            or_left (has_id more k) (unread_with (with_sequence_set set kept) bytes)
            (marks k ∙ ap (λ (b : Bool). b || has_id changed k) t)
        by_test false t =
            let same : kept.sequence_sets k ≡ (with_sequence_set set kept).sequence_sets k =
            sym (ap (λ (b : Bool). if b then Some set else kept.sequence_sets k) t) in
            or_by (has_id changed k) (unread_with kept bytes) (has_id more k)
            (unread_with (with_sequence_set set kept) bytes)
            (λ h. marks k ∙ or_right (k == set.seq_parameter_set_id) (has_id changed k) h)
            (still_unread kept (with_sequence_set set kept) bytes
            (subst (λ (o : Option ℕ). IfSome o
            (λ id. kept.sequence_sets id ≡ (with_sequence_set set kept).sequence_sets id)) (sym named) same)) e

    pub settled_behind_set : (units : List (List ℕ))
        → list_all (is_settled changed options kept) units ≡ true
        → list_all (is_settled more options (with_sequence_set set kept)) units ≡ true
    settled_behind_set units all =
        all_weaker (is_settled changed options kept) (is_settled more options (with_sequence_set set kept))
        (λ bytes. by_name bytes (named_set bytes) refl) units all

  -- a sequence set is kept that was kept already
  set_again : (id : ℕ) (set : PlainSps) (sets : ℕ → Option PlainSps) → sets id ≡ Some set → sets ≡ with_set id set sets
  set_again id set sets is = fun_ext (λ k. by_test k (k == id) refl)
    where
      by_test : (k : ℕ) (b : Bool) → (k == id) ≡ b → sets k ≡ (if b then Some set else sets k)
      by_test k true t = let same : k ≡ id = grind (arith, nat_tests) in ap sets same ∙ is
      by_test k false t = refl

  pub settled_again : (changed : ℕ) (set : PlainSps) (old new : Kept)
      → old.sequence_sets set.seq_parameter_set_id ≡ Some set → new ≡ with_sequence_set set old
      → (units : List (List ℕ)) → list_all (is_settled changed options old) units ≡ true
      → list_all (is_settled changed options new) units ≡ true
  settled_again changed set old new is kept units all =
      settled_by_sets changed old new (set_again set.seq_parameter_set_id set old.sequence_sets is
      ∙ sym (ap (λ (k : Kept). k.sequence_sets) kept)) units all

  none_among : (o : Option ℕ) → is_among 0 o ≡ false
  none_among None = refl
  none_among (Some id) = ap (λ (n : ℕ). n == 1) (bit_at-zero id)

  -- where no sequence set changed, all that wait can't be read
  all_unread : (kept : Kept) (units : List (List ℕ)) → list_all (is_settled 0 options kept) units ≡ true
      → list_all (unread_with kept) units ≡ true
  all_unread kept units all = all_weaker (is_settled 0 options kept) (unread_with kept)
      (λ bytes e. ap (λ (b : Bool). b || unread_with kept bytes) (sym (none_among (named_set bytes))) ∙ e) units all

  -- where no sequence set changed that they name, it is as if none had changed
  module _ (changed named : ℕ) (apart : bit_and changed named ≡ 0) (kept : Kept) where
    not_among : (k : ℕ) → has_id named k ≡ true → has_id changed k ≡ false
    not_among k e =
        let second : bit_at named k ≡ 1 = grind (arith, nat_tests) in
        let least : min (bit_at changed k) (bit_at named k) ≡ 0 = sym (bit_at_and changed named k)
        ∙ ap (λ (n : ℕ). bit_at n k) apart ∙ bit_at-zero k in
        let first : bit_at changed k ≡ 0 = omega (arith, least, second) in
        ap (λ (n : ℕ). n == 1) first

    unnamed : (o : Option ℕ) → is_none_or_among named o ≡ true → is_among changed o ≡ false
    unnamed None e = refl
    unnamed (Some k) e = not_among k e

    one_apart : (bytes : List ℕ) → is_settled changed options kept bytes ≡ true
        → names_no_other named bytes ≡ true → is_settled 0 options kept bytes ≡ true
    one_apart bytes e c =
        or_right (is_among 0 (named_set bytes)) (unread_with kept bytes)
        (ap (λ (b : Bool). b || unread_with kept bytes) (sym (unnamed (named_set bytes) c)) ∙ e)

    pub settled_apart : (units : List (List ℕ)) → list_all (is_settled changed options kept) units ≡ true
        → list_all (names_no_other named) units ≡ true → list_all (is_settled 0 options kept) units ≡ true
    settled_apart units all covered =
        all_by_both (is_settled changed options kept) (names_no_other named)
        (is_settled 0 options kept) one_apart units all covered

  -- ---- all units that wait are tried once more

  stays_unread : (kept : Kept) (bytes : List ℕ) → unread_with kept bytes ≡ true
      → with_waited options kept bytes ≡ with_waiting bytes kept
  stays_unread kept bytes e =
      ap (λ (c : Content). with_picture_set_unit bytes c kept) (unread_is (content options kept bytes) e)

  all_stay : (units : List (List ℕ)) (kept : Kept) → list_all (unread_with kept) units ≡ true
      → fold (with_waited options) kept units ≡ record kept { waiting = kept.waiting ++ units }
  all_stay [] kept all = ap (λ (ws : List (List ℕ)). record kept { waiting = ws }) (sym (append-nil kept.waiting))
  all_stay (bytes ∷ units) kept all =
      let tests = both_true (unread_with kept bytes) (list_all (unread_with kept) units) all in
      ap (λ (k : Kept). fold (with_waited options) k units) (stays_unread kept bytes tests.0)
      ∙ all_stay units (with_waiting bytes kept)
      (all_weaker (unread_with kept) (unread_with (with_waiting bytes kept))
      (unread_by_sets kept (with_waiting bytes kept) refl) units tests.1)
      ∙ ap (λ (ws : List (List ℕ)). record kept { waiting = ws }) (append_assoc kept.waiting (bytes ∷ []) units)

  -- what is kept stays where no sequence set changed
  pub all_stay_where_none_changed : (kept : Kept) (units : List (List ℕ))
      → list_all (is_settled 0 options kept) units ≡ true
      → record kept { waiting = units } ≡ with_all_waited options (record kept { waiting = units })
  all_stay_where_none_changed kept units all =
      let begun : Kept = record kept { waiting = [] } in
      sym (all_stay units begun
      (all_weaker (unread_with kept) (unread_with begun) (unread_by_sets kept begun refl) units
      (all_unread kept units all)))

  unit_leaves : (kept : Kept) (bytes : List ℕ) (c : Content) → content options kept bytes ≡ c
      → list_all (unread_with kept) kept.waiting ≡ true
      → list_all (unread_with (with_picture_set_unit bytes c kept)) (with_picture_set_unit bytes c kept).waiting ≡ true
  unit_leaves kept bytes (picture_set set) e all =
      let behind : Kept = with_picture_set_unit bytes (picture_set set) kept in
      all_weaker (unread_with kept) (unread_with behind) (unread_by_sets kept behind refl) kept.waiting all
  unit_leaves kept bytes unread_picture_set e all =
      let behind : Kept = with_picture_set_unit bytes unread_picture_set kept in
      all_push (unread_with behind) kept.waiting bytes
      (all_weaker (unread_with kept) (unread_with behind)
      (unread_by_sets kept behind refl) kept.waiting all) (unread_by_sets kept behind refl bytes (ap is_unread e))
  unit_leaves kept bytes (refused cause) e all = all
  unit_leaves kept bytes (video_set set) e all = all
  unit_leaves kept bytes (sequence_set set) e all = all
  unit_leaves kept bytes (slice header segment) e all = all
  unit_leaves kept bytes end_of_sequence e all = all
  unit_leaves kept bytes end_of_bitstream e all = all
  unit_leaves kept bytes nothing e all = all

  fold_leaves : (units : List (List ℕ)) (kept : Kept) → list_all (unread_with kept) kept.waiting ≡ true
      → list_all (unread_with (fold (with_waited options) kept units))
      (fold (with_waited options) kept units).waiting ≡ true
  fold_leaves [] kept all = all
  fold_leaves (bytes ∷ units) kept all =
      fold_leaves units (with_waited options kept bytes) (unit_leaves kept bytes (content options kept bytes) refl all)

  -- those that wait once all were tried are settled, and no sequence set has changed since
  pub all_settled : (changed : ℕ) (old new : Kept) → new ≡ with_all_waited options old
      → list_all (is_settled changed options new) new.waiting ≡ true
  all_settled changed old new is =
      let all : list_all (unread_with new) new.waiting ≡ true =
      rw is (fold_leaves old.waiting (record old { waiting = [] }) refl) in
      all_weaker (unread_with new) (is_settled changed options new)
      (λ bytes e. or_right (is_among changed (named_set bytes)) (unread_with new bytes) e) new.waiting all

  -- ---- the first unit that waits isn't tried

  pub first_unread : (changed : ℕ) (kept : Kept) (items units : List (List ℕ)) (bytes : List ℕ)
      (found : Option (List ℕ)) → items ≡ option_to_list found ++ units → found ≡ Some bytes
      → list_all (is_settled changed options kept) items ≡ true → is_among changed (named_set bytes) ≡ false
      → content options kept bytes ≡ unread_picture_set
  first_unread changed kept items units bytes found split is all other =
      let whole : items ≡ bytes ∷ units = split ∙ ap (λ (o : Option (List ℕ)). option_to_list o ++ units) is in
      unread_is (content options kept bytes)
      (by_tests (is_among changed (named_set bytes)) (unread_with kept bytes) other
      (ap (list_all (is_settled changed options kept)) (sym whole) ∙ all))
    where
      by_tests : (a b : Bool) → a ≡ false
          → ((a || b) && list_all (is_settled changed options kept) units) ≡ true → b ≡ true
      by_tests true b is h = absurd (cc is)
      by_tests false true is h = refl
      by_tests false false is h = absurd (cc h)
