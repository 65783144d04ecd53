-- What reading the unit of a set answers, as what is kept after it.
use Rattle.std.proofs.Common.{◌≡◌, ℕ, ◌≤◌, ◌-◌, Bool, true, false, List, [], ◌∷◌, ◌++◌, Option}
use Rattle.std.proofs.Common.{Some, Result, Ok, Err, refl, ap, sym, ◌∙◌, arith}
use Rattle.std.specs.Prelude.{◌&&◌, option_to_list}
use Rattle.std.specs.List.{list_all}
use Rattle.std.proofs.lemmas.Bool.Decides.{nat_tests}
use Rattle.hevc_spec.specs.UnitHeader.{UnitHeader, HeaderFault, unit_header}
use Rattle.hevc_spec.specs.Payload.{payload}
use Rattle.hevc_spec.specs.Table.{Reading, gives, refuses, read}
use Rattle.hevc_records.specs.Vps.{PlainVps}
use Rattle.hevc_records.specs.Sps.{PlainSps}
use Rattle.hevc_records.specs.Pps.{PlainPps}
use Rattle.hevc_tables.specs.VpsTable.{video_parameter_set}
use Rattle.hevc_tables.specs.SpsTable.{sequence_parameter_set}
use Rattle.hevc_tables.specs.PpsTable.{picture_parameter_set}
use Rattle.hevc_walk.specs.Meanings as causes
use Rattle.hevc_elements.specs.declared.parse_error.ParseError.{ParseError}
use Rattle.hevc_elements.specs.declared.parse_error.ParseError.TheVariants as errors
use Rattle.hevc_elements.specs.Sets.{RefusesSet, NamesNoSet}
use Rattle.hevc_stream.specs.Options.{Options}
use Rattle.hevc_stream.specs.Kept.{Kept, with_video_set, with_sequence_set}
use Rattle.hevc_stream.specs.Contents.{Content, video_set, sequence_set, unread_picture_set}
use Rattle.hevc_stream.specs.Contents.{content_read, picture_set_read, content, wants}
use Rattle.hevc_stream.specs.Stream.{with_picture_set_unit, with_waited, with_all_waited, with_content, kept_behind}
use Rattle.hevc_stream_laws.proofs.ByType.{of_video_set, of_sequence_set, of_picture_set}
use Rattle.hevc_parser.specs.declared.parser.Parser.{Parser}
use Rattle.hevc_parser.specs.Kept.{kept_by}
use Rattle.hevc_parser.specs.Lending.{Keeps}
use Rattle.hevc_kept_sets.specs.Takes.{Refuses, TakesVideoSet, KeepsSequenceSet, ReadsPictureSet}
use Rattle.hevc_kept_sets.specs.Takes.{picture_set_content, first_waited}
use Rattle.hevc_kept_sets.specs.CutUnits.{is_wanted_header, is_wanted}
use Rattle.hevc_kept_sets.proofs.Waiting.{waited_by}

-- what a call that lends a set leaves, by its answer
pub kept_where_ok : {X E : Type 0} (with_set : X → Kept → Kept) (r : Result X E) (x : X) (old new : Parser)
    → r ≡ Ok x → Keeps with_set r old new → kept_by new ≡ with_set x (kept_by old)
kept_where_ok with_set (Ok y) x old new is keeps = keeps ∙ ap (λ z. with_set z (kept_by old)) (cc is)
kept_where_ok with_set (Err e) x old new is keeps = absurd (cc is)

pub stays_where_err : {X E : Type 0} (with_set : X → Kept → Kept) (r : Result X E) (e : E)
    (old new : Parser) → r ≡ Err e → Keeps with_set r old new → kept_by new ≡ kept_by old
stays_where_err with_set (Ok y) e old new is keeps = absurd (cc is)
stays_where_err with_set (Err f) e old new is keeps = keeps

-- a refusal of a reading is that of the unit that it reads
pub refused_by : {A : Type 0} (means : A → Content) (reading : Reading A) (options : Options)
    (bytes : List ℕ) (old new : Kept) (e : ParseError)
    → content options old bytes ≡ content_read means reading → RefusesSet e reading → NamesNoSet e
    → new ≡ old → Refuses options bytes e old new
refused_by means reading options bytes old new errors.WrongNaluType is why names same = absurd why
refused_by means reading options bytes old new errors.OutOfBits is why names same =
    ((causes.OutOfBits, is ∙ ap (content_read means) why.1, refl), same)
refused_by means reading options bytes old new (errors.OutOfRange table row) is why names same =
    ((causes.OutOfRange table row, is ∙ ap (content_read means) why.1, refl), same)
refused_by means reading options bytes old new (errors.MissingSps id) is why names same = absurd names
refused_by means reading options bytes old new (errors.MissingPps id) is why names same = absurd names
refused_by means reading options bytes old new errors.NoMemory is why names same = same

module _ (options : Options) (bytes : List ℕ) (header : UnitHeader) (parsed : unit_header bytes ≡ Ok header)
    (wanted : wants options header ≡ true) where
  behind_video_set : (old : Kept) (set : PlainVps) → content options old bytes ≡ video_set set
      → kept_behind options old bytes ≡ with_video_set set old
  unfolding kept_behind
  behind_video_set old set is = ap (λ (c : Content). with_content options bytes c old) is

  pub video_set_taken : {D : Type 0} (done : D) (waiting : List (List ℕ)) (old new : Kept) (set : PlainVps)
      (reading : (rest : List Bool) × (read video_parameter_set (payload bytes) ≡ gives set rest))
      → header.nal_unit_type ≡ 32
      → new ≡ with_video_set set old
      → TakesVideoSet options bytes (Ok done) (waited_by waiting old) (waited_by waiting new)
  video_set_taken done waiting old new set reading typed kept =
      let is : content options (waited_by waiting old) bytes ≡ video_set set =
      of_video_set options (waited_by waiting old) bytes header parsed wanted typed
      ∙ ap (content_read video_set) reading.1 in
      (set, is, ap (waited_by waiting) kept ∙ sym (behind_video_set (waited_by waiting old) set is))

  pub video_set_refused : (waiting : List (List ℕ)) (old new : Kept) (e : ParseError)
      → header.nal_unit_type ≡ 32 → RefusesSet e (read video_parameter_set (payload bytes)) → NamesNoSet e → new ≡ old
      → Refuses options bytes e (waited_by waiting old) (waited_by waiting new)
  video_set_refused waiting old new e typed why names same =
      refused_by video_set (read video_parameter_set (payload bytes)) options bytes (waited_by waiting old)
      (waited_by waiting new) e
      (of_video_set options (waited_by waiting old) bytes header parsed wanted typed) why names
      (ap (waited_by waiting) same)

  pub sequence_set_kept : (waiting : List (List ℕ)) (old new : Kept) (set : PlainSps)
      (reading : (rest : List Bool) × (read sequence_parameter_set (payload bytes) ≡ gives set rest))
      → header.nal_unit_type ≡ 33
      → new ≡ with_sequence_set set old
      → KeepsSequenceSet options bytes (Ok set.seq_parameter_set_id) (waited_by waiting old) (waited_by waiting new)
  sequence_set_kept waiting old new set reading typed kept = (
    set,
    of_sequence_set options (waited_by waiting old) bytes header parsed wanted typed
        ∙ ap (content_read sequence_set) reading.1,
    refl,
    ap (waited_by waiting) kept,
  )

  -- the sequence set is kept, and then all units that wait are tried once more
  pub behind_sequence_set : (old : Kept) (set : PlainSps) → content options old bytes ≡ sequence_set set
      → kept_behind options old bytes ≡ with_all_waited options (with_sequence_set set old)
  unfolding kept_behind
  behind_sequence_set old set is = ap (λ (c : Content). with_content options bytes c old) is

  pub sequence_set_refused : (waiting : List (List ℕ)) (old new : Kept) (e : ParseError)
      → header.nal_unit_type ≡ 33 → RefusesSet e (read sequence_parameter_set (payload bytes))
      → NamesNoSet e → new ≡ old
      → Refuses options bytes e (waited_by waiting old) (waited_by waiting new)
  sequence_set_refused waiting old new e typed why names same =
      refused_by sequence_set (read sequence_parameter_set (payload bytes)) options bytes
      (waited_by waiting old) (waited_by waiting new) e
      (of_sequence_set options (waited_by waiting old) bytes header parsed wanted typed) why names
      (ap (waited_by waiting) same)

  -- ---- picture sets

  module _ (typed : header.nal_unit_type ≡ 34) where
    waited_picture_set : (old : Kept)
        → with_waited options old bytes ≡ with_picture_set_unit bytes (picture_set_content header bytes old) old
    waited_picture_set old =
        ap (λ (c : Content). with_picture_set_unit bytes c old)
        (of_picture_set options old bytes header parsed wanted typed)

    pub picture_set_tried : (E : Type 0) (waiting : List (List ℕ)) (old new : Kept)
        → ReadsPictureSet {E = E} header bytes (Ok true) old new
        → waited_by waiting new ≡ with_waited options (waited_by waiting old) bytes
    picture_set_tried E waiting old new reads = ap (waited_by waiting) reads.2
        ∙ ap (λ (c : Content). with_picture_set_unit bytes c (waited_by waiting old)) (sym reads.1)
        ∙ sym (waited_picture_set (waited_by waiting old))

    pub picture_set_waits : (E : Type 0) (waiting : List (List ℕ)) (old new : Kept)
        → ReadsPictureSet {E = E} header bytes (Ok false) old new
        → waited_by (waiting ++ bytes ∷ []) new ≡ with_waited options (waited_by waiting old) bytes
    picture_set_waits E waiting old new reads = ap (waited_by (waiting ++ bytes ∷ [])) reads.1
        ∙ ap (λ (c : Content). with_picture_set_unit bytes c (waited_by waiting old)) (sym reads.0)
        ∙ sym (waited_picture_set (waited_by waiting old))

    -- after the unit, where it was read or not
    pub behind_read : (E : Type 0) (read_it : Bool) (waiting : List (List ℕ)) (old new : Kept)
        → read_it ≡ true → ReadsPictureSet {E = E} header bytes (Ok read_it) old new
        → waited_by waiting new ≡ with_waited options (waited_by waiting old) bytes
    behind_read E true waiting old new is reads = picture_set_tried E waiting old new reads
    behind_read E false waiting old new is reads = absurd (cc is)

    pub behind_unread : (E : Type 0) (read_it : Bool) (waiting : List (List ℕ)) (old new : Kept)
        → read_it ≡ false → ReadsPictureSet {E = E} header bytes (Ok read_it) old new
        → waited_by (waiting ++ bytes ∷ []) new ≡ with_waited options (waited_by waiting old) bytes
    behind_unread E true waiting old new is reads = absurd (cc is)
    behind_unread E false waiting old new is reads = picture_set_waits E waiting old new reads

    -- a unit that wasn't read can't be read
    pub unread_behind : (E : Type 0) (read_it : Bool) (old new : Kept) → read_it ≡ false
        → ReadsPictureSet {E = E} header bytes (Ok read_it) old new → content options new bytes ≡ unread_picture_set
    unread_behind E true old new is reads = absurd (cc is)
    unread_behind E false old new is reads = ap (λ (k : Kept). content options k bytes) reads.1
        ∙ of_picture_set options old bytes header parsed wanted typed ∙ reads.0

    by_content : (old : Kept) (reading : Reading PlainPps)
        → with_content options bytes (picture_set_read reading) old ≡ with_picture_set_unit bytes
        (picture_set_read reading) old
    by_content old (gives set rest) = refl
    by_content old (refuses fault rest) = refl

    pub behind_picture_set : (old : Kept) → kept_behind options old bytes ≡ with_waited options old bytes
    unfolding kept_behind
    behind_picture_set old =
        let is = of_picture_set options old bytes header parsed wanted typed in
        ap (λ (c : Content). with_content options bytes c old) is
        ∙ by_content old (read (picture_parameter_set (header.nuh_temporal_id_plus1 - 1) old.sequence_sets)
        (payload bytes)) ∙ sym (waited_picture_set old)

-- reading a picture set leaves the sequence sets
pub sets_stay : {E : Type 0} (header : UnitHeader) (bytes : List ℕ) (r : Result Bool E) (old new : Kept)
    → ReadsPictureSet header bytes r old new → old.sequence_sets ≡ new.sequence_sets
sets_stay header bytes (Ok true) old new reads = sym (ap (λ (k : Kept). k.sequence_sets) reads.2)
sets_stay header bytes (Ok false) old new reads = sym (ap (λ (k : Kept). k.sequence_sets) reads.1)
sets_stay header bytes (Err e) old new reads = sym (ap (λ (k : Kept). k.sequence_sets) reads)

-- ---- the first unit that waits

pub first_tried : (options : Options) (items others left : List (List ℕ)) (bytes : List ℕ)
    (found : Option (List ℕ)) (old new : Kept) → items ≡ option_to_list found ++ others → found ≡ Some bytes
    → waited_by left new ≡ with_waited options (waited_by others old) bytes
    → waited_by left new ≡ first_waited options items (waited_by items old)
first_tried options items others left bytes found old new split is tried =
    let all : items ≡ bytes ∷ others = split ∙ ap (λ (o : Option (List ℕ)). option_to_list o ++ others) is in
    tried ∙ ap (λ (ws : List (List ℕ)). first_waited options ws (waited_by ws old)) (sym all)

wanted_by_test : (options : Options) (header : UnitHeader) (r : Result UnitHeader HeaderFault) → r ≡ Ok header
    → is_wanted_header options r ≡ true → wants options header ≡ true
wanted_by_test options header (Ok h) is wanted =
    let same : h ≡ header = cc is in
    ap (λ (k : UnitHeader). wants options k) (sym same) ∙ wanted
wanted_by_test options header (Err fault) is wanted = absurd (cc is)

first_by_test : (b c : Bool) → (b && c) ≡ true → b ≡ true
first_by_test true c e = refl
first_by_test false c e = e

-- a unit that waits is wanted
pub first_is_wanted : (options : Options) (items others : List (List ℕ)) (bytes : List ℕ)
    (found : Option (List ℕ)) (header : UnitHeader) → items ≡ option_to_list found ++ others
    → found ≡ Some bytes → unit_header bytes ≡ Ok header
    → list_all (is_wanted options) items ≡ true → wants options header ≡ true
first_is_wanted options items others bytes found header split is parsed all =
    let whole : items ≡ bytes ∷ others = split ∙ ap (λ (o : Option (List ℕ)). option_to_list o ++ others) is in
    let first : (is_wanted options bytes && list_all (is_wanted options) others) ≡ true =
    ap (list_all (is_wanted options)) (sym whole) ∙ all in
    wanted_by_test options header (unit_header bytes) parsed
    (first_by_test (is_wanted options bytes) (list_all (is_wanted options) others) first)
