-- What taking the unit of a parameter set answers and leaves (7.4.2.4.2).
use Rattle.std.specs.Prelude.{◌≡◌, ℕ, ◌-◌, Bool, true, false, List, [], ◌∷◌, ◌++◌, fold, Option}
use Rattle.std.specs.Prelude.{Some, None, Result, Ok, Err}
use Rattle.hevc_spec.specs.UnitHeader.{UnitHeader}
use Rattle.hevc_spec.specs.Payload.{payload}
use Rattle.hevc_spec.specs.Table.{read}
use Rattle.hevc_records.specs.Vps.{PlainVps}
use Rattle.hevc_records.specs.Sps.{PlainSps}
use Rattle.hevc_records.specs.Pps.{PlainPps}
use Rattle.hevc_tables.specs.PpsTable.{picture_parameter_set}
use Rattle.hevc_walk.specs.Meanings as causes
use Rattle.hevc_walk.specs.Meanings.{UnitCause}
use Rattle.hevc_elements.specs.declared.parse_error.ParseError.{ParseError}
use Rattle.hevc_elements.specs.declared.parse_error.ParseError.TheVariants as errors
use Rattle.hevc_stream.specs.Options.{Options}
use Rattle.hevc_stream.specs.Kept.{Kept, with_sequence_set, with_picture_set}
use Rattle.hevc_stream.specs.Contents.{Content, refused, video_set, sequence_set, picture_set}
use Rattle.hevc_stream.specs.Contents.{unread_picture_set, picture_set_read, content}
use Rattle.hevc_stream.specs.Stream.{with_waited, kept_behind}

-- the error that tells of a cause; a parameter set is refused for no other
abbrev pub cause_error : UnitCause → Option ParseError
cause_error causes.OutOfBits = Some errors.OutOfBits
cause_error (causes.OutOfRange table row) = Some (errors.OutOfRange table row)
cause_error other = None

-- the content is refused for a cause that the error tells of
abbrev pub IsRefusedBy : ParseError → Content → Type 0
IsRefusedBy error c = (cause : UnitCause) × (c ≡ refused cause) × (cause_error cause ≡ Some error)

-- a refusal leaves what is kept; it is the unit's, or an allocation fails
abbrev pub Refuses : Options → List ℕ → ParseError → Kept → Kept → Type 0
Refuses options bytes errors.NoMemory old new = new ≡ old
Refuses options bytes error old new = IsRefusedBy error (content options old bytes) × (new ≡ old)

-- the unit is a video set, which is kept
abbrev pub TakesVideoSet : {D : Type 0} → Options → List ℕ → Result D ParseError → Kept → Kept
    → Type 0
TakesVideoSet options bytes (Ok done) old new =
    (set : PlainVps)
    × (content options old bytes ≡ video_set set)
    × (new ≡ kept_behind options old bytes)
TakesVideoSet options bytes (Err error) old new = Refuses options bytes error old new

-- the unit is a sequence set of this id, which is kept, and no unit that waits is tried
abbrev pub KeepsSequenceSet : Options → List ℕ → Result ℕ ParseError → Kept → Kept → Type 0
KeepsSequenceSet options bytes (Ok id) old new =
    (set : PlainSps)
    × (content options old bytes ≡ sequence_set set)
    × (set.seq_parameter_set_id ≡ id)
    × (new ≡ with_sequence_set set old)
KeepsSequenceSet options bytes (Err error) old new = Refuses options bytes error old new

-- units were tried once more, in their order; the others wait on,
-- after those of them that wait still
abbrev pub with_waited_up_to : Options → (tried others : List (List ℕ)) → Kept → Kept
with_waited_up_to options tried others kept =
    let behind = fold (with_waited options) (record kept { waiting = [] }) tried in
    record behind { waiting = behind.waiting ++ others }

-- the units that wait were tried up to one of them, and the others not
abbrev pub StopsReading : Options → Kept → Kept → Type 0
StopsReading options old new =
    (tried others : List (List ℕ))
    × (old.waiting ≡ tried ++ others)
    × (new ≡ with_waited_up_to options tried others old)

-- the first unit that waits is tried once more
abbrev pub first_waited : Options → List (List ℕ) → Kept → Kept
first_waited options [] kept = kept
first_waited options (bytes ∷ others) kept =
    with_waited options (record kept { waiting = others }) bytes

-- a unit of a picture set, of a wanted sub-layer, where it is read with these sets
abbrev pub picture_set_content : UnitHeader → List ℕ → Kept → Content
picture_set_content header bytes kept =
    picture_set_read
    (read (picture_parameter_set (header.nuh_temporal_id_plus1 - 1) kept.sequence_sets)
    (payload bytes))

-- the unit is a picture set, which is kept, or one that can't be read; or an allocation fails
abbrev pub ReadsPictureSet : {E : Type 0} → UnitHeader → List ℕ → Result Bool E → Kept → Kept
    → Type 0
ReadsPictureSet header bytes (Ok true) old new =
    (set : PlainPps)
    × (picture_set_content header bytes old ≡ picture_set set)
    × (new ≡ with_picture_set set old)
ReadsPictureSet header bytes (Ok false) old new =
    (picture_set_content header bytes old ≡ unread_picture_set) × (new ≡ old)
ReadsPictureSet header bytes (Err error) old new = new ≡ old
