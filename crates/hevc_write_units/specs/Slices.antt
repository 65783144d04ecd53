-- The lines of slice segments in units, and what such units mean.
use Rattle.std.specs.Prelude.{◌≡◌, ◌==◌, if◌then◌else◌, ℕ, Bool, true, List, ◌++◌, Option}
use Rattle.std.specs.Prelude.{Some, None}
use Rattle.hevc_spec.specs.Lines.{Line, HasLines, AreGood}
use Rattle.hevc_spec.specs.Table.{Table}
use Rattle.hevc_spec.specs.UnitHeader.{UnitHeader}
use Rattle.hevc_spec.specs.UnitTypes.{is_slice}
use Rattle.hevc_records.specs.Pps.{PlainPps}
use Rattle.hevc_records.specs.SliceHeader.{PlainSliceSegmentHeader}
use Rattle.hevc_records.specs.Sps.{PlainSps}
use Rattle.hevc_tables.specs.SliceHeaderTable.{ActiveSets, active_sets, elements}
use Rattle.hevc_stream.specs.Contents.{slice, content, wants}
use Rattle.hevc_stream.specs.Kept.{Kept, with_set}
use Rattle.hevc_stream.specs.Options.{Options}
use Rattle.hevc_write_elements.specs.Choices.{IsFilled}

-- ---- sizes

-- a header with the three sizes of another, which tell how it was written
abbrev pub with_sizes_of : PlainSliceSegmentHeader → PlainSliceSegmentHeader
    → PlainSliceSegmentHeader
with_sizes_of sizes h = record h {
  header_bit_size = sizes.header_bit_size;
  n_emulation_prevention_bytes = sizes.n_emulation_prevention_bytes;
  st_rps_bits = sizes.st_rps_bits;
}

-- a header is another but for its sizes
abbrev pub IsSameButSizes : PlainSliceSegmentHeader → PlainSliceSegmentHeader → Type 0
IsSameButSizes h x = h ≡ with_sizes_of h x

-- Where the table gives a header that is this one but for its sizes, lines of such a header are
-- added, with the chosen values, and with no more flags of row 5 of table 7 set.
pub record WritesSized (t : Table PlainSliceSegmentHeader) (x : PlainSliceSegmentHeader)
    (old new : List Bool) : Type 0 where
  pub written : (h : PlainSliceSegmentHeader) (lines : List Line) → HasLines t h lines
      → AreGood lines → IsSameButSizes h x
      → (own : PlainSliceSegmentHeader) × (added : List Bool) × IsSameButSizes own x
      × IsFilled t own lines added × (new ≡ old ++ added)

-- lines of a header that is this one but for its sizes
pub record HasElements (t : Table PlainSliceSegmentHeader) (x : PlainSliceSegmentHeader) : Type 0
  where
    pub own : PlainSliceSegmentHeader
    pub lines : List Line
    pub has : HasLines t own lines
    pub good : AreGood lines
    pub same : IsSameButSizes own x

-- ---- lines and meanings

-- one picture set is kept
abbrev pub only_picture_set : PlainPps → ℕ → Option PlainPps
only_picture_set pps = with_set pps.pic_parameter_set_id pps (λ id. None)

-- one picture set is kept, and the sequence set that it names
abbrev pub only_sets : PlainSps → PlainPps → ℕ → Option ActiveSets
only_sets sps pps id =
    if id == pps.pic_parameter_set_id then Some (record { sps = sps; pps = pps }) else None

-- The lines of a slice header (table 14, without row 53) that names the sets, in a unit of a slice's
-- type, but for its sizes.
pub record SliceLines (sps : PlainSps) (pps : PlainPps) (x : PlainSliceSegmentHeader)
    (header : UnitHeader) (lines : List Line) : Type 0 where
  pub typed : is_slice header.nal_unit_type ≡ true
  pub names : x.pic_parameter_set_id ≡ pps.pic_parameter_set_id
  pub named : pps.seq_parameter_set_id ≡ sps.seq_parameter_set_id
  pub own : PlainSliceSegmentHeader
  pub same : IsSameButSizes own x
  pub has : HasLines (elements header.nal_unit_type (only_sets sps pps)) own lines
  pub good : AreGood lines

-- Where it is wanted, a unit of these bytes means the slice header, but for its sizes,
-- if the sets are kept that it names.
abbrev pub MeansSlice : PlainSps → PlainPps → PlainSliceSegmentHeader → UnitHeader → List ℕ
    → Type 0
MeansSlice sps pps x header bytes =
    (options : Options) (kept : Kept) → wants options header ≡ true
    → kept.has_sequence_set ≡ true
    → active_sets kept.sequence_sets kept.picture_sets x.pic_parameter_set_id
    ≡ Some (record { sps = sps; pps = pps })
    → (own : PlainSliceSegmentHeader) × IsSameButSizes own x
    × (content options kept bytes ≡ slice header own)
