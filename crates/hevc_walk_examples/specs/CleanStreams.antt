-- Streams at the bounds of what is clean, and beyond each.
use Rattle.std.specs.Prelude.{ℕ, negsuc, List, [], ◌∷◌}
use Rattle.hevc_walk.specs.Meanings.{ShortTermMember, Format, I, P, NamedSets, Meaning, SequenceSet}
use Rattle.hevc_walk.specs.Meanings.{CodedSlice, Other}
use Rattle.hevc_walk_examples.specs.Streams.{plain_format, plain_sets, used_member}
use Rattle.hevc_walk_examples.specs.Corners.{intra}
use Rattle.hevc_walk_examples.specs.References.{referring}

-- a buffer of two pictures
abbrev pub narrow_format : Format
narrow_format = record plain_format { max_num_pics = 2 }

-- sets that declare this many pictures beside the current one
abbrev pub narrow_sets : ℕ → NamedSets
narrow_sets buffering = record (plain_sets narrow_format) {
  limits = record {
    max_num_reorder_pics = 0;
    max_latency_increase_plus1 = 0;
    max_dec_pic_buffering_minus1 = buffering;
  };
}

-- the pictures right before and third before in output order
abbrev pub two_before : List ShortTermMember
two_before = used_member (negsuc 0) ∷ used_member (negsuc 2) ∷ []

-- a picture of order count 9 with one member, and one with two
abbrev pub one_member : NamedSets → Meaning
one_member named =
    CodedSlice (record (referring P 9 (used_member (negsuc 0) ∷ []) [] [] 1) { sets = named })

abbrev pub two_members : NamedSets → Meaning
two_members named =
    CodedSlice (record (referring P 9 two_before [] [] 1) { sets = named })

-- a CRA picture of order count 8, a RASL picture that is skipped, whatever it declares,
-- and these pictures
abbrev pub narrow : List Meaning → List Meaning
narrow us =
    SequenceSet narrow_format ∷ Other ∷ CodedSlice (intra 21 (narrow_sets 1) 8)
    ∷ CodedSlice (record (referring I 6 two_before [] [] 1) {
      nal_unit_type = 9;
      sets = narrow_sets 7;
    })
    ∷ us
