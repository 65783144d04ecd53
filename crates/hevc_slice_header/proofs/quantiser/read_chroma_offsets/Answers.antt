use Rattle.std.proofs.Common.{rules}
use Rattle.hevc_spec.proofs.PlaceLaws.{ahead_then}
use Rattle.hevc_tables.specs.SliceHeaderTable.{chroma_offsets}
use Rattle.hevc_slice_header.proofs.quantiser.read_chroma_offsets.Goals as goal

pub returns : goal.returns
unfolding chroma_offsets
returns c = record {
  reads = search rules;
  moves = ahead_then _ _ _ c.in_ok-cb.ensures.read.moves c.in_ok-cr.ensures.read.moves;
}

pub returns-in_err-cr : goal.returns-in_err-cr
unfolding chroma_offsets
returns-in_err-cr c = record {
  reads = search rules;
  moves = ahead_then _ _ _ c.in_ok-cb.ensures.read.moves c.in_err-cr.ensures.read.moves;
}
