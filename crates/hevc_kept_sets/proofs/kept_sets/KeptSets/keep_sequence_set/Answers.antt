use Rattle.std.proofs.Common.{◌∙◌, ap, sym}
use Rattle.hevc_bits.specs.FoundUnit.{bytes_of}
use Rattle.hevc_parser.specs.Kept.{kept_by}
use Rattle.hevc_kept_sets.specs.Kept.{options_in}
use Rattle.hevc_kept_sets.proofs.CutAgain.{has_header}
use Rattle.hevc_kept_sets.specs.ReadUnits.{set_read}
use Rattle.hevc_kept_sets.proofs.ReadUnits.{is_read, kept_again, has_some}
use Rattle.hevc_kept_sets.proofs.Sets.{sequence_set_kept}
use Rattle.hevc_kept_sets.proofs.kept_sets.KeptSets.keep_sequence_set.Goals as goal

pub returns-in-Some-clause-keeps : goal.returns-in-Some-clause-keeps
returns-in-Some-clause-keeps c =
    let header =
    has_header (bytes_of c.args.nalu.now) c.args.nalu.now.header c.header-header.result.now
    c.header-header.ensures.parsed c.header-header.ensures.value in
    let kept = kept_by c.args.self.now.parser in
    let found = c.in-Some.ensures in
    let set = found.0 in
    let reads = ap set_read (sym c.as_ref.ensures.value) ∙ found.1.0 in
    let there = ap kept.sequence_sets found.1.2 ∙ found.1.1 in
    let keeps = sequence_set_kept (options_in c.args.self.now)
    (bytes_of c.args.nalu.now) c.args.nalu.now.header header c.requires.wanted c.args.self.now.waiting.items
    kept kept set (is_read (bytes_of c.args.nalu.now) set reads) c.requires.typed
    (kept_again kept set there (has_some c.args.self.now.parser set.seq_parameter_set_id set there)) in
    (keeps.0, keeps.1, keeps.2 ∙ found.1.2, keeps.3)

pub read_sequence_set-requires-clause-parsed : goal.read_sequence_set-requires-clause-parsed
read_sequence_set-requires-clause-parsed c =
    has_header (bytes_of c.args.nalu.now) c.args.nalu.now.header c.header-header.result.now
    c.header-header.ensures.parsed c.header-header.ensures.value
