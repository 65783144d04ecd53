use Rattle.std.proofs.Common.{◌≡◌, Err, ap, sym, rules}
use Rattle.hevc_bits.specs.FoundUnit.{bytes_of}
use Rattle.hevc_video_set.specs.Vps.{plain_vps}
use Rattle.hevc_stream.specs.Kept.{with_video_set}
use Rattle.hevc_parser.specs.Kept.{kept_by}
use Rattle.hevc_kept_sets.specs.Kept.{options_in}
use Rattle.hevc_stream.specs.Kept.{Kept}
use Rattle.hevc_options.specs.Options.{options_of}
use Rattle.hevc_kept_sets.proofs.Again.{settled_by_sets}
use Rattle.hevc_kept_sets.proofs.CutAgain.{has_header}
use Rattle.hevc_kept_sets.proofs.ReadUnits.{still_read}
use Rattle.hevc_kept_sets.proofs.Sets.{kept_where_ok, stays_where_err, video_set_taken, video_set_refused}
use Rattle.hevc_kept_sets.proofs.kept_sets.KeptSets.take_video_set.Goals as goal

pub returns-clause-takes : goal.returns-clause-takes
returns-clause-takes c =
    let header =
    has_header (bytes_of c.args.nalu.now) c.args.nalu.now.header c.header-header.result.now
    c.header-header.ensures.parsed c.header-header.ensures.value in
    let kept = kept_where_ok
    (λ set. with_video_set (plain_vps set.now)) c.parse_vps.result c.in_ok-parse_vps.field-0
    c.args.self.now.parser c.parse_vps.follows.lender-at-none c.in_ok-parse_vps.was c.parse_vps.follows.holds-at-none in
    video_set_taken (options_in c.args.self.now) (bytes_of c.args.nalu.now) c.args.nalu.now.header header
    c.requires.wanted (tt {0}) c.args.self.now.waiting.items (kept_by c.args.self.now.parser)
    (kept_by c.parse_vps.follows.lender-at-none) (plain_vps c.in_ok-parse_vps.field-0.now)
    (c.in_ok-parse_vps.ensures.unit.read c.requires.typed) c.requires.typed kept

pub returns-in_err-parse_vps-clause-takes : goal.returns-in_err-parse_vps-clause-takes
returns-in_err-parse_vps-clause-takes c =
    let header =
    has_header (bytes_of c.args.nalu.now) c.args.nalu.now.header c.header-header.result.now
    c.header-header.ensures.parsed c.header-header.ensures.value in
    let same = stays_where_err
    (λ set. with_video_set (plain_vps set.now)) c.parse_vps.result c.in_err-parse_vps.field-0.0
    c.args.self.now.parser c.parse_vps.follows.lender-at-none c.in_err-parse_vps.was
    c.parse_vps.follows.holds-at-none in
    let is : c.from_residual.result ≡ Err c.in_err-parse_vps.field-0.0 = search rules in
    rw is (video_set_refused (options_in c.args.self.now) (bytes_of c.args.nalu.now) c.args.nalu.now.header
    header c.requires.wanted c.args.self.now.waiting.items (kept_by c.args.self.now.parser)
    (kept_by c.parse_vps.follows.lender-at-none) c.in_err-parse_vps.field-0.0 c.requires.typed
    (c.in_err-parse_vps.ensures.unit.read c.requires.typed) c.in_err-parse_vps.ensures.names_no_set same)

pub invariant_of-self-clause-settled : goal.invariant_of-self-clause-settled
invariant_of-self-clause-settled c =
    let kept = kept_where_ok
    (λ set. with_video_set (plain_vps set.now)) c.parse_vps.result c.in_ok-parse_vps.field-0
    c.args.self.now.parser c.parse_vps.follows.lender-at-none c.in_ok-parse_vps.was c.parse_vps.follows.holds-at-none in
    settled_by_sets (options_of c.args.self.now.options) c.args.self.now.changed
    (kept_by c.args.self.now.parser) (kept_by c.parse_vps.follows.lender-at-none)
    (sym (ap (λ (k : Kept). k.sequence_sets) kept)) c.args.self.now.waiting.items c.args.self.now.settled

pub invariant_of-self-clause-repeated : goal.invariant_of-self-clause-repeated
invariant_of-self-clause-repeated c =
    let kept = kept_where_ok
    (λ set. with_video_set (plain_vps set.now)) c.parse_vps.result c.in_ok-parse_vps.field-0
    c.args.self.now.parser c.parse_vps.follows.lender-at-none c.in_ok-parse_vps.was c.parse_vps.follows.holds-at-none in
    still_read (kept_by c.args.self.now.parser)
    (kept_by c.parse_vps.follows.lender-at-none) c.args.self.now.last_read
    (sym (ap (λ (k : Kept). k.sequence_sets) kept)) c.args.self.now.repeated
