use Rattle.std.proofs.Common.{map}
use Rattle.hevc_tables.specs.ShortTermTable.{short_term_ref_pic_set}
use Rattle.hevc_set_parts.specs.ShortTermRefPicSet.{plain_short_term_ref_pic_set}
use Rattle.hevc_elements.specs.Scan.{left}
use Rattle.hevc_elements.proofs.ScanLaws.{given_is_read}
use Rattle.hevc_slice_references.proofs.SetSize.{set_size}
use Rattle.hevc_slice_references.proofs.short_term.read_own_set.Goals as goal

pub bits_between-h-requires-clause-few : goal.bits_between-h-requires-clause-few
bits_between-h-requires-clause-few c =
    let set = plain_short_term_ref_pic_set c.in_ok-set.set in
    let sets = c.as_slice-sets.result.now in
    let count = c.args.sps.now.num_short_term_ref_pic_sets in
    let most = c.highest_buffering.result in
    let table = short_term_ref_pic_set (map plain_short_term_ref_pic_set sets) count most count in
    let read = given_is_read table c.args.r.now c.read_short_term_set.new.r set c.in_ok-set.ensures.rows.reads in
    let few = set_size sets count most count set (left c.args.r.now)
    (left c.read_short_term_set.new.r) c.highest_buffering.ensures.small read in
    rw (c.fork-before.ensures, c.fork.ensures) few
