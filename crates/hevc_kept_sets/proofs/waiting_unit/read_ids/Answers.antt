use Rattle.std.proofs.Common.{◌≡◌, Err, rules}
use Rattle.hevc_spec.specs.Rows.{row, ue_row}
use Rattle.hevc_elements.specs.Scan.{left}
use Rattle.hevc_elements.proofs.ScanLaws.{answer_is_read, given_is_read}
use Rattle.hevc_kept_sets.proofs.Named.{none_named, id_named}
use Rattle.hevc_kept_sets.proofs.waiting_unit.read_ids.Goals as goal

-- the first id is refused
pub returns-in_err-ue_u8 : goal.returns-in_err-ue_u8
returns-in_err-ue_u8 c p =
    let is : c.from_residual.result ≡ Err c.in_err-ue_u8.field-0.0 = search rules in
    let read = answer_is_read (λ n. n) c.ue_u8.new.r (ue_row (row 11 1) 0 63) c.args.r.now.telling
    (left c.args.r.now) (Err c.in_err-ue_u8.field-0.0) c.in_err-ue_u8.ensures.read.reads in
    rw is (none_named p (left c.args.r.now) c.in_err-ue_u8.field-0.0 c.ue_u8.new.r read)

-- the second one is what is answered
pub returns : goal.returns
returns c p =
    let mid = c.ue_u8.new.r in
    let first = given_is_read (ue_row (row 11 1) 0 63) c.args.r.now mid c.in_ok-ue_u8.field-0
    c.in_ok-ue_u8.ensures.read.reads in
    let second = answer_is_read (λ n. n) c.ue_u8-2.new.r (ue_row (row 11 2) 0 15) mid.telling
    (left mid) c.ue_u8-2.result c.ue_u8-2.ensures.read.reads in
    id_named p (left c.args.r.now) (left mid) c.in_ok-ue_u8.field-0 c.ue_u8-2.result c.ue_u8-2.new.r first second
