use Rattle.std.proofs.Common.{ap, sym, ◌∙◌, arith, Some}
use Rattle.std.specs.Ordering.{nat_cmp}
use Rattle.std.specs.BTreeMap.{get}
use Rattle.hevc_bits.specs.NaluType.{nalu_type_number}
use Rattle.hevc_sequence_set.specs.Sps.{plain_sps}
use Rattle.hevc_picture_slice.specs.Pps.{plain_pps}
use Rattle.hevc_picture_slice.specs.SliceHeader.{plain_slice_header}
use Rattle.hevc_slice_header.specs.Kept.{kept_active_sets}
use Rattle.hevc_slice_header.proofs.CurrentSets.{active_found, named_current}
use Rattle.hevc_slice_header.proofs.HeaderSize.{are_small, rows_taken}
use Rattle.hevc_slice_header.proofs.slice_header.read_elements.Goals as goal

pub returns-clause-few : goal.returns-clause-few
returns-clause-few c =
    let sps = c.get-sps.result.now in
    let pps = c.in-Some.pps.now in
    let taken = rows_taken (nalu_type_number c.args.nalu_type) (plain_sps sps) (plain_pps pps)
    (are_small sps pps c.has_few_extra_bits.ensures) (plain_slice_header c.args.h.now)
    (plain_slice_header c.read_beginning.new.h) (plain_slice_header c.read_behind_sets.new.h) c.args.r.now
    c.read_beginning.new.r c.read_behind_sets.new.r c.requires c.in_ok-read_beginning.ensures.reads
    c.in_ok-read_behind_sets.ensures.reads in
    grind (arith, taken.0)

pub returns-clause-sets : goal.returns-clause-sets
returns-clause-sets c =
    let sps = c.get-sps.result.now in
    let pps = c.in-Some.pps.now in
    let h = plain_slice_header c.read_beginning.new.h in
    let taken = rows_taken (nalu_type_number c.args.nalu_type) (plain_sps sps) (plain_pps pps)
    (are_small sps pps c.has_few_extra_bits.ensures) (plain_slice_header c.args.h.now)
    (plain_slice_header c.read_beginning.new.h) (plain_slice_header c.read_behind_sets.new.h) c.args.r.now
    c.read_beginning.new.r c.read_behind_sets.new.r c.requires c.in_ok-read_beginning.ensures.reads
    c.in_ok-read_behind_sets.ensures.reads in
    record {
      names = tt;
      lists = taken.1.0;
      current = named_current (kept_active_sets c.args.ppses.now c.args.spses.now) (record {
        sps = plain_sps sps;
        pps = plain_pps pps;
      }) h.pic_parameter_set_id (plain_slice_header c.read_behind_sets.new.h)
          (active_found c.args.ppses.now c.args.spses.now h.pic_parameter_set_id pps sps
          (sym c.in-Some.ensures.value) (sym c.in-Some-get.ensures.value ∙ ap Some (sym c.get-sps.ensures))) taken.1.1;
      sets = record {
        picture = ap (get nat_cmp c.args.ppses.now) taken.1.1.same ∙ sym c.in-Some.ensures.value;
        sequence = sym c.in-Some-get.ensures.value ∙ ap Some (sym c.get-sps.ensures);
      };
    }
