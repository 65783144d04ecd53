use Rattle.std.proofs.Common.{ap, sym, ◌∙◌}
use Rattle.hevc_refs.specs.Sets.{plain_set}
use Rattle.hevc_refs.specs.Lists.{plain_places}
use Rattle.hevc_refs.proofs.ListLaws.{list0_by, list1_by}
use Rattle.hevc_refs.proofs.ref_pic_list.ReferencePicLists.build.Goals as goal

pub returns-in-I-clause-list0 : goal.returns-in-I-clause-list0
returns-in-I-clause-list0 c s h = ap plain_places c.clear.ensures
    ∙ sym (list0_by s c.args.header.now c.args.curr_pic_ref_enabled h _ c.in-I.is (plain_set c.args.sets.now))

pub returns-in-I-clause-list1 : goal.returns-in-I-clause-list1
returns-in-I-clause-list1 c s h = ap plain_places c.clear-2.ensures
    ∙ sym (list1_by s c.args.header.now c.args.curr_pic_ref_enabled h _ c.in-I.is (plain_set c.args.sets.now))

pub returns-in-P-clause-list0 : goal.returns-in-P-clause-list0
returns-in-P-clause-list0 c s h = c.push_inter_list0.ensures s h
    ∙ sym (list0_by s c.args.header.now c.args.curr_pic_ref_enabled h _ c.in-P.is (plain_set c.args.sets.now))

pub returns-in-P-clause-list1 : goal.returns-in-P-clause-list1
returns-in-P-clause-list1 c s h = ap plain_places c.clear-2.ensures
    ∙ sym (list1_by s c.args.header.now c.args.curr_pic_ref_enabled h _ c.in-P.is (plain_set c.args.sets.now))

pub returns-in-B-clause-list0 : goal.returns-in-B-clause-list0
returns-in-B-clause-list0 c s h = c.push_inter_list0-in-B.ensures s h
    ∙ sym (list0_by s c.args.header.now c.args.curr_pic_ref_enabled h _ c.in-B.is (plain_set c.args.sets.now))

pub returns-in-B-clause-list1 : goal.returns-in-B-clause-list1
returns-in-B-clause-list1 c s h = c.push_bi_list1.ensures s h
    ∙ sym (list1_by s c.args.header.now c.args.curr_pic_ref_enabled h _ c.in-B.is (plain_set c.args.sets.now))
