use Rattle.hevc_driver.specs.Slices.{slice_of}
use Rattle.hevc_driver.proofs.SliceViews.{has_header}
use Rattle.hevc_driver.proofs.references.build_lists.Goals as goal

pub returns-clause-list0 : goal.returns-clause-list0
returns-clause-list0 c o sps =
    c.build.ensures.list0 (slice_of o c.args.slice.now sps c.args.pps.now)
    (rw (c.header.ensures, c.scc_extension.ensures) (has_header o c.args.slice.now sps c.args.pps.now))

pub returns-clause-list1 : goal.returns-clause-list1
returns-clause-list1 c o sps =
    c.build.ensures.list1 (slice_of o c.args.slice.now sps c.args.pps.now)
    (rw (c.header.ensures, c.scc_extension.ensures) (has_header o c.args.slice.now sps c.args.pps.now))
