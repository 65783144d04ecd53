use Rattle.std.proofs.Common.{◌≡◌, refl, ap, sym, ◌∙◌, true}
use Rattle.std.specs.Prelude.{option_map, Option}
use Rattle.hevc_picture_slice.specs.declared.slice_header.SliceHeader.{SliceHeader}
use Rattle.hevc_walk.specs.DependentSlices.{whole_slice}
use Rattle.hevc_driver.specs.Slices.{slice_of, kept_of}
use Rattle.hevc_driver.proofs.SliceViews.{completes_as}
use Rattle.hevc_driver.proofs.kept.complete_header.Goals as goal

pub returns-clause-whole : goal.returns-clause-whole
returns-clause-whole c o pps =
    let flag : c.args.slice.now.header.dependent_slice_segment_flag ≡ true =
    ap (λ (h : SliceHeader). h.dependent_slice_segment_flag) (sym c.header.ensures) ∙ c.if-not-header.false in
    let fits = sym c.completes.ensures ∙ c.if-not-completes.false in
    ap (λ (k : Option SliceHeader). whole_slice (option_map kept_of k)
    (slice_of o c.args.slice.now c.args.sps.now pps)) c.in-Some.is
    ∙ completes_as o c.args.slice.now (record c.args.slice.now { header = c.complete.new.self })
    c.args.sps.now pps c.in-Some.header flag (rw c.header-2.ensures at fits) c.complete.ensures refl
