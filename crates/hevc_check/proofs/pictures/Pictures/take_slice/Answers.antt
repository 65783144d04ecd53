use Rattle.std.proofs.Common.{ap, sym, ◌∙◌, Option}
use Rattle.std.specs.Prelude.{option_map}
use Rattle.hevc_walk.specs.DependentSlices.{KeptHeader, kept_header, whole_slice}
use Rattle.hevc_driver.specs.Slices.{slice_of, kept_of}
use Rattle.hevc_check.specs.Places.{Place, is_first_slice}
use Rattle.hevc_check.proofs.Places.{told_first, first_is}
use Rattle.hevc_check.proofs.pictures.Pictures.take_slice.Goals as goal

pub returns-clause-takes : goal.returns-clause-takes
returns-clause-takes c pps =
    let v = c.args.self.now in
    let o = c.args.options in
    let s = slice_of o c.args.slice.now c.args.sps.now pps in
    let t = slice_of o c.complete_header.new.slice c.args.sps.now pps in
    let kept = ap (λ (w : Place). w.kept) c.self.view_is in
    let latest = ap (λ (w : Place). w.latest) c.self.view_is in
    let whole = ap (λ (k : Option KeptHeader). whole_slice k s) (sym kept) ∙ c.complete_header.ensures.whole o pps in
    let begins = c.is_first_slice.ensures o c.args.sps.now pps ∙ ap (is_first_slice t) latest in
    let keeps =
    c.keep_header.ensures.kept o c.args.sps.now pps
    ∙ c.complete_header.ensures.kept o pps (option_map kept_of c.self.inside.kept)
    ∙ ap (λ (k : Option KeptHeader). kept_header k s) kept in
    let told = c.in_ok-begun.ensures.begun pps in
    told_first v _ c.begin.new.self s t c.in_ok-begun.begun
    (first_is s t v.kept v.latest c.complete_header.result c.is_first_slice.result whole
    c.if-not-complete_header.false begins c.if-not-is_first_slice.false)
    (ap (λ (w : Place). record w { kept = option_map kept_of c.keep_header.new.kept }) c.self.view_is
    ∙ ap (λ (k : Option KeptHeader). record v { kept = k }) keeps) told.0 told.1
