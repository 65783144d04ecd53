use Rattle.std.proofs.Common.{refl, subst, Ok, Err}
use Rattle.std.proofs.lemmas.Result.{err_from_is_err_and}
use Rattle.hevc_spec.specs.UnitHeader.{UnitHeader}
use Rattle.hevc_bits.specs.FoundUnit.{FoundUnit}
use Rattle.hevc_slice_header.specs.Answers.{ReadsSlice}
use Rattle.hevc_parser.specs.Kept.{kept_by}
use Rattle.hevc_parser.specs.Slices.{active_of}
use Rattle.hevc_parser.proofs.Active.{read_whole, refused_whole}
use Rattle.hevc_parser.proofs.parser.Parser.parse_slice_header.Goals as goal

pub returns-clause-reads : goal.returns-clause-reads
returns-clause-reads c =
    let h = c.read_slice.new.slice.header in (
      h,
      refl,
      read_whole _ _ h _ _
          (subst (λ (u : FoundUnit UnitHeader). ReadsSlice (active_of (kept_by c.args.self.now)) u
          (Ok c.in_ok-read_slice.field-0) h) c.new_slice-slice.ensures.unit c.in_ok-read_slice.ensures.reads),
    )

pub returns-in_err-read_slice-clause-reads : goal.returns-in_err-read_slice-clause-reads
returns-in_err-read_slice-clause-reads c =
    let h = c.read_slice.new.slice.header in
    let e = err_from_is_err_and c.from_residual.result c.from_residual.ensures.1 in
    rw e.1 (rw e.2 (
      h,
      tt,
      refused_whole _ _ h _
          (subst (λ (u : FoundUnit UnitHeader). ReadsSlice (active_of (kept_by c.args.self.now)) u
          (Err c.in_err-read_slice.field-0.0) h) c.new_slice-slice.ensures.unit c.in_err-read_slice.ensures.reads),
    ))
