use Rattle.std.proofs.Common.{◌≡◌, ◌++◌, subst, FitsSigned, w32}
use Rattle.std.specs.Prelude.{OnOk}
use Rattle.std.proofs.lemmas.Int.{to_z-of_z}
use Rattle.std.specs.String.{string_bytes}
use Rattle.hevc_report.proofs.SameLine.{same_line}
use Rattle.hevc_report.proofs.report.summary.push_summary.Goals as goal

pub returns : goal.returns
returns c =
    let line =
    same_line c.args.pictures c.args.shown.now c.lowest_count.result c.highest_count.result c.number_of_falls.result
    c.lowest_count.ensures c.highest_count.ensures c.number_of_falls.ensures in
    let low : FitsSigned w32 c.lowest_count.result = record { sfits = c.lowest_count.type_inv } in
    let high : FitsSigned w32 c.highest_count.result = record { sfits = c.highest_count.type_inv } in
    let pushed = simp to_z-of_z at c.push_numbers.ensures in
    subst (λ x. OnOk c.push_numbers.result (string_bytes c.push_numbers.new.text ≡ string_bytes c.args.text.now ++ x))
    line pushed
