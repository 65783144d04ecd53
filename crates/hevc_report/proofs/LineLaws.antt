-- The lines of a log that grows.
use Rattle.std.proofs.Common.{◌≡◌, ℕ, ◌≤◌, List, [], ◌∷◌, ◌++◌, length, length-append, append-nil, sym, ap, ◌∙◌, arith}
use Rattle.std.proofs.lemmas.Grind.{flat_map-append}
use Rattle.std.proofs.lemmas.List.FromFn.{length-range_with_len}
use Rattle.std.specs.List.{flat_map, range_with_len}
use Rattle.hevc_backend.specs.declared.call.Call.{Call}
use Rattle.hevc_backend.specs.declared.call.Call.TheVariants.{NewSequence, NewPicture, BeginPicture}
use Rattle.hevc_backend.specs.declared.call.Call.TheVariants.{DecodeSlice, SubmitPicture}
use Rattle.hevc_backend.specs.Handles.{handle_of, handles}
use Rattle.hevc_report.specs.Lines.{log_line}

-- one more call, and its line after the text
pub lines_more : (log : List (Call ℕ)) (call : Call ℕ) {text line longer : List ℕ} → text ≡ flat_map log_line log
    → line ≡ log_line call → longer ≡ text ++ line → longer ≡ flat_map log_line (log ++ call ∷ [])
lines_more log call {text} {line} so_far is more =
    let last : log_line call ++ [] ≡ line = append-nil (log_line call) ∙ sym is in
    more ∙ sym
    (flat_map-append log_line log (call ∷ []) ∙ ap (λ (l : List ℕ). l ++ (log_line call ++ [])) (sym so_far)
    ∙ ap (λ (l : List ℕ). text ++ l) last)

few_handles : (call : Call ℕ) → length (handle_of call) ≤ length (log_line call)
few_handles (NewSequence info) = omega arith
few_handles (NewPicture number nalu_type order_count output timestamp) = omega arith
few_handles (BeginPicture number st_curr_before st_curr_after st_foll lt_curr lt_foll) = omega arith
few_handles (DecodeSlice number address bytes list0 list1) = omega arith
few_handles (SubmitPicture number handle) = omega arith

handles_few : (log : List (Call ℕ)) → length (handles log) ≤ length (flat_map log_line log)
handles_few [] = omega arith
handles_few (call ∷ log) =
    let here = few_handles call in
    let later = handles_few log in
    let hs = length-append (handle_of call) (handles log) in
    let ls = length-append (log_line call) (flat_map log_line log) in
    omega (arith, here, later, hs, ls)

-- there are no more submissions than bytes of lines
pub submitted_few : (log : List (Call ℕ)) (n : ℕ) → handles log ≡ range_with_len 0 n
    → n ≤ length (flat_map log_line log)
submitted_few log n so_far =
    let e : length (handles log) ≡ n = ap length so_far ∙ length-range_with_len 0 n in
    let few = handles_few log in
    omega (arith, few, e)
