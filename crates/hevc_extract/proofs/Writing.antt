-- What is written of a stream.
use Rattle.std.proofs.Common.{◌≡◌, ℕ, List, length, sym, ap, subst, ◌∙◌, Option, None, Some, false}
use Rattle.std.proofs.Math.Seq.{take-length}
use Rattle.std.specs.Prelude.{IsTrue, ◌↔◌}
use Rattle.std.specs.Io.KnownBytes.{Appends}
use Rattle.hevc_spec.specs.Units.{units}
use Rattle.hevc_bits.specs.declared.header.UnitError.{UnitError}
use Rattle.hevc_io.specs.Prefix.{AppendsPrefix}
use Rattle.hevc_extract.specs.declared.words.Targets.{Targets}
use Rattle.hevc_extract.specs.Alike.{DecodesAlike}
use Rattle.hevc_extract.specs.Extracting.{extracted, first_refused}
use Rattle.hevc_extract.specs.Written.{bytes_or_line, refusal_line, written_of}

-- where no unit is refused
pub units_written : (targets : Targets) (s : List ℕ) → first_refused 0 (units s) ≡ None
    → written_of targets s ≡ extracted targets.highest_tid targets.highest_layer s
units_written targets s none = ap (bytes_or_line (extracted targets.highest_tid targets.highest_layer s)) none

-- where one is
pub line_written : (targets : Targets) (s : List ℕ) (unit : ℕ) (error : UnitError)
    → first_refused 0 (units s) ≡ Some (unit, error) → written_of targets s ≡ refusal_line unit error
line_written targets s unit error some = ap (bytes_or_line (extracted targets.highest_tid targets.highest_layer s)) some

pub alike_written : (targets : Targets) (s : List ℕ) → first_refused 0 (units s) ≡ None
    → DecodesAlike targets.highest_tid targets.highest_layer s
    (extracted targets.highest_tid targets.highest_layer s)
    → DecodesAlike targets.highest_tid targets.highest_layer s (written_of targets s)
alike_written targets s none alike =
    subst (λ (x : List ℕ). DecodesAlike targets.highest_tid targets.highest_layer s x)
    (sym (units_written targets s none)) alike

pub prefix_written : (a b : Option (List ℕ)) (text : List ℕ) → Appends a b text → AppendsPrefix a b text
prefix_written a b text all = (length text, subst (λ (x : List ℕ). Appends a b x) (sym (take-length text)) all)

-- one is refused, so not none
pub not_none : (s : List ℕ) (unit : ℕ) (error : UnitError) → first_refused 0 (units s) ≡ Some (unit, error)
    → IsTrue false ↔ (first_refused 0 (units s) ≡ None)
not_none s unit error some = (λ e. absurd (cc e), λ none. absurd (cc (sym some ∙ none)))
