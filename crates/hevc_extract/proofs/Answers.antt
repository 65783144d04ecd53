-- What an answer tells of.
use Rattle.std.proofs.Common.{◌≡◌, ℕ, List, Result, Ok, Err}
use Rattle.std.specs.Prelude.{OnOk}
use Rattle.hevc_spec.specs.Units.{units}
use Rattle.hevc_extract.specs.declared.extraction.ExtractError.{ExtractError}
use Rattle.hevc_extract.specs.declared.extraction.Kept.{Kept}
use Rattle.hevc_extract.specs.Alike.{DecodesAlike}
use Rattle.hevc_extract.specs.Extracting.{extracted, first_refused, TellsRefusal}
use Rattle.hevc_extract.proofs.Alike.{decodes_alike}

pub on_ok : {T E : Type 0} (r : Result T E) (P : Type 0) → P → OnOk r P
on_ok (Ok value) P holds = holds
on_ok (Err error) P holds = tt

-- of bytes that were extracted
pub alike_on_ok : (r : Result Kept ExtractError) (t l : ℕ) (stream : List ℕ)
    → TellsRefusal r (first_refused 0 (units stream)) → OnOk r (DecodesAlike t l stream (extracted t l stream))
alike_on_ok (Ok kept) t l stream none = decodes_alike t l stream none
alike_on_ok (Err error) t l stream none = tt
