-- Reading and telling at once, as a reader does it.
use Rattle.std.specs.Prelude.{◌-◌, Bool, List, length}
use Rattle.hevc_spec.specs.Payload.{Place, bits}
use Rattle.hevc_spec.specs.Bits.{form_at, within}
use Rattle.hevc_spec.specs.Table.{Table, done, missing, element, sized, part, Fault, not_kept}
use Rattle.hevc_spec.specs.Table.{Reading, gives, refuses, line_found}
use Rattle.hevc_elements.specs.Telling.{Telling, and_told, element_told}

-- where a reader is, and what it has told
pub record Position : Type 0 where
  pub place : Place
  pub telling : Telling

-- the payload bits that are left of a position
abbrev pub left : Position → List Bool
left p = bits p.place

-- what reading gives, with what was told up to there
pub data Scan (A : Type 0) : Type 0 where
  gave : A → Telling → List Bool → Scan A
  refused : Fault → Telling → List Bool → Scan A

abbrev pub telling_by : {A : Type 0} → Telling → Reading A → Scan A
telling_by t (gives x rest) = gave x t rest
telling_by t (refuses fault rest) = refused fault t rest

abbrev pub scan_then : {A B : Type 0} → Scan A → (A → Telling → List Bool → Scan B) → Scan B
scan_then (gave x t rest) k = k x t rest
scan_then (refused fault t rest) k = refused fault t rest

abbrev pub scan : {A : Type 0} → Table A → Telling → List Bool → Scan A
scan (done x) t bits = gave x t bits
scan (missing row id) t bits = refused (not_kept row id) t bits
scan (element row form allowed value) t bits =
    telling_by (and_told (element_told row form bits) t)
    (line_found row value bits (within allowed (form_at form bits)))
scan (sized table f) t bits =
    scan_then (scan table t bits) (λ x s rest. gave (f x (length bits - length rest)) s rest)
scan (part table k) t bits = scan_then (scan table t bits) (λ x s rest. scan (k x) s rest)

-- the table, scanned from a position on
abbrev pub scanned : {A : Type 0} → Table A → Position → Scan A
scanned table p = scan table p.telling (left p)
