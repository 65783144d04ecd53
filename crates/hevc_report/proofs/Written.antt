-- A text that is written in two parts.
use Rattle.std.proofs.Common.{ℕ, ◌+◌, ◌<◌, List, ◌++◌, length, take, Result, Ok, Err, sym, subst, length-append, arith}
use Rattle.std.specs.Prelude.{OnErr}
use Rattle.std.proofs.Math.Seq.{take-append_seam, take-append-add, take-length}
use Rattle.std.proofs.KnownBytes.{Appends-trans}
use Rattle.std.specs.declared.option.Option.{Option}
use Rattle.std.specs.Io.KnownBytes.{Appends}
use Rattle.std.specs.List.{flat_map}
use Rattle.hevc_io.specs.Prefix.{AppendsLess, AppendsPrefix}
use Rattle.hevc_decoder.specs.declared.decoded.Shown.{Shown}
use Rattle.hevc_decoder.specs.declared.decoded.Refused.{Refused}
use Rattle.hevc_report.specs.Lines.{rest_text, shown_line}
use Rattle.hevc_report.specs.Report.{last_line}
use Rattle.hevc_report.proofs.Joined.{some_line}

-- the front alone
pub front_written : (a b : Option (List ℕ)) (front rest : List ℕ) → 0 < length rest → Appends a b front
    → AppendsLess a b (front ++ rest)
front_written a b front rest some all =
    let long = length-append front rest in
    (length front, omega (arith, some, long), subst (Appends a b) (sym (take-append_seam front rest)) all)

-- the front, and a part of the rest
pub rest_less : (a b c : Option (List ℕ)) (front rest : List ℕ) → Appends a b front → AppendsLess b c rest
    → AppendsLess a c (front ++ rest)
rest_less a b c front rest all l =
    let short = l.1 in
    let long = length-append front rest in (
      length front + l.0,
      omega (arith, short, long),
      subst (Appends a c) (sym (take-append-add front rest l.0)) (Appends-trans a b c front (take l.0 rest) all l.2),
    )

-- what holds anyway holds on a refusal
pub on_refusal : {T E : Type 0} (r : Result T E) (P : Type 0) → P → OnErr r P
on_refusal (Ok value) P holds = tt
on_refusal (Err error) P holds = holds

-- the rest has a last line
pub some_rest : (shown : List (Shown ℕ)) (result : Result ℕ Refused) → 0 < length (rest_text shown result)
some_rest shown result =
    let last = some_line (length shown) result in
    let long = length-append (flat_map shown_line shown) (last_line (length shown) result) in
    omega (arith, last, long)

-- the whole is a prefix of itself
pub whole_prefix : (a b : Option (List ℕ)) (text : List ℕ) → Appends a b text → AppendsPrefix a b text
whole_prefix a b text all = (length text, subst (λ (x : List ℕ). Appends a b x) (sym (take-length text)) all)
