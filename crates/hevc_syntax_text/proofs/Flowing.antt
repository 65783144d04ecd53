-- A text that is written as it is made.
use Rattle.std.proofs.Common.{◌≡◌, ◌≢◌, refl, append-nil, ℕ, ◌+◌, ◌<◌, List, [], ◌∷◌, ◌++◌, length, take, drop, sym, ap, ◌∙◌, subst}
use Rattle.std.proofs.Common.{arith, append_assoc, length-append, Result, Ok, Err}
use Rattle.std.proofs.Common.{Some, None}
use Rattle.std.specs.Prelude.{OnErr, OnOk, IfOk, IfSome, if◌then◌else◌, ◌==◌}
use Rattle.std.proofs.Math.Seq.{take-append_seam, take-length}
use Rattle.std.proofs.lemmas.List.{length-drop, take-append-drop}
use Rattle.std.proofs.KnownBytes.{Appends-nil, Appends-trans}
use Rattle.std.specs.declared.option.Option.{Option}
use Rattle.std.specs.Io.KnownBytes.{Appends, Consumes, IsAtEnd}
use Rattle.hevc_spec.specs.Units.{NalUnit, kept_bytes, units, units_from}
use Rattle.hevc_io.specs.Prefix.{AppendsLess, AppendsPrefix}
use Rattle.hevc_element_lines.specs.declared.style.Style.{Style}
use Rattle.hevc_element_lines.specs.declared.style.Style.TheVariants.{Words, Json}
use Rattle.hevc_syntax_text.specs.declared.stream.StreamText.{StreamText}
use Rattle.hevc_syntax_text.specs.declared.words.Request.{Request}
use Rattle.hevc_syntax_text.specs.Standing.{before_of}
use Rattle.hevc_syntax_text.specs.Steps.{TakesUnit, TakesNext, TakesNextIfAny, HasSameStanding, Passes}
use Rattle.hevc_syntax_text.specs.Written.{last_line, refused_in, status_of, units_text, written_of}
use Rattle.hevc_syntax_text.proofs.Steps.{Left, Done, ends, takes, passes_on}

-- What was written since a moment is the front of a text that isn't the whole.
pub fewer : (begun now : Option (List ℕ)) (done rest whole : List ℕ) → Appends begun now done
    → done ++ rest ≡ whole → 0 < length rest → AppendsLess begun now whole
fewer begun now done rest whole wrote parts some =
    let long : length (done ++ rest) ≡ length whole = ap (λ (x : List ℕ). length x) parts in
    let both = length-append done rest in (
      length done,
      omega (arith, long, both, some),
      subst (Appends begun now)
          (sym (ap (take (length done)) (sym parts) ∙ take-append_seam done rest)) wrote,
    )

-- The same after a part of what comes next.
pub fewer_on : (begun now later : Option (List ℕ)) (done next rest whole : List ℕ) → Appends begun now done
    → AppendsLess now later next → done ++ (next ++ rest) ≡ whole → AppendsLess begun later whole
fewer_on begun now later done next rest whole wrote part parts =
    let n = part.0 in
    let front = take n next in
    let behind = drop n next in
    let less = part.1 in
    let size = length-drop n next in
    let both = length-append behind rest in
    fewer begun later (done ++ front) (behind ++ rest) whole (Appends-trans begun now later done front wrote part.2)
    (append_assoc done front (behind ++ rest)
    ∙ ap (λ (x : List ℕ). done ++ x)
    (sym (append_assoc front behind rest) ∙ ap (λ (x : List ℕ). x ++ rest) (take-append-drop n next))
    ∙ parts)
    (omega (arith, less, size, both))

-- the last line has a byte
pub some_last : (style : Style) (count refused : ℕ) → 0 < length (last_line style count refused)
some_last Words count refused = omega arith
some_last Json count refused = omega arith

-- nothing was written of a text with a last line
pub none_yet : (now : Option (List ℕ)) (text : List ℕ) (style : Style) (count refused : ℕ)
    → AppendsLess now now (text ++ last_line style count refused)
none_yet now text style count refused =
    let some = some_last style count refused in
    let all = length-append text (last_line style count refused) in
    (0, omega (arith, some, all), Appends-nil now)

-- what holds anyway holds on a refusal
pub on_refusal : {T E : Type 0} (r : Result T E) (P : Type 0) → P → OnErr r P
on_refusal (Ok value) P holds = tt
on_refusal (Err error) P holds = holds

-- what was written of a text, the whole or less, is a prefix of it
pub flow_prefix : {E : Type 0} (r : Result ℕ E) (old new : Option (List ℕ)) (text : List ℕ) (P : ℕ → Type 0)
    → IfOk r (λ s. Appends old new text × P s) → OnErr r (AppendsLess old new text) → AppendsPrefix old new text
flow_prefix (Ok s) old new text P whole less =
    (length text, subst (Appends old new) (sym (take-length text)) whole.0)
flow_prefix (Err e) old new text P whole less = (less.0, less.2)

-- what holds of the bytes that were read to the end holds of those that a source exposes
pub if_exposed : (left end : Option (List ℕ)) (read : List ℕ) (P : List ℕ → Type 0) → Consumes left end read
    → IsAtEnd end → P read → IfSome left P
if_exposed None end read P consumes over holds = tt
if_exposed (Some xs) None read P consumes over holds = absurd consumes
if_exposed (Some xs) (Some ys) read P consumes over holds =
    subst P (sym (consumes ∙ ap (λ (more : List ℕ). read ++ more) over ∙ append-nil read)) holds

-- What was written of a stream, what isn't written yet, and the units that are left.
pub record Flow (request : Request) (stream : List ℕ) (begun now : Option (List ℕ)) (text : StreamText)
    (us : List NalUnit) : Type 0 where
  pub done : List ℕ
  pub wrote : Appends begun now done
  pub left : Left request stream done text us

module _ (request : Request) (stream : List ℕ) (begun now : Option (List ℕ)) (text : StreamText)
    (us : List NalUnit) (f : Flow request stream begun now text us) where
  abbrev last : List ℕ
  last = last_line request.style (length (units stream)) (refused_in request stream)

  -- what comes behind what isn't written yet
  abbrev behind : List ℕ
  behind = units_text request text.units (before_of text.sets) stream us ++ last

  whole : f.done ++ (text.bytes.items ++ behind) ≡ written_of request stream
  whole =
      let rest = units_text request text.units (before_of text.sets) stream us in
      ap (λ (x : List ℕ). f.done ++ x) (sym (append_assoc text.bytes.items rest last))
      ∙ sym (append_assoc f.done (text.bytes.items ++ rest) last)
      ∙ ap (λ (x : List ℕ). x ++ last) f.left.bytes

  -- less than the whole was written
  pub flow_less : AppendsLess begun now (written_of request stream)
  flow_less =
      let rest = units_text request text.units (before_of text.sets) stream us in
      let some : 0 < length last = some_last request.style (length (units stream)) (refused_in request stream) in
      let both : length behind ≡ length rest + length last = length-append rest last in
      let all : length (text.bytes.items ++ behind) ≡ length text.bytes.items + length behind =
      length-append text.bytes.items behind in
      let more : 0 < length (text.bytes.items ++ behind) = omega (arith, some, both, all) in
      fewer begun now f.done (text.bytes.items ++ behind) (written_of request stream) f.wrote whole more

  -- the same after a part of what isn't written yet
  pub flow_part : (later : Option (List ℕ)) → AppendsLess now later text.bytes.items
      → AppendsLess begun later (written_of request stream)
  flow_part later part =
      fewer_on begun now later f.done text.bytes.items behind (written_of request stream) f.wrote part whole

  -- some of it was written
  pub flow_on : (later : Option (List ℕ)) (new : StreamText) → Passes now later text.bytes.items new.bytes.items
      → HasSameStanding text new → Flow request stream begun later new us
  flow_on later new passes same = record {
    done = f.done ++ passes.0;
    wrote = Appends-trans begun now later f.done passes.0 f.wrote passes.1;
    left = passes_on request stream f.done passes.0 text new us f.left passes.2 same;
  }

-- one unit more was taken
pub flow_takes : (request : Request) (stream : List ℕ) (begun now : Option (List ℕ)) (old new : StreamText)
    (u : NalUnit) (us : List NalUnit) → Flow request stream begun now old (u ∷ us) → TakesUnit stream u old new
    → Flow request stream begun now new us
flow_takes request stream begun now old new u us f t = record {
  done = f.done;
  wrote = f.wrote;
  left = takes request stream f.done old new u us f.left t;
}

-- the next unit was taken
pub flow_next : (request : Request) (stream : List ℕ) (begun now : Option (List ℕ)) (old new : StreamText)
    (position next : ℕ) → Flow request stream begun now old (units_from kept_bytes position stream)
    → TakesNext stream position next old new
    → Flow request stream begun now new (units_from kept_bytes next stream)
flow_next request stream begun now old new position next f t =
    flow_takes request stream begun now old new t.unit (units_from kept_bytes next stream)
    (subst (λ (us : List NalUnit). Flow request stream begun now old us) t.first f) t.takes

-- there is none
pub flow_over : (request : Request) (stream : List ℕ) (begun now : Option (List ℕ)) (old new : StreamText)
    (position : ℕ) (next : Option ℕ) → ((n : ℕ) → next ≢ Some n)
    → Flow request stream begun now old (units_from kept_bytes position stream)
    → TakesNextIfAny stream position next old new → Flow request stream begun now new []
flow_over request stream begun now old new position None none f t =
    subst (λ (x : StreamText). Flow request stream begun now x []) (sym t.1)
    (subst (λ (us : List NalUnit). Flow request stream begun now old us) t.0 f)
flow_over request stream begun now old new position (Some next) none f t = absurd (none next refl)

module _ (request : Request) (stream : List ℕ) (begun now later : Option (List ℕ)) (text : StreamText)
    (f : Flow request stream begun now text []) where
  d : Done request stream f.done text
  d = ends request stream f.done text [] refl f.left

  abbrev line : List ℕ
  line = last_line text.request.style text.units text.refused

  -- the last line comes behind what isn't written yet
  all : f.done ++ (text.bytes.items ++ line) ≡ written_of request stream
  unfolding d
  all =
      sym (append_assoc f.done text.bytes.items line) ∙ ap (λ (x : List ℕ). x ++ line) d.bytes
      ∙ rw (d.asked, d.count, d.refused) refl

  -- the whole was written
  pub flow_ends : {E : Type 0} (r : Result ℕ E) → OnOk r (Appends now later (text.bytes.items ++ line))
      → IfOk r (λ s. s ≡ (if text.refused == 0 then 0 else 1))
      → IfOk r (λ s. Appends begun later (written_of request stream) × (s ≡ status_of request stream))
  flow_ends (Ok s) wrote status = (
    subst (Appends begun later) all (Appends-trans begun now later f.done (text.bytes.items ++ line) f.wrote wrote),
    status ∙ ap (λ (n : ℕ). if n == 0 then 0 else 1) d.refused,
  )
  flow_ends (Err e) wrote status = tt

  -- or less
  pub flow_ends_early : {E : Type 0} (r : Result ℕ E)
      → OnErr r (AppendsLess now later (text.bytes.items ++ line))
      → OnErr r (AppendsLess begun later (written_of request stream))
  flow_ends_early (Ok s) part = tt
  flow_ends_early (Err e) part =
      fewer_on begun now later f.done (text.bytes.items ++ line) [] (written_of request stream) f.wrote part
      (ap (λ (x : List ℕ). f.done ++ x) (append-nil (text.bytes.items ++ line)) ∙ all)
