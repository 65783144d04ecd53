-- A stream is told unit by unit.
use Rattle.std.proofs.Common.{◌≡◌, ℕ, ◌+◌, ◌≤◌, Bool, true, false, cond, List, [], ◌∷◌, ◌++◌, length, refl, sym, ap}
use Rattle.std.proofs.Common.{◌∙◌, subst, append-nil, append_assoc, arith}
use Rattle.std.proofs.Common.{Option, Some, Result, Ok, Err}
use Rattle.std.specs.Prelude.{◌&&◌, is_some}
use Rattle.hevc_spec.specs.Payload.{payload, payload_bits}
use Rattle.hevc_spec.specs.UnitHeader.{UnitHeader}
use Rattle.hevc_bits.specs.FoundUnit.{FoundUnit, bytes_of, unit_of}
use Rattle.hevc_bits.specs.ParsedHeader.{parsed_header}
use Rattle.hevc_bits.specs.declared.header.UnitError.{UnitError}
use Rattle.hevc_elements.specs.declared.told.Told.{Told}
use Rattle.hevc_element_lines.specs.declared.style.Style.{Style}
use Rattle.hevc_element_lines.specs.Lines.{element_lines}
use Rattle.hevc_stream.specs.Options.{default_options}
use Rattle.hevc_stream.specs.Stream.{kept_behind}
use Rattle.hevc_parser.specs.Telling.{told_of_unit}
use Rattle.hevc_syntax_text.specs.declared.cause.Cause.{Cause}
use Rattle.hevc_syntax_text.specs.declared.counting.Counting.{Counting}
use Rattle.hevc_syntax_text.specs.declared.variables.Variables.{Variables}
use Rattle.hevc_syntax_text.specs.declared.cause.Cause.TheVariants.{Header}
use Rattle.hevc_syntax_text.specs.Causes.{cause_of_unit}
use Rattle.hevc_syntax_text.specs.Messages.{messages_text}
use Rattle.hevc_syntax_text.specs.UnitLines.{unit_line}
use Rattle.hevc_syntax_text.proofs.Chains.{five_parts}
use Rattle.hevc_syntax_text.proofs.Kept.{bare_keeps}
use Rattle.hevc_spec.specs.Units.{NalUnit, units}
use Rattle.hevc_stream.specs.Kept.{Kept}
use Rattle.hevc_syntax_text.specs.declared.stream.StreamText.{StreamText}
use Rattle.hevc_syntax_text.specs.declared.words.Request.{Request}
use Rattle.hevc_syntax_text.specs.Requests.{is_chosen}
use Rattle.hevc_syntax_text.specs.Before.{Before, at_beginning, behind, counting_after, found_in}
use Rattle.hevc_syntax_text.specs.Order.{counting_behind}
use Rattle.hevc_syntax_text.specs.Standing.{before_of, sets_of, AreAlike}
use Rattle.hevc_syntax_text.specs.Steps.{TakesUnit, EndsUnit, HasSameStanding}
use Rattle.hevc_syntax_text.specs.Written.{units_text, num_refused, refused_in, count_if_chosen}
use Rattle.hevc_syntax_text.specs.Written.{is_refused, messages, cause, elements, variables, refusal_if_any, unit_text}
use Rattle.hevc_syntax_text.specs.Variables.{variables_of_unit, variables_text}

-- What was written, what isn't written yet, and the units that are left make up the whole.
pub record Left (request : Request) (stream : List ℕ) (done : List ℕ) (text : StreamText) (us : List NalUnit)
    : Type 0 where
  pub bytes : done ++ (text.bytes.items ++ units_text request text.units (before_of text.sets) stream us)
      ≡ units_text request 0 at_beginning stream (units stream)
  pub refused : text.refused + num_refused request text.units (before_of text.sets) stream us
      ≡ refused_in request stream
  pub count : text.units + length us ≡ length (units stream)
  pub alike : AreAlike text.sets
  pub asked : text.request ≡ request

-- before the first unit
pub begins : (request : Request) (stream : List ℕ) (text : StreamText) → text.bytes.items ≡ [] → text.units ≡ 0
    → text.refused ≡ 0 → before_of text.sets ≡ at_beginning → AreAlike text.sets → text.request ≡ request
    → Left request stream [] text (units stream)
begins request stream text bytes count refused none alike same = record {
  bytes = rw (bytes, count, none) refl;
  refused = rw (refused, count, none) (omega arith);
  count = rw count (omega arith);
  alike = alike;
  asked = same;
}

-- after one unit more
pub takes : (request : Request) (stream done : List ℕ) (old new : StreamText) (u : NalUnit) (us : List NalUnit)
    → Left request stream done old (u ∷ us) → TakesUnit stream u old new → Left request stream done new us
takes request stream done old new u us left t =
    let more : new.refused + num_refused request new.units (before_of new.sets) stream us
    ≡ (old.refused + count_if_chosen request old.units (before_of old.sets) stream u)
    + num_refused request (old.units + 1) (before_of new.sets) stream us =
    rw (t.refused, t.units, left.asked) refl in
    let before = rw (← t.behind) at left.refused in
    let count = left.count in
    record {
      bytes = rw (t.bytes, t.units, t.behind, left.asked, append_assoc) left.bytes;
      refused = omega (arith, more, before);
      count = omega (arith, count, t.units);
      alike = t.alike;
      asked = t.request ∙ left.asked;
    }

-- after some of the text was written
pub passes_on : (request : Request) (stream done front : List ℕ) (old new : StreamText) (us : List NalUnit)
    → Left request stream done old us → front ++ new.bytes.items ≡ old.bytes.items → HasSameStanding old new
    → Left request stream (done ++ front) new us
passes_on request stream done front old new us left parts same =
    let rest = units_text request old.units (before_of old.sets) stream us in
    record {
      bytes =
          rw (same.units, same.sets)
          (append_assoc done front (new.bytes.items ++ rest)
          ∙ ap (λ (x : List ℕ). done ++ x)
          (sym (append_assoc front new.bytes.items rest) ∙ ap (λ (x : List ℕ). x ++ rest) parts)
          ∙ left.bytes);
      refused = rw (same.units, same.sets, same.refused) left.refused;
      count = rw same.units left.count;
      alike = rw same.sets left.alike;
      asked = same.request ∙ left.asked;
    }

-- a unit counts once
pub once : (request : Request) (number : ℕ) (before : Before) (stream : List ℕ) (u : NalUnit)
    → count_if_chosen request number before stream u ≤ 1
once request number before stream u = by_test (is_chosen request.chosen number u.bytes && is_refused before stream u)
  where
    by_test : (t : Bool) → cond t 1 0 ≤ 1
    by_test true = omega arith
    by_test false = omega arith

-- after the last one
pub record Done (request : Request) (stream done : List ℕ) (text : StreamText) : Type 0 where
  pub bytes : done ++ text.bytes.items ≡ units_text request 0 at_beginning stream (units stream)
  pub refused : text.refused ≡ refused_in request stream
  pub count : text.units ≡ length (units stream)
  pub asked : text.request ≡ request

pub ends : (request : Request) (stream done : List ℕ) (text : StreamText) (us : List NalUnit) → us ≡ []
    → Left request stream done text us → Done request stream done text
ends request stream done text us none left =
    let l : Left request stream done text [] =
    subst (λ (us : List NalUnit). Left request stream done text us) none left in
    let refused = l.refused in
    let count = l.count in
    record {
      bytes = ap (λ (x : List ℕ). done ++ x) (sym (append-nil text.bytes.items)) ∙ l.bytes;
      refused = omega (arith, refused);
      count = omega (arith, count);
      asked = l.asked;
    }

-- ---- one unit

-- a unit is found where it is
found_is : (n : FoundUnit UnitHeader) → length (bytes_of n) ≡ n.size → found_in n.stream (unit_of n) n.header ≡ n
found_is n long =
    ap (λ (k : ℕ). record { header = n.header; stream = n.stream; offset = n.offset; size = k }) long

module _ (n : FoundUnit UnitHeader) (parsed : parsed_header (bytes_of n) ≡ Ok n.header)
    (long : length (bytes_of n) ≡ n.size) where
  -- its text, by its header
  text_is : (style : Style) (number : ℕ) (before : Before) → unit_text style number before n.stream (unit_of n)
      ≡ unit_line style number (unit_of n) (Ok n.header) ++ messages_text style n.header.nal_unit_type (bytes_of n)
      ++ element_lines style (told_of_unit before.kept n)
      ++ variables_text style (variables_of_unit before.counting before.kept n)
      ++ refusal_if_any style (payload (bytes_of n)) (told_of_unit before.kept n) (cause_of_unit before.kept n)
  unfolding unit_text
  text_is style number before =
      let u = unit_of n in
      ap (λ (r : Result UnitHeader UnitError). unit_line style number u r ++ messages style u r
      ++ element_lines style (elements before n.stream u r) ++ variables_text style (variables before n.stream u r)
      ++ refusal_if_any style (payload u.bytes) (elements before n.stream u r) (cause before n.stream u r)) parsed
      ∙ ap (λ (m : FoundUnit UnitHeader). unit_line style number u (Ok n.header)
      ++ messages_text style n.header.nal_unit_type (bytes_of n) ++ element_lines style (told_of_unit before.kept m)
      ++ variables_text style (variables_of_unit before.counting before.kept m)
      ++ refusal_if_any style (payload u.bytes) (told_of_unit before.kept m) (cause_of_unit before.kept m))
      (found_is n long)

  -- whether it is refused
  refused_is : (before : Before) → is_refused before n.stream (unit_of n) ≡ is_some (cause_of_unit before.kept n)
  unfolding is_refused
  refused_is before =
      ap (λ (r : Result UnitHeader UnitError). is_some (cause before n.stream (unit_of n) r)) parsed
      ∙ ap (λ (m : FoundUnit UnitHeader). is_some (cause_of_unit before.kept m)) (found_is n long)

  -- and what is after it
  behind_is : (before : Before) (kept : Kept) (counting : Counting)
      → kept ≡ kept_behind default_options before.kept (bytes_of n)
      → counting ≡ counting_behind before.counting before.kept n
      → Path Before (record { kept = kept; counting = counting }) (behind before n.stream (unit_of n))
  unfolding behind
  behind_is before kept counting sets counts =
      ap (λ (k : Kept). record { kept = k; counting = counting }) sets
      ∙ ap (λ (c : Counting). record { kept = kept_behind default_options before.kept (bytes_of n); counting = c })
      (counts
      ∙ sym (ap (counting_after before n.stream (unit_of n)) parsed
      ∙ ap (counting_behind before.counting before.kept) (found_is n long)))

  -- a unit that is chosen is told
  pub tells : (old mid new : StreamText) (line more rest : List ℕ) (told : List Told) (why : Option Cause)
      (which : Option Variables) → is_chosen old.request.chosen old.units (bytes_of n) ≡ true
      → line ≡ old.bytes.items ++ unit_line old.request.style old.units (unit_of n) (Ok n.header)
      → told ≡ told_of_unit (sets_of old.sets) n
      → more ≡ line ++ messages_text old.request.style n.header.nal_unit_type (bytes_of n)
      → rest ≡ more ++ element_lines old.request.style told
      → mid.bytes.items ≡ rest ++ variables_text old.request.style which
      → why ≡ cause_of_unit (sets_of old.sets) n
      → which ≡ variables_of_unit old.sets.counting (sets_of old.sets) n
      → sets_of mid.sets ≡ kept_behind default_options (sets_of old.sets) (bytes_of n)
      → mid.sets.counting ≡ counting_behind old.sets.counting (sets_of old.sets) n → AreAlike mid.sets
      → mid.request ≡ old.request → mid.units ≡ old.units → mid.refused ≡ old.refused
      → EndsUnit (payload (bytes_of n)) told why mid new → TakesUnit n.stream (unit_of n) old new
  tells old mid new line more rest told why which chosen at is after lines texts because these sets counts alike asked
      count refused e =
      let style = old.request.style in
      let before = before_of old.sets in
      let whole = text_is style old.units before in
      let none = refused_is before in
      record {
        bytes =
            e.bytes
            ∙ rw (texts, lines, after, at, is, because, these, asked)
            (five_parts old.bytes.items (unit_line style old.units (unit_of n) (Ok n.header))
            (messages_text style n.header.nal_unit_type (bytes_of n)) (element_lines style (told_of_unit before.kept n))
            (variables_text style (variables_of_unit before.counting before.kept n))
            (refusal_if_any style (payload (bytes_of n)) (told_of_unit before.kept n) (cause_of_unit before.kept n)))
            ∙ sym (ap (λ (b : Bool). old.bytes.items
            ++ cond b (unit_text style old.units before n.stream (unit_of n)) []) chosen
            ∙ ap (λ (x : List ℕ). old.bytes.items ++ x) whole);
        units = e.units ∙ ap (λ (k : ℕ). k + 1) count;
        refused =
            e.refused ∙ rw (refused, because) refl
            ∙ sym (ap (λ (b : Bool). old.refused + cond (b && is_refused before n.stream (unit_of n)) 1 0) chosen
            ∙ ap (λ (b : Bool). old.refused + cond b 1 0) none);
        behind = ap before_of e.sets ∙ behind_is before (sets_of mid.sets) mid.sets.counting sets counts;
        alike = subst AreAlike (sym e.sets) alike;
        request = e.request ∙ asked;
      }

  -- and one that isn't chosen is counted
  pub passes : (old new : StreamText) → is_chosen old.request.chosen old.units (bytes_of n) ≡ false
      → new.bytes ≡ old.bytes → new.units ≡ old.units + 1 → new.refused ≡ old.refused
      → sets_of new.sets ≡ kept_behind default_options (sets_of old.sets) (bytes_of n)
      → new.sets.counting ≡ counting_behind old.sets.counting (sets_of old.sets) n → AreAlike new.sets
      → new.request ≡ old.request → TakesUnit n.stream (unit_of n) old new
  passes old new chosen bytes count refused sets counts alike asked =
      let style = old.request.style in
      let before = before_of old.sets in
      record {
        bytes =
            ap (λ b. b.items) bytes ∙ sym (append-nil old.bytes.items)
            ∙ sym (ap (λ (b : Bool). old.bytes.items
            ++ cond b (unit_text style old.units before n.stream (unit_of n)) []) chosen);
        units = count;
        refused =
            let nothing : old.refused ≡ old.refused + 0 = omega arith in
            refused ∙ nothing
            ∙ sym (ap (λ (b : Bool). old.refused + cond (b && is_refused before n.stream (unit_of n)) 1 0) chosen);
        behind = behind_is before (sets_of new.sets) new.sets.counting sets counts;
        alike = alike;
        request = asked;
      }

-- ---- one whose header is refused

module _ (stream : List ℕ) (u : NalUnit) (error : UnitError) (parsed : parsed_header u.bytes ≡ Err error) where
  -- its text
  bare_text : (style : Style) (number : ℕ) (before : Before) → unit_text style number before stream u
      ≡ unit_line style number u (Err error) ++ refusal_if_any style [] [] (Some (Header error))
  unfolding unit_text
  bare_text style number before =
      ap (λ (r : Result UnitHeader UnitError). unit_line style number u r ++ messages style u r
      ++ element_lines style (elements before stream u r) ++ variables_text style (variables before stream u r)
      ++ refusal_if_any style (payload u.bytes) (elements before stream u r) (cause before stream u r)) parsed
      ∙ simp append-nil

  -- it is refused
  bare_refused : (before : Before) → is_refused before stream u ≡ true
  unfolding is_refused
  bare_refused before = ap (λ (r : Result UnitHeader UnitError). is_some (cause before stream u r)) parsed

  -- and all is as before after it
  bare_behind : (before : Before) → before ≡ behind before stream u
  unfolding behind
  bare_behind before =
      ap (λ (k : Kept). record { kept = k; counting = before.counting })
      (sym (bare_keeps before.kept u.bytes error parsed))
      ∙ ap (λ (c : Counting). record { kept = kept_behind default_options before.kept u.bytes; counting = c })
      (sym (ap (counting_after before stream u) parsed))

  -- such a unit that is chosen is told
  pub tells_bare : (old mid new : StreamText) → is_chosen old.request.chosen old.units u.bytes ≡ true
      → mid.bytes.items ≡ old.bytes.items ++ unit_line old.request.style old.units u (Err error)
      → mid.sets ≡ old.sets → mid.request ≡ old.request → mid.units ≡ old.units → mid.refused ≡ old.refused
      → AreAlike old.sets → EndsUnit (payload_bits 0 []) [] (Some (Header error)) mid new → TakesUnit stream u old new
  tells_bare old mid new chosen line sets asked count refused alike e =
      let style = old.request.style in
      let before = before_of old.sets in
      let whole = bare_text style old.units before in
      let none = bare_refused before in
      record {
        bytes =
            e.bytes
            ∙ rw (line, asked) (append_assoc old.bytes.items (unit_line style old.units u (Err error))
            (refusal_if_any style [] [] (Some (Header error))))
            ∙ sym (ap (λ (b : Bool). old.bytes.items ++ cond b (unit_text style old.units before stream u) []) chosen
            ∙ ap (λ (x : List ℕ). old.bytes.items ++ x) whole);
        units = e.units ∙ ap (λ (k : ℕ). k + 1) count;
        refused =
            e.refused ∙ ap (λ (k : ℕ). k + 1) refused
            ∙ sym (ap (λ (b : Bool). old.refused + cond (b && is_refused before stream u) 1 0) chosen
            ∙ ap (λ (b : Bool). old.refused + cond b 1 0) none);
        behind = ap before_of (e.sets ∙ sets) ∙ bare_behind before;
        alike = subst AreAlike (sym (e.sets ∙ sets)) alike;
        request = e.request ∙ asked;
      }

  -- and one that isn't chosen is counted
  pub passes_bare : (old new : StreamText) → is_chosen old.request.chosen old.units u.bytes ≡ false
      → new.bytes ≡ old.bytes → new.units ≡ old.units + 1 → new.refused ≡ old.refused → new.sets ≡ old.sets
      → new.request ≡ old.request → AreAlike old.sets → TakesUnit stream u old new
  passes_bare old new chosen bytes count refused sets asked alike =
      let style = old.request.style in
      let before = before_of old.sets in
      record {
        bytes =
            ap (λ b. b.items) bytes ∙ sym (append-nil old.bytes.items)
            ∙ sym (ap (λ (b : Bool). old.bytes.items ++ cond b (unit_text style old.units before stream u) []) chosen);
        units = count;
        refused =
            let nothing : old.refused ≡ old.refused + 0 = omega arith in
            refused ∙ nothing
            ∙ sym (ap (λ (b : Bool). old.refused + cond (b && is_refused before stream u) 1 0) chosen);
        behind = ap before_of sets ∙ bare_behind before;
        alike = subst AreAlike (sym sets) alike;
        request = asked;
      }
