use Rattle.std.proofs.Common.{◌++◌, ◌∙◌, ap, refl, subst, List, ℕ}
use Rattle.hevc_spec.specs.Payload.{payload, payload_bits}
use Rattle.hevc_bits.specs.FoundUnit.{bytes_of}
use Rattle.hevc_elements.specs.declared.told.Told.{Told}
use Rattle.hevc_element_lines.specs.Lines.{element_lines}
use Rattle.hevc_syntax_text.specs.declared.stream.StreamText.{StreamText}
use Rattle.hevc_syntax_text.specs.Steps.{EndsUnit}
use Rattle.hevc_syntax_text.proofs.Kept.{on_ok}
use Rattle.hevc_syntax_text.proofs.Steps.{tells}
use Rattle.hevc_syntax_text.proofs.stream.StreamText.tell_unit.Goals as goal

pub returns : goal.returns
returns c =
    let old = c.args.self.now in
    let n = c.args.nalu.now in
    let r = c.requires in
    let style = old.request.style in
    let mid : StreamText = record old { sets = c.take.new.self; bytes = c.push_variables.new.text } in
    let o = c.in_ok-outcome.ensures in
    on_ok c.end_unit.result (EndsUnit (payload_bits 0 c.payload.result.now) c.deref-2.result.now
    c.in_ok-outcome.outcome.cause mid c.end_unit.new.self) _
    (λ e. tells n r.parsed r.long old mid c.end_unit.new.self c.push_unit_line.new.text.items
    c.push_messages.new.text.items c.push_elements.new.text.items c.in_ok-told.told.items c.in_ok-outcome.outcome.cause
    c.in_ok-outcome.outcome.variables r.chosen c.in_ok-push_unit_line.ensures c.in_ok-told.ensures
    c.in_ok-push_messages.ensures
    (c.in_ok-push_elements.ensures
    ∙ ap (λ (t : List Told). c.push_messages.new.text.items ++ element_lines style t) c.deref.ensures.value)
    c.in_ok-push_variables.ensures o.cause o.variables o.kept o.counting o.alike refl refl refl
    (subst (λ (t : List Told). EndsUnit (payload (bytes_of n)) t c.in_ok-outcome.outcome.cause mid c.end_unit.new.self)
    c.deref-2.ensures.value
    (subst (λ (b : List ℕ). EndsUnit (payload_bits 0 b) c.deref-2.result.now c.in_ok-outcome.outcome.cause mid
    c.end_unit.new.self) c.payload.ensures.value e)))
    c.end_unit.ensures
