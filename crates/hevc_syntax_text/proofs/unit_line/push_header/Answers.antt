use Rattle.std.proofs.Common.{◌++◌, ◌-◌, ◌∙◌, ap, ℕ, List}
use Rattle.hevc_syntax_text.specs.Fields.{number_field, text_field}
use Rattle.hevc_syntax_text.specs.UnitLines.{type_name}
use Rattle.std.specs.Prelude.{codes}
use Rattle.hevc_syntax_text.proofs.Chains.{four}
use Rattle.hevc_syntax_text.proofs.Kept.{on_ok}
use Rattle.hevc_syntax_text.proofs.unit_line.push_header.Goals as goal

pub returns : goal.returns
returns c =
    let style = c.args.style in
    let number = c.type_number.ensures ∙ c.nalu_type-nalu_type.ensures in
    on_ok c.push_byte_field-3.result _ _
    (λ h. four c.args.text.now.items _ _ _ _ c.push_byte_field.new.text.items c.push_text_field.new.text.items
    c.push_byte_field-2.new.text.items c.push_byte_field-3.new.text.items
    (c.in_ok-push_byte_field.ensures
    ∙ ap (λ (k : ℕ). c.args.text.now.items ++ number_field style (codes "nal_unit_type") k) number)
    (c.in_ok-push_text_field.ensures
    ∙ ap (λ (x : List ℕ). c.push_byte_field.new.text.items ++ text_field style (codes "name") x) c.type_name.ensures
    ∙ ap (λ (k : ℕ). c.push_byte_field.new.text.items ++ text_field style (codes "name") (type_name k))
    c.nalu_type-nalu_type.ensures)
    (c.in_ok-push_byte_field-2.ensures
    ∙ ap (λ (k : ℕ). c.push_text_field.new.text.items ++ number_field style (codes "nuh_layer_id") k)
    c.layer_id.ensures.value)
    (h
    ∙ ap (λ (k : ℕ). c.push_byte_field-2.new.text.items ++ number_field style (codes "TemporalId") (k - 1))
    c.temporal_id_plus1.ensures.value)) c.push_byte_field-3.ensures
