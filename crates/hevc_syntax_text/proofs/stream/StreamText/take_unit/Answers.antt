use Rattle.std.proofs.Common.{◌≡◌, ◌∙◌, ap, sym, refl, false, Ok, length}
use Rattle.hevc_bits.specs.FoundUnit.{bytes_of}
use Rattle.hevc_syntax_text.specs.Requests.{is_chosen}
use Rattle.hevc_syntax_text.proofs.Steps.{passes}
use Rattle.hevc_syntax_text.proofs.stream.StreamText.take_unit.Goals as goal

pub returns-in_ok-_outcome : goal.returns-in_ok-_outcome
returns-in_ok-_outcome c =
    let old = c.args.self.now in
    let n = c.args.nalu.now in
    let o = c.in_ok-_outcome.ensures in
    let unchosen : is_chosen old.request.chosen old.units (bytes_of n) ≡ false =
    sym (c.has.ensures ∙ ap (is_chosen old.request.chosen old.units) c.as_ref.ensures.value) ∙ c.if-has.false in
    passes n (c.header-header.ensures.parsed ∙ ap Ok c.header-header.ensures.value)
    (sym (ap length c.as_ref.ensures.value) ∙ c.as_ref.ensures.long) old _ unchosen refl refl refl
    o.kept o.counting o.alike refl
