use Rattle.std.proofs.Common.{◌≡◌, ◌∙◌, ap, sym, refl, false}
use Rattle.hevc_spec.specs.Units.{kept_bytes}
use Rattle.hevc_bare_units.specs.Pieces.{own_unit}
use Rattle.hevc_syntax_text.specs.Requests.{is_chosen}
use Rattle.hevc_syntax_text.proofs.Steps.{passes_bare}
use Rattle.hevc_syntax_text.proofs.stream.StreamText.take_bare.Goals as goal

pub returns-else-has : goal.returns-else-has
returns-else-has c =
    let old = c.args.self.now in
    let u = own_unit c.args.piece.now in
    let unchosen : is_chosen old.request.chosen old.units u.bytes ≡ false =
    sym (c.has.ensures
    ∙ ap (is_chosen old.request.chosen old.units) (c.own_bytes.ensures ∙ ap kept_bytes c.as_ref.ensures.value))
    ∙ c.if-has.false in
    passes_bare c.args.piece.now.stream u c.args.error c.requires.refused old _ unchosen refl refl refl refl refl
    c.requires.alike
