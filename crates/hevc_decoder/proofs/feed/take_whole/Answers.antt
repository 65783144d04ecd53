use Rattle.std.proofs.Common.{◌≡◌, ◌-◌, length, ℕ, List, take, drop, ap, ◌∙◌, subst, sym, Ok, Err}
use Rattle.std.proofs.lemmas.Result.{err_from_is_err_and}
use Rattle.hevc_spec.specs.Units.{units}
use Rattle.hevc_stateless.specs.Decoders.{set_for}
use Rattle.hevc_decoder.specs.Scenes.{scene}
use Rattle.hevc_decoder.specs.Runs.{TakesPiece}
use Rattle.hevc_decoder.specs.Sources.{Fed}
use Rattle.hevc_bits.specs.StartCode.{NoneStands}
use Rattle.hevc_decoder.specs.Windows.{IsLastStart, lead_length}
use Rattle.hevc_decoder.proofs.Feeding.{window_fed, lead_fed}
use Rattle.hevc_decoder.proofs.Windows.{one_left, one_kept}
use Rattle.hevc_decoder.proofs.feed.take_whole.Goals as goal

pub returns-in_err-next-clause-feeds : goal.returns-in_err-next-clause-feeds
returns-in_err-next-clause-feeds g c begin given x =
    let logs = g.B.StatelessH265DecoderBackend.log in
    let handeds = g.B.StatelessH265DecoderBackend.handed in
    let framed = g.B.StatelessH265DecoderBackend.frames in
    let o = set_for c.args.decoder.now in
    let window = c.args.window.now in
    let n = c.whole_units-cut.result in
    let old = scene logs handeds framed c.args.decoder.now c.args.shown.now.items in
    let new = scene logs handeds framed c.take_piece.new.decoder c.take_piece.new.shown.items in
    let p = err_from_is_err_and c.from_residual.result c.from_residual.ensures.1 in
    let last : IsLastStart window c.args.seen n =
    subst (λ (bytes : List ℕ). IsLastStart bytes c.args.seen n) c.as_slice.ensures c.whole_units-cut.ensures.last in
    let takes : TakesPiece (Err c.in_err-next.field-0.0) o c.args.unit (units (take n window)) old new =
    subst (λ (bytes : List ℕ). TakesPiece (Err c.in_err-next.field-0.0) o c.args.unit
    (units (take n bytes)) old new) c.as_slice-2.ensures c.in_err-next.ensures.takes in
    rw (p.1, p.2)
    (window_fed o given window c.args.unit c.args.seen n begin old new last x (Err c.in_err-next.field-0.0) takes)

-- what is left after the units that are whole
left_whole : (window rest : List ℕ) (seen n : ℕ) → IsLastStart window seen n
    → NoneStands window 1 (seen - 2) → rest ≡ drop n window → NoneStands rest 1 (length rest)
left_whole window rest seen n last before is =
    subst (λ (bytes : List ℕ). NoneStands bytes 1 (length bytes)) (sym is) (one_left window seen n last before)

pub returns-clause-feeds : goal.returns-clause-feeds
returns-clause-feeds g c begin given x =
    let logs = g.B.StatelessH265DecoderBackend.log in
    let handeds = g.B.StatelessH265DecoderBackend.handed in
    let framed = g.B.StatelessH265DecoderBackend.frames in
    let o = set_for c.args.decoder.now in
    let window = c.args.window.now in
    let rest = c.drop_front.new.self in
    let n = c.whole_units-cut.result in
    let next = c.in_ok-next.next in
    let old = scene logs handeds framed c.args.decoder.now c.args.shown.now.items in
    let new = scene logs handeds framed c.take_piece.new.decoder c.take_piece.new.shown.items in
    let last : IsLastStart window c.args.seen n =
    subst (λ (bytes : List ℕ). IsLastStart bytes c.args.seen n) c.as_slice.ensures c.whole_units-cut.ensures.last in
    let takes : TakesPiece (Ok next) o c.args.unit (units (take n window)) old new =
    subst (λ (bytes : List ℕ). TakesPiece (Ok next) o c.args.unit (units (take n bytes)) old new)
    c.as_slice-2.ensures c.in_ok-next.ensures.takes in
    let fed : Fed o given rest next begin new =
    subst (λ (bytes : List ℕ). Fed o given bytes next begin new) (sym c.drop_front.ensures)
    (window_fed o given window c.args.unit c.args.seen n begin old new last x (Ok next) takes) in
    let lead : c.lead_length-lead.result ≡ lead_length rest = c.lead_length-lead.ensures
    ∙ ap lead_length c.as_slice-3.ensures in
    subst (λ (bytes : List ℕ). Fed o given bytes next begin new)
    (sym (c.drop_front-2.ensures ∙ ap (λ (k : ℕ). drop k rest) lead))
    (lead_fed o given rest next begin new
    (left_whole window rest c.args.seen n last c.requires.seen c.drop_front.ensures) fed)

pub returns-clause-left : goal.returns-clause-left
returns-clause-left g c =
    let window = c.args.window.now in
    let rest = c.drop_front.new.self in
    let n = c.whole_units-cut.result in
    let last : IsLastStart window c.args.seen n =
    subst (λ (bytes : List ℕ). IsLastStart bytes c.args.seen n) c.as_slice.ensures c.whole_units-cut.ensures.last in
    let lead : c.lead_length-lead.result ≡ lead_length rest = c.lead_length-lead.ensures
    ∙ ap lead_length c.as_slice-3.ensures in
    subst (λ (bytes : List ℕ). NoneStands bytes 1 (length bytes))
    (sym (c.drop_front-2.ensures ∙ ap (λ (k : ℕ). drop k rest) lead))
    (one_kept rest (left_whole window rest c.args.seen n last c.requires.seen c.drop_front.ensures))
