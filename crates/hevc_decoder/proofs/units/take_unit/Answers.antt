use Rattle.std.proofs.Common.{inr, subst, sym, ◌∙◌}
use Rattle.hevc_bits.specs.FoundUnit.{bytes_of}
use Rattle.hevc_stream.specs.Options.{Options}
use Rattle.hevc_stateless.specs.Decoders.{set_for}
use Rattle.hevc_decoder.specs.Scenes.{Scene, scene}
use Rattle.hevc_decoder.specs.Gives.{Gives}
use Rattle.hevc_decoder.proofs.Accepted.{accepted_scene, opens}
use Rattle.hevc_decoder.proofs.units.take_unit.Goals as goal

pub returns-clause-gives : goal.returns-clause-gives
returns-clause-gives g c =
    let logs = g.B.StatelessH265DecoderBackend.log in
    let handeds = g.B.StatelessH265DecoderBackend.handed in
    let framed = g.B.StatelessH265DecoderBackend.frames in
    let bytes = bytes_of c.args.nalu.now in
    let old = scene logs handeds framed c.args.decoder.now c.args.shown.now.items in
    let mid = scene logs handeds framed c.give-taken.new.decoder c.give-taken.new.shown.items in
    let new = scene logs handeds framed c.give.new.decoder c.give.new.shown.items in
    inr (record {
      mid = mid;
      emptied = c.give-taken.ensures.empty;
      opens = opens c.give-taken.result c.args.unit (set_for c.args.decoder.now) c.args.nalu.now.header
          bytes old mid (sym c.opens_negotiation.ensures ∙ c.if-not-opens_negotiation.false) c.give-taken.ensures.gives;
      again = subst
          (λ (s : Scene g.row.B.Denot g.row.B-Handle.Denot). Gives c.give.result c.args.unit
          (set_for c.args.decoder.now) c.args.nalu.now.header bytes s new)
          (accepted_scene logs handeds framed c.give-taken.new.decoder c.accept_format.new.self
          c.give-taken.new.shown.items c.accept_format.ensures.view c.accept_format.ensures.kept)
          (subst (λ (o : Options). Gives c.give.result c.args.unit o c.args.nalu.now.header bytes
          (scene logs handeds framed c.accept_format.new.self c.give-taken.new.shown.items) new)
          (c.accept_format.ensures.options ∙ c.give-taken.ensures.options) c.give.ensures.gives);
    })
