use Rattle.std.proofs.Common.{◌∙◌, ap, arith, length, List, ◌++◌, ◌∷◌, []}
use Rattle.hevc_stateless.specs.Decoders.{view_of}
use Rattle.hevc_stateless.specs.Views.{View}
use Rattle.hevc_bumping.specs.declared.frame.Frame.{Frame}
use Rattle.hevc_decoder.specs.declared.decoded.Shown.{Shown}
use Rattle.hevc_decoder.proofs.Delivering.{is_front, moves_more}
use Rattle.hevc_decoder.proofs.units.deliver.Goals as goal

pub loop-frame-preserved : goal.loop-frame-preserved
loop-frame-preserved g c = record {
  so_far = moves_more c.args.unit (view_of c.args.decoder.now).queue (view_of c.loop-frame.decoder).queue
      (view_of c.next_event.new.self).queue c.in-Some-FrameReady.frame c.args.shown.now.items
      c.loop-frame.shown.items c.push_reserved.new.self.items c.loop-frame.invariant.so_far
      (is_front c.in-Some-FrameReady.frame c.in-Some-FrameReady.field-0 (view_of c.loop-frame.decoder).state
      (view_of c.loop-frame.decoder).queue
      (view_of c.next_event.new.self).queue c.in-Some-FrameReady.field-0-is
      c.in-Some-FrameReady.ensures.event) (c.push_reserved.ensures.items
      ∙ ap (λ (s : Shown g.row.B-Handle.Denot). c.loop-frame.shown.items ++ s ∷ []) c.of.ensures);
  view = c.in-Some-FrameReady.ensures.others
      ∙ ap (λ (v : View g.row.B.Denot g.row.B-Handle.Denot). record v
      { queue = (view_of c.next_event.new.self).queue }) c.loop-frame.invariant.view;
  kept = c.in-Some-FrameReady.ensures.kept ∙ c.loop-frame.invariant.kept;
  options = c.in-Some-FrameReady.ensures.options ∙ c.loop-frame.invariant.options;
  room = let one =
      ap (λ (l : List (Frame g.row.B-Handle.Denot)). length l)
      (is_front c.in-Some-FrameReady.frame c.in-Some-FrameReady.field-0 (view_of c.loop-frame.decoder).state
      (view_of c.loop-frame.decoder).queue
      (view_of c.next_event.new.self).queue c.in-Some-FrameReady.field-0-is
      c.in-Some-FrameReady.ensures.event) in
      omega (arith, one, c.push_reserved.ensures.len, c.push_reserved.ensures.capacity, c.loop-frame.invariant.room);
}
