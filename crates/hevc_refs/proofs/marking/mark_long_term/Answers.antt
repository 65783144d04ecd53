use Rattle.std.proofs.Common.{◌<◌, ◌++◌, length, ◌∙◌, arith}
use Rattle.std.proofs.lemmas.List.{length-map}
use Rattle.hevc_walk.specs.ReferenceSets.{long_term_if}
use Rattle.hevc_pictures.specs.Marks.{mark_of}
use Rattle.hevc_dpb.specs.Plain.{plain_entry}
use Rattle.hevc_dpb.specs.Views.{stored_entries, buffer_of}
use Rattle.hevc_refs.proofs.MarkingLaws.{marked_more, entry_at, keeps_more, same_length}
use Rattle.hevc_refs.proofs.marking.mark_long_term.Goals as goal

pub loop-position-preserved : goal.loop-position-preserved
loop-position-preserved g c =
    let mid = c.loop-position.dpb in
    let i = c.loop-position.position in
    let within : i < length (buffer_of c.args.dpb.now) =
    (let l = length-map (stored_entries c.args.dpb.now) plain_entry in omega (arith, l)) in
    record {
      marked = marked_more (long_term_if (c.args.curr.now ++ c.args.foll.now)) (buffer_of c.args.dpb.now)
          (buffer_of mid) _ i (plain_entry c.index-entries-position.result)
          (mark_of c.long_term_mark-mark.result) within c.loop-position.invariant.marked
          (entry_at (stored_entries mid) c.entries.result.now i c.index-entries-position.result
          (omega (arith, c.loop-position.invariant.same_length)) c.index-entries-position.is
          c.entries.ensures.entries) c.set_reference_at.ensures.buffer c.long_term_mark-mark.ensures;
      same_length = same_length _ _ c.set_reference_at.ensures.others ∙ c.loop-position.invariant.same_length;
      kept = keeps_more _ _ _ c.loop-position.invariant.kept (record {
        entries = c.set_reference_at.ensures.others;
        handles = c.set_reference_at.ensures.handles;
        size = c.set_reference_at.ensures.keeps.size;
        room = c.set_reference_at.ensures.keeps.room;
        latency = c.set_reference_at.ensures.keeps.latency;
        same_order = c.set_reference_at.ensures.same_order;
      });
    }
