use Rattle.std.proofs.Common.{List, ◌++◌, length, ap}
use Rattle.std.proofs.lemmas.List.{drop-replicate}
use Rattle.hevc_v4l2.specs.declared.buffer.V4l2HevcDpbEntry.{V4l2HevcDpbEntry}
use Rattle.hevc_v4l2.specs.Buffer.{no_entry}
use Rattle.hevc_v4l2.proofs.buffer.entry_places.Goals as goal

pub returns : goal.returns
returns c =
    rw c.copy_from_slice.ensures.after
    (ap (λ (others : List V4l2HevcDpbEntry). c.args.entries.now ++ others)
    (drop-replicate (length c.args.entries.now) 16 no_entry))
