use Rattle.std.proofs.Common.{refl}
use Rattle.hevc_bits.specs.FoundUnit.{bytes_of}
use Rattle.hevc_check.proofs.Meant.{video_taken, refused_taken}
use Rattle.hevc_check.proofs.units.Walk.take_video_set.Goals as goal

pub returns-in-Ok-clause-takes : goal.returns-in-Ok-clause-takes
returns-in-Ok-clause-takes c =
    let t = c.in-Ok.ensures.takes in
    video_taken (bytes_of c.args.nalu.now) c.args.self.now _ t.0 t.1 refl t.2

pub returns-in_default : goal.returns-in_default
returns-in_default c = record {
  takes =
      refused_taken (bytes_of c.args.nalu.now) c.args.self.now _ c.in-Err.error c.in_default.not-NoMemory
      c.in-Err.ensures.takes refl;
  options = c.in-Err.ensures.options;
}
