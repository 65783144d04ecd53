use Rattle.hevc_walk.specs.Results.{verdict}
use Rattle.hevc_stream.specs.Options.{default_options}
use Rattle.hevc_stream.specs.Stream.{meanings}
use Rattle.hevc_bench.proofs.Answered.{answered_if}
use Rattle.hevc_bench.proofs.count.count_pictures.Goals as goal

-- the backend keeps nothing and never fails, so the answer is the verdict, unless an allocation fails
pub returns : goal.returns
returns c =
    let decoded = c.decode_stream-decoded in
    answered_if (verdict (meanings default_options c.args.stream.now)) decoded.result.result c.count_answered.result
    decoded.ensures.decodes.answer (decoded.ensures.decodes.honest.faultless tt).1 c.count_answered.ensures
