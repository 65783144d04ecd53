use Rattle.hevc_stream_laws.proofs.OneContent.{means_content, only_content}
use Rattle.hevc_stream_laws.proofs.one_content.Goals as goal

pub returns-clause-means : goal.returns-clause-means
returns-clause-means c = means_content

pub returns-clause-only : goal.returns-clause-only
returns-clause-only c = only_content
