use Rattle.std.proofs.Common.{refl}
use Rattle.hevc_stream_examples.proofs.Computed.{computed}
use Rattle.hevc_stream_examples.proofs.buffer_sizes.Goals as goal

pub returns-clause-large : goal.returns-clause-large
returns-clause-large c = computed.large

pub returns-clause-screen_content : goal.returns-clause-screen_content
returns-clause-screen_content c = computed.screen_content

pub returns-clause-at : goal.returns-clause-at
returns-clause-at c = refl

pub returns-clause-above : goal.returns-clause-above
returns-clause-above c = refl

pub returns-clause-screen : goal.returns-clause-screen
returns-clause-screen c = refl
