use Rattle.hevc_stream_examples.proofs.Computed.{computed}
use Rattle.hevc_stream_examples.proofs.refused_headers.Goals as goal

pub returns-clause-truncated : goal.returns-clause-truncated
returns-clause-truncated c = computed.truncated

pub returns-clause-unspecified : goal.returns-clause-unspecified
returns-clause-unspecified c = computed.unspecified

pub returns-clause-no_temporal_id : goal.returns-clause-no_temporal_id
returns-clause-no_temporal_id c = computed.no_temporal_id

pub returns-clause-end_cut : goal.returns-clause-end_cut
returns-clause-end_cut c = computed.end_cut
