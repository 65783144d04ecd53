use Rattle.std.proofs.Common.{ℕ, List, map, refl, ap}
use Rattle.hevc_spec.specs.Units.{units_from}
use Rattle.hevc_walk.specs.Meanings.{Meaning}
use Rattle.hevc_walk.specs.OrderCounts.{nearest}
use Rattle.hevc_walk.specs.Pictures.{head}
use Rattle.hevc_stream_examples.specs.Worked.{resized_stream, encoded_stream, cra_within_stream, before_sets_stream}
use Rattle.hevc_stream_examples.proofs.Computed.{computed}
use Rattle.hevc_index_laws.specs.Points.{PlainPoint, plain_point, points}
use Rattle.hevc_index_examples.proofs.told_points.Goals as goal

abbrev told : List ℕ → List Meaning → List PlainPoint
told stream us = map (plain_point stream) (points us)

pub returns-clause-empty : goal.returns-clause-empty
unfolding units_from
returns-clause-empty c = refl

pub returns-clause-two : goal.returns-clause-two
unfolding units_from head nearest
returns-clause-two c = ap (told resized_stream) computed.resized

pub returns-clause-zeros : goal.returns-clause-zeros
unfolding units_from head nearest
returns-clause-zeros c = ap (told encoded_stream) computed.encoded

pub returns-clause-cra : goal.returns-clause-cra
unfolding units_from head nearest
returns-clause-cra c = ap (told cra_within_stream) computed.as_cra

pub returns-clause-first : goal.returns-clause-first
unfolding units_from head nearest
returns-clause-first c = ap (told before_sets_stream) computed.before_sets
