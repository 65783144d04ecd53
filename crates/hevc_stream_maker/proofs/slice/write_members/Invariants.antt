use Rattle.std.proofs.Common.{◌≡◌, ◌++◌, drop, true}
use Rattle.hevc_spec.specs.declared.Row.{Row}
use Rattle.hevc_stream_maker.specs.Groups.{are_rising}
use Rattle.hevc_stream_maker.specs.Slices.{members, spelled_elements}
use Rattle.hevc_stream_maker.proofs.slice.write_members.Given as goal

-- what is left goes on after the last distance
abbrev pub invariant-loop-distance : goal.invariant-loop-distance
invariant-loop-distance l = record {
  rising : are_rising l.last (drop l.distance-index l.members) ≡ true;
  rest : (difference used : Row)
      → l.payload ++ spelled_elements (members difference used l.last (drop l.distance-index l.members))
      ≡ l.fn.payload ++ spelled_elements (members difference used 0 l.members);
}
