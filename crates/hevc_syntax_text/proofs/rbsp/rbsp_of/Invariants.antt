use Rattle.std.proofs.Common.{◌≡◌, ◌++◌, drop}
use Rattle.hevc_spec.specs.Payload.{payload_after}
use Rattle.hevc_syntax_text.proofs.rbsp.rbsp_of.Given as goal

-- the bytes that are left come after the run of zeros
abbrev pub invariant-loop-byte : goal.invariant-loop-byte
invariant-loop-byte l =
    l.rbsp.items ++ payload_after l.zeros (drop l.byte-index l.payload) ≡ payload_after 0 l.payload
