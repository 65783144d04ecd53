use Rattle.std.proofs.Common.{◌≡◌, drop}
use Rattle.std.specs.Prelude.{fold}
use Rattle.hevc_element_names.specs.Seen.{after, sight_of}
use Rattle.hevc_syntax_text.specs.Refusals.{seen_after}
use Rattle.hevc_syntax_text.proofs.refusal.see_all.Given as goal

-- the elements that are left come after what is seen
abbrev pub invariant-loop-one : goal.invariant-loop-one
invariant-loop-one l = fold after (sight_of l.seen) (drop l.one-index l.told) ≡ seen_after l.told
