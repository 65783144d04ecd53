use Rattle.hevc_short_term.proofs.side.Side.push.Given as goal

-- the member that was put in
abbrev pub ghost-and : goal.ghost-and
ghost-and a = a._told.now
