use Rattle.std.proofs.Common.{◌+◌, subst, length}
use Rattle.memchr.specs.Find.{Nowhere, NoneBefore, Passes, is_byte}
use Rattle.hevc_bits.proofs.StartCodes.{whole, none_follows, ends_first}
use Rattle.hevc_bits.proofs.start_code.find_end.Goals as goal

pub returns-in-None : goal.returns-in-None
returns-in-None c =
    let stream = c.args.stream.now in
    let from = c.args.from in
    none_follows stream from c.requires
    (subst (λ bytes. Nowhere (Passes (is_byte 1) bytes) 0 (length bytes)) (whole stream (from + 2)) c.in-None.ensures)

pub returns-in-Some : goal.returns-in-Some
returns-in-Some c =
    let stream = c.args.stream.now in
    let from = c.args.from in
    let ahead = c.in-Some.ahead in
    let first = subst (λ bytes. NoneBefore (Passes (is_byte 1) bytes) 0 (length bytes) ahead
    × Passes (is_byte 1) bytes ahead) (whole stream (from + 2)) c.in-Some.ensures in
    ends_first stream from ahead first.0 first.1
