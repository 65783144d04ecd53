use Rattle.std.proofs.Common.{refl, inr, arith}
use Rattle.std.proofs.KnownBytes.{Appends-nil}
use Rattle.hevc_stream_maker.specs.Made.{made}
use Rattle.hevc_report.specs.Summary.{summary_of}
use Rattle.hevc_io.proofs.Written.{nothing_written}
use Rattle.hevc_report.proofs.Joined.{some_summary}
use Rattle.hevc_report.proofs.made.run_made.Goals as goal

-- no memory: nothing was written
pub returns-in_default : goal.returns-in_default
returns-in_default g c =
    let written = g.K.Sink.written c.args.sink.now in
    let stream = made c.args.pictures in
    record {
      makes = record {
        statuses = inr (inr (inr refl));
        whole = λ few. absurd (omega (arith, few));
        part = (0, Appends-nil written);
        less = λ more. nothing_written written (summary_of stream) (some_summary stream);
        write = λ failed. absurd (omega (arith, failed));
        clean = λ clean kept. inr refl;
      };
    }
