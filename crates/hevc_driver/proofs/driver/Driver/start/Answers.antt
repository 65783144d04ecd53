use Rattle.std.proofs.Common.{◌≡◌, ◌∙◌, refl, ap, arith, subst, rules, Result, Ok, Err}
use Rattle.std.specs.Prelude.{IsErrAnd}
use Rattle.hevc_backend.specs.Trait.{Counts}
use Rattle.hevc_driver.specs.declared.decode_error.DecodeError.{DecodeError}
use Rattle.hevc_driver.specs.declared.decode_error.DecodeError.TheVariants as errors
use Rattle.hevc_driver.specs.Answers.{IsFair}
use Rattle.hevc_walk.specs.Pictures.{Context}
use Rattle.hevc_walk_units.specs.Units.{SkippedPicture}
use Rattle.hevc_backend.proofs.ToldLaws.{told_same}
use Rattle.hevc_driver.specs.Heads.{head_of}
use Rattle.hevc_driver.specs.Slices.{slice_of}
use Rattle.hevc_backend.specs.Handed.{segment_of}
use Rattle.hevc_walk.specs.Meanings.{Format}
use Rattle.hevc_walk.specs.Walk.{is_accepted}
use Rattle.hevc_driver.specs.Given.{Given}
use Rattle.hevc_driver.specs.Takes.{Starts}
use Rattle.hevc_driver.specs.Standings.{standing, traces}
use Rattle.hevc_driver.proofs.HeadViews.{decoded_is}
use Rattle.hevc_driver.proofs.PictureBegins.{skips_at, starts_at, head_number, begun_given}
use Rattle.hevc_driver.proofs.SliceViews.{slice_format}
use Rattle.hevc_driver.proofs.Soundness.{below_part, same_grows}
use Rattle.hevc_driver.proofs.driver.Driver.start.Goals as goal

-- a count out of range blames no backend
unblamed : {B I T : Type 0} (counts : B → Counts) (is_faultless : B → Type 0) (tells : B
    → I) (b : B) (r : Result T DecodeError) → IsErrAnd r (λ e. e ≡ errors.PocOutOfRange)
    → IsFair counts is_faultless tells b b r
unblamed counts is_faultless tells b (Ok value) is = absurd is
unblamed counts is_faultless tells b (Err e) is =
    rw is (record { blames = record { cause = refl; faultless = λ k. (k, λ x. x) }; info = refl })

pub returns-in_err-head-clause-fair : goal.returns-in_err-head-clause-fair
returns-in_err-head-clause-fair g c = unblamed _ _ _ _ _ c.from_residual.ensures.1

pub behind-self-requires : goal.behind-self-requires
behind-self-requires g c = let h = head_number _ _ _ (c.in_ok-head.ensures.head c.args.pps.now) in omega arith

pub open-requires-clause-next : goal.open-requires-clause-next
open-requires-clause-next g c =
    let h = head_number _ _ _ (c.in_ok-head.ensures.head c.args.pps.now) in
    record {
      number = h;
      counted = omega arith;
      format = search rules;
      decoded = decoded_is _ _ (c.in_ok-head.ensures.head c.args.pps.now)
          (c.in_ok-head.ensures.within c.args.pps.now) c.if-head.false;
    }

pub returns-then-head-clause-part : goal.returns-then-head-clause-part
returns-then-head-clause-part g c =
    skips_at _ _ _ (slice_of c.args.options c.args.slice.now c.args.sps.now c.args.pps.now)
    (standing c.args.self.now.standing) _ (head_of c.in_ok-head.head)
    (λ e. omega (arith, e)) (c.in_ok-head.ensures.head c.args.pps.now)
    (c.in_ok-head.ensures.within c.args.pps.now) c.if-head.true refl refl refl refl refl
    (ap (λ (v : Context). record (standing c.args.self.now.standing) { current = SkippedPicture; next = v })
    c.behind-self.ensures)

pub returns-then-head-clause-stays : goal.returns-then-head-clause-stays
returns-then-head-clause-stays g c =
    let s = c.requires.ready.sound in
    let h = head_number _ _ _ (c.in_ok-head.ensures.head c.args.pps.now) in
    let n = ap (λ (v : Context). v.number) c.behind-self.ensures in
    record {
      sound = record {
        sized = s.sized;
        latency = s.latency;
        below = below_part _ _ _ _ s.below (omega (arith, h, n)) (λ x k. k);
        newest = tt;
        announced = record { stored = s.announced.stored; current = tt };
        told = told_same refl s.told (λ t f. record { handles = f.handles; sequence = f.sequence; picture = tt });
      };
      grows = same_grows 0 _ _ refl refl;
      kept = refl;
    }

pub returns-clause-part : goal.returns-clause-part
returns-clause-part g c =
    let w = slice_of c.args.options c.args.slice.now c.args.sps.now c.args.pps.now in
    let segment = segment_of c.args.slice.now c.args.sps.now c.args.pps.now in
    let s = standing c.args.self.now.standing in
    let head_is = c.in_ok-head.ensures.head c.args.pps.now in
    let within = c.in_ok-head.ensures.within c.args.pps.now in
    let decoded = decoded_is _ _ head_is within c.if-head.false in
    let accepted =
    ap (λ (f : Format). is_accepted f s.store.accepted)
    (slice_format c.args.options c.args.slice.now c.args.sps.now c.args.pps.now) ∙ c.requires.ready.accepted in
    subst (λ (t : Given). Starts c.open.result t
    (traces (g.B.StatelessH265DecoderBackend.log c.args.self.now.backend)
    (g.B.StatelessH265DecoderBackend.handed c.args.self.now.backend)
    (g.B.StatelessH265DecoderBackend.frames c.args.self.now.backend).asked c.args.self.now.standing)
    (traces (g.B.StatelessH265DecoderBackend.log c.open.new.self.backend)
    (g.B.StatelessH265DecoderBackend.handed c.open.new.self.backend)
    (g.B.StatelessH265DecoderBackend.frames c.open.new.self.backend).asked c.open.new.self.standing) w s
    (standing c.open.new.self.standing))
    (begun_given c.args.timestamp w segment s (head_of c.in_ok-head.head) _
    (c.in_ok-head.ensures.picture c.args.pps.now) head_is decoded accepted)
    (starts_at _ _ _ _ w _ _ (head_of c.in_ok-head.head)
    (λ e. omega (arith, e)) head_is within (c.open.ensures.part c.args.options))
