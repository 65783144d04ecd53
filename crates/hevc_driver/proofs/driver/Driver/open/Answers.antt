use Rattle.std.proofs.Common.{◌≡◌, ap, arith, ◌∙◌, subst, Option}
use Rattle.std.specs.Prelude.{option_map}
use Rattle.hevc_sequence_set.specs.Sps.{plain_sps}
use Rattle.hevc_walk_inputs.specs.Sequences.{format_of_set}
use Rattle.hevc_walk.specs.Walk.{is_accepted}
use Rattle.hevc_backend.specs.declared.negotiation.NegotiationInfo.{NegotiationInfo}
use Rattle.hevc_backend.specs.Negotiation.{format_of}
use Rattle.hevc_refs.specs.Sets.{plain_set}
use Rattle.hevc_backend.specs.Handed.{PlainDpb, dpb_of, plain_picture, segment_of}
use Rattle.hevc_driver.specs.Given.{given_slice}
use Rattle.hevc_driver.specs.Heads.{head_of}
use Rattle.hevc_driver.specs.Slices.{slice_of}
use Rattle.hevc_driver.specs.Standings.{standing, traces, current_of}
use Rattle.hevc_driver.specs.Moments.{enters, hands_over}
use Rattle.hevc_driver.specs.Does.{Runs}
use Rattle.hevc_driver.specs.Takes.{LeftStarted}
use Rattle.hevc_walk_units.specs.Units.{Standing}
use Rattle.hevc_driver.proofs.PictureBegins.{opened}
use Rattle.hevc_driver.proofs.Soundness.{none_with, below_part, is_format, left_sound, sized_dpb}
use Rattle.hevc_driver.proofs.driver.Driver.open.Goals as goal

pub hand_over-requires-clause-newest : goal.hand_over-requires-clause-newest
hand_over-requires-clause-newest g c =
    let l = c.enter.ensures.leaves in
    record {
      newer = below_part _ _ _ _ c.requires.ready.sound.below (omega (arith, c.requires.next.number)) l.handles;
      counted = omega (arith, c.enter.ensures.number);
      references = c.enter.ensures.references;
      accepted = l.accepted ∙ is_format _ _ _ c.requires.ready.accepted c.requires.next.format;
    }

pub hand_over-requires-clause-ready : goal.hand_over-requires-clause-ready
hand_over-requires-clause-ready g c =
    let r = c.requires.ready in
    let l = c.enter.ensures.leaves in
    record {
      none = none_with _ _ _ (ap (current_of c.args.self.now.standing.set) l.current ∙ r.none);
      accepted = ap
          (λ (a : Option NegotiationInfo). is_accepted (format_of_set (plain_sps c.args.sps.now))
          (option_map format_of a)) l.accepted ∙ r.accepted;
      named = r.named;
      frame = r.frame;
      sound = left_sound _ _ _ _ r.sound r.none l (omega (arith, c.requires.next.number, c.enter.ensures.number));
    }

pub returns-clause-part : goal.returns-clause-part
returns-clause-part g c o =
    let p = head_of c.args.head.now in
    let w = slice_of o c.args.slice.now c.args.sps.now c.args.pps.now in
    let s = standing c.args.self.now.standing in
    let mid = c.enter.new.self in
    let after = c.hand_over.new.self in
    let segment = segment_of c.args.slice.now c.args.sps.now c.args.pps.now in
    let given = given_slice c.args.timestamp (plain_picture c.args.head.now.picture)
    (dpb_of (enters p w s).next.store) segment in
    let entered = c.enter.ensures.part _ _ _ given o c.args.pps.now in
    let there = left_sound _ _ _ _ c.requires.ready.sound c.requires.ready.none c.enter.ensures.leaves
    (omega (arith, c.requires.next.number, c.enter.ensures.number)) in
    let stored = sized_dpb mid there.sized ∙ ap (λ (v : Standing). dpb_of v.store) entered.next in
    opened _ given _ _ _ p w s (standing mid) _
    (plain_set mid.set) c.requires.next.decoded c.requires.ready.none entered (c.enter.ensures.set o c.args.pps.now)
    (subst (λ (d : PlainDpb). Runs c.hand_over.result
    (given_slice c.args.timestamp (plain_picture c.args.head.now.picture) d segment)
    (traces (g.B.StatelessH265DecoderBackend.log c.args.self.now.backend)
    (g.B.StatelessH265DecoderBackend.handed c.args.self.now.backend)
    (g.B.StatelessH265DecoderBackend.frames c.args.self.now.backend).asked mid)
    (traces (g.B.StatelessH265DecoderBackend.log after.backend)
    (g.B.StatelessH265DecoderBackend.handed after.backend)
    (g.B.StatelessH265DecoderBackend.frames after.backend).asked after.standing)
    (hands_over p (plain_set mid.set) w (standing mid))
    (λ call. LeftStarted call × (standing after.standing ≡ standing mid)) (standing after.standing)) stored
    (c.hand_over.ensures.part o))
