use Rattle.std.proofs.Common.{refl, ap, sym, ◌∙◌, subst, Ok, false, Option, Some}
use Rattle.std.specs.Prelude.{option_map}
use Rattle.hevc_sequence_set.specs.Sps.{plain_sps}
use Rattle.hevc_walk_inputs.specs.Sequences.{format_of_set}
use Rattle.hevc_walk.specs.Meanings.{Format}
use Rattle.hevc_walk_units.specs.Units.{Current, NoPicture, SkippedPicture, changed_by}
use Rattle.hevc_refs.specs.Sets.{plain_set}
use Rattle.hevc_backend.specs.Calls.{decode_slice_call}
use Rattle.hevc_backend.specs.declared.negotiation.NegotiationInfo.{NegotiationInfo}
use Rattle.hevc_backend.specs.Negotiation.{format_of}
use Rattle.hevc_backend.specs.Told.{BegunPicture}
use Rattle.hevc_backend.specs.Trait.{Frames}
use Rattle.hevc_backend.proofs.ToldLaws.{told_call, told_same}
use Rattle.hevc_backend.proofs.NamedLaws.{list0_among, list1_among}
use Rattle.hevc_driver.specs.declared.current.Current.TheVariants as code
use Rattle.hevc_driver.specs.Heads.{head_of}
use Rattle.hevc_driver.specs.Slices.{slice_of}
use Rattle.hevc_driver.specs.Takes.{Changed, Follows, given_up_by}
use Rattle.hevc_driver.specs.Standings.{standing, traces, current_of}
use Rattle.hevc_backend.proofs.HandedLaws.{announced_more, among_more}
use Rattle.hevc_driver.proofs.Following.{open_announced, decoded_handed, followed, not_followed}
use Rattle.hevc_driver.proofs.Following.{hand_stops, hand_changed, open_newest, open_latest}
use Rattle.hevc_driver.proofs.SliceViews.{slice_format, slice_made}
use Rattle.hevc_driver.proofs.Soundness.{accepted_sequence, unchanged_accepted, same_grows}
use Rattle.hevc_driver.proofs.driver.Driver.hand_slice.Goals as goal

pub returns-in-SkippedPicture-clause-part : goal.returns-in-SkippedPicture-clause-part
returns-in-SkippedPicture-clause-part g c t o segment dpb =
    not_followed t _ _ (slice_of o c.args.slice.now c.args.sps.now c.args.pps.now)
    (standing c.args.self.now.standing) _ SkippedPicture
    (ap (current_of c.args.self.now.standing.set) c.in-SkippedPicture.is) refl refl refl refl refl refl refl refl

pub returns-in-NoPicture-clause-part : goal.returns-in-NoPicture-clause-part
returns-in-NoPicture-clause-part g c t o segment dpb =
    not_followed t _ _ (slice_of o c.args.slice.now c.args.sps.now c.args.pps.now)
    (standing c.args.self.now.standing) _ NoPicture
    (ap (current_of c.args.self.now.standing.set) c.in-NoPicture.is) refl refl refl refl refl refl refl refl

pub returns-in_err-check_format-clause-part : goal.returns-in_err-check_format-clause-part
returns-in_err-check_format-clause-part g c t o segment dpb =
    let w = c.args.self.now.standing in
    let v = slice_of o c.args.slice.now c.args.sps.now c.args.pps.now in
    let r = c.from_residual.result in
    let after = record
    (standing w) { current = current_of c.args.self.now.standing.set (code.OpenPicture c.in-OpenPicture.opened) } in
    let named = slice_format o c.args.slice.now c.args.sps.now c.args.pps.now ∙ sym (ap format_of c.into.ensures) in
    subst (λ (k : Current). Follows r t
    (traces (g.B.StatelessH265DecoderBackend.log c.args.self.now.backend)
    (g.B.StatelessH265DecoderBackend.handed c.args.self.now.backend)
    (g.B.StatelessH265DecoderBackend.frames c.args.self.now.backend).asked w)
    (traces (g.B.StatelessH265DecoderBackend.log c.args.self.now.backend)
    (g.B.StatelessH265DecoderBackend.handed c.args.self.now.backend)
    (g.B.StatelessH265DecoderBackend.frames c.args.self.now.backend).asked w) v
    (record (standing w) { current = k }) (given_up_by r after))
    (sym (ap (current_of c.args.self.now.standing.set) c.in-OpenPicture.is))
    (hand_changed r c.in_err-check_format.field-0.0 t _ _ v after c.from_residual.ensures.1
    (subst (λ (f : Format). Changed c.in_err-check_format.field-0.0
    (changed_by f (option_map format_of w.accepted))) (sym named)
    (subst (λ (a : Option NegotiationInfo). Changed c.in_err-check_format.field-0.0
    (changed_by (format_of c.into.result) (option_map format_of a)))
    (sym (open_newest w c.in-OpenPicture.opened c.in-OpenPicture.is c.requires.sound.newest).accepted)
    c.in_err-check_format.ensures)) refl)

pub decode_slice-requires-clause-list0 : goal.decode_slice-requires-clause-list0
decode_slice-requires-clause-list0 g c =
    list0_among _ c.args.self.now.standing.set
    (slice_of (record { handle_cra_as_bla = false; highest_tid = 6; highest_layer = 63 }) c.args.slice.now c.args.sps.now
    c.args.pps.now) _
    (c.build_lists.ensures.list0 (record { handle_cra_as_bla = false; highest_tid = 6; highest_layer = 63 }) c.args.sps.now)
    (open_newest c.args.self.now.standing c.in-OpenPicture.opened c.in-OpenPicture.is
    c.requires.sound.newest).references

pub decode_slice-requires-clause-list1 : goal.decode_slice-requires-clause-list1
decode_slice-requires-clause-list1 g c =
    list1_among _ c.args.self.now.standing.set
    (slice_of (record { handle_cra_as_bla = false; highest_tid = 6; highest_layer = 63 }) c.args.slice.now c.args.sps.now
    c.args.pps.now) _
    (c.build_lists.ensures.list1 (record { handle_cra_as_bla = false; highest_tid = 6; highest_layer = 63 }) c.args.sps.now)
    (open_newest c.args.self.now.standing c.in-OpenPicture.opened c.in-OpenPicture.is
    c.requires.sound.newest).references

pub decode_slice-requires-clause-told : goal.decode_slice-requires-clause-told
decode_slice-requires-clause-told g c =
    let w = c.args.self.now.standing in
    let n = open_newest w c.in-OpenPicture.opened c.in-OpenPicture.is c.requires.sound.newest in
    let accepted =
    unchanged_accepted (format_of_set (plain_sps c.args.sps.now)) c.in-OpenPicture.opened.head.format
    w.accepted n.accepted
    (ap (λ (f : Format). changed_by f (Some (format_of c.in-OpenPicture.opened.head.format)))
    (sym (ap format_of c.into.ensures)) ∙ c.in_ok-check_format.ensures) in
    told_same refl c.requires.sound.told (λ t h. record {
      handles = h.handles;
      sequence = accepted_sequence _ _ _ accepted h.sequence;
      picture = ap (option_map (λ (p : BegunPicture). p.number))
          (open_latest w.current c.in-OpenPicture.opened t.picture c.in-OpenPicture.is h.picture);
    })

pub returns-in_err-decode_slice-clause-part : goal.returns-in_err-decode_slice-clause-part
returns-in_err-decode_slice-clause-part g c t o segment dpb =
    let w = c.args.self.now.standing in
    let v = slice_of o c.args.slice.now c.args.sps.now c.args.pps.now in
    let open_ = c.in-OpenPicture.opened in
    let r = c.from_residual-in_err-decode_slice.result in
    let after = record (standing w) { current = current_of c.args.self.now.standing.set (code.OpenPicture open_) } in
    let named = slice_format o c.args.slice.now c.args.sps.now c.args.pps.now ∙ sym (ap format_of c.into.ensures) in
    subst (λ (k : Current). Follows r t
    (traces (g.B.StatelessH265DecoderBackend.log c.args.self.now.backend)
    (g.B.StatelessH265DecoderBackend.handed c.args.self.now.backend)
    (g.B.StatelessH265DecoderBackend.frames c.args.self.now.backend).asked w)
    (traces (g.B.StatelessH265DecoderBackend.log c.decode_slice.new.self)
    (g.B.StatelessH265DecoderBackend.handed c.decode_slice.new.self)
    (g.B.StatelessH265DecoderBackend.frames c.decode_slice.new.self).asked w) v
    (record (standing w) { current = k }) (given_up_by r after))
    (sym (ap (current_of c.args.self.now.standing.set) c.in-OpenPicture.is))
    (hand_stops r _ t _ _ (head_of open_.head) (plain_set c.args.self.now.standing.set) v
    (standing w) c.from_residual-in_err-decode_slice.ensures.1 open_.decoded
    (ap (λ (f : Format). changed_by f (option_map format_of w.accepted)) named
    ∙ ap (λ (a : Option NegotiationInfo). changed_by (format_of c.into.result) (option_map format_of a))
    (open_newest w c.in-OpenPicture.opened c.in-OpenPicture.is c.requires.sound.newest).accepted
    ∙ c.in_ok-check_format.ensures) c.in_err-decode_slice.ensures.log c.in_err-decode_slice.ensures.handed
    (ap (λ (f : Frames). f.asked) c.in_err-decode_slice.ensures.frames) refl refl)

pub returns-clause-part : goal.returns-clause-part
returns-clause-part g c t o segment dpb =
    let w = c.args.self.now.standing in
    let v = slice_of o c.args.slice.now c.args.sps.now c.args.pps.now in
    let open_ = c.in-OpenPicture.opened in
    let named = slice_format o c.args.slice.now c.args.sps.now c.args.pps.now ∙ sym (ap format_of c.into.ensures) in
    subst (λ (k : Current). Follows {T = Unit {0}} (Ok tt) t
    (traces (g.B.StatelessH265DecoderBackend.log c.args.self.now.backend)
    (g.B.StatelessH265DecoderBackend.handed c.args.self.now.backend)
    (g.B.StatelessH265DecoderBackend.frames c.args.self.now.backend).asked w)
    (traces (g.B.StatelessH265DecoderBackend.log c.decode_slice.new.self)
    (g.B.StatelessH265DecoderBackend.handed c.decode_slice.new.self)
    (g.B.StatelessH265DecoderBackend.frames c.decode_slice.new.self).asked w) v
    (record (standing w) { current = k })
    (record (standing w) { current = current_of c.args.self.now.standing.set (code.OpenPicture open_) }))
    (sym (ap (current_of c.args.self.now.standing.set) c.in-OpenPicture.is))
    (followed t _ _ (head_of open_.head) (plain_set c.args.self.now.standing.set) v (standing w) _
    (decode_slice_call open_.head.number c.args.slice.now c.build_lists.new.lists.ref_pic_list0
    c.build_lists.new.lists.ref_pic_list1) open_.decoded
    (ap (λ (f : Format). changed_by f (option_map format_of w.accepted)) named
    ∙ ap (λ (a : Option NegotiationInfo). changed_by (format_of c.into.result) (option_map format_of a))
    (open_newest w c.in-OpenPicture.opened c.in-OpenPicture.is c.requires.sound.newest).accepted
    ∙ c.in_ok-check_format.ensures)
    (slice_made g.row.B-Handle.Denot o c.args.slice.now c.args.sps.now c.args.pps.now (head_of open_.head)
    (plain_set c.args.self.now.standing.set) _ _ (c.build_lists.ensures.list0 o c.args.sps.now)
    (c.build_lists.ensures.list1 o c.args.sps.now)) tt
    c.in_ok-decode_slice.ensures.log
    (decoded_handed t _ _ open_.head.number _ _ dpb segment c.in_ok-decode_slice.ensures.handed)
    (ap (λ (f : Frames). f.asked) c.in_ok-decode_slice.ensures.frames) refl refl refl)

pub returns-clause-stays : goal.returns-clause-stays
returns-clause-stays g c =
    let w = c.args.self.now.standing in
    let s = c.requires.sound in
    let n = open_newest w c.in-OpenPicture.opened c.in-OpenPicture.is s.newest in
    record {
      sound = record {
        sized = s.sized;
        latency = s.latency;
        below = s.below;
        newest = record { newer = n.newer; counted = n.counted; references = n.references; accepted = n.accepted };
        announced = record {
          stored = announced_more _ _ _ _ c.in_ok-decode_slice.ensures.handed s.announced.stored;
          current = among_more _ _ _ _ _ c.in_ok-decode_slice.ensures.handed
              (open_announced _ w c.in-OpenPicture.opened c.in-OpenPicture.is s.announced.current);
        };
        told = told_call
            (decode_slice_call c.in-OpenPicture.opened.head.number c.args.slice.now
            c.build_lists.new.lists.ref_pic_list0 c.build_lists.new.lists.ref_pic_list1)
            c.in_ok-decode_slice.ensures.log s.told
            (λ t h. record {
              handles = h.handles;
              sequence = h.sequence;
              picture = open_latest w.current c.in-OpenPicture.opened t.picture c.in-OpenPicture.is h.picture;
            });
      };
      grows = same_grows 0 _ _ refl refl;
      kept = refl;
    }
