use Rattle.std.proofs.Common.{refl, ap, sym, ◌∙◌, subst, Option, Some, None, Bool, if◌then◌else◌}
use Rattle.hevc_picture_slice.specs.SliceHeader.{plain_slice_header}
use Rattle.hevc_walk.specs.DependentSlices.{KeptHeader}
use Rattle.hevc_walk.specs.Meanings.{CodedSlice}
use Rattle.hevc_backend.specs.Handed.{segment_of}
use Rattle.hevc_driver.specs.Headers.{latest_of, shared_header, whole_segment}
use Rattle.hevc_driver.specs.Given.{Given, given_at, given_first}
use Rattle.hevc_walk_units.specs.Units.{finish_current}
use Rattle.hevc_driver.specs.Slices.{slice_of}
use Rattle.hevc_driver.specs.Standings.{standing, traces}
use Rattle.hevc_driver.specs.Takes.{Changes, Follows, Takes}
use Rattle.hevc_driver.proofs.Headers.{segment_whole, given_whole, later_dpb, latest_whole}
use Rattle.hevc_driver.proofs.Soundness.{sized_dpb}
use Rattle.hevc_driver.proofs.Taking.{takes_later, takes_first, lacks}
use Rattle.hevc_driver.proofs.driver.Driver.take_slice.Goals as goal

pub returns-then-not-complete_header-clause-part : goal.returns-then-not-complete_header-clause-part
returns-then-not-complete_header-clause-part g c =
    let w = slice_of c.args.options c.args.slice.now c.args.sps.now c.args.pps.now in
    lacks _ _ _ w (standing c.args.self.now.standing) _
    (c.complete_header.ensures.whole c.args.options c.args.pps.now
    ∙ ap (λ (b : Bool). if b then Some
    (slice_of c.args.options c.complete_header.new.slice c.args.sps.now c.args.pps.now) else None)
    c.if-not-complete_header.true) refl refl refl refl refl refl

pub returns-then-not-complete_header-clause-kept : goal.returns-then-not-complete_header-clause-kept
returns-then-not-complete_header-clause-kept g c =
    let latest = latest_of c.args.self.now.standing.kept in
    let own = plain_slice_header c.args.slice.now.header in
    ap (λ (b : Bool). if b then latest else Some (shared_header own))
    (sym (c.complete_header.ensures.dependent c.if-not-complete_header.true))

pub returns-then-begins-clause-part : goal.returns-then-begins-clause-part
returns-then-begins-clause-part g c =
    let s = standing c.args.self.now.standing in
    let v = slice_of c.args.options c.args.slice.now c.args.sps.now c.args.pps.now in
    let w = slice_of c.args.options c.complete_header.new.slice c.args.sps.now c.args.pps.now in
    let segment = segment_of c.complete_header.new.slice c.args.sps.now c.args.pps.now in
    let whole = c.complete_header.ensures.whole c.args.options c.args.pps.now
    ∙ ap (λ (b : Bool). if b then Some w else None) c.if-not-complete_header.false in
    let begins = sym (c.begins.ensures c.args.options c.args.sps.now c.args.pps.now _) ∙ c.if-begins.true in
    subst (λ (t : Given). Takes c.change_picture.result t
    (traces (g.B.StatelessH265DecoderBackend.log c.args.self.now.backend)
    (g.B.StatelessH265DecoderBackend.handed c.args.self.now.backend)
    (g.B.StatelessH265DecoderBackend.frames c.args.self.now.backend).asked c.args.self.now.standing)
    (traces (g.B.StatelessH265DecoderBackend.log c.change_picture.new.self.backend)
    (g.B.StatelessH265DecoderBackend.handed c.change_picture.new.self.backend)
    (g.B.StatelessH265DecoderBackend.frames c.change_picture.new.self.backend).asked c.change_picture.new.self.standing)
    (CodedSlice v) s (standing c.change_picture.new.self.standing))
    (given_whole c.args.timestamp v w _ segment s whole begins
    (segment_whole _ _ c.args.slice.now c.complete_header.new.slice c.args.sps.now c.args.pps.now
    c.if-not-complete_header.false c.complete_header.ensures.header))
    (takes_first _ _ _ v w s _ whole begins c.change_picture.result
    (subst (λ (k : Option KeptHeader). Changes c.change_picture.result
    (given_first c.args.timestamp w segment (finish_current (record s { kept = k })).next)
    (traces (g.B.StatelessH265DecoderBackend.log c.args.self.now.backend)
    (g.B.StatelessH265DecoderBackend.handed c.args.self.now.backend)
    (g.B.StatelessH265DecoderBackend.frames c.args.self.now.backend).asked c.args.self.now.standing)
    (traces (g.B.StatelessH265DecoderBackend.log c.change_picture.new.self.backend)
    (g.B.StatelessH265DecoderBackend.handed c.change_picture.new.self.backend)
    (g.B.StatelessH265DecoderBackend.frames c.change_picture.new.self.backend).asked c.change_picture.new.self.standing)
    w (record s { kept = k }) (standing c.change_picture.new.self.standing))
    (c.keep_header.ensures.kept c.args.options c.args.sps.now c.args.pps.now
    ∙ c.complete_header.ensures.kept c.args.options c.args.pps.now _) c.change_picture.ensures.part))

pub returns-then-begins-clause-kept : goal.returns-then-begins-clause-kept
returns-then-begins-clause-kept g c =
    ap latest_of c.change_picture.ensures.stays.kept ∙ c.keep_header.ensures.latest
    ∙ latest_whole _ _ (plain_slice_header c.args.slice.now.header)
    (plain_slice_header c.complete_header.new.slice.header) c.if-not-complete_header.false
    c.complete_header.ensures.header

pub returns-else-begins-clause-part : goal.returns-else-begins-clause-part
returns-else-begins-clause-part g c =
    let s = standing c.args.self.now.standing in
    let v = slice_of c.args.options c.args.slice.now c.args.sps.now c.args.pps.now in
    let w = slice_of c.args.options c.complete_header.new.slice c.args.sps.now c.args.pps.now in
    let given = given_at c.args.timestamp v
    (whole_segment (latest_of c.args.self.now.standing.kept) c.args.slice.now c.args.sps.now c.args.pps.now) s in
    let whole = c.complete_header.ensures.whole c.args.options c.args.pps.now
    ∙ ap (λ (b : Bool). if b then Some w else None) c.if-not-complete_header.false in
    let later = sym (c.begins.ensures c.args.options c.args.sps.now c.args.pps.now _) ∙ c.if-begins.false in
    takes_later _ _ _ v w s _ whole later c.follow.result
    (subst (λ (k : Option KeptHeader). Follows c.follow.result given
    (traces (g.B.StatelessH265DecoderBackend.log c.args.self.now.backend)
    (g.B.StatelessH265DecoderBackend.handed c.args.self.now.backend)
    (g.B.StatelessH265DecoderBackend.frames c.args.self.now.backend).asked c.args.self.now.standing)
    (traces (g.B.StatelessH265DecoderBackend.log c.follow.new.self.backend)
    (g.B.StatelessH265DecoderBackend.handed c.follow.new.self.backend)
    (g.B.StatelessH265DecoderBackend.frames c.follow.new.self.backend).asked c.follow.new.self.standing)
    w (record s { kept = k }) (standing c.follow.new.self.standing))
    (c.keep_header.ensures.kept c.args.options c.args.sps.now c.args.pps.now
    ∙ c.complete_header.ensures.kept c.args.options c.args.pps.now _)
    (c.follow.ensures.part given c.args.options
    (segment_whole _ _ c.args.slice.now c.complete_header.new.slice c.args.sps.now c.args.pps.now
    c.if-not-complete_header.false c.complete_header.ensures.header)
    (later_dpb v w s whole later ∙ sym (sized_dpb c.args.self.now.standing c.requires.sound.sized))))

pub returns-else-begins-clause-kept : goal.returns-else-begins-clause-kept
returns-else-begins-clause-kept g c =
    ap latest_of c.follow.ensures.stays.kept ∙ c.keep_header.ensures.latest
    ∙ latest_whole _ _ (plain_slice_header c.args.slice.now.header)
    (plain_slice_header c.complete_header.new.slice.header) c.if-not-complete_header.false
    c.complete_header.ensures.header
