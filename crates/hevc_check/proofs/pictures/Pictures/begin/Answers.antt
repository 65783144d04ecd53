use Rattle.std.proofs.Common.{not, ◌&&◌, ◌+◌, ◌≡◌, ap, sym, ◌∙◌, Option}
use Rattle.std.specs.Prelude.{length}
use Rattle.hevc_sequence_set.specs.Sps.{plain_sps}
use Rattle.hevc_walk.specs.Pictures as walk
use Rattle.hevc_walk.specs.Pictures.{head, order_count_in_range}
use Rattle.hevc_walk.specs.ReferenceSets.{with_marks}
use Rattle.hevc_walk.specs.Walk.{Store, change_format, begin_picture, prepare, needed_entries}
use Rattle.hevc_walk_inputs.specs.Sequences.{format_of_set}
use Rattle.hevc_driver.specs.Heads.{head_of, context_of}
use Rattle.hevc_driver.specs.Slices.{slice_of}
use Rattle.hevc_driver.proofs.SliceViews.{slice_format}
use Rattle.hevc_check.specs.contracts.pictures.Pictures.{the_view}
use Rattle.hevc_check.specs.Filled.{is_full_up_to}
use Rattle.hevc_check.specs.Places.{Place, starts_sequence_after, context_after}
use Rattle.hevc_check.proofs.Places.{prepared, begun_is, begins_or}
use Rattle.hevc_check.proofs.Sounds.{begun_sound}
use Rattle.hevc_check.proofs.pictures.Pictures.begin.Goals as goal

pub invariant_of-self : goal.invariant_of-self
invariant_of-self c =
    let w = c.self-3.inside in
    let number = ap (λ (x : Place). x.next.number) (c.self-3.view_is ∙ c.enter-stored.ensures.others) in
    begun_sound w.accepted w.dpb w.out w.latest w.next c.after-self-inside.result c.in_ok-head.head c.self-3.invariant
    (c.in_ok-head.ensures.number ∙ ap (λ (x : Place). x.next.number) c.self-2.view_is ∙ sym number)
    c.after-self-inside.ensures.number

pub returns-clause-begun : goal.returns-clause-begun
returns-clause-begun c pps =
    let v = c.args.self.now in
    let s = slice_of c.args.options c.args.slice.now c.args.sps.now pps in
    let h = c.in_ok-head.head in
    let q = head v.next s in
    let f = format_of_set (plain_sps c.args.sps.now) in
    let after_picture = c.in_ok-finish.ensures.after_picture in
    let next = ap (λ (w : Place). w.next) c.change_format.ensures ∙ ap (λ (w : Place). w.next) after_picture in
    let kept = ap (λ (w : Place). w.kept) c.change_format.ensures ∙ ap (λ (w : Place). w.kept) after_picture in
    let is : head_of h ≡ q =
    c.in_ok-head.ensures.head pps
    ∙ ap (λ (n : walk.Context). head n s) (ap (λ (w : Place). w.next) c.self-2.view_is ∙ next) in
    let changed =
    ap (λ (w : Place). w.store) c.change_format.ensures
    ∙ ap (λ (w : Place). (change_format f w.store).next) after_picture in
    let ready = changed ∙ prepared v s f (slice_format c.args.options c.args.slice.now c.args.sps.now pps) in
    let entered =
    c.enter-stored.ensures.left c.args.options pps
    (ap order_count_in_range (c.in_ok-head.ensures.head pps) ∙ c.in_ok-head.ensures.within pps) in
    let store =
    ap (λ (w : Place). w.store) (c.self-3.view_is ∙ entered)
    ∙ ap (λ (t : Store). (begin_picture (head_of h) s t).next) ready in
    let more =
    c.after-self-inside.ensures.context
    ∙ ap (context_after (head_of h)) (ap (λ (w : Place). w.next) (c.self-3.view_is ∙ entered) ∙ next) in (
      record {
        same_head = is;
        begins =
            c.begins_sequence.ensures
            ∙ begins_or head_of c.self.inside.latest (head_of h) c.is_none-is_first.result
            (sym c.is_none-is_first.ensures)
            ∙ ap (λ (l : Option walk.Head). starts_sequence_after (head_of h) l)
            (ap (λ (w : Place). w.latest) c.self.view_is)
            ∙ ap (λ (p : walk.Head). starts_sequence_after p v.latest) is;
        stored = λ e. c.enter-stored.ensures.stored c.args.options pps (ap (λ (p : walk.Head). p.skipped) is ∙ e)
            ∙ ap (λ (t : Store). length (needed_entries (with_marks (head_of h) s t.buffer))) ready
            ∙ ap (λ (p : walk.Head). length (needed_entries (with_marks p s (prepare v.latest q v.store).next.buffer)))
            is;
        filled = λ k fits. c.enter-stored.ensures.filled c.args.options pps k fits
            ∙ ap (λ (t : Store). not (head_of h).skipped
            && is_full_up_to ((head_of h).limits.max_dec_pic_buffering_minus1 + 1) k
            (needed_entries (with_marks (head_of h) s t.buffer))) ready
            ∙ ap (λ (p : walk.Head). not p.skipped
            && is_full_up_to (p.limits.max_dec_pic_buffering_minus1 + 1) k
            (needed_entries (with_marks p s (prepare v.latest q v.store).next.buffer))) is;
      },
      begun_is v (the_view c.self-3.inside) s (head_of h) (context_of c.after-self-inside.result) is store
          (ap (λ (w : Place). w.kept) (c.self-3.view_is ∙ entered) ∙ kept) more,
    )
