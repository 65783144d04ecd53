use Rattle.std.proofs.Common.{◌∙◌, sym}
use Rattle.hevc_check_laws.specs.Breaches.{earlier_in}
use Rattle.hevc_check.proofs.Follow.{first, second, third, fourth, fifth, sixth, none_of}
use Rattle.hevc_check.proofs.Follow.{changed_by, discards_by, reordered_by}
use Rattle.hevc_check.proofs.sequence.Sequence.first_breach.Goals as goal

pub returns-then-differs_from : goal.returns-then-differs_from
returns-then-differs_from c set p before t f =
    let tb = c.args.self.now.table in
    first _ _ _ _ _ _
    (sym (changed_by tb set p before) ∙ sym (c.differs_from.ensures.value p (earlier_in p before) t.head f.earlier)
    ∙ c.if-differs_from.true)

pub returns-then-breaks_latency : goal.returns-then-breaks_latency
returns-then-breaks_latency c set p before t f =
    let tb = c.args.self.now.table in
    second _ _ _ _ _ _
    (sym (changed_by tb set p before) ∙ sym (c.differs_from.ensures.value p (earlier_in p before) t.head f.earlier)
    ∙ c.if-differs_from.false)
    (sym (c.breaks_latency.ensures set p before t.head t.numbers f.earlier) ∙ c.if-breaks_latency.true)

pub returns-then-repeats_count : goal.returns-then-repeats_count
returns-then-repeats_count c set p before t f =
    let tb = c.args.self.now.table in
    third _ _ _ _ _ _
    (sym (changed_by tb set p before) ∙ sym (c.differs_from.ensures.value p (earlier_in p before) t.head f.earlier)
    ∙ c.if-differs_from.false)
    (sym (c.breaks_latency.ensures set p before t.head t.numbers f.earlier) ∙ c.if-breaks_latency.false)
    (sym (c.repeats_count.ensures set p before t.head f.earlier) ∙ c.if-repeats_count.true)

pub returns-then-is_full : goal.returns-then-is_full
returns-then-is_full c set p before t f =
    let tb = c.args.self.now.table in
    fourth _ _ _ _ _ _
    (sym (changed_by tb set p before) ∙ sym (c.differs_from.ensures.value p (earlier_in p before) t.head f.earlier)
    ∙ c.if-differs_from.false)
    (sym (c.breaks_latency.ensures set p before t.head t.numbers f.earlier) ∙ c.if-breaks_latency.false)
    (sym (c.repeats_count.ensures set p before t.head f.earlier) ∙ c.if-repeats_count.false)
    (sym (c.is_full.ensures set p before t f) ∙ c.if-is_full.true)

pub returns-then-discards : goal.returns-then-discards
returns-then-discards c set p before t f =
    let tb = c.args.self.now.table in
    fifth _ _ _ _ _ _
    (sym (changed_by tb set p before) ∙ sym (c.differs_from.ensures.value p (earlier_in p before) t.head f.earlier)
    ∙ c.if-differs_from.false)
    (sym (c.breaks_latency.ensures set p before t.head t.numbers f.earlier) ∙ c.if-breaks_latency.false)
    (sym (c.repeats_count.ensures set p before t.head f.earlier) ∙ c.if-repeats_count.false)
    (sym (c.is_full.ensures set p before t f) ∙ c.if-is_full.false)
    (sym (discards_by tb set p before) ∙ sym (c.discards.ensures p t.head) ∙ c.if-discards.true)

pub returns-then-is_reordered : goal.returns-then-is_reordered
returns-then-is_reordered c set p before t f =
    let tb = c.args.self.now.table in
    sixth _ _ _ _ _ _
    (sym (changed_by tb set p before) ∙ sym (c.differs_from.ensures.value p (earlier_in p before) t.head f.earlier)
    ∙ c.if-differs_from.false)
    (sym (c.breaks_latency.ensures set p before t.head t.numbers f.earlier) ∙ c.if-breaks_latency.false)
    (sym (c.repeats_count.ensures set p before t.head f.earlier) ∙ c.if-repeats_count.false)
    (sym (c.is_full.ensures set p before t f) ∙ c.if-is_full.false)
    (sym (discards_by tb set p before) ∙ sym (c.discards.ensures p t.head) ∙ c.if-discards.false)
    (sym (reordered_by tb set p before) ∙ sym (c.is_reordered.ensures p (earlier_in p before) t.head f.earlier)
    ∙ c.if-is_reordered.true)

pub returns : goal.returns
returns c set p before t f =
    let tb = c.args.self.now.table in
    none_of _ _ _ _ _ _
    (sym (changed_by tb set p before) ∙ sym (c.differs_from.ensures.value p (earlier_in p before) t.head f.earlier)
    ∙ c.if-differs_from.false)
    (sym (c.breaks_latency.ensures set p before t.head t.numbers f.earlier) ∙ c.if-breaks_latency.false)
    (sym (c.repeats_count.ensures set p before t.head f.earlier) ∙ c.if-repeats_count.false)
    (sym (c.is_full.ensures set p before t f) ∙ c.if-is_full.false)
    (sym (discards_by tb set p before) ∙ sym (c.discards.ensures p t.head) ∙ c.if-discards.false)
    (sym (reordered_by tb set p before) ∙ sym (c.is_reordered.ensures p (earlier_in p before) t.head f.earlier)
    ∙ c.if-is_reordered.false)
