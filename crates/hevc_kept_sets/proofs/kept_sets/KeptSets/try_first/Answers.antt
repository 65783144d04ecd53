use Rattle.std.proofs.Common.{◌≡◌, ℕ, List, false, ap, subst, ◌∙◌, rules}
use Rattle.std.specs.declared.alloc.AllocError.{AllocError}
use Rattle.hevc_parser.specs.Kept.{kept_by}
use Rattle.hevc_kept_sets.specs.Kept.{options_in}
use Rattle.hevc_kept_sets.specs.Settled.{named_set, is_among}
use Rattle.hevc_kept_sets.specs.Takes.{ReadsPictureSet}
use Rattle.hevc_kept_sets.proofs.Again.{settled_by_sets, settled_rest, first_unread}
use Rattle.hevc_kept_sets.proofs.Waiting.{waited_by, untried}
use Rattle.hevc_kept_sets.proofs.Sets.{behind_read, behind_unread, first_tried, first_is_wanted, sets_stay}
use Rattle.hevc_kept_sets.proofs.ReadUnits.{still_read}
use Rattle.hevc_kept_sets.proofs.kept_sets.KeptSets.try_first.Goals as goal

pub returns-in-Ok-true-clause-tried : goal.returns-in-Ok-true-clause-tried
returns-in-Ok-true-clause-tried c =
    let items = c.args.self.now.waiting.items in
    let others = c.pop_front.new.self.items in
    let bytes = c.unwrap-unit.result in
    let old = kept_by c.args.self.now.parser in
    let new = kept_by c.read_picture_set.new.parser in
    let wanted =
    first_is_wanted (options_in c.args.self.now) items others bytes c.pop_front.result
    c.nalu.result.header c.pop_front.ensures.items c.unwrap-unit.ensures c.nalu.ensures.parsed c.args.self.now.wanted in
    let reads = subst
    (λ (bs : List ℕ). ReadsPictureSet c.nalu.result.header bs c.read_picture_set.result old new)
    c.nalu.ensures.bytes c.read_picture_set.ensures in
    first_tried (options_in c.args.self.now) items others others bytes c.pop_front.result old new
    c.pop_front.ensures.items c.unwrap-unit.ensures
    (behind_read (options_in c.args.self.now) bytes c.nalu.result.header c.nalu.ensures.parsed wanted
    c.nalu.ensures.typed AllocError c.in-Ok-true.field-0 others old new c.in-Ok-true.field-0-test
    (subst (λ r. ReadsPictureSet c.nalu.result.header bytes r old new) c.in-Ok-true.is reads))

pub returns-in-Ok-false-clause-tried : goal.returns-in-Ok-false-clause-tried
returns-in-Ok-false-clause-tried c =
    let items = c.args.self.now.waiting.items in
    let others = c.pop_front.new.self.items in
    let bytes = c.unwrap-unit.result in
    let old = kept_by c.args.self.now.parser in
    let new = kept_by c.read_picture_set.new.parser in
    let wanted =
    first_is_wanted (options_in c.args.self.now) items others bytes c.pop_front.result
    c.nalu.result.header c.pop_front.ensures.items c.unwrap-unit.ensures c.nalu.ensures.parsed c.args.self.now.wanted in
    let reads = subst
    (λ (bs : List ℕ). ReadsPictureSet c.nalu.result.header bs c.read_picture_set.result old new)
    c.nalu.ensures.bytes c.read_picture_set.ensures in
    first_tried (options_in c.args.self.now) items others c.push_back_reserved-in-Ok-false.new.self.items
    bytes c.pop_front.result old new c.pop_front.ensures.items c.unwrap-unit.ensures
    (ap (λ (ws : List (List ℕ)). waited_by ws new) c.push_back_reserved-in-Ok-false.ensures.items
    ∙ behind_unread (options_in c.args.self.now) bytes c.nalu.result.header c.nalu.ensures.parsed wanted
    c.nalu.ensures.typed AllocError c.in-Ok-false.field-0 others old new c.in-Ok-false.field-0-test
    (subst (λ r. ReadsPictureSet c.nalu.result.header bytes r old new) c.in-Ok-false.is reads))

pub returns-then-not-is_among-clause-tried : goal.returns-then-not-is_among-clause-tried
returns-then-not-is_among-clause-tried c =
    let options = options_in c.args.self.now in
    let items = c.args.self.now.waiting.items in
    let others = c.pop_front.new.self.items in
    let bytes = c.unwrap-unit.result in
    let kept = kept_by c.args.self.now.parser in
    let other : is_among c.args.self.now.changed (named_set bytes) ≡ false = search rules in
    let unread =
    first_unread options c.args.self.now.changed kept items others bytes c.pop_front.result
    c.pop_front.ensures.items c.unwrap-unit.ensures c.args.self.now.settled other in
    first_tried options items others c.push_back_reserved.new.self.items bytes c.pop_front.result kept kept
    c.pop_front.ensures.items c.unwrap-unit.ensures
    (ap (λ (ws : List (List ℕ)). waited_by ws kept) c.push_back_reserved.ensures.items
    ∙ untried options others bytes kept unread)

pub invariant_of-self-in-Ok-true-clause-settled : goal.invariant_of-self-in-Ok-true-clause-settled
invariant_of-self-in-Ok-true-clause-settled c =
    let options = options_in c.args.self.now in
    let bytes = c.unwrap-unit.result in
    let old = kept_by c.args.self.now.parser in
    let new = kept_by c.read_picture_set.new.parser in
    let rest = settled_rest options c.args.self.now.changed old c.args.self.now.waiting.items
    c.pop_front.new.self.items bytes c.pop_front.result c.pop_front.ensures.items c.unwrap-unit.ensures
    c.args.self.now.settled in
    let reads = subst
    (λ (bs : List ℕ). ReadsPictureSet c.nalu.result.header bs c.read_picture_set.result old new)
    c.nalu.ensures.bytes c.read_picture_set.ensures in
    settled_by_sets options c.args.self.now.changed old new
    (sets_stay c.nalu.result.header bytes c.read_picture_set.result old new reads) c.pop_front.new.self.items rest

pub invariant_of-self-in-Ok-true-clause-repeated : goal.invariant_of-self-in-Ok-true-clause-repeated
invariant_of-self-in-Ok-true-clause-repeated c =
    let old = kept_by c.args.self.now.parser in
    let new = kept_by c.read_picture_set.new.parser in
    let reads = subst
    (λ (bs : List ℕ). ReadsPictureSet c.nalu.result.header bs c.read_picture_set.result old new)
    c.nalu.ensures.bytes c.read_picture_set.ensures in
    still_read old new c.args.self.now.last_read
    (sets_stay c.nalu.result.header c.unwrap-unit.result c.read_picture_set.result old new reads)
    c.args.self.now.repeated
