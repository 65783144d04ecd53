use Rattle.std.proofs.Common.{◌≡◌, ℕ, true, false, List, ◌++◌, ◌∷◌, [], ap, sym, subst, refl, Option, ◌∙◌, rules}
use Rattle.std.specs.declared.alloc.AllocError.{AllocError}
use Rattle.hevc_bits.specs.FoundUnit.{bytes_of}
use Rattle.hevc_parser.specs.Kept.{kept_by}
use Rattle.hevc_kept_sets.specs.Kept.{kept_of, options_in}
use Rattle.hevc_options.specs.Options.{options_of}
use Rattle.std.specs.Result.{is_ok}
use Rattle.std.specs.Prelude.{◌||◌}
use Rattle.hevc_kept_sets.specs.Settled.{has_id, is_id}
use Rattle.hevc_kept_sets.proofs.Again.{settled_by_sets, settled_pushed, covered_pushed, wanted_pushed}
use Rattle.hevc_kept_sets.proofs.CutAgain.{has_header}
use Rattle.hevc_kept_sets.proofs.ReadUnits.{still_read}
use Rattle.hevc_kept_sets.proofs.Waiting.{waited_by}
use Rattle.hevc_kept_sets.proofs.Sets.{behind_read, behind_unread, behind_picture_set, unread_behind, sets_stay}
use Rattle.hevc_kept_sets.proofs.kept_sets.KeptSets.take_picture_set.Goals as goal

pub returns-in_ok-push_back-clause-behind : goal.returns-in_ok-push_back-clause-behind
returns-in_ok-push_back-clause-behind c =
    let options = options_in c.args.self.now in
    let bytes = bytes_of c.args.nalu.now in
    let header =
    has_header bytes c.args.nalu.now.header c.header-header.result.now c.header-header.ensures.parsed
    c.header-header.ensures.value in
    let new = kept_by c.read_picture_set.new.parser in
    let unread : c.in_ok-read_picture_set.field-0 ≡ false = search rules in
    let items : c.push_back.new.self.items ≡ c.args.self.now.waiting.items ++ bytes ∷ [] =
    c.in_ok-push_back.ensures.items
    ∙ ap (λ (u : List ℕ). c.args.self.now.waiting.items ++ u ∷ []) c.in_ok-unit.ensures.same in
    ap (λ (ws : List (List ℕ)). waited_by ws new) items
    ∙ behind_unread options bytes c.args.nalu.now.header header c.requires.wanted c.requires.typed
    AllocError c.in_ok-read_picture_set.field-0 c.args.self.now.waiting.items
    (kept_by c.args.self.now.parser) new unread c.in_ok-read_picture_set.ensures
    ∙ sym (behind_picture_set options bytes c.args.nalu.now.header header c.requires.wanted c.requires.typed
    (kept_of c.args.self.now))

pub returns-else-not-branch-clause-behind : goal.returns-else-not-branch-clause-behind
returns-else-not-branch-clause-behind c =
    let options = options_in c.args.self.now in
    let bytes = bytes_of c.args.nalu.now in
    let header =
    has_header bytes c.args.nalu.now.header c.header-header.result.now c.header-header.ensures.parsed
    c.header-header.ensures.value in
    let is_read : c.in_ok-read_picture_set.field-0 ≡ true = search rules in
    behind_read options bytes c.args.nalu.now.header header c.requires.wanted c.requires.typed AllocError
    c.in_ok-read_picture_set.field-0 c.args.self.now.waiting.items (kept_by c.args.self.now.parser)
    (kept_by c.read_picture_set.new.parser) is_read c.in_ok-read_picture_set.ensures
    ∙ sym (behind_picture_set options bytes c.args.nalu.now.header header c.requires.wanted c.requires.typed
    (kept_of c.args.self.now))

pub invariant_of-self-then-not-branch-clause-settled : goal.invariant_of-self-then-not-branch-clause-settled
invariant_of-self-then-not-branch-clause-settled c =
    let options = options_of c.args.self.now.options in
    let bytes = bytes_of c.args.nalu.now in
    let header =
    has_header bytes c.args.nalu.now.header c.header-header.result.now c.header-header.ensures.parsed
    c.header-header.ensures.value in
    let old = kept_by c.args.self.now.parser in
    let new = kept_by c.read_picture_set.new.parser in
    let unread : c.in_ok-read_picture_set.field-0 ≡ false = search rules in
    settled_pushed options c.args.self.now.changed new c.args.self.now.waiting.items
    c.push_back.new.self.items c.in_ok-unit.unit bytes (is_ok c.push_back.result)
    (settled_by_sets options c.args.self.now.changed old new
    (sets_stay c.args.nalu.now.header bytes c.read_picture_set.result old new c.read_picture_set.ensures)
    c.args.self.now.waiting.items c.args.self.now.settled)
    (unread_behind options bytes c.args.nalu.now.header header c.requires.wanted c.requires.typed AllocError
    c.in_ok-read_picture_set.field-0 old new unread c.in_ok-read_picture_set.ensures)
    c.in_ok-unit.ensures.same c.push_back.ensures.items

pub invariant_of-self-else-not-branch-clause-settled : goal.invariant_of-self-else-not-branch-clause-settled
invariant_of-self-else-not-branch-clause-settled c =
    let old = kept_by c.args.self.now.parser in
    let new = kept_by c.read_picture_set.new.parser in
    settled_by_sets (options_of c.args.self.now.options) c.args.self.now.changed old new
    (sets_stay c.args.nalu.now.header (bytes_of c.args.nalu.now) c.read_picture_set.result old new
    c.read_picture_set.ensures) c.args.self.now.waiting.items c.args.self.now.settled

pub invariant_of-self-then-not-branch-clause-covered : goal.invariant_of-self-then-not-branch-clause-covered
invariant_of-self-then-not-branch-clause-covered c =
    let self = c.args.self.now in
    let unit = c.in_ok-unit.unit in
    covered_pushed self.named c.with_named-self.result unit
    (subst (λ (id : Option ℕ). (k : ℕ)
    → has_id c.with_named-self.result k ≡ (is_id k id || has_id self.named k)) c.named.ensures.value
    c.with_named-self.ensures)
    self.waiting.items c.push_back.new.self.items unit
    (is_ok c.push_back.result) self.covered refl c.push_back.ensures.items

pub invariant_of-self-then-not-branch-clause-repeated : goal.invariant_of-self-then-not-branch-clause-repeated
invariant_of-self-then-not-branch-clause-repeated c =
    let old = kept_by c.args.self.now.parser in
    let new = kept_by c.read_picture_set.new.parser in
    still_read old new c.args.self.now.last_read
    (sets_stay c.args.nalu.now.header (bytes_of c.args.nalu.now) c.read_picture_set.result old new
    c.read_picture_set.ensures) c.args.self.now.repeated

pub invariant_of-self-else-not-branch-clause-repeated : goal.invariant_of-self-else-not-branch-clause-repeated
invariant_of-self-else-not-branch-clause-repeated c =
    let old = kept_by c.args.self.now.parser in
    let new = kept_by c.read_picture_set.new.parser in
    still_read old new c.args.self.now.last_read
    (sets_stay c.args.nalu.now.header (bytes_of c.args.nalu.now) c.read_picture_set.result old new
    c.read_picture_set.ensures) c.args.self.now.repeated

pub invariant_of-self-then-not-branch-clause-wanted : goal.invariant_of-self-then-not-branch-clause-wanted
invariant_of-self-then-not-branch-clause-wanted c =
    let self = c.args.self.now in
    let bytes = bytes_of c.args.nalu.now in
    let header =
    has_header bytes c.args.nalu.now.header c.header-header.result.now c.header-header.ensures.parsed
    c.header-header.ensures.value in
    wanted_pushed (options_of self.options) self.waiting.items c.push_back.new.self.items c.in_ok-unit.unit
    bytes c.args.nalu.now.header (is_ok c.push_back.result) self.wanted header c.requires.wanted
    c.in_ok-unit.ensures.same c.push_back.ensures.items
