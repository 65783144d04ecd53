-- A sequence set that is kept already may be kept again.
use Rattle.std.proofs.Common.{◌≡◌, ℕ, Bool, true, false, refl, ap, ap₂, sym, subst, ◌∙◌, arith}
use Rattle.std.proofs.Common.{Option, Some, None, if◌then◌else◌, ◌==◌, not, List, [], ◌∷◌}
use Rattle.std.proofs.lemmas.Bool.Decides.{nat_tests}
use Rattle.std.specs.Prelude.{option_map, length, IfSome}
use Rattle.std.specs.Ordering.{nat_cmp}
use Rattle.std.specs.Map.{lookup}
use Rattle.std.specs.BTreeMap.{is_at}
use Rattle.hevc_spec.specs.Payload.{payload}
use Rattle.hevc_spec.specs.Table.{Reading, gives, refuses, read}
use Rattle.hevc_records.specs.Sps.{PlainSps}
use Rattle.hevc_tables.specs.SpsTable.{sequence_parameter_set}
use Rattle.hevc_sequence_set.specs.Sps.{plain_sps}
use Rattle.hevc_stream.specs.Kept.{Kept, with_sequence_set}
use Rattle.hevc_parser.specs.declared.parser.Parser.{Parser}
use Rattle.hevc_parser.specs.Kept.{kept_by}
use Rattle.hevc_kept_sets.specs.declared.read_unit.ReadUnit.{ReadUnit}
use Rattle.hevc_kept_sets.specs.ReadUnits.{value_read, set_read, IsKeptAsRead}
use mathlib.Core.Path.{fun_ext}

-- ---- what is read

by_reading : {A : Type 0} (r : Reading A) (x : A) → value_read r ≡ Some x → (rest : List Bool) × (r ≡ gives x rest)
by_reading (gives y rest) x is = (rest, ap (λ z. gives z rest) (cc is))
by_reading (refuses fault rest) x is = absurd (cc is)

pub is_read : (bytes : List ℕ) (set : PlainSps) → set_read bytes ≡ Some set
    → (rest : List Bool) × (read sequence_parameter_set (payload bytes) ≡ gives set rest)
unfolding set_read
is_read bytes set is = by_reading (read sequence_parameter_set (payload bytes)) set is

pub reads_it : (bytes : List ℕ) (set : PlainSps) (rest : List Bool)
    → read sequence_parameter_set (payload bytes) ≡ gives set rest → set_read bytes ≡ Some set
unfolding set_read
reads_it bytes set rest is = ap value_read is

-- ---- it is kept already

at_its_id : (f : ℕ → Option PlainSps) (id k : ℕ) (set : PlainSps) (b : Bool) → (k == id) ≡ b
    → f id ≡ Some set → f k ≡ (if b then Some set else f k)
at_its_id f id k set true same is = let e : k ≡ id = grind (arith, nat_tests) in ap f e ∙ is
at_its_id f id k set false same is = refl

pub kept_again : (kept : Kept) (set : PlainSps) → kept.sequence_sets set.seq_parameter_set_id ≡ Some set
    → kept.has_sequence_set ≡ true → kept ≡ with_sequence_set set kept
kept_again kept set is has =
    ap₂ (λ (f : ℕ → Option PlainSps) (b : Bool). record kept { sequence_sets = f; has_sequence_set = b })
    (fun_ext (λ k. at_its_id kept.sequence_sets set.seq_parameter_set_id k set
    (k == set.seq_parameter_set_id) refl is)) has

its_own : (id k : ℕ) (set : PlainSps) (b : Bool) → (k == id) ≡ b → k ≡ id → (o : Option PlainSps)
    → (if b then Some set else o) ≡ Some set
its_own id k set true same is o = refl
its_own id k set false same is o = absurd (grind (arith, nat_tests))

found_some : {X : Type 0} (view : X → PlainSps) (test : ℕ → Bool) (es : List (ℕ × X)) (set : PlainSps)
    → option_map view (lookup test es) ≡ Some set → not (length es == 0) ≡ true
found_some view test [] set is = absurd (cc is)
found_some view test (e ∷ es) set is = grind (arith, nat_tests)

-- a parser that keeps a sequence set keeps some
pub has_some : (p : Parser) (id : ℕ) (set : PlainSps) → (kept_by p).sequence_sets id ≡ Some set
    → (kept_by p).has_sequence_set ≡ true
has_some p id set is = found_some plain_sps (is_at (nat_cmp id)) p.sequence_sets.entries set is

-- ---- the unit that was read last

-- it stays while the sequence sets do
pub still_read : (old new : Kept) (last : Option ReadUnit) → old.sequence_sets ≡ new.sequence_sets
    → IsKeptAsRead old last → IsKeptAsRead new last
unfolding IsKeptAsRead
still_read old new last same h x is = h x is ∙ ap (λ (f : ℕ → Option PlainSps). f x.id) same

pub none_read : (kept : Kept) → IsKeptAsRead kept None
unfolding IsKeptAsRead
none_read kept x is = absurd (cc is)

-- it is the one that was read now
pub read_now : (old new : Kept) (set : PlainSps) (bytes : List ℕ) (last : Option ReadUnit)
    → set_read bytes ≡ Some set → new ≡ with_sequence_set set old → IfSome last (λ u. u.bytes.items ≡ bytes)
    → IfSome last (λ u. u.id ≡ set.seq_parameter_set_id)
    → IsKeptAsRead new last
unfolding IsKeptAsRead
read_now old new set bytes last reads kept same id x is =
    let at : IfSome (Some x) (λ u. u.bytes.items ≡ bytes) =
    subst (λ (o : Option ReadUnit). IfSome o (λ u. u.bytes.items ≡ bytes)) is same in
    let under : IfSome (Some x) (λ u. u.id ≡ set.seq_parameter_set_id) =
    subst (λ (o : Option ReadUnit). IfSome o (λ u. u.id ≡ set.seq_parameter_set_id)) is id in
    ap set_read at ∙ reads
    ∙ sym (its_own set.seq_parameter_set_id x.id set (x.id == set.seq_parameter_set_id) refl under
    (old.sequence_sets x.id)) ∙ sym (ap (λ (k : Kept). k.sequence_sets x.id) kept)

-- what is kept under the id of the unit that was read last is what it reads as
pub read_last : (kept : Kept) (last : Option ReadUnit) (u : ReadUnit) → last ≡ Some u
    → IsKeptAsRead kept last → set_read u.bytes.items ≡ kept.sequence_sets u.id
unfolding IsKeptAsRead
read_last kept last u is h = h u is
