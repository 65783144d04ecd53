-- What holds of the maps of parameter sets (7.4.2.4.2).
use Rattle.std.specs.Prelude.{◌≡◌, ℕ, true, Option, Some, None, IfSome, IsSome, is_some}
use Rattle.std.specs.Ordering.{nat_cmp}
use Rattle.std.specs.BTreeMap.{BTreeMap, get}
use Rattle.std.specs.Coded.{Unit-prop}
use Rattle.std.proofs.Math.Path.{fun_ext}
use Rattle.std.proofs.Math.Nat.{ℕ_set}
use Rattle.std.proofs.Math.Bool.{Bool-set}
use Rattle.hevc_sequence_set.specs.declared.sps.Sps.{Sps}
use Rattle.hevc_picture_slice.specs.declared.pps.Pps.{Pps}

-- each set is under its own id
abbrev pub HasOwnIds : {X : Type 0} → (X → ℕ) → BTreeMap ℕ X → Type 0
HasOwnIds id_of sets = (id : ℕ) → IfSome (get nat_cmp sets id) (λ set. id_of set ≡ id)

-- with a picture set the sequence set that it names is kept
abbrev pub HasNamedSets : BTreeMap ℕ Sps → BTreeMap ℕ Pps → Type 0
HasNamedSets sequence_sets picture_sets =
    (id : ℕ)
    → IfSome (get nat_cmp picture_sets id) (λ set.
    IsSome (get nat_cmp sequence_sets set.seq_parameter_set_id))

if_some : {X : Type 0} (o : Option X) (P : X → Type 0) → ((x : X) → IsProp (P x))
    → IsProp (IfSome o P)
if_some None P is = Unit-prop
if_some (Some x) P is = is x

pub HasOwnIds-prop : {X : Type 0} (id_of : X → ℕ) (sets : BTreeMap ℕ X)
    → IsProp (HasOwnIds id_of sets)
HasOwnIds-prop id_of sets f g =
    fun_ext (λ id. if_some (get nat_cmp sets id) (λ set. id_of set ≡ id)
    (λ set. ℕ_set (id_of set) id) (f id) (g id))

pub HasNamedSets-prop : (sequence_sets : BTreeMap ℕ Sps) (picture_sets : BTreeMap ℕ Pps)
    → IsProp (HasNamedSets sequence_sets picture_sets)
HasNamedSets-prop ss ps f g =
    fun_ext (λ id. if_some (get nat_cmp ps id)
    (λ set. IsSome (get nat_cmp ss set.seq_parameter_set_id))
    (λ set. Bool-set (is_some (get nat_cmp ss set.seq_parameter_set_id)) true) (f id) (g id))
