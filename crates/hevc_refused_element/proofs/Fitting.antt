-- A list with room left has all that was told.
use Rattle.std.proofs.Common.{◌≡◌, ◌<◌, ◌-◌, List, [], ◌∷◌, ◌++◌, Bool, true, false, refl, sym, ap, ◌∙◌}
use Rattle.std.proofs.Common.{subst, append-nil, append_assoc, arith}
use Rattle.std.specs.Prelude.{◌==◌, vec_len}
use Rattle.std.specs.Vec.{vec_capacity}
use Rattle.std.specs.declared.vec.Vec.{Vec}
use Rattle.std.proofs.lemmas.Bool.{eqb-true}
use Rattle.hevc_elements.specs.declared.told.Told.{Told}
use Rattle.hevc_elements.specs.Kept.{telling_in}
use Rattle.hevc_elements.specs.Telling.{Telling, and_one, and_told}
use Rattle.hevc_elements.proofs.ScanLaws.{and_told-full}

-- where room is left everything was told
pub all_told : (more : List Told) (t : Telling) → 0 < (and_told more t).room → (and_told more t).told ≡ t.told ++ more
unfolding and_told
all_told [] t room = sym (append-nil t.told)
all_told (x ∷ more) t room =
    by_room (t.room == 0) refl (λ free. all_told more (record { told = t.told ++ x ∷ []; room = t.room - 1 }) free)
  where
    by_room : (b : Bool) → (t.room == 0) ≡ b
        → (0 < (and_told more (record { told = t.told ++ x ∷ []; room = t.room - 1 })).room
        → (and_told more (record { told = t.told ++ x ∷ []; room = t.room - 1 })).told ≡ (t.told ++ x ∷ []) ++ more)
        → (and_told (x ∷ more) t).told ≡ t.told ++ x ∷ more
    by_room true full later =
        let zero : t.room ≡ 0 = eqb-true t.room 0 full in
        let none : 0 < t.room = subst (λ (s : Telling). 0 < s.room) (and_told-full (x ∷ more) t zero) room in
        absurd (omega (arith, zero, none))
    by_room false free later =
        let next : Telling = record { told = t.told ++ x ∷ []; room = t.room - 1 } in
        let one : and_one x t ≡ next = rw free refl in
        ap (λ (s : Telling). (and_told more s).told) one
        ∙ later (subst (λ (s : Telling). 0 < (and_told more s).room) one room)
        ∙ append_assoc t.told (x ∷ []) more

-- a list that was empty and has room left has them all
pub fitted : {Z : Type 0} (old new : Vec Told Z) (more : List Told)
    → telling_in new ≡ and_told more (telling_in old) → old.items ≡ [] → vec_len new < vec_capacity new
    → new.items ≡ more
fitted old new more is empty room =
    let free : 0 < (telling_in new).room = omega (arith, room) in
    ap (λ (s : Telling). s.told) is
    ∙ all_told more (telling_in old) (subst (λ (s : Telling). 0 < s.room) is free)
    ∙ ap (λ (xs : List Told). xs ++ more) empty
