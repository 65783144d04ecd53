-- A `&mut [T]` that is lent again, and comes back.
--     lends_slice_again    own_val (the `&κ mut [T]` ((b, o), γ, xs)) ∗ [κ]_q  ⊢ ⇛ ∃ δ. own_val
-- (the `&κ' mut [T]` ((b, o), δ, xs)) ∗ SliceLentAgain δ
--     slice_comes_back     [†κ'] ∗ SliceLentAgain δ ∗ finally δ ys  ⊢ ⇛ own_val (the `&κ mut [T]`
-- ((b, o), γ, ys)) ∗ [κ]_q
use Rattle.std.proofs.Common.{◌≡◌, ℕ, List, [], ◌∷◌, length, sym, ap, subst}
use seplogic.Ra.Ura.{Ura}
use base.Fraction.{full_share}
use base.Logic.{ent, sep, ex}
use base.Fml.{Fml, Lft, GName, Share, fsep, flft, fdead, fobs, fauth, flent, fobor}
use mir.Syntax.{Lifetime}
use types.Logic.{Logic, sem}
use types.Kit.{‵, ◌⊛◌, some, later, ◌$◌, ◌∵◌, !, qed, move, use1, use3, split, pick, fsplit, fsplit3, fjoin}
use types.Kit.{feq_l, frame, await, updating, now as at_once, show, done, drop}
use types.SemTy.{cells, Arr}
use denote.RattleType.{RattleType}
use denote.Index.{row, opens_slice, closes_slice, whole_in, whole_out}
use denote.Lend.{Held, lends_slice, slice_back}
use denote.Memory.{mem}
use denote.Shadow.{pure_i}
use denote.Slice.{MutSlice, Room, slice_val, mut_slice_at, coded_holeys, heres, finally}

-- what the holder of a `&κ mut [T]` keeps while it has lent it again for κ' under δ
abbrev pub SliceLentAgain : (R : RattleType) → Lft → Lft → Share → GName → ℕ → ℕ → GName → List R.Denot → Fml
SliceLentAgain R κ κ' q γ b o δ xs =
    fsep (flent κ' (Held R (length xs) b o δ))
    (fsep (fobor κ q (Held R (length xs) b o γ))
    (fsep (fobs γ ((coded_holeys R).code (heres R xs))) (fauth γ ((coded_holeys R).code (heres R xs)))))

module _ {M : Type 1} {𝓤 : Ura M} (𝓛 : Logic 𝓤) (R : RattleType) (ℓ : Lifetime) (κ κ' : Lft) (q : Share) (γ : GName)
    (b o : ℕ) where
  open 𝓛 use {H, A}

  abbrev lent_for : Lifetime → Lft → GName → (xs ys : List R.Denot) → Fml
  lent_for ℓ κ γ xs ys =
      (MutSlice ℓ κ R).own_val (record { ref_ptr = (b, o); ghost_name = γ; now = ys })
      (slice_val (b, o) (length xs) ∷ [])

  pub lends_slice_again : (ℓ' : Lifetime) (xs : List R.Denot) → Room R (length xs)
      → ent 𝓤 (sep 𝓤 (sem 𝓛 (lent_for ℓ κ γ xs xs)) (A.lft κ q))
      (H.⇛ (ex 𝓤 (λ (δ : GName). sep 𝓤 (sem 𝓛 (lent_for ℓ' κ' δ xs xs)) (sem 𝓛 (SliceLentAgain R κ κ' q γ b o δ xs)))))
  lends_slice_again ℓ' xs fits =
      qed 𝓛 (‵ (lent_for ℓ κ γ xs xs) ∷ ‵ (flft κ q) ∷ []) ∵ updating ! $ fsplit ! $ drop ! $ fsplit ! $
      opens_slice ! tt R xs b o $ use1 𝓛 (‵ (cells (mem R) xs b o)) (whole_in 𝓛 R xs b o) $
      use1 𝓛 (later (some (λ (δ : GName). ‵ (lent_for ℓ' κ' δ xs xs) ⊛ ‵ (flent κ' (Held R (length xs) b o δ)))))
      (lends_slice 𝓛 R ℓ' κ' xs b o fits) $ await ! tt $ pick ! (λ δ. split ! $ at_once ! $
      show ! (λ (δ' : GName). sep 𝓤 (sem 𝓛 (lent_for ℓ' κ' δ' xs xs)) (sem 𝓛 (SliceLentAgain R κ κ' q γ b o δ' xs))) δ $
      -- [the loan; the lender's part; the open borrow; what γ is seen at, twice]
      frame ! $ move ! (2 ∷ 3 ∷ []) $ fjoin ! $ move ! (2 ∷ 0 ∷ []) $ fjoin ! $ move ! (1 ∷ 0 ∷ []) $ fjoin ! $ done !)

  pub slice_comes_back : (δ : GName) (xs ys : List R.Denot) → length ys ≡ length xs → Room R (length xs)
      → ent 𝓤 (sep 𝓤 (A.dead κ') (sep 𝓤 (sem 𝓛 (SliceLentAgain R κ κ' q γ b o δ xs)) (sem 𝓛 (finally R δ ys))))
      (H.⇛ (sep 𝓤 (sem 𝓛 (lent_for ℓ κ γ xs ys)) (A.lft κ q)))
  slice_comes_back δ xs ys same fits =
      qed 𝓛 (‵ (fdead κ') ∷ ‵ (SliceLentAgain R κ κ' q γ b o δ xs) ∷ ‵ (finally R δ ys) ∷ []) ∵ updating ! $
      move ! (1 ∷ []) $ fsplit ! $ move ! (2 ∷ 0 ∷ 3 ∷ []) $
      use3 𝓛 (later (‵ ((Arr (mem R) (length xs)).own_at ys b o))) (slice_back 𝓛 R κ' δ ys (length xs) b o) $ await !
      tt $
      fsplit ! $ feq_l ! (λ l. use1 𝓛 (‵ (row R full_share ys b o)) (whole_out 𝓛 R ys b o) $
      move ! (1 ∷ []) $ fsplit3 ! $ move ! (3 ∷ 0 ∷ 1 ∷ 2 ∷ []) $ closes_slice ! tt R xs ys same b o $ at_once ! $
      fjoin ! $
      pure_i !
      (mut_slice_at R (record { ref_ptr = (b, o); ghost_name = γ; now = ys }) (slice_val (b, o) (length xs) ∷ []))
      (tt, (tt, tt)) (ap (λ (n : ℕ). slice_val (b, o) n ∷ []) (sym same), subst (Room R) (sym same) fits) $ fjoin ! $
      done !)
