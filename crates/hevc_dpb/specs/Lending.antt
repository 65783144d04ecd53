-- What the buffer is once a borrowed picture is given back.
use Rattle.std.specs.Prelude.{◌≡◌, ◌≤◌, ℕ, List, [], ◌∷◌, zero, suc, Option, Some, None, refl, true}
use Rattle.std.specs.Prelude.{false}
use Rattle.std.specs.List.{slice_get, slice_set}
use Rattle.std.specs.Vec.{with_item}
use Rattle.std.specs.Borrow.{Lends, Fml, RattleType, MutBor}
use Rattle.std.proofs.Common.{sym, ap, subst, length-set}
use Rattle.hevc_pictures.specs.declared.picture_data.PictureData.{PictureData}
use Rattle.hevc_dpb.specs.declared.entry.DpbEntry.{DpbEntry}
use Rattle.hevc_dpb.specs.declared.dpb.Dpb.{Dpb}
use Rattle.hevc_dpb.specs.contracts.dpb.Dpb.{the_row}
use Rattle.hevc_pictures.specs.contracts.picture_data.PictureData.{the_row as picture_row}
use Rattle.hevc_dpb.specs.Numbers.{Distinct}
use Rattle.hevc_dpb.specs.Entries.{numbers}

pub same_numbers : {T : Type 0} (es : List (DpbEntry T)) (i : ℕ) (e : DpbEntry T)
    (picture : PictureData) → slice_get es i ≡ Some e
    → numbers (slice_set es i (record e { picture = picture })) ≡ numbers es
same_numbers [] i e picture is = refl
same_numbers (f ∷ es) zero e picture is =
    ap (λ n. n ∷ numbers es) (let same : e ≡ f = cc is in ap (λ x. x.number) same)
same_numbers (f ∷ es) (suc i) e picture is = ap (λ l. f.number ∷ l) (same_numbers es i e picture is)

pub never : {A : Type 0} → true ≡ false → A
never h = absurd (cc h)

abbrev pub with_entry : {T : Type 0} (dpb : Dpb T) (i : ℕ) (picture : PictureData)
    (e : Option (DpbEntry T)) → slice_get dpb.entries.items i ≡ e → Dpb T
with_entry dpb i picture None is = dpb
with_entry dpb i picture (Some e) is = record {
  entries = with_item dpb.entries i (record e { picture = picture });
  max_num_pics = dpb.max_num_pics;
  waiting = dpb.waiting;
  stale = true;
  few =
      subst (λ (n : ℕ). n ≤ 16)
      (sym (length-set dpb.entries.items i (record e { picture = picture }))) dpb.few;
  size = dpb.size;
  distinct = subst Distinct (sym (same_numbers dpb.entries.items i e picture is)) dpb.distinct;
  in_order = never;
}

-- the buffer with another picture at a place, its waiting pictures stale
abbrev pub with_picture : {T : Type 0} → Dpb T → ℕ → PictureData → Dpb T
with_picture dpb i picture = with_entry dpb i picture (slice_get dpb.entries.items i) refl

module _ (T : RattleType) (s : MutBor (Dpb T.Denot)) where
  abbrev pub LendsPicture : ℕ → MutBor PictureData → Fml
  LendsPicture i r = Lends (the_row T) picture_row s r (with_picture s.now i)
