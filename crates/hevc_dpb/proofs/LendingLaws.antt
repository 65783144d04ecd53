-- The buffer with another picture at a place.
use Rattle.std.proofs.Common.{◌≡◌, ◌≤◌, ◌<◌, ℕ, length, get_or, set, Some, None, refl, sym, ap, ◌∙◌, subst, length-set}
use Rattle.std.specs.Prelude.{Option, true, false}
use Rattle.std.proofs.Math.Path.{fun_ext}
use Rattle.std.specs.List.{slice_get}
use Rattle.std.specs.Vec.{with_item}
use Rattle.std.specs.Global.{Vec}
use Rattle.std.specs.Coded.{le_prop}
use Rattle.hevc_pictures.specs.declared.picture_data.PictureData.{PictureData}
use Rattle.hevc_dpb.specs.declared.entry.DpbEntry.{DpbEntry}
use Rattle.hevc_dpb.specs.declared.dpb.Dpb.{Dpb}
use Rattle.hevc_dpb.specs.Numbers.{Distinct, Distinct-prop}
use Rattle.hevc_dpb.specs.Entries.{numbers}
use Rattle.hevc_dpb.specs.Output.{output_positions}
use Rattle.hevc_dpb.specs.Lending.{never, with_entry, with_picture, same_numbers}
use Rattle.hevc_dpb.proofs.OrderLaws.{get_some}

module _ {T : Type 0} where
  at_place : (dpb : Dpb T) (i : ℕ) (e : DpbEntry T) → i < length dpb.entries.items
      → e ≡ get_or dpb.entries.items i e → slice_get dpb.entries.items i ≡ Some e
  at_place dpb i e lt is = get_some dpb.entries.items i e lt ∙ ap Some (sym is)

  -- with a stale order, and these facts
  abbrev with_facts : (dpb : Dpb T) (es : Vec (DpbEntry T)) → length es.items ≤ 16 → dpb.max_num_pics ≤ 16
      → Distinct (numbers es.items) → (true ≡ false → dpb.waiting.items ≡ output_positions es.items) → Dpb T
  with_facts dpb es few size distinct in_order = record {
    entries = es;
    max_num_pics = dpb.max_num_pics;
    waiting = dpb.waiting;
    stale = true;
    few = few;
    size = size;
    distinct = distinct;
    in_order = in_order;
  }

  -- ghost fields don't count
  by_facts : (dpb : Dpb T) (es : Vec (DpbEntry T)) (few few' : length es.items ≤ 16)
      (size size' : dpb.max_num_pics ≤ 16) (distinct distinct' : Distinct (numbers es.items))
      (order order' : true ≡ false → dpb.waiting.items ≡ output_positions es.items)
      → with_facts dpb es few size distinct order ≡ with_facts dpb es few' size' distinct' order'
  by_facts dpb es few few' size size' distinct distinct' order order' =
      ap (λ f. with_facts dpb es f size distinct order) (le_prop few few')
      ∙ ap (λ f. with_facts dpb es few' f distinct order) (le_prop size size')
      ∙ ap (λ f. with_facts dpb es few' size' f order) (Distinct-prop (numbers es.items) distinct distinct')
      ∙ ap (λ f. with_facts dpb es few' size' distinct' f) (fun_ext (λ h. never h))

  abbrev Lent : (dpb : Dpb T) (i : ℕ) (w : PictureData) → DpbEntry T → Dpb T → Type 0
  Lent dpb i w e b =
      (few : length (set dpb.entries.items i (record e { picture = w })) ≤ 16)
      (size : dpb.max_num_pics ≤ 16)
      (distinct : Distinct (numbers (set dpb.entries.items i (record e { picture = w }))))
      (order : true ≡ false → dpb.waiting.items ≡ output_positions (set dpb.entries.items i (record e { picture = w })))
      → with_facts dpb (with_item dpb.entries i (record e { picture = w })) few size distinct order ≡ b

  by_get : (dpb : Dpb T) (i : ℕ) (w : PictureData) (e : DpbEntry T) (o : Option (DpbEntry T))
      (at : slice_get dpb.entries.items i ≡ o) → o ≡ Some e → Lent dpb i w e (with_entry dpb i w o at)
  by_get dpb i w e None at is = absurd (cc is)
  by_get dpb i w e (Some f) at is =
      let same : f ≡ e = cc is in
      subst (λ (x : DpbEntry T). Lent dpb i w x (with_entry dpb i w (Some f) at)) same
      (λ few size distinct order. by_facts dpb (with_item dpb.entries i (record f { picture = w })) few _
      size _ distinct _ order _)

  pub lent_same : (dpb : Dpb T) (i : ℕ) (w : PictureData) (e : DpbEntry T) → i < length dpb.entries.items
      → e ≡ get_or dpb.entries.items i e → Lent dpb i w e (with_picture dpb i w)
  lent_same dpb i w e lt is = by_get dpb i w e (slice_get dpb.entries.items i) refl (at_place dpb i e lt is)

  pub lent_few : (dpb : Dpb T) (i : ℕ) (w : PictureData) (e : DpbEntry T)
      → length (set dpb.entries.items i (record e { picture = w })) ≤ 16
  lent_few dpb i w e =
      subst (λ (n : ℕ). n ≤ 16) (sym (length-set dpb.entries.items i (record e { picture = w }))) dpb.few

  pub lent_distinct : (dpb : Dpb T) (i : ℕ) (w : PictureData) (e : DpbEntry T)
      → i < length dpb.entries.items → e ≡ get_or dpb.entries.items i e
      → Distinct (numbers (set dpb.entries.items i (record e { picture = w })))
  lent_distinct dpb i w e lt is =
      subst Distinct (sym (same_numbers dpb.entries.items i e w (at_place dpb i e lt is))) dpb.distinct
