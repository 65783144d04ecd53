-- What came with calls.
use Rattle.std.proofs.Common.{◌≡◌, ⊎_elim, ℕ, ℤ, ◌-ℤ◌, pos, List, [], ◌∷◌, ◌++◌, map, refl, sym, ap, ◌∙◌, subst, arith}
use Rattle.std.specs.Prelude.{Option, Some, None, Contains}
use Rattle.std.specs.List.{flat_map}
use Rattle.std.proofs.lemmas.Grind.{flat_map-append}
use Rattle.std.proofs.lemmas.List.{map-append}
use Rattle.hevc_walk.specs.Meanings.{Slice}
use Rattle.hevc_walk.specs.Pictures.{Context, head}
use Rattle.hevc_pictures.specs.declared.picture_data.PictureData.{PictureData}
use Rattle.hevc_pictures.specs.Marks.{mark_of}
use Rattle.hevc_pictures.specs.NewPicture.{IsNewPicture}
use Rattle.hevc_backend.specs.Trait.{logged}
use Rattle.std.proofs.lemmas.List.Elements.{Contains-push_cases}
use Rattle.hevc_dpb.specs.declared.entry.DpbEntry.{DpbEntry}
use Rattle.hevc_dpb.specs.Entries.{IsPartOf, unmarked, with_latency, stored_entry}
use Rattle.hevc_dpb.specs.Output.{as_output}
use Rattle.hevc_dpb.proofs.Members.{contains_first, contains_later, contains_cases}
use Rattle.hevc_backend.specs.Handed.{Handed, Announced, PlainPicture, IsAnnounced, plain_picture}
use Rattle.hevc_backend.specs.Handed.{first_picture, announced, announced_in, numbered, IsAmong}
use Rattle.hevc_backend.specs.Handed.{stored_pictures, AreAnnounced}

-- a picture was announced
pub announced_now : (before now : Option (List Handed)) (number : ℕ) (p : PlainPicture)
    → now ≡ logged before (Announced number p ∷ []) → IsAnnounced now number p
announced_now before now number p is = subst (λ (o : Option (List Handed)). IsAnnounced o number p) (sym is) (by before)
  where
    by : (before : Option (List Handed)) → IsAnnounced (logged before (Announced number p ∷ [])) number p
    by None = record { latest = tt }
    by (Some hs) = record { latest = (hs, refl) }

-- all that is known of a picture that begins with a slice
pub is_first_picture : (c : Context) (s : Slice) (bits : ℕ) (p : PictureData) → IsNewPicture c s bits p
    → plain_picture p ≡ first_picture c s bits
unfolding first_picture head
is_first_picture c s bits p is =
    let msb : p.pic_order_cnt_msb ≡ p.pic_order_cnt_val -ℤ pos s.pic_order_cnt_lsb =
    is.pic_order_cnt_msb ∙ ap (λ (z : ℤ). p.pic_order_cnt_val -ℤ z) is.told.pic_order_cnt_lsb in
    rw (
      is.told.nal_unit_type,
      is.no_rasl_output_flag,
      is.told.pic_output_flag,
      is.told.valid_for_prev_tid0,
      is.told.pic_order_cnt_lsb,
      msb,
      is.told.order_count,
      is.told.no_output_of_prior_pics,
      is.is_irap_picture,
      is.first_picture_after_eos,
      is.short_term_ref_pic_set_size_bits,
      is.pic_latency_cnt,
      is.needed_for_output,
      ap mark_of is.reference,
    ) refl

-- ---- what is stored

contains_map : {X Y : Type 0} (f : X → Y) (ys : List X) (x : X) → Contains ys x → Contains (map f ys) (f x)
contains_map f [] x h = absurd (let l = h.1 in omega arith)
contains_map f (y ∷ ys) x h =
    ⊎_elim (λ is. subst (Contains (map f (y ∷ ys))) (ap f is) (contains_first (f y) (map f ys)))
    (λ k. contains_later (f y) (f x) (map f ys) (contains_map f ys x k)) (contains_cases y x ys h)

part_map : {X Y : Type 0} (f : X → Y) (xs ys : List X) → IsPartOf xs ys → IsPartOf (map f xs) (map f ys)
part_map f [] ys part = λ z h. absurd (let l = h.1 in omega arith)
part_map f (x ∷ xs) ys part =
    λ z h. ⊎_elim
    (λ is. subst (Contains (map f ys)) is (contains_map f ys x (part x (contains_first x xs))))
    (λ k. part_map f xs ys (λ y m. part y (contains_later x y xs m)) z k) (contains_cases (f x) z (map f xs) h)

map_twice : {X Y : Type 0} (f : X → Y) (g : X → X) (xs : List X) → ((x : X) → f (g x) ≡ f x)
    → map f (map g xs) ≡ map f xs
map_twice f g [] same = refl
map_twice f g (x ∷ xs) same = ap (λ y. y ∷ map f (map g xs)) (same x) ∙ ap (λ l. f x ∷ l) (map_twice f g xs same)

-- what was announced stays so
in_front : {X : Type 0} (xs ys : List X) (z : X) → Contains xs z → Contains (xs ++ ys) z
in_front [] ys z h = absurd (let l = h.1 in omega arith)
in_front (x ∷ xs) ys z h = ⊎_elim (λ is. subst (Contains (x ∷ (xs ++ ys))) is (contains_first x (xs ++ ys)))
    (λ k. contains_later x z (xs ++ ys) (in_front xs ys z k)) (contains_cases x z xs h)

last_one : {X : Type 0} (xs : List X) (z : X) → Contains (xs ++ z ∷ []) z
last_one [] z = contains_first z []
last_one (x ∷ xs) z = contains_later x z (xs ++ z ∷ []) (last_one xs z)

more_announced : (hs : List Handed) (x : Handed) (z : ℕ × PlainPicture) → Contains (announced hs) z
    → Contains (announced (hs ++ x ∷ [])) z
more_announced hs x z h = subst (λ l. Contains l z) (sym (flat_map-append announced_in hs (x ∷ [])))
    (in_front (announced hs) (announced (x ∷ [])) z h)

module _ {T : Type 0} where
  abbrev stored_picture : DpbEntry T → ℕ × PlainPicture
  stored_picture e = numbered e.number e.picture

  -- but for whether they are needed for output they are some of these
  pub stored_part : (new old : List (DpbEntry T)) → IsPartOf (map as_output new) (map as_output old)
      → IsPartOf (stored_pictures new) (stored_pictures old)
  stored_part new old part =
      λ x h. subst (λ l. Contains l x) (map_twice stored_picture as_output old (λ e. refl))
      (part_map stored_picture (map as_output new) (map as_output old) part x
      (subst (λ l. Contains l x) (sym (map_twice stored_picture as_output new (λ e. refl))) h))

  -- but for their marks they are these
  pub stored_marked : (new old : List (DpbEntry T)) → map unmarked new ≡ map unmarked old
      → stored_pictures new ≡ stored_pictures old
  stored_marked new old same = sym (map_twice stored_picture unmarked new (λ e. refl))
      ∙ ap (map stored_picture) same ∙ map_twice stored_picture unmarked old (λ e. refl)

  -- one more
  pub stored_more : (new old : List (DpbEntry T)) (number : ℕ) (p : PictureData) (handle : T)
      → new ≡ map with_latency old ++ stored_entry number p handle ∷ []
      → stored_pictures new ≡ stored_pictures old ++ numbered number p ∷ []
  stored_more new old number p handle is =
      ap (map stored_picture) is ∙ map-append stored_picture (map with_latency old)
      (stored_entry number p handle ∷ [])
      ∙ ap (λ l. l ++ numbered number p ∷ []) (map_twice stored_picture with_latency old (λ e. refl))

  -- ---- what came goes on

  by_same : (before : Option (List Handed)) (new old : List (DpbEntry T))
      → IsPartOf (stored_pictures new) (stored_pictures old) → AreAnnounced before old → AreAnnounced before new
  by_same None new old part h = record { of_handed = tt }
  by_same (Some hs) new old part h = record { of_handed = λ x k. h.of_handed x (part x k) }

  pub announced_same : (before now : Option (List Handed)) (new old : List (DpbEntry T)) → now ≡ before
      → IsPartOf (stored_pictures new) (stored_pictures old) → AreAnnounced before old → AreAnnounced now new
  announced_same before now new old is part h = subst (λ o. AreAnnounced o new) (sym is) (by_same before new old part h)

  -- one picture more that was announced is stored
  by_stored : (before : Option (List Handed)) (new old : List (DpbEntry T)) (number : ℕ) (p : PictureData)
      → stored_pictures new ≡ stored_pictures old ++ numbered number p ∷ [] → IsAmong before number p
      → AreAnnounced before old → AreAnnounced before new
  by_stored None new old number p is among h = record { of_handed = tt }
  by_stored (Some hs) new old number p is among h = record {
    of_handed = λ x k. ⊎_elim (λ old_one. h.of_handed x old_one)
        (λ same. subst (Contains (announced hs)) same among.of_handed)
        (Contains-push_cases (stored_pictures old) (numbered number p) x (subst (λ l. Contains l x) is k));
  }

  pub announced_stored : (before now : Option (List Handed)) (new old : List (DpbEntry T)) (number : ℕ)
      (p : PictureData) → now ≡ before → stored_pictures new ≡ stored_pictures old ++ numbered number p ∷ []
      → IsAmong before number p → AreAnnounced before old → AreAnnounced now new
  announced_stored before now new old number p same is among h =
      subst (λ o. AreAnnounced o new) (sym same) (by_stored before new old number p is among h)

  -- something more came
  by_more : (before : Option (List Handed)) (x : Handed) (es : List (DpbEntry T)) → AreAnnounced before es
      → AreAnnounced (logged before (x ∷ [])) es
  by_more None x es h = record { of_handed = tt }
  by_more (Some hs) x es h = record { of_handed = λ z k. more_announced hs x z (h.of_handed z k) }

  pub announced_more : (before now : Option (List Handed)) (x : Handed) (es : List (DpbEntry T))
      → now ≡ logged before (x ∷ []) → AreAnnounced before es → AreAnnounced now es
  announced_more before now x es is h = subst (λ o. AreAnnounced o es) (sym is) (by_more before x es h)

-- a picture that was announced
pub among_same : (before now : Option (List Handed)) (number : ℕ) (p : PictureData) → now ≡ before
    → IsAmong before number p → IsAmong now number p
among_same before now number p is h = subst (λ o. IsAmong o number p) (sym is) h

among_by : (before : Option (List Handed)) (x : Handed) (number : ℕ) (p : PictureData)
    → IsAmong before number p → IsAmong (logged before (x ∷ [])) number p
among_by None x number p h = record { of_handed = tt }
among_by (Some hs) x number p h = record { of_handed = more_announced hs x (numbered number p) h.of_handed }

pub among_more : (before now : Option (List Handed)) (x : Handed) (number : ℕ) (p : PictureData)
    → now ≡ logged before (x ∷ []) → IsAmong before number p → IsAmong now number p
among_more before now x number p is h = subst (λ o. IsAmong o number p) (sym is) (among_by before x number p h)

among_first : (before : Option (List Handed)) (number : ℕ) (p : PictureData)
    → IsAmong (logged before (Announced number (plain_picture p) ∷ [])) number p
among_first None number p = record { of_handed = tt }
among_first (Some hs) number p = record {
  of_handed = subst
      (λ l. Contains l (numbered number p))
      (sym (flat_map-append announced_in hs (Announced number (plain_picture p) ∷ [])))
      (last_one (announced hs) (numbered number p));
}

pub among_now : (before now : Option (List Handed)) (number : ℕ) (p : PictureData)
    → now ≡ logged before (Announced number (plain_picture p) ∷ []) → IsAmong now number p
among_now before now number p is = subst (λ o. IsAmong o number p) (sym is) (among_first before number p)
