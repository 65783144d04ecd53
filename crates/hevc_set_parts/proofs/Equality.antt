-- Tests that are true exactly at equal values: of numbers, of lists, and of structs field by field.
use Rattle.std.proofs.Common.{◌≡◌, refl, sym, ap, Bool, true, false, ◌&&◌, nat_eq}
use Rattle.std.specs.Bool.{Decides}
use Rattle.arrayvec.specs.ArrayVec.{ArrayVec}
use Rattle.std.specs.Ordering.{int_eq}
use Rattle.std.proofs.lemmas.Bool.Decides.{Decides-eqb, Decides-int_eq, Decides-and, Decides-like}
use mathlib.Core.Bool.{beq}
use lib.Pointwise.{pointwise, pointwise_decides}
use denote.Struct.Cover.{Cover-one}
use denote.Struct.Declared.{Declared}

-- a test that is true exactly at equal values
abbrev pub IsEquality : {A : Type 0} → (A → A → Bool) → Type 0
IsEquality {A} E = (x y : A) → Decides (E x y) (x ≡ y)

pub nat : IsEquality nat_eq
nat = Decides-eqb

pub int : IsEquality int_eq
int = Decides-int_eq

pub bool : IsEquality beq
bool true true = (λ _. refl, λ _. refl)
bool true false = (λ e. sym e, λ e. sym e)
bool false true = (λ e. e, λ e. e)
bool false false = (λ _. refl, λ _. refl)

pub list : {A : Type 0} {E : A → A → Bool} → IsEquality E → IsEquality (pointwise E)
list t = pointwise_decides t

pub array_vec : {A : Type 0} {E : A → A → Bool} → IsEquality E
    → IsEquality (λ (v w : ArrayVec A). pointwise E v.items w.items)
array_vec {A} {E} t v w =
    Decides-like (pointwise E v.items w.items) (λ h. λ i. record { items = h i })
    (λ e. ap (λ (x : ArrayVec A). x.items) e) (list t v.items w.items)

-- a field, and the fields after it
pub field : {A B : Type 0} {x y : A} {xs ys : B} {s t : Bool} → Decides s (x ≡ y) → Decides t (xs ≡ ys)
    → Decides (s && t) (◌≡◌ {A = A × B} (x, xs) (y, ys))
field {A} {B} {x} {y} {xs} {ys} {s} {t} one more =
    Decides-like (s && t) (λ h. λ i. (h.0 i, h.1 i))
    (λ e. (ap (λ (p : A × B). p.0) e, ap (λ (p : A × B). p.1) e)) (Decides-and s t one more)

-- the last field
pub last : {A : Type 0} {x y : A} {s : Bool} → Decides s (x ≡ y) → Decides s (◌≡◌ {A = A × Unit {0}} (x, tt) (y, tt))
last {A} {x} {y} {s} one = Decides-like s (λ h. λ i. (h i, tt)) (λ e. ap (λ (p : A × Unit {0}). p.0) e) one

-- a struct is its fields
pub struct : (T : Declared) {x y : T.D} {s : Bool} → Decides s (T.as_values x ≡ T.as_values y) → Decides s (x ≡ y)
struct T {x} {y} {s} d = Decides-like s (Cover-one T.cover T.propositions x y) (λ e. ap T.as_values e) d
