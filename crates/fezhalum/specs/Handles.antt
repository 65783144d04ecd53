-- What lies at a pointer.
use base.Fml.{Fml, fex}
use base.Fraction.{full_share}
use denote.RattleType.{RattleType}
use denote.RawPtr.{Ptr, lies_at, room_at}

-- A value of which this holds lies at the pointer.
abbrev pub Becomes : (R : RattleType) → Ptr → (R.Denot → Type 0) → Fml
Becomes R p holds = fex R.Denot (λ y. fex (holds y) (λ _. lies_at R full_share p y))

-- The room at the pointer is left, and this holds.
abbrev pub Leaves : (R : RattleType) → Ptr → Type 0 → Fml
Leaves R p holds = fex holds (λ _. room_at R p)
