-- Reading repeated rows one after the other, as a loop does.
use Rattle.std.proofs.Common.{◌≡◌, ℕ, suc, ◌+◌, ◌-◌, ◌<◌, ◌≤◌, Bool, List, refl, sym, ◌∙◌, arith}
use Rattle.hevc_spec.specs.Table.{Table, Reading, gives, refuses, Fault, read}
use Rattle.hevc_spec.specs.Rows.{repeat}

module _ {S : Type 0} (body : ℕ → S → Table S) (i n : ℕ) (s : S) (bits : List Bool) (total : Reading S)
    (so_far : read (repeat body i (n - i) s) bits ≡ total) where
  pub repeat_more : (next : S) (rest : List Bool) → i < n → read (body i s) bits ≡ gives next rest
      → read (repeat body (i + 1) (n - (i + 1)) next) rest ≡ total
  unfolding repeat
  repeat_more next rest lt h =
      let k : n - i ≡ suc (n - (i + 1)) = omega arith in
      let one : read (repeat body i (n - i) s) bits ≡ read (repeat body (i + 1) (n - (i + 1)) next) rest =
      rw (k, h) refl in
      sym one ∙ so_far

  pub repeat_refused : (f : Fault) (rest : List Bool) → i < n → read (body i s) bits ≡ refuses f rest
      → total ≡ refuses f rest
  unfolding repeat
  repeat_refused f rest lt h =
      let k : n - i ≡ suc (n - (i + 1)) = omega arith in
      let one : read (repeat body i (n - i) s) bits ≡ refuses f rest = rw (k, h) refl in
      sym so_far ∙ one

  pub repeat_done : n ≤ i → total ≡ gives s bits
  unfolding repeat
  repeat_done le =
      let k : n - i ≡ 0 = omega arith in
      let one : read (repeat body i (n - i) s) bits ≡ gives s bits = rw k refl in
      sym so_far ∙ one
