-- A loop over repeated rows: what an exit and an end give.
use Rattle.std.proofs.Common.{◌≡◌, ℕ, suc, ◌+◌, ◌-◌, ◌<◌, ◌≤◌, Bool, List, refl, sym, ◌∙◌, arith}
use Rattle.hevc_spec.specs.Table.{Table, part, Fault, out_of_bits, out_of_range}
use Rattle.hevc_spec.specs.Rows.{repeat, row}
use Rattle.hevc_elements.specs.declared.parse_error.ParseError.{ParseError}
use Rattle.hevc_elements.specs.declared.parse_error.ParseError.TheVariants.{WrongNaluType}
use Rattle.hevc_elements.specs.declared.parse_error.ParseError.TheVariants.{OutOfBits, OutOfRange}
use Rattle.hevc_elements.specs.declared.parse_error.ParseError.TheVariants.{MissingSps, MissingPps}
use Rattle.hevc_elements.specs.declared.parse_error.ParseError.TheVariants.{NoMemory}
use Rattle.hevc_elements.specs.Telling.{Telling}
use Rattle.hevc_elements.specs.Scan.{Position, left, Scan, gave, refused, scan}
use Rattle.hevc_elements.specs.Reads.{Refuses}
use Rattle.hevc_elements.specs.Growing.{RefusesGrowing}

module _ {S : Type 0} (body : ℕ → S → Table S) (i n : ℕ) (s : S) (t : Telling) (bits : List Bool)
    (total : Scan S) (so_far : scan (repeat body i (n - i) s) t bits ≡ total) where
  pub repeat_more : (next : S) (u : Telling) (rest : List Bool) → i < n
      → scan (body i s) t bits ≡ gave next u rest → scan (repeat body (i + 1) (n - (i + 1)) next) u rest ≡ total
  unfolding repeat
  repeat_more next u rest lt h =
      let k : n - i ≡ suc (n - (i + 1)) = omega arith in
      let one : scan (repeat body i (n - i) s) t bits ≡ scan
      (repeat body (i + 1) (n - (i + 1)) next) u rest = rw (k, h) refl in
      sym one ∙ so_far

  pub repeat_refused : (f : Fault) (u : Telling) (rest : List Bool) → i < n
      → scan (body i s) t bits ≡ refused f u rest → total ≡ refused f u rest
  unfolding repeat
  repeat_refused f u rest lt h =
      let k : n - i ≡ suc (n - (i + 1)) = omega arith in
      let one : scan (repeat body i (n - i) s) t bits ≡ refused f u rest = rw (k, h) refl in
      sym so_far ∙ one

  pub repeat_done : n ≤ i → total ≡ gave s t bits
  unfolding repeat
  repeat_done le =
      let k : n - i ≡ 0 = omega arith in
      let one : scan (repeat body i (n - i) s) t bits ≡ gave s t bits = rw k refl in
      sym so_far ∙ one

-- what a part refuses the whole refuses
pub part_refused : {A B : Type 0} (e : ParseError) (new : Position) (t : Table A) (k : A
    → Table B) (u : Telling) (bits : List Bool) → Refuses e new (scan t u bits) → Refuses e new (scan (part t k) u bits)
part_refused WrongNaluType new t k u bits h = absurd h
part_refused OutOfBits new t k u bits h = rw h refl
part_refused (OutOfRange table number) new t k u bits h = rw h refl
part_refused (MissingSps id) new t k u bits h = absurd h
part_refused (MissingPps id) new t k u bits h = absurd h
part_refused NoMemory new t k u bits h = absurd h

pub loop_refused : {S : Type 0} (e : ParseError) (new : Position) (body : ℕ → S → Table S) (i n : ℕ) (s : S)
    (t : Telling) (bits : List Bool) (total : Scan S) → scan (repeat body i (n - i) s) t bits ≡ total → i < n
    → Refuses e new (scan (body i s) t bits) → Refuses e new total
loop_refused WrongNaluType new body i n s t bits total so_far lt h = absurd h
loop_refused OutOfBits new body i n s t bits total so_far lt h =
    repeat_refused body i n s t bits total so_far out_of_bits new.telling (left new) lt h
loop_refused (OutOfRange table number) new body i n s t bits total so_far lt h =
    repeat_refused body i n s t bits total so_far (out_of_range (row table number)) new.telling (left new) lt h
loop_refused (MissingSps id) new body i n s t bits total so_far lt h = absurd h
loop_refused (MissingPps id) new body i n s t bits total so_far lt h = absurd h
loop_refused NoMemory new body i n s t bits total so_far lt h = absurd h

-- the same where memory may be wanted
pub part_refused_growing : {A B : Type 0} (e : ParseError) (new : Position) (t : Table A) (k : A
    → Table B) (u : Telling) (bits : List Bool) → RefusesGrowing e new (scan t u bits)
    → RefusesGrowing e new (scan (part t k) u bits)
part_refused_growing WrongNaluType new t k u bits h = absurd h
part_refused_growing OutOfBits new t k u bits h = rw h refl
part_refused_growing (OutOfRange table number) new t k u bits h = rw h refl
part_refused_growing (MissingSps id) new t k u bits h = absurd h
part_refused_growing (MissingPps id) new t k u bits h = absurd h
part_refused_growing NoMemory new t k u bits h = tt

pub loop_refused_growing : {S : Type 0} (e : ParseError) (new : Position) (body : ℕ → S
    → Table S) (i n : ℕ) (s : S) (t : Telling) (bits : List Bool) (total : Scan S)
    → scan (repeat body i (n - i) s) t bits ≡ total → i < n
    → RefusesGrowing e new (scan (body i s) t bits) → RefusesGrowing e new total
loop_refused_growing WrongNaluType new body i n s t bits total so_far lt h = absurd h
loop_refused_growing OutOfBits new body i n s t bits total so_far lt h =
    repeat_refused body i n s t bits total so_far out_of_bits new.telling (left new) lt h
loop_refused_growing (OutOfRange table number) new body i n s t bits total so_far lt h =
    repeat_refused body i n s t bits total so_far (out_of_range (row table number)) new.telling (left new) lt h
loop_refused_growing (MissingSps id) new body i n s t bits total so_far lt h = absurd h
loop_refused_growing (MissingPps id) new body i n s t bits total so_far lt h = absurd h
loop_refused_growing NoMemory new body i n s t bits total so_far lt h = tt

-- what a loop over repeated rows wants
pub ruleset growing_loops = (loop_refused_growing, part_refused_growing, repeat_more, repeat_done)

pub ruleset loops = (loop_refused, part_refused, repeat_more, repeat_done)
