-- What is scanned is what is read, with what is told.
use Rattle.std.specs.Prelude.{IsErrOf}
use Rattle.std.proofs.Common.{◌≡◌, ℕ, zero, suc, ◌+◌, ◌-◌, ◌<◌, ◌≤◌, pos, arith, take, Bool}
use Rattle.std.proofs.Common.{if◌then◌else◌, List, [], ◌∷◌, ◌++◌, length, refl, sym, ◌∙◌, ap}
use Rattle.std.proofs.Common.{append-nil, Result, Ok, Err}
use Rattle.hevc_spec.specs.Table.{Table, done, missing, element, sized, part, Fault, Reading, gives}
use Rattle.hevc_spec.specs.Table.{refuses, read, reading_then, out_of_bits, out_of_range, not_kept}
use Rattle.hevc_spec.specs.declared.Row.{Row}
use Rattle.hevc_spec.specs.Rows.{row}
use Rattle.hevc_spec.specs.Payload.{Place, bits}
use Rattle.hevc_bits.specs.declared.bit_error.BitError.{BitError}
use Rattle.hevc_bits.specs.declared.bit_error.BitError.TheVariants as bit_errors
use Rattle.hevc_bits.specs.Reading.{TakesBit}
use Rattle.hevc_elements.specs.declared.told.Told.{Told}
use Rattle.hevc_elements.specs.declared.parse_error.ParseError.{ParseError}
use Rattle.hevc_elements.specs.declared.parse_error.ParseError.TheVariants.{WrongNaluType}
use Rattle.hevc_elements.specs.declared.parse_error.ParseError.TheVariants.{OutOfBits, OutOfRange}
use Rattle.hevc_elements.specs.declared.parse_error.ParseError.TheVariants.{MissingSps, MissingPps}
use Rattle.hevc_elements.specs.declared.parse_error.ParseError.TheVariants.{NoMemory}
use Rattle.hevc_elements.specs.declared.told.Descriptor.TheVariants.{U}
use Rattle.hevc_elements.specs.Telling.{Telling, told_of, bits_told, and_one, and_told, told, told_then}
use Rattle.hevc_elements.specs.Scan.{Position, left, Scan, gave, refused, telling_by, scan_then, scan, scanned}
use Rattle.hevc_elements.specs.Reads.{IsAnswer, Answers}
use Rattle.hevc_elements.specs.Growing.{AnswersGrowing}
use Rattle.hevc_elements.specs.Naming.{IsAnswerNaming, AnswersNaming, names_sequence_set, names_picture_set}

-- ---- what is told

pub and_told-append : (first more : List Told) (t : Telling)
    → and_told (first ++ more) t ≡ and_told more (and_told first t)
unfolding and_told
and_told-append [] more t = refl
and_told-append (x ∷ first) more t = and_told-append first more (and_one x t)

pub and_told-nothing : (t : Telling) → and_told [] t ≡ t
unfolding and_told
and_told-nothing t = refl

-- without room nothing changes
pub and_told-full : (more : List Told) (t : Telling) → t.room ≡ 0 → and_told more t ≡ t
unfolding and_told
and_told-full [] t full = refl
and_told-full (x ∷ more) t full =
    let same : and_one x t ≡ t = rw full refl in
    ap (and_told more) same ∙ and_told-full more t full

module _ (r : Row) (n i : ℕ) (t all : Telling) (bits : List Bool)
    (so_far : and_told (bits_told r (take (n - i) bits)) t ≡ all) where
  -- a bit more is told
  pub bits_more : (b : Bool) (rest : List Bool) → i < n → bits ≡ b ∷ rest
      → and_told (bits_told r (take (n - (i + 1)) rest))
      (and_told (told_of r (U 1) (pos (if b then 1 else 0)) ∷ []) t) ≡ all
  unfolding and_told
  bits_more b rest lt parts =
      let k : n - i ≡ suc (n - (i + 1)) = omega arith in
      let one : and_told (bits_told r (take (n - i) bits)) t ≡ and_told
      (bits_told r (take (n - (i + 1)) rest)) (and_one (told_of r (U 1) (pos (if b then 1 else 0))) t) =
      rw (k, parts) refl in
      sym one ∙ so_far

  -- no bit is left
  pub bits_over : bits ≡ [] → t ≡ all
  unfolding and_told
  bits_over none = by_count (n - i) refl
    where
      by_count : (k : ℕ) → n - i ≡ k → t ≡ all
      by_count zero e = let one : and_told (bits_told r (take (n - i) bits)) t ≡ t = rw e refl in sym one ∙ so_far
      by_count (suc k) e = let one : and_told (bits_told r (take (n - i) bits)) t ≡ t =
          rw (e, none) refl in sym one ∙ so_far

  -- as many as were wanted are told
  pub bits_done : n ≤ i → t ≡ all
  unfolding and_told
  bits_done le =
      let k : n - i ≡ 0 = omega arith in
      let one : and_told (bits_told r (take (n - i) bits)) t ≡ t = rw k refl in
      sym one ∙ so_far

-- where no bit is read none is left
pub no_bit_left : (e : BitError) (old new : Place) → TakesBit (Err e) old new → bits old ≡ []
no_bit_left bit_errors.OutOfBits old new h = h.0
no_bit_left bit_errors.OutOfRange old new h = absurd h

-- what changes nothing
pub ruleset tellings = (and_told-nothing, and_told-full)

-- ---- scanning

module _ {A B : Type 0} (all : List Told) (t : Telling) where
  then_sized : (f : A → List Bool → B) (r : Reading A)
      → scan_then (telling_by t r) (λ x s rest. gave (f x rest) s rest)
      ≡ telling_by t (reading_then r (λ x rest. gives (f x rest) rest))
  then_sized f (gives x rest) = refl
  then_sized f (refuses fault rest) = refl

  then_part : (k : A → Table B) (r : Reading A)
      → ((x : A) (s : Telling) (rest : List Bool)
      → scan (k x) s rest ≡ telling_by (and_told (told (k x) rest) s) (read (k x) rest))
      → scan_then (telling_by (and_told all t) r) (λ x s rest. scan (k x) s rest)
      ≡ telling_by (and_told (all ++ told_then r (λ x rest. told (k x) rest)) t)
      (reading_then r (λ x rest. read (k x) rest))
  then_part k (gives x rest) later =
      later x (and_told all t) rest
      ∙ ap (λ s. telling_by s (read (k x) rest)) (sym (and_told-append all (told (k x) rest) t))
  then_part k (refuses fault rest) later =
      ap (λ (l : List Told). refused fault (and_told l t) rest) (sym (append-nil all))

-- A scan is what reading gives, with what it tells.
pub scan_is : {A : Type 0} (table : Table A) (t : Telling) (bits : List Bool)
    → scan table t bits ≡ telling_by (and_told (told table bits) t) (read table bits)
scan_is (done x) t bits = ap (λ s. gave x s bits) (sym (and_told-nothing t))
scan_is (missing row id) t bits = ap (λ s. refused (not_kept row id) s bits) (sym (and_told-nothing t))
scan_is (element row form allowed value) t bits = refl
scan_is (sized table f) t bits =
    ap (λ s. scan_then s (λ x u rest. gave (f x (length bits - length rest)) u rest)) (scan_is table t bits)
    ∙ then_sized [] (and_told (told table bits) t) (λ x rest. f x (length bits - length rest)) (read table bits)
scan_is (part table k) t bits =
    ap (λ s. scan_then s (λ x u rest. scan (k x) u rest)) (scan_is table t bits)
    ∙ then_part (told table bits) t k (read table bits) (λ x s rest. scan_is (k x) s rest)

module _ {A : Type 0} (table : Table A) (t new : Telling) (bits rest : List Bool) where
  given_by : (x : A) (s : Telling) (r : Reading A) → telling_by s r ≡ gave x new rest → r ≡ gives x rest
  given_by x s (gives y bits_left) e = cc
  given_by x s (refuses fault bits_left) e = absurd cc

  refused_by : (fault : Fault) (s : Telling) (r : Reading A) → telling_by s r ≡ refused fault new rest
      → r ≡ refuses fault rest
  refused_by fault s (gives y bits_left) e = absurd cc
  refused_by fault s (refuses other bits_left) e = cc

  -- what a scan gives is read
  pub gave_is_read : (x : A) → scan table t bits ≡ gave x new rest → read table bits ≡ gives x rest
  gave_is_read x e =
      given_by x (and_told (told table bits) t) (read table bits) (sym (scan_is table t bits) ∙ e)

  pub refused_is_read : (fault : Fault) → scan table t bits ≡ refused fault new rest
      → read table bits ≡ refuses fault rest
  refused_is_read fault e =
      refused_by fault (and_told (told table bits) t) (read table bits) (sym (scan_is table t bits) ∙ e)

-- the same between two positions
pub given_is_read : {A : Type 0} (table : Table A) (old new : Position) (x : A)
    → scanned table old ≡ gave x new.telling (left new) → read table (left old) ≡ gives x (left new)
given_is_read table old new x e =
    gave_is_read table old.telling new.telling (left old) (left new) x e

-- ---- answers

module _ {X A : Type 0} (view : X → A) (new : Position) (table : Table A) (t : Telling) (bits : List Bool) where
  rest : List Bool
  rest = left new

  given : (x : A) → scan table t bits ≡ gave x new.telling rest → read table bits ≡ gives x rest
  unfolding rest
  given x h = gave_is_read table t new.telling bits rest x h

  refusing : (fault : Fault) → scan table t bits ≡ refused fault new.telling rest → read table bits ≡ refuses fault rest
  unfolding rest
  refusing fault h = refused_is_read table t new.telling bits rest fault h

  -- what a reader answers by a scan, it answers by the reading
  pub answer_is_read : (r : Result X ParseError) → Answers view r new (scan table t bits)
      → IsAnswer view r new (read table bits)
  unfolding rest
  answer_is_read (Ok x) h = given (view x) h
  answer_is_read (Err WrongNaluType) h = absurd h
  answer_is_read (Err OutOfBits) h = refusing out_of_bits h
  answer_is_read (Err (OutOfRange table_number number)) h = refusing (out_of_range (row table_number number)) h
  answer_is_read (Err (MissingSps id)) h = absurd h
  answer_is_read (Err (MissingPps id)) h = absurd h
  answer_is_read (Err NoMemory) h = absurd h

  pub naming_is_read : (r : Result X ParseError) → AnswersNaming view r new (scan table t bits)
      → IsAnswerNaming view r new (read table bits)
  unfolding rest
  naming_is_read (Ok x) h = given (view x) h
  naming_is_read (Err WrongNaluType) h = absurd h
  naming_is_read (Err OutOfBits) h = refusing out_of_bits h
  naming_is_read (Err (OutOfRange table_number number)) h = refusing (out_of_range (row table_number number)) h
  naming_is_read (Err (MissingSps id)) h = refusing (not_kept names_sequence_set id) h
  naming_is_read (Err (MissingPps id)) h = refusing (not_kept names_picture_set id) h
  naming_is_read (Err NoMemory) h = absurd h

-- ---- what was told

module _ {A : Type 0} (table : Table A) (t new : Telling) (bits rest : List Bool) where
  told_given : (x : A) (s : Telling) (r : Reading A) → telling_by s r ≡ gave x new rest → new ≡ s
  told_given x s (gives y bits_left) e = cc
  told_given x s (refuses fault bits_left) e = absurd cc

  told_refused : (fault : Fault) (s : Telling) (r : Reading A) → telling_by s r ≡ refused fault new rest → new ≡ s
  told_refused fault s (gives y bits_left) e = absurd cc
  told_refused fault s (refuses other bits_left) e = cc

  pub gave_tells : (x : A) → scan table t bits ≡ gave x new rest → new ≡ and_told (told table bits) t
  gave_tells x e = told_given x (and_told (told table bits) t) (read table bits) (sym (scan_is table t bits) ∙ e)

  pub refused_tells : (fault : Fault) → scan table t bits ≡ refused fault new rest → new ≡ and_told (told table bits) t
  refused_tells fault e =
      told_refused fault (and_told (told table bits) t) (read table bits) (sym (scan_is table t bits) ∙ e)

-- What a reader told is what reading the table tells, unless memory was wanted.
module _ {X A : Type 0} (view : X → A) (new : Position) (table : Table A) (t : Telling) (bits : List Bool) where
  pub growing_tells : (r : Result X ParseError) → AnswersGrowing view r new (scan table t bits)
      → (IsErrOf r NoMemory → ⊥) → new.telling ≡ and_told (told table bits) t
  growing_tells (Ok x) h some = gave_tells table t new.telling bits (left new) (view x) h
  growing_tells (Err WrongNaluType) h some = absurd h
  growing_tells (Err OutOfBits) h some = refused_tells table t new.telling bits (left new) out_of_bits h
  growing_tells (Err (OutOfRange number r)) h some =
      refused_tells table t new.telling bits (left new) (out_of_range (row number r)) h
  growing_tells (Err (MissingSps id)) h some = absurd h
  growing_tells (Err (MissingPps id)) h some = absurd h
  growing_tells (Err NoMemory) h some = absurd (some refl)

  pub naming_tells : (r : Result X ParseError) → AnswersNaming view r new (scan table t bits)
      → new.telling ≡ and_told (told table bits) t
  naming_tells (Ok x) h = gave_tells table t new.telling bits (left new) (view x) h
  naming_tells (Err WrongNaluType) h = absurd h
  naming_tells (Err OutOfBits) h = refused_tells table t new.telling bits (left new) out_of_bits h
  naming_tells (Err (OutOfRange number r)) h =
      refused_tells table t new.telling bits (left new) (out_of_range (row number r)) h
  naming_tells (Err (MissingSps id)) h =
      refused_tells table t new.telling bits (left new) (not_kept names_sequence_set id) h
  naming_tells (Err (MissingPps id)) h =
      refused_tells table t new.telling bits (left new) (not_kept names_picture_set id) h
  naming_tells (Err NoMemory) h = absurd h

-- what a call that tells follows from
pub ruleset tells = (growing_tells, naming_tells)
