-- How the stream from a point on is put together.
use Rattle.std.proofs.Common.{◌≡◌, ◌≢◌, ℕ, zero, suc, ◌+◌, ◌<◌, ◌≤◌, Bool, true, false, cond, ◌||◌}
use Rattle.std.proofs.Common.{List, [], ◌∷◌, ◌++◌, length, map, filter, take, drop, refl, sym, ap}
use Rattle.std.proofs.Common.{subst, ◌∙◌, arith, append_assoc, append-nil, length-append, Option}
use Rattle.std.proofs.Common.{Some, None, Result, Ok, Err}
use Rattle.std.specs.Prelude.{All, IfOk, IfSome, OnOk, IsSome, find, is_err, nat_le, ◌==◌}
use Rattle.std.specs.Option.{option_map}
use Rattle.std.proofs.lemmas.Bool.Decides.{nat_tests}
use Rattle.std.proofs.lemmas.List.{map-append}
use Rattle.std.proofs.lemmas.List.Elements.{All-head, All-tail}
use Rattle.hevc_spec.specs.UnitHeader.{UnitHeader}
use Rattle.hevc_spec.specs.Units.{NalUnit, kept_bytes, units, units_from}
use Rattle.hevc_bits.specs.declared.header.UnitError.{UnitError}
use Rattle.hevc_bits.specs.declared.header.UnitError.TheVariants as errors
use Rattle.hevc_bits.specs.ParsedHeader.{answer_of, parsed_header}
use Rattle.hevc_bit_writer.specs.WrittenUnits.{started, stream_of}
use Rattle.hevc_walk.specs.Meanings.{Meaning}
use Rattle.hevc_walk.specs.Pictures.{Picture}
use Rattle.hevc_walk.specs.Refusals.{Refusal}
use Rattle.hevc_walk.specs.Results.{verdict}
use Rattle.hevc_walk_splice.specs.Splicing.{IsPoint}
use Rattle.hevc_stream.specs.Options.{default_options}
use Rattle.hevc_stream.specs.Stream.{meanings}
use Rattle.hevc_index_laws.specs.Points.{plain_point, points, points_of, PlainPoint}
use Rattle.hevc_index_laws.specs.SplicedUnits.{is_set_unit, spliced_bytes, spliced_units}
use Rattle.hevc_index_laws.specs.Begun.{BeginsAt}
use Rattle.hevc_index_laws.proofs.Begun.{begins_at}
use Rattle.hevc_index_laws.proofs.Points.{numbered_is_point}
use Rattle.hevc_index.specs.Finding.{numbered_unit, IsHeaded}
use Rattle.hevc_index.specs.Indexing.{point_at, BeginsAtPoint}

-- ---- bytes of units

stream_append : (xs ys : List (List ℕ)) → stream_of (xs ++ ys) ≡ stream_of xs ++ stream_of ys
stream_append [] ys = refl
stream_append (x ∷ xs) ys =
    ap (λ (l : List ℕ). started x ++ l) (stream_append xs ys)
    ∙ sym (append_assoc (started x) (stream_of xs) (stream_of ys))

-- the bytes of the spliced units
abbrev pub bytes_from : ℕ → List NalUnit → List ℕ
bytes_from v us = stream_of (map (λ (u : NalUnit). u.bytes) (spliced_units v us))

-- unit k is among them: it doesn't come before unit v, or it is a parameter set's
abbrev pub is_kept : (v k : ℕ) → NalUnit → Bool
is_kept v k u = nat_le v k || is_set_unit u

kept_alone : (v : ℕ) (u : NalUnit) → spliced_units (suc v) (u ∷ []) ≡ cond (is_set_unit u) (u ∷ []) []
kept_alone zero u = append-nil (cond (is_set_unit u) (u ∷ []) [])
kept_alone (suc v) u = append-nil (cond (is_set_unit u) (u ∷ []) [])

units_more : (v : ℕ) (front : List NalUnit) (u : NalUnit) (b : Bool) → nat_le v (length front) ≡ b
    → spliced_units v (front ++ u ∷ []) ≡ spliced_units v front ++ cond (b || is_set_unit u) (u ∷ []) []
units_more zero front u true e = refl
units_more zero front u false e =
    let is : nat_le 0 (length front) ≡ true = grind (arith, nat_tests) in absurd (cc (sym is ∙ e))
units_more (suc v) [] u true e =
    let other : nat_le (suc v) 0 ≡ false = grind (arith, nat_tests) in absurd (cc (sym other ∙ e))
units_more (suc v) [] u false e = kept_alone v u
units_more (suc v) (x ∷ front) u b e = by_test (is_set_unit x) (λ same. units_more v front u b (same ∙ e))
  where
    later : nat_le v (length front) ≡ nat_le (suc v) (suc (length front))
    later = grind (arith, nat_tests)

    more : List NalUnit
    more = cond (b || is_set_unit u) (u ∷ []) []

    by_test : (c : Bool)
        → (nat_le v (length front) ≡ nat_le (suc v) (suc (length front))
        → spliced_units v (front ++ u ∷ []) ≡ spliced_units v front ++ more)
        → cond c (x ∷ filter is_set_unit (take v (front ++ u ∷ []))) (filter is_set_unit (take v (front ++ u ∷ [])))
        ++ drop v (front ++ u ∷ [])
        ≡ (cond c (x ∷ filter is_set_unit (take v front)) (filter is_set_unit (take v front)) ++ drop v front)
        ++ more
    by_test true rest = ap (λ (l : List NalUnit). x ∷ l) (rest later)
    by_test false rest = rest later

bytes_more : (v : ℕ) (front : List NalUnit) (u : NalUnit)
    → bytes_from v (front ++ u ∷ []) ≡ bytes_from v front ++ cond (is_kept v (length front) u) (started u.bytes) []
bytes_more v front u =
    ap (λ (us : List NalUnit). stream_of (map (λ (w : NalUnit). w.bytes) us))
    (units_more v front u (nat_le v (length front)) refl)
    ∙ ap stream_of
    (map-append (λ (w : NalUnit). w.bytes) (spliced_units v front) (cond (is_kept v (length front) u) (u ∷ []) []))
    ∙ stream_append (map (λ (w : NalUnit). w.bytes) (spliced_units v front))
    (map (λ (w : NalUnit). w.bytes) (cond (is_kept v (length front) u) (u ∷ []) []))
    ∙ ap (λ (l : List ℕ). bytes_from v front ++ l) (by_test (is_kept v (length front) u))
  where
    by_test : (b : Bool) → stream_of (map (λ (w : NalUnit). w.bytes) (cond b (u ∷ []) [])) ≡ cond b (started u.bytes) []
    by_test true = append-nil (started u.bytes)
    by_test false = refl

-- ---- unit by unit

-- of the units so far, those from unit v on and the sets before it were added
pub record Copied (stream : List ℕ) (position k v : ℕ) (old out : List ℕ) : Type 0 where
  pub front : List NalUnit
  pub whole : units stream ≡ front ++ units_from kept_bytes position stream
  pub place : length front ≡ k
  pub few : k ≤ position
  pub within : position ≤ length stream
  pub added : out ≡ old ++ bytes_from v front

pub copied_first : (stream : List ℕ) (v : ℕ) (old : List ℕ) → Copied stream 0 0 v old old
copied_first stream v old =
    record {
      front = [];
      whole = refl;
      place = refl;
      few = omega arith;
      within = omega arith;
      added = sym (append-nil old) ∙ ap (λ (l : List ℕ). old ++ l) (none v);
    }
  where
    none : (v : ℕ) → [] ≡ bytes_from v []
    none zero = refl
    none (suc v) = refl

pub copied_more : (stream : List ℕ) (position next k v : ℕ) (old mid new : List ℕ) (u : NalUnit)
    → Copied stream position k v old mid
    → units_from kept_bytes position stream ≡ u ∷ units_from kept_bytes next stream → position < next
    → next ≤ length stream
    → new ≡ mid ++ cond (is_kept v k u) (started u.bytes) [] → Copied stream next (k + 1) v old new
copied_more stream position next k v old mid new u x first ahead within more =
    let few = x.few in
    record {
      front = x.front ++ u ∷ [];
      whole =
          x.whole ∙ ap (λ (us : List NalUnit). x.front ++ us) first
          ∙ sym (append_assoc x.front (u ∷ []) (units_from kept_bytes next stream));
      place = length-append x.front (u ∷ []) ∙ ap (λ (n : ℕ). n + 1) x.place;
      few = omega (arith, few, ahead);
      within = within;
      added =
          more
          ∙ ap (λ (l : List ℕ). l ++ cond (is_kept v k u) (started u.bytes) []) x.added
          ∙ append_assoc old (bytes_from v x.front) (cond (is_kept v k u) (started u.bytes) [])
          ∙ ap (λ (n : ℕ). old ++ (bytes_from v x.front ++ cond (is_kept v n u) (started u.bytes) [])) (sym x.place)
          ∙ ap (λ (l : List ℕ). old ++ l) (sym (bytes_more v x.front u));
    }

-- the bytes only grow
pub more_grown : (old mid new added more : List ℕ) → mid ≡ old ++ added → new ≡ mid ++ more
    → (all : List ℕ) × (new ≡ old ++ all)
more_grown old mid new added more e f =
    (added ++ more, f ∙ ap (λ (x : List ℕ). x ++ more) e ∙ append_assoc old added more)

-- ---- the end

later_headed : (front us : List NalUnit) → All IsHeaded (front ++ us) → All IsHeaded us
later_headed [] us all = all
later_headed (u ∷ front) us all = later_headed front us (All-tail IsHeaded u (front ++ us) all)

not_headed : (u : NalUnit) (e : UnitError) → IsHeaded u → parsed_header u.bytes ≡ Err e → ⊥
not_headed u e headed parsed =
    let all : Path (Result UnitHeader UnitError) (Ok headed.0) (Err e) = sym (ap answer_of headed.1) ∙ parsed in cc all

-- where a search for the next unit ends, none is left
none_left : (us : List NalUnit) (e : UnitError) → All IsHeaded us → (e ≡ errors.NoNal → us ≡ [])
    → (e ≢ errors.NoNal → (u : NalUnit) × (others : List NalUnit) × (us ≡ u ∷ others) × (parsed_header u.bytes ≡ Err e))
    → us ≡ []
none_left us e all none refused = by_error e refl
  where
    absurdly : e ≢ errors.NoNal → us ≡ []
    absurdly isnt =
        let why = refused isnt in
        absurd (not_headed why.0 e (All-head IsHeaded why.0 why.1 (subst (All IsHeaded) why.2 all)) why.3)

    by_error : (f : UnitError) → e ≡ f → us ≡ []
    by_error errors.NoNal is = none is
    by_error errors.TruncatedNalu is = absurdly (λ other. absurd (cc (sym is ∙ other)))
    by_error (errors.InvalidNaluType n) is = absurdly (λ other. absurd (cc (sym is ∙ other)))
    by_error errors.TemporalIdZero is = absurdly (λ other. absurd (cc (sym is ∙ other)))

pub copied_all : (stream : List ℕ) (position k v : ℕ) (old out : List ℕ) (e : UnitError)
    → Copied stream position k v old out → All IsHeaded (units stream)
    → (e ≡ errors.NoNal → units_from kept_bytes position stream ≡ [])
    → (e ≢ errors.NoNal
    → (u : NalUnit) × (others : List NalUnit) × (units_from kept_bytes position stream ≡ u ∷ others)
    × (parsed_header u.bytes ≡ Err e))
    → out ≡ old ++ spliced_bytes v stream
copied_all stream position k v old out e x all none refused =
    let left =
    none_left (units_from kept_bytes position stream) e
    (later_headed x.front (units_from kept_bytes position stream) (subst (All IsHeaded) x.whole all)) none
    refused in
    x.added
    ∙ ap (λ (us : List NalUnit). old ++ bytes_from v us)
    (sym (x.whole ∙ ap (λ (us : List NalUnit). x.front ++ us) left ∙ append-nil x.front))

-- ---- the point of a number

find_told : (number : ℕ) (stream : List ℕ) (ps : List Picture)
    → option_map (λ (q : PlainPoint). q.unit)
    (find (λ (q : PlainPoint). q.number == number) (map (plain_point stream) ps))
    ≡ option_map (λ (p : Picture). p.unit) (find (λ (p : Picture). p.number == number) ps)
find_told number stream [] = refl
find_told number stream (p ∷ ps) = by_test (p.number == number) (find_told number stream ps)
  where
    by_test : (b : Bool)
        → option_map (λ (q : PlainPoint). q.unit)
        (find (λ (q : PlainPoint). q.number == number) (map (plain_point stream) ps))
        ≡ option_map (λ (p : Picture). p.unit) (find (λ (p : Picture). p.number == number) ps)
        → option_map (λ (q : PlainPoint). q.unit)
        (cond b (Some (plain_point stream p))
        (find (λ (q : PlainPoint). q.number == number) (map (plain_point stream) ps)))
        ≡ option_map (λ (p : Picture). p.unit)
        (cond b (Some p) (find (λ (p : Picture). p.number == number) ps))
    by_test true later = refl
    by_test false later = later

-- the unit that was found is that of the point with the number
pub found_unit : (number : ℕ) (stream : List ℕ) (qs : List PlainPoint) (found : Option ℕ)
    → qs ≡ points_of default_options stream → found ≡ numbered_unit number qs
    → option_map (λ (p : Picture). p.unit) (point_at number stream) ≡ found
found_unit number stream qs found told is =
    sym (is ∙ ap (numbered_unit number) told ∙ find_told number stream (points (meanings default_options stream)))

pub there_is : (o : Option Picture) (v : ℕ) → option_map (λ (p : Picture). p.unit) o ≡ Some v → IsSome o
there_is None v e = absurd (cc e)
there_is (Some p) v e = refl

pub there_isnt : (o : Option Picture) → option_map (λ (p : Picture). p.unit) o ≡ None → o ≡ None
there_isnt None e = refl
there_isnt (Some p) e = absurd (cc e)

pub of_unit : (o : Option Picture) (v : ℕ) (new old : List ℕ) (stream : List ℕ)
    → option_map (λ (p : Picture). p.unit) o ≡ Some v → new ≡ old ++ spliced_bytes v stream
    → IfSome o (λ p. new ≡ old ++ spliced_bytes p.unit stream)
of_unit None v new old stream e is = tt
of_unit (Some p) v new old stream e is =
    let same : p.unit ≡ v = cc e in is ∙ ap (λ (n : ℕ). old ++ spliced_bytes n stream) (sym same)

-- ---- the whole

-- from a point on its bytes are decoded as the stream is
pub begins_as : (number : ℕ) (stream : List ℕ)
    → IfSome (point_at number stream) (λ p. BeginsAtPoint p stream (spliced_bytes p.unit stream))
begins_as number stream = by_point (point_at number stream) (numbered_is_point ms number)
  where
    ms : List Meaning
    ms = meanings default_options stream

    by_verdict : (p : Picture) → IsPoint ms p → (r : Result ℕ Refusal) → verdict ms ≡ r
        → IfOk r (λ m. BeginsAt default_options p m stream (spliced_bytes p.unit stream))
    by_verdict p is (Ok m) e = begins_at default_options stream p m e is
    by_verdict p is (Err refusal) e = tt

    by_point : (o : Option Picture) → IfSome o (λ p. IsPoint ms p × (p.number ≡ number))
        → IfSome o (λ p. BeginsAtPoint p stream (spliced_bytes p.unit stream))
    by_point None is = tt
    by_point (Some p) is = by_verdict p is.0 (verdict ms) refl

pub ok_holds : {T E : Type 0} (r : Result T E) (P : Type 0) → OnOk r P → is_err r ≡ false → P
ok_holds (Ok value) P holds e = holds
ok_holds (Err error) P holds e = absurd (cc e)
