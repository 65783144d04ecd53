-- No latency count falls below 0.
use Rattle.std.proofs.Common.{◌≡◌, ℕ, zero, suc, ◌+◌, Bool, true, false, cond, eqb, List, [], ◌∷◌}
use Rattle.std.proofs.Common.{◌++◌, map, filter, set, get_or, length, ◌<◌, subst, sym, arith}
use Rattle.std.specs.Prelude.{ℤ, pos, negsuc, ◌≤ℤ◌, Option, Some, None, int_lt}
use Rattle.std.proofs.lemmas.Int.{ints}
use Rattle.std.proofs.lemmas.List.Elements.{All-head, All-tail, All-cons, All-append, All-filter}
use Rattle.hevc_pictures.specs.declared.picture_data.PictureData.{PictureData}
use Rattle.hevc_pictures.specs.declared.reference.Reference.{Reference}
use Rattle.hevc_dpb.specs.declared.entry.DpbEntry.{DpbEntry}
use Rattle.hevc_dpb.specs.Entries.{with_mark, raised_count, with_latency, stored_entry}
use Rattle.hevc_dpb.specs.Output.{as_output, stays, left_behind, behind_output}
use Rattle.hevc_dpb.specs.Plain.{HaveLatency}

raised_above : (c : ℤ) → pos 0 ≤ℤ c → pos 0 ≤ℤ raised_count c
raised_above (pos n) h = by_test (int_lt (pos 2147483647) (pos (n + 1)))
  where
    by_test : (b : Bool) → pos 0 ≤ℤ cond b (pos 2147483647) (pos (n + 1))
    by_test true = omega (arith, ints)
    by_test false = omega (arith, ints)
raised_above (negsuc n) h = absurd (omega arith)

module _ {T : Type 0} where
  abbrev HasLatency : DpbEntry T → Type 0
  HasLatency e = pos 0 ≤ℤ e.picture.pic_latency_cnt

  pub latency_map : (f : DpbEntry T → DpbEntry T) → ((e : DpbEntry T) → HasLatency e → HasLatency (f e))
      → (es : List (DpbEntry T)) → HaveLatency es → HaveLatency (map f es)
  latency_map f keeps [] h = h
  latency_map f keeps (e ∷ es) h =
      All-cons HasLatency (f e) (map f es) (keeps e (All-head HasLatency e es h))
      (latency_map f keeps es (All-tail HasLatency e es h))

  pub latency_filter : (p : DpbEntry T → Bool) (es : List (DpbEntry T)) → HaveLatency es → HaveLatency (filter p es)
  latency_filter p es h = All-filter p HasLatency es h

  pub latency_stored : (number : ℕ) (picture : PictureData) (handle : T) (es : List (DpbEntry T))
      → HaveLatency es → HaveLatency (map with_latency es ++ stored_entry number picture handle ∷ [])
  latency_stored number picture handle es h =
      All-append HasLatency (map with_latency es) (stored_entry number picture handle ∷ [])
      (latency_map with_latency (λ e k. raised_above e.picture.pic_latency_cnt k) es h)
      (All-cons HasLatency (stored_entry number picture handle) [] (omega arith) (λ k d lt. absurd (omega arith)))

  pub latency_set : (es : List (DpbEntry T)) (i : ℕ) (mark : Reference)
      → ((d : DpbEntry T) → HaveLatency es → HaveLatency (set es i (with_mark mark (get_or es i d))))
  latency_set [] i mark d h = h
  latency_set (e ∷ es) zero mark d h =
      All-cons HasLatency (with_mark mark e) es (All-head HasLatency e es h) (All-tail HasLatency e es h)
  latency_set (e ∷ es) (suc i) mark d h =
      All-cons HasLatency e (set es i (with_mark mark (get_or es i d))) (All-head HasLatency e es h)
      (latency_set es i mark d (All-tail HasLatency e es h))

  pub latency_marked : (mark : Reference) (es now : List (DpbEntry T)) (i : ℕ) → i < length es
      → ((d : DpbEntry T) → now ≡ set es i (with_mark mark (get_or es i d))) → HaveLatency es → HaveLatency now
  latency_marked mark [] now i lt is h = absurd (omega arith)
  latency_marked mark (f ∷ fs) now i lt is h = subst HaveLatency (sym (is f)) (latency_set (f ∷ fs) i mark f h)

  by_test : (a b : Bool) (e : DpbEntry T) (fs : List (DpbEntry T)) → HasLatency e → HaveLatency fs
      → HaveLatency (cond a (cond b (as_output e ∷ []) []) (e ∷ []) ++ fs)
  by_test true true e fs h k = All-cons HasLatency (as_output e) fs h k
  by_test true false e fs h k = k
  by_test false b e fs h k = All-cons HasLatency e fs h k

  latency_left : (flush : Bool) (n : ℕ) (es : List (DpbEntry T)) → HaveLatency es → HaveLatency (left_behind flush n es)
  latency_left flush n [] h = h
  latency_left flush n (e ∷ es) h =
      by_test (eqb n e.number) (stays flush e) e (left_behind flush n es) (All-head HasLatency e es h)
      (latency_left flush n es (All-tail HasLatency e es h))

  pub latency_behind : (flush : Bool) (first : Option (DpbEntry T)) (es : List (DpbEntry T))
      → HaveLatency es → HaveLatency (behind_output flush first es)
  latency_behind flush None es h = h
  latency_behind flush (Some e) es h = latency_left flush e.number es h
