-- `fezhalum_seek` lends what lies at the pointer to `seek_in`, and has it back.
use Rattle.fezhalum.proofs.Steps.{ℕ, List, [], ◌∷◌, refl, w32, proved, full_share, id⊢, ftrue, flft}
use Rattle.fezhalum.proofs.Steps.{flent, fex, named, fact, tables, ‵, raw, ◌⊛◌, some, later, prop}
use Rattle.fezhalum.proofs.Steps.{◌$◌, ◌∵◌, !, qed, done, move, keep, drop, use1, use3, split, join}
use Rattle.fezhalum.proofs.Steps.{fsplit, fpack, pick, await, regoal, suffices, group, enter}
use Rattle.fezhalum.proofs.Steps.{of_opd, addr, stop, no_more, and_then, returns, alloc_all}
use Rattle.fezhalum.proofs.Steps.{pass_all, free_all, look_at, get, through, sets, lands_as, Body}
use Rattle.fezhalum.proofs.Steps.{lft_new, lft_end, u32, yes, Is, shows, lends_ref, ref_back}
use Rattle.fezhalum.proofs.Steps.{part_at, mem, uint_Lawful, Ptr, RawPtr, block_ptr, lies_at}
use Rattle.fezhalum.proofs.Steps.{in_a_block, rawptr_vals, rawptr_Tells, MutRef, plain, nothing}
use Rattle.fezhalum.proofs.Steps.{heard, peeks, calls_at, lasts, on_entry, triple_of, framed, Stays}
use Rattle.fezhalum.proofs.Steps.{walk_of, stay_dropped, Goes-dropped, ends_at, WpFn}
use Rattle.hevc_pull.specs.contracts.decoder.PullDecoder.{the_row as R}
use Rattle.hevc_pull.specs.Calls.{SeeksNext}
use Rattle.fezhalum.specs.contracts.fezhalum_seek as f
use Rattle.fezhalum.proofs.fezhalum_seek.Statement.{statement}
use Rattle.fezhalum.proofs.fezhalum_seek.Code as code
use Rattle.fezhalum.specs.contracts.seek_in as g
use Rattle.fezhalum.proofs.seek_in.Met.{met}

abbrev stayed : Stays f.ended.signature.params f.ended.kept
stayed = (stay_dropped _ yes, tt)

pub fezhalum_seek_spec : {M : Type 1} → statement M
fezhalum_seek_spec 𝓤 𝓛 𝓜 𝓡 wired =
    let c = f.clauses 𝓛 𝓜.mem 𝓡.returns in let W = walk_of 𝓛 f.ended stayed c in let 𝓣 = tables 𝓤 𝓛.H 𝓜 𝓡 𝓡.env in
    proved 𝓛 f.ended stayed c 𝓜 𝓡 (Goes-dropped 𝓛 0 (plain (λ _. RawPtr)) yes (λ κs x w. refl), tt)
    f.Key.name code.function (code.unfolded 𝓤 𝓛.H 𝓜 𝓡 wired)
    (λ κs. (rawptr_vals, tt)) (λ κs. (rawptr_Tells, tt)) (λ κs qs bounds a x are.
    let y : Ptr → W.Ghost = λ p. ((κs, qs, bounds, (p, tt), (rawptr_vals p, tt)), x) in
    qed 𝓛 (raw (on_entry 𝓛 f.signature κs qs a (y a.0).0.4) ∷ ‵ (lies_at R full_share a.0 x) ∷ []) ∵ drop ! $
    in_a_block ! a.0 (λ p. lies_at R full_share p x) (id⊢ 𝓤 _) (λ b o e.
    regoal ! (λ p. prop (WpFn 𝓤 𝓛.H 𝓣.C 𝓣.Λ code.function (rawptr_vals p) (W.post (y p)))) e refl $
    enter ! _ _ _ _ _ $ alloc_all ! (λ l. pass_all ! refl ((tt, tt), tt) $
    sets ! (of_opd ! (get ! refl)) refl (tt, tt) $
    sets ! (addr ! (through ! refl (stop !))) refl (tt, tt) $
    lft_new ! tt (λ α. let κ : List ℕ = α ∷ [] in move ! (1 ∷ []) $
    use1 𝓛 (later
    (some (λ (γ : ℕ). ‵
    ((MutRef (named 0) κ R).own_val (record { ref_ptr = (b, o); ghost_name = γ; now = x })
    (rawptr_vals (block_ptr b o))) ⊛ ‵ (flent κ (Body (mem R) b o γ)))))
    (lends_ref 𝓛 R (named 0) κ x b o) $ await ! tt $ pick ! (λ γ. split ! $
    -- [the loan; the lender's part; the token]
    let G = triple_of 𝓛 g.signature (g.spec 𝓛 𝓜.mem 𝓡.returns) in
    let z : G.Ghost = (
      (
        (κ, tt),
        (full_share, tt),
        tt,
        (record { ref_ptr = (b, o); ghost_name = γ; now = x }, tt),
        (rawptr_vals (block_ptr b o), tt),
      ),
      tt,
    ) in
    nothing ! $ move ! (1 ∷ 0 ∷ []) $ join ! $ nothing ! $ move !
    (3 ∷ 0 ∷ []) $ join ! $ join ! $ nothing ! $ move ! (1 ∷ 0 ∷ []) $ join ! $ use1 𝓛 (raw (G.pre z)) (id⊢ 𝓤 _) $
    calls_at ! (framed 𝓤 𝓛.H 𝓜 𝓣) G (met 𝓤 𝓛 𝓜 𝓡 (code.calls-fezhalum::seek_in 𝓡.env wired)) z
    (and_then ! (get ! refl) (no_more !)) (λ v.
    use1 𝓛 (later (some (λ (r : ℕ). ((‵ (flft κ full_share) ⊛ ‵ ftrue) ⊛ ‵ (u32.own_val r (v ∷ []))) ⊛
    some (λ (ws : R.Denot × Unit {0}). ‵ (lasts g.ended z.0.0 z.0.3 ws) ⊛ raw
    (fact 𝓤 (SeeksNext x ws.0 r)))))) (id⊢ 𝓤 _) $
    await ! tt $ pick ! (λ r. split ! $ split ! $ split ! $ lft_end ! tt $
    move ! (3 ∷ []) $ pick ! (λ ws. split ! $ move ! (1 ∷ []) $ heard ! _ (λ told. fsplit ! $ fsplit ! $
    -- [the last value; its borrow; nothing; the lifetime is over; nothing; the result; the lender's part]
    move ! (3 ∷ 6 ∷ 0 ∷ []) $ use3 𝓛 (later (‵ (part_at R full_share ws.0 b o)))
    (ref_back 𝓛 R κ γ ws.0 b o) $ await ! tt $
    move ! (4 ∷ []) $ peeks ! u32 (Is u32) (shows 𝓛 u32) r (v ∷ [])
    (λ is. lands_as ! refl refl ((uint_Lawful 𝓛 w32).typed r _ is).0 $
    returns ! (look_at ! 0 refl) $ free_all ! refl $ keep ! (1 ∷ 0 ∷ []) $
    fpack ! (SeeksNext x ws.0 r) (λ _. part_at R full_share ws.0 b o) told $
    fpack ! R.Denot (λ u. fex (SeeksNext x u r) (λ _. part_at R full_share u b o)) ws.0 $ move ! (1 ∷ 0 ∷ []) $
    suffices ! _ (ends_at 𝓛 f.ended stayed c (y (block_ptr b o)) v r (tt, tt) (tt, tt)) $
    nothing ! $ nothing ! $ join ! $ nothing ! $ group ! 3 $ done !))))))))))
