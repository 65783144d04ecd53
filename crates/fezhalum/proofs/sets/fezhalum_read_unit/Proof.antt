-- `fezhalum_read_unit` lends what lies at the pointer to `read_in`, and the call again, and has both back.
use Rattle.fezhalum.proofs.Steps.{ℕ, List, [], ◌∷◌, ◌++◌, refl, w32, proved, full_share, id⊢, ftrue}
use Rattle.fezhalum.proofs.Steps.{flft, flent, fex, named, fact, tables, ‵, raw, ◌⊛◌, some, later}
use Rattle.fezhalum.proofs.Steps.{prop, ◌$◌, ◌∵◌, !, qed, done, move, keep, use1, use2, use3, split}
use Rattle.fezhalum.proofs.Steps.{join, fsplit, fpack, pick, await, regoal, suffices, group, enter}
use Rattle.fezhalum.proofs.Steps.{of_opd, addr, stop, no_more, and_then, returns, alloc_all}
use Rattle.fezhalum.proofs.Steps.{pass_all, free_all, look_at, get, through, sets, lands_as, Body}
use Rattle.fezhalum.proofs.Steps.{lft_new, lft_end, u8, u32, yes, Is, shows, lends_ref, ref_back}
use Rattle.fezhalum.proofs.Steps.{lends_again, comes_back, LentAgain, part_at, mem, uint_Lawful}
use Rattle.fezhalum.proofs.Steps.{Ptr, RawPtr, block_ptr, lies_at, in_a_block, rawptr_vals}
use Rattle.fezhalum.proofs.Steps.{rawptr_Tells, MutRef, mut_vals, mut_Tells, ShrSlice}
use Rattle.fezhalum.proofs.Steps.{shr_slice_vals, shr_slice_Tells, plain, nothing, heard, peeks}
use Rattle.fezhalum.proofs.Steps.{calls_at, lasts, triple_of, framed, Stays, walk_of, stay_dropped}
use Rattle.fezhalum.proofs.Steps.{Goes-dropped, ends_at, WpFn, MutBor}
use Rattle.hevc_pull.specs.Reads.{Reads}
use denote.Builtin.{SliceRefOf}
use denote.Triple.Walked.{stay_ref, Goes-ref}
use Rattle.hevc_parser.specs.contracts.parser.Parser.{the_row as R}
use Rattle.hevc_pull.specs.contracts.reads.UnitRead.{the_row as Q}
use Rattle.fezhalum.specs.contracts.sets.fezhalum_read_unit as f
use Rattle.fezhalum.proofs.sets.fezhalum_read_unit.Statement.{statement}
use Rattle.fezhalum.proofs.sets.fezhalum_read_unit.Code as code
use Rattle.fezhalum.specs.contracts.sets.read_in as g
use Rattle.fezhalum.proofs.sets.read_in.Met.{met}

abbrev stayed : Stays f.ended.signature.params f.ended.kept
stayed = (stay_dropped _ yes, (stay_dropped _ yes, (stay_ref (1 ∷ []) tt (plain (λ _. Q)), tt)))

pub fezhalum_read_unit_spec : {M : Type 1} → statement M
fezhalum_read_unit_spec 𝓤 𝓛 𝓜 𝓡 wired =
    let c = f.clauses 𝓛 𝓜.mem 𝓡.returns in let W = walk_of 𝓛 f.ended stayed c in let 𝓣 = tables 𝓤 𝓛.H 𝓜 𝓡 𝓡.env in
    proved 𝓛 f.ended stayed c 𝓜 𝓡 (
      Goes-dropped 𝓛 2 (plain (λ _. RawPtr)) yes (λ κs x w. refl),
      (
        Goes-dropped 𝓛 2 (SliceRefOf (0 ∷ []) tt (plain (λ _. u8)) (λ _. tt)) yes (λ κs x w. refl),
        (Goes-ref 𝓛 2 1 tt (plain (λ _. Q)), tt),
      ),
    )
    f.Key.name code.function (code.unfolded 𝓤 𝓛.H 𝓜 𝓡 wired)
    (λ κs. (rawptr_vals, (shr_slice_vals, (mut_vals, tt))))
    (λ κs. (rawptr_Tells, (shr_slice_Tells (named 0) κs.0 u8, (mut_Tells (named 1) κs.1.0 Q, tt))))
    (λ κs qs bounds a x are.
    let κb = κs.0 in let κc = κs.1.0 in let qb = qs.0 in let qc = qs.1.0 in let bytes = a.1.0 in let call =
    a.1.1.0 in let cb = call.ref_ptr.0 in let co = call.ref_ptr.1 in
    let bs = shr_slice_vals bytes in let cs = mut_vals call in
    let Bytes = ‵ ((ShrSlice (named 0) κb u8).own_val bytes bs) in
    let Ref = λ (κ' : List ℕ) (y : MutBor Q.Denot). (MutRef (named 1) κ' Q).own_val y cs in
    let y : Ptr → W.Ghost = λ p. ((κs, qs, bounds, (p, (bytes, (call, tt))), (rawptr_vals p, (bs, (cs, tt)))), x) in
    qed 𝓛 (((‵ (flft κb qb) ⊛ ‵ (flft κc qc) ⊛ ‵ ftrue) ⊛ ‵
    ((RawPtr).own_val a.0 (rawptr_vals a.0)) ⊛ Bytes ⊛ ‵ (Ref κc call) ⊛ ‵ ftrue) ∷ ‵
    (lies_at R full_share a.0 x) ∷ []) ∵
    split ! $ split ! $ move ! (1 ∷ []) $ split ! $ move ! (3 ∷ []) $ split ! $ move !
    (1 ∷ []) $ split ! $ move ! (1 ∷ []) $ split ! $ keep ! (7 ∷ 0 ∷ 2 ∷ 4 ∷ 6 ∷ []) $
    -- [what lies there; the call; the bytes; the tokens of the call and the bytes]
    in_a_block ! a.0 (λ p. lies_at R full_share p x) (id⊢ 𝓤 _) (λ b o e.
    regoal ! (λ p. prop
    (WpFn 𝓤 𝓛.H 𝓣.C 𝓣.Λ code.function (rawptr_vals p ++ (bs ++ (cs ++ []))) (W.post (y p)))) e refl $
    enter ! _ _ _ _ _ $ alloc_all !
    (λ l. pass_all ! refl ((tt, tt), ((tt, (tt, (record { fits = are.1.0.0.1.0 }, tt))), ((tt, tt), tt))) $
    sets ! (of_opd ! (get ! refl)) refl (tt, tt) $
    sets ! (addr ! (through ! refl (stop !))) refl (tt, tt) $
    sets ! (addr ! (through ! refl (stop !))) refl (tt, tt) $
    lft_new ! tt (λ α. let κ : List ℕ = α ∷ [] in move ! (1 ∷ []) $
    use1 𝓛 (later
    (some (λ (γ : ℕ). ‵
    ((MutRef (named 0) κ R).own_val (record { ref_ptr = (b, o); ghost_name = γ; now = x })
    (rawptr_vals (block_ptr b o))) ⊛ ‵ (flent κ (Body (mem R) b o γ)))))
    (lends_ref 𝓛 R (named 0) κ x b o) $ await ! tt $ pick ! (λ γ. split ! $
    -- [the loan; the lender's part; α; the call; the bytes; its token; that of the bytes]
    lft_new ! tt (λ β. let κ' : List ℕ = β ∷ [] in move ! (4 ∷ 6 ∷ []) $
    use2 𝓛 (later
    (some (λ (δ : ℕ). ‵ (Ref κ' (record call { ghost_name = δ })) ⊛ ‵
    (LentAgain Q κc κ' qc call.ghost_name cb co δ call.now))))
    (lends_again 𝓛 Q (named 1) κc κ' qc call.ghost_name cb co (named 1) call.now) $ await ! tt $ pick ! (λ δ. split ! $
    -- [the call's loan; its lender's part; β; the loan; the lender's part; α; the bytes; their token]
    let G = triple_of 𝓛 g.signature (g.spec 𝓛 𝓜.mem 𝓡.returns) in
    let z : G.Ghost = (
      (
        (κ, (κb, (κ', tt))),
        (full_share, (qb, (full_share, tt))),
        tt,
        (record { ref_ptr = (b, o); ghost_name = γ; now = x }, (bytes, (record call { ghost_name = δ }, tt))),
        (rawptr_vals (block_ptr b o), (bs, (cs, tt))),
      ),
      tt,
    ) in
    nothing ! $ move ! (1 ∷ 0 ∷ []) $ join ! $ move ! (6 ∷ 0 ∷ []) $ join ! $ move ! (3 ∷ 0 ∷ []) $ join ! $
    nothing ! $ move ! (3 ∷ 0 ∷ []) $ join ! $ move ! (5 ∷ 0 ∷ []) $ join ! $ move ! (4 ∷ 0 ∷ []) $ join ! $ join ! $
    nothing ! $ move ! (1 ∷ 0 ∷ []) $ join ! $ use1 𝓛 (raw (G.pre z)) (id⊢ 𝓤 _) $
    calls_at ! (framed 𝓤 𝓛.H 𝓜 𝓣) G (met 𝓤 𝓛 𝓜 𝓡 (code.calls-fezhalum::sets::read_in 𝓡.env wired)) z
    (and_then ! (get ! refl) (and_then ! (get ! refl) (and_then ! (get ! refl) (no_more !)))) (λ v.
    use1 𝓛 (later
    (some (λ (r : ℕ). ((‵ (flft κ full_share) ⊛ ‵ (flft κb qb) ⊛ ‵ (flft κ' full_share) ⊛ ‵ ftrue) ⊛ ‵
    (u32.own_val r (v ∷ []))) ⊛
    some (λ (ws : R.Denot × (Unit {0} × (Q.Denot × Unit {0}))). ‵ (lasts g.ended z.0.0 z.0.3 ws) ⊛ raw
    (fact 𝓤 (Reads bytes.now x ws.0 call.now ws.1.1.0 r)))))) (id⊢ 𝓤 _) $
    await ! tt $ pick !
    (λ r. split ! $ split ! $ split ! $ lft_end ! tt $ move ! (1 ∷ []) $ split ! $ move !
    (1 ∷ []) $ split ! $ lft_end ! tt $
    -- [β is over; nothing; the bytes' token; α is over; the result; the rest; the lender's parts]
    move ! (5 ∷ []) $ pick ! (λ ws. split ! $ move ! (1 ∷ []) $ heard ! _ (λ told. fsplit ! $ fsplit ! $
    -- [the last value; its borrow; the others; β is over; nothing; the token; α is over; the
    -- result; the lender's parts]
    move ! (6 ∷ 9 ∷ 0 ∷ []) $ use3 𝓛 (later (‵ (part_at R full_share ws.0 b o)))
    (ref_back 𝓛 R κ γ ws.0 b o) $ await ! tt $
    move ! (2 ∷ []) $ fsplit ! $ move ! (1 ∷ []) $ fsplit ! $ fsplit ! $
    move ! (6 ∷ 10 ∷ 0 ∷ []) $ use3 𝓛 (later (‵ (Ref κc (record call { now = ws.1.1.0 })) ⊛ ‵ (flft κc qc)))
    (comes_back 𝓛 Q (named 1) κc κ' qc call.ghost_name cb co δ call.now ws.1.1.0) $ await ! tt $ split ! $
    move ! (9 ∷ []) $ peeks ! u32 (Is u32) (shows 𝓛 u32) r (v ∷ [])
    (λ is. lands_as ! refl refl ((uint_Lawful 𝓛 w32).typed r _ is).0 $
    returns ! (look_at ! 0 refl) $ free_all ! refl $ keep ! (6 ∷ 0 ∷ 1 ∷ 2 ∷ 9 ∷ []) $
    fpack ! (Reads bytes.now x ws.0 call.now ws.1.1.0 r) (λ _. part_at R full_share ws.0 b o) told $
    fpack ! R.Denot
    (λ u. fex (Reads bytes.now x u call.now ws.1.1.0 r) (λ _. part_at R full_share u b o)) ws.0 $ move ! (1 ∷ 0 ∷ []) $
    suffices ! _ (ends_at 𝓛 f.ended stayed c (y (block_ptr b o)) v r (tt, (tt, (ws.1.1.0, tt))) (tt, (tt, (tt, tt)))) $
    nothing ! $ move ! (3 ∷ 0 ∷ []) $ join ! $ nothing ! $ join ! $ nothing ! $ join ! $
    nothing ! $ move ! (4 ∷ 0 ∷ []) $ join ! $ move ! (4 ∷ 0 ∷ []) $ join ! $ group ! 3 $ done !))))))))))))
