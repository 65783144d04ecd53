-- `fezhalum_picture_controls` lends what lies at the pointer to `picture_controls_in`, and the
-- struct again, and has both back.
use Rattle.fezhalum.proofs.Steps.{ℕ, List, [], ◌∷◌, ◌++◌, refl, w32, proved, full_share, id⊢, ftrue}
use Rattle.fezhalum.proofs.Steps.{flft, flent, fex, named, fact, tables, ‵, raw, ◌⊛◌, some, later}
use Rattle.fezhalum.proofs.Steps.{prop, ◌$◌, ◌∵◌, !, qed, done, move, keep, use1, use2, use3, split}
use Rattle.fezhalum.proofs.Steps.{join, fsplit, fpack, pick, await, regoal, suffices, group, enter}
use Rattle.fezhalum.proofs.Steps.{of_opd, addr, stop, no_more, and_then, returns, alloc_all}
use Rattle.fezhalum.proofs.Steps.{pass_all, free_all, look_at, get, through, sets, lands_as, Body}
use Rattle.fezhalum.proofs.Steps.{lft_new, lft_end, u32, yes, Is, shows, lends_ref, ref_back}
use Rattle.fezhalum.proofs.Steps.{lends_again, comes_back, LentAgain, part_at, mem, uint_Lawful}
use Rattle.fezhalum.proofs.Steps.{Ptr, RawPtr, block_ptr, lies_at, in_a_block, rawptr_vals}
use Rattle.fezhalum.proofs.Steps.{rawptr_Tells, MutRef, mut_vals, mut_Tells, plain, nothing, heard}
use Rattle.fezhalum.proofs.Steps.{peeks, calls_at, lasts, triple_of, framed, Stays, walk_of}
use Rattle.fezhalum.proofs.Steps.{stay_dropped, Goes-dropped, ends_at, WpFn, MutBor}
use denote.Triple.Walked.{stay_ref, Goes-ref}
use Rattle.hevc_pull.specs.Controls.{FillsPicture}
use Rattle.hevc_queue.specs.contracts.controls.PictureControls.{the_row as Q}
use Rattle.hevc_pull.specs.contracts.decoder.PullDecoder.{the_row as R}
use Rattle.fezhalum.specs.contracts.controls.fezhalum_picture_controls as f
use Rattle.fezhalum.proofs.controls.fezhalum_picture_controls.Statement.{statement}
use Rattle.fezhalum.proofs.controls.fezhalum_picture_controls.Code as code
use Rattle.fezhalum.specs.contracts.controls.picture_controls_in as g
use Rattle.fezhalum.proofs.controls.picture_controls_in.Met.{met}

abbrev stayed : Stays f.ended.signature.params f.ended.kept
stayed = (stay_dropped _ yes, (stay_ref (0 ∷ []) tt (plain (λ _. Q)), tt))

pub fezhalum_picture_controls_spec : {M : Type 1} → statement M
fezhalum_picture_controls_spec 𝓤 𝓛 𝓜 𝓡 wired =
    let c = f.clauses 𝓛 𝓜.mem 𝓡.returns in let W = walk_of 𝓛 f.ended stayed c in let 𝓣 = tables 𝓤 𝓛.H 𝓜 𝓡 𝓡.env in
    proved 𝓛 f.ended stayed c 𝓜 𝓡 (
      Goes-dropped 𝓛 1 (plain (λ _. RawPtr)) yes (λ κs x w. refl),
      (Goes-ref 𝓛 1 0 tt (plain (λ _. Q)), tt),
    )
    f.Key.name code.function (code.unfolded 𝓤 𝓛.H 𝓜 𝓡 wired)
    (λ κs. (rawptr_vals, (mut_vals, tt))) (λ κs. (rawptr_Tells, (mut_Tells (named 0) κs.0 Q, tt)))
    (λ κs qs bounds a x are.
    let κc = κs.0 in let qc = qs.0 in let call = a.1.0 in let cb = call.ref_ptr.0 in let co =
    call.ref_ptr.1 in let cs = mut_vals call in
    let Ref = λ (κ' : List ℕ) (y : MutBor Q.Denot). (MutRef (named 0) κ' Q).own_val y cs in
    let y : Ptr → W.Ghost = λ p. ((κs, qs, bounds, (p, (call, tt)), (rawptr_vals p, (cs, tt))), x) in
    qed 𝓛 (((‵ (flft κc qc) ⊛ ‵ ftrue) ⊛ ‵ ((RawPtr).own_val a.0 (rawptr_vals a.0)) ⊛ ‵
    (Ref κc call) ⊛ ‵ ftrue) ∷ ‵ (lies_at R full_share a.0 x) ∷ []) ∵
    split ! $ split ! $ move ! (2 ∷ []) $ split ! $ move ! (1 ∷ []) $ split ! $ keep ! (5 ∷ 0 ∷ 3 ∷ []) $
    -- [what lies there; the struct; its token]
    in_a_block ! a.0 (λ p. lies_at R full_share p x) (id⊢ 𝓤 _) (λ b o e.
    regoal ! (λ p. prop (WpFn 𝓤 𝓛.H 𝓣.C 𝓣.Λ code.function (rawptr_vals p ++ (cs ++ [])) (W.post (y p)))) e refl $
    enter ! _ _ _ _ _ $ alloc_all ! (λ l. pass_all ! refl ((tt, tt), ((tt, tt), tt)) $
    sets ! (of_opd ! (get ! refl)) refl (tt, tt) $
    sets ! (addr ! (through ! refl (stop !))) refl (tt, tt) $
    sets ! (addr ! (through ! refl (stop !))) refl (tt, tt) $
    lft_new ! tt (λ α. let κ : List ℕ = α ∷ [] in move ! (1 ∷ []) $
    use1 𝓛 (later
    (some (λ (γ : ℕ). ‵
    ((MutRef (named 0) κ R).own_val (record { ref_ptr = (b, o); ghost_name = γ; now = x })
    (rawptr_vals (block_ptr b o))) ⊛ ‵ (flent κ (Body (mem R) b o γ)))))
    (lends_ref 𝓛 R (named 0) κ x b o) $ await ! tt $ pick ! (λ γ. split ! $
    lft_new ! tt (λ β. let κ' : List ℕ = β ∷ [] in move ! (4 ∷ 5 ∷ []) $
    use2 𝓛 (later
    (some (λ (δ : ℕ). ‵ (Ref κ' (record call { ghost_name = δ })) ⊛ ‵
    (LentAgain Q κc κ' qc call.ghost_name cb co δ call.now))))
    (lends_again 𝓛 Q (named 0) κc κ' qc call.ghost_name cb co (named 0) call.now) $ await ! tt $ pick ! (λ δ. split ! $
    -- [the struct's loan; its lender's part; β; the loan; the lender's part; α]
    let G = triple_of 𝓛 g.signature (g.spec 𝓛 𝓜.mem 𝓡.returns) in
    let z : G.Ghost = (
      (
        (κ, (κ', tt)),
        (full_share, (full_share, tt)),
        tt,
        (record { ref_ptr = (b, o); ghost_name = γ; now = x }, (record call { ghost_name = δ }, tt)),
        (rawptr_vals (block_ptr b o), (cs, tt)),
      ),
      tt,
    ) in
    nothing ! $ move ! (1 ∷ 0 ∷ []) $ join ! $ move ! (3 ∷ 0 ∷ []) $ join ! $
    nothing ! $ move ! (3 ∷ 0 ∷ []) $ join ! $ move ! (4 ∷ 0 ∷ []) $ join ! $ join ! $
    nothing ! $ move ! (1 ∷ 0 ∷ []) $ join ! $ use1 𝓛 (raw (G.pre z)) (id⊢ 𝓤 _) $
    calls_at ! (framed 𝓤 𝓛.H 𝓜 𝓣) G (met 𝓤 𝓛 𝓜 𝓡 (code.calls-fezhalum::controls::picture_controls_in 𝓡.env wired)) z
    (and_then ! (get ! refl) (and_then ! (get ! refl) (no_more !))) (λ v.
    use1 𝓛 (later
    (some (λ (r : ℕ). ((‵ (flft κ full_share) ⊛ ‵ (flft κ' full_share) ⊛ ‵ ftrue) ⊛ ‵ (u32.own_val r (v ∷ []))) ⊛
    some (λ (ws : R.Denot × (Q.Denot × Unit {0})). ‵ (lasts g.ended z.0.0 z.0.3 ws) ⊛ raw
    (fact 𝓤 (FillsPicture x ws.0 call.now ws.1.0 r)))))) (id⊢ 𝓤 _) $
    await ! tt $ pick ! (λ r. split ! $ split ! $ split ! $ lft_end ! tt $ move ! (1 ∷ []) $ split ! $ lft_end ! tt $
    -- [β is over; nothing; α is over; the result; the rest; the lender's parts]
    move ! (4 ∷ []) $ pick ! (λ ws. split ! $ move ! (1 ∷ []) $ heard ! _ (λ told. fsplit ! $ fsplit ! $
    move ! (5 ∷ 8 ∷ 0 ∷ []) $ use3 𝓛 (later (‵ (part_at R full_share ws.0 b o)))
    (ref_back 𝓛 R κ γ ws.0 b o) $ await ! tt $
    move ! (2 ∷ []) $ fsplit ! $ fsplit ! $
    move ! (5 ∷ 8 ∷ 0 ∷ []) $ use3 𝓛 (later (‵ (Ref κc (record call { now = ws.1.0 })) ⊛ ‵ (flft κc qc)))
    (comes_back 𝓛 Q (named 0) κc κ' qc call.ghost_name cb co δ call.now ws.1.0) $ await ! tt $ split ! $
    move ! (7 ∷ []) $ peeks ! u32 (Is u32) (shows 𝓛 u32) r (v ∷ [])
    (λ is. lands_as ! refl refl ((uint_Lawful 𝓛 w32).typed r _ is).0 $
    returns ! (look_at ! 0 refl) $ free_all ! refl $ keep ! (5 ∷ 0 ∷ 1 ∷ 2 ∷ []) $
    fpack ! (FillsPicture x ws.0 call.now ws.1.0 r) (λ _. part_at R full_share ws.0 b o) told $
    fpack ! R.Denot
    (λ u. fex (FillsPicture x u call.now ws.1.0 r) (λ _. part_at R full_share u b o)) ws.0 $ move ! (1 ∷ 0 ∷ []) $
    suffices ! _ (ends_at 𝓛 f.ended stayed c (y (block_ptr b o)) v r (tt, (ws.1.0, tt)) (tt, (tt, tt))) $
    nothing ! $ move ! (3 ∷ 0 ∷ []) $ join ! $ nothing ! $ join ! $
    nothing ! $ move ! (4 ∷ 0 ∷ []) $ join ! $ group ! 3 $ done !))))))))))))
