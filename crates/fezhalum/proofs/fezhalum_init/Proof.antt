-- `fezhalum_init` writes a decoder into the room at the pointer.
use Rattle.fezhalum.proofs.Steps.{[], ◌∷◌, ◌++◌, refl, proved, full_share, id⊢, ftrue, fex, vunit}
use Rattle.fezhalum.proofs.Steps.{fact, tables, ‵, raw, ◌⊛◌, some, later, prop, ◌$◌, ◌∵◌, !, qed}
use Rattle.fezhalum.proofs.Steps.{done, move, keep, drop, use1, use2, split, join, fpack, feq_i}
use Rattle.fezhalum.proofs.Steps.{pick, await, regoal, suffices, group, enter, of_opd, unit_lit}
use Rattle.fezhalum.proofs.Steps.{assigns, init, stop, no_more, and_then, returns, alloc_all}
use Rattle.fezhalum.proofs.Steps.{pass_all, free_all, look_at, get, through, sets, lands_as, yes}
use Rattle.fezhalum.proofs.Steps.{Is, shows, part_at, part_in, Ptr, RawPtr, block_ptr, room_at}
use Rattle.fezhalum.proofs.Steps.{in_a_block, rawptr_vals, rawptr_Tells, plain, nothing, heard}
use Rattle.fezhalum.proofs.Steps.{peeks, calls_at, lasts, triple_of, framed, Stays, walk_of}
use Rattle.fezhalum.proofs.Steps.{stay_dropped, Goes-dropped, ends_at, WpFn, heap_val, heap_Tells}
use Rattle.std.specs.contracts.alloc.Global.{the_row as P}
use Rattle.hevc_pull.specs.contracts.decoder.PullDecoder.{the_row as R}
use Rattle.hevc_pull.proofs.decoder.PullDecoder.TheLaws.{the_row_laws}
use Rattle.fezhalum.specs.contracts.fezhalum_init as f
use Rattle.fezhalum.proofs.fezhalum_init.Statement.{statement}
use Rattle.fezhalum.proofs.fezhalum_init.Code as code
use Rattle.fezhalum.specs.Fresh.{IsFresh}
use Rattle.fezhalum.specs.contracts.fresh as g
use Rattle.fezhalum.proofs.fresh.Met.{met}

abbrev stayed : Stays f.ended.signature.params f.ended.kept
stayed = (stay_dropped _ yes, (stay_dropped _ yes, tt))

pub fezhalum_init_spec : {M : Type 1} → statement M
fezhalum_init_spec 𝓤 𝓛 𝓜 𝓡 wired =
    let c = f.clauses 𝓛 𝓜.mem 𝓡.returns in let W = walk_of 𝓛 f.ended stayed c in let 𝓣 = tables 𝓤 𝓛.H 𝓜 𝓡 𝓡.env in
    proved 𝓛 f.ended stayed c 𝓜 𝓡 (
      Goes-dropped 𝓛 0 (plain (λ _. RawPtr)) yes (λ κs x w. refl),
      (Goes-dropped 𝓛 0 (plain (λ _. P)) yes (λ κs x w. refl), tt),
    )
    f.Key.name code.function (code.unfolded 𝓤 𝓛.H 𝓜 𝓡 wired)
    (λ κs. (rawptr_vals, ((λ _. heap_val ∷ []), tt))) (λ κs. (rawptr_Tells, (heap_Tells, tt))) (λ κs qs bounds a x are.
    let h = a.1.0 in
    let y : Ptr → W.Ghost = λ p. ((κs, qs, bounds, (p, (h, tt)), (rawptr_vals p, (heap_val ∷ [], tt))), tt) in
    qed 𝓛 ((‵ ftrue ⊛ ‵ ((RawPtr).own_val a.0 (rawptr_vals a.0)) ⊛ ‵
    ((P).own_val h (heap_val ∷ [])) ⊛ ‵ ftrue) ∷ ‵ (room_at R a.0) ∷ []) ∵
    split ! $ drop ! $ split ! $ drop ! $ split ! $ keep ! (2 ∷ 0 ∷ []) $
    in_a_block ! a.0 (λ p. room_at R p) (id⊢ 𝓤 _) (λ b o e.
    regoal ! (λ p. prop (WpFn 𝓤 𝓛.H 𝓣.C 𝓣.Λ code.function (rawptr_vals p ++ (heap_val ∷ [])) (W.post (y p)))) e refl $
    enter ! _ _ _ _ _ $ alloc_all ! (λ l. pass_all ! refl ((tt, tt), ((tt, ((tt, tt), tt)), tt)) $
    -- [the room; the allocator; the locals]
    sets ! (of_opd ! (get ! refl)) refl (tt, tt) $
    let G = triple_of 𝓛 g.signature (g.spec 𝓛 𝓜.mem 𝓡.returns) in
    let z : G.Ghost = ((tt, tt, tt, (h, tt), (heap_val ∷ [], tt)), tt) in
    nothing ! $ move ! (2 ∷ 0 ∷ []) $ join ! $ nothing ! $ join ! $ nothing ! $ move !
    (1 ∷ 0 ∷ []) $ join ! $ use1 𝓛 (raw (G.pre z)) (id⊢ 𝓤 _) $
    calls_at ! (framed 𝓤 𝓛.H 𝓜 𝓣) G (met 𝓤 𝓛 𝓜 𝓡 (code.calls-fezhalum::fresh 𝓡.env wired)) z
    (and_then ! (get ! refl) (no_more !)) (λ v.
    use1 𝓛 (later (some (λ (r : R.Denot). (‵ ftrue ⊛ ‵ (R.own_val r (v ∷ []))) ⊛
    some (λ (ws : Unit {0} × Unit {0}). ‵ (lasts g.ended z.0.0 z.0.3 ws) ⊛ raw (fact 𝓤 (IsFresh r)))))) (id⊢ 𝓤 _) $
    await ! tt $ pick !
    (λ r. split ! $ split ! $ drop ! $ move ! (1 ∷ []) $ pick ! (λ ws. split ! $ drop ! $ heard ! _ (λ told.
    peeks ! R (Is R) (shows 𝓛 R) r (v ∷ [])
    (λ is. let typed = ((the_row_laws.lawful 𝓛).typed r (v ∷ []) is).0 in lands_as ! refl refl typed $
    assigns ! (of_opd ! (get ! refl)) (through ! refl (stop !)) (init ! 1 refl typed) $
    sets ! (of_opd ! (unit_lit !)) refl (tt, tt) $
    returns ! (look_at ! 0 refl) $ free_all ! refl $ keep ! (1 ∷ 0 ∷ []) $
    use2 𝓛 (‵ (part_at R full_share r b o)) (part_in 𝓛 R refl full_share r b o v) $
    fpack ! (IsFresh r) (λ _. part_at R full_share r b o) told $
    fpack ! R.Denot (λ u. fex (IsFresh u) (λ _. part_at R full_share u b o)) r $
    suffices ! _ (ends_at 𝓛 f.ended stayed c (y (block_ptr b o)) vunit tt (tt, (tt, tt)) (tt, (tt, tt))) $
    feq_i ! _ (vunit ∷ []) _ refl $ nothing ! $ nothing ! $ join ! $ nothing ! $ join ! $ nothing ! $ group
    ! 3 $ done !))))))))
