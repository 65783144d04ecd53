-- `fezhalum_init_with` writes a decoder into the room at the pointer.
use Rattle.fezhalum.proofs.Steps.{u32, [], ◌∷◌, ◌++◌, refl, proved, named, flft, shr_slice_vals}
use Rattle.fezhalum.proofs.Steps.{shr_slice_Tells, ShrSlice}
use Rattle.fezhalum.proofs.Steps.{full_share, id⊢, ftrue, fex, vunit, fact, tables, ‵, raw, ◌⊛◌}
use Rattle.fezhalum.proofs.Steps.{some, later, prop, ◌$◌, ◌∵◌, !, qed, done, move, keep, drop, use1}
use Rattle.fezhalum.proofs.Steps.{use2, split, join, fpack, feq_i, pick, await, regoal, suffices}
use Rattle.fezhalum.proofs.Steps.{group, enter, of_opd, unit_lit, assigns, init, stop, no_more}
use Rattle.fezhalum.proofs.Steps.{and_then, returns, alloc_all, pass_all, free_all, look_at, get}
use Rattle.fezhalum.proofs.Steps.{through, sets, lands_as, yes, Is, shows, part_at, part_in, Ptr}
use Rattle.fezhalum.proofs.Steps.{RawPtr, block_ptr, room_at, in_a_block, rawptr_vals, rawptr_Tells}
use Rattle.fezhalum.proofs.Steps.{plain, nothing, heard, peeks, calls_at, lasts, triple_of, framed}
use Rattle.fezhalum.proofs.Steps.{Stays, walk_of, stay_dropped, Goes-dropped, ends_at, WpFn}
use Rattle.fezhalum.proofs.Steps.{heap_val, heap_Tells}
use denote.Builtin.{SliceRefOf}
use Rattle.std.specs.contracts.alloc.Global.{the_row as P}
use Rattle.hevc_pull.specs.contracts.decoder.PullDecoder.{the_row as R}
use Rattle.hevc_pull.proofs.decoder.PullDecoder.TheLaws.{the_row_laws}
use Rattle.fezhalum.specs.contracts.fezhalum_init_with as f
use Rattle.fezhalum.proofs.fezhalum_init_with.Statement.{statement}
use Rattle.fezhalum.proofs.fezhalum_init_with.Code as code
use Rattle.fezhalum.specs.Fresh.{IsFreshWith, options_given}
use Rattle.fezhalum.specs.contracts.fresh_with as g
use Rattle.fezhalum.proofs.fresh_with.Met.{met}

abbrev stayed : Stays f.ended.signature.params f.ended.kept
stayed = (stay_dropped _ yes, (stay_dropped _ yes, (stay_dropped _ yes, tt)))

pub fezhalum_init_with_spec : {M : Type 1} → statement M
fezhalum_init_with_spec 𝓤 𝓛 𝓜 𝓡 wired =
    let c = f.clauses 𝓛 𝓜.mem 𝓡.returns in let W = walk_of 𝓛 f.ended stayed c in let 𝓣 = tables 𝓤 𝓛.H 𝓜 𝓡 𝓡.env in
    proved 𝓛 f.ended stayed c 𝓜 𝓡 (
      Goes-dropped 𝓛 1 (plain (λ _. RawPtr)) yes (λ κs x w. refl),
      (
        Goes-dropped 𝓛 1 (SliceRefOf (0 ∷ []) tt (plain (λ _. u32)) (λ _. tt)) yes (λ κs x w. refl),
        (Goes-dropped 𝓛 1 (plain (λ _. P)) yes (λ κs x w. refl), tt),
      ),
    )
    f.Key.name code.function (code.unfolded 𝓤 𝓛.H 𝓜 𝓡 wired)
    (λ κs. (rawptr_vals, (shr_slice_vals, ((λ _. heap_val ∷ []), tt))))
    (λ κs. (rawptr_Tells, (shr_slice_Tells (named 0) κs.0 u32, (heap_Tells, tt)))) (λ κs qs bounds a x are.
    let κb = κs.0 in let qb = qs.0 in let options = a.1.0 in let h = a.1.1.0 in let os = shr_slice_vals options in
    let y : Ptr → W.Ghost =
    λ p. ((κs, qs, bounds, (p, (options, (h, tt))), (rawptr_vals p, (os, (heap_val ∷ [], tt)))), tt) in
    qed 𝓛 (((‵ (flft κb qb) ⊛ ‵ ftrue) ⊛ ‵ ((RawPtr).own_val a.0 (rawptr_vals a.0)) ⊛ ‵
    ((ShrSlice (named 0) κb u32).own_val options os) ⊛ ‵ ((P).own_val h (heap_val ∷ [])) ⊛ ‵ ftrue) ∷ ‵
    (room_at R a.0) ∷ []) ∵
    split ! $ split ! $ move ! (2 ∷ []) $ split ! $ keep ! (4 ∷ 1 ∷ 2 ∷ []) $
    -- [the room; the options and the allocator; the token of the options]
    in_a_block ! a.0 (λ p. room_at R p) (id⊢ 𝓤 _) (λ b o e.
    regoal ! (λ p. prop
    (WpFn 𝓤 𝓛.H 𝓣.C 𝓣.Λ code.function (rawptr_vals p ++ (os ++ (heap_val ∷ []))) (W.post (y p)))) e refl $
    enter ! _ _ _ _ _ $ alloc_all !
    (λ l. pass_all ! refl
    ((tt, tt), ((tt, (tt, (record { fits = are.1.0.0.1.0 }, tt))), ((tt, ((tt, tt), tt)), tt))) $
    sets ! (of_opd ! (get ! refl)) refl (tt, tt) $
    let G = triple_of 𝓛 g.signature (g.spec 𝓛 𝓜.mem 𝓡.returns) in
    let z : G.Ghost = (((κb, tt), (qb, tt), tt, (options, (h, tt)), (os, (heap_val ∷ [], tt))), tt) in
    nothing ! $ move ! (3 ∷ 0 ∷ []) $ join ! $ move ! (0 ∷ 2 ∷ []) $ join ! $ nothing ! $ move ! (1 ∷ 0 ∷ []) $ join ! $
    use1 𝓛 (raw (G.pre z)) (id⊢ 𝓤 _) $
    calls_at ! (framed 𝓤 𝓛.H 𝓜 𝓣) G (met 𝓤 𝓛 𝓜 𝓡 (code.calls-fezhalum::fresh_with 𝓡.env wired)) z
    (and_then ! (get ! refl) (and_then ! (get ! refl) (no_more !))) (λ v.
    use1 𝓛 (later (some (λ (r : R.Denot). ((‵ (flft κb qb) ⊛ ‵ ftrue) ⊛ ‵ (R.own_val r (v ∷ []))) ⊛
    some (λ (ws : Unit {0} × (Unit {0} × Unit {0})). ‵ (lasts g.ended z.0.0 z.0.3 ws) ⊛ raw
    (fact 𝓤 (IsFreshWith (options_given options.now) r)))))) (id⊢ 𝓤 _) $
    await ! tt $ pick !
    (λ r. split ! $ split ! $ split ! $ move ! (1 ∷ []) $ drop ! $ move ! (2 ∷ []) $ pick ! (λ ws. split ! $ drop ! $
    heard ! _ (λ told. move ! (1 ∷ 2 ∷ []) $
    -- [the decoder; the room; the token of the options]
    peeks ! R (Is R) (shows 𝓛 R) r (v ∷ [])
    (λ is. let typed = ((the_row_laws.lawful 𝓛).typed r (v ∷ []) is).0 in lands_as ! refl refl typed $
    assigns ! (of_opd ! (get ! refl)) (through ! refl (stop !)) (init ! 1 refl typed) $
    sets ! (of_opd ! (unit_lit !)) refl (tt, tt) $
    returns ! (look_at ! 0 refl) $ free_all ! refl $ keep ! (1 ∷ 0 ∷ 2 ∷ []) $
    use2 𝓛 (‵ (part_at R full_share r b o)) (part_in 𝓛 R refl full_share r b o v) $
    fpack ! (IsFreshWith (options_given options.now) r) (λ _. part_at R full_share r b o) told $
    fpack ! R.Denot
    (λ u. fex (IsFreshWith (options_given options.now) u) (λ _. part_at R full_share u b o)) r $
    suffices ! _ (ends_at 𝓛 f.ended stayed c (y (block_ptr b o)) vunit tt (tt, (tt, (tt, tt)))
    (tt, (tt, (tt, tt)))) $
    feq_i ! _ (vunit ∷ []) _ refl $ nothing ! $ nothing ! $ join ! $ nothing ! $ join ! $ nothing ! $ join ! $
    nothing ! $ move ! (4 ∷ 0 ∷ []) $ join ! $ group ! 3 $ done !))))))))
