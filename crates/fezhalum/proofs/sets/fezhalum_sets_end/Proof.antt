-- `fezhalum_sets_end` takes what lies at the pointer and lets it go; the room is left.
use Rattle.fezhalum.proofs.Steps.{[], ◌∷◌, refl, ap, proved, full_share, id⊢, ftrue, fat, Val}
use Rattle.fezhalum.proofs.Steps.{vunit, tables, ‵, raw, ◌⊛◌, some, later, prop, ◌$◌, ◌∵◌, !, qed}
use Rattle.fezhalum.proofs.Steps.{done, move, keep, drop, use1, split, join, feq_l, feq_i, pick}
use Rattle.fezhalum.proofs.Steps.{await, regoal, suffices, group, enter, of_opd, unit_lit, load}
use Rattle.fezhalum.proofs.Steps.{look, stop, no_more, and_then, returns, alloc_all, pass_all}
use Rattle.fezhalum.proofs.Steps.{free_all, look_at, get, through, sets, lands_as, yes, Is, shows}
use Rattle.fezhalum.proofs.Steps.{part_out, Ptr, RawPtr, block_ptr, lies_at, room_at, in_a_block}
use Rattle.fezhalum.proofs.Steps.{rawptr_vals, rawptr_Tells, plain, nothing, peeks, calls_at, lasts}
use Rattle.fezhalum.proofs.Steps.{on_entry, triple_of, framed, Stays, walk_of, stay_dropped}
use Rattle.fezhalum.proofs.Steps.{Goes-dropped, ends_at, WpFn, unit, only}
use mir.Syntax.{Ty}
use denote.Memory.{lone}
use denote.Triple.Clauses.{Lasts}
use Rattle.hevc_parser.specs.contracts.parser.Parser.{the_row as R}
use Rattle.hevc_parser.proofs.parser.Parser.TheLaws.{the_row_laws}
use Rattle.fezhalum.specs.contracts.sets.fezhalum_sets_end as f
use Rattle.fezhalum.proofs.sets.fezhalum_sets_end.Statement.{statement}
use Rattle.fezhalum.proofs.sets.fezhalum_sets_end.Code as code
use Rattle.fezhalum.specs.contracts.sets.end_sets_in as g
use Rattle.fezhalum.proofs.sets.end_sets_in.Met.{met}

abbrev stayed : Stays f.ended.signature.params f.ended.kept
stayed = (stay_dropped _ yes, tt)

pub fezhalum_sets_end_spec : {M : Type 1} → statement M
fezhalum_sets_end_spec 𝓤 𝓛 𝓜 𝓡 wired =
    let c = f.clauses 𝓛 𝓜.mem 𝓡.returns in let W = walk_of 𝓛 f.ended stayed c in let 𝓣 = tables 𝓤 𝓛.H 𝓜 𝓡 𝓡.env in
    proved 𝓛 f.ended stayed c 𝓜 𝓡 (Goes-dropped 𝓛 0 (plain (λ _. RawPtr)) yes (λ κs x w. refl), tt)
    f.Key.name code.function (code.unfolded 𝓤 𝓛.H 𝓜 𝓡 wired)
    (λ κs. (rawptr_vals, tt)) (λ κs. (rawptr_Tells, tt)) (λ κs qs bounds a x are.
    let y : Ptr → W.Ghost = λ p. ((κs, qs, bounds, (p, tt), (rawptr_vals p, tt)), x) in let τ : Ty = lone R.mir in
    qed 𝓛 (raw (on_entry 𝓛 f.signature κs qs a (y a.0).0.4) ∷ ‵ (lies_at R full_share a.0 x) ∷ []) ∵ drop ! $
    in_a_block ! a.0 (λ p. lies_at R full_share p x) (id⊢ 𝓤 _) (λ b o e.
    regoal ! (λ p. prop (WpFn 𝓤 𝓛.H 𝓣.C 𝓣.Λ code.function (rawptr_vals p) (W.post (y p)))) e refl $
    use1 𝓛 (some (λ (v : Val). ‵ (fat full_share τ b o v) ⊛ ‵ (R.own_val x (v ∷ []))))
    (part_out 𝓛 R refl full_share x b o) $ pick ! (λ v. split ! $ move ! (1 ∷ []) $
    peeks ! R (Is R) (shows 𝓛 R) x (v ∷ []) (λ is. let typed = ((the_row_laws.lawful 𝓛).typed x (v ∷ []) is).0 in
    enter ! _ _ _ _ _ $ alloc_all ! (λ l. pass_all ! refl ((tt, tt), tt) $
    -- [what the value owns; its cell; the locals]
    sets ! (of_opd ! (get ! refl)) refl (tt, tt) $
    sets ! (of_opd ! (load ! (through ! refl (stop !)) (look ! 1 refl))) refl typed $
    let G = triple_of 𝓛 g.signature (g.spec 𝓛 𝓜.mem 𝓡.returns) in
    let z : G.Ghost = ((tt, tt, tt, (x, tt), (v ∷ [], tt)), tt) in
    nothing ! $ move ! (1 ∷ 0 ∷ []) $ join ! $ nothing ! $ join ! $ nothing ! $ move !
    (1 ∷ 0 ∷ []) $ join ! $ use1 𝓛 (raw (G.pre z)) (id⊢ 𝓤 _) $
    calls_at ! (framed 𝓤 𝓛.H 𝓜 𝓣) G (met 𝓤 𝓛 𝓜 𝓡 (code.calls-fezhalum::sets::end_sets_in 𝓡.env wired)) z
    (and_then ! (get ! refl) (no_more !)) (λ u.
    use1 𝓛 (later (some (λ (r : Unit {0}). (‵ ftrue ⊛ ‵ (unit.own_val r (u ∷ []))) ⊛
    some (λ (ws : Lasts g.ended z.0.0 z.0.3). ‵ (lasts g.ended z.0.0 z.0.3 ws) ⊛ ‵ ftrue)))) (id⊢ 𝓤 _) $
    await ! tt $ pick !
    (λ r. split ! $ split ! $ drop ! $ feq_l ! (λ is_unit. drop ! $ lands_as ! (ap only is_unit) refl (tt, tt) $
    sets ! (of_opd ! (unit_lit !)) refl (tt, tt) $
    returns ! (look_at ! 0 refl) $ free_all ! refl $ keep ! (0 ∷ []) $
    use1 𝓛 (‵ (room_at R (block_ptr b o))) (𝓛.laws.at_room τ b o v) $
    suffices ! _ (ends_at 𝓛 f.ended stayed c (y (block_ptr b o)) vunit tt (tt, tt) (tt, tt)) $
    feq_i ! _ (vunit ∷ []) _ refl $ nothing ! $ nothing ! $ join ! $ nothing ! $ group ! 3 $ done !))))))))
