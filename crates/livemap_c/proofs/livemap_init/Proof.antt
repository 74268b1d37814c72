-- `livemap_init` writes the map that `Livemap::largest` makes.
use Rattle.std.proofs.Common.{[], ◌∷◌, refl}
use Rattle.std.proofs.raw_atomic.Walks.{proved}
use mathlib.Core.List
use base.Fraction.{full_share}
use base.Logic.{id⊢, sep}
use base.Fml.{ftrue}
use borrow.Table.OneValue.{part_in}
use mir.Val.{vunit}
use prog.Wp.{WpFn}
use contract.Monad.{fact}
use contract.Running.{tables}
use types.Kit.{‵, raw, ◌⊛◌, some, later, prop, ◌$◌, ◌∵◌, !, qed, done, move, keep, drop, use1, use2, split, join, fsplit, fjoin, feq_i, pick, show, await, regoal, suffices, frame, group}
use types.Logic.{sem}
use types.Run.{enter, of_opd, unit_lit, stop, init, no_more, and_then, assigns, returns}
use types.ByLocal.{alloc_all, pass_all, free_all, look_at, get, through, sets, lands_as}
use denote.Exit.{yes}
use denote.Laws.{shows}
use denote.Memory.{part_at}
use denote.RattleType.{owns}
use denote.RawPtr.{Ptr, RawPtr, block_ptr, lies_at, room_at, in_a_block, rawptr_vals, rawptr_Tells}
use denote.Signature.{plain}
use denote.Steps.{nothing, heard, peeks}
use denote.Struct.Laws as LL
use denote.Struct.Loose.{row_lawful}
use denote.Triple.Call.{calls_at}
use denote.Triple.Clauses.{lasts}
use denote.Triple.Spec.{triple_of}
use denote.Triple.Table.{framed}
use denote.Triple.Walked.{Stays, walk_of, says, stay_dropped, Goes-dropped, ends_at}
use Rattle.std.specs.contracts.alloc.Global as heap
use Rattle.std.proofs.alloc.Global.TheLaws as heap_laws
use Rattle.map_model.specs.State.{empty_map}
use Rattle.livemap_c.specs.Calls.{IsFresh}
use Rattle.livemap_c.specs.declared.livemap.Livemap.{Livemap}
use Rattle.livemap_c.specs.contracts.livemap.Livemap.{the_row as R}
use Rattle.livemap_c.specs.contracts.livemap.Livemap as T
use Rattle.livemap_c.proofs.livemap.Livemap.TheLaws as laws
use Rattle.livemap_c.specs.contracts.livemap_init as f
use Rattle.livemap_c.proofs.livemap_init.Statement.{statement}
use Rattle.livemap_c.proofs.livemap_init.Code as code
use Rattle.livemap_c.specs.contracts.livemap.Livemap.largest as g
use Rattle.livemap_c.proofs.livemap.Livemap.largest.Met.{met}

abbrev stayed : Stays f.ended.signature.params f.ended.kept
stayed = (stay_dropped _ yes, (stay_dropped _ yes, tt))

pub livemap_init_spec : {M : Type 1} → statement M
livemap_init_spec 𝓤 𝓛 𝓜 𝓡 wired =
    let c = f.clauses 𝓛 𝓜.mem 𝓡.returns in let W = walk_of 𝓛 f.ended stayed c in let 𝓣 = tables 𝓤 𝓛.H 𝓜 𝓡 𝓡.env in
    proved 𝓛 f.ended stayed c 𝓜 𝓡 (Goes-dropped 𝓛 0 (plain (λ _. heap.the_row)) yes (λ κs x w. refl), (Goes-dropped 𝓛 0 (plain (λ _. RawPtr)) yes (λ κs x w. refl), tt))
    f.Key.name code.function (code.unfolded 𝓤 𝓛.H 𝓜 𝓡 wired)
    (λ κs. (LL.vals heap.the_type heap_laws.the_laws, (rawptr_vals, tt))) (λ κs. (LL.tells heap.the_type heap_laws.the_laws, (rawptr_Tells, tt))) (λ κs qs bounds a _ are.
    let m = a.0 in let vs = LL.vals heap.the_type heap_laws.the_laws m in
    let y : Ptr → W.Ghost = λ p. ((κs, qs, bounds, (m, (p, tt)), (vs, (rawptr_vals p, tt))), tt) in
    qed 𝓛 ((‵ ftrue ⊛ ‵ (owns (heap.the_row ∷ RawPtr ∷ []) a (y a.1.0).0.4)) ∷ ‵ (room_at R a.1.0) ∷ []) ∵
    split ! $ move ! (2 ∷ []) $
    in_a_block ! a.1.0 (λ p. room_at R p) (id⊢ 𝓤 _) (λ b o e.
    regoal ! (λ p. prop (WpFn 𝓤 𝓛.H 𝓣.C 𝓣.Λ code.function (List.◌++◌ vs (rawptr_vals p)) (W.post (y p)))) e refl $
    move ! (2 ∷ []) $ fsplit ! $
    enter ! _ _ _ _ _ $ alloc_all ! (λ l. pass_all ! refl ((tt, ((tt, tt), tt)), ((tt, tt), tt)) $
    -- [what the handle owns; what the pointer owns; the room; nothing; the locals]
    sets ! (of_opd ! (get ! refl)) refl (tt, tt) $
    let G = triple_of 𝓛 g.signature (g.spec 𝓛 𝓜.mem 𝓡.returns) in
    let z : G.Ghost = ((κs, qs, tt, (m, tt), (vs, tt)), tt) in
    nothing ! $ move ! (1 ∷ 0 ∷ []) $ fjoin ! $ nothing ! $ join ! $ nothing ! $ move ! (1 ∷ 0 ∷ []) $ join ! $ use1 𝓛 (raw (G.pre z)) (id⊢ 𝓤 _) $
    calls_at ! (framed 𝓤 𝓛.H 𝓜 (tables 𝓤 𝓛.H 𝓜 𝓡 𝓡.env)) G (met 𝓤 𝓛 𝓜 𝓡 (code.calls-livemap_c::livemap::Livemap::largest 𝓡.env wired)) z
    (and_then ! (get ! refl) (no_more !)) (λ v.
    use1 𝓛 (later (some (λ (r : Livemap). (‵ ftrue ⊛ ‵ (R.own_val r (v ∷ []))) ⊛
    some (λ (ws : Unit {0} × Unit {0}). ‵ (lasts g.ended z.0.0 z.0.3 ws) ⊛ raw (fact 𝓤 (IsFresh empty_map.most_items r)))))) (id⊢ 𝓤 _) $
    await ! tt $ pick ! (λ r. split ! $ split ! $ drop ! $ peeks ! R _ (shows 𝓛 R) r (v ∷ []) (λ is.
    let typed = ((row_lawful 𝓛 T.the_type laws.the_loose).typed r _ is).0 in
    lands_as ! refl refl typed $
    move ! (1 ∷ []) $ pick ! (λ ws. split ! $ drop ! $ heard ! _ (λ fresh.
    -- [what the map owns; what the pointer owns; the room; nothing; the locals]
    assigns ! (of_opd ! (get ! refl)) (through ! refl (stop !)) (init ! 2 refl typed) $
    sets ! (of_opd ! (unit_lit !)) refl (tt, tt) $
    returns ! (look_at ! 0 refl) $ free_all ! refl $ keep ! (2 ∷ 0 ∷ []) $
    use2 𝓛 (‵ (part_at R full_share r b o)) (part_in 𝓛 R refl full_share r b o v) $
    suffices ! _ (ends_at 𝓛 f.ended stayed c (y (block_ptr b o)) vunit tt (tt, (tt, tt)) (tt, (tt, tt))) $
    feq_i ! _ (vunit ∷ []) _ refl $ nothing ! $ nothing ! $ join ! $ nothing ! $ join ! $ nothing ! $ group ! 3 $ frame ! $
    show ! (λ (w : Livemap). sep 𝓤 (sem 𝓛 (lies_at R full_share (block_ptr b o) w)) (fact 𝓤 (IsFresh empty_map.most_items w))) r $ says ! fresh $ done !))))))))
