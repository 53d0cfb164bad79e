-- The box at the pointer, which owns what the place owned. Assumes `Logic`.
use Rattle.std.proofs.Common.{◌≡◌, List, [], ◌∷◌, ◌++◌, refl, sym, ap, ◌∙◌}
use Rattle.std.specs.Prelude.{Option, Some, IsSome}
use mir.Syntax.{ty_ptr}
use mir.Val.{Val}
use base.Logic.{emp, id⊢}
use base.Fraction.{full_share}
use base.Fml.{ftrue, fsep, flft}
use prog.Wp.{WpFn}
use contract.BorrowLft.{◌⊑◌, ⊑_static}
use contract.Monad.{fact, fact_i}
use contract.Running.{tables}
use types.Kit.{‵, raw, ◌⊛◌, some, later, prop, at_ret, ◌$◌, ◌∵◌, !, qed, move, drop, use0, use1, split, join, fsplit, fjoin, feq_i, pick, await, rewrite, regoal, suffices, done}
use types.Part.{sub, whole}
use types.Run.{enter, returns, exec, first, blocks, of_opd, and_then, no_more, fld, stop}
use types.ByLocal.{alloc_all, pass_all, free_all, look_at, get, get_in, sets, lands_last, env}
use denote.Exit.{yes}
use denote.Laws.{Is, shows}
use denote.Param.{layout}
use denote.RawPtr.{ptr_val, rawptr_Lawful}
use denote.Signature.{plain}
use denote.Steps.{nothing, heard, peeks}
use denote.Triple.Call.{calls_at_last}
use denote.Triple.Clauses.{Lasts, lasts}
use denote.Triple.Spec.{triple_of}
use denote.Triple.Table.{framed}
use denote.Triple.Walked.{Stays, stay_dropped, Goes-dropped, says, ends_at, walk_of}
use Rattle.std.proofs.raw_atomic.Walks.{proved_at}
use Rattle.std_alloc.specs.contracts.boxed.Box.from_raw as from_raw
use Rattle.std_alloc.proofs.boxed.Box.from_raw.Met.{met}
use Rattle.std_heap.specs.contracts.GlobalAllocator.TheImpl.{ghosts, dict}
use Rattle.std_heap.proofs.GlobalAllocator.TheImpl.Met.{passed}
use Rattle.reo_handles.specs.Owned.{owned}
use Rattle.reo_handles.specs.declared.session.Session.{Session}
use Rattle.reo_handles.proofs.Dropping.{no_drop, heap_drops}
use Rattle.reo_handles.proofs.Places.{SessionPlace, found, leaves_place}
use Rattle.reo_handles.proofs.Rows.{Boxed, S, A, S-arg, A-arg, S-laws, A-laws, box_typed, heap_typed}
use Rattle.reo_handles.proofs.Words.{sole, in_struct}
use Rattle.reo_handles.proofs.place.SessionPlace.TheLaws.{lowered}
use Rattle.reo_handles.specs.contracts.place.SessionPlace.into_session as f
use Rattle.reo_handles.proofs.place.SessionPlace.into_session.Statement.{statement}
use Rattle.reo_handles.proofs.place.SessionPlace.into_session.Code as code

abbrev stayed : Stays f.ended.signature.params f.ended.kept
stayed = (stay_dropped (plain (λ _. SessionPlace)) yes, (stay_dropped (plain (λ _. A)) yes, tt))

pub into_session_spec : {M : Type 1} → statement M
into_session_spec {M = M} 𝓤 𝓛 𝓜 𝓡 wired =
    let 𝓣 = tables 𝓤 𝓛.H 𝓜 𝓡 𝓡.env in let c = f.clauses 𝓛 𝓜.mem 𝓡.returns in let W = walk_of 𝓛 f.ended stayed c in
    let Box = triple_of 𝓛 (from_raw.signature S-arg A-arg ghosts dict no_drop) (from_raw.spec S-arg A-arg ghosts dict no_drop 𝓛 𝓜.mem 𝓡.returns) in
    let life = ‵ (flft [] full_share) in
    proved_at 𝓛 f.ended stayed c 𝓜 𝓡 (Goes-dropped 𝓛 0 (plain (λ _. SessionPlace)) yes (λ κs x w. refl), (Goes-dropped 𝓛 0 (plain (λ _. A)) yes (λ κs x w. refl), tt))
    f.Key.name code.function (code.unfolded 𝓤 𝓛.H 𝓜 𝓡 wired) (λ z are.
    let v = z.0.3.0 in let a = z.0.3.1.0 in let vs = z.0.4.0 in let us = z.0.4.1.0 in
    let handle = sole (layout A) us (heap_typed 𝓛 a us are.1.0) in let suits = ((rawptr_Lawful 𝓛).typed v.at (ptr_val v.at ∷ []) refl).0 in
    qed 𝓛 ((‵ ftrue ⊛ ‵ (fsep (SessionPlace.own_val v vs) (fsep (A.own_val a us) ftrue))) ∷ raw (fact 𝓤 (IsSome v.session)) ∷ []) ∵
    move ! (1 ∷ []) $ heard ! (IsSome v.session) (λ is_some. let here = found v.session is_some in let x = here.0 in
    let y : Box.Ghost = ((([], ([], tt)), (full_share, (full_share, tt)), tt, (a, (v.at, tt)), (handle.word ∷ [], (ptr_val v.at ∷ [], tt))), x) in
    split ! $ drop ! $ fsplit ! $ leaves_place ! v vs (λ placed.
    rewrite ! 0 (λ (s : Option Session). ‵ (owned v.at s)) here.1 refl $
    regoal ! (λ (ws : List Val). prop (WpFn 𝓤 𝓛.H 𝓣.C 𝓣.Λ code.function (ws ++ (us ++ [])) (W.post z))) placed refl $
    regoal ! (λ (ws : List Val). prop (WpFn 𝓤 𝓛.H 𝓣.C 𝓣.Λ code.function (lowered v ∷ (ws ++ [])) (W.post z))) handle.is refl $
    enter ! 𝓣.C 𝓣.Λ code.function (lowered v ∷ handle.word ∷ []) (W.post z) $ alloc_all ! (λ l. pass_all ! refl (in_struct ty_ptr (ptr_val v.at) suits, (handle.suits, tt)) $
    sets ! (of_opd ! (get_in ! (fld ! refl (stop !)) (sub ! 0 refl (whole !)))) refl suits $
    first ! $ blocks ! $ sets ! (of_opd ! (get ! refl)) refl suits $
    -- what the call asks: the block, the lifetimes of its types, which never end, the heap's handle and the pointer
    use0 𝓛 (raw (fact 𝓤 ([] ⊑ A.lives))) (fact_i 𝓤 ([] ⊑ A.lives) (emp 𝓤) (⊑_static [])) $ join ! $
    use0 𝓛 (raw (fact 𝓤 ([] ⊑ S.lives))) (fact_i 𝓤 ([] ⊑ S.lives) (emp 𝓤) (⊑_static [])) $ join ! $
    move ! (1 ∷ []) $ fsplit ! $ move ! (1 ∷ []) $ feq_i ! (List Val) (ptr_val v.at ∷ []) (ptr_val v.at ∷ []) refl $ fjoin ! $ move ! (1 ∷ 0 ∷ []) $
    rewrite ! 0 (λ (ws : List Val). ‵ (A.own_val a ws)) handle.is refl $ fjoin ! $
    nothing ! $ use0 𝓛 life (𝓛.lfts.lft-nil full_share) $ join ! $ use0 𝓛 life (𝓛.lfts.lft-nil full_share) $ join ! $ join ! $ join ! $
    use1 𝓛 (raw (Box.pre y)) (id⊢ 𝓤 _) $
    calls_at_last ! (framed 𝓤 𝓛.H 𝓜 𝓣) Box (met 𝓤 𝓛 𝓜 𝓡 (code.calls-std_alloc::boxed::Box::from_raw 𝓡.env wired) S-arg A-arg S-laws A-laws ghosts dict no_drop
    (passed 𝓡.env (code.calls-std_heap::GlobalAllocator::allocate 𝓡.env wired) (code.calls-std_heap::GlobalAllocator::deallocate 𝓡.env wired)
    (code.calls-std_heap::GlobalAllocator::grow 𝓡.env wired) (code.calls-std_heap::GlobalAllocator::shrink 𝓡.env wired) M 𝓤 𝓛 𝓜 𝓡)
    (heap_drops 𝓤 𝓛 𝓜 𝓡 (code.calls-reo_handles::Destruct++none::drop 𝓡.env wired))) y
    (and_then ! (get ! refl) (and_then ! (get ! refl) (no_more !))) (λ u.
    use1 𝓛 (later (some (λ (r : Boxed.Denot). ((life ⊛ life ⊛ ‵ ftrue) ⊛ ‵ (Boxed.own_val r (u ∷ []))) ⊛
    some (λ (ws : Lasts (from_raw.ended S-arg A-arg ghosts dict no_drop) y.0.0 y.0.3). ‵ (lasts (from_raw.ended S-arg A-arg ghosts dict no_drop) y.0.0 y.0.3 ws) ⊛
    raw (fact 𝓤 (r.value ≡ x)) ⊛ raw (fact 𝓤 (r.alloc ≡ a)))))) (id⊢ 𝓤 _) $
    await ! tt $ pick ! (λ r. split ! $ split ! $ drop ! $ peeks ! Boxed (Is Boxed) (shows 𝓛 Boxed) r (u ∷ []) (λ is.
    move ! (1 ∷ []) $ pick ! (λ ws. split ! $ drop ! $ split ! $ heard ! (r.value ≡ x) (λ same. drop ! $
    let fits = (box_typed 𝓛 r (u ∷ []) is).0 in
    lands_last ! refl fits $ exec ! 𝓣.C 𝓣.Λ (env code.Mir.locals l) code.Mir.t-3 (at_ret _ (W.post z)) $
    sets ! (of_opd ! (get ! refl)) refl fits $ returns ! (look_at ! 0 refl) $ free_all ! refl $
    suffices ! _ (ends_at 𝓛 f.ended stayed c z u r (tt, (tt, tt)) (tt, (tt, tt))) $ says ! (ap Some same ∙ sym here.1) $
    nothing ! $ nothing ! $ fjoin ! $ nothing ! $ fjoin ! $ join ! $ nothing ! $ join ! $ done !)))))))))
