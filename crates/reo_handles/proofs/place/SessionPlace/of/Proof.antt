-- The pointer of the box, and with it what the box owned. Assumes `Logic`.
use Rattle.std.proofs.Common.{List, [], ◌∷◌, ◌++◌, refl, ap}
use Rattle.std.specs.Prelude.{Some}
use mir.Syntax.{ty_ptr}
use mir.Val.{Val}
use base.Logic.{emp, id⊢}
use base.Fraction.{full_share}
use base.Fml.{ftrue, fsep, flft}
use prog.Wp.{WpFn}
use contract.BorrowLft.{◌⊑◌, ⊑_static}
use contract.Monad.{fact, fact_i}
use contract.Running.{tables}
use types.Kit.{‵, raw, ◌⊛◌, some, later, prop, ◌$◌, ◌∵◌, !, qed, keep, move, drop, use0, use1, split, join, fjoin, pick, await, rewrite, regoal, suffices, done}
use types.Part.{agg}
use types.Run.{enter, returns, of_opd, and_then, no_more}
use types.ByLocal.{alloc_all, pass_all, free_all, look_at, get, sets, lands_as}
use denote.Exit.{yes}
use denote.Builtin.{RawPtr}
use denote.Laws.{Is, shows}
use denote.Param.{layout}
use denote.RawPtr.{Ptr, ptr_val, rawptr_Tells, rawptr_Lawful}
use denote.Signature.{plain}
use denote.Steps.{nothing, only, facts}
use denote.Triple.Call.{calls_at}
use denote.Triple.Clauses.{Lasts, lasts}
use denote.Triple.Spec.{triple_of}
use denote.Triple.Table.{framed}
use denote.Triple.Walked.{Stays, stay_dropped, Goes-dropped, says, ends_at, walk_of}
use Rattle.std.proofs.raw_atomic.Walks.{proved_at}
use Rattle.std.specs.Box.Ownership.{box_owns}
use Rattle.std_alloc.specs.contracts.boxed.Box.into_raw as into_raw
use Rattle.std_alloc.proofs.boxed.Box.into_raw.Met.{met}
use Rattle.reo_handles.specs.Owned.{freeing}
use Rattle.reo_handles.proofs.Dropping.{no_drop, drops, heap_drops, session_drops}
use Rattle.reo_handles.proofs.Places.{SessionPlace, takes_place}
use Rattle.reo_handles.proofs.Rows.{Boxed, S, A, S-arg, A-arg, S-laws, A-laws, box_typed}
use Rattle.reo_handles.proofs.Words.{sole, in_struct}
use Rattle.reo_handles.proofs.place.SessionPlace.TheLaws.{lowered}
use Rattle.std_heap.specs.contracts.GlobalAllocator.TheImpl.{ghosts, dict}
use Rattle.std_heap.proofs.GlobalAllocator.TheImpl.Met.{passed}
use Rattle.reo_handles.specs.contracts.place.SessionPlace.of as f
use Rattle.reo_handles.proofs.place.SessionPlace.of.Statement.{statement}
use Rattle.reo_handles.proofs.place.SessionPlace.of.Code as code

abbrev stayed : Stays f.ended.signature.params f.ended.kept
stayed = (stay_dropped (plain (λ _. Boxed)) yes, tt)

pub of_spec : {M : Type 1} → statement M
of_spec 𝓤 𝓛 𝓜 𝓡 wired =
    let 𝓣 = tables 𝓤 𝓛.H 𝓜 𝓡 𝓡.env in let c = f.clauses 𝓛 𝓜.mem 𝓡.returns in let W = walk_of 𝓛 f.ended stayed c in
    let Raw = triple_of 𝓛 (into_raw.signature S-arg A-arg ghosts dict no_drop drops) (into_raw.spec S-arg A-arg ghosts dict no_drop drops 𝓛 𝓜.mem 𝓡.returns) in
    let life = ‵ (flft [] full_share) in
    proved_at 𝓛 f.ended stayed c 𝓜 𝓡 (Goes-dropped 𝓛 0 (plain (λ _. Boxed)) yes (λ κs x w. refl), tt) f.Key.name code.function (code.unfolded 𝓤 𝓛.H 𝓜 𝓡 wired) (λ z are.
    let v = z.0.3.0 in let vs = z.0.4.0 in let one = sole (layout Boxed) vs (box_typed 𝓛 v vs are.0) in let w = one.word in
    let y : Raw.Ghost = ((([], ([], tt)), (full_share, (full_share, tt)), tt, (v, tt), (w ∷ [], tt)), tt) in
    qed 𝓛 ((‵ ftrue ⊛ ‵ (fsep (Boxed.own_val v vs) ftrue)) ∷ raw (emp 𝓤) ∷ []) ∵
    keep ! (0 ∷ []) $ split ! $ drop ! $ rewrite ! 0 (λ (us : List Val). ‵ (fsep (Boxed.own_val v us) ftrue)) one.is refl $
    regoal ! (λ (us : List Val). prop (WpFn 𝓤 𝓛.H 𝓣.C 𝓣.Λ code.function (us ++ []) (W.post z))) one.is refl $
    enter ! 𝓣.C 𝓣.Λ code.function (w ∷ []) (W.post z) $ alloc_all ! (λ l. pass_all ! refl (one.suits, tt) $
    sets ! (of_opd ! (get ! refl)) refl one.suits $
    -- what the call asks: the lifetimes of its types, which never end, and the box
    nothing ! $ use0 𝓛 (raw (fact 𝓤 ([] ⊑ A.lives))) (fact_i 𝓤 ([] ⊑ A.lives) (emp 𝓤) (⊑_static [])) $ join ! $
    use0 𝓛 (raw (fact 𝓤 ([] ⊑ S.lives))) (fact_i 𝓤 ([] ⊑ S.lives) (emp 𝓤) (⊑_static [])) $ join ! $
    nothing ! $ use0 𝓛 life (𝓛.lfts.lft-nil full_share) $ join ! $ use0 𝓛 life (𝓛.lfts.lft-nil full_share) $ join ! $
    move ! (0 ∷ 2 ∷ []) $ join ! $ join ! $ use1 𝓛 (raw (Raw.pre y)) (id⊢ 𝓤 _) $
    calls_at ! (framed 𝓤 𝓛.H 𝓜 𝓣) Raw (met 𝓤 𝓛 𝓜 𝓡 (code.calls-std_alloc::boxed::Box::into_raw 𝓡.env wired) S-arg A-arg S-laws A-laws ghosts dict no_drop drops
    (passed 𝓡.env (code.calls-std_heap::GlobalAllocator::allocate 𝓡.env wired) (code.calls-std_heap::GlobalAllocator::deallocate 𝓡.env wired)
    (code.calls-std_heap::GlobalAllocator::grow 𝓡.env wired) (code.calls-std_heap::GlobalAllocator::shrink 𝓡.env wired) _ 𝓤 𝓛 𝓜 𝓡)
    (heap_drops 𝓤 𝓛 𝓜 𝓡 (code.calls-reo_handles::Destruct++none::drop 𝓡.env wired)) (session_drops 𝓤 𝓛 𝓜 𝓡 (code.calls-reo_handles::reo_handles++session++Session+Destruct::drop 𝓡.env wired))) y
    (and_then ! (get ! refl) (no_more !)) (λ u.
    use1 𝓛 (later (some (λ (r : Ptr). ((life ⊛ life ⊛ ‵ ftrue) ⊛ ‵ (RawPtr.own_val r (u ∷ []))) ⊛
    some (λ (ws : Lasts (into_raw.ended S-arg A-arg ghosts dict no_drop drops) y.0.0 y.0.3). ‵ (lasts (into_raw.ended S-arg A-arg ghosts dict no_drop drops) y.0.0 y.0.3 ws) ⊛ ‵ (box_owns freeing S-arg r v.value))))) (id⊢ 𝓤 _) $
    await ! tt $ pick ! (λ r. split ! $ split ! $ drop ! $ facts ! RawPtr (Is RawPtr) (shows 𝓛 RawPtr) r (u ∷ []) (λ is. pick ! (λ ws. split ! $ drop ! $
    let made : SessionPlace.Denot = record { at = r; session = Some v.value } in
    takes_place ! made $
    let suits = ((rawptr_Lawful 𝓛).typed r (ptr_val r ∷ []) refl).0 in
    lands_as ! (ap only (rawptr_Tells r (u ∷ []) is)) refl suits $
    sets ! (of_opd ! (get ! refl)) refl suits $
    sets ! (agg ! (and_then ! (get ! refl) (no_more !))) refl (in_struct ty_ptr (ptr_val r) suits) $
    returns ! (look_at ! 0 refl) $ free_all ! refl $
    suffices ! _ (ends_at 𝓛 f.ended stayed c z (lowered made) made (tt, tt) (tt, tt)) $ says ! refl $
    nothing ! $ nothing ! $ fjoin ! $ join ! $ nothing ! $ join ! $ done !))))))
