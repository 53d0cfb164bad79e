-- A null pointer, which owns nothing. Assumes `Logic`.
use Rattle.std.proofs.Common.{[], ◌∷◌, refl, lit<}
use Rattle.std.specs.Prelude.{None}
use base.Logic.{emp}
use types.Kit.{raw, ◌$◌, ◌∵◌, !, qed, keep, join, suffices, done}
use types.Part.{agg}
use types.Run.{enter, returns, lit, and_then, no_more}
use types.ByLocal.{alloc_all, pass_all, free_all, look_at, sets}
use denote.RawPtr.{null_ptr}
use denote.Steps.{nothing}
use denote.Triple.Entry.{on_entry}
use denote.Triple.Walked.{says, ends_at}
use Rattle.std.proofs.raw_atomic.Walks.{proved_at}
use Rattle.reo_handles.proofs.Places.{SessionPlace, takes_place}
use Rattle.reo_handles.proofs.place.SessionPlace.TheLaws.{lowered}
use Rattle.reo_handles.specs.contracts.place.SessionPlace.nowhere as f
use Rattle.reo_handles.proofs.place.SessionPlace.nowhere.Statement.{statement}
use Rattle.reo_handles.proofs.place.SessionPlace.nowhere.Code as code

pub nowhere_spec : {M : Type 1} → statement M
nowhere_spec 𝓤 𝓛 𝓜 𝓡 wired =
    let c = f.clauses 𝓛 𝓜.mem 𝓡.returns in let none : SessionPlace.Denot = record { at = null_ptr; session = None } in
    proved_at 𝓛 f.ended tt c 𝓜 𝓡 tt f.Key.name code.function (code.unfolded 𝓤 𝓛.H 𝓜 𝓡 wired) (λ z are.
    qed 𝓛 (raw (on_entry 𝓛 f.signature z.0.0 z.0.1 z.0.3 z.0.4) ∷ raw (emp 𝓤) ∷ []) ∵ keep ! [] $
    enter ! _ _ _ _ _ $ alloc_all ! (λ l. pass_all ! refl tt $
    sets ! (agg ! (and_then ! (lit ! tt) (no_more !))) refl (tt, (record { fits = lit< tt }, tt)) $
    returns ! (look_at ! 0 refl) $ free_all ! refl $
    suffices ! _ (ends_at 𝓛 f.ended tt c z (lowered none) none tt tt) $ says ! refl $
    nothing ! $ takes_place ! none $ nothing ! $ join ! $ nothing ! $ join ! $ done !))
