-- What runs of `told` is one struct with no field, which is had for nothing whichever lines are told of it. Assumes `Logic`.
use Rattle.std.proofs.Common.{[], ◌∷◌, refl}
use Rattle.std.proofs.raw_atomic.Walks.{proved}
use mir.MapTy.{inst_fn}
use mir.Syntax.{Args, Fn, a_type, named}
use mir.Val.{Val, vnil, vstruct}
use types.Kit.{‵, raw, ◌⊛◌, ◌$◌, ◌∵◌, !, qed, keep, move, split, join, suffices, done}
use types.Part.{agg}
use types.Run.{enter, no_more, returns}
use types.ByLocal.{alloc_all, free_all, look_at, pass_all, sets}
use denote.Builtin.{RefOf}
use denote.Exit.{yes}
use denote.Param.{layouts, param}
use denote.RattleType.{RattleType, owns}
use denote.Ref.{shr_Tells, shr_vals}
use denote.Shadow.{pure_i}
use denote.Signature.{plain, type_at, types_at}
use denote.Steps.{nothing}
use denote.Triple.Entry.{alive}
use denote.Triple.Walked.{Goes-dropped, Stays, ends_at, says, stay_dropped}
use Rattle.reo_trace_reader.specs.contracts.given.GivenLines.told as told
use Rattle.reo_trace_reader.proofs.given.GivenLines.told.Code as code
use Rattle.reo_trace_reader.proofs.given.GivenLines.told.Statement.{statement}

-- Nothing is done with what is shown.
abbrev unused : (T : RattleType) → Stays (told.signature T).params (told.ended T).kept
unused T = (stay_dropped _ yes, tt)

pub told_spec : {M : Type 1} → statement M
told_spec 𝓤 𝓛 𝓜 𝓡 wired T laws =
    let at : Args = layouts (a_type ∷ []) (T, tt) in
    let function : Fn = inst_fn at code.function in
    let signature = told.signature T in
    let clauses = told.clauses T 𝓛 𝓜.mem 𝓡.returns in
    let bare : Val = vstruct vnil in
    proved 𝓛 (told.ended T) (unused T) clauses 𝓜 𝓡
    (Goes-dropped 𝓛 2 (RefOf (0 ∷ []) tt (plain (λ _. param 0 T)) (λ _. tt)) yes (λ κs x w. refl), tt)
    (told.Key.name at) function (code.unfolded 𝓤 𝓛.H 𝓜 𝓡 wired (T, tt))
    (λ κs. (shr_vals, tt)) (λ κs. (shr_Tells (named 0) κs.0 (param 0 T), tt)) (λ κs qs bounds shown lines are.
    qed 𝓛 ((raw (alive 𝓛 signature κs qs) ⊛ ‵ (owns (types_at signature.params κs) shown (shr_vals shown.0, tt))) ∷ raw ((clauses κs shown).requires lines) ∷ [])
    ∵ split ! $ keep ! (0 ∷ []) $ enter ! _ _ _ _ _ $ alloc_all ! (λ l. pass_all ! refl ((tt, tt), tt) $
    sets ! (agg ! (no_more !)) refl (tt, tt) $ returns ! (look_at ! 0 refl) $ free_all ! refl $
    suffices ! _ (ends_at 𝓛 (told.ended T) (unused T) clauses ((κs, qs, bounds, shown, (shr_vals shown.0, tt)), lines) bare (record { lines = lines }) (tt, tt) (tt, tt)) $
    says ! refl $ pure_i ! ((type_at signature.result κs).own_val (record { lines = lines }) (bare ∷ [])) ((λ _. (tt, tt)), tt) ((tt, (refl, tt)), tt) $
    nothing ! $ nothing ! $ join ! $ move ! (2 ∷ []) $ done !))
