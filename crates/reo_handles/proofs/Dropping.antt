-- Dropping a session, as a call wants it that takes the types of what it is given. Assumes `Logic`.
use Rattle.std.proofs.Common.{[], ◌∷◌, refl}
use seplogic.Ra.Ura.{Ura}
use mir.Syntax.{Callee, Dict, impl, tcons, tnil, dnil, method}
use prog.Model.{Model}
use prog.Wired.{Wired}
use types.Logic.{Logic}
use contract.Running.{Running}
use denote.Param.{layout, layouts}
use denote.Param.Glue as glue
use denote.Param.NoDrop.{glues}
use denote.Triple.Carry.{AllWithin}
use denote.Triple.Clauses.{Ended, Lasts, lasts, at_exit}
use denote.Triple.Walked.{Fit}
use borrow.Fn.Glue.{glue_by, glue_ps}
use borrow.Fn.Impl.{via_longer, method_Known}
use borrow.Fn.Kinds.{ended_of, stays, r_unit}
use borrow.Fn.Run.{Over}
use borrow.Fn.World.{World}
use Rattle.reo_handles.proofs.Rows.{S-arg, A-arg, S-laws, A-laws}
use Rattle.reo_handles.proofs.Destruct++none.drop.Symbol as none
use Rattle.reo_handles.proofs.Destruct++none.drop.Code as none_code
use Rattle.reo_handles.proofs.reo_handles++session++Session+Destruct.drop.Kinds as kinds
use Rattle.reo_handles.proofs.reo_handles++session++Session+Destruct.drop.Met as drop
use Rattle.reo_handles.proofs.reo_handles++session++Session+Destruct.drop.Reads as reads
use Rattle.reo_handles.proofs.reo_handles++session++Session+Destruct.drop.Symbol as symbol

-- Nothing, which is how the heap's handle is dropped.
abbrev pub no_drop : Dict
no_drop = impl (none.symbol ∷ []) (tcons (layout A-arg) tnil) dnil

-- The `drop` of a session.
abbrev pub drops : Dict
drops = impl (symbol.symbol ∷ []) tnil dnil

abbrev called : Callee
called = method drops 0 (layouts [] tt)

abbrev ended : Ended
ended = ended_of 0 kinds.ps kinds.r

module _ {M : Type 1} (𝓤 : Ura M) (𝓛 : Logic 𝓤) (𝓜 : Model 𝓤 𝓛.H) (𝓡 : Running 𝓤 𝓛.H 𝓜) where
  abbrev W : World
  W = record { M = M; 𝓤 = 𝓤; 𝓛 = 𝓛; 𝓜 = 𝓜; 𝓡 = 𝓡 }

  pub heap_drops : Wired 𝓡.env none.code → glue.Met 𝓛 𝓜 𝓡 𝓡.env A-arg no_drop
  unfolding none_code.code
  heap_drops wired = glues none.symbol 𝓡.env wired A-arg A-laws M 𝓤 𝓛 𝓜 𝓡

  pub session_drops : Wired 𝓡.env symbol.code → glue.Met 𝓛 𝓜 𝓡 𝓡.env S-arg drops
  session_drops wired =
      glue_by S-arg S-laws W drops 𝓡.env (λ κs a. Lasts ended tt a) (λ κs a. lasts ended tt a)
      (λ κs a x ws. Fit ended (stays kinds.ps) tt a ws × reads.Learnt tt a x (at_exit ended tt a ws))
      (λ κs a. AllWithin 1 (κs.0, tt) (S-arg.lives, tt) × Unit {0}) 0 tt (λ κs a h. ((h, tt), tt))
      (via_longer 𝓛 (Over 𝓛 𝓜 𝓡 𝓡.env) 1 (glue_ps S-arg S-laws) r_unit (λ κs a. Lasts ended tt a) (λ κs a. lasts ended tt a)
      (λ κs a x ws. Fit ended (stays kinds.ps) tt a ws × reads.Learnt tt a x (at_exit ended tt a ws))
      (λ κs a. AllWithin 1 (κs.0, tt) (S-arg.lives, tt) × Unit {0}) called 0 tt (λ κs. tt) (λ κs a. reads.Asked tt a) (λ κs a p. (tt, tt))
      (λ κs bounds within a vss qs. method_Known 0 kinds.ps kinds.r reads.requires reads.ensures reads.Asked reads.Learnt reads.known W symbol.name called
      (symbol.as_method 𝓡.env wired called refl) (drop.met 𝓤 𝓛 𝓜 𝓡 wired) ((tt, qs, tt, a, vss), tt)))
