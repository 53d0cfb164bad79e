-- A place by its word, and by what it owns. Assumes `Logic`.
use Rattle.std.proofs.Common.{◌≡◌, List, [], ◌∷◌, refl}
use Rattle.std.specs.Prelude.{Option, Some, None, IsSome}
use seplogic.Ra.Ura.{Ura}
use mir.Val.{Val}
use types.Logic.{Logic}
use types.Kit.{Item, Goal, Seq, Step, step, ‵, ◌$◌, drop, fsplit, fjoin}
use denote.RattleType.{RattleType}
use denote.Laws.{Is, shows}
use denote.RawPtr.{ptr_val, rawptr_pure}
use denote.Steps.{owned, peeks}
use denote.Struct.Struct.{Struct, Struct-Makes}
use denote.Struct.Owning.{shape}
use Rattle.reo_handles.specs.Owned as memory
use Rattle.reo_handles.specs.contracts.place.SessionPlace as place
use Rattle.reo_handles.proofs.place.SessionPlace.TheLaws.{lowers, lowered}

abbrev pub SessionPlace : RattleType
SessionPlace = place.the_row

-- There is a value.
pub found : {X : Type 0} (o : Option X) → IsSome o → (x : X) × (o ≡ Some x)
found (Some x) some = (x, refl)
found None some = absurd (cc)

module _ {M : Type 1} {𝓤 : Ura M} {𝓛 : Logic 𝓤} {K : Type 0} {Γ : List (Item 𝓤)} {G : Goal 𝓤 𝓛.H} where
  pub leaves_place : K → (d : SessionPlace.Denot) (vs : List Val)
      → (vs ≡ lowered d ∷ [] → Seq K 𝓛 (‵ (memory.owned d.at d.session) ∷ Γ) G) → Seq K 𝓛 (‵ (SessionPlace.own_val d vs) ∷ Γ) G
  leaves_place t d vs k = peeks t SessionPlace (Is SessionPlace) (shows 𝓛 SessionPlace) d vs (λ is. fsplit t $ drop t $ k (lowers.val_is d vs is))

  pub takes_place : K → (d : SessionPlace.Denot)
      → Step K 𝓛 (‵ (SessionPlace.own_val d (lowered d ∷ [])) ∷ Γ) G (‵ (memory.owned d.at d.session) ∷ Γ) G
  takes_place t d = step (λ s.
      owned t (Struct (shape place.the_type)) (Is (Struct (shape place.the_type))) (Struct-Makes 𝓛 (shape place.the_type) (rawptr_pure, tt)) (d.at, tt) (lowered d ∷ []) ((ptr_val d.at ∷ [], tt), (refl, (refl, tt))) $
      fjoin t $ s)
