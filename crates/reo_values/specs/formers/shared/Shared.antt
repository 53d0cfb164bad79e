-- A shared value may be a part of the type of the value in it: it holds that one value, and neither its address nor its owners are a part of what contracts see.
use mathlib.Core.Former.{Former, this, const, pair, via}
use mathlib.Core.Path.{refl}
use base.Fml.{ftrue}
use base.Stored.{gnil}
use denote.Hole.Fix.{over}
use denote.HoleLaws.{Alike}
use denote.HolePlaces.{Recodes, laid, one_value, struct_places}
use denote.Memory.{part_of}
use denote.Model.Placed.{view_places}
use denote.Param.Weighed.{Weighed}
use denote.RattleType.{RattleType}
use denote.RawPtr.{Ptr}
use denote.Sharing.{nothing}
use Rattle.std.specs.contracts.alloc.Global as global
use Rattle.std.specs.contracts.rc.Rc as plain
use Rattle.std.specs.contracts.impls.GlobalAllocator.TheImpl.{ghosts}
use Rattle.std.specs.declared.alloc.Global.{Global}
use Rattle.std.specs.declared.rc.Rc.{Rc}
use Rattle.reo_values.specs.contracts.shared.Shared as contract
use Rattle.reo_values.specs.contracts.shared.Shared.TheInside as inside
use Rattle.reo_values.specs.declared.shared.Shared.TheInside.{Inside}
use Rattle.reo_values.specs.declared.shared.Shared.TheView.{view, invariant}

-- its values over other values: those themselves
abbrev pub the_former : Former {0} → Former {0}
the_former inner = inner

-- it weighs what the value in it weighs
abbrev pub the_weighed : {inner : Former {0}} → Weighed inner → Weighed (the_former inner)
the_weighed weights = weights

-- the struct itself: an address, which stays, and the value
abbrev stored : Former {0}
stored = via (pair (const Ptr) this) Inside (λ X s. (s.inner.ptr, s.inner.value))
    (λ X p. record { inner = record { ptr = p.0; value = p.1 } }) (λ X s. refl) (λ X p. refl)

-- the same owner of another value
abbrev holding : {X Y : Type 0} → Rc X Global → Y → Rc Y Global
holding owner y = record { ptr = owner.ptr; value = y }

abbrev plain_row : RattleType → RattleType
plain_row R = plain.the_row R global.the_row ghosts

module _ (R R' : RattleType) (h : R.Denot → R'.Denot) where
  plain_places : Alike R R' h → Alike (plain_row R) (plain_row R') (λ owner. holding owner (h owner.value))
  unfolding part_of
  plain_places alike = record {
    mir_same = λ i. (plain_row (one_value R (alike.mir_same i) (λ _. ftrue) (λ _ _. nothing) gnil)).mir;
    own_same = λ owner i. (plain_row (one_value R (alike.mir_same i) (alike.own_same owner.value i) (alike.shr_same owner.value i) gnil)).own_val (holding owner tt);
    shr_same = λ owner i. (plain_row (one_value R (alike.mir_same i) (alike.own_same owner.value i) (alike.shr_same owner.value i) gnil)).shr_at (holding owner tt);
  }

  -- it lies, owns and lends as the value in it does
  pub the_places : Alike R R' h → Alike (contract.the_row R) (contract.the_row R') ((the_former this).map R.Denot R'.Denot h)
  the_places alike =
      let fields = struct_places (inside.the_type R) (inside.the_type R') ((λ owner. holding owner (h owner.value)), tt) _ (λ d. refl) refl (laid _ _ _ (plain_places alike), tt) in
      view_places stored this view (λ X Y k u. refl) (λ X u. refl) R.Denot R'.Denot h (contract.the_row R).coded (contract.the_row R').coded
      (invariant R.Denot) (invariant R'.Denot) (λ u p q. refl) (λ u p q. refl) (λ u e. tt) (λ u e. tt)
      (over (inside.the_row R)) (over (inside.the_row R')) fields

  -- and is coded as that value is
  pub the_codes_placed : Recodes R R' h → Recodes (contract.the_row R) (contract.the_row R') ((the_former this).map R.Denot R'.Denot h)
  the_codes_placed codes value = codes value
