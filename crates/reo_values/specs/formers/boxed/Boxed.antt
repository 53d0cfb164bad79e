-- A box may be a part of the type of the value in it: it holds that one value, and its address is no part of what contracts see.
use mathlib.Core.Former.{Former, this, const, pair, via}
use mathlib.Core.Path.{refl}
use base.Fml.{ftrue}
use base.Stored.{gnil}
use denote.Hole.Fix.{over}
use denote.HoleLaws.{Alike}
use denote.HolePlaces.{Recodes, laid, one_value, struct_places}
use denote.Memory.{part_of}
use denote.Model.Placed.{view_places}
use denote.Param.Weighed.{Weighed}
use denote.RattleType.{RattleType}
use denote.RawPtr.{Ptr}
use denote.Sharing.{nothing}
use Rattle.std.specs.contracts.alloc.Global as global
use Rattle.std.specs.contracts.boxed.Box as plain
use Rattle.std.specs.contracts.impls.GlobalAllocator.TheImpl.{ghosts}
use Rattle.std.specs.declared.alloc.Global.{Global}
use Rattle.std.specs.declared.boxed.Box.{Box}
use Rattle.reo_values.specs.contracts.boxed.Boxed as contract
use Rattle.reo_values.specs.contracts.boxed.Boxed.TheInside as inside
use Rattle.reo_values.specs.declared.boxed.Boxed.TheInside.{Inside}
use Rattle.reo_values.specs.declared.boxed.Boxed.TheView.{view, invariant}

-- its values over other values: those themselves
abbrev pub the_former : Former {0} → Former {0}
the_former inner = inner

-- it weighs what the value in it weighs
abbrev pub the_weighed : {inner : Former {0}} → Weighed inner → Weighed (the_former inner)
the_weighed weights = weights

-- the struct itself: an address and an allocator, which stay, and the value
abbrev stored : Former {0}
stored = via (pair (const (Ptr × Global)) this) Inside (λ X b. ((b.inner.ptr, b.inner.alloc), b.inner.value))
    (λ X p. record { inner = record { ptr = p.0.0; alloc = p.0.1; value = p.1 } }) (λ X b. refl) (λ X p. refl)

-- the same box with another value in it
abbrev holding : {X Y : Type 0} → Box X Global → Y → Box Y Global
holding box y = record { ptr = box.ptr; alloc = box.alloc; value = y }

abbrev plain_row : RattleType → RattleType
plain_row R = plain.the_row R global.the_row ghosts

module _ (R R' : RattleType) (h : R.Denot → R'.Denot) where
  plain_places : Alike R R' h → Alike (plain_row R) (plain_row R') (λ box. holding box (h box.value))
  unfolding part_of
  plain_places alike = record {
    mir_same = λ i. (plain_row (one_value R (alike.mir_same i) (λ _. ftrue) (λ _ _. nothing) gnil)).mir;
    own_same = λ box i. (plain_row (one_value R (alike.mir_same i) (alike.own_same box.value i) (alike.shr_same box.value i) gnil)).own_val (holding box tt);
    shr_same = λ box i. (plain_row (one_value R (alike.mir_same i) (alike.own_same box.value i) (alike.shr_same box.value i) gnil)).shr_at (holding box tt);
  }

  -- it lies, owns and lends as the value in it does
  pub the_places : Alike R R' h → Alike (contract.the_row R) (contract.the_row R') ((the_former this).map R.Denot R'.Denot h)
  the_places alike =
      let fields = struct_places (inside.the_type R) (inside.the_type R') ((λ box. holding box (h box.value)), tt) _ (λ d. refl) refl (laid _ _ _ (plain_places alike), tt) in
      view_places stored this view (λ X Y k u. refl) (λ X u. refl) R.Denot R'.Denot h (contract.the_row R).coded (contract.the_row R').coded
      (invariant R.Denot) (invariant R'.Denot) (λ u p q. refl) (λ u p q. refl) (λ u e. tt) (λ u e. tt)
      (over (inside.the_row R)) (over (inside.the_row R')) fields

  -- and is coded as that value is
  pub the_codes_placed : Recodes R R' h → Recodes (contract.the_row R) (contract.the_row R') ((the_former this).map R.Denot R'.Denot h)
  the_codes_placed codes value = codes value
