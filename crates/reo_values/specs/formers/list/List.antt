-- A list may be a part of the type of its own items: what it holds are its vector's elements, in their order.
use mathlib.Core.Former.{Former, this, list, via, children}
use mathlib.Core.List.{List, []}
use mathlib.Core.Path.{◌≡◌, refl, sym}
use base.Stored.{code_map}
use denote.Hole.Carrier.{listed, list-listed}
use denote.Hole.Fix.{over}
use denote.HoleLaws.{Alike}
use denote.HolePlaces.{Recodes, laid, struct_places}
use denote.Model.Placed.{view_places}
use denote.Param.Weighed.{Weighed, w_list}
use denote.RattleType.{RattleType}
use Rattle.std.specs.contracts.alloc.Global as global
use Rattle.std.specs.contracts.impls.GlobalAllocator.TheImpl.{ghosts}
use Rattle.std.specs.declared.alloc.Global.{Global}
use Rattle.std.specs.formers.vec.Vec as held
use Rattle.reo_values.specs.contracts.list.List as contract
use Rattle.reo_values.specs.contracts.list.List.TheInside as inside
use Rattle.reo_values.specs.declared.list.List.TheInside.{Inside}
use Rattle.reo_values.specs.declared.list.List.TheView.{view, invariant}

-- its values over other values: lists of them
abbrev pub the_former : Former {0} → Former {0}
the_former inner = list inner

-- it weighs as much as its heaviest item
abbrev pub the_weighed : {inner : Former {0}} → Weighed inner → Weighed (the_former inner)
the_weighed weights = w_list weights

-- a list needs no item
pub the_empty : List ⊥
the_empty = []

-- its items, which are what it holds
abbrev pub the_items : (X : Type 0) → List X → List X
the_items X items = items

pub the_items_listed : (X : Type 0) (items : List X) → listed _ (children (the_former this) X items) ≡ the_items X items
the_items_listed X items = list-listed X items

-- the struct itself, which is a vector in one field
abbrev stored : Former {0}
stored = via (held.the_former this Global) Inside (λ X l. l.vec) (λ X v. record { vec = v }) (λ X l. refl) (λ X v. refl)

module _ (R R' : RattleType) (h : R.Denot → R'.Denot) where
  -- it lies, owns and lends as its items do
  pub the_places : Alike R R' h → Alike (contract.the_row R) (contract.the_row R') ((the_former this).map R.Denot R'.Denot h)
  the_places alike =
      let fields = struct_places (inside.the_type R) (inside.the_type R') (held.mapped h, tt) _ (λ d. refl) refl (laid _ _ _ (held.the_places global.the_row ghosts R R' h alike), tt) in
      view_places stored (list this) view (λ X Y k u. refl) (λ X u. refl) R.Denot R'.Denot h (contract.the_row R).coded (contract.the_row R').coded
      (invariant R.Denot) (invariant R'.Denot) (λ u p q. refl) (λ u p q. refl) (λ u e. tt) (λ u e. tt)
      (over (inside.the_row R)) (over (inside.the_row R')) fields

  -- and is coded as its items are
  pub the_codes_placed : Recodes R R' h → Recodes (contract.the_row R) (contract.the_row R') ((the_former this).map R.Denot R'.Denot h)
  the_codes_placed codes items = sym (code_map R.coded.code R'.coded.code h (λ x. sym (codes x)) items)
