-- What rows say of an end of a set, in circuits that are alike on the set.
use Rattle.std.proofs.Common.{◌≡◌, ℕ, ◌<◌, List, Bool, Option, true, false, refl, ap, sym, ◌∙◌}
use Rattle.reo_values.specs.declared.value.Value.{Value}
use Rattle.reo_net_base.specs.declared.mark.Mark.TheVariants.{F}
use Rattle.reo_net_base.specs.declared.joint.End.{End}
use Rattle.reo_net_base.specs.declared.joint.Joint.{Joint}
use Rattle.reo_net_base.specs.Behaviour.{Behaviour}
use Rattle.reo_net_base.specs.Lawful.{SameShape, GivesAt}
use Rattle.reo_net_base.specs.Net.{Net, behaviour_at, side_at}
use Rattle.reo_net_base.specs.Wired.{IsWired, IsEnd}
use Rattle.reo_net_laws.specs.Ends.{mark_in, from_in}
use Rattle.reo_net_laws.specs.Alike.{SameSide, AreAlike}
use Rattle.reo_weights.proofs.Sides.{side_at_place}

module _ (bs ds : List Behaviour) (js : List Joint) (wired : IsWired (record { primitives = bs; joints = js })) (inside : ℕ → Bool)
    (alike : AreAlike (record { primitives = bs; joints = js }) (record { primitives = ds; joints = js }) inside)
    (e : End) (e_in : IsEnd bs e) (h : inside (side_at (record { primitives = bs; joints = js }) e) ≡ true) where
  abbrev net : Net
  net = record { primitives = bs; joints = js }

  abbrev other : Net
  other = record { primitives = ds; joints = js }

  abbrev b : Behaviour
  b = behaviour_at bs e.primitive

  abbrev d : Behaviour
  d = behaviour_at ds e.primitive

  shape : SameShape (behaviour_at bs e.primitive) (behaviour_at ds e.primitive)
  shape = alike.shape e.primitive e_in.0

  same : SameSide (behaviour_at bs e.primitive) (behaviour_at ds e.primitive) ((behaviour_at bs e.primitive).side_of e.end)
  same = alike.sides e.primitive (b.side_of e.end) e_in.0 ((wired.lawful e.primitive e_in.0).sides_in e.end e_in.1) (ap inside (sym (side_at_place net e)) ∙ h)

  -- The table has as many rows.
  pub rows_alike : (behaviour_at ds e.primitive).rows ((behaviour_at ds e.primitive).side_of e.end) ≡ (behaviour_at bs e.primitive).rows ((behaviour_at bs e.primitive).side_of e.end)
  rows_alike = ap d.rows (shape.side_of e.end) ∙ same.rows

  module _ (row : ℕ) (row_in : row < (behaviour_at bs e.primitive).rows ((behaviour_at bs e.primitive).side_of e.end)) where
    -- The row has the same mark at the end.
    pub mark_alike : mark_in other row e ≡ mark_in net row e
    unfolding mark_in
    mark_alike = ap (λ (s : ℕ). d.mark s row e.end) (shape.side_of e.end) ∙ same.mark row e.end row_in (e_in.1, refl)

    -- The row lets the same items in at the end.
    pub passes_alike : (behaviour_at bs e.primitive).takes_in e.end ≡ true → (item : Value)
        → (behaviour_at ds e.primitive).passes ((behaviour_at ds e.primitive).side_of e.end) row e.end item ≡ (behaviour_at bs e.primitive).passes ((behaviour_at bs e.primitive).side_of e.end) row e.end item
    passes_alike takes item = ap (λ (s : ℕ). d.passes s row e.end item) (shape.side_of e.end) ∙ same.passes row e.end item row_in (e_in.1, refl) takes

    -- An end that gives with flow.
    module _ (gives : (behaviour_at bs e.primitive).takes_in e.end ≡ false) (flows : mark_in (record { primitives = bs; joints = js }) row e ≡ F) where
      gives_at : GivesAt (behaviour_at bs e.primitive) ((behaviour_at bs e.primitive).side_of e.end) row e.end
      unfolding mark_in
      gives_at = record { of_side = (wired.lawful e.primitive e_in.0).sides_in e.end e_in.1; in_table = row_in; is_end = (e_in.1, refl); gives = gives; flows = flows }

      -- The same end decides what the row gives.
      pub from_alike : from_in other row e ≡ from_in net row e
      unfolding from_in
      from_alike = ap (λ (s : ℕ). d.from s row e.end) (shape.side_of e.end) ∙ same.from row e.end gives_at

      -- The row gives the same for the same item.
      pub given_alike : (taken : Option Value)
          → (behaviour_at ds e.primitive).given ((behaviour_at ds e.primitive).side_of e.end) row e.end taken ≡ (behaviour_at bs e.primitive).given ((behaviour_at bs e.primitive).side_of e.end) row e.end taken
      given_alike taken = ap (λ (s : ℕ). d.given s row e.end taken) (shape.side_of e.end) ∙ same.given row e.end taken gives_at
