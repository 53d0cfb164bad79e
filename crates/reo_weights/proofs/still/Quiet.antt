-- Items and flow of a set.
use Rattle.std.proofs.Common.{◌≡◌, ◌≢◌, inl, inr, ℕ, List, Option, None, Some, true, get_or, refl, ap, subst, ◌∙◌}
use Rattle.reo_values.specs.declared.value.Value.{Value}
use Rattle.reo_net_base.specs.declared.mark.Mark.TheVariants.{F}
use Rattle.reo_net_base.specs.declared.joint.End.{End}
use Rattle.reo_net_base.specs.declared.joint.Joint.{Joint}
use Rattle.reo_net_base.specs.Net.{Net, side_at, mark_at}
use Rattle.reo_net_base.specs.Colouring.{ItemFits}
use Rattle.reo_net_base.proofs.Marks.{giver_flows}
use Rattle.reo_net_laws.proofs.Joined.{joint_of}
use Rattle.reo_weights.specs.still.Still.{StillPartsHaveNoItems, PartsWithoutItemsAreStill}

no_item : (net : Net) (rows : List ℕ) (items : List (Option Value)) (joint : Joint) (item : Option Value) → mark_at net rows joint.giver ≢ F → ItemFits net rows items joint item → item ≡ None
no_item net rows items joint None calm fits = refl
no_item net rows items joint (Some item) calm fits = absurd (calm fits.flows)

-- Where no giver flows, no joint has an item.
pub still_no_items : StillPartsHaveNoItems
still_no_items net wired inside rows items is still j d lt h =
    let joint : Joint = get_or net.joints j d in
    no_item net rows items joint (get_or items j None) (still joint.giver (wired.givers j d lt) h) (is.items_fit j d lt h)

-- Where no joint has an item, neither of its ends flows.
pub no_items_still : PartsWithoutItemsAreStill
no_items_still net wired inside closed rows items is without e e_in h flows =
    let found = joint_of net wired e e_in in
    let j : ℕ = found.0 in
    let d : Joint = record { giver = e; taker = e } in
    let joint : Joint = get_or net.joints j d in
    let calm : inside (side_at net joint.giver) ≡ true → mark_at net rows joint.giver ≢ F = λ g.
    subst (λ (item : Option Value). ItemFits net rows items joint item) (without j d found.1 g) (is.items_fit j d found.1 g) in
    elim (found.2 d) [
      | inl giver ↦ calm (ap (λ (x : End). inside (side_at net x)) giver ∙ h) (ap (mark_at net rows) giver ∙ flows)
      | inr taker ↦
          let g : inside (side_at net joint.giver) ≡ true = closed.along j d found.1 ∙ ap (λ (x : End). inside (side_at net x)) taker ∙ h in
          calm g (giver_flows (mark_at net rows joint.giver) (mark_at net rows joint.taker) (is.matched j d found.1 g) (ap (mark_at net rows) taker ∙ flows))
    ]
