use Rattle.std.proofs.Common.{List, ◌+◌, ◌∙◌, sym, subst, arith}
use Rattle.reo_net_base.specs.Net.{Net, net_of, no_side}
use Rattle.reo_refute_parts.specs.declared.places.place.SidePlace.{SidePlace}
use Rattle.reo_refute_parts.proofs.places.PlaceLemmas.{LeadingFrom, leading_added, leading_skipped}
use Rattle.reo_refute_parts.proofs.places.places.leading_places.Goals.{then-leads+in_ok-push, else-leads}
use Rattle.reo_refute_parts.proofs.places.places.leading_places.Goals as goal

pub loop-side-preserved : goal.loop-side-preserved
loop-side-preserved g c =
    let net : Net = net_of g.P.Primitive.behaviour c.args.circuit.now in
    elim c.if-leads.branch [
      | then-leads+in_ok-push w ↦
          subst (λ (l : List SidePlace). LeadingFrom net l (c.loop-side.side + 1)) (sym (w.places-is ∙ w.in_ok-push.ensures.ok))
          (leading_added net c.loop-side.places c.loop-side.side (omega arith) (sym (c.leads.ensures no_side) ∙ w.if-leads.true) c.loop-side.invariant)
      | else-leads w ↦
          subst (λ (l : List SidePlace). LeadingFrom net l (c.loop-side.side + 1)) (sym w.places-is)
          (leading_skipped net c.loop-side.places c.loop-side.side (omega arith) (sym (c.leads.ensures no_side) ∙ w.if-leads.false) c.loop-side.invariant)
    ]
