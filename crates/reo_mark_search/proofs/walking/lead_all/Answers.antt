use Rattle.std.proofs.Common.{◌≡◌, ◌∙◌, ◌+◌, ℕ, List, length, slice_index, take, sym, ap, subst, arith}
use Rattle.reo_net_base.specs.Behaviour.{Behaviour}
use Rattle.reo_net_base.specs.First.{is_leading}
use Rattle.reo_net_base.specs.Net.{Net, net_of, no_side}
use Rattle.reo_net_laws.specs.Keys.{leads_at}
use Rattle.reo_mark_sets.specs.declared.marks.PlainMarks.{PlainMarks}
use Rattle.reo_mark_search.specs.Places.{lead_places}
use Rattle.reo_mark_search.specs.Searched.{in_part}
use Rattle.reo_mark_search.specs.Walking.{GoesOn}
use Rattle.reo_mark_search.proofs.Parts.{side_here, side_below}
use Rattle.reo_mark_search.proofs.Steps.{lead_next, lead_skip}
use Rattle.reo_mark_search.proofs.walking.lead_all.Goals as goal
use Rattle.reo_mark_search.proofs.walking.lead_all.Goals.{else-leads-via-then-leads+else-not-class_at, else-leads-via-else-leads}

pub class_at-requires-clause-side : goal.class_at-requires-clause-side
class_at-requires-clause-side g c =
    side_below (net_of g.P.Primitive.behaviour c.args.searched.now.circuit.now) c.args.searched.now.knots.now c.requires.searched.knots c.args.searched.now.part c.requires.searched.part c.sides-sides.result.now c.sides-sides.ensures c.loop-index.index (omega arith)

pub class_at-requires-clause-here : goal.class_at-requires-clause-here
class_at-requires-clause-here g c =
    side_here (net_of g.P.Primitive.behaviour c.args.searched.now.circuit.now) c.args.searched.now.knots.now c.requires.searched.knots c.args.searched.now.part c.requires.searched.part c.sides-sides.result.now c.sides-sides.ensures c.loop-index.index (omega arith)

pub owner-owner-requires : goal.owner-owner-requires
owner-owner-requires g c =
    side_below (net_of g.P.Primitive.behaviour c.args.searched.now.circuit.now) c.args.searched.now.knots.now c.requires.searched.knots c.args.searched.now.part c.requires.searched.part c.sides-sides.result.now c.sides-sides.ensures c.loop-index.index (omega arith)

pub loop-index-preserved : goal.loop-index-preserved
loop-index-preserved g c =
    let net : Net = net_of g.P.Primitive.behaviour c.args.searched.now.circuit.now in
    let inside = in_part c.args.searched.now in
    let sides : List ℕ = c.sides-sides.result.now in
    let n : ℕ = c.loop-index.index in
    let inv = c.loop-index.invariant in
    let leads : leads_at net (slice_index sides n) ≡ c.leads.result =
    ap is_leading (c.owner-owner.ensures.owner no_side) ∙ sym (c.leads.ensures ∙ ap (λ (b : Behaviour). b.leads c.owner-owner.result.side) c.primitive.ensures.behaviour) in
    elim c.else-leads.branch [
      | else-leads-via-then-leads+else-not-class_at w ↦
          record {
            one_each = ap (λ (s : List PlainMarks). length s) w.sets-is ∙ w.class_at.ensures.one_each ∙ inv.one_each;
            goes_on = subst (λ (s : List PlainMarks). GoesOn net inside (lead_places net c.args.searched.now.turn (take (n + 1) sides)) c.args.sets.now s) (sym w.sets-is)
                (lead_next net c.args.searched.now.turn inside sides n (omega arith) c.args.sets.now c.loop-index.sets w.class_at.new.sets (leads ∙ w.if-leads.true) inv.goes_on w.class_at.ensures.goes_on);
          }
      | else-leads-via-else-leads w ↦
          record {
            one_each = ap (λ (s : List PlainMarks). length s) w.sets-is ∙ inv.one_each;
            goes_on = subst (λ (s : List PlainMarks). GoesOn net inside (lead_places net c.args.searched.now.turn (take (n + 1) sides)) c.args.sets.now s) (sym w.sets-is)
                (lead_skip net c.args.searched.now.turn inside sides n (omega arith) c.args.sets.now c.loop-index.sets c.loop-index.sets (leads ∙ w.if-leads.false) inv.goes_on);
          }
    ]
