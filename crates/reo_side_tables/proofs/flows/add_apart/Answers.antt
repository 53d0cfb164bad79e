use Rattle.std.proofs.Common.{◌≡◌, ◌≢◌, inl, inr, ℕ, ◌+◌, length, get_or, sym, ◌∙◌, ap, subst, arith}
use Rattle.std.specs.Bool.{◌==◌}
use Rattle.reo_net_base.specs.declared.mark.Mark.TheVariants.{F}
use Rattle.reo_net_base.specs.Net.{Net, net_of}
use Rattle.reo_side_tables.specs.Marks.{end_at, mark_at_joint, IsApartAt}
use Rattle.reo_side_tables.specs.Flowing.{AreAdded, gives_at}
use Rattle.reo_side_tables.proofs.Adding.{IsBelow, added_one, added_none, added_both, below_cases}
use Rattle.reo_net_base.specs.Marks.{is_flow}
use Rattle.reo_net_base.proofs.Marks.{mark_flows, mark_still}
use Rattle.reo_side_tables.proofs.flows.add_apart.Goals as goal
use Rattle.reo_side_tables.proofs.flows.add_apart.Goals.{then-is_flow+in_ok-add_flow, else-is_flow}

pub loop-index-preserved : goal.loop-index-preserved
loop-index-preserved g c =
    let net : Net = net_of g.P.Primitive.behaviour c.args.circuit.now in
    let row : ℕ = get_or c.args.rows.now c.loop-index.index 0 in
    let kept = c.loop-index.invariant in
    elim c.if-is_flow.branch [
      | then-is_flow+in_ok-add_flow w ↦
          let mark : mark_at_joint net c.args.side row c.args.joint ≡ F = mark_flows (mark_at_joint net c.args.side row c.args.joint) (ap is_flow (sym c.mark_at_joint.ensures) ∙ sym c.is_flow.ensures ∙ w.if-is_flow.true) in
          let way : (c.giver_side.result == c.args.side) ≡ gives_at net c.args.side c.args.joint = ap (λ (x : ℕ). x == c.args.side) c.giver_side.ensures.side in
          subst (AreAdded net c.args.side c.args.joint (IsBelow c.args.rows.now (c.loop-index.index + 1)) c.args.flows.now) (sym w.flows-is)
          (added_both net c.args.side c.args.joint (IsBelow c.args.rows.now c.loop-index.index) (λ r. r ≡ row) (IsBelow c.args.rows.now (c.loop-index.index + 1)) c.args.flows.now c.loop-index.flows w.add_flow.new.flows kept
          (added_one c.loop-index.flows w.add_flow.new.flows row c.args.joint (c.giver_side.result == c.args.side) w.in_ok-add_flow.ensures net c.args.side c.requires.joint way mark)
          (λ r lt at here. below_cases c.args.rows.now c.loop-index.index r here))
      | else-is_flow w ↦
          let mark : mark_at_joint net c.args.side row c.args.joint ≢ F = mark_still (mark_at_joint net c.args.side row c.args.joint) (ap is_flow (sym c.mark_at_joint.ensures) ∙ sym c.is_flow.ensures ∙ w.if-is_flow.false) in
          subst (AreAdded net c.args.side c.args.joint (IsBelow c.args.rows.now (c.loop-index.index + 1)) c.args.flows.now) (sym w.flows-is)
          (added_both net c.args.side c.args.joint (IsBelow c.args.rows.now c.loop-index.index) (λ r. ⊥) (IsBelow c.args.rows.now (c.loop-index.index + 1)) c.args.flows.now c.loop-index.flows c.loop-index.flows kept
          (added_none net c.args.side c.args.joint (λ r. ⊥) c.loop-index.flows (λ r p. p))
          (λ r lt at here. elim (below_cases c.args.rows.now c.loop-index.index r here) [
            | inl before ↦ inl before
            | inr this ↦ absurd (mark (ap (λ (x : ℕ). mark_at_joint net c.args.side x c.args.joint) (sym this) ∙ at))
          ]))
    ]

pub returns : goal.returns
returns g c =
    let net : Net = net_of g.P.Primitive.behaviour c.args.circuit.now in
    let last : c.loop-index.index ≡ length c.args.rows.now = omega arith in
    added_both net c.args.side c.args.joint (IsBelow c.args.rows.now c.loop-index.index) (λ r. ⊥) (IsApartAt net c.args.side (end_at net c.args.side c.args.joint).end) c.args.flows.now c.loop-index.flows c.loop-index.flows
    c.loop-index.invariant (added_none net c.args.side c.args.joint (λ r. ⊥) c.loop-index.flows (λ row p. p))
    (λ row lt mark apart. let found = c.requires.rows.whole row apart in inl (found.0, omega (arith, found.1), found.2))
