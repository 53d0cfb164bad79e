use Rattle.std.proofs.Common.{IsTrue, ◌≡◌, ◌≢◌, inl, inr, ℕ, ◌+◌, length, get_or, sym, ◌∙◌, ap, subst, arith, Some, true, false}
use Rattle.std.specs.Bool.{◌==◌}
use Rattle.reo_net_base.specs.declared.joint.End.{End}
use Rattle.reo_net_base.specs.declared.mark.Mark.TheVariants.{F}
use Rattle.reo_net_base.specs.Net.{Net, net_of}
use Rattle.reo_side_tables.specs.Marks.{apart_in, common_in, end_at, mark_at_joint}
use Rattle.reo_side_tables.specs.Flowing.{AreAdded, gives_at}
use Rattle.reo_side_tables.specs.Grouping.{IsAsGroup}
use Rattle.reo_side_tables.proofs.Adding.{IsBelow, added_one, added_none, added_both, below_cases}
use Rattle.reo_side_tables.proofs.Sides.{mark_as_group}
use Rattle.reo_side_tables.proofs.flows.add_group.Goals as goal
use Rattle.reo_side_tables.proofs.flows.add_group.Goals.{then-not-is_apart_at+in_ok-add_flow, else-not-is_apart_at}

pub loop-index-preserved : goal.loop-index-preserved
loop-index-preserved g c =
    let net : Net = net_of g.P.Primitive.behaviour c.args.circuit.now in
    let row : ℕ = get_or c.args.rows.now c.loop-index.index 0 in
    let end : ℕ = (end_at net c.args.side c.args.joint).end in
    let of = c.requires.rows.sound c.loop-index.index (omega arith) in
    let kept = c.loop-index.invariant in
    elim c.if-not-is_apart_at.branch [
      | then-not-is_apart_at+in_ok-add_flow w ↦
          let with : apart_in net c.args.side row ≢ Some end = λ h. (let yes : IsTrue c.is_apart_at.result = c.is_apart_at.ensures.1 (h ∙ ap (λ (x : End). Some x.end) (sym c.end_at-end.ensures)) in let is : c.is_apart_at.result ≡ true = yes in let wrong : true ≡ false = sym is ∙ w.if-not-is_apart_at.true in cc) in
          let mark : mark_at_joint net c.args.side row c.args.joint ≡ F =
          mark_as_group net c.known.ensures.wired c.args.side c.args.joint row c.requires.joint of.in_table with ∙ ap (λ (x : ℕ). common_in net c.args.side x end) of.here ∙ c.requires.flows in
          let way : (c.giver_side.result == c.args.side) ≡ gives_at net c.args.side c.args.joint = ap (λ (x : ℕ). x == c.args.side) c.giver_side.ensures.side in
          subst (AreAdded net c.args.side c.args.joint (λ r. IsBelow c.args.rows.now (c.loop-index.index + 1) r × (apart_in net c.args.side r ≢ Some end)) c.args.flows.now) (sym w.flows-is)
          (added_both net c.args.side c.args.joint (λ r. IsBelow c.args.rows.now c.loop-index.index r × (apart_in net c.args.side r ≢ Some end)) (λ r. r ≡ row) (λ r. IsBelow c.args.rows.now (c.loop-index.index + 1) r × (apart_in net c.args.side r ≢ Some end)) c.args.flows.now c.loop-index.flows w.add_flow.new.flows kept
          (added_one c.loop-index.flows w.add_flow.new.flows row c.args.joint (c.giver_side.result == c.args.side) w.in_ok-add_flow.ensures net c.args.side c.requires.joint way mark)
          (λ r lt at (here, other). elim (below_cases c.args.rows.now c.loop-index.index r here) [ inl before ↦ inl (before, other) | inr this ↦ inr this ]))
      | else-not-is_apart_at w ↦
          let apart : apart_in net c.args.side row ≡ Some end = c.is_apart_at.ensures.0 w.if-not-is_apart_at.false ∙ ap (λ (x : End). Some x.end) c.end_at-end.ensures in
          subst (AreAdded net c.args.side c.args.joint (λ r. IsBelow c.args.rows.now (c.loop-index.index + 1) r × (apart_in net c.args.side r ≢ Some end)) c.args.flows.now) (sym w.flows-is)
          (added_both net c.args.side c.args.joint (λ r. IsBelow c.args.rows.now c.loop-index.index r × (apart_in net c.args.side r ≢ Some end)) (λ r. ⊥) (λ r. IsBelow c.args.rows.now (c.loop-index.index + 1) r × (apart_in net c.args.side r ≢ Some end)) c.args.flows.now c.loop-index.flows c.loop-index.flows kept
          (added_none net c.args.side c.args.joint (λ r. ⊥) c.loop-index.flows (λ r p. p))
          (λ r lt at (here, other). elim (below_cases c.args.rows.now c.loop-index.index r here) [ inl before ↦ inl (before, other) | inr this ↦ absurd (other (ap (apart_in net c.args.side) this ∙ apart)) ]))
    ]

pub returns : goal.returns
returns g c =
    let net : Net = net_of g.P.Primitive.behaviour c.args.circuit.now in
    let last : c.loop-index.index ≡ length c.args.rows.now = omega arith in
    let end : ℕ = (end_at net c.args.side c.args.joint).end in
    added_both net c.args.side c.args.joint (λ r. IsBelow c.args.rows.now c.loop-index.index r × (apart_in net c.args.side r ≢ Some end)) (λ r. ⊥) (IsAsGroup net c.args.side c.args.group c.args.joint) c.args.flows.now c.loop-index.flows c.loop-index.flows
    c.loop-index.invariant (added_none net c.args.side c.args.joint (λ r. ⊥) c.loop-index.flows (λ row p. p))
    (λ row lt mark member. let found = c.requires.rows.whole row member.of_group in inl ((found.0, omega (arith, found.1), found.2), member.with))
