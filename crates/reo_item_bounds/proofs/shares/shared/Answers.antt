use Rattle.std.proofs.Common.{◌≡◌, ◌∙◌, ℕ, ◌+◌, ◌<◌, ◌≤◌, arith, subst, sym, ap}
use Rattle.reo_net_base.specs.Behaviour.{Behaviour}
use Rattle.reo_net_base.specs.Forms.{HasForm, rows_by}
use Rattle.reo_net_base.specs.Net.{Net, net_of, behaviour_at}
use Rattle.reo_item_bounds.specs.Shares.{AreShared}
use Rattle.reo_item_bounds.proofs.Covered.{shared_more, shared_skip, shared_none}
use Rattle.reo_item_bounds.proofs.shares.shared.Goals as goal
use Rattle.reo_item_bounds.proofs.shares.shared.Goals.{in-F, in_default}

pub loop-row-init : goal.loop-row-init
loop-row-init g c = λ small. shared_none (behaviour_at (net_of g.P.Primitive.behaviour c.args.circuit.now).primitives c.args.giver.primitive) c.args.ends.now c.args.bounds.now c.args.giver c.in-Some.form

pub share-requires-clause-form : goal.share-requires-clause-form
share-requires-clause-form g c =
    let net : Net = net_of g.P.Primitive.behaviour c.args.circuit.now in
    let b : Behaviour = behaviour_at net.primitives c.args.giver.primitive in
    let is : g.P.Primitive.behaviour c.primitive-primitive.result.now ≡ b = c.primitive-primitive.ensures.behaviour in
    let side : c.side_of-side.result ≡ b.side_of c.args.giver.end = c.side_of-side.ensures ∙ ap (λ (d : Behaviour). d.side_of c.args.giver.end) is in
    let below : b.side_of c.args.giver.end < b.sides = (c.known.ensures.wired.lawful c.args.giver.primitive c.requires.giver.0).sides_in c.args.giver.end c.requires.giver.1 in
    let lt : c.side_of-side.result < (g.P.Primitive.behaviour c.primitive-primitive.result.now).sides = subst (λ (d : Behaviour). c.side_of-side.result < d.sides) (sym is) (subst (λ (s : ℕ). s < b.sides) (sym side) below) in
    let has = g.met.P.Primitive.has_form c.primitive-primitive.result.now c.side_of-side.result c.in-Some.form lt (sym c.form.ensures ∙ c.in-Some.is) in
    subst (HasForm c.in-Some.form b) side (subst (λ (d : Behaviour). HasForm c.in-Some.form d c.side_of-side.result) is has)

pub loop-row-preserved : goal.loop-row-preserved
loop-row-preserved g c =
    let net : Net = net_of g.P.Primitive.behaviour c.args.circuit.now in
    let b : Behaviour = behaviour_at net.primitives c.args.giver.primitive in
    let Goal : ℕ → Type 0 = λ sum. sum ≤ 256 → AreShared b c.args.giver c.in-Some.form c.args.ends.now c.args.bounds.now (c.loop-row.row + 1) sum in
    elim c.match-mark.branch [
      | in-F w ↦ subst Goal (sym w.sum-is) (λ small.
          let whole : w.saturating_add-sum.result ≡ c.loop-row.sum + w.share.result = grind (arith, small, w.saturating_add-sum.ensures) in
          subst (AreShared b c.args.giver c.in-Some.form c.args.ends.now c.args.bounds.now (c.loop-row.row + 1)) (sym whole)
          (shared_more b c.args.ends.now c.args.bounds.now c.args.giver c.in-Some.form c.loop-row.row c.loop-row.sum w.share.result (c.loop-row.invariant (omega (arith, small, whole))) w.share.ensures))
      | in_default w ↦ subst Goal (sym w.sum-is) (λ small.
          shared_skip b c.args.ends.now c.args.bounds.now c.args.giver c.in-Some.form c.loop-row.row c.loop-row.sum (c.loop-row.invariant small) (λ flows. w.in_default.not-F (c.mark.ensures ∙ flows)))
    ]

pub returns-after-loop-row : goal.returns-after-loop-row
returns-after-loop-row g c = λ small.
    let net : Net = net_of g.P.Primitive.behaviour c.args.circuit.now in
    let b : Behaviour = behaviour_at net.primitives c.args.giver.primitive in
    let is : g.P.Primitive.behaviour c.primitive-primitive.result.now ≡ b = c.primitive-primitive.ensures.behaviour in
    let side : c.side_of-side.result ≡ b.side_of c.args.giver.end = c.side_of-side.ensures ∙ ap (λ (d : Behaviour). d.side_of c.args.giver.end) is in
    let below : b.side_of c.args.giver.end < b.sides = (c.known.ensures.wired.lawful c.args.giver.primitive c.requires.giver.0).sides_in c.args.giver.end c.requires.giver.1 in
    let lt : c.side_of-side.result < (g.P.Primitive.behaviour c.primitive-primitive.result.now).sides = subst (λ (d : Behaviour). c.side_of-side.result < d.sides) (sym is) (subst (λ (s : ℕ). s < b.sides) (sym side) below) in
    let has = g.met.P.Primitive.has_form c.primitive-primitive.result.now c.side_of-side.result c.in-Some.form lt (sym c.form.ensures ∙ c.in-Some.is) in
    let all : c.loop-row.row ≡ rows_by c.in-Some.form = grind (arith, c.rows-row-end.ensures) in (
      c.in-Some.form,
      subst (HasForm c.in-Some.form b) side (subst (λ (d : Behaviour). HasForm c.in-Some.form d c.side_of-side.result) is has),
      subst (λ (n : ℕ). AreShared b c.args.giver c.in-Some.form c.args.ends.now c.args.bounds.now n c.loop-row.sum) all (c.loop-row.invariant small),
    )
