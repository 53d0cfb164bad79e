use Rattle.std.proofs.Common.{ℕ, get_or, below_more, arith}
use Rattle.reo_net_base.specs.declared.joint.Joint.{Joint}
use Rattle.reo_net_base.specs.Net.{Net, net_of}
use Rattle.reo_net_base.specs.Colouring.{JointMatches}
use Rattle.reo_net.proofs.Sides.{side_in_range}
use Rattle.reo_net.specs.plain.Chosen.{IsBetween}
use Rattle.reo_net.proofs.plain.ChosenLemmas.{match_agrees}
use Rattle.reo_net.proofs.plain.clash.clashes.Goals as goal

pub returns-then-clashes_at-clause-clash : goal.returns-then-clashes_at-clause-clash
returns-then-clashes_at-clause-clash g c = λ h others items col agrees.
    let net : Net = net_of g.P.Primitive.behaviour c.args.circuit.now in
    let joint : Joint = c.joint.result in
    let matches = rw (c.joint.ensures joint) at (col.rows_fit.matched c.loop-index.index joint (omega arith)) in
    let between = c.clashes_at.ensures.between c.if-clashes_at.true in
    c.clashes_at.ensures.clash c.if-clashes_at.true (match_agrees net c.args.chosen.now c.args.rows.now others joint agrees between matches)

pub loop-index-preserved : goal.loop-index-preserved
loop-index-preserved g c = λ j d lt.
    let net : Net = net_of g.P.Primitive.behaviour c.args.circuit.now in
    let match : ℕ → Type 0 = λ k. (e : Joint) → IsBetween net c.args.chosen.now (get_or net.joints k e) → JointMatches net c.args.rows.now (get_or net.joints k e) in
    let here : match c.loop-index.index = λ e. rw (c.joint.ensures e) (c.clashes_at.ensures.match_ c.if-clashes_at.false) in
    below_more match c.loop-index.index (λ k h e. c.loop-index.invariant k e h) here j lt d

pub returns-clause-fit : goal.returns-clause-fit
returns-clause-fit g c = λ h all.
    let net : Net = net_of g.P.Primitive.behaviour c.args.circuit.now in
    record {
      in_tables = c.requires.rows;
      matched = λ j d lt.
          let joint : Joint = get_or net.joints j d in
          c.loop-index.invariant j d (omega (arith, lt))
          (record { giver = all _ (side_in_range net c.known.ensures.wired joint.giver (c.known.ensures.wired.givers j d lt)); taker = all _ (side_in_range net c.known.ensures.wired joint.taker (c.known.ensures.wired.takers j d lt)) });
    }
