use Rattle.std.proofs.Common.{◌∙◌, ℕ, List, length, ap, sym, subst}
use Rattle.std.proofs.lemmas.List.{length-map}
use Rattle.reo_net_base.specs.Net.{net_of}
use Rattle.reo_engine.specs.Flows.{MayBeMarks}
use Rattle.reo_engine.proofs.FlowsLemmas.{flows_taken}
use Rattle.reo_engine.proofs.made_round.make_by.Goals as goal

pub take_sheet-requires-clause-blank : goal.take_sheet-requires-clause-blank
take_sheet-requires-clause-blank g c = rw c.joint_count-joints.ensures c.requires.flows.blank

pub take_sheet-requires-clause-rows : goal.take_sheet-requires-clause-rows
take_sheet-requires-clause-rows g c = rw c.rows.ensures c.requires.flows.rows

pub take_sheet-requires-clause-marks : goal.take_sheet-requires-clause-marks
take_sheet-requires-clause-marks g c =
    subst (λ (n : ℕ). MayBeMarks n c.args.flows.now.marks)
    (length-map c.args.planning.now.circuit.now.primitives g.P.Primitive.behaviour ∙ ap (λ (xs : List _). length xs) (sym c.primitives-primitives.ensures)) c.requires.flows.marks

pub make_round-requires-clause-marks : goal.make_round-requires-clause-marks
make_round-requires-clause-marks g c = c.in_ok-sheet.ensures.marks ∙ ap (λ (xs : List _). length xs) c.primitives-primitives.ensures

pub make_round-requires-clause-moving : goal.make_round-requires-clause-moving
make_round-requires-clause-moving g c = rw c.moving-moving.ensures c.requires.moving

pub make_round-requires-clause-first : goal.make_round-requires-clause-first
make_round-requires-clause-first g c = rw (c.in_ok-sheet.ensures.rows, c.rows.ensures) c.requires.first

pub make_round-requires-clause-lists : goal.make_round-requires-clause-lists
make_round-requires-clause-lists g c = rw (c.in_ok-sheet.ensures.rows, c.rows.ensures) c.requires.lists

pub make_round-requires-clause-items : goal.make_round-requires-clause-items
make_round-requires-clause-items g c = rw c.joint_count-joints.ensures at c.in_ok-sheet.ensures.items

pub returns-in_err-sheet-clause-flows : goal.returns-in_err-sheet-clause-flows
returns-in_err-sheet-clause-flows g c = flows_taken (net_of g.P.Primitive.behaviour c.args.planning.now.circuit.now) c.args.planning.now.knots.now c.args.kept.now c.args.flows.now c.take_sheet.new.flows c.requires.flows c.take_sheet.ensures.taken

pub returns-clause-flows : goal.returns-clause-flows
returns-clause-flows g c = flows_taken (net_of g.P.Primitive.behaviour c.args.planning.now.circuit.now) c.args.planning.now.knots.now c.args.kept.now c.args.flows.now c.take_sheet.new.flows c.requires.flows c.take_sheet.ensures.taken
