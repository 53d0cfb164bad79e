use Rattle.std.proofs.Common.{◌<◌, ℕ, List, get_or, subst, sym, arith}
use Rattle.std.specs.Prelude.{IsTrue}
use Rattle.reo_net_base.specs.Net.{Net, net_of}
use Rattle.reo_part_plans.specs.declared.entry.RememberedRows.{RememberedRows}
use Rattle.reo_part_plans.specs.Given.{Decide}
use Rattle.reo_part_plans.specs.Remembered.{StayOrGo}
use Rattle.reo_part_plans.proofs.Recalled.{either_way, kept_or_gone, part_below, remembered}
use Rattle.reo_part_plans.proofs.plans.Remembered.remember.Goals as goal

pub deciding-requires : goal.deciding-requires
deciding-requires g c =
    part_below (net_of g.P.Primitive.behaviour c.args.part.now.planning.now.circuit.now) c.known.ensures.wired c.args.part.now.planning.now.knots.now c.requires.part.planning.knots c.args.part.now.number c.requires.part.number c.sides-sides.result.now c.sides-sides.ensures

pub look_at_all-requires-clause-sides : goal.look_at_all-requires-clause-sides
look_at_all-requires-clause-sides g c =
    part_below (net_of g.P.Primitive.behaviour c.args.part.now.planning.now.circuit.now) c.known.ensures.wired c.args.part.now.planning.now.knots.now c.requires.part.planning.knots c.args.part.now.number c.requires.part.number c.sides-sides.result.now c.sides-sides.ensures

pub most_inputs-inputs-requires : goal.most_inputs-inputs-requires
most_inputs-inputs-requires g c =
    part_below (net_of g.P.Primitive.behaviour c.args.part.now.planning.now.circuit.now) c.known.ensures.wired c.args.part.now.planning.now.knots.now c.requires.part.planning.knots c.args.part.now.number c.requires.part.number c.sides-sides.result.now c.sides-sides.ensures

pub rows_at-requires : goal.rows_at-requires
rows_at-requires g c = λ m lt. subst (λ (n : ℕ). get_or c.sides-sides.result.now m 0 < n) (sym c.requires.one_row)
    (part_below (net_of g.P.Primitive.behaviour c.args.part.now.planning.now.circuit.now) c.known.ensures.wired c.args.part.now.planning.now.knots.now c.requires.part.planning.knots c.args.part.now.number c.requires.part.number c.sides-sides.result.now c.sides-sides.ensures m lt)

pub returns : goal.returns
returns g c =
    let net : Net = net_of g.P.Primitive.behaviour c.args.part.now.planning.now.circuit.now in
    let plans = rw (← c.self.view_is) at c.requires.plans in
    let decide : Decide net c.sides-sides.result.now c.in-Some.items = rw c.in-Some.is at c.in_ok-items.ensures in
    let told : IsTrue c.in_ok-look_at_all.field-0 = grind (arith, c.if-not-branch.false) in
    record {
      plans = either_way c.add.result c.add.ensures.added c.add.ensures.refused
          (remembered net c.known.ensures.wired c.args.part.now.planning.now.knots.now c.requires.part.planning.knots c.args.part.now.number c.requires.part.number c.sides-sides.result.now c.sides-sides.ensures
          c.args.part.now.planning.now.turn c.self.inside.parts plans c.look_at_all.new.key (c.in_ok-look_at_all.ensures told) c.in-Some.items decide c.args.rows.now c.in_ok-rows.rows c.requires.first c.in_ok-rows.ensures
          c.args.choices c.requires.choices c.copy_over.new.list (rw (c.in_ok-copy_over.ensures) c.requires.flowing) c.at_mut-plans.result.now c.make_room.new.self c.add.new.self c.at_mut-plans.ensures.value c.make_room.ensures)
          (λ same. kept_or_gone net c.known.ensures.wired c.args.part.now.planning.now.knots.now c.requires.part.planning.knots c.args.part.now.number c.requires.part.number c.sides-sides.result.now c.sides-sides.ensures
          c.self.inside.parts plans c.at_mut-plans.result.now c.add.new.self c.at_mut-plans.ensures.value
          (subst (λ (xs : List RememberedRows). StayOrGo c.at_mut-plans.result.now.entries xs) (sym same) c.make_room.ensures));
    }
