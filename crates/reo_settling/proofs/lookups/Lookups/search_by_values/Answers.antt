use Rattle.std.proofs.Common.{◌∙◌, true, length, ap}
use Rattle.std.proofs.lemmas.List.{length-replicate}
use Rattle.reo_net_base.specs.Net.{Net, net_of}
use Rattle.reo_settling.proofs.HeldTables.{ready_may_stay}
use Rattle.reo_settling.proofs.lookups.Lookups.search_by_values.Goals as goal

pub returns-clause-steady : goal.returns-clause-steady
returns-clause-steady g c =
    let net : Net = net_of g.P.Primitive.behaviour c.args.part.now.planning.now.circuit.now in
    record {
      orders = c.requires.steady.orders;
      one_list = c.requires.steady.one_list;
      one_each = ap length c.set_all.ensures ∙ length-replicate (length c.args.self.now.fresh) true ∙ c.requires.steady.one_each;
      tables = ready_may_stay net c.args.part.now.planning.now.knots.now c.args.part.now.planning.now.ends.now c.set_all.new.self c.search_part.new.tables c.in_ok-search_part.ensures.tables;
      bounds = c.requires.steady.bounds;
      plans = c.requires.steady.plans;
      marks = c.requires.steady.marks;
    }
