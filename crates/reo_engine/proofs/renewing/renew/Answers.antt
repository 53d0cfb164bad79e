use Rattle.reo_net_base.specs.Net.{net_of}
use Rattle.reo_settling.specs.Plannings.{is_open}
use Rattle.reo_engine.proofs.FlowsLemmas.{told_by_test}
use Rattle.reo_engine.proofs.renewing.renew.Goals as goal

pub returns-in_err-rows-clause-lookups : goal.returns-in_err-rows-clause-lookups
returns-in_err-rows-clause-lookups g c = c.in_err-rows.ensures.refused c.args.kept.now

pub store-requires-clause-flowing : goal.store-requires-clause-flowing
store-requires-clause-flowing g c = rw c.flowing-flowing.ensures (told_by_test (net_of g.P.Primitive.behaviour c.args.planning.now.circuit.now) c.args.planning.now.knots.now c.in_ok-rows.rows c.find_rows.new.self.flowing c.in_ok-rows.ensures.flowing (is_open c.args.kept.now))

pub returns-clause-kept : goal.returns-clause-kept
returns-clause-kept g c = c.store.ensures.kept c.args.planning.now.turn c.requires.kept c.in_ok-rows.ensures.exact

pub returns-clause-lookups : goal.returns-clause-lookups
returns-clause-lookups g c = c.in_ok-rows.ensures.lookups c.store.new.self c.store.ensures.rows

pub take_rows-requires : goal.take_rows-requires
take_rows-requires g c = rw c.rows.ensures c.requires.list
