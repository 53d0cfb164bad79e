use Rattle.std.proofs.lemmas.Result.{on_ok_weaker}
use Rattle.reo_net_base.specs.Net.{net_of}
use Rattle.reo_round.proofs.Fed.{put_is}
use Rattle.reo_round.proofs.filling.put_item.Goals as goal

pub returns : goal.returns
returns g c =
    on_ok_weaker c.push.result (put_is (net_of g.P.Primitive.behaviour c.args.circuit.now) c.args.rows.now c.args.joint c.args.items.now c.put_given.new.items
    c.args.flowing.now c.push.new.self c.requires.joint c.requires.items c.in_ok-put_given.ensures) c.push.ensures.ok
