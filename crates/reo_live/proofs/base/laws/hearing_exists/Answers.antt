use Rattle.std.proofs.Common.{sym, subst}
use Rattle.reo_net_base.specs.Net.{net_of}
use Rattle.reo_rounds.specs.Rules.{rules_of}
use Rattle.reo_live.specs.base.Lines.{ended_lines, open_line}
use Rattle.reo_live.specs.base.Live.{Stand}
use Rattle.reo_rounds.specs.Order.{HasOrder}
use Rattle.reo_rounds.specs.Lasting.{KeepsShape}
use Rattle.reo_live.proofs.base.OrderLemmas.{all_order}
use Rattle.reo_live.proofs.base.SumLemmas.{stand-stays}
use Rattle.reo_live.proofs.base.ExistsLemmas.{after_exists, last_exists}
use Rattle.reo_live.proofs.base.laws.hearing_exists.Goals as goal

pub returns : goal.returns
returns g c =
    let r = rules_of g.P.Primitive.behaviour g.P.Primitive.settled g.P.Ported.port_state g.P.Ported.placed g.P.Ported.withdrawn in
    let shape : KeepsShape r = record { lawful = g.met.P.Primitive.lawful; settled = g.met.P.Primitive.settled_shape; placed = g.met.P.Ported.placed_shape; withdrawn = g.met.P.Ported.withdrawn_shape } in
    λ ports budget s bytes old.
    let found = after_exists r budget c.first_exists.ensures c.over_is_decided.ensures ports c.each_line_is_answered.ensures shape s bytes old in
    let after = found.2 in
    let between = all_order r shape budget ports s after.between (ended_lines bytes) found.1 old after.heard in
    let stays : HasOrder (net_of r.behaviour found.0.stand.circuit) =
    subst (λ v. HasOrder (net_of r.behaviour v.stand.circuit)) (sym after.is)
    (subst (λ (a : Stand _). HasOrder (net_of r.behaviour a.circuit)) (sym (stand-stays after.between (open_line bytes))) between) in
    let last = last_exists r budget c.first_exists.ensures c.over_is_decided.ensures ports c.each_line_is_answered.ensures shape found.0 stays in
    (found.0, found.1, last.0, found.2, last.1)
