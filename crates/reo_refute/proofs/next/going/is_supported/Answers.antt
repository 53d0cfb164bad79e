use Rattle.std.proofs.Common.{◌≡◌, ◌↔◌, true, false, sym, subst, ◌∙◌}
use Rattle.std.specs.Prelude.{IsTrue}
use Rattle.reo_net_base.specs.Net.{Net, net_of}
use Rattle.reo_refute_base.specs.Items.{numbered}
use Rattle.reo_refute_base.specs.Live.{HasSupport}
use Rattle.reo_refute_live.specs.Judged.{allowed_in}
use Rattle.reo_refute_live.specs.support.Families.{family_of}
use Rattle.reo_refute.proofs.next.going.is_supported.Goals as goal

pub returns-clause-stays : goal.returns-clause-stays
returns-clause-stays g c =
    let net : Net = net_of g.P.Primitive.behaviour c.args.judged.now.circuit.now in
    let both : IsTrue c.in_ok-stays.stays ↔ HasSupport net (numbered c.args.judged.now.lists.now) (allowed_in net c.args.judged.now) (family_of c.args.live.now.table) c.args.side c.args.joint c.args.value =
    subst (λ t. IsTrue c.in_ok-stays.stays ↔ HasSupport net (numbered c.args.judged.now.lists.now) (allowed_in net c.args.judged.now) (family_of t) c.args.side c.args.joint c.args.value) c.table.ensures c.in_ok-stays.ensures in
    both.0

pub returns-clause-goes : goal.returns-clause-goes
returns-clause-goes g c =
    let net : Net = net_of g.P.Primitive.behaviour c.args.judged.now.circuit.now in
    let both : IsTrue c.in_ok-stays.stays ↔ HasSupport net (numbered c.args.judged.now.lists.now) (allowed_in net c.args.judged.now) (family_of c.args.live.now.table) c.args.side c.args.joint c.args.value =
    subst (λ t. IsTrue c.in_ok-stays.stays ↔ HasSupport net (numbered c.args.judged.now.lists.now) (allowed_in net c.args.judged.now) (family_of t) c.args.side c.args.joint c.args.value) c.table.ensures c.in_ok-stays.ensures in
    λ off. record {
      in_range = c.requires.joint;
      is_live = c.requires.is_live;
      at_side = c.requires.at;
      unsupported = λ h. let wrong : false ≡ true = sym off ∙ both.1 h in cc;
    }
