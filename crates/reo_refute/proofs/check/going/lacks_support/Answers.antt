use Rattle.std.proofs.Common.{◌≡◌, ◌↔◌, ◌∙◌, inl, inr, true, false, not, sym, subst, ap}
use Rattle.std.specs.Prelude.{IsTrue}
use Rattle.std.proofs.lemmas.Bool.{cases_Bool}
use Rattle.reo_net_base.specs.Net.{Net, net_of}
use Rattle.reo_refute_base.specs.Items.{numbered}
use Rattle.reo_refute_base.specs.Live.{HasSupport}
use Rattle.reo_refute_live.specs.Judged.{allowed_in}
use Rattle.reo_refute_live.specs.support.Families.{family_of}
use Rattle.reo_refute.proofs.check.going.lacks_support.Goals as goal

pub returns : goal.returns
returns g c =
    let net : Net = net_of g.P.Primitive.behaviour c.args.judged.now.circuit.now in
    let both : IsTrue c.in_ok-supported.supported ↔ HasSupport net (numbered c.args.judged.now.lists.now) (allowed_in net c.args.judged.now) (family_of c.args.live.now.table) c.args.side c.args.joint c.args.value =
    subst (λ t. IsTrue c.in_ok-supported.supported ↔ HasSupport net (numbered c.args.judged.now.lists.now) (allowed_in net c.args.judged.now) (family_of t) c.args.side c.args.joint c.args.value) c.table.ensures c.in_ok-supported.ensures in (
      λ lacks. record {
        in_range = c.requires.joint;
        is_live = c.requires.is_live;
        at_side = c.requires.at;
        unsupported = λ h. let wrong : false ≡ true = ap not (sym (both.1 h)) ∙ lacks in cc;
      },
      λ may. elim (cases_Bool c.in_ok-supported.supported) [
        | inl on ↦ absurd (may.unsupported (both.0 on))
        | inr off ↦ ap not off
      ],
    )
