use Rattle.std.proofs.Common.{cond, [], subst, sym}
use Rattle.reo_net_base.specs.Net.{Net, net_of}
use Rattle.reo_refute_base.specs.declared.line.LogLine.{LogLine}
use Rattle.reo_refute_base.specs.declared.line.LogLine.TheVariants.{Drop, Empty, Split}
use Rattle.reo_refute_base.specs.Places.{IsAllowed}
use Rattle.reo_refute_live.specs.OpenBranch.{open_in}
use Rattle.reo_refute_live.specs.support.Families.{family_of}
use Rattle.reo_refute.specs.next.Next.{LeadsOn}
use Rattle.reo_refute.specs.proving.Making.{LeadsTo}
use Rattle.reo_refute.proofs.proving.Lessening.{drop_leads, close_leads, split_leads}
use Rattle.reo_refute.proofs.proving.going.go_on.Goals as goal

pub returns-in_ok-clear-in-Drop-clause-leads : goal.returns-in_ok-clear-in-Drop-clause-leads
returns-in_ok-clear-in-Drop-clause-leads g c =
    let net : Net = net_of g.P.Primitive.behaviour c.args.judged.now.circuit.now in
    let leads : LeadsOn net c.args.judged.now.lists.now (IsAllowed net c.args.judged.now.turn c.args.judged.now.given.now c.args.judged.now.number) (family_of c.args.live.now.table) (Drop c.in-Drop.joint c.in-Drop.value c.in-Drop.field-2) = subst (λ (l : LogLine). LeadsOn net c.args.judged.now.lists.now (IsAllowed net c.args.judged.now.turn c.args.judged.now.given.now c.args.judged.now.number) (family_of c.args.live.now.table) l) c.in-Drop.is c.requires.leads in
    subst (λ (l : LogLine). LeadsTo net c.args.judged.now.lists.now (IsAllowed net c.args.judged.now.turn c.args.judged.now.given.now c.args.judged.now.number) (open_in c.args.live.now) (open_in c.clear.new.self) l) (sym c.in-Drop.is)
    (drop_leads net c.args.judged.now.lists.now (IsAllowed net c.args.judged.now.turn c.args.judged.now.given.now c.args.judged.now.number) c.args.live.now c.clear.new.self c.in-Drop.joint c.in-Drop.value c.in-Drop.field-2 leads c.in_ok-clear-in-Drop.ensures.gone c.in_ok-clear-in-Drop.ensures.rest)

pub returns-in_ok-split-in-Split-clause-leads : goal.returns-in_ok-split-in-Split-clause-leads
returns-in_ok-split-in-Split-clause-leads g c =
    let net : Net = net_of g.P.Primitive.behaviour c.args.judged.now.circuit.now in
    let leads : LeadsOn net c.args.judged.now.lists.now (IsAllowed net c.args.judged.now.turn c.args.judged.now.given.now c.args.judged.now.number) (family_of c.args.live.now.table) (Split c.in-Split.joint) = subst (λ (l : LogLine). LeadsOn net c.args.judged.now.lists.now (IsAllowed net c.args.judged.now.turn c.args.judged.now.given.now c.args.judged.now.number) (family_of c.args.live.now.table) l) c.in-Split.is c.requires.leads in
    subst (λ (l : LogLine). LeadsTo net c.args.judged.now.lists.now (IsAllowed net c.args.judged.now.turn c.args.judged.now.given.now c.args.judged.now.number) (open_in c.args.live.now) (open_in c.split.new.self) l) (sym c.in-Split.is)
    (split_leads net c.args.judged.now.lists.now (IsAllowed net c.args.judged.now.turn c.args.judged.now.given.now c.args.judged.now.number) c.args.live.now c.split.new.self c.in-Split.joint c.requires.few leads c.in_ok-split-in-Split.ensures.branches)

pub returns-in_ok-more-in-Empty-clause-leads : goal.returns-in_ok-more-in-Empty-clause-leads
returns-in_ok-more-in-Empty-clause-leads g c =
    let net : Net = net_of g.P.Primitive.behaviour c.args.judged.now.circuit.now in
    let leads : LeadsOn net c.args.judged.now.lists.now (IsAllowed net c.args.judged.now.turn c.args.judged.now.given.now c.args.judged.now.number) (family_of c.args.live.now.table) (Empty c.in-Empty.field-0) = subst (λ (l : LogLine). LeadsOn net c.args.judged.now.lists.now (IsAllowed net c.args.judged.now.turn c.args.judged.now.given.now c.args.judged.now.number) (family_of c.args.live.now.table) l) c.in-Empty.is c.requires.leads in
    subst (λ (l : LogLine). LeadsTo net c.args.judged.now.lists.now (IsAllowed net c.args.judged.now.turn c.args.judged.now.given.now c.args.judged.now.number) (open_in c.args.live.now) (cond c.in_ok-more-in-Empty.more (open_in c.close.new.self) []) l) (sym c.in-Empty.is)
    (close_leads net c.args.judged.now.lists.now (IsAllowed net c.args.judged.now.turn c.args.judged.now.given.now c.args.judged.now.number) c.args.live.now c.close.new.self c.in-Empty.field-0 leads c.in_ok-more-in-Empty.more c.in_ok-more-in-Empty.ensures.next)
