use Rattle.std.proofs.Common.{◌≡◌, ◌∙◌, ℕ, [], length, sym, ap, subst}
use Rattle.std.specs.Prelude.{replicate}
use Rattle.reo_net_base.specs.Net.{Net, net_of}
use Rattle.reo_refute_base.specs.Items.{Lists, AreItemLists}
use Rattle.reo_refute_base.specs.Items.ArePassed.{pass}
use Rattle.reo_refute_base.specs.Wide.{IsWide}
use Rattle.reo_refute_parts.proofs.lists.PassLemmas.{begun_passed, begun_good, fewer_missing, whole}
use Rattle.reo_refute_parts.proofs.lists.lists.item_lists.Goals as goal

pub passes-init : goal.passes-init
passes-init g c =
    let net : Net = net_of g.P.Primitive.behaviour c.args.circuit.now in
    let is : c.in_ok-lists.lists.items ≡ replicate (length net.joints) [] = c.in_ok-lists.ensures ∙ ap (λ (n : ℕ). replicate n []) c.joint_count.ensures in
    record { passed = begun_passed net c.in_ok-lists.lists.items is; good = begun_good net c.in_ok-lists.lists.items is }

pub returns-in-Nothing : goal.returns-in-Nothing
returns-in-Nothing g c =
    let net : Net = net_of g.P.Primitive.behaviour c.args.circuit.now in
    let brought = rw c.in-Nothing.is at c.in_ok-pass.ensures in
    subst (λ (l : Lists). AreItemLists net l × (IsWide net → ⊥)) (sym c.from_vec.ensures)
    (whole net c.known.ensures.wired c.passes.lists.items c.pass.new.lists.items c.passes.invariant.passed brought.0 brought.1 brought.2)

pub passes-smaller : goal.passes-smaller
passes-smaller g c =
    let net : Net = net_of g.P.Primitive.behaviour c.args.circuit.now in
    let brought = rw c.in-Items.is at c.in_ok-pass.ensures in
    fewer_missing net c.passes.lists.items c.pass.new.lists.items brought.1 brought.2

pub passes-preserved : goal.passes-preserved
passes-preserved g c =
    let net : Net = net_of g.P.Primitive.behaviour c.args.circuit.now in
    let brought = rw c.in-Items.is at c.in_ok-pass.ensures in
    record { passed = pass c.passes.lists.items c.pass.new.lists.items c.passes.invariant.passed brought.0; good = brought.1 }
