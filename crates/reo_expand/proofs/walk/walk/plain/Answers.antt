use Rattle.std.proofs.Common.{◌≡◌, ◌∙◌, ap, sym, subst}
use Rattle.std.specs.List.{flat_map}
use Rattle.reo_trees.specs.declared.items_two.FormTwo.{FormTwo}
use Rattle.reo_trees.specs.declared.items_two.FormTwo.TheVariants as forms
use Rattle.reo_expand.specs.base.Steps.{steps_of, two_in, of_name, none_fits}
use Rattle.reo_expand.specs.base.Judged.{IsWalked}
use Rattle.reo_expand.specs.tables.Firsts.{is_unfit}
use Rattle.reo_expand.proofs.walk.Unfit.{unfit_is}
use Rattle.reo_expand.proofs.walk.walk.plain.Goals as goal

pub returns-in-Node-clause-walked : goal.returns-in-Node-clause-walked
returns-in-Node-clause-walked c _ =
    let before = flat_map two_in c.args.before.now in
    subst (λ (f : FormTwo). IsWalked c.args.walk.now.count (steps_of before c.args.bound.now c.args.item.now.line f) c.node.new.self.count c.node.result) (sym c.in-Node.is)
    (c.node.ensures.walked before)

pub returns-in-Joined-clause-walked : goal.returns-in-Joined-clause-walked
returns-in-Joined-clause-walked c _ =
    let before = flat_map two_in c.args.before.now in
    subst (λ (f : FormTwo). IsWalked c.args.walk.now.count (steps_of before c.args.bound.now c.args.item.now.line f) c.joined.new.self.count c.joined.result) (sym c.in-Joined.is)
    (c.joined.ensures.walked before)

pub returns-in-Used-clause-walked : goal.returns-in-Used-clause-walked
returns-in-Used-clause-walked c _ =
    let before = flat_map two_in c.args.before.now in
    let name = c.in-Used.name in
    let number = c.in-Used.number in
    let unfit : c.is_unfit-unfit.result ≡ none_fits number (of_name before name) =
    c.is_unfit-unfit.ensures
    ∙ ap (λ n. is_unfit c.is_some.result (of_name before n)) c.as_slice.ensures
    ∙ ap (λ b. is_unfit b (of_name before name)) c.is_some.ensures
    ∙ unfit_is number (of_name before name) in
    subst (λ (f : FormTwo). IsWalked c.args.walk.now.count (steps_of before c.args.bound.now c.args.item.now.line f) c.used.new.self.count c.used.result)
    (ap (λ a. forms.Used name number a) c.as_slice-arguments.ensures ∙ sym c.in-Used.is)
    (c.used.ensures.walked before unfit)
