use Rattle.std.proofs.Common.{◌≡◌, ◌∙◌, ℕ, ◌<◌, List, [], ◌++◌, length, set, sym, ap, subst, arith}
use Rattle.std.proofs.lemmas.List.{get_or_default}
use Rattle.std.proofs.lemmas.Bool.Decides.{nat_tests}
use Rattle.reo_values.specs.declared.value.Value.{Value}
use Rattle.reo_net_base.specs.Net.{Net, net_of}
use Rattle.reo_refute_base.specs.Items.{Lists, items_at}
use Rattle.reo_refute_parts.specs.declared.lists.visits.Brought.{Brought}
use Rattle.reo_refute_parts.specs.lists.Visits.{IsNew, Comes}
use Rattle.reo_refute_parts.proofs.lists.VisitLemmas.{nothing_comes, items_come}
use Rattle.reo_refute_parts.proofs.lists.visits.visit.Goals as goal
use Rattle.reo_refute_parts.proofs.lists.visits.visit.Goals.{then-is_empty, else-is_empty}

pub returns-in_ok-append-in-Some : goal.returns-in_ok-append-in-Some
returns-in_ok-append-in-Some g c =
    let net : Net = net_of g.P.Primitive.behaviour c.args.circuit.now in
    let lists : Lists = c.args.lists.now.items in
    let joint : ℕ = c.args.joint in
    let lt : joint < length lists = omega (arith, c.requires.joint, c.requires.lists.one_each) in
    let found : IsNew net c.as_slice.result.now joint c.in-Some.new = rw c.in-Some.is at c.in_ok-new_items.ensures in
    let is : IsNew net lists joint c.in-Some.new = subst (λ (l : Lists). IsNew net l joint c.in-Some.new) c.as_slice.ensures.value found in
    let here : c.append.new.self ≡ items_at lists joint ++ c.in-Some.new =
    c.in_ok-append-in-Some.ensures.ok ∙ ap (λ (l : List Value). l ++ c.in-Some.new) (c.index_mut.ensures.value ∙ get_or_default lists joint c.index_mut.result.now [] lt) in
    elim c.if-is_empty.branch [
      | then-is_empty w ↦
          let none : length c.in-Some.new ≡ 0 = grind (arith, nat_tests, c.is_empty.ensures, w.if-is_empty.true) in
          subst (λ (f : Brought). Comes net joint lists (set lists joint c.append.new.self) f) (sym w.found-is) (nothing_comes net lists c.requires.lists joint c.requires.joint c.in-Some.new is c.append.new.self here none)
      | else-is_empty w ↦
          let some : 0 < length c.in-Some.new = grind (arith, nat_tests, c.is_empty.ensures, w.if-is_empty.false) in
          subst (λ (f : Brought). Comes net joint lists (set lists joint c.append.new.self) f) (sym w.found-is) (items_come net lists c.requires.lists joint c.requires.joint c.in-Some.new is c.append.new.self here some)
    ]
