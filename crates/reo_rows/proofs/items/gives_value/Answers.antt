use Rattle.std.proofs.Common.{◌≡◌, ◌∙◌, ◌-◌, ◌<◌, ℕ, List, [], length, get_or, option_copied, arith, ap, sym, subst}
use Rattle.std.proofs.lemmas.List.{get_or_default}
use Rattle.reo_values.specs.declared.value.Value.{Value}
use Rattle.reo_net_base.specs.Net.{Net, net_of}
use Rattle.reo_rows.specs.Sets.{names_of}
use Rattle.reo_rows.proofs.Codes.{item_at}
use Rattle.reo_rows.proofs.Giving.{given_code}
use Rattle.reo_rows.proofs.items.gives_value.Goals as goal

pub returns : goal.returns
returns g c =
    let net : Net = net_of g.P.Primitive.behaviour c.args.flowing.now.basis.now.circuit.now in
    let items : List (List Value) = c.args.flowing.now.basis.now.items.now in
    let j : ℕ = c.args.joint in
    let j_in : j < length items = omega (arith, c.requires.flowing.ready.supply, c.requires.gives.in_range) in
    let list : c.index-flowing-joint.result ≡ get_or items j [] = c.index-flowing-joint.is ∙ get_or_default items j c.index-flowing-joint.result [] j_in in
    let n_in : c.args.code - 4 < length c.index-flowing-joint.result = omega (arith, ap (λ (l : List Value). length l) list, c.requires.code, c.requires.flows) in
    let item_is : c.at-item.result.now ≡ get_or c.index-flowing-joint.result (c.args.code - 4) c.at-item.result.now = subst (λ (l : List Value). c.at-item.result.now ≡ get_or l (c.args.code - 4) c.at-item.result.now) (sym c.index-flowing-joint.is) c.at-item.ensures in
    let named = item_at items j (c.args.code - 4) c.index-flowing-joint.result c.at-item.result.now j_in c.index-flowing-joint.is n_in item_is in
    let both = given_code net (names_of items) c.args.flowing.now.row j (option_copied c.args.taken) c.args.code c.at-item.result.now c.requires.gives.flows c.requires.flows named in
    (λ h. both.0 (c.gives_item.ensures.0 h), λ h. c.gives_item.ensures.1 (both.1 h))
