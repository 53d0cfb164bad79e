use Rattle.std.proofs.Common.{◌≡◌, ◌∙◌, ℕ, List, [], ◌++◌, sym, subst}
use Rattle.reo_net_base.specs.Net.{Net, net_of}
use Rattle.reo_refute_base.specs.Places.{IsAllowed}
use Rattle.reo_refute.specs.proving.Making.{IsBranchMade}
use Rattle.reo_refute.proofs.proving.Writing.{added_made, done_more}
use Rattle.reo_refute.proofs.proving.branch.put_branch.Goals as goal

pub returns-then-branch-clause-made : goal.returns-then-branch-clause-made
returns-then-branch-clause-made g c =
    let net : Net = net_of g.P.Primitive.behaviour c.args.judged.now.circuit.now in
    let Made : List ℕ → List ℕ → Type 0 = IsBranchMade net c.args.judged.now.lists.now (IsAllowed net c.args.judged.now.turn c.args.judged.now.given.now c.args.judged.now.number) in
    let short : Made [] c.as_slice-then-branch.result.now = subst (Made []) (c.as_slice-2.ensures ∙ sym c.as_slice-then-branch.ensures) (c.in_ok-is_branch.ensures.made c.if-branch.true) in
    done_more c.append.result (c.append.new.self ≡ c.args.out.now ++ c.as_slice-then-branch.result.now) (Made c.args.out.now c.append.new.self) c.append.ensures.ok
    (λ added. added_made net c.args.judged.now.lists.now (IsAllowed net c.args.judged.now.turn c.args.judged.now.given.now c.args.judged.now.number) c.args.out.now c.append.new.self c.as_slice-then-branch.result.now added short)

pub returns-else-branch-clause-made : goal.returns-else-branch-clause-made
returns-else-branch-clause-made g c =
    let net : Net = net_of g.P.Primitive.behaviour c.args.judged.now.circuit.now in
    let Made : List ℕ → List ℕ → Type 0 = IsBranchMade net c.args.judged.now.lists.now (IsAllowed net c.args.judged.now.turn c.args.judged.now.given.now c.args.judged.now.number) in
    let whole : Made [] c.as_slice-else-branch.result.now = subst (Made []) (sym c.as_slice-else-branch.ensures) c.in_ok-put_whole.ensures.made in
    done_more c.append-else-branch.result (c.append-else-branch.new.self ≡ c.args.out.now ++ c.as_slice-else-branch.result.now) (Made c.args.out.now c.append-else-branch.new.self) c.append-else-branch.ensures.ok
    (λ added. added_made net c.args.judged.now.lists.now (IsAllowed net c.args.judged.now.turn c.args.judged.now.given.now c.args.judged.now.number) c.args.out.now c.append-else-branch.new.self c.as_slice-else-branch.result.now added whole)
