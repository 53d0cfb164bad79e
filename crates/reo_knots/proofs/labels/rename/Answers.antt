use Rattle.std.proofs.Common.{◌≡◌, ◌<◌, ℕ, List, [], get_or, length, ◌∙◌, arith}
use Rattle.std.proofs.lemmas.List.{get_or_default}
use Rattle.std.proofs.lemmas.Result.{on_ok_weaker}
use Rattle.reo_net_laws.proofs.KnotLabels.{renames, still_members}
use Rattle.reo_knots.proofs.labels.rename.Goals as goal

read : (xs : List (List ℕ)) (i : ℕ) (x : List ℕ) → x ≡ get_or xs i x → i < length xs → x ≡ get_or xs i []
read xs i x e lt = e ∙ get_or_default xs i x [] lt

pub relabel-requires : goal.relabel-requires
relabel-requires c =
    let there = read c.args.all.now.members.items c.args.from c.index.result.now c.index.ensures (omega (arith, c.requires.members.one_each)) in
    rw (c.as_slice.ensures, there) (λ s h. ((c.requires.members.exact c.args.from s [] c.requires.from).0 h).0)

pub returns-clause-labels : goal.returns-clause-labels
returns-clause-labels c =
    let there = read c.args.all.now.members.items c.args.from c.index.result.now c.index.ensures (omega (arith, c.requires.members.one_each)) in
    let written = rw (c.as_slice.ensures, there) at c.relabel.ensures in
    let is = renames c.args.all.now.labels.items c.relabel.new.labels.items c.args.all.now.members.items c.args.from c.args.to c.requires.members c.requires.from written in
    on_ok_weaker c.move_members.result (λ _. is) c.move_members.ensures

pub returns-clause-members : goal.returns-clause-members
returns-clause-members c =
    let there = read c.args.all.now.members.items c.args.from c.index.result.now c.index.ensures (omega (arith, c.requires.members.one_each)) in
    let written = rw (c.as_slice.ensures, there) at c.relabel.ensures in
    let is = renames c.args.all.now.labels.items c.relabel.new.labels.items c.args.all.now.members.items c.args.from c.args.to c.requires.members c.requires.from written in
    on_ok_weaker c.move_members.result
    (λ e. rw e (still_members c.args.all.now.labels.items c.relabel.new.labels.items c.args.all.now.members.items c.args.from c.args.to c.requires.members c.requires.from c.requires.to c.requires.apart is))
    c.move_members.ensures
