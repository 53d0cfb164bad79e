use Rattle.std.proofs.Common.{◌≡◌, ℕ, Bool, length, take, arith}
use Rattle.std.proofs.lemmas.List.{length-take-le, get_or-take}
use Rattle.reo_net_base.specs.Net.{Net, net_of}
use Rattle.reo_search.specs.choices.KnotSearch.{inside_of}
use Rattle.reo_search.proofs.choices.Matched.{left_with}
use Rattle.reo_search.proofs.choices.trying.narrow_to.Goals as goal

pub returns-clause-left : goal.returns-clause-left
returns-clause-left g c =
    let net : Net = net_of g.P.Primitive.behaviour c.args.searched.now.basis.now.circuit.now in
    let inside : ℕ → Bool = inside_of c.args.searched.now in
    let long : length (take (length c.args.codes.now) c.args.searched.now.loops.now) ≡ length c.args.codes.now = length-take-le (length c.args.codes.now) c.args.searched.now.loops.now c.requires.codes in
    let begun = c.in_ok-restart.ensures in
    left_with net inside c.args.searched.now.basis.now.boards.now c.args.searched.now.basis.now.ends.now c.args.searched.now.basis.now.items.now c.restart.new.state.alive begun.search.ready begun.whole c.args.searched.now.loops.now c.args.codes.now (take (length c.args.codes.now) c.args.searched.now.loops.now)
    c.requires.searched.loops_are long c.requires.codes (λ m lt. get_or-take (length c.args.codes.now) c.args.searched.now.loops.now m 0 (omega (arith, lt, long)))
    c.pin.new.state.alive c.propagate.new.state.alive c.in_ok-pin.ensures.pinned c.in_ok-propagate.ensures.reduced
