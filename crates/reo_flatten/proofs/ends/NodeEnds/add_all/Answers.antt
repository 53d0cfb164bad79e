-- One end more.
use Rattle.std.proofs.Common.{◌≡◌, ◌∙◌, ◌++◌, ◌+◌, Bool, true, false, List, ℕ, sym, ap, take}
use Rattle.reo_net_base.specs.Net.{end_of}
use Rattle.reo_net_base.specs.declared.joint.End.{End}
use Rattle.reo_kinds.specs.Kinds.{behaviour_of}
use Rattle.reo_flat.specs.Ends.{ends_in}
use Rattle.reo_flatten.specs.NodeEnds.{one_at}
use Rattle.reo_flatten.proofs.EndLemmas.{ends_in-more, grows_on}
use Rattle.reo_flatten.proofs.ends.NodeEnds.add_all.Goals as goal

pub loop-end-preserved : goal.loop-end-preserved
loop-end-preserved c =
    let b = behaviour_of c.args.kind.now in
    let e = c.loop-end.end in
    let name = c.index-at-end.result in
    let first : Bool → List ℕ → List End = λ way node. ends_in b way node c.args.primitive 0 (take e c.args.at.now) in
    let more : Bool → List ℕ → List End = λ way node. one_at name c.takes_in-takes.result (end_of c.args.primitive e) way node in
    let both : Bool → List ℕ → List End = λ way node. ends_in b way node c.args.primitive 0 (take (e + 1) c.args.at.now) in
    let is : (way : Bool) (node : List ℕ) → both way node ≡ first way node ++ more way node =
    λ way node. ends_in-more b way node c.args.primitive c.args.at.now e name c.loop-end-test.true c.index-at-end.is
    ∙ ap (λ t. first way node ++ one_at name t (end_of c.args.primitive e) way node) (sym c.takes_in-takes.ensures) in
    record {
      ins = grows_on c.args.names.now (first false) (more false) (both false) _ _ _ c.loop-end.invariant.ins c.in_ok-add.ensures.ins (is false);
      outs = grows_on c.args.names.now (first true) (more true) (both true) _ _ _ c.loop-end.invariant.outs c.in_ok-add.ensures.outs (is true);
    }
