-- One name more.
use Rattle.std.proofs.Common.{◌∙◌, ◌++◌, ◌∷◌, [], ap}
use Rattle.reo_flat.specs.Unfolding.{flat_name}
use Rattle.reo_unfold.proofs.AfterLemmas.{more_mapped}
use Rattle.reo_unfold.proofs.names.flat_names.Goals as goal

pub loop-name-preserved : goal.loop-name-preserved
loop-name-preserved c ps rest names count =
    more_mapped (flat_name c.args.path.now ps c.args.arguments.now) c.args.given.now c.loop-name.name-index c.name-item.result c.loop-name-test.true c.name-item.is
    (c.loop-name.invariant ps rest names count) (c.in_ok-push.ensures.ok ∙ ap (λ n. c.loop-name.made ++ n ∷ []) (c.in_ok-flat_name.ensures ps rest names count))
