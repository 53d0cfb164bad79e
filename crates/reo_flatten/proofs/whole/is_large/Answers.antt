-- By the sizes of `main`.
use Rattle.std.proofs.Common.{arith, ◌∙◌, ◌+◌, length, position, bytes_eq, codes, sym, ap, subst}
use Rattle.std.proofs.lemmas.Bool.{ltb-true}
use Rattle.reo_flat.specs.Unfolding.{meaning_named, meanings_of}
use Rattle.reo_unfold.specs.Ground.{IsStand, Stands}
use Rattle.reo_flatten.proofs.MainLemmas.{main_parameters_are, main_within}
use Rattle.reo_flatten.proofs.CountLemmas.{many_uses, many_deep, many_primitives, placed_within, placed_count, main_sizes}
use Rattle.reo_flatten.proofs.whole.is_large.Goals as goal

pub returns-then-sizes-gt-MOST_USES-clause-large : goal.returns-then-sizes-gt-MOST_USES-clause-large
returns-then-sizes-gt-MOST_USES-clause-large c is_so =
    let sizes = main_sizes c.args.declarations.now c.args.number c.args.ground.now.sizes c.args.ground.now.connectors c.at-sizes.result.now c.requires.ground.sizes c.requires.ground.names c.requires.main c.at-sizes.ensures in
    let uses = sizes.uses_is in
    let large = c.if-sizes-gt-MOST_USES.true in
    many_uses c.args.declarations.now (meaning_named (meanings_of c.args.declarations.now) (codes "main")) (omega arith)

pub returns-then-sizes-gt-DEEPEST-clause-large : goal.returns-then-sizes-gt-DEEPEST-clause-large
returns-then-sizes-gt-DEEPEST-clause-large c is_so =
    let sizes = main_sizes c.args.declarations.now c.args.number c.args.ground.now.sizes c.args.ground.now.connectors c.at-sizes.result.now c.requires.ground.sizes c.requires.ground.names c.requires.main c.at-sizes.ensures in
    let depth = sizes.depth_is in
    let large = c.if-sizes-gt-DEEPEST.true in
    many_deep c.args.declarations.now (meaning_named (meanings_of c.args.declarations.now) (codes "main")) (omega arith)

pub returns-then-ports-gt-MOST_PRIMITIVES-clause-large : goal.returns-then-ports-gt-MOST_PRIMITIVES-clause-large
returns-then-ports-gt-MOST_PRIMITIVES-clause-large c is_so =
    let ds = c.args.declarations.now in
    let number = c.args.number in
    let at = ap (position (bytes_eq (codes "main"))) (sym c.requires.ground.names) ∙ c.requires.main in
    let main = c.connector_at-main.result.now in
    let within = main_within ds c.args.ground.now number c.requires.ground c.requires.main in
    let stand = subst (Stands ds number) (sym c.at.ensures) (c.requires.ground.stands number c.at.result.now within) in
    let is : IsStand ds number main c.at.result.now = record { there = c.connector_at-main.ensures; before = stand.is.before; types = stand.is.types } in
    let ports = ap length (main_parameters_are ds number at main c.at.result.now is) in
    let count = placed_count ds (c.counts_are_channels.ensures ds (codes "main")) in
    let all = placed_within ds in
    let given = c.len-ports.ensures in
    let large = c.if-ports-gt-MOST_PRIMITIVES.true in
    many_primitives ds (meaning_named (meanings_of ds) (codes "main")) (omega arith)

pub returns-clause-large : goal.returns-clause-large
returns-clause-large c is_so =
    let ds = c.args.declarations.now in
    let number = c.args.number in
    let at = ap (position (bytes_eq (codes "main"))) (sym c.requires.ground.names) ∙ c.requires.main in
    let main = c.connector_at-main.result.now in
    let within = main_within ds c.args.ground.now number c.requires.ground c.requires.main in
    let stand = subst (Stands ds number) (sym c.at.ensures) (c.requires.ground.stands number c.at.result.now within) in
    let is : IsStand ds number main c.at.result.now = record { there = c.connector_at-main.ensures; before = stand.is.before; types = stand.is.types } in
    let ports = ap length (main_parameters_are ds number at main c.at.result.now is) in
    let count = placed_count ds (c.counts_are_channels.ensures ds (codes "main")) in
    let all = placed_within ds in
    let given = c.len-ports.ensures in
    let sizes = main_sizes c.args.declarations.now c.args.number c.args.ground.now.sizes c.args.ground.now.connectors c.at-sizes.result.now c.requires.ground.sizes c.requires.ground.names c.requires.main c.at-sizes.ensures in
    let placed = sizes.placed_is in
    let large = ltb-true 4096 (c.len-ports.result + c.at-sizes.result.now.placed) is_so in
    many_primitives ds (meaning_named (meanings_of ds) (codes "main")) (omega arith)

pub returns-clause-small : goal.returns-clause-small
returns-clause-small c small =
    let sizes = main_sizes c.args.declarations.now c.args.number c.args.ground.now.sizes c.args.ground.now.connectors c.at-sizes.result.now c.requires.ground.sizes c.requires.ground.names c.requires.main c.at-sizes.ensures in
    let uses = sizes.uses_is in
    let depth = sizes.depth_is in
    let few = c.if-sizes-gt-MOST_USES.false in
    let low = c.if-sizes-gt-DEEPEST.false in
    (omega arith, omega arith)
