-- By what `main` unfolds to.
use Rattle.std.proofs.Common.{arith, ◌∙◌, ◌≤◌, length, codes, sym, ap, subst}
use Rattle.reo_values.specs.Valid.{AreDistinct}
use Rattle.reo_flatten.proofs.Sequences.{left_none}
use Rattle.reo_rules.specs.Twice.{twice}
use Rattle.reo_flat.specs.Unfolding.{meaning_named, meanings_of}
use Rattle.reo_flat.specs.Flat.{placed_of, nodes_of, primitives_of, joints_at, homes_at}
use Rattle.reo_flat.specs.Sizes.{too_many}
use Rattle.reo_flatten.proofs.MainLemmas.{main_there}
use Rattle.reo_flatten.proofs.CountLemmas.{many_primitives, few_enough, too_many_is, too_many_none, first_too_many}
use Rattle.reo_flatten.proofs.PartLemmas.{ends_are, kinds_are, first_is, first_low, no_breaks, few_nodes}
use Rattle.reo_flatten.proofs.whole.parts_of.Goals as goal

pub ends_at-requires-clause-distinct : goal.ends_at-requires-clause-distinct
ends_at-requires-clause-distinct c =
    let ds = c.args.declarations.now in
    subst AreDistinct (sym c.in_ok-ports.ensures.nodes) (c.nodes_are_distinct.ensures ds c.requires.names (left_none (twice ds) _ c.requires.rules))

pub returns-then-len-gt-MOST_PRIMITIVES-clause-judged : goal.returns-then-len-gt-MOST_PRIMITIVES-clause-judged
returns-then-len-gt-MOST_PRIMITIVES-clause-judged c =
    let ds = c.args.declarations.now in
    let b = c.in_ok-ports.field-0 in
    let is = c.in_ok-ports.ensures in
    let ends = c.in_ok-ends.ends in
    let are = ends_are ds b is ends c.in_ok-ends.ensures in
    let kinds = kinds_are ds b is c.all_own.new.kinds (c.in_ok-all_own.ensures (nodes_of ds) (placed_of ds) are) in
    let long = c.len.ensures ∙ ap length kinds in
    let test = c.if-len-gt-MOST_PRIMITIVES.true in
    first_too_many (too_many ds) (too_many_is ds (many_primitives ds (meaning_named (meanings_of ds) (codes "main")) (omega arith)))

pub all_joints-requires-clause-few : goal.all_joints-requires-clause-few
all_joints-requires-clause-few c =
    let ds = c.args.declarations.now in
    let b = c.in_ok-ports.field-0 in
    let is = c.in_ok-ports.ensures in
    let ends = c.in_ok-ends.ends in
    let are = ends_are ds b is ends c.in_ok-ends.ensures in
    let kinds = kinds_are ds b is c.all_own.new.kinds (c.in_ok-all_own.ensures (nodes_of ds) (placed_of ds) are) in
    let long = c.len.ensures ∙ ap length kinds in
    let test = c.if-len-gt-MOST_PRIMITIVES.false in
    let few : length (primitives_of ds) ≤ 4096 = omega arith in
    let many = too_many_none ds (few_enough ds (meaning_named (meanings_of ds) (codes "main")) few c.requires.small.0 c.requires.small.1) in
    let none = no_breaks ds c.requires.rules (main_there ds c.args.ground.now c.args.number c.requires.ground c.requires.main) many in
    few_nodes ds ends are (c.nodes_are_served.ensures ds none) (c.circuits_are_small.ensures ds c.requires.names none).0

pub all_joints-requires-clause-low : goal.all_joints-requires-clause-low
all_joints-requires-clause-low c =
    let ds = c.args.declarations.now in
    let b = c.in_ok-ports.field-0 in
    let is = c.in_ok-ports.ensures in
    let ends = c.in_ok-ends.ends in
    let are = ends_are ds b is ends c.in_ok-ends.ensures in
    let kinds = kinds_are ds b is c.all_own.new.kinds (c.in_ok-all_own.ensures (nodes_of ds) (placed_of ds) are) in
    let long = c.len.ensures ∙ ap length kinds in
    let test = c.if-len-gt-MOST_PRIMITIVES.false in
    let few : length (primitives_of ds) ≤ 4096 = omega arith in
    let many = too_many_none ds (few_enough ds (meaning_named (meanings_of ds) (codes "main")) few c.requires.small.0 c.requires.small.1) in
    first_low ds b is c.len-first.result c.len-first.ensures few

pub returns-clause-judged : goal.returns-clause-judged
returns-clause-judged c =
    let ds = c.args.declarations.now in
    let b = c.in_ok-ports.field-0 in
    let is = c.in_ok-ports.ensures in
    let ends = c.in_ok-ends.ends in
    let are = ends_are ds b is ends c.in_ok-ends.ensures in
    let kinds = kinds_are ds b is c.all_own.new.kinds (c.in_ok-all_own.ensures (nodes_of ds) (placed_of ds) are) in
    let long = c.len.ensures ∙ ap length kinds in
    let test = c.if-len-gt-MOST_PRIMITIVES.false in
    let few : length (primitives_of ds) ≤ 4096 = omega arith in
    let many = too_many_none ds (few_enough ds (meaning_named (meanings_of ds) (codes "main")) few c.requires.small.0 c.requires.small.1) in
    many

pub returns-clause-parts : goal.returns-clause-parts
returns-clause-parts c =
    let ds = c.args.declarations.now in
    let b = c.in_ok-ports.field-0 in
    let is = c.in_ok-ports.ensures in
    let ends = c.in_ok-ends.ends in
    let are = ends_are ds b is ends c.in_ok-ends.ensures in
    let kinds = kinds_are ds b is c.all_own.new.kinds (c.in_ok-all_own.ensures (nodes_of ds) (placed_of ds) are) in
    let long = c.len.ensures ∙ ap length kinds in
    let first = first_is ds b is c.len-first.result c.len-first.ensures in
    record {
      kinds = kinds;
      ports = is.ports;
      joints = c.in_ok-joints.ensures.joints (nodes_of ds) (placed_of ds) are ∙ ap (λ n. joints_at (placed_of ds) n (nodes_of ds)) first;
      nodes = is.nodes;
      homes = c.in_ok-joints.ensures.homes (nodes_of ds) (placed_of ds) are ∙ ap (λ n. homes_at (placed_of ds) 0 n (nodes_of ds)) first;
    }
