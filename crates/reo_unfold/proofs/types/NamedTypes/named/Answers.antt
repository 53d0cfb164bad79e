-- By the number of the name.
use Rattle.std.proofs.Common.{◌∙◌, sym, ap}
use Rattle.std.specs.Prelude.{unwrap_or}
use Rattle.reo_values.specs.declared.kindred.Kindred.TheVariants as kinds
use Rattle.reo_unfold.proofs.TypeLemmas.{few_at, named_before, named_late, named_none}
use Rattle.reo_unfold.proofs.types.NamedTypes.named.Goals as goal

pub returns-then-number-known-clause-is : goal.returns-then-number-known-clause-is
returns-then-number-known-clause-is c ts are =
    named_before ts _ are c.args.name.now c.args.known c.in-Some.number (sym c.find.ensures ∙ c.in-Some.is) c.if-number-known.true ∙ ap (λ found. unwrap_or found kinds.Unit) (sym c.get.ensures)

pub returns-else-number-known-clause-is : goal.returns-else-number-known-clause-is
returns-else-number-known-clause-is c ts are = named_late ts _ are c.args.name.now c.args.known c.in-Some.number (sym c.find.ensures ∙ c.in-Some.is) c.if-number-known.false

pub returns-in-None-clause-is : goal.returns-in-None-clause-is
returns-in-None-clause-is c ts are = named_none ts _ are c.args.name.now c.args.known (sym c.find.ensures ∙ c.in-None.is)

pub returns-then-number-known-clause-few : goal.returns-then-number-known-clause-few
returns-then-number-known-clause-few c all = few_at c.get.result c.args.self.now.kindreds c.in-Some.number c.get.ensures all
