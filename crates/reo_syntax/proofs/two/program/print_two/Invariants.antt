use Rattle.std.proofs.Common.{◌≡◌, ◌++◌, take, codes}
use Rattle.std.specs.List.{flat_map}
use Rattle.reo_syntax.specs.two.Canonical.{declaration_text}
use Rattle.reo_syntax.proofs.two.program.print_two.Given as goal

abbrev pub invariant-loop-declaration : goal.invariant-loop-declaration
invariant-loop-declaration l = l.out ≡ codes "reo 2\n" ++ flat_map declaration_text (take l.declaration-index l.program.declarations)
