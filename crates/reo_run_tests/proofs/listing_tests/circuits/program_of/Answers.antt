use Rattle.std.proofs.Common.{arith, ◌<◌, ◌^◌, length}
use Rattle.reo_run_tests.proofs.listing_tests.circuits.program_of.Goals as goal

pub returns-in-Ok-clause-spelled : goal.returns-in-Ok-clause-spelled
returns-in-Ok-clause-spelled c = c.programs_are_spelled.ensures c.args.text.now c.in-Ok.program c.in-Ok.ensures.parsed

pub returns-in-Ok-clause-plain : goal.returns-in-Ok-clause-plain
returns-in-Ok-clause-plain c =
    let few = c.if-text-ge65536.false in
    let short : length c.args.text.now < 2 ^ 64 = omega arith in
    c.names_are_plain.ensures c.args.text.now c.in-Ok.program short c.in-Ok.ensures.parsed
