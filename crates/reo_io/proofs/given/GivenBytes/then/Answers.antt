use Rattle.std.proofs.Common.{◌∙◌, ap, []}
use Rattle.reo_io.specs.Given.{empties}
use Rattle.reo_io.proofs.Empties.{empties-then}
use Rattle.reo_io.proofs.given.GivenBytes.then.Goals as goal

pub returns-clause-empties : goal.returns-clause-empties
returns-clause-empties c = ap empties c.then.ensures ∙ empties-then c.args.self.now.pieces.files [] c.args.piece.now
