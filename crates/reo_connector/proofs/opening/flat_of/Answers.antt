-- The one file that there is has the text.
use Rattle.std.proofs.Common.{ap, refl}
use Rattle.std.specs.Prelude.{Some}
use Rattle.reo_connector.proofs.Alone.{read_alone}
use Rattle.reo_connector.proofs.opening.flat_of.Goals as goal

pub returns-in-Ok-clause-read : goal.returns-in-Ok-clause-read
returns-in-Ok-clause-read c =
    read_alone c.args.text.now c.requires _ c.read_flat.result (ap (λ folder. Some folder) c.in-Ok.ensures) refl refl c.read_flat.ensures.read
