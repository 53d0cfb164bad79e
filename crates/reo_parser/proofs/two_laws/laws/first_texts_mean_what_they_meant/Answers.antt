use Rattle.reo_parser.proofs.two_laws.Versions.{first-meant}
use Rattle.reo_parser.proofs.two_laws.laws.first_texts_mean_what_they_meant.Goals as goal

pub returns : goal.returns
returns c text r first h = first-meant text r first h
