use Rattle.reo_drawing.proofs.label_texts.Shut.{all_shut}
use Rattle.reo_drawing.proofs.label_texts.laws.labels_stay_shut.Goals as goal

pub returns : goal.returns
returns c = all_shut
