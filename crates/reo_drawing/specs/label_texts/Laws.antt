-- Laws of labels.
use Rattle.std.specs.Prelude.{ℕ, ◌≡◌, ◌<◌, true, false, List}
use Rattle.std.specs.List.{flat_map, All}
use Rattle.reo_drawing.specs.label_texts.Escape.{escape, stays_shut}

-- No text ends its label before its end.
abbrev pub LabelsStayShut : Type 0
LabelsStayShut = (text : List ℕ) → All (λ byte. byte < 256) text → stays_shut false (flat_map escape text) ≡ true
