-- What is owed of drawings.
use Rattle.std.specs.Prelude.{ℕ, List, []}
use Rattle.reo_drawing.specs.declared.picture.Scene.{Scene}
use Rattle.reo_drawing.specs.Pictures.{picture_text}
use Rattle.reo_command.specs.Readings.{FlatCircuit}
use Rattle.reo_command.specs.Statuses.{done}
use Rattle.reo_command.specs.top_base.Outputs.{Outputs, IsLine}

-- What is shown where no round is.
abbrev pub no_scene : Scene
no_scene = record { title = []; marks = []; lost = [] }

-- The picture of a circuit.
abbrev pub circuit_picture : FlatCircuit → List ℕ
circuit_picture flat = picture_text flat.wiring.primitives flat.wiring.joints flat.ports flat.homes flat.nodes no_scene []

-- It is written, with its status.
abbrev pub DrawsCircuit : FlatCircuit → Outputs
DrawsCircuit flat = IsLine (circuit_picture flat) done
