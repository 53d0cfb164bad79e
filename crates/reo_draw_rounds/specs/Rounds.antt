-- The picture of a circuit in a round.
use Rattle.std.specs.Prelude.{ℕ, ◌++◌, List, codes}
use Rattle.std.specs.Fmt.{decimal}
use Rattle.reo_net_base.specs.declared.colouring.Colouring.{Colouring}
use Rattle.reo_net_base.specs.declared.port.Port.{Port}
use Rattle.reo_net_base.specs.Net.{Wiring, net_of}
use Rattle.reo_kinds.specs.declared.kind.Kind.{Kind}
use Rattle.reo_kinds.specs.Kinds.{behaviour_of}
use Rattle.reo_trace.specs.declared.line.RoundLine.{RoundLine}
use Rattle.reo_drawing.specs.declared.picture.Scene.{Scene}
use Rattle.reo_drawing.specs.Pictures.{picture_text}
use Rattle.reo_draw_rounds.specs.Losses.{losses_of}
use Rattle.reo_draw_rounds.specs.Marks.{marks_of}

-- What stands above the picture of the round of a number.
abbrev pub title_text : ℕ → List ℕ
title_text round = codes "round " ++ decimal round

-- What is shown of a round: the marks of all joints, and which primitives lose an item.
abbrev pub scene_of : Wiring Kind → RoundLine → List ℕ → Scene
scene_of w line rows = record {
  title = title_text line.round;
  marks = marks_of (net_of behaviour_of w) rows;
  lost = losses_of w.primitives line.entries;
}

-- The picture of the circuit as it is before the round, with that and with the items that flow.
abbrev pub round_picture : Wiring Kind → List Port → List ℕ → List (List ℕ) → RoundLine → Colouring → List ℕ
round_picture w ports homes names line colouring =
    picture_text w.primitives w.joints ports homes names (scene_of w line colouring.rows) colouring.items
