-- The line of a joint.
use Rattle.std.specs.Prelude.{ℕ, ◌++◌, cond, Option, Some, None, List, [], codes}
use Rattle.std.specs.Fmt.{decimal}
use Rattle.reo_values.specs.declared.value.Value.{Value}
use Rattle.reo_net_base.specs.declared.joint.End.{End}
use Rattle.reo_net_base.specs.declared.joint.Joint.{Joint}
use Rattle.reo_net_base.specs.declared.mark.Mark.{Mark}
use Rattle.reo_net_base.specs.declared.mark.Mark.TheVariants.{F, G, J}
use Rattle.reo_drawing.specs.label_texts.Escape.{label}
use Rattle.reo_drawing.specs.label_texts.Items.{item_text}
use Rattle.reo_drawing.specs.declared.marks.JointMarks.{JointMarks}
use Rattle.reo_drawing.specs.declared.strand.Strand.{Strand}
use Rattle.reo_drawing.specs.Strands.{style_text, sink_arrow, source_arrow, is_inside, is_back}

-- The marks of its two ends, where they are shown.
abbrev pub giver_mark : Option JointMarks → Option Mark
giver_mark None = None
giver_mark (Some marks) = Some marks.giver

abbrev pub taker_mark : Option JointMarks → Option Mark
taker_mark None = None
taker_mark (Some marks) = Some marks.taker

-- Who gives a reason why nothing flows has an open arrow at the joint, which points to whom it is given, and who jams a box.
abbrev pub mark_arrow : Option Mark → List ℕ
mark_arrow (Some G) = codes "onormal"
mark_arrow (Some J) = codes "box"
mark_arrow _ = []

-- The line of an end is thick where an item flows, and thin where none does.
abbrev pub mark_width : Option Mark → List ℕ
mark_width None = []
mark_width (Some F) = codes " penwidth=3"
mark_width (Some mark) = codes " penwidth=0.5"

-- An arrow of two forms, the one before the other, or none.
unfoldable pub arrow_text : List ℕ → List ℕ → List ℕ
arrow_text [] [] = codes "none"
arrow_text first second = first ++ second

-- How the line of an end is drawn.
unfoldable pub attributes_text : Strand → Option Mark → List ℕ
attributes_text strand mark = codes " style=" ++ style_text strand ++ mark_width mark ++ codes "];"

-- Which two points a line joins.
unfoldable pub link_text : List ℕ → ℕ → List ℕ → ℕ → List ℕ
link_text from first to second = from ++ decimal first ++ to ++ decimal second

-- The line from the primitive that gives items to the joint.
unfoldable pub giver_text : ℕ → ℕ → Strand → Option Mark → List ℕ
giver_text number primitive strand mark =
    link_text (codes " p") primitive (codes " -> j") number ++ (codes " [arrowhead=" ++ arrow_text (mark_arrow mark) (sink_arrow strand)) ++ attributes_text strand mark

-- The line from the joint to the primitive that takes items.
unfoldable pub onward_text : ℕ → ℕ → Strand → Option Mark → List ℕ
onward_text number primitive strand mark =
    link_text (codes " j") number (codes " -> p") primitive ++ (codes " [arrowtail=" ++ arrow_text (mark_arrow mark) [])
    ++ (codes " arrowhead=" ++ arrow_text [] (source_arrow strand)) ++ attributes_text strand mark

-- The same line as one from the primitive to the joint, which then lies behind it.
unfoldable pub backward_text : ℕ → ℕ → Strand → Option Mark → List ℕ
backward_text number primitive strand mark =
    link_text (codes " p") primitive (codes " -> j") number ++ (codes " [arrowhead=" ++ arrow_text (mark_arrow mark) [])
    ++ (codes " arrowtail=" ++ arrow_text [] (source_arrow strand)) ++ attributes_text strand mark

-- The line between the joint and the end that takes items: the second end of a drain lies behind it.
abbrev pub taker_text : ℕ → End → Strand → Option Mark → List ℕ
taker_text number end strand mark = cond (is_back strand end.end) (backward_text number end.primitive strand mark) (onward_text number end.primitive strand mark)

-- A point with the item that flows beside it.
unfoldable pub item_point : Value → List ℕ
item_point item = codes "xlabel=" ++ label (item_text item) ++ codes " shape=point width=0.1"

-- The point of a joint at which nothing flows: a square where it jams, and else a circle.
abbrev pub still_point : Mark → List ℕ
still_point J = codes "shape=square width=0.1 height=0.1 fixedsize=true label=\"\""
still_point mark = codes "shape=circle width=0.07 height=0.07 fixedsize=true label=\"\""

-- The point of a joint whose marks are shown.
abbrev pub marked_point : Mark → Option Value → List ℕ
marked_point mark (Some item) = item_point item
marked_point mark None = still_point mark

-- The point of a joint.
abbrev pub point_text : Option JointMarks → Option Value → List ℕ
point_text None item = codes "shape=point width=0.05"
point_text (Some marks) item = marked_point marks.giver item

-- A merger or replicator stands in the node, too.
abbrev pub member_text : ℕ → Strand → List ℕ
member_text primitive strand = cond (is_inside strand) (codes " p" ++ decimal primitive ++ codes ";") []

-- The point of a joint in its node.
unfoldable pub place_text : ℕ → ℕ → Option JointMarks → Option Value → List ℕ
place_text number home marks item =
    codes "  subgraph cluster_" ++ decimal home ++ codes " { j" ++ decimal number ++ codes " [" ++ point_text marks item ++ codes "];"

-- That, and what else stands at it in its node.
unfoldable pub spot_text : ℕ → ℕ → Joint → Strand → Strand → Option JointMarks → Option Value → List ℕ
spot_text number home joint giver taker marks item =
    place_text number home marks item ++ member_text joint.giver.primitive giver ++ member_text joint.taker.primitive taker ++ codes " }"

-- The lines from a joint to the primitives on both sides.
unfoldable pub sides_text : ℕ → Joint → Strand → Strand → Option Mark → Option Mark → List ℕ
sides_text number joint giver taker first second =
    giver_text number joint.giver.primitive giver first ++ taker_text number joint.taker taker second ++ codes "\n"

-- The line of a joint: its point in its node, with what else stands at it there, and the lines to the primitives on both sides.
unfoldable pub joint_line : ℕ → ℕ → Joint → Strand → Strand → Option JointMarks → Option Value → List ℕ
joint_line number home joint giver taker marks item =
    spot_text number home joint giver taker marks item ++ sides_text number joint giver taker (giver_mark marks) (taker_mark marks)
