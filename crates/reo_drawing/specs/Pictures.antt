-- The picture of a circuit.
use Rattle.std.specs.Prelude.{ℕ, ◌++◌, Bool, false, Option, Some, None, List, [], map, codes, slice_get, slice_index_or}
use Rattle.std.specs.Fmt.{decimal}
use Rattle.reo_values.specs.declared.value.Value.{Value}
use Rattle.reo_net_base.specs.declared.joint.Joint.{Joint}
use Rattle.reo_net_base.specs.declared.port.Port.{Port}
use Rattle.reo_kinds.specs.declared.kind.Kind.{Kind}
use Rattle.reo_drawing.specs.label_texts.Escape.{label}
use Rattle.reo_drawing.specs.declared.marks.JointMarks.{JointMarks}
use Rattle.reo_drawing.specs.declared.picture.Scene.{Scene}
use Rattle.reo_drawing.specs.Joints.{joint_line}
use Rattle.reo_drawing.specs.Numbered.{numbered}
use Rattle.reo_drawing.specs.Strands.{strand_of}
use Rattle.reo_drawing.specs.Vertices.{vertex_line}

-- The line of a node: its name round all that stands at it.
unfoldable pub node_line : ℕ → List ℕ → List ℕ
node_line number name = codes "  subgraph cluster_" ++ decimal number ++ codes " { label=" ++ label name ++ codes "; }\n"

-- A line for each node.
abbrev pub node_lines : List (List ℕ) → List ℕ
node_lines names = numbered node_line 0 names

-- The name of a port, and none for what is no port.
abbrev pub name_of : List Port → ℕ → List ℕ
name_of ports number = slice_index_or (map (λ (port : Port). port.name) ports) number []

-- The line of the primitive of a number.
abbrev pub primitive_line : List Port → List Bool → ℕ → Kind → List ℕ
primitive_line ports lost number kind = vertex_line number (name_of ports number) kind (slice_index_or lost number false)

-- A line for each primitive.
abbrev pub primitive_lines : List Port → List Bool → List Kind → List ℕ
primitive_lines ports lost kinds = numbered (primitive_line ports lost) 0 kinds

-- The item at a place, where one is.
abbrev pub just : Option (Option Value) → Option Value
just None = None
just (Some item) = item

abbrev pub item_at : List (Option Value) → ℕ → Option Value
item_at items number = just (slice_get items number)

-- The line of the joint of a number.
abbrev pub joint_text : List Kind → List ℕ → List JointMarks → List (Option Value) → ℕ → Joint → List ℕ
joint_text kinds homes marks items number joint =
    joint_line number (slice_index_or homes number 0) joint (strand_of (slice_get kinds joint.giver.primitive)) (strand_of (slice_get kinds joint.taker.primitive))
    (slice_get marks number) (item_at items number)

-- A line for each joint.
abbrev pub joint_lines : List Kind → List ℕ → List JointMarks → List (Option Value) → List Joint → List ℕ
joint_lines kinds homes marks items joints = numbered (joint_text kinds homes marks items) 0 joints

-- What stands before the lines.
unfoldable pub head_text : List ℕ → List ℕ
head_text title =
    codes "digraph circuit {\n  graph [rankdir=LR nodesep=0.15 ranksep=0.2" ++ codes " style=rounded color=gray60 fontname=Helvetica fontsize=10 label=" ++ label title
    ++ codes "];\n  node [fontname=Helvetica fontsize=10 height=0.3" ++ codes " margin=\"0.08,0.04\"];\n  edge [dir=both arrowtail=none arrowsize=0.7];\n"

-- The picture: a line for each node, for each primitive and for each joint.
abbrev pub picture_text : List Kind → List Joint → List Port → List ℕ → List (List ℕ) → Scene → List (Option Value) → List ℕ
picture_text kinds joints ports homes names scene items =
    head_text scene.title ++ node_lines names ++ primitive_lines ports scene.lost kinds ++ joint_lines kinds homes scene.marks items joints ++ codes "}\n"
