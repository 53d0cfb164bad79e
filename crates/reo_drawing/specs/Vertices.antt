-- The line of a primitive.
use Rattle.std.specs.Prelude.{ℕ, ◌++◌, cond, Bool, List, [], codes}
use Rattle.std.specs.Fmt.{decimal}
use Rattle.reo_kinds.specs.declared.kind.Kind.{Kind}
use Rattle.reo_kinds.specs.declared.kind.Kind.TheVariants.{Writer, Taker, Sync, Lossy, SyncDrain, AsyncDrain, Store, Shift, Variable, Quota, Filter, Map, Merger, Replicator}
use Rattle.reo_drawing.specs.label_texts.Escape.{label}
use Rattle.reo_drawing.specs.Labels.{kind_text}

-- The shape of a primitive.
abbrev pub shape_text : Kind → List ℕ
shape_text (Writer port) = codes "box"
shape_text (Taker port) = codes "box"
shape_text Sync = codes "point width=0.01"
shape_text Lossy = codes "point width=0.01"
shape_text SyncDrain = codes "point width=0.01"
shape_text AsyncDrain = codes "plaintext margin=0 width=0 height=0"
shape_text (Store buffer) = codes "box"
shape_text (Shift buffer) = codes "box style=dashed"
shape_text (Variable held) = codes "box style=rounded"
shape_text (Quota left) = codes "octagon"
shape_text (Filter rule) = codes "plaintext margin=0 width=0 height=0"
shape_text (Map rule) = codes "cds"
shape_text (Merger branches) = codes "triangle orientation=270 width=0.2 height=0.2 fixedsize=true"
shape_text (Replicator branches) = codes "triangle orientation=90 width=0.2 height=0.2 fixedsize=true"

-- Where an item is lost, that is said.
abbrev pub lost_text : Bool → List ℕ
lost_text lost = cond lost (codes " xlabel=\"lost\"") []

-- The line of a primitive: its number, its shape, and what stands in it.
unfoldable pub vertex_line : ℕ → List ℕ → Kind → Bool → List ℕ
vertex_line number name kind lost =
    codes "  p" ++ decimal number ++ codes " [shape=" ++ shape_text kind ++ codes " label=" ++ label (kind_text name kind) ++ lost_text lost ++ codes "];\n"
