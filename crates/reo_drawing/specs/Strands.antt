-- How the ends of a primitive are drawn.
use Rattle.std.specs.Prelude.{ℕ, ◌==◌, Bool, true, false, Option, Some, None, List, [], codes}
use Rattle.reo_kinds.specs.declared.kind.Kind.{Kind}
use Rattle.reo_kinds.specs.declared.kind.Kind.TheVariants.{Writer, Taker, Lossy, SyncDrain, AsyncDrain, Shift, Merger, Replicator}
use Rattle.reo_drawing.specs.declared.strand.Strand.{Strand}
use Rattle.reo_drawing.specs.declared.strand.Strand.TheVariants as strands

-- Ports, plain channels, those that may lose items, drains, and what stands inside a node.
abbrev pub strand_of_kind : Kind → Strand
strand_of_kind (Writer port) = strands.Port
strand_of_kind (Taker port) = strands.Port
strand_of_kind Lossy = strands.Lossy
strand_of_kind (Shift buffer) = strands.Lossy
strand_of_kind SyncDrain = strands.Drain
strand_of_kind AsyncDrain = strands.Drain
strand_of_kind (Merger branches) = strands.Inside
strand_of_kind (Replicator branches) = strands.Inside
strand_of_kind _ = strands.Channel

abbrev pub strand_of : Option Kind → Strand
strand_of None = strands.Channel
strand_of (Some kind) = strand_of_kind kind

-- Lines of channels that may lose items are dashed.
abbrev pub style_text : Strand → List ℕ
style_text strands.Lossy = codes "dashed"
style_text _ = codes "solid"

-- An arrow where items leave a channel, none where they leave a port or what stands inside a node.
abbrev pub sink_arrow : Strand → List ℕ
sink_arrow strands.Channel = codes "normal"
sink_arrow strands.Lossy = codes "normal"
sink_arrow _ = []

-- And one where they enter a drain or a port.
abbrev pub source_arrow : Strand → List ℕ
source_arrow strands.Drain = codes "normal"
source_arrow strands.Port = codes "vee"
source_arrow _ = []

abbrev pub is_inside : Strand → Bool
is_inside strands.Inside = true
is_inside _ = false

-- The second end of a drain is drawn from the drain, so that its node lies behind it.
abbrev pub is_back : Strand → ℕ → Bool
is_back strands.Drain end = end == 1
is_back _ end = false
