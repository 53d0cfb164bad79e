-- What the rules ask of a channel.
use Rattle.std.specs.Prelude.{Bool, true, false, Some, List, [], ◌∷◌}
use Rattle.reo_trees.specs.declared.literals.Literal.{Literal}
use Rattle.reo_trees.specs.declared.items.Channel.{Channel}
use Rattle.reo_trees.specs.declared.items.Channel.TheVariants as channels

-- The channel has two source ends; every other has a source end and a sink end.
abbrev pub is_drain : Channel → Bool
is_drain channels.SyncDrain = true
is_drain channels.AsyncDrain = true
is_drain c = false

-- The items that come out are of the type of those that go in, and so are its two nodes.
abbrev pub keeps_type : Channel → Bool
keeps_type channels.SyncDrain = false
keeps_type channels.AsyncDrain = false
keeps_type (channels.Map t) = false
keeps_type c = true

-- The literals that it is declared with.
abbrev pub literals_of : Channel → List Literal
literals_of (channels.Fifo1 (Some l)) = l ∷ []
literals_of (channels.Fifo size ls) = ls
literals_of (channels.Shift size ls) = ls
literals_of (channels.Variable (Some l)) = l ∷ []
literals_of c = []
