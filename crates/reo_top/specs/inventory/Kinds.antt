-- What primitives are called.
use Rattle.std.specs.Prelude.{ℕ, ◌++◌, Bool, true, false, cond, Option, Some, None, List, [], codes}
use Rattle.std.specs.Fmt.{decimal}
use Rattle.reo_kinds.specs.declared.kind.Kind.{Kind}
use Rattle.reo_kinds.specs.declared.kind.Kind.TheVariants.{Writer, Taker, Sync, Lossy, SyncDrain, AsyncDrain, Store, Shift, Variable, Quota, Filter, Map, Merger, Replicator}

-- The word for a primitive.
abbrev pub word_of : Kind → List ℕ
word_of (Writer port) = codes "writer"
word_of (Taker port) = codes "taker"
word_of Sync = codes "sync"
word_of Lossy = codes "lossy"
word_of SyncDrain = codes "syncdrain"
word_of AsyncDrain = codes "asyncdrain"
word_of (Store buffer) = codes "fifo"
word_of (Shift buffer) = codes "shift"
word_of (Variable held) = codes "variable"
word_of (Quota left) = codes "quota"
word_of (Filter rule) = codes "filter"
word_of (Map rule) = codes "map"
word_of (Merger branches) = codes "merger"
word_of (Replicator branches) = codes "replicator"

-- The number behind the word: how many items a buffer may have, or how much of a quota is left.
abbrev pub number_of : Kind → Option ℕ
number_of (Store buffer) = Some buffer.size
number_of (Shift buffer) = Some buffer.size
number_of (Quota left) = Some left
number_of _ = None

abbrev pub number_text : Option ℕ → List ℕ
number_text None = []
number_text (Some number) = decimal number ++ codes " "

-- Whether it stands between two nodes: ports, mergers and replicators are at one.
abbrev pub has_two : Kind → Bool
has_two (Writer port) = false
has_two (Taker port) = false
has_two (Merger branches) = false
has_two (Replicator branches) = false
has_two _ = true

-- One node, or two.
abbrev pub nodes_text : Bool → List ℕ → List ℕ → List ℕ
nodes_text two first second = first ++ cond two (codes " " ++ second) []
