-- What stands in the picture of a primitive.
use Rattle.std.specs.Prelude.{ℕ, ◌++◌, cond, Bool, Option, Some, None, List, [], codes}
use Rattle.std.specs.Fmt.{decimal}
use Rattle.std.specs.List.{flat_map}
use Rattle.reo_values.specs.ItemText.{text_of}
use Rattle.reo_values.specs.declared.kindred.Kindred.{Kindred}
use Rattle.reo_values.specs.declared.value.Value.{Value}
use Rattle.reo_buffers.specs.Stored.{Stored}
use Rattle.reo_kinds.specs.declared.kind.WriterPort.{WriterPort}
use Rattle.reo_kinds.specs.declared.kind.Kind.{Kind}
use Rattle.reo_kinds.specs.declared.kind.Kind.TheVariants.{Writer, Taker, AsyncDrain, Store, Shift, Variable, Quota, Filter, Map}
use Rattle.reo_drawing.specs.label_texts.Items.{item_text}
use Rattle.reo_drawing.specs.label_texts.Exprs.{expr_text}

-- The item that is offered at a port, if one is.
abbrev pub offered_text : Kindred → Option Value → List ℕ
offered_text kindred None = []
offered_text kindred (Some item) = codes "!" ++ text_of item kindred

abbrev pub offer_text : WriterPort → List ℕ
offer_text port = offered_text port.kindred port.offer

abbrev pub take_text : Bool → List ℕ
take_text pending = cond pending (codes "?") []

-- An item on a line of its own.
abbrev pub line_text : Value → List ℕ
line_text item = codes "\n" ++ item_text item

abbrev pub lines_text : List Value → List ℕ
lines_text items = flat_map line_text items

-- A word with a number.
abbrev pub size_text : List ℕ → ℕ → List ℕ
size_text word size = word ++ decimal size

-- A buffer: how many places it has, and its items, that at the front first.
abbrev pub buffer_text : List ℕ → Stored → List ℕ
buffer_text word buffer = size_text word buffer.size ++ lines_text buffer.items

-- A variable, and what it holds.
abbrev pub variable_text : Option Value → List ℕ
variable_text None = codes "variable"
variable_text (Some item) = codes "variable" ++ line_text item

-- A port has its name and what is offered there, a buffer its size and its items, a variable its item, a quota what is left
-- of it, a filter a zigzag and its expression, a map its expression.
abbrev pub kind_text : List ℕ → Kind → List ℕ
kind_text name (Writer port) = name ++ offer_text port
kind_text name (Taker port) = name ++ take_text port.pending
kind_text name AsyncDrain = codes "//"
kind_text name (Store buffer) = buffer_text (codes "fifo ") buffer
kind_text name (Shift buffer) = buffer_text (codes "shift ") buffer
kind_text name (Variable held) = variable_text held
kind_text name (Quota left) = size_text (codes "quota ") left
kind_text name (Filter rule) = codes "/\\/\\/\\\n" ++ expr_text rule.expr
kind_text name (Map rule) = expr_text rule.expr
kind_text name _ = []
