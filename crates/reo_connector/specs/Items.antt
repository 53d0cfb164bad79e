-- Items of ports, and their texts.
use Rattle.std.specs.Prelude.{ℕ, ◌≡◌, List, [], Option, Some, None, slice_get}
use Rattle.reo_net_base.specs.declared.port.Port.{Port}
use Rattle.reo_values.specs.ItemText.{text_of}
use Rattle.reo_values.specs.Kind.{IsIn}
use Rattle.reo_values.specs.declared.fault.ReadFault.{ReadFault}
use Rattle.reo_values.specs.declared.fault.ReadFault.TheVariants as reads
use Rattle.reo_values.specs.declared.value.Value.{Value}
use Rattle.reo_connector.specs.Held.{Held}
use Rattle.reo_connector.specs.declared.items.ItemFault.{ItemFault}
use Rattle.reo_connector.specs.declared.items.ItemFault.TheVariants as faults

-- There is a port of this number, and this is the item of its type that has this text.
pub record HasText (c : Held) (port : ℕ) (text : List ℕ) (item : Value) : Type 0 where
  pub at : Port
  pub is : slice_get c.ports port ≡ Some at
  pub item_is : IsIn item at.kindred
  pub text_is : text ≡ text_of item at.kindred

-- The text of an item at a port that there is, or nothing.
abbrev pub text_by : Option Port → Value → List ℕ
text_by (Some port) item = text_of item port.kindred
text_by None item = []

abbrev pub text_at : Held → ℕ → Value → List ℕ
text_at c port item = text_by (slice_get c.ports port) item

-- Why reading an item failed.
abbrev pub item_fault : ReadFault → ItemFault
item_fault reads.NotALiteral = faults.NoItem
item_fault reads.NoMemory = faults.NoMemory
