-- What kinds tell besides their tables.
use Rattle.std.specs.Prelude.{ℕ, ◌==◌, Bool, true, false, not, Option, Some, None}
use Rattle.reo_values.specs.declared.value.Value.{Value}
use Rattle.reo_values.specs.declared.kindred.Kindred.{Kindred}
use Rattle.reo_net_base.specs.declared.form.Form.{Form}
use Rattle.reo_net_base.specs.Lasting.{Lasting}
use Rattle.reo_kinds.specs.declared.kind.Kind.{Kind}
use Rattle.reo_kinds.specs.declared.kind.Kind.TheVariants.{Writer, Taker, Store, Shift, Variable, Quota, Filter, Map}
use Rattle.reo_kinds.specs.Kinds.{form_of, front_of}

-- The form of each side.
abbrev pub told_form : Kind → ℕ → Option Form
told_form kind side = Some (form_of kind side)

-- The offered item, the front of a buffer, what a variable holds.
abbrev pub front_item : Kind → Option Value
front_item (Writer port) = port.offer
front_item (Store buffer) = front_of buffer
front_item (Shift buffer) = front_of buffer
front_item (Variable held) = held
front_item _ = None

-- Whether the table of a side may become another: of ports and quotas, of both sides of a buffer, and of the tails of
-- shift buffers and variables, whose mouths can always flow.
abbrev pub varies_at : Kind → ℕ → Bool
varies_at (Writer port) side = true
varies_at (Taker port) side = true
varies_at (Store buffer) side = true
varies_at (Quota left) side = true
varies_at (Shift buffer) side = not (side == 0)
varies_at (Variable held) side = not (side == 0)
varies_at _ side = false

-- Filters alone keep items out.
abbrev pub is_open_kind : Kind → Bool
is_open_kind (Filter rule) = false
is_open_kind _ = true

-- Whether something is kept between rounds.
abbrev pub keeps_some : Kind → Bool
keeps_some (Writer port) = true
keeps_some (Taker port) = true
keeps_some (Store buffer) = true
keeps_some (Shift buffer) = true
keeps_some (Variable held) = true
keeps_some (Quota left) = true
keeps_some _ = false

-- Maps alone give something else than what they take.
abbrev pub carries_item : Kind → Bool
carries_item (Map rule) = false
carries_item _ = true

-- The type of what a writer offers.
abbrev pub origin_of : Kind → Option Kindred
origin_of (Writer port) = Some port.kindred
origin_of _ = None

abbrev pub lasting_of : Kind → Lasting
lasting_of kind = record {
  varies = varies_at kind;
  is_open = λ _. is_open_kind kind;
  keeps = keeps_some kind;
  carries = carries_item kind;
  origin = origin_of kind;
}
