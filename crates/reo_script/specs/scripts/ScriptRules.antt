-- The rules of scripts on the ports of a circuit. Each has the list of its breaks in text order.
use Rattle.std.specs.Prelude.{ℕ, Bool, true, false, not, Option, Some, None, is_some, is_none, List, [], ◌∷◌, ◌++◌, length, map, position, bytes_eq, slice_get, option_and_then}
use Rattle.std.specs.Option.{option_map_or}
use Rattle.std.specs.List.{flat_map}
use Rattle.reo_values.specs.declared.value.Value.{Value}
use Rattle.reo_values.specs.declared.value.Value.TheVariants as values
use Rattle.reo_net_base.specs.declared.port.Port.{Port}
use Rattle.reo_net_base.specs.declared.port.Way.{Way}
use Rattle.reo_net_base.specs.declared.port.Way.TheVariants.{In, Out}
use Rattle.reo_trees.specs.declared.literals.Literal.{Literal}
use Rattle.reo_script.specs.declared.scripts.fault.ScriptFault.{ScriptFault}
use Rattle.reo_script.specs.declared.scripts.fault.ScriptFault.TheVariants as faults
use Rattle.reo_script.specs.declared.scripts.forms.ActionForm as form
use Rattle.reo_script.specs.declared.scripts.forms.ActionForm.{ActionForm}
use Rattle.reo_script.specs.declared.scripts.forms.ComponentForm.{ComponentForm}
use Rattle.reo_script.specs.declared.scripts.action.Action.{Action}
use Rattle.reo_script.specs.declared.scripts.action.Action.TheVariants as actions
use Rattle.reo_script.specs.declared.scripts.action.Component.{Component}
use Rattle.reo_rules.specs.Lists.{each_after, where_true, has_name}
use Rattle.reo_rules.specs.literals.Items.{item_of}

-- Whether two tests come out alike.
abbrev pub same : Bool → Bool → Bool
same true b = b
same false b = not b

-- A place where a script names a port: of a write with its literal, of a take without.
pub record Naming : Type 0 where
  pub line : ℕ
  pub port : List ℕ
  pub literal : Option Literal

abbrev mutual
  -- The places of an action that name a port, in text order. The body of a repeat stands there once, also for no times.
  pub namings : ActionForm → List Naming
  namings (form.Write line port literal within) = record { line = line; port = port; literal = Some literal } ∷ []
  namings (form.Take line port within) = record { line = line; port = port; literal = None } ∷ []
  namings (form.Pause rounds) = []
  namings (form.Repeat' times shape body) = namings_row body

  pub namings_row : {m : _} → form.Row_of-ActionForm m → List Naming
  namings_row form.end_of-ActionForm = []
  namings_row (form.more_of-ActionForm a rest) = namings a ++ namings_row rest

abbrev pub namings_in : ComponentForm → List Naming
namings_in c = flat_map namings c.actions

-- The number of the port of a name, and the port, if there is one.
abbrev pub port_number : List Port → List ℕ → Option ℕ
port_number ports name = position (bytes_eq name) (map (λ (p : Port). p.name) ports)

abbrev pub port_named : List Port → List ℕ → Option Port
port_named ports name = option_and_then (slice_get ports) (port_number ports name)

abbrev pub goes_in : Way → Bool
goes_in In = true
goes_in Out = false

-- The item that a literal is at a port.
abbrev pub item_at : List Port → List ℕ → Literal → Option Value
item_at ports name literal = option_and_then (λ (p : Port). item_of p.kindred literal) (port_named ports name)

-- No port has the name.
abbrev pub no_port : List Port → Naming → List ScriptFault
no_port ports n = where_true (is_none (port_named ports n.port)) (faults.NoPort n.line n.port)

-- A write is at an `out` port, or a take at an `in` port.
abbrev pub goes_wrong : List Port → Naming → Bool
goes_wrong ports n = option_map_or (λ (p : Port). not (same (goes_in p.way) (is_some n.literal))) (port_named ports n.port) false

abbrev pub wrong_way : List Port → Naming → List ScriptFault
wrong_way ports n = where_true (goes_wrong ports n) (faults.WrongWay n.line n.port)

-- A literal is no item of its port's type.
abbrev pub goes_outside : List Port → Naming → Bool
goes_outside ports n = option_map_or (λ (l : Literal). is_none (item_at ports n.port l)) n.literal false

abbrev pub outside : List Port → Naming → List ScriptFault
outside ports n = where_true (goes_outside ports n) (faults.ItemOutside n.line)

-- An earlier component names the port.
abbrev pub shared_in : List (List ℕ) → Naming → List ScriptFault
shared_in seen n = where_true (has_name seen n.port) (faults.Shared n.line n.port)

-- The names of ports that components name.
abbrev pub ports_in : List ComponentForm → List (List ℕ)
ports_in cs = map (λ (n : Naming). n.port) (flat_map namings_in cs)

abbrev pub shared : List ComponentForm → List ScriptFault
shared cs = each_after (λ before c. flat_map (shared_in (ports_in before)) (namings_in c)) [] cs

-- All breaks, rule by rule.
abbrev pub breaks : List Port → List ComponentForm → List ScriptFault
breaks ports cs =
    flat_map (no_port ports) (flat_map namings_in cs) ++ (flat_map (wrong_way ports) (flat_map namings_in cs)
    ++ (flat_map (outside ports) (flat_map namings_in cs) ++ shared cs))

-- The port of an action, and the item of a write; a script without breaks has both.
abbrev pub the_number : List Port → Option ℕ → ℕ
the_number ports None = length ports
the_number ports (Some number) = number

abbrev pub the_item : Option Value → Value
the_item None = values.Unit
the_item (Some item) = item

abbrev mutual
  -- The action for these ports.
  pub scripted : List Port → ActionForm → Action
  scripted ports (form.Write line port literal within) = actions.Write (the_number ports (port_number ports port)) (the_item (item_at ports port literal)) within
  scripted ports (form.Take line port within) = actions.Take (the_number ports (port_number ports port)) within
  scripted ports (form.Pause rounds) = actions.Pause rounds
  scripted ports (form.Repeat' times shape body) = actions.Repeat times (scripted_row ports body)

  pub scripted_row : List Port → {m : _} → form.Row_of-ActionForm m → List Action
  scripted_row ports form.end_of-ActionForm = []
  scripted_row ports (form.more_of-ActionForm a rest) = scripted ports a ∷ scripted_row ports rest

abbrev pub component_for : List Port → ComponentForm → Component
component_for ports c = record { name = c.name; actions = map (scripted ports) c.actions }
