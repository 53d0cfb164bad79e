-- What stands in open circuits, as mathematics.
use Rattle.std.specs.Prelude.{ℕ, Option, None}
use Rattle.reo_values.specs.declared.value.Value.{Value}
use Rattle.reo_net_base.specs.declared.colouring.Chosen.{Chosen}
use Rattle.reo_net_base.specs.declared.form.Form.{Form}
use Rattle.reo_net_base.specs.Behaviour.{Behaviour}
use Rattle.reo_net_base.specs.Lasting.{Lasting}
use Rattle.reo_kinds.specs.Kinds.{behaviour_of, settled_kind}
use Rattle.reo_kinds.specs.Telling.{told_form, front_item, lasting_of}
use Rattle.reo_open.specs.declared.opens.Open.{Open}
use Rattle.reo_open.specs.declared.opens.Open.TheVariants.{Border, Inner}
use Rattle.reo_open.specs.Gates.{gate_behaviour, gate_lasting}

abbrev pub open_behaviour : Open → Behaviour
open_behaviour (Border g) = gate_behaviour g
open_behaviour (Inner kind) = behaviour_of kind

abbrev pub open_settled : Open → Chosen → Option Value → Open
open_settled (Border g) rows taken = Border g
open_settled (Inner kind) rows taken = Inner (settled_kind kind rows taken)

-- The table of a gate is of no form.
abbrev pub open_form : Open → ℕ → Option Form
open_form (Border g) side = None
open_form (Inner kind) side = told_form kind side

abbrev pub open_front : Open → Option Value
open_front (Border g) = None
open_front (Inner kind) = front_item kind

abbrev pub open_lasting : Open → Lasting
open_lasting (Border g) = gate_lasting
open_lasting (Inner kind) = lasting_of kind
