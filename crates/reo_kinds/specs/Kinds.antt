-- The kinds by their tables, what a round leaves, and the kinds as ports.
use Rattle.std.specs.Prelude.{◌≡◌, ℕ, ◌-◌, ◌==◌, Bool, true, false, not, cond, nat_lt, Option, Some, None, is_some, slice_get}
use Rattle.std.specs.Option.{option_map}
use Rattle.std.proofs.Common.{refl}
use Rattle.reo_values.specs.declared.value.Value.{Value}
use Rattle.reo_net_base.specs.declared.colouring.Chosen.{Chosen}
use Rattle.reo_net_base.specs.declared.port.Way.TheVariants.{In, Out}
use Rattle.reo_net_base.specs.declared.port.Offer.{Offer}
use Rattle.reo_net_base.specs.declared.port.Offer.TheVariants.{Write, Take}
use Rattle.reo_net_base.specs.Marks.{is_flow}
use Rattle.reo_net_base.specs.Behaviour.{Behaviour}
use Rattle.reo_net_base.specs.PortState.{PortState, no_port_state}
use Rattle.reo_buffers.specs.Stored.{Stored, is_full, with_back, without_front}
use Rattle.reo_kinds.specs.declared.ends.EndLayout.{EndLayout}
use Rattle.reo_kinds.specs.declared.ends.EndLayout.TheVariants as ends
use Rattle.reo_kinds.specs.declared.kind.WriterPort.{WriterPort}
use Rattle.reo_kinds.specs.declared.kind.TakerPort.{TakerPort}
use Rattle.reo_kinds.specs.declared.kind.Kind.{Kind}
use Rattle.reo_kinds.specs.declared.kind.Kind.TheVariants.{Writer, Taker, Sync, Lossy, SyncDrain, AsyncDrain, Store, Shift, Variable, Quota, Filter, Map, Merger, Replicator}
use Rattle.reo_values.specs.Kind.{is_item}
use Rattle.reo_kinds.specs.Rules.{accepts, image}
use Rattle.reo_net_base.specs.declared.table.Table.{Table}
use Rattle.reo_net_base.specs.declared.table.Table.TheVariants as tables
use Rattle.reo_net_base.specs.declared.form.Form.{Form}
use Rattle.reo_net_base.specs.declared.form.Form.TheVariants.{Single, Double, Merging, Replicating}
use Rattle.reo_kinds.specs.Forms.{behaviour_by}

-- How the ends of a kind lie.
abbrev pub kind_ends : Kind → EndLayout
kind_ends (Writer port) = ends.Out
kind_ends (Taker port) = ends.In
kind_ends SyncDrain = ends.InIn
kind_ends AsyncDrain = ends.InIn
kind_ends (Store buffer) = ends.MouthTail
kind_ends (Shift buffer) = ends.MouthTail
kind_ends (Variable held) = ends.MouthTail
kind_ends (Merger branches) = ends.Inputs branches
kind_ends (Replicator branches) = ends.Outputs branches
kind_ends _ = ends.InOut

-- The table of a side with one end, by whether it can flow.
abbrev pub ready_table : Bool → Table
ready_table true = tables.Ready
ready_table false = tables.Resting

abbrev pub ready : Bool → Form
ready can_flow = Single (ready_table can_flow)

-- The table of a quota, by whether any is left.
abbrev pub quota_table : Bool → Table
quota_table true = tables.Together
quota_table false = tables.Spent

-- A mouth and a tail, by whether the mouth can flow and by the item that the tail gives, if there is one.
abbrev pub mouth_and_tail : Bool → Option Value → ℕ → Form
mouth_and_tail free front side = cond (side == 0) (ready free) (ready (is_some front))

-- The front of a buffer.
abbrev pub front_of : Stored → Option Value
front_of buffer = slice_get buffer.items 0

-- The side of this number of a kind, in its present state.
abbrev pub form_of : Kind → ℕ → Form
form_of (Writer port) side = ready (is_some port.offer)
form_of (Taker port) side = ready port.pending
form_of Sync side = Double tables.Together
form_of Lossy side = Double tables.Lossy
form_of SyncDrain side = Double tables.Together
form_of AsyncDrain side = Double tables.OneOfTwo
form_of (Store buffer) side = mouth_and_tail (not (is_full buffer)) (front_of buffer) side
form_of (Shift buffer) side = mouth_and_tail true (front_of buffer) side
form_of (Variable held) side = mouth_and_tail true held side
form_of (Quota left) side = Double (quota_table (nat_lt 0 left))
form_of (Filter rule) side = Double tables.Filter
form_of (Map rule) side = Double tables.Together
form_of (Merger branches) side = Merging branches
form_of (Replicator branches) side = Replicating branches

-- A filter's row 0, which passes items on, lets in what is accepted, and row 1, which loses them, what is not.
abbrev pub filter_lets_in : Bool → ℕ → Bool
filter_lets_in accepted row = cond (row == 0) accepted (cond (row == 1) (not accepted) true)

-- Which items a row lets in.
abbrev pub lets_in : Kind → ℕ → Value → Bool
lets_in (Filter rule) row item = filter_lets_in (accepts rule item) row
lets_in _ row item = true

-- What is given, by the item that decides, if one does.
abbrev pub given_of : Kind → Option Value → Option Value
given_of (Writer port) taken = port.offer
given_of (Taker port) taken = None
given_of SyncDrain taken = None
given_of AsyncDrain taken = None
given_of (Store buffer) taken = front_of buffer
given_of (Shift buffer) taken = front_of buffer
given_of (Variable held) taken = held
given_of (Map rule) taken = option_map (image rule) taken
given_of _ taken = taken

-- The table of a kind in its present state.
abbrev pub behaviour_of : Kind → Behaviour
behaviour_of kind = behaviour_by (kind_ends kind) (form_of kind) (lets_in kind) (given_of kind)

-- A writer with nothing offered, and a taker with no take pending or with one.
abbrev pub unoffered : WriterPort → WriterPort
unoffered port = record { kindred = port.kindred; offer = None; fitting = refl }

abbrev pub with_take : Bool → TakerPort
with_take pending = record { pending = pending }

-- A buffer whose front is given, where it has one.
abbrev pub given_away : Bool → Stored → Stored
given_away gives buffer = cond gives (without_front buffer) buffer

-- A buffer into which an item is put, where it is not full.
abbrev pub put_in : Option Value → Stored → Stored
put_in None buffer = buffer
put_in (Some item) buffer = cond (is_full buffer) buffer (with_back item buffer)

-- A shift buffer into which an item is put: where it is full it loses its front first.
abbrev pub shift_in : Option Value → Stored → Stored
shift_in None buffer = buffer
shift_in (Some item) buffer = with_back item (cond (is_full buffer) (without_front buffer) buffer)

-- What a variable holds after an item has come in.
abbrev pub replaced : Option Value → Option Value → Option Value
replaced None held = held
replaced (Some item) held = Some item

-- What flow at the first end, or at the mouth, and at the tail makes of a kind, where this item comes in at the mouth.
abbrev pub after : Bool → Bool → Option Value → Kind → Kind
after first second item (Writer port) = Writer (cond first (unoffered port) port)
after first second item (Taker port) = Taker (cond first (with_take false) port)
after first second item (Store buffer) = Store (put_in item (given_away second buffer))
after first second item (Shift buffer) = Shift (shift_in item (given_away second buffer))
after first second item (Variable held) = Variable (replaced item held)
after first second item (Quota left) = Quota (cond first (left - 1) left)
after first second item kind = kind

-- Whether end 0 flows by its row, and end 1 by the row of a tail.
abbrev pub first_flows : Kind → Chosen → Bool
first_flows kind rows = is_flow ((behaviour_of kind).mark 0 rows.first 0)

abbrev pub second_flows : Kind → Chosen → Bool
second_flows kind rows = is_flow ((behaviour_of kind).mark 1 rows.second 1)

-- What a round leaves, from a primitive that keeps something between rounds: an offer or a take whose port flows is
-- gone; the tail of a buffer or shift buffer that flows gives the front away; the item of a mouth that flows then goes
-- to the back, in a shift buffer that is still full in place of its front, and in a variable in place of what it held;
-- a quota whose ends flow has one less left. Where rows flow that could not, a buffer without items gives none away, a
-- full buffer takes none in, and a quota with none left has none left.
abbrev pub settled_kind : Kind → Chosen → Option Value → Kind
settled_kind kind rows taken = after (first_flows kind rows) (second_flows kind rows) (cond (first_flows kind rows) taken None) kind

-- A kind as a port: a writer accepts the items of its type.
abbrev pub port_state_of : Kind → PortState
port_state_of (Writer port) = record { way = Some In; accepts = λ item. is_item item port.kindred; pending = option_map Write port.offer }
port_state_of (Taker port) = record { way = Some Out; accepts = λ _. false; pending = cond port.pending (Some Take) None }
port_state_of _ = no_port_state

-- A writer with this item offered, where the item is of its type.
abbrev pub offering_if : (port : WriterPort) (item : Value) (fits : Bool) → is_item item port.kindred ≡ fits → WriterPort
offering_if port item true fits = record { kindred = port.kindred; offer = Some item; fitting = fits }
offering_if port item false fits = port

abbrev pub offering : WriterPort → Value → WriterPort
offering port item = offering_if port item (is_item item port.kindred) refl

-- A port with this offer pending.
abbrev pub placed_kind : Kind → Offer → Kind
placed_kind (Writer port) (Write item) = Writer (offering port item)
placed_kind (Taker port) Take = Taker (with_take true)
placed_kind kind offer = kind

-- A port with no offer pending.
abbrev pub withdrawn_kind : Kind → Kind
withdrawn_kind (Writer port) = Writer (unoffered port)
withdrawn_kind (Taker port) = Taker (with_take false)
withdrawn_kind kind = kind
