-- What kinds tell is so.
use Rattle.std.proofs.Common.{ℕ, ◌≡◌, ◌+◌, ◌==◌, ◌<◌, ◌↔◌, Bool, true, false, cond, not, Option, Some, None, is_some, refl, ap, subst, arith}
use Rattle.reo_values.specs.declared.value.Value.{Value}
use Rattle.reo_values.specs.declared.kindred.Kindred.{Kindred}
use Rattle.reo_values.specs.Kind.{is_item}
use Rattle.reo_net_base.specs.declared.colouring.Chosen.{Chosen}
use Rattle.reo_net_base.specs.declared.port.Offer.{Offer}
use Rattle.reo_net_base.specs.declared.port.Offer.TheVariants.{Write, Take}
use Rattle.reo_net_base.specs.declared.form.Form.{Form}
use Rattle.reo_net_base.specs.declared.form.Form.TheVariants.{Single}
use Rattle.reo_net_base.specs.declared.table.Table.{Table}
use Rattle.reo_net_base.specs.Behaviour.{Behaviour, IsEndOf}
use Rattle.reo_net_base.specs.Forms.{HasForm, IsPlaceOf, rows_by, mark_by, class_by}
use Rattle.reo_net_base.specs.SameTables.{SameTable}
use Rattle.reo_net_base.specs.Lasting.{KeepsTables, LetsAllIn, GivesWhatItTakes, GivesFront, GivesOrigin}
use Rattle.reo_kinds.specs.declared.ends.EndLayout.{EndLayout}
use Rattle.reo_kinds.specs.declared.ends.EndLayout.TheVariants.{MouthTail}
use Rattle.reo_kinds.specs.declared.kind.WriterPort.{WriterPort}
use Rattle.reo_kinds.specs.declared.kind.Kind.{Kind}
use Rattle.reo_kinds.specs.declared.kind.Kind.TheVariants.{Writer, Taker, Sync, Lossy, SyncDrain, AsyncDrain, Store, Shift, Variable, Quota, Filter, Map, Merger, Replicator}
use Rattle.reo_kinds.specs.Forms.{behaviour_by}
use Rattle.reo_kinds.specs.Items.{offer_fits}
use Rattle.reo_buffers.specs.Stored.{is_full}
use Rattle.reo_kinds.specs.Kinds.{front_of, behaviour_of, form_of, ready_table, after, unoffered, settled_kind, offering_if, placed_kind, withdrawn_kind, first_flows, second_flows}
use Rattle.reo_kinds.specs.Telling.{told_form, front_item, lasting_of}

-- The forms of the sides.
in_form : (kind : Kind) (side : ℕ) → ((end : ℕ) → IsEndOf (behaviour_of kind) side end ↔ IsPlaceOf (form_of kind side) side end) → HasForm (form_of kind side) (behaviour_of kind) side
in_form kind side ends = record { ends = ends; rows = refl; mark = λ row end row_in is. refl; class = λ row turn row_in. refl }

one_place : (side end : ℕ) → side < 1 → ((end < 1) × (0 ≡ side)) ↔ (end ≡ side)
one_place side end lt = (λ is. omega (arith, lt, is), λ is. (omega (arith, lt, is), omega (arith, lt)))

many_places : (n side end : ℕ) → side < 1 → ((end < n) × (0 ≡ side)) ↔ (end < n)
many_places n side end lt = (λ is. is.0, λ is. (is, omega (arith, lt)))

-- A mouth or a tail has one end, of the number of its side.
kept_place : (mouth : Bool) (t s : Table) (side end : ℕ) → side < 2 → ((end < 2) × (end ≡ side)) ↔ IsPlaceOf (cond mouth (Single t) (Single s)) side end
kept_place true t s side end lt = (λ is. is.1, λ is. (omega (arith, lt, is), is))
kept_place false t s side end lt = (λ is. is.1, λ is. (omega (arith, lt, is), is))

has_form : (kind : Kind) (side : ℕ) → side < (behaviour_of kind).sides → HasForm (form_of kind side) (behaviour_of kind) side
has_form (Writer port) side lt = in_form (Writer port) side (λ end. one_place side end lt)
has_form (Taker port) side lt = in_form (Taker port) side (λ end. one_place side end lt)
has_form (Store buffer) side lt = in_form (Store buffer) side (λ end. kept_place (side == 0) (ready_table (not (is_full buffer))) (ready_table (is_some (front_of buffer))) side end lt)
has_form (Shift buffer) side lt = in_form (Shift buffer) side (λ end. kept_place (side == 0) (ready_table true) (ready_table (is_some (front_of buffer))) side end lt)
has_form (Variable held) side lt = in_form (Variable held) side (λ end. kept_place (side == 0) (ready_table true) (ready_table (is_some held)) side end lt)
has_form (Merger branches) side lt = in_form (Merger branches) side (λ end. many_places (branches.count + 1) side end lt)
has_form (Replicator branches) side lt = in_form (Replicator branches) side (λ end. many_places (branches.count + 1) side end lt)
has_form Sync side lt = in_form Sync side (λ end. many_places 2 side end lt)
has_form Lossy side lt = in_form Lossy side (λ end. many_places 2 side end lt)
has_form SyncDrain side lt = in_form SyncDrain side (λ end. many_places 2 side end lt)
has_form AsyncDrain side lt = in_form AsyncDrain side (λ end. many_places 2 side end lt)
has_form (Quota left) side lt = in_form (Quota left) side (λ end. many_places 2 side end lt)
has_form (Filter rule) side lt = in_form (Filter rule) side (λ end. many_places 2 side end lt)
has_form (Map rule) side lt = in_form (Map rule) side (λ end. many_places 2 side end lt)

same_some : (a b : Form) → Some a ≡ Some b → a ≡ b
same_some a b is = cc

pub kind_form : (kind : Kind) (side : ℕ) (of : Form) → side < (behaviour_of kind).sides → told_form kind side ≡ Some of → HasForm of (behaviour_of kind) side
kind_form kind side of lt is = subst (λ (f : Form). HasForm f (behaviour_of kind) side) (same_some (form_of kind side) of is) (has_form kind side lt)

-- Items.
pub kind_lets_in : (kind : Kind) → LetsAllIn (lasting_of kind) (behaviour_of kind)
kind_lets_in (Filter rule) side row end item lt row_in is takes open_is = cc
kind_lets_in _ side row end item lt row_in is takes open_is = refl

pub kind_carries : (kind : Kind) → GivesWhatItTakes (lasting_of kind) (behaviour_of kind)
kind_carries (Writer port) side row end from item carries gives is = cc
kind_carries (Taker port) side row end from item carries gives is = cc
kind_carries SyncDrain side row end from item carries gives is = cc
kind_carries AsyncDrain side row end from item carries gives is = cc
kind_carries (Store buffer) side row end from item carries gives is = cc
kind_carries (Shift buffer) side row end from item carries gives is = cc
kind_carries (Variable held) side row end from item carries gives is = cc
kind_carries (Map rule) side row end from item carries gives is = cc
kind_carries _ side row end from item carries gives is = refl

pub kind_front : (kind : Kind) → GivesFront (front_item kind) (behaviour_of kind)
kind_front (Writer port) side row end item taken is gives alone = is
kind_front (Store buffer) side row end item taken is gives alone = is
kind_front (Shift buffer) side row end item taken is gives alone = is
kind_front (Variable held) side row end item taken is gives alone = is
kind_front _ side row end item taken is gives alone = cc

fitting_item : (offer : Option Value) (kindred origin : Kindred) (item : Value) → offer_fits offer kindred ≡ true → Some kindred ≡ Some origin → offer ≡ Some item → is_item item origin ≡ true
fitting_item None kindred origin item fits same is = cc
fitting_item (Some other) kindred origin item fits same is = let same_kindred : kindred ≡ origin = cc in let same_item : other ≡ item = cc in rw (← same_kindred, ← same_item) fits

pub kind_origin : (kind : Kind) → GivesOrigin (lasting_of kind) (behaviour_of kind)
kind_origin (Writer port) side row end item origin same gives alone is = fitting_item port.offer port.kindred origin item port.fitting same is
kind_origin _ side row end item origin same gives alone is = cc

-- What lasts.
pub kind_keeps_nothing : (kind : Kind) (rows : Chosen) (taken : Option Value) → (lasting_of kind).keeps ≡ false → settled_kind kind rows taken ≡ kind
kind_keeps_nothing (Writer port) rows taken keeps = cc
kind_keeps_nothing (Taker port) rows taken keeps = cc
kind_keeps_nothing (Store buffer) rows taken keeps = cc
kind_keeps_nothing (Shift buffer) rows taken keeps = cc
kind_keeps_nothing (Variable held) rows taken keeps = cc
kind_keeps_nothing (Quota left) rows taken keeps = cc
kind_keeps_nothing _ rows taken keeps = refl

-- A writer's type stays.
writer_lasts : (first : Bool) (port : WriterPort) → lasting_of (Writer (cond first (unoffered port) port)) ≡ lasting_of (Writer port)
writer_lasts true port = refl
writer_lasts false port = refl

after_lasts : (first second : Bool) (item : Option Value) (kind : Kind) → lasting_of (after first second item kind) ≡ lasting_of kind
after_lasts first second item (Writer port) = writer_lasts first port
after_lasts first second item _ = refl

pub kind_lasting : (kind : Kind) (rows : Chosen) (taken : Option Value) → lasting_of (settled_kind kind rows taken) ≡ lasting_of kind
kind_lasting kind rows taken = after_lasts (first_flows kind rows) (second_flows kind rows) (cond (first_flows kind rows) taken None) kind

module _ (side turn : ℕ) where
  pub one_table : (b : Behaviour) → SameTable turn turn b b side
  one_table b = record { rows = refl; mark = λ row end row_in is. refl; class = λ row row_in. refl }

  -- Sides of one form.
  form_table : (e : EndLayout) (f g : ℕ → Form) (lets_in lets_in_now : ℕ → Value → Bool) (given given_now : Option Value → Option Value) → g side ≡ f side
      → SameTable turn turn (behaviour_by e f lets_in given) (behaviour_by e g lets_in_now given_now) side
  form_table e f g lets_in lets_in_now given given_now same = record {
    rows = ap rows_by same;
    mark = λ row end row_in is. ap (λ (x : Form). mark_by x row end) same;
    class = λ row row_in. ap (λ (x : Form). class_by x row turn) same;
  }

-- A mouth that can always flow stays so.
mouth_stays : (mouth : Bool) (a b c : Form) → not mouth ≡ false → cond mouth a b ≡ cond mouth a c
mouth_stays true a b c is = refl
mouth_stays false a b c is = cc

after_tables : (first second : Bool) (item : Option Value) (kind : Kind) → KeepsTables (lasting_of kind) (behaviour_of kind) (behaviour_of (after first second item kind))
after_tables first second item (Writer port) side turn lt stays = cc
after_tables first second item (Taker port) side turn lt stays = cc
after_tables first second item (Store buffer) side turn lt stays = cc
after_tables first second item (Quota left) side turn lt stays = cc
after_tables first second item (Shift buffer) side turn lt stays =
    form_table side turn MouthTail (form_of (Shift buffer)) (form_of (after first second item (Shift buffer))) _ _ _ _ (mouth_stays (side == 0) _ _ _ stays)
after_tables first second item (Variable held) side turn lt stays =
    form_table side turn MouthTail (form_of (Variable held)) (form_of (after first second item (Variable held))) _ _ _ _ (mouth_stays (side == 0) _ _ _ stays)
after_tables first second item _ side turn lt stays = one_table side turn _

pub kind_tables : (kind : Kind) (rows : Chosen) (taken : Option Value) → KeepsTables (lasting_of kind) (behaviour_of kind) (behaviour_of (settled_kind kind rows taken))
kind_tables kind rows taken = after_tables (first_flows kind rows) (second_flows kind rows) (cond (first_flows kind rows) taken None) kind

offered_lasts : (port : WriterPort) (item : Value) (fits : Bool) (is : is_item item port.kindred ≡ fits) → lasting_of (Writer (offering_if port item fits is)) ≡ lasting_of (Writer port)
offered_lasts port item true is = refl
offered_lasts port item false is = refl

pub placed_kind_lasting : (kind : Kind) (offer : Offer) → lasting_of (placed_kind kind offer) ≡ lasting_of kind
placed_kind_lasting (Writer port) (Write item) = offered_lasts port item _ refl
placed_kind_lasting (Writer port) Take = refl
placed_kind_lasting (Taker port) (Write item) = refl
placed_kind_lasting (Taker port) Take = refl
placed_kind_lasting _ offer = refl

pub placed_kind_tables : (kind : Kind) (offer : Offer) → KeepsTables (lasting_of kind) (behaviour_of kind) (behaviour_of (placed_kind kind offer))
placed_kind_tables (Writer port) offer side turn lt stays = cc
placed_kind_tables (Taker port) offer side turn lt stays = cc
placed_kind_tables _ offer side turn lt stays = one_table side turn _

pub withdrawn_kind_lasting : (kind : Kind) → lasting_of (withdrawn_kind kind) ≡ lasting_of kind
withdrawn_kind_lasting (Writer port) = refl
withdrawn_kind_lasting (Taker port) = refl
withdrawn_kind_lasting _ = refl

pub withdrawn_kind_tables : (kind : Kind) → KeepsTables (lasting_of kind) (behaviour_of kind) (behaviour_of (withdrawn_kind kind))
withdrawn_kind_tables (Writer port) side turn lt stays = cc
withdrawn_kind_tables (Taker port) side turn lt stays = cc
withdrawn_kind_tables _ side turn lt stays = one_table side turn _
