-- Each kind keeps the laws of a primitive.
use Rattle.reo_net_base.specs.declared.form.Form.{Form}
use Rattle.std.proofs.Common.{is_some, ◌==◌, ℕ, zero, suc, ◌≡◌, ◌≢◌, true, false, Bool, cond, not, nat_lt, ◌<◌, Option, None, refl, sym, ap, ◌∙◌, arith}
use Rattle.reo_values.specs.declared.value.Value.{Value}
use Rattle.reo_net_base.specs.declared.mark.Mark.{Mark}
use Rattle.reo_net_base.specs.declared.mark.Mark.TheVariants.{F, G, R, J}
use Rattle.reo_net_base.specs.declared.colouring.Chosen.{Chosen}
use Rattle.reo_net_base.specs.Marks.{is_flow}
use Rattle.reo_net_base.specs.Behaviour.{Behaviour}
use Rattle.reo_net_base.specs.Lawful.{IsLawful, SameShape, TreatsAlike, IsQuiet}
use Rattle.reo_buffers.specs.Stored.{is_full}
use Rattle.reo_kinds.specs.declared.kind.Kind.{Kind}
use Rattle.reo_kinds.specs.declared.kind.Kind.TheVariants.{Writer, Taker, Sync, Lossy, SyncDrain, AsyncDrain, Store, Shift, Variable, Quota, Filter, Map, Merger, Replicator}
use Rattle.reo_net_base.specs.declared.table.Table.TheVariants as tables
use Rattle.reo_net_base.specs.Tables.{rows_of}
use Rattle.reo_kinds.specs.TableTests.{is_table}
use Rattle.reo_kinds.specs.ItemLaws.{Passes, out_lawful, in_lawful, drain_lawful, channel_lawful, kept_lawful, merger_lawful, replicator_lawful}
use Rattle.reo_kinds.specs.declared.ends.EndLayout.{EndLayout}
use Rattle.reo_kinds.specs.declared.ends.EndLayout.TheVariants as ends
use Rattle.reo_net_base.specs.Forms.{leads_by}
use Rattle.reo_kinds.specs.Forms.{end_count, side_count, side_in, takes_at}
use Rattle.reo_kinds.specs.Kinds.{behaviour_of, settled_kind, mouth_and_tail, put_in, shift_in, given_away, replaced, ready, kind_ends, form_of, after, first_flows, second_flows, quota_table, front_of, lets_in, given_of}

sync_passes : Passes (rows_of tables.Together)
sync_passes zero flows = refl
sync_passes (suc zero) flows = absurd cc
sync_passes (suc (suc zero)) flows = absurd cc
sync_passes (suc (suc (suc row))) flows = absurd cc

lossy_passes : Passes (rows_of tables.Lossy)
lossy_passes zero flows = refl
lossy_passes (suc zero) flows = absurd cc
lossy_passes (suc (suc zero)) flows = absurd cc
lossy_passes (suc (suc (suc row))) flows = absurd cc

filter_passes : Passes (rows_of tables.Filter)
filter_passes zero flows = refl
filter_passes (suc zero) flows = absurd cc
filter_passes (suc (suc zero)) flows = absurd cc
filter_passes (suc (suc (suc zero))) flows = absurd cc
filter_passes (suc (suc (suc (suc row)))) flows = absurd cc

pub quota_passes : (some_left : Bool) → Passes (rows_of (quota_table some_left))
quota_passes true row flows = sync_passes row flows
quota_passes false zero flows = absurd cc
quota_passes false (suc row) flows = absurd cc

pub quota_is : (some_left : Bool) → is_table 2 (rows_of (quota_table some_left)) ≡ true
quota_is true = refl
quota_is false = refl

pub kind_lawful : (kind : Kind) → IsLawful (behaviour_of kind)
kind_lawful (Writer port) = out_lawful port.offer
kind_lawful (Taker port) = in_lawful port.pending
kind_lawful Sync = channel_lawful tables.Together refl sync_passes _ _ refl (λ item. refl)
kind_lawful Lossy = channel_lawful tables.Lossy refl lossy_passes _ _ refl (λ item. refl)
kind_lawful SyncDrain = drain_lawful tables.Together refl
kind_lawful AsyncDrain = drain_lawful tables.OneOfTwo refl
kind_lawful (Store buffer) = kept_lawful (not (is_full buffer)) (front_of buffer)
kind_lawful (Shift buffer) = kept_lawful true (front_of buffer)
kind_lawful (Variable held) = kept_lawful true held
kind_lawful (Quota left) = channel_lawful (quota_table (nat_lt 0 left)) (quota_is (nat_lt 0 left)) (quota_passes (nat_lt 0 left)) _ _ refl (λ item. refl)
kind_lawful (Filter rule) = channel_lawful tables.Filter refl filter_passes (lets_in (Filter rule)) _ refl (λ item. refl)
kind_lawful (Map rule) = channel_lawful tables.Together refl sync_passes _ (given_of (Map rule)) refl (λ item. refl)
kind_lawful (Merger branches) = merger_lawful branches
kind_lawful (Replicator branches) = replicator_lawful branches

pub same_shape : (b : Behaviour) → SameShape b b
same_shape b = record { ends = refl; sides = refl; side_of = λ _. refl; takes_in = λ _. refl; leads = λ _. refl }

-- The ends lie as before.
ends_stay : (first second : Bool) (item : Option Value) (kind : Kind) → kind_ends (after first second item kind) ≡ kind_ends kind
ends_stay first second item (Writer port) = refl
ends_stay first second item _ = refl

-- Neither a mouth nor a tail leads.
none_leads : (mouth : Bool) (first second : Form) → leads_by first ≡ false → leads_by second ≡ false → leads_by (cond mouth first second) ≡ false
none_leads true first second h k = h
none_leads false first second h k = k

keeps_none : (free : Bool) (front : Option Value) (side : ℕ) → leads_by (mouth_and_tail free front side) ≡ false
keeps_none free front side = none_leads (side == 0) (ready free) (ready (is_some front)) refl refl

kept_leads : (free : Bool) (front : Option Value) (free_now : Bool) (front_now : Option Value) (side : ℕ)
    → leads_by (mouth_and_tail free front side) ≡ leads_by (mouth_and_tail free_now front_now side)
kept_leads free front free_now front_now side = keeps_none free front side ∙ sym (keeps_none free_now front_now side)

leads_stay : (first second : Bool) (item : Option Value) (kind : Kind) (side : ℕ) → leads_by (form_of (after first second item kind) side) ≡ leads_by (form_of kind side)
leads_stay first second item (Store buffer) side =
    kept_leads (not (is_full (put_in item (given_away second buffer)))) (front_of (put_in item (given_away second buffer))) (not (is_full buffer)) (front_of buffer) side
leads_stay first second item (Shift buffer) side = kept_leads true (front_of (shift_in item (given_away second buffer))) true (front_of buffer) side
leads_stay first second item (Variable held) side = kept_leads true (replaced item held) true held side
leads_stay first second item _ side = refl

after_shape : (first second : Bool) (item : Option Value) (kind : Kind) → SameShape (behaviour_of kind) (behaviour_of (after first second item kind))
after_shape first second item kind = let same = ends_stay first second item kind in record {
  ends = ap end_count same;
  sides = ap side_count same;
  side_of = λ end. ap (λ e. side_in e end) same;
  takes_in = λ end. ap (λ e. takes_at e end) same;
  leads = leads_stay first second item kind;
}

-- A round leaves the shape.
pub kind_shape : (kind : Kind) (rows : Chosen) (taken : Option Value) → SameShape (behaviour_of kind) (behaviour_of (settled_kind kind rows taken))
kind_shape kind rows taken = after_shape (first_flows kind rows) (second_flows kind rows) (cond (first_flows kind rows) taken None) kind

pub same_treatment : (b : Behaviour) → TreatsAlike b b
same_treatment b = record { passes = λ side row end item. refl; from = λ side row end. refl; given = λ side row end from taken is. refl }

after_alike : (first second : Bool) (item : Option Value) (kind : Kind) → TreatsAlike (behaviour_of kind) (behaviour_of (after first second item kind))
after_alike first second item (Writer port) = record { passes = λ side row end it. refl; from = λ side row end. refl; given = λ side row end from taken is. absurd cc }
after_alike first second item (Taker port) = record { passes = λ side row end it. refl; from = λ side row end. refl; given = λ side row end from taken is. absurd cc }
after_alike first second item (Store buffer) = record { passes = λ side row end it. refl; from = λ side row end. refl; given = λ side row end from taken is. absurd cc }
after_alike first second item (Shift buffer) = record { passes = λ side row end it. refl; from = λ side row end. refl; given = λ side row end from taken is. absurd cc }
after_alike first second item (Variable held) = record { passes = λ side row end it. refl; from = λ side row end. refl; given = λ side row end from taken is. absurd cc }
after_alike first second item (Quota left) = record { passes = λ side row end it. refl; from = λ side row end. refl; given = λ side row end from taken is. refl }
after_alike first second item _ = same_treatment _

-- What is done with items hangs on no state.
pub kind_alike : (kind : Kind) (rows : Chosen) (taken : Option Value) → TreatsAlike (behaviour_of kind) (behaviour_of (settled_kind kind rows taken))
kind_alike kind rows taken = after_alike (first_flows kind rows) (second_flows kind rows) (cond (first_flows kind rows) taken None) kind

no_flow : (mark : Mark) → mark ≢ F → is_flow mark ≡ false
no_flow F rests = absurd (rests refl)
no_flow G rests = refl
no_flow R rests = refl
no_flow J rests = refl

-- Where nothing flows and nothing comes in, all stays.
after_nothing : (second : Bool) (kind : Kind) → (kind_ends kind ≡ ends.MouthTail → second ≡ false) → after false second None kind ≡ kind
after_nothing second (Store buffer) rests = rw (rests refl) refl
after_nothing second (Shift buffer) rests = rw (rests refl) refl
after_nothing second _ rests = refl

-- The first end, at side 0, and the tail.
first_end : (e : EndLayout) → (0 < end_count e) × (side_in e 0 ≡ 0)
first_end ends.Out = (omega arith, refl)
first_end ends.In = (omega arith, refl)
first_end ends.InOut = (omega arith, refl)
first_end ends.InIn = (omega arith, refl)
first_end ends.MouthTail = (omega arith, refl)
first_end (ends.Inputs branches) = (omega arith, refl)
first_end (ends.Outputs branches) = (omega arith, refl)

tail_end : (e : EndLayout) → e ≡ ends.MouthTail → (1 < end_count e) × (side_in e 1 ≡ 1)
tail_end e is = rw (is) (omega arith, refl)

-- Rows without flow leave the state.
pub kind_quiet : (kind : Kind) (rows : Chosen) → IsQuiet (behaviour_of kind) rows → settled_kind kind rows None ≡ kind
kind_quiet kind rows quiet =
    let first : first_flows kind rows ≡ false = no_flow _ (quiet.first 0 (first_end (kind_ends kind))) in
    rw (first) (after_nothing (second_flows kind rows) kind (λ is. no_flow _ (quiet.second 1 (tail_end (kind_ends kind) is))))
