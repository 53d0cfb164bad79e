-- The open circuit has the shape of the circuit.
use Rattle.std.proofs.Common.{ℕ, zero, suc, ◌≡◌, ◌==◌, Bool, true, false, not, cond, Option, is_some, List, [], ◌∷◌, length, map, refl, sym, ap, ◌∙◌}
use Rattle.reo_values.specs.declared.value.Value.{Value}
use Rattle.reo_net_base.specs.declared.form.Form.{Form}
use Rattle.reo_net_base.specs.Forms.{leads_by}
use Rattle.reo_net_base.specs.Lawful.{SameShape}
use Rattle.reo_net_base.specs.Net.{behaviour_at}
use Rattle.reo_net_base.specs.Shapes.{SameShapes}
use Rattle.reo_buffers.specs.Stored.{is_full}
use Rattle.reo_kinds.specs.declared.kind.Kind.{Kind}
use Rattle.reo_kinds.specs.declared.kind.Kind.TheVariants.{Writer, Taker, Store, Shift, Variable, Map}
use Rattle.reo_kinds.specs.Kinds.{behaviour_of, mouth_and_tail, ready, front_of}
use Rattle.reo_kinds.specs.KindLaws.{same_shape}
use Rattle.reo_open.specs.Opens.{open_behaviour}
use Rattle.reo_open.specs.Opened.{opened, unit_stored, unit_held}

-- Neither a mouth nor a tail leads.
none_leads : (mouth : Bool) (first second : Form) → leads_by first ≡ false → leads_by second ≡ false → leads_by (cond mouth first second) ≡ false
none_leads true first second h k = h
none_leads false first second h k = k

keeps_none : (free : Bool) (front : Option Value) (side : ℕ) → leads_by (mouth_and_tail free front side) ≡ false
keeps_none free front side = none_leads (side == 0) (ready free) (ready (is_some front)) refl refl

kept_leads : (free : Bool) (front : Option Value) (free_now : Bool) (front_now : Option Value) (side : ℕ)
    → leads_by (mouth_and_tail free front side) ≡ leads_by (mouth_and_tail free_now front_now side)
kept_leads free front free_now front_now side = keeps_none free front side ∙ sym (keeps_none free_now front_now side)

-- What stands in place of a kind has its shape.
pub opened_shape : (kind : Kind) → SameShape (behaviour_of kind) (open_behaviour (opened kind))
opened_shape (Writer port) = record { ends = refl; sides = refl; side_of = λ _. refl; takes_in = λ _. refl; leads = λ _. refl }
opened_shape (Taker port) = record { ends = refl; sides = refl; side_of = λ _. refl; takes_in = λ _. refl; leads = λ _. refl }
opened_shape (Map rule) = record { ends = refl; sides = refl; side_of = λ _. refl; takes_in = λ _. refl; leads = λ _. refl }
opened_shape (Store buffer) = record {
  ends = refl;
  sides = refl;
  side_of = λ _. refl;
  takes_in = λ _. refl;
  leads = λ side. kept_leads (not (is_full (unit_stored buffer))) (front_of (unit_stored buffer)) (not (is_full buffer)) (front_of buffer) side;
}
opened_shape (Shift buffer) = record {
  ends = refl;
  sides = refl;
  side_of = λ _. refl;
  takes_in = λ _. refl;
  leads = λ side. kept_leads true (front_of (unit_stored buffer)) true (front_of buffer) side;
}
opened_shape (Variable held) = record {
  ends = refl;
  sides = refl;
  side_of = λ _. refl;
  takes_in = λ _. refl;
  leads = λ side. kept_leads true (unit_held held) true held side;
}
opened_shape kind = same_shape (behaviour_of kind)

opened_count : (kinds : List Kind) → length (map open_behaviour (map opened kinds)) ≡ length (map behaviour_of kinds)
opened_count [] = refl
opened_count (k ∷ ks) = ap suc (opened_count ks)

opened_same : (kinds : List Kind) (i : ℕ) → SameShape (behaviour_at (map behaviour_of kinds) i) (behaviour_at (map open_behaviour (map opened kinds)) i)
opened_same [] i = same_shape (behaviour_at [] i)
opened_same (k ∷ ks) zero = opened_shape k
opened_same (k ∷ ks) (suc i) = opened_same ks i

-- Each primitive of the open circuit has the shape of its kind.
pub opened_shapes : (kinds : List Kind) → SameShapes (map behaviour_of kinds) (map open_behaviour (map opened kinds))
opened_shapes kinds = record { count = opened_count kinds; same = λ i lt. opened_same kinds i }
