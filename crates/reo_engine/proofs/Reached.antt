-- Primitives at joints with items.
use Rattle.std.proofs.Common.{◌≡◌, ◌∙◌, ◌↔◌, inl, inr, ℕ, ◌+◌, ◌<◌, Bool, true, false, IsTrue, List, length, get_or, set, replicate, ap, sym, refl, arith}
use Rattle.std.proofs.lemmas.Bool.{cases_eq}
use Rattle.std.specs.Prelude.{Option, Some, None, is_some}
use Rattle.std.proofs.lemmas.List.{get_or-replicate, length-set}
use Rattle.reo_values.specs.declared.value.Value.{Value}
use Rattle.reo_net_base.specs.declared.mark.Mark.TheVariants.{F}
use Rattle.reo_net_base.specs.declared.joint.End.{End}
use Rattle.reo_net_base.specs.declared.joint.Joint.{Joint}
use Rattle.reo_net_base.specs.Colouring.{IsColouring, ItemFits}
use Rattle.reo_net_base.specs.Net.{Net, end_of, mark_at}
use Rattle.reo_net_base.specs.Wired.{IsWired}
use Rattle.reo_net_base.proofs.Marks.{giver_flows}
use Rattle.reo_net_laws.proofs.Joined.{joint_of}
use Rattle.reo_flows.specs.stepping.Changes.{AreThoseThatFlowed, HasFlow, is_changed}
use Rattle.reo_flows.proofs.stepping.FlowLemmas.{no_joint, IsBeside, set_both, with_item}

-- One of the first so many joints has an item, and an end at a primitive.
pub record IsReached (joints : List Joint) (items : List (Option Value)) (count i : ℕ) : Type 0 where
  pub joint : ℕ
  pub before : joint < count
  pub has_item : is_some (get_or items joint None) ≡ true
  pub beside : IsBeside (get_or joints joint no_joint) i

-- Before the first joint none is reached.
pub none_reached : (joints : List Joint) (items : List (Option Value)) (marks : List Bool) (count i : ℕ) → marks ≡ replicate count false → i < count
    → IsTrue (is_changed marks i) ↔ IsReached joints items 0 i
none_reached joints items marks count i clear lt =
    let not : is_changed marks i ≡ false = ap (λ ms. get_or ms i false) clear ∙ get_or-replicate count i false false lt in
    (λ mark. absurd cc, λ reached. absurd (let before = reached.before in omega arith))

-- A joint with no item reaches none.
pub reached_still : (joints : List Joint) (items : List (Option Value)) (n i : ℕ) (old now : List Bool) → is_some (get_or items n None) ≡ false → now ≡ old
    → IsTrue (is_changed old i) ↔ IsReached joints items n i → IsTrue (is_changed now i) ↔ IsReached joints items (n + 1) i
reached_still joints items n i old now none is before =
    let same : is_changed now i ≡ is_changed old i = ap (λ ms. is_changed ms i) is in (
      λ mark.
          let found = before.0 (sym same ∙ mark) in
          let below = found.before in
          record { joint = found.joint; before = omega arith; has_item = found.has_item; beside = found.beside },
      λ reached. elim (cases_eq reached.joint n) [
        | inl e ↦ let some = rw e at reached.has_item in absurd cc
        | inr ne ↦
            let below = reached.before in
            same ∙ before.1 record { joint = reached.joint; before = omega arith; has_item = reached.has_item; beside = reached.beside }
      ],
    )

-- Marks that are set leave their count.
pub set_count : (j : Joint) (old made now : List Bool) (count : ℕ) → now ≡ made → made ≡ set (set old j.giver.primitive true) j.taker.primitive true → length old ≡ count → length now ≡ count
set_count j old made now count same is old_count =
    ap length (same ∙ is) ∙ length-set (set old j.giver.primitive true) j.taker.primitive true ∙ length-set old j.giver.primitive true ∙ old_count

-- A joint with an item reaches the primitives of its ends.
pub reached_more : (joints : List Joint) (items : List (Option Value)) (n i : ℕ) (j : Joint) (old made now : List Bool) → is_some (get_or items n None) ≡ true
    → get_or joints n no_joint ≡ j → now ≡ made → made ≡ set (set old j.giver.primitive true) j.taker.primitive true → i < length old
    → IsTrue (is_changed old i) ↔ IsReached joints items n i → IsTrue (is_changed now i) ↔ IsReached joints items (n + 1) i
reached_more joints items n i j old made now some here same is lt before =
    let both = rw (← is, ← same) at (set_both old j i lt) in (
      λ mark. elim (both.0 mark) [
        | inl beside ↦ record { joint = n; before = omega arith; has_item = some; beside = rw here beside }
        | inr was ↦
            let found = before.0 was in
            let below = found.before in
            record { joint = found.joint; before = omega arith; has_item = found.has_item; beside = found.beside }
      ],
      λ reached. elim (cases_eq reached.joint n) [
        | inl e ↦ both.1 (inl (rw (e, here) at reached.beside))
        | inr ne ↦
            let below = reached.before in
            both.1 (inr (before.1 record { joint = reached.joint; before = omega arith; has_item = reached.has_item; beside = reached.beside }))
      ],
    )

flows_item : (net : Net) (rows : List ℕ) (items : List (Option Value)) (j : Joint) (item : Option Value) → ItemFits net rows items j item → mark_at net rows j.giver ≡ F → is_some item ≡ true
flows_item net rows items j None fits flows = absurd (fits flows)
flows_item net rows items j (Some item) fits flows = refl

module _ (net : Net) (rows : List ℕ) (items : List (Option Value)) (wired : IsWired net) (is : IsColouring net rows items) where
  reached_flows : (i : ℕ) → IsReached net.joints items (length net.joints) i → HasFlow net rows i
  reached_flows i reached =
      let j : Joint = get_or net.joints reached.joint no_joint in
      let flows = with_item net rows items wired is reached.joint reached.before reached.has_item in
      elim reached.beside [
        | inl e ↦ record {
          end = j.giver.end;
          is_end = rw e at (wired.givers reached.joint no_joint reached.before).1;
          flows = ap (λ p. mark_at net rows (end_of p j.giver.end)) (sym e) ∙ flows.0;
        }
        | inr e ↦ record {
          end = j.taker.end;
          is_end = rw e at (wired.takers reached.joint no_joint reached.before).1;
          flows = ap (λ p. mark_at net rows (end_of p j.taker.end)) (sym e) ∙ flows.1;
        }
      ]

  flows_reached : (i : ℕ) → i < length net.primitives → HasFlow net rows i → IsReached net.joints items (length net.joints) i
  flows_reached i i_in flow =
      let at = joint_of net wired (end_of i flow.end) (i_in, flow.is_end) in
      let k : ℕ = at.0 in
      let j : Joint = get_or net.joints k no_joint in
      let fits = is.items_fit k no_joint at.1 in
      let matched = is.rows_fit.matched k no_joint at.1 in
      elim (at.2 no_joint) [
        | inl e ↦ record {
          joint = k;
          before = at.1;
          has_item = flows_item net rows items j (get_or items k None) fits (ap (mark_at net rows) e ∙ flow.flows);
          beside = inl (ap (λ (end : End). end.primitive) e);
        }
        | inr e ↦ record {
          joint = k;
          before = at.1;
          has_item = flows_item net rows items j (get_or items k None) fits
              (giver_flows (mark_at net rows j.giver) (mark_at net rows j.taker) matched (ap (mark_at net rows) e ∙ flow.flows));
          beside = inr (ap (λ (end : End). end.primitive) e);
        }
      ]

  -- Marks of those that are reached are marks of those that flow.
  pub those_that_flowed : (marks : List Bool) → length marks ≡ length net.primitives
      → ((i : ℕ) → i < length net.primitives → IsTrue (is_changed marks i) ↔ IsReached net.joints items (length net.joints) i) → AreThoseThatFlowed net rows marks
  those_that_flowed marks one_each each = record {
    one_each = one_each;
    each = λ i lt. (λ mark. reached_flows i ((each i lt).0 mark), λ flow. (each i lt).1 (flows_reached i lt flow));
  }
