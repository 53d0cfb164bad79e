-- Primitives at the joints that flow.
use Rattle.std.proofs.Common.{◌≡◌, ◌∙◌, ◌↔◌, inl, inr, ℕ, ◌+◌, ◌<◌, Bool, true, false, IsTrue, List, length, get_or, set, ap, sym, subst, arith}
use Rattle.std.proofs.lemmas.Bool.{cases_eq}
use Rattle.std.proofs.lemmas.List.{get_or_default}
use Rattle.reo_net_base.specs.declared.mark.Mark.TheVariants.{F}
use Rattle.reo_net_base.specs.declared.joint.End.{End}
use Rattle.reo_net_base.specs.declared.joint.Joint.{Joint}
use Rattle.reo_net_base.specs.Colouring.{RowsFit}
use Rattle.reo_net_base.specs.Net.{Net, end_of, mark_at}
use Rattle.reo_net_base.specs.Wired.{IsWired}
use Rattle.reo_net_base.proofs.Marks.{giver_flows}
use Rattle.reo_net_laws.proofs.Joined.{joint_of}
use Rattle.reo_flows.specs.stepping.Changes.{AreThoseThatFlowed, HasFlow, is_changed}
use Rattle.reo_flows.specs.stepping.Flowing.{AreFlowing}
use Rattle.reo_flows.proofs.stepping.FlowLemmas.{no_joint, IsBeside, set_both, taker_flows}

-- One of the first so many of these joints has an end at a primitive.
pub record IsBesideOne (joints : List Joint) (flowing : List ℕ) (count i : ℕ) : Type 0 where
  pub place : ℕ
  pub before : place < count
  pub beside : IsBeside (get_or joints (get_or flowing place 0) no_joint) i

-- Before the first of them none is marked.
pub none_beside : (joints : List Joint) (flowing : List ℕ) (marks : List Bool) (i : ℕ) → is_changed marks i ≡ false → IsTrue (is_changed marks i) ↔ IsBesideOne joints flowing 0 i
none_beside joints flowing marks i not = (λ mark. absurd cc, λ beside. absurd (let before = beside.before in omega arith))

-- One joint more marks those at its ends.
pub beside_more : (joints : List Joint) (flowing : List ℕ) (n i : ℕ) (j : Joint) (old now : List Bool) → get_or joints (get_or flowing n 0) no_joint ≡ j
    → now ≡ set (set old j.giver.primitive true) j.taker.primitive true → i < length old
    → IsTrue (is_changed old i) ↔ IsBesideOne joints flowing n i → IsTrue (is_changed now i) ↔ IsBesideOne joints flowing (n + 1) i
beside_more joints flowing n i j old now here is lt before =
    let both = rw (← is) at (set_both old j i lt) in (
      λ mark. elim (both.0 mark) [
        | inl beside ↦ record { place = n; before = omega arith; beside = rw here beside }
        | inr was ↦
            let found = before.0 was in
            let below = found.before in
            record { place = found.place; before = omega arith; beside = found.beside }
      ],
      λ found. elim (cases_eq found.place n) [
        | inl e ↦ both.1 (inl (rw (e, here) at found.beside))
        | inr ne ↦
            let below = found.before in
            both.1 (inr (before.1 record { place = found.place; before = omega arith; beside = found.beside }))
      ],
    )

module _ (net : Net) (rows : List ℕ) (wired : IsWired net) (fit : RowsFit net rows) (flowing : List ℕ) (are : AreFlowing net rows flowing) where
  -- Some end of a primitive at a joint that flows flows.
  pub beside_flows : (i : ℕ) → IsBesideOne net.joints flowing (length flowing) i → HasFlow net rows i
  beside_flows i found =
      let k : ℕ = get_or flowing found.place 0 in
      let j : Joint = get_or net.joints k no_joint in
      let k_in : k < length net.joints = are.in_range found.place found.before in
      let giver : mark_at net rows j.giver ≡ F = are.flow found.place found.before no_joint in
      let taker : mark_at net rows j.taker ≡ F = taker_flows (mark_at net rows j.giver) (mark_at net rows j.taker) (fit.matched k no_joint k_in) giver in
      elim found.beside [
        | inl e ↦ record {
          end = j.giver.end;
          is_end = rw e at (wired.givers k no_joint k_in).1;
          flows = ap (λ p. mark_at net rows (end_of p j.giver.end)) (sym e) ∙ giver;
        }
        | inr e ↦ record {
          end = j.taker.end;
          is_end = rw e at (wired.takers k no_joint k_in).1;
          flows = ap (λ p. mark_at net rows (end_of p j.taker.end)) (sym e) ∙ taker;
        }
      ]

  -- A primitive of which some end flows is at a joint that flows.
  pub flows_beside : (i : ℕ) → i < length net.primitives → HasFlow net rows i → IsBesideOne net.joints flowing (length flowing) i
  flows_beside i i_in flow =
      let at = joint_of net wired (end_of i flow.end) (i_in, flow.is_end) in
      let k : ℕ = at.0 in
      let j : Joint = get_or net.joints k no_joint in
      let by : mark_at net rows j.giver ≡ F → IsBeside j i → IsBesideOne net.joints flowing (length flowing) i =
      λ giver beside.
      let found = are.each k at.1 (λ d. ap (λ (x : Joint). mark_at net rows x.giver) (get_or_default net.joints k d no_joint at.1) ∙ giver) in
      record { place = found.0; before = found.1; beside = subst (λ (n : ℕ). IsBeside (get_or net.joints n no_joint) i) (sym found.2) beside } in
      elim (at.2 no_joint) [
        | inl e ↦ by (ap (mark_at net rows) e ∙ flow.flows) (inl (ap (λ (end : End). end.primitive) e))
        | inr e ↦ by (giver_flows (mark_at net rows j.giver) (mark_at net rows j.taker) (fit.matched k no_joint at.1) (ap (mark_at net rows) e ∙ flow.flows))
            (inr (ap (λ (end : End). end.primitive) e))
      ]

  -- Marks of those that are at a joint that flows are marks of those that flow.
  pub those_beside_flow : (marks : List Bool) → length marks ≡ length net.primitives
      → ((i : ℕ) → i < length net.primitives → IsTrue (is_changed marks i) ↔ IsBesideOne net.joints flowing (length flowing) i) → AreThoseThatFlowed net rows marks
  those_beside_flow marks one_each each = record {
    one_each = one_each;
    each = λ i lt. (λ mark. beside_flows i ((each i lt).0 mark), λ flow. (each i lt).1 (flows_beside i lt flow));
  }
