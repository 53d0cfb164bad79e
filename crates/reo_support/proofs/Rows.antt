-- On a knot with one value at each loop joint: each row that works with values of a supported family stands in an assignment.
use Rattle.std.proofs.Common.{◌≡◌, ℕ, ◌<◌, Bool, true, length, ◌∙◌, subst, arith}
use Rattle.std.proofs.lemmas.List.{get_or_default}
use Rattle.reo_net_base.specs.declared.joint.Joint.{Joint}
use Rattle.reo_net_base.specs.Net.{Net, side_at}
use Rattle.reo_net_base.specs.Wired.{IsWired}
use Rattle.reo_net_laws.specs.Parts.{IsLinked, IsKnot}
use Rattle.reo_net_laws.specs.Knots.{IsLoop}
use Rattle.reo_joint_values.specs.declared.value.JointValue.{JointValue}
use Rattle.reo_joint_values.specs.Values.{Names, Choice, Family, no_joint, giver_side, taker_side, AtSide}
use Rattle.reo_joint_values.specs.Fitting.{Fits, IsFrom}
use Rattle.reo_joint_values.specs.Supported.{IsSupported}
use Rattle.reo_joint_values.specs.Chosen.{IsChosen}
use Rattle.reo_support.specs.Sets.{OneAtLoops}
use Rattle.reo_joint_values.specs.Works.{RowWorks}
use Rattle.reo_support.proofs.Labels.{label, label_linked, linked_label}
use Rattle.reo_support.proofs.Forest.{Growth, grown}
use Rattle.reo_joint_values.proofs.Inside.{at_inside}
use Rattle.reo_joint_values.proofs.Fitting.{fits_local}
use Rattle.reo_joint_values.proofs.Works.{works_possible}

-- A joint whose sides the joints before it link closes a loop.
linked_loop : (net : Net) (j : ℕ) → j < length net.joints → IsLinked net j (giver_side net j) (taker_side net j) → IsLoop net j
linked_loop net j lt linked d = subst (λ (x : Joint). IsLinked net j (side_at net x.giver) (side_at net x.taker)) (get_or_default net.joints j no_joint d lt) linked

-- An assignment with a row at a side, where it has the values of a choice.
pub record Stands (net : Net) (names : Names) (inside : ℕ → Bool) (sets : Family) (side row : ℕ) (c : Choice) : Type 0 where
  pub rows : ℕ → ℕ
  pub choice : Choice
  pub chosen : IsChosen net names inside sets rows choice
  pub row_is : rows side ≡ row
  pub same : (j : ℕ) → j < length net.joints → AtSide net j side → choice j ≡ c j

module _ (net : Net) (wired : IsWired net) (names : Names) (inside : ℕ → Bool) (sets : Family)
    (knot : IsKnot net inside) (supported : IsSupported net names inside sets) (single : OneAtLoops net inside sets) where
  -- The rows of a side and values at its joints grow to the whole knot.
  pub stands : (side row : ℕ) (c : Choice) → inside side ≡ true → Fits net names c side row → IsFrom net sets c side → Stands net names inside sets side row c
  stands side row c is fits from =
      let g : Growth JointValue (length net.joints) (giver_side net) (taker_side net) (Fits net names) sets (λ k. inside k ≡ true) (length net.joints) side row c =
      grown JointValue (length net.joints) (giver_side net) (taker_side net) (Fits net names) sets (λ k. inside k ≡ true)
      (λ b d k r same f. fits_local net wired names b d k r same f)
      (λ j a b lt at_a at_b a_is. at_inside net inside knot.closed j a b lt at_a at_b a_is)
      (λ j k v lt at k_is h.
      let u = supported k k_is j v lt at h in
      record { row = u.row; choice = u.choice; suits = record { inside = k_is; fits = u.fits; from = u.from }; chosen = u.chosen })
      (λ j v w lt giver_is loop a b. single j v w lt giver_is (linked_loop net j lt (label_linked net j (giver_side net j) (taker_side net j) loop)) a b)
      (length net.joints) (omega arith) side row c (record { inside = is; fits = fits; from = from }) in
      let reached : (k : ℕ) → inside k ≡ true → label (giver_side net) (taker_side net) (length net.joints) k ≡ label (giver_side net) (taker_side net) (length net.joints) side =
      λ k k_is. linked_label net (length net.joints) k side (omega arith) (knot.joined k side k_is is) in
      record {
        rows = g.rows;
        choice = g.choice;
        chosen = record { fits = λ k k_is. (g.each k (reached k k_is)).fits; from = λ k k_is. (g.each k (reached k k_is)).from };
        row_is = g.row_is;
        same = g.same;
      }

  pub row_stands : (side row : ℕ) → inside side ≡ true → RowWorks net names sets side row → (c : Choice) × Stands net names inside sets side row c
  row_stands side row is works =
      let p = works_possible net wired names sets side row works in
      (p.choice, stands side row p.choice is p.fits p.from)

  pub value_stands : (j side : ℕ) (v : JointValue) → j < length net.joints → AtSide net j side → inside side ≡ true → sets j v ≡ true
      → (row : ℕ) × (c : Choice) × (s : Stands net names inside sets side row c) × (s.choice j ≡ v)
  value_stands j side v lt at is h =
      let u = supported side is j v lt at h in
      let s = stands side u.row u.choice is u.fits u.from in
      (u.row, u.choice, s, s.same j lt at ∙ u.chosen)

  -- Where a row works, there is an assignment.
  pub exists : (side row : ℕ) → inside side ≡ true → RowWorks net names sets side row → (rows : ℕ → ℕ) × (choice : Choice) × IsChosen net names inside sets rows choice
  exists side row is works =
      let s = row_stands side row is works in
      (s.1.rows, s.1.choice, s.1.chosen)
