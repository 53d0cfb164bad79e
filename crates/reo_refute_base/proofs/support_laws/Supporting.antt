-- Support by rows alone.
use Rattle.std.proofs.Common.{arith, ◌≡◌, inl, inr, ℕ, ◌<◌, ◌==◌, ◌&&◌, ◌||◌, not, Bool, true, length, refl, ap, ◌∙◌}
use Rattle.std.proofs.lemmas.Bool.{cases_Bool, eqb-true, eq-eqb}
use Rattle.std.proofs.lemmas.Bool.Decides.{nat_tests}
use Rattle.reo_values.proofs.Truths.{and_or_left, and_or_right}
use Rattle.reo_net_base.specs.Net.{Net}
use Rattle.reo_net_base.specs.Wired.{IsWired}
use Rattle.reo_joint_values.specs.declared.value.JointValue.{JointValue}
use Rattle.reo_joint_values.specs.Values.{Names, Choice, Family, value_eq, AtSide}
use Rattle.reo_joint_values.specs.Fitting.{IsFrom}
use Rattle.reo_refute_base.proofs.Narrowing.{value_same, same_value}
use Rattle.reo_joint_values.proofs.Works.{Possible, fits_works, works_possible}
use Rattle.reo_refute_base.specs.Live.{alone, HasSupport}
use Rattle.reo_refute_base.specs.Places.{IsAllowed}
use Rattle.reo_refute_base.specs.support_laws.Rows.{SupportingRow, SupportIsByRows}

live_of : (a b c : Bool) → a && (not b || c) ≡ true → a ≡ true
live_of a b c h = grind (arith, nat_tests)

one_of : (a b c : Bool) → b ≡ true → a && (not b || c) ≡ true → c ≡ true
one_of a b c e h = grind (arith, nat_tests)

module _ (net : Net) (wired : IsWired net) (names : Names) (allowed : ℕ → ℕ → Type 0) (live : Family) (side j : ℕ) (v : JointValue) where
  held : (choice : Choice) → choice j ≡ v → IsFrom net live choice side → IsFrom net (alone live j v) choice side
  held choice is from i lt at =
      elim (cases_Bool (i == j)) [
        | inl holds ↦
            let same : choice i ≡ v = ap choice (eqb-true i j holds) ∙ is in
            and_or_right (live i (choice i)) (i == j) (value_eq (choice i) v) (from i lt at) (ap (λ (w : JointValue). value_eq w v) same ∙ value_same v)
        | inr off ↦ and_or_left (live i (choice i)) (i == j) (value_eq (choice i) v) (from i lt at) off
      ]

  supporting : HasSupport net names allowed live side j v → SupportingRow net names allowed live side j v
  supporting s =
      let u = s.used in
      record { row = u.row; allowed_row = s.allowed_row; works = fits_works net wired names (alone live j v) side u.row u.choice u.fits (held u.choice u.chosen u.from) }

  supported : j < length net.joints → AtSide net j side → SupportingRow net names allowed live side j v → HasSupport net names allowed live side j v
  supported lt at s =
      let p : Possible net names (alone live j v) side s.row = works_possible net wired names (alone live j v) side s.row s.works in
      let here : value_eq (p.choice j) v ≡ true = one_of (live j (p.choice j)) (j == j) (value_eq (p.choice j) v) (eq-eqb j j refl) (p.from j lt at) in
      record {
        used = record {
          row = s.row;
          choice = p.choice;
          fits = p.fits;
          chosen = same_value (p.choice j) v here;
          from = λ i i_lt i_at. live_of (live i (p.choice i)) (i == j) (value_eq (p.choice i) v) (p.from i i_lt i_at);
        };
        allowed_row = s.allowed_row;
      }

pub support_is_by_rows : SupportIsByRows
support_is_by_rows net wired turn given p names live side j v lt at is = (
  supporting net wired names (IsAllowed net turn given p) live side j v,
  supported net wired names (IsAllowed net turn given p) live side j v lt at,
)
