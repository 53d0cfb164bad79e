-- Rows that are planned, and the first colouring.
use Rattle.std.proofs.Common.{◌≡◌, ℕ, List, Option, sym, subst}
use Rattle.reo_values.specs.declared.value.Value.{Value}
use Rattle.reo_net_base.specs.declared.colouring.Colouring.{Colouring}
use Rattle.reo_net_base.specs.Net.{Net}
use Rattle.reo_net_base.specs.First.{IsFirst}
use Rattle.reo_net_base.specs.Wired.{IsWired}
use Rattle.reo_net_base.specs.Colouring.{RowsFit, IsFilled}
use Rattle.reo_net.proofs.colouring.ItemLemmas.{filled_from}
use Rattle.reo_net_laws.specs.Knots.{Knotted, AreKnots, knot_count}
use Rattle.reo_weights.proofs.still.Together.{parts_make_first}
use Rattle.reo_weights.proofs.CauseLemmas.{within_not_over}
use Rattle.reo_planning.specs.Planned.{ArePlanned, IsFirstBy}

-- Rows that are planned fit.
pub planned_fit : (budget : ℕ) (net : Net) → IsWired net → (knots : Knotted) → AreKnots net knots → (turn : ℕ) (rows : List ℕ) → ArePlanned budget net knots turn (knot_count knots) rows → RowsFit net rows
planned_fit budget net wired knots are turn rows planned =
    (parts_make_first net wired knots.numbers (knot_count knots) are.numbered turn rows planned.one_row planned.firsts).first.colouring.rows_fit

-- Rows that are planned, with the items that they determine, are the first colouring.
pub first_by : (budget : ℕ) (net : Net) → IsWired net → (knots : Knotted) → AreKnots net knots → (turn : ℕ) (rows : List ℕ) → ArePlanned budget net knots turn (knot_count knots) rows
    → (colouring : Colouring) → colouring.rows ≡ rows → ((others : List (Option Value)) → IsFilled net rows others → others ≡ colouring.items) → IsFirstBy budget net turn colouring
first_by budget net wired knots are turn rows planned colouring same one =
    let joined = parts_make_first net wired knots.numbers (knot_count knots) are.numbered turn rows planned.one_row planned.firsts in
    let items : joined.items ≡ colouring.items = one joined.items (filled_from net rows joined.items joined.first.colouring) in
    record {
      within = within_not_over budget net wired knots.numbers (knot_count knots) are.numbered planned.within;
      first = subst (λ (xs : List ℕ). IsFirst net turn xs colouring.items) (sym same) (subst (λ (xs : List (Option Value)). IsFirst net turn rows xs) items joined.first);
    }
