-- Rows determine their items.
use Rattle.std.proofs.Common.{◌≡◌, ◌∙◌, sym, ℕ, ◌<◌, List, length, get_or, arith}
use Rattle.std.specs.Prelude.{Option, None}
use Rattle.std.proofs.lemmas.List.{get_or_default, same_lists}
use Rattle.reo_values.specs.declared.value.Value.{Value}
use Rattle.reo_net_base.specs.declared.joint.End.{End}
use Rattle.reo_net_base.specs.declared.joint.Joint.{Joint}
use Rattle.reo_net_base.specs.Colouring.{IsFilled, item_given}
use Rattle.reo_net_base.specs.Net.{Net, no_side, all_sides, behaviour_at, row_at, side_at, mark_at}
use Rattle.reo_net_base.specs.Sides.{AreRowsOf}
use Rattle.reo_net_laws.proofs.Items.{given_fed, along_order}
use Rattle.reo_net_laws.proofs.Orders.{no_joint}
use Rattle.reo_runs.proofs.Sides.{row_below, side_in_range, row_in_table}
use Rattle.reo_net.proofs.colouring.ItemLemmas.{flow_cases}
use Rattle.reo_rounds.specs.Order.{HasOrder}

module _ (net : Net) (ordered : HasOrder net) (rows : List ℕ) (are : AreRowsOf net rows) where
  below : (j : ℕ) (d : Joint) → j < length net.joints
      → row_at net rows (get_or net.joints j d).giver < (behaviour_at net.primitives (get_or net.joints j d).giver.primitive).rows ((behaviour_at net.primitives (get_or net.joints j d).giver.primitive).side_of (get_or net.joints j d).giver.end)
  below j d lt =
      let giver : End = (get_or net.joints j d).giver in
      let e_in = ordered.wired.givers j d lt in
      row_in_table net ordered.wired giver e_in rows no_side (row_below (all_sides net.primitives) rows are (side_at net giver) no_side (side_in_range net ordered.wired giver e_in))

  item_one : (xs ys : List (Option Value)) → IsFilled net rows xs → IsFilled net rows ys → (j : ℕ) → j < length net.joints → get_or xs j None ≡ get_or ys j None
  unfolding item_given
  item_one xs ys is_x is_y =
      along_order net ordered.order ordered.is_order (λ j. get_or xs j None ≡ get_or ys j None) (λ j lt fed.
      is_x.determined j no_joint lt
      ∙ flow_cases (mark_at net rows (get_or net.joints j no_joint).giver) _ _
      (given_fed net ordered.wired rows xs ys j no_joint lt is_x.one_each is_y.one_each (below j no_joint lt) (λ k e k_in feeds. fed k no_joint e k_in feeds))
      ∙ sym (is_y.determined j no_joint lt))

  -- Rows determine one list of items.
  pub one_filled : (xs ys : List (Option Value)) → IsFilled net rows xs → IsFilled net rows ys → xs ≡ ys
  one_filled xs ys is_x is_y =
      same_lists xs ys (is_x.one_each ∙ sym is_y.one_each) (λ j d lt.
      let here = item_one xs ys is_x is_y j (omega (arith, is_x.one_each)) in
      rw (get_or_default xs j None d lt, get_or_default ys j None d (omega (arith, is_x.one_each, is_y.one_each))) at here)
