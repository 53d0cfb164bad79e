-- What is noted for a joint is a bound.
use Rattle.std.proofs.Common.{◌≡◌, ℕ, suc, ◌+◌, ◌*◌, ◌<◌, ◌≤◌, List, [], ◌∷◌, true, length, get_or, take, refl, ap, sym, ◌∙◌, subst, arith}
use Rattle.std.specs.Prelude.{Contains, map}
use Rattle.std.proofs.lemmas.List.{get_or_default, map-append}
use Rattle.reo_values.proofs.Sequences.{one_more}
use Rattle.reo_net_base.specs.declared.form.Form.{Form}
use Rattle.reo_net_base.specs.declared.joint.End.{End}
use Rattle.reo_net_base.specs.declared.mark.Mark.TheVariants.{F}
use Rattle.reo_net_base.specs.Behaviour.{Behaviour, IsEndOf}
use Rattle.reo_net_base.specs.Forms.{HasForm, mark_by, rows_by}
use Rattle.reo_net_base.specs.Net.{Net, behaviour_at, end_of}
use Rattle.reo_net_base.specs.Wired.{IsWired}
use Rattle.reo_net_circuit.specs.found_ends.Ends.{AreEnds, joint_at}
use Rattle.reo_net_circuit.proofs.found_ends.EndLemmas.{find_joints}
use Rattle.reo_net_laws.specs.Ends.{mark_in}
use Rattle.reo_joint_values.specs.Standing.{no_joint, giver_of, taker_of, FlowsAt}
use Rattle.reo_weights.specs.Bounds.{sum_below, giver_rows}
use Rattle.reo_weights.specs.Weights.{product_of}
use Rattle.reo_weights.proofs.Products.{product_push}
use Rattle.reo_item_bounds.specs.Bounds.{ComesIn, IsBoundAt}
use Rattle.reo_item_bounds.specs.Shares.{AreShared}

mark_is : (net : Net) (row : ℕ) (e : End) → mark_in net row e ≡ (behaviour_at net.primitives e.primitive).mark ((behaviour_at net.primitives e.primitive).side_of e.end) row e.end
unfolding mark_in
mark_is net row e = refl

module _ (net : Net) (wired : IsWired net) (ends : List (List ℕ)) (are : AreEnds net ends) (bounds : List ℕ) (j : ℕ) (lt : j < length net.joints) (form : Form)
    (has : HasForm form (behaviour_at net.primitives (giver_of net j).primitive) ((behaviour_at net.primitives (giver_of net j).primitive).side_of (giver_of net j).end)) where
  abbrev e : End
  e = giver_of net j

  abbrev b : Behaviour
  b = behaviour_at net.primitives (giver_of net j).primitive

  e_end : IsEndOf b (b.side_of e.end) e.end
  e_end = ((wired.givers j no_joint lt).1, refl)

  row_below : (row : ℕ) → FlowsAt net (giver_of net j) row → row < rows_by form
  row_below row flows = let plain = flows.plain in let rows = has.rows in omega (arith, plain, rows)

  flows_by : (row : ℕ) → FlowsAt net (giver_of net j) row → mark_by form row e.end ≡ F
  flows_by row flows =
      let plain = flows.plain in
      sym (has.mark row e.end (omega (arith, plain)) e_end) ∙ sym (mark_is net row e) ∙ flows.flows

  -- At an end of the side where an item comes in.
  module _ (row k : ℕ) (comes : ComesIn net j row k) where
    abbrev t : End
    t = taker_of net k

    same_place : t.primitive ≡ e.primitive
    same_place = comes.primitive

    t_below : t.end < b.ends
    t_below = subst (λ (i : ℕ). t.end < (behaviour_at net.primitives i).ends) same_place (wired.takers k no_joint comes.in_range).1

    t_end : IsEndOf b (b.side_of e.end) t.end
    t_end = (t_below, comes.side)

    t_takes : b.takes_in t.end ≡ true
    t_takes = subst (λ (i : ℕ). (behaviour_at net.primitives i).takes_in t.end ≡ true) same_place (wired.takes k no_joint comes.in_range)

    t_flows : mark_by form row t.end ≡ F
    t_flows =
        let plain = comes.flows.plain in
        let placed : (behaviour_at net.primitives t.primitive).mark ((behaviour_at net.primitives t.primitive).side_of t.end) row t.end ≡ b.mark (b.side_of t.end) row t.end =
        ap (λ (i : ℕ). (behaviour_at net.primitives i).mark ((behaviour_at net.primitives i).side_of t.end) row t.end) same_place in
        sym (has.mark row t.end (omega (arith, plain)) t_end) ∙ ap (λ (s : ℕ). b.mark s row t.end) (sym comes.side) ∙ sym placed ∙ sym (mark_is net row t) ∙ comes.comes

    t_joint : joint_at ends (end_of e.primitive t.end) ≡ k
    t_joint = ap (λ (i : ℕ). joint_at ends (end_of i t.end)) (sym same_place) ∙ (find_joints net wired ends are).of_taker k no_joint comes.in_range

  pub bound_here : (sum : ℕ) → sum ≤ get_or bounds j 0 → get_or bounds j 0 ≤ 256 → AreShared b e form ends bounds (rows_by form) sum → IsBoundAt net (λ (k : ℕ). get_or bounds k 0) j
  bound_here sum le few shared = record {
    share = shared.share;
    together =
        let same : giver_rows net j ≡ rows_by form = has.rows in
        let most = shared.together in
        subst (λ (n : ℕ). sum_below n shared.share ≤ get_or bounds j 0) (sym same) (omega (arith, most, le));
    one = λ row flows. (shared.each row (row_below row flows) (flows_by row flows)).one;
    passed = λ row k comes.
        let here = (shared.each row (row_below row comes.flows) (flows_by row comes.flows)).each (t row k comes).end ((has.ends (t row k comes).end).0 (t_end row k comes)) (t_takes row k comes) (t_flows row k comes) in
        subst (λ (m : ℕ). get_or bounds m 0 ≤ shared.share row) (t_joint row k comes) here;
    few = few;
  }

-- What holds at each place holds of each element.
pub of_each : (P : ℕ → Type 0) (xs : List ℕ) → ((m : ℕ) → m < length xs → P (get_or xs m 0)) → (x : ℕ) → Contains xs x → P x
of_each P xs h x is = subst P (get_or_default xs is.0 0 x is.1 ∙ is.2) (h is.0 is.1)

-- The product with one more.
pub product_next : (f : ℕ → ℕ) (xs : List ℕ) (m n : ℕ) → m < length xs → product_of (map f (take m xs)) ≡ n → product_of (map f (take (m + 1) xs)) ≡ n * f (get_or xs m 0)
product_next f xs m n lt is =
    let shift : m + 1 ≡ suc m = omega arith in
    ap (λ (k : ℕ). product_of (map f (take k xs))) shift
    ∙ ap (λ (ys : List ℕ). product_of (map f ys)) (one_more xs m lt)
    ∙ ap product_of (map-append f (take m xs) (get_or xs m 0 ∷ []))
    ∙ product_push (map f (take m xs)) (f (get_or xs m 0))
    ∙ ap (λ (k : ℕ). k * f (get_or xs m 0)) is
