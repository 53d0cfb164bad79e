-- Rows have one list of items.
use Rattle.std.proofs.Common.{◌≡◌, ℕ, ◌<◌, List, Option, None, Bool, true, length, get_or, refl, ap, sym, ◌∙◌, arith}
use Rattle.std.proofs.lemmas.List.{get_or_default, same_lists}
use Rattle.reo_values.specs.declared.value.Value.{Value}
use Rattle.reo_net_base.specs.declared.joint.End.{End}
use Rattle.reo_net_base.specs.declared.joint.Joint.{Joint}
use Rattle.reo_net_base.specs.Net.{Net, all_sides, side_at, side_of_end, row_at}
use Rattle.reo_net_base.specs.Wired.{IsWired, IsOrder}
use Rattle.reo_net_laws.specs.Parts.{is_joint_inside, IsClosed, IsAssignment}
use Rattle.reo_net_laws.specs.PartLaws.{OneColouringForRows}
use Rattle.reo_net_laws.proofs.Sides.{row_is, side_in_range, row_in_table}
use Rattle.reo_net_laws.proofs.Items.{fits_one, mark_moved, given_moved, given_fed, along_order}
use Rattle.reo_net_laws.proofs.Orders.{no_joint}
use Rattle.reo_net_laws.proofs.Sets.{everywhere, everywhere_closed, restricted}

-- Assignments of a closed set that have the same rows there have the same items there.
pub one_items : (net : Net) → IsWired net → (order : List ℕ) → IsOrder net order → (inside : ℕ → Bool) → IsClosed net inside → (a b : List ℕ) (xs ys : List (Option Value)) → IsAssignment net inside a xs → IsAssignment net inside b ys
    → ((k : ℕ) → k < length (all_sides net.primitives) → inside k ≡ true → get_or a k 0 ≡ get_or b k 0)
    → (j : ℕ) → j < length net.joints → (d : Joint) → is_joint_inside net inside (get_or net.joints j d) ≡ true → get_or xs j None ≡ get_or ys j None
one_items net wired order is_order inside closed a b xs ys is_a is_b same_rows =
    along_order net order is_order (λ j. (d : Joint) → is_joint_inside net inside (get_or net.joints j d) ≡ true → get_or xs j None ≡ get_or ys j None) (λ j lt fed d h.
    let joint : Joint = get_or net.joints j d in
    let giver : End = joint.giver in
    let e_in = wired.givers j d lt in
    let range = side_in_range net wired giver e_in in
    let row : row_at net a giver ≡ row_at net b giver = row_is net a giver ∙ same_rows (side_at net giver) range h ∙ sym (row_is net b giver) in
    let mark = mark_moved net a b giver row in
    let below = row_in_table net wired giver e_in a (side_of_end net giver) (is_a.in_tables (side_at net giver) (side_of_end net giver) range h) in
    fits_one net a b xs ys joint (get_or xs j None) (get_or ys j None) mark
    (λ flows.
    given_fed net wired a xs ys j d lt is_a.one_item is_b.one_item below (λ k e k_in feeds.
    fed k d e k_in feeds e (closed.along k e k_in ∙ ap inside feeds ∙ h))
    (mark ∙ flows)
    ∙ given_moved net a b ys giver row)
    (is_a.items_fit j d lt h) (is_b.items_fit j d lt h))

pub one_colouring : OneColouringForRows
one_colouring net wired order is_order rows xs ys col_x col_y =
    let is_x = restricted net everywhere rows xs col_x in
    let is_y = restricted net everywhere rows ys col_y in
    same_lists xs ys (is_x.one_item ∙ sym is_y.one_item) (λ j d lt.
    let here = one_items net wired order is_order everywhere (everywhere_closed net) rows rows xs ys is_x is_y (λ k k_in h. refl) j (omega (arith, is_x.one_item)) no_joint refl in
    rw (get_or_default xs j None d lt, get_or_default ys j None d (omega (arith, is_x.one_item, is_y.one_item))) at here)
