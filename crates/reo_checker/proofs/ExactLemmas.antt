-- What is wrong with rows or items keeps them from fitting.
use Rattle.std.proofs.Common.{◌≡◌, ◌≢◌, ◌⊎◌, ◌<◌, inl, inr, ℕ, ◌+◌, Bool, true, false, List, Option, None, Some, get_or, refl, arith}
use Rattle.reo_values.specs.declared.value.Value.{Value}
use Rattle.reo_net_base.specs.declared.mark.Mark.{Mark}
use Rattle.reo_net_base.specs.declared.mark.Mark.TheVariants.{F, G, R, J}
use Rattle.reo_net_base.specs.declared.joint.Joint.{Joint as JointEnds}
use Rattle.reo_net_base.specs.Net.{Net, no_side, all_sides, first_side, behaviour_at, mark_at}
use Rattle.reo_net_base.specs.Colouring.{ItemFits, RowsFit, IsColouring, given_at, lets_in}
use Rattle.reo_net_base.specs.Sides.{AreRowsOf}
use Rattle.reo_net_laws.proofs.Sides.{rows_length, row_below, side_in, side_is}
use Rattle.reo_net_laws.proofs.Orders.{no_joint}
use Rattle.reo_checker.specs.declared.wrong.Wrong.{Wrong}
use Rattle.reo_checker.specs.declared.wrong.Wrong.TheVariants.{Count, Row, Joint, Item}
use Rattle.reo_checker.specs.Faults.{ItemFails, AreWrongRows, IsWrong, side_row, IsRowFault}

-- Rows in their tables have no row out.
pub row_out : (net : Net) (rows : List ℕ) (i : ℕ) → IsRowFault net rows i → AreRowsOf net rows → ⊥
row_out net rows i fault are =
    let below = row_below (all_sides net.primitives) rows are (first_side net.primitives i + fault.out.side) no_side (side_in net.primitives i fault.out.side fault.in_range fault.out.is_side) in
    let here : side_row net rows i fault.out.side < (behaviour_at net.primitives i).rows fault.out.side = rw (side_is net.primitives i fault.out.side no_side fault.in_range fault.out.is_side) at below in
    absurd (omega (arith, here, fault.out.out))

-- Rows with something wrong do not fit.
pub wrong_rows : (net : Net) (rows : List ℕ) (wrong : Wrong) → AreWrongRows net rows wrong → RowsFit net rows → ⊥
wrong_rows net rows Count other fit = other (rows_length (all_sides net.primitives) rows fit.in_tables)
wrong_rows net rows (Row i) h fit = row_out net rows i h.1 fit.in_tables
wrong_rows net rows (Joint j) h fit =
    let clash = h.1.clashes no_joint in
    let match = fit.matched j no_joint h.1.in_range in
    absurd cc
wrong_rows net rows (Item j) h fit = h

pub fails_fits : (net : Net) (rows : List ℕ) (items : List (Option Value)) (j : JointEnds) (o : Option Value) → ItemFails net rows items j o → ItemFits net rows items j o → ⊥
fails_fits net rows items j None flows none = none flows
fails_fits net rows items j (Some item) (inl dry) has = dry has.flows
fails_fits net rows items j (Some item) (inr (inl other)) has = other has.given
fails_fits net rows items j (Some item) (inr (inr out)) has = let in_ = has.let_in in absurd cc

none_fails : (m : Mark) → (m ≢ F → ⊥) → m ≡ F
none_fails F never = refl
none_fails G never = absurd (never (λ e. absurd cc))
none_fails R never = absurd (never (λ e. absurd cc))
none_fails J never = absurd (never (λ e. absurd cc))

some_fails : (m : Mark) (lets : Bool) (given : Option Value) (item : Value) → (m ≡ F → given ≡ Some item → lets ≡ true → ⊥)
    → (m ≢ F) ⊎ (given ≢ Some item) ⊎ (lets ≡ false)
some_fails F true given item never = inr (inl (λ e. never refl e refl))
some_fails F false given item never = inr (inr refl)
some_fails G lets given item never = inl (λ e. absurd cc)
some_fails R lets given item never = inl (λ e. absurd cc)
some_fails J lets given item never = inl (λ e. absurd cc)

-- What does not fit fails.
pub not_fits : (net : Net) (rows : List ℕ) (items : List (Option Value)) (j : JointEnds) (o : Option Value) → (ItemFits net rows items j o → ⊥) → ItemFails net rows items j o
not_fits net rows items j None never = none_fails (mark_at net rows j.giver) never
not_fits net rows items j (Some item) never =
    some_fails (mark_at net rows j.giver) (lets_in net rows j.taker item) (given_at net rows items j.giver) item
    (λ flows given let_in. never (record { flows = flows; given = given; let_in = let_in }))

-- Rows and items with something wrong are no colouring.
pub wrong_colouring : (net : Net) (rows : List ℕ) (items : List (Option Value)) (wrong : Wrong) → IsWrong net rows items wrong → IsColouring net rows items → ⊥
wrong_colouring net rows items Count (inl other) col = wrong_rows net rows Count other col.rows_fit
wrong_colouring net rows items Count (inr other) col = other col.one_each
wrong_colouring net rows items (Row i) h col = wrong_rows net rows (Row i) h.1 col.rows_fit
wrong_colouring net rows items (Joint j) h col = wrong_rows net rows (Joint j) h.1 col.rows_fit
wrong_colouring net rows items (Item j) h col = fails_fits net rows items (get_or net.joints j no_joint) (get_or items j None) (h.2.fails no_joint) (col.items_fit j no_joint h.2.in_range)
