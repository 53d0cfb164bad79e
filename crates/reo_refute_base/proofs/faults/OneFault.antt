-- A log has one answer, unless memory ends.
use Rattle.std.proofs.Common.{◌≡◌, inl, inr, ℕ, ◌<◌, List, Option, refl, ap, sym, ◌∙◌, subst, arith}
use Rattle.reo_values.specs.declared.value.Value.{Value}
use Rattle.reo_net_base.specs.Net.{Net}
use Rattle.reo_net_base.specs.Colouring.{RowsFit, IsFilled}
use Rattle.reo_net_base.specs.Wired.{IsWired, IsOrder}
use Rattle.reo_net_laws.proofs.Sides.{rows_length}
use Rattle.reo_net_base.specs.Net.{all_sides}
use Rattle.reo_net.proofs.colouring.ItemLemmas.{filled_from, filled_one}
use Rattle.reo_checker.specs.declared.wrong.Wrong.{Wrong}
use Rattle.reo_checker.specs.declared.wrong.Wrong.TheVariants.{Count, Row, Joint, Item}
use Rattle.reo_checker.specs.Faults.{AreWrongRows, IsWrong, IsRowFault, IsItemFault}
use Rattle.reo_refute_base.proofs.laws.OneAnswer.{right_or_wrong, one_wrong_line}
use Rattle.reo_refute_base.specs.faults.Faults.{HasColouring, AreWrongItems, AreNoColouring, ProofOrFault, OneFault}
use Rattle.reo_refute_base.specs.declared.faults.fault.ProofFault.TheVariants.{Colouring, Wide, Line, NoMemory}
use Rattle.reo_checker.proofs.ExactLemmas.{wrong_rows, wrong_colouring, row_out}
use Rattle.reo_checker.proofs.FirstFaults.{not_apart, joint_earlier, item_earlier}

row_earlier : (net : Net) (rows : List ℕ) (i k : ℕ) → IsRowFault net rows i → IsRowFault net rows k → i < k → ⊥
row_earlier net rows i k a b lt =
    let has = b.before i lt a.out.side a.out.is_side in
    omega (arith, has, a.out.out)

-- What is wrong first with rows is one.
one_of_rows : (net : Net) (rows : List ℕ) (a b : Wrong) → AreWrongRows net rows a → AreWrongRows net rows b → a ≡ b
one_of_rows net rows Count Count x y = refl
one_of_rows net rows Count (Row k) x y = absurd (x y.0)
one_of_rows net rows Count (Joint k) x y = absurd (x (rows_length (all_sides net.primitives) rows y.0))
one_of_rows net rows Count (Item k) x y = absurd y
one_of_rows net rows (Row i) Count x y = absurd (y x.0)
one_of_rows net rows (Row i) (Row k) x y = ap Row (not_apart i k (row_earlier net rows i k x.1 y.1) (row_earlier net rows k i y.1 x.1))
one_of_rows net rows (Row i) (Joint k) x y = absurd (row_out net rows i x.1 y.0)
one_of_rows net rows (Row i) (Item k) x y = absurd y
one_of_rows net rows (Joint i) Count x y = absurd (y (rows_length (all_sides net.primitives) rows x.0))
one_of_rows net rows (Joint i) (Row k) x y = absurd (row_out net rows k y.1 x.0)
one_of_rows net rows (Joint i) (Joint k) x y = ap Joint (not_apart i k (joint_earlier net rows i k x.1 y.1) (joint_earlier net rows k i y.1 x.1))
one_of_rows net rows (Joint i) (Item k) x y = absurd y
one_of_rows net rows (Item i) b x y = absurd x

-- What is wrong with items where the rows fit is an item.
item_of : (net : Net) (rows : List ℕ) (items : List (Option Value)) (w : Wrong) → RowsFit net rows → IsFilled net rows items → IsWrong net rows items w
    → (i : ℕ) × (w ≡ Item i) × IsItemFault net rows items i
item_of net rows items Count fit filled (inl other) = absurd (wrong_rows net rows Count other fit)
item_of net rows items Count fit filled (inr other) = absurd (other filled.one_each)
item_of net rows items (Row i) fit filled h = absurd (wrong_rows net rows (Row i) h.1 fit)
item_of net rows items (Joint i) fit filled h = absurd (wrong_rows net rows (Joint i) h.1 fit)
item_of net rows items (Item i) fit filled h = (i, refl, h.2)

module _ (net : Net) (wired : IsWired net) (order : List ℕ) (is_order : IsOrder net order) (rows : List ℕ) where
  one_of_items : (a b : Wrong) → AreWrongItems net rows a → AreWrongItems net rows b → a ≡ b
  one_of_items a b x y =
      let same : y.items ≡ x.items = filled_one net wired rows x.rows_fit.in_tables order is_order y.items x.items y.filled x.filled in
      let p = item_of net rows x.items a x.rows_fit x.filled x.is_wrong in
      let q = item_of net rows x.items b x.rows_fit x.filled (subst (λ (l : List (Option Value)). IsWrong net rows l b) same y.is_wrong) in
      p.1 ∙ ap Item (not_apart p.0 q.0 (item_earlier net rows x.items p.0 q.0 p.2 q.2) (item_earlier net rows x.items q.0 p.0 q.2 p.2)) ∙ sym q.1

  one_wrong : (a b : Wrong) → AreNoColouring net rows a → AreNoColouring net rows b → a ≡ b
  one_wrong a b (inl x) (inl y) = one_of_rows net rows a b x y
  one_wrong a b (inl x) (inr y) = absurd (wrong_rows net rows a x y.rows_fit)
  one_wrong a b (inr x) (inl y) = absurd (wrong_rows net rows b y x.rows_fit)
  one_wrong a b (inr x) (inr y) = one_of_items a b x y

  no_colouring : (a : Wrong) → AreNoColouring net rows a → HasColouring net rows → ⊥
  no_colouring a (inl x) has = wrong_rows net rows a x has.1.rows_fit
  no_colouring a (inr x) has =
      let same : x.items ≡ has.0 = filled_one net wired rows x.rows_fit.in_tables order is_order x.items has.0 x.filled (filled_from net rows has.0 has.1) in
      wrong_colouring net rows has.0 a (subst (λ (l : List (Option Value)). IsWrong net rows l a) same x.is_wrong) has.1

pub proof_or_fault : ProofOrFault
proof_or_fault net wired order is_order turn rows log (Colouring wrong) counts is fault = no_colouring net wired order is_order rows wrong fault is.colouring
proof_or_fault net wired order is_order turn rows log Wide counts is fault = is.narrow fault.1
proof_or_fault net wired order is_order turn rows log (Line line) counts is fault = right_or_wrong net turn rows log line is.right fault.2
proof_or_fault net wired order is_order turn rows log NoMemory counts is fault = counts refl

pub one_fault : OneFault
one_fault net wired order is_order turn rows log NoMemory b c d x y = absurd (c refl)
one_fault net wired order is_order turn rows log a NoMemory c d x y = absurd (d refl)
one_fault net wired order is_order turn rows log (Colouring v) (Colouring w) c d x y = ap Colouring (one_wrong net wired order is_order rows v w x y)
one_fault net wired order is_order turn rows log (Colouring v) Wide c d x y = absurd (no_colouring net wired order is_order rows v x y.0)
one_fault net wired order is_order turn rows log (Colouring v) (Line m) c d x y = absurd (no_colouring net wired order is_order rows v x y.0)
one_fault net wired order is_order turn rows log Wide (Colouring w) c d x y = absurd (no_colouring net wired order is_order rows w y x.0)
one_fault net wired order is_order turn rows log Wide Wide c d x y = refl
one_fault net wired order is_order turn rows log Wide (Line m) c d x y = absurd (y.1 x.1)
one_fault net wired order is_order turn rows log (Line l) (Colouring w) c d x y = absurd (no_colouring net wired order is_order rows w y x.0)
one_fault net wired order is_order turn rows log (Line l) Wide c d x y = absurd (x.1 y.1)
one_fault net wired order is_order turn rows log (Line l) (Line m) c d x y = ap Line (one_wrong_line net turn rows log l m x.2 y.2)
