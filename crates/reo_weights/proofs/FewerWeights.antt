-- A closed set with fewer rows weighs no more.
use Rattle.std.proofs.Common.{◌≡◌, inl, ℕ, zero, suc, ◌<◌, ◌≤◌, List, [], ◌∷◌, Bool, true, length, get_or, refl, ap, sym, ◌∙◌, subst, arith}
use Rattle.std.specs.Prelude.{Contains, map}
use Rattle.std.proofs.lemmas.List.{length-map, get_or-map}
use Rattle.std.proofs.lemmas.List.Elements.{Contains-get_or}
use Rattle.std.proofs.lemmas.Nat.{mul-le}
use Rattle.reo_values.specs.declared.value.Value.{Value}
use Rattle.reo_net_base.specs.declared.joint.Joint.{Joint}
use Rattle.reo_net_base.specs.Behaviour.{Behaviour}
use Rattle.reo_net_base.specs.Net.{Net, side_at}
use Rattle.reo_net_base.specs.Wired.{IsWired, IsOrder}
use Rattle.reo_net_laws.specs.Parts.{IsClosedBelow, IsClosed}
use Rattle.reo_weights.proofs.Assignments.{side_same}
use Rattle.reo_net_laws.proofs.Isolation.{same_net}
use Rattle.reo_net_laws.specs.Knots.{IsLoop}
use Rattle.reo_joint_values.specs.Standing.{no_joint}
use Rattle.reo_joint_values.specs.Many.{IsJointIn}
use Rattle.reo_joint_values.specs.declared.value.JointValue.{JointValue}
use Rattle.reo_joint_values.specs.Values.{Names, giver_side}
use Rattle.reo_weights.specs.Fewer.{HasFewerRows, FewerRowsWeighNoMore, FewerRowsStayWithin}
use Rattle.reo_weights.specs.Widths.{IsWide}
use Rattle.reo_weights.specs.Weights.{AreNamed, all_values, AreSupported, IsWeight, product_of, capped}
use Rattle.reo_weights.specs.Over.{IsWithin}
use Rattle.reo_weights.proofs.Decisions.{IsDecided, is_so, so_true, true_so}
use Rattle.reo_weights.proofs.EqualItems.{items_decided}
use Rattle.reo_weights.proofs.ExistLemmas.{some_weight}
use Rattle.reo_weights.proofs.FewerEnds.{nowhere, shaped}
use Rattle.reo_weights.proofs.FewerStands.{stood}
use Rattle.reo_weights.proofs.FewerSupport.{some_names, some_name_was, some_name_is, greatest_before}
use Rattle.reo_weights.proofs.ListLemmas.{fewer, same_increasing}
use Rattle.reo_weights.proofs.Listings.{contains_decided}
use Rattle.reo_weights.proofs.MoveLemmas.{move, move_back, greatest_moves}
use Rattle.reo_weights.proofs.NameLemmas.{items_there, items_exact}

-- No greater numbers have no greater product.
pub product_le : (xs ys : List ℕ) → length xs ≡ length ys → ((k : ℕ) → k < length xs → get_or xs k 0 ≤ get_or ys k 0) → product_of xs ≤ product_of ys
product_le [] [] same le = omega arith
product_le [] (y ∷ ys) same le = absurd (omega arith)
product_le (x ∷ xs) [] same le = absurd (omega arith)
product_le (x ∷ xs) (y ∷ ys) same le = mul-le x (product_of xs) y (product_of ys) (le zero (omega arith)) (product_le xs ys (omega arith) (λ k lt. le (suc k) (omega arith)))

pub capped_le : (m n : ℕ) → m ≤ n → capped m ≤ capped n
capped_le m n le = omega (arith, le)

-- The product of no longer lists, one for one, is no greater.
pub lengths_le : {A B : Type 0} (xs : List (List A)) (ys : List (List B)) → length xs ≡ length ys → ((k : ℕ) → k < length xs → length (get_or xs k []) ≤ length (get_or ys k []))
    → product_of (map length xs) ≤ product_of (map length ys)
lengths_le xs ys same le =
    let xs_long : length (map length xs) ≡ length xs = length-map xs length in
    let ys_long : length (map length ys) ≡ length ys = length-map ys length in
    product_le (map length xs) (map length ys) (xs_long ∙ same ∙ sym ys_long) (λ k lt.
    let x_in : k < length xs = omega (arith, lt, xs_long) in
    let y_in : k < length ys = omega (arith, x_in, same) in
    let here = le k x_in in
    let x_is : get_or (map length xs) k 0 ≡ length (get_or xs k []) = get_or-map length xs k [] 0 x_in in
    let y_is : get_or (map length ys) k 0 ≡ length (get_or ys k []) = get_or-map length ys k [] 0 y_in in
    omega (arith, here, x_is, y_is))

module _ (bs ds : List Behaviour) (js : List Joint) (wired : IsWired (record { primitives = bs; joints = js })) (wired_fewer : IsWired (record { primitives = ds; joints = js }))
    (order : List ℕ) (is_order : IsOrder (record { primitives = ds; joints = js }) order)
    (inside : ℕ → Bool) (closed : IsClosed (record { primitives = bs; joints = js }) inside)
    (has : HasFewerRows (record { primitives = bs; joints = js }) (record { primitives = ds; joints = js }) inside) where
  abbrev net : Net
  net = record { primitives = bs; joints = js }

  abbrev other : Net
  other = record { primitives = ds; joints = js }

  giver_same : (j : ℕ) (d : Joint) → j < length js → side_at other (get_or js j d).giver ≡ side_at net (get_or js j d).giver
  giver_same j d lt = side_same bs ds js wired nowhere (shaped bs ds js wired inside has) (get_or js j d).giver (wired.givers j d lt)

  taker_same : (j : ℕ) (d : Joint) → j < length js → side_at other (get_or js j d).taker ≡ side_at net (get_or js j d).taker
  taker_same j d lt = side_same bs ds js wired nowhere (shaped bs ds js wired inside has) (get_or js j d).taker (wired.takers j d lt)

  closed_fewer : IsClosed other inside
  closed_fewer = record { along = λ j d lt. ap inside (giver_same j d lt) ∙ closed.along j d lt ∙ ap inside (sym (taker_same j d lt)) }

  joint_there : (j : ℕ) → IsJointIn net inside j → IsJointIn other inside j
  joint_there j is = (is.0, ap inside (giver_same j no_joint is.0) ∙ is.1)

  joint_back : (j : ℕ) → IsJointIn other inside j → IsJointIn net inside j
  joint_back j is = (is.0, ap inside (sym (giver_same j no_joint is.0)) ∙ is.1)

  below_there : (j : ℕ) → j < length js → (test : ℕ → Bool) → IsClosedBelow net j test → IsClosedBelow other j test
  below_there j lt test below = record {
    along = λ i d i_lt.
        let i_in : i < length js = omega arith in
        ap test (giver_same i d i_in) ∙ below.along i d i_lt ∙ ap test (sym (taker_same i d i_in));
  }

  below_back : (j : ℕ) → j < length js → (test : ℕ → Bool) → IsClosedBelow other j test → IsClosedBelow net j test
  below_back j lt test below = record {
    along = λ i d i_lt.
        let i_in : i < length js = omega arith in
        ap test (sym (giver_same i d i_in)) ∙ below.along i d i_lt ∙ ap test (taker_same i d i_in);
  }

  loop_there : (j : ℕ) → j < length js → IsLoop net j → IsLoop other j
  loop_there j lt loop d test below = ap test (giver_same j d lt) ∙ loop d test (below_back j lt test below) ∙ ap test (sym (taker_same j d lt))

  loop_back : (j : ℕ) → j < length js → IsLoop other j → IsLoop net j
  loop_back j lt loop d test below = ap test (sym (giver_same j d lt)) ∙ loop d test (below_there j lt test below) ∙ ap test (taker_same j d lt)

  -- Where too many items can stand, too many could stand before.
  wide_before : IsWide other inside → IsWide net inside
  wide_before wide = record {
    joint = wide.joint;
    is_joint = joint_back wide.joint wide.is_joint;
    many = record {
      items = wide.many.items;
      distinct = wide.many.distinct;
      many = wide.many.many;
      stand = λ item in_list. stood bs ds js wired inside has closed wide.joint item (joint_back wide.joint wide.is_joint) (wide.many.stand item in_list);
    };
  }

  -- The numbers of the items that can still stand.
  in_decided : (j : ℕ) (item : Value) → IsDecided (Contains (items_there other wired_fewer order is_order j) item)
  in_decided j item = contains_decided items_decided (items_there other wired_fewer order is_order j) item

  abbrev still : (j : ℕ) (item : Value) → Bool
  still j item = is_so (in_decided j item)

  still_named : (names : Names) → AreNamed net inside names → AreNamed other inside (some_names names still)
  still_named names are = record {
    sound = λ j n item is e.
        let was = some_name_was names still j n item e in
        (items_exact other wired_fewer order is_order j is.0 item).0 (true_so (in_decided j item) was.1);
    whole = λ j item is stands.
        let named = are.whole j item (joint_back j is) (stood bs ds js wired inside has closed j item (joint_back j is) stands) in
        let keep = so_true (in_decided j item) ((items_exact other wired_fewer order is_order j is.0 item).1 stands) in
        (named.0, some_name_is names still j named.0 item named.1 keep);
    once = λ j m n item is e f. are.once j m n item (joint_back j is) (some_name_was names still j m item e).0 (some_name_was names still j n item f).0;
  }

  module _ (w x : ℕ) (p : IsWeight net inside w) (q : IsWeight other inside x) where
    same_loops : p.loops ≡ q.loops
    same_loops = same_increasing p.loops q.loops p.are_loops.increasing q.are_loops.increasing (λ j. (
      λ h. let loop = (p.are_loops.exact j).0 h in (q.are_loops.exact j).1 (joint_there j loop.0, loop_there j loop.0.0 loop.1),
      λ h. let loop = (q.are_loops.exact j).0 h in (p.are_loops.exact j).1 (joint_back j loop.0, loop_back j loop.0.0 loop.1),
    ))

    abbrev few : Names
    few = some_names p.names still

    few_are : AreNamed other inside (some_names p.names still)
    few_are = still_named p.names p.named

    -- At a joint of the set no more values are supported.
    no_more : (j : ℕ) → IsJointIn net inside j → (xs ys : List JointValue) → AreSupported net p.names inside j xs → AreSupported other q.names inside j ys → length ys ≤ length xs
    no_more j is xs ys xs_are ys_are =
        let there = joint_there j is in
        let whole : (v : JointValue) → Contains ys v → all_values q.names j v ≡ true = λ v h. let g = (ys_are.exact v).0 h in g.within j (giver_side other j) v is.0 (inl refl) there.1 g.has in
        fewer ys xs (move other inside q.names few q.named few_are j) (λ m n d lt n_in. ys_are.once m n lt n_in d)
        (λ v w v_in w_in same. sym (move_back other inside q.names few q.named few_are j there v (whole v v_in)) ∙ ap (move other inside few q.names few_are q.named j) same ∙ move_back other inside q.names few q.named few_are j there w (whole w w_in))
        (λ v v_in. (xs_are.exact (move other inside q.names few q.named few_are j v)).1
        (greatest_before bs ds js wired wired_fewer inside has p.names still j (move other inside q.names few q.named few_are j v)
        (greatest_moves other inside wired_fewer closed_fewer q.names few q.named few_are j v there ((ys_are.exact v).0 v_in))))

    weighs_no_more : x ≤ w
    weighs_no_more =
        let loops : length p.loops ≡ length q.loops = ap length same_loops in
        let lists : length q.values ≡ length p.values = omega (arith, p.one_each, q.one_each, loops) in
        let le = lengths_le q.values p.values lists (λ m lt.
        let m_in : m < length p.loops = omega (arith, lt, q.one_each, loops) in
        let j : ℕ = get_or p.loops m 0 in
        let is = ((p.are_loops.exact j).0 (Contains-get_or p.loops m 0 m_in)).0 in
        let q_are : AreSupported other q.names inside j (get_or q.values m []) =
        subst (λ (ls : List ℕ). AreSupported other q.names inside (get_or ls m 0) (get_or q.values m [])) (sym same_loops) (q.supported m (subst (λ (ls : List ℕ). m < length ls) same_loops m_in)) in
        no_more j is (get_or p.values m []) (get_or q.values m []) (p.supported m m_in) q_are) in
        let below = capped_le (product_of (map length q.values)) (product_of (map length p.values)) le in
        omega (arith, below, p.is, q.is)

  -- What is within a budget stays so.
  within_still : (budget : ℕ) → IsWithin budget net inside → IsWithin budget other inside
  within_still budget within =
      let found = some_weight other wired_fewer order is_order inside in
      record {
        narrow = λ wide. within.narrow (wide_before wide);
        weight = found.0;
        weighs = found.1;
        few = let le = weighs_no_more within.weight found.0 within.weighs found.1 in omega (arith, le, within.few);
      }

pub fewer_weigh : FewerRowsWeighNoMore
fewer_weigh net fewer wired wired_fewer order is_order inside closed has =
    let same = same_net net fewer has.joints in
    let Owed : Net → Type 0 = λ n. ((w x : ℕ) → IsWeight net inside w → IsWeight n inside x → x ≤ w) × (IsWide n inside → IsWide net inside) in
    let wired_here = subst IsWired (sym same) wired_fewer in
    let order_here = subst (λ (n : Net). IsOrder n order) (sym same) is_order in
    let has_here = subst (λ (n : Net). HasFewerRows net n inside) (sym same) has in
    subst Owed same (
      weighs_no_more net.primitives fewer.primitives net.joints wired wired_here order order_here inside closed has_here,
      wide_before net.primitives fewer.primitives net.joints wired wired_here order order_here inside closed has_here,
    )

pub fewer_within : FewerRowsStayWithin
fewer_within net fewer wired wired_fewer order is_order inside closed has budget within =
    let same = same_net net fewer has.joints in
    subst (λ (n : Net). IsWithin budget n inside) same
    (within_still net.primitives fewer.primitives net.joints wired (subst IsWired (sym same) wired_fewer) order (subst (λ (n : Net). IsOrder n order) (sym same) is_order)
    inside closed (subst (λ (n : Net). HasFewerRows net n inside) (sym same) has) budget within)
