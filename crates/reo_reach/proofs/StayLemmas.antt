-- What is reached stays so where the circuit changes elsewhere.
use Rattle.std.proofs.Common.{◌≡◌, ℕ, ◌+◌, ◌<◌, ◌≤◌, List, Bool, Option, None, Some, length, refl, ap, sym, ◌∙◌, subst, arith}
use Rattle.std.specs.Prelude.{Contains}
use Rattle.reo_values.specs.declared.value.Value.{Value}
use Rattle.reo_net_base.specs.declared.joint.End.{End}
use Rattle.reo_net_base.specs.declared.joint.Joint.{Joint}
use Rattle.reo_net_base.specs.Behaviour.{Behaviour}
use Rattle.reo_net_base.specs.Lawful.{SameShape}
use Rattle.reo_net_base.specs.Net.{Net, behaviour_at, end_of}
use Rattle.reo_net_base.specs.Ends.{IsGiver}
use Rattle.reo_net_base.specs.Wired.{IsWired}
use Rattle.reo_net_laws.specs.Ends.{mark_in, from_in}
use Rattle.reo_net_laws.specs.Parts.{IsClosed}
use Rattle.reo_net_laws.specs.Alike.{SameSide, AreAlike}
use Rattle.reo_net_laws.proofs.Sides.{side_at_place}
use Rattle.reo_net_laws.proofs.Isolation.{same_net}
use Rattle.reo_joint_values.specs.Standing.{no_joint, giver_of, taker_of, given_in, passes_in, FlowsAt, Brings, GivesAlone, GivesFor, CanStand}
use Rattle.reo_joint_values.specs.Standing.CanStand.{alone, passed}
use Rattle.reo_joint_values.specs.Many.{AreDistinct, IsJointIn}
use Rattle.reo_reach.specs.Supplied.{Supplied, items_at, Leads, IsClear, IsReached}
use Rattle.reo_reach.specs.Supplied.Leads.{here, on}
use Rattle.reo_reach.specs.Stays.{AgreeAt, ReachedStay}
use Rattle.reo_joint_values.proofs.InOrder.{giver_at, brings_feeds}
use Rattle.reo_joint_values.proofs.Sources.{gives_by, source_is, source_takes}
use Rattle.reo_reach.proofs.WidthLemmas.{leads_inside}

module _ (bs ds : List Behaviour) (js : List Joint) (wired : IsWired (record { primitives = bs; joints = js })) (inside : ℕ → Bool)
    (closed : IsClosed (record { primitives = bs; joints = js }) inside) (alike : AreAlike (record { primitives = bs; joints = js }) (record { primitives = ds; joints = js }) inside) where
  abbrev net : Net
  net = record { primitives = bs; joints = js }

  abbrev other : Net
  other = record { primitives = ds; joints = js }

  abbrev b_at : End → Behaviour
  b_at e = behaviour_at bs e.primitive

  abbrev side_of : End → ℕ
  side_of e = (behaviour_at bs e.primitive).side_of e.end

  -- A joint of the set: what its giver's primitive says there is the same in both.
  module _ (j : ℕ) (is : IsJointIn net inside j) where
    abbrev e : End
    e = giver_of net j

    giver_is : IsGiver (record { primitives = bs; joints = js }) (giver_of (record { primitives = bs; joints = js }) j)
    giver_is = giver_at net wired j is.0

    shape : SameShape (behaviour_at bs (giver_of (record { primitives = bs; joints = js }) j).primitive) (behaviour_at ds (giver_of (record { primitives = bs; joints = js }) j).primitive)
    shape = alike.shape e.primitive giver_is.is_end.0

    same : SameSide (behaviour_at bs (giver_of (record { primitives = bs; joints = js }) j).primitive) (behaviour_at ds (giver_of (record { primitives = bs; joints = js }) j).primitive) ((behaviour_at bs (giver_of (record { primitives = bs; joints = js }) j).primitive).side_of (giver_of (record { primitives = bs; joints = js }) j).end)
    same =
        let side_in = (wired.lawful e.primitive giver_is.is_end.0).sides_in e.end giver_is.is_end.1 in
        alike.sides e.primitive (side_of e) giver_is.is_end.0 side_in (ap inside (sym (side_at_place net e)) ∙ is.1)

    mark_same : (row : ℕ) → row + 1 < (b_at e).rows (side_of e) → mark_in other row e ≡ mark_in net row e
    unfolding mark_in
    mark_same row plain =
        ap (λ (s : ℕ). (behaviour_at ds e.primitive).mark s row e.end) (shape.side_of e.end) ∙ same.mark row e.end (omega (arith, plain)) (giver_is.is_end.1, refl)

    flows_there : (row : ℕ) → FlowsAt net e row → FlowsAt other e row
    flows_there row flows = record {
      plain = subst (λ (s : ℕ). row + 1 < (behaviour_at ds e.primitive).rows s) (sym (shape.side_of e.end)) (subst (λ (n : ℕ). row + 1 < n) (sym same.rows) flows.plain);
      flows = mark_same row flows.plain ∙ flows.flows;
    }

    flows_back : (row : ℕ) → FlowsAt other e row → FlowsAt net e row
    flows_back row flows =
        let plain : row + 1 < (b_at e).rows (side_of e) = subst (λ (n : ℕ). row + 1 < n) same.rows (subst (λ (s : ℕ). row + 1 < (behaviour_at ds e.primitive).rows s) (shape.side_of e.end) flows.plain) in
        record { plain = plain; flows = sym (mark_same row plain) ∙ flows.flows }

    from_same : (row : ℕ) → FlowsAt net e row → from_in other row e ≡ from_in net row e
    unfolding from_in
    from_same row flows =
        ap (λ (s : ℕ). (behaviour_at ds e.primitive).from s row e.end) (shape.side_of e.end) ∙ same.from row e.end (gives_by net wired e giver_is row flows)

    given_same : (row : ℕ) (taken : Option Value) → FlowsAt net e row → given_in other row e taken ≡ given_in net row e taken
    unfolding given_in
    given_same row taken flows =
        ap (λ (s : ℕ). (behaviour_at ds e.primitive).given s row e.end taken) (shape.side_of e.end) ∙ same.given row e.end taken (gives_by net wired e giver_is row flows)

    passes_same : (row from : ℕ) (item : Value) → FlowsAt net e row → from_in net row e ≡ Some from → passes_in other row (end_of e.primitive from) item ≡ passes_in net row (end_of e.primitive from) item
    unfolding passes_in
    passes_same row from item flows decides =
        let source = source_is net wired e giver_is row flows from decides in
        let takes = source_takes net wired e giver_is row flows from decides in
        ap (λ (s : ℕ). (behaviour_at ds e.primitive).passes s row from item) (shape.side_of from ∙ source.1)
        ∙ same.passes row from item (omega (arith, flows.plain)) source takes
        ∙ ap (λ (s : ℕ). (behaviour_at bs e.primitive).passes s row from item) (sym source.1)

    brings_there : (row k : ℕ) → Brings net e row k → Brings other e row k
    brings_there row k brings =
        record { flows = flows_there row brings.flows; in_range = brings.in_range; from = brings.from; decides = from_same row brings.flows ∙ brings.decides; taker = brings.taker }

    brings_back : (row k : ℕ) → Brings other e row k → Brings net e row k
    brings_back row k brings =
        let flows = flows_back row brings.flows in
        record { flows = flows; in_range = brings.in_range; from = brings.from; decides = sym (from_same row flows) ∙ brings.decides; taker = brings.taker }

    alone_there : (row : ℕ) (item : Value) → GivesAlone net e row item → GivesAlone other e row item
    alone_there row item gives = record {
      flows = flows_there row gives.flows;
      alone = from_same row gives.flows ∙ gives.alone;
      given = given_same row None gives.flows ∙ gives.given;
    }

    alone_back : (row : ℕ) (item : Value) → GivesAlone other e row item → GivesAlone net e row item
    alone_back row item gives =
        let flows = flows_back row gives.flows in
        record { flows = flows; alone = sym (from_same row flows) ∙ gives.alone; given = sym (given_same row None flows) ∙ gives.given }

    let_in_same : (row k : ℕ) (taken : Value) → Brings net e row k → passes_in other row (taker_of net k) taken ≡ passes_in net row (taker_of net k) taken
    let_in_same row k taken brings =
        ap (λ (x : End). passes_in other row x taken) brings.taker ∙ passes_same row brings.from taken brings.flows brings.decides ∙ ap (λ (x : End). passes_in net row x taken) (sym brings.taker)

    for_there : (row k : ℕ) (taken item : Value) → GivesFor net e row k taken item → GivesFor other e row k taken item
    for_there row k taken item gives = record {
      brings = brings_there row k gives.brings;
      given = record { let_in = let_in_same row k taken gives.brings ∙ gives.given.let_in; given = given_same row (Some taken) gives.brings.flows ∙ gives.given.given };
    }

    for_back : (row k : ℕ) (taken item : Value) → GivesFor other e row k taken item → GivesFor net e row k taken item
    for_back row k taken item gives =
        let brings = brings_back row k gives.brings in
        record {
          brings = brings;
          given = record { let_in = sym (let_in_same row k taken brings) ∙ gives.given.let_in; given = sym (given_same row (Some taken) brings.flows) ∙ gives.given.given };
        }

    -- What brings there is a joint of the set.
    brings_inside : (row k : ℕ) → Brings net e row k → IsJointIn net inside k
    brings_inside row k brings = (brings.in_range, closed.along k no_joint brings.in_range ∙ ap inside (brings_feeds net wired j row k is.0 brings) ∙ is.1)

  stands_there : (j : ℕ) (item : Value) → IsJointIn net inside j → CanStand net j item → CanStand other j item
  stands_there j item is (alone i row x lt gives) = alone i row x lt (alone_there i is row x gives)
  stands_there j item is (passed i row k taken x lt gives before) =
      passed i row k taken x lt (for_there i is row k taken x gives) (stands_there k taken (brings_inside i is row k gives.brings) before)

  stands_back : (j : ℕ) (item : Value) → IsJointIn net inside j → CanStand other j item → CanStand net j item
  stands_back j item is (alone i row x lt gives) = alone i row x lt (alone_back i is row x gives)
  stands_back j item is (passed i row k taken x lt gives before) =
      let back = for_back i is row k taken x gives in
      passed i row k taken x lt back (stands_back k taken (brings_inside i is row k back.brings) before)

  leads_there : (k j : ℕ) → IsJointIn net inside j → Leads net k j → Leads other k j
  leads_there k j is (here i) = here i
  leads_there k j is (on i m l row path brings) = on i m l row (leads_there i m (brings_inside l is row m brings) path) (brings_there l is row m brings)

  pub reached_there : (old new : Supplied) → AgreeAt net inside old new → (j : ℕ) → IsJointIn net inside j → IsReached net old j → IsReached other new j
  reached_there old new agree j is reached = record {
    sound = λ x h. stands_there j x is (reached.sound x (subst (λ (xs : List Value). Contains xs x) here_items h));
    distinct = subst (λ (xs : List Value). AreDistinct xs) (sym here_items) reached.distinct;
    whole = λ clear x stands. subst (λ (xs : List Value). Contains xs x) (sym here_items) (reached.whole (clear_back clear) x (stands_back j x is stands));
    many = λ wide. subst (λ (xs : List Value). 256 < length xs) (sym here_items) (reached.many (sym (agree.wide j is) ∙ wide));
    few = λ clear. subst (λ (xs : List Value). length xs ≤ 256) (sym here_items) (reached.few (clear_back clear));
  }
    where
      here_items : items_at new j ≡ items_at old j
      here_items = agree.items j is

      clear_back : IsClear other new j → IsClear net old j
      clear_back clear k path = sym (agree.wide k (leads_inside net wired inside closed k j path is)) ∙ clear k (leads_there k j is path)

pub reached_stays : ReachedStay
reached_stays net other wired inside closed alike old new agree j is reached =
    let same = same_net net other alike.joints in
    subst (λ (n : Net). IsReached n new j) same
    (reached_there net.primitives other.primitives net.joints wired inside closed (subst (λ (n : Net). AreAlike net n inside) (sym same) alike) old new agree j is reached)
