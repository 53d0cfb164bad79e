-- What a row gives at an end.
use Rattle.std.proofs.Common.{◌≡◌, ◌≢◌, inl, inr, ℕ, ◌+◌, ◌<◌, List, [], true, false, None, Some, length, get_or, ap, sym, ◌∙◌, subst, arith}
use Rattle.std.specs.Prelude.{Contains, IsSome}
use Rattle.std.proofs.lemmas.List.{get_or_default}
use Rattle.std.proofs.lemmas.List.Elements.{Contains-get_or}
use Rattle.reo_values.specs.declared.value.Value.{Value}
use Rattle.reo_net_base.specs.declared.mark.Mark.TheVariants.{F}
use Rattle.reo_net_base.specs.declared.joint.End.{End}
use Rattle.reo_net_base.specs.Behaviour.{Behaviour}
use Rattle.reo_net_base.specs.Net.{Net, behaviour_at, end_of}
use Rattle.reo_net_base.specs.Ends.{IsGiver}
use Rattle.reo_net_base.specs.Wired.{IsWired}
use Rattle.reo_net_laws.specs.Ends.{mark_in, from_in}
use Rattle.reo_net_circuit.specs.found_ends.Ends.{joint_at, AreEnds}
use Rattle.reo_net_circuit.proofs.found_ends.EndLemmas.{taker_at, of_taker}
use Rattle.reo_joint_values.specs.Standing.{no_joint, giver_of, taker_of, given_in, passes_in, FlowsAt, IsGivenFor, GivesAlone}
use Rattle.reo_joint_values.proofs.Sources.{gives_by, source_is, source_taker}
use Rattle.reo_reach.specs.Supplied.{Supplied, items_at}
use Rattle.reo_reach.specs.Added.{AreAdded, IsProduced, IsMade}
use Rattle.reo_reach.specs.Added.IsProduced.{by_state, by_item}
use Rattle.reo_reach.proofs.AddedLemmas.{Below, added_nothing, added_same}

-- What is produced at an end flows there.
pub produced_flows : (net : Net) (supplied : Supplied) (giver : End) (row : ℕ) (x : Value) → IsProduced net supplied giver row x → FlowsAt net giver row
produced_flows net supplied giver row x (by_state gives) = gives.flows
produced_flows net supplied giver row x (by_item k taken gives has) = gives.brings.flows

module _ (net : Net) (wired : IsWired net) (giver : End) (is : IsGiver net giver) (row : ℕ) (flows : FlowsAt net giver row) where
  at : Behaviour
  at = behaviour_at net.primitives giver.primitive

  -- Where the state alone decides, something is given.
  pub some_alone : from_in net row giver ≡ None → IsSome ((behaviour_at net.primitives giver.primitive).given ((behaviour_at net.primitives giver.primitive).side_of giver.end) row giver.end None)
  unfolding from_in
  some_alone alone = (wired.lawful giver.primitive is.is_end.0).given_alone ((behaviour_at net.primitives giver.primitive).side_of giver.end) row giver.end (gives_by net wired giver is row flows) alone

  pub added_alone : from_in net row giver ≡ None → (item : Value) → (behaviour_at net.primitives giver.primitive).given ((behaviour_at net.primitives giver.primitive).side_of giver.end) row giver.end None ≡ Some item
      → (old new : List Value) → AreAdded old new (λ x. x ≡ item) → AreAdded old new (GivesAlone net giver row)
  unfolding given_in
  added_alone alone item given old new are =
      added_same old new (λ x. x ≡ item) (GivesAlone net giver row)
      (λ x e. record { flows = flows; alone = alone; given = given ∙ ap (λ (y : Value). Some y) (sym e) })
      (λ x gives. let same : Some x ≡ Some item = sym gives.given ∙ given in cc)
      are

  -- Where nothing decides but the state, a row produces what it gives alone.
  pub produced_alone : from_in net row giver ≡ None → (supplied : Supplied) (old new : List Value) → AreAdded old new (GivesAlone net giver row) → AreAdded old new (IsProduced net supplied giver row)
  produced_alone alone supplied old new are =
      added_same old new (GivesAlone net giver row) (IsProduced net supplied giver row) (λ x gives. by_state gives) back are
    where
      back : (x : Value) → IsProduced net supplied giver row x → GivesAlone net giver row x
      back x (by_state gives) = gives
      back x (by_item k taken gives has) = let wrong : None ≡ Some gives.brings.from = sym alone ∙ gives.brings.decides in cc

  module _ (from : ℕ) (decides : from_in net row giver ≡ Some from) where
    -- Where an item decides, something is given for each.
    pub some_for : (item : Value) → IsSome ((behaviour_at net.primitives giver.primitive).given ((behaviour_at net.primitives giver.primitive).side_of giver.end) row giver.end (Some item))
    unfolding from_in
    some_for item = (wired.lawful giver.primitive is.is_end.0).given_for ((behaviour_at net.primitives giver.primitive).side_of giver.end) row giver.end from item (gives_by net wired giver is row flows) decides

    passes_at : (taken : Value) → passes_in net row (end_of giver.primitive from) taken ≡ (behaviour_at net.primitives giver.primitive).passes ((behaviour_at net.primitives giver.primitive).side_of giver.end) row from taken
    unfolding passes_in
    passes_at taken = ap (λ (s : ℕ). (behaviour_at net.primitives giver.primitive).passes s row from taken) (source_is net wired giver is row flows from decides).1

    -- Nothing is given for an item that is not let in.
    pub added_not : (taken : Value) → (behaviour_at net.primitives giver.primitive).passes ((behaviour_at net.primitives giver.primitive).side_of giver.end) row from taken ≡ false
        → (items : List Value) → AreAdded items items (IsGivenFor net giver row (end_of giver.primitive from) taken)
    added_not taken fails items =
        added_nothing items (IsGivenFor net giver row (end_of giver.primitive from) taken) (λ x given.
        let wrong : true ≡ false = sym given.let_in ∙ passes_at taken ∙ fails in
        cc)

    pub added_for : (taken : Value) → (behaviour_at net.primitives giver.primitive).passes ((behaviour_at net.primitives giver.primitive).side_of giver.end) row from taken ≡ true
        → (item : Value) → (behaviour_at net.primitives giver.primitive).given ((behaviour_at net.primitives giver.primitive).side_of giver.end) row giver.end (Some taken) ≡ Some item
        → (old new : List Value) → AreAdded old new (λ x. x ≡ item) → AreAdded old new (IsGivenFor net giver row (end_of giver.primitive from) taken)
    unfolding given_in
    added_for taken passes item given old new are =
        added_same old new (λ x. x ≡ item) (IsGivenFor net giver row (end_of giver.primitive from) taken)
        (λ x e. record { let_in = passes_at taken ∙ passes; given = given ∙ ap (λ (y : Value). Some y) (sym e) })
        (λ x given_for. let same : Some x ≡ Some item = sym given_for.given ∙ given in cc)
        are

    -- What a row produces for the items at the joint of the end that decides.
    pub produced_for : (table : List (List ℕ)) → AreEnds net table → (supplied : Supplied) (taken : List Value) → taken ≡ items_at supplied (joint_at table (end_of giver.primitive from))
        → (old new : List Value) → AreAdded old new (λ x. (u : Value) × Contains taken u × IsGivenFor net giver row (end_of giver.primitive from) u x)
        → AreAdded old new (IsProduced net supplied giver row)
    produced_for table ends supplied taken same old new are =
        added_same old new (λ x. (u : Value) × Contains taken u × IsGivenFor net giver row (end_of giver.primitive from) u x) (IsProduced net supplied giver row) there back are
      where
        source : End
        source = end_of giver.primitive from

        k : ℕ
        k = joint_at table source

        takes_k : taker_of net k ≡ source
        takes_k = taker_at net wired table ends source no_joint (source_taker net wired giver is row flows from decides)

        there : (x : Value) → (u : Value) × Contains taken u × IsGivenFor net giver row source u x → IsProduced net supplied giver row x
        there x h =
            by_item k h.0
            (record {
              brings = record { flows = flows; in_range = ends.in_range source (source_taker net wired giver is row flows from decides).is_end; from = from; decides = decides; taker = takes_k };
              given = subst (λ (e : End). IsGivenFor net giver row e h.0 x) (sym takes_k) h.2;
            })
            (subst (λ (xs : List Value). Contains xs h.0) same h.1)

        back : (x : Value) → IsProduced net supplied giver row x → (u : Value) × Contains taken u × IsGivenFor net giver row source u x
        back x (by_state gives) = let wrong : None ≡ Some from = sym gives.alone ∙ decides in absurd cc
        back x (by_item i u gives has) =
            let one : gives.brings.from ≡ from = let both : Some gives.brings.from ≡ Some from = sym gives.brings.decides ∙ decides in cc in
            let takes_i : taker_of net i ≡ source = gives.brings.taker ∙ ap (end_of giver.primitive) one in
            let i_is : i ≡ k = sym (of_taker net wired table ends i no_joint gives.brings.in_range) ∙ ap (joint_at table) takes_i in (
              u,
              subst (λ (xs : List Value). Contains xs u) (ap (items_at supplied) i_is ∙ sym same) has,
              subst (λ (e : End). IsGivenFor net giver row e u x) takes_i gives.given,
            )

-- What a row that does not flow at an end produces there.
pub produced_none : (net : Net) (supplied : Supplied) (giver : End) (row : ℕ) → mark_in net row giver ≢ F → (items : List Value) → AreAdded items items (IsProduced net supplied giver row)
produced_none net supplied giver row not_it items =
    added_nothing items (IsProduced net supplied giver row) (λ x made. not_it (produced_flows net supplied giver row x made).flows)

-- The items given for all items of a list.
pub passed_all : (net : Net) (giver : End) (row : ℕ) (source : End) (taken old new : List Value)
    → AreAdded old new (Below (λ m x. (d : Value) → IsGivenFor net giver row source (get_or taken m d) x) (length taken))
    → AreAdded old new (λ x. (u : Value) × Contains taken u × IsGivenFor net giver row source u x)
passed_all net giver row source taken old new are =
    added_same old new (Below (λ m x. (d : Value) → IsGivenFor net giver row source (get_or taken m d) x) (length taken)) (λ x. (u : Value) × Contains taken u × IsGivenFor net giver row source u x)
    (λ x h. (get_or taken h.0 x, Contains-get_or taken h.0 x h.1, h.2 x))
    (λ x h.
    let at : ℕ = h.1.0 in (
      at,
      h.1.1,
      λ d. subst (λ (u : Value). IsGivenFor net giver row source u x) (sym (get_or_default taken at d h.0 h.1.1 ∙ h.1.2)) h.2,
    ))
    are

-- The items given for one item of a list.
pub passed_one : (net : Net) (giver : End) (row : ℕ) (source : End) (taken : List Value) (m : ℕ) (u : Value) → m < length taken → u ≡ get_or taken m u → (old new : List Value)
    → AreAdded old new (IsGivenFor net giver row source u) → AreAdded old new (λ x. (d : Value) → IsGivenFor net giver row source (get_or taken m d) x)
passed_one net giver row source taken m u lt is old new are =
    added_same old new (IsGivenFor net giver row source u) (λ x. (d : Value) → IsGivenFor net giver row source (get_or taken m d) x)
    (λ x h d. subst (λ (v : Value). IsGivenFor net giver row source v x) (is ∙ get_or_default taken m u d lt) h)
    (λ x h. subst (λ (v : Value). IsGivenFor net giver row source v x) (sym is) (h u))
    are

-- The list of a joint, when all rows were looked at.
pub all_made : (net : Net) (supplied : Supplied) (j : ℕ) (giver : End) (n : ℕ) (items : List Value) → giver_of net j ≡ giver
    → n + 1 ≡ (behaviour_at net.primitives giver.primitive).rows ((behaviour_at net.primitives giver.primitive).side_of giver.end)
    → AreAdded [] items (Below (IsProduced net supplied giver) n) → IsMade net supplied j items
all_made net supplied j giver n items same count are = record {
  sound = λ x h. elim (are.from x h) [
    | inl none ↦ absurd (omega (arith, none.1))
    | inr below ↦ (below.0, subst (λ (e : End). IsProduced net supplied e below.0 x) (sym same) below.2)
  ];
  distinct = are.distinct (λ m k d lt k_in. absurd (omega arith));
  whole = λ few row x made.
      let here = subst (λ (e : End). IsProduced net supplied e row x) same made in
      are.all few x (row, omega (arith, count, (produced_flows net supplied giver row x here).plain), here);
  short = are.short (omega arith);
}
