-- Adding joints to the lists of rows.
use Rattle.std.proofs.Common.{◌≡◌, ◌≢◌, ◌⊎◌, inl, inr, ℕ, ◌+◌, ◌<◌, Bool, true, false, cond, not, List, [], ◌∷◌, ◌++◌, length, get_or, refl, ap, sym, ◌∙◌, subst, arith, Option, Some, None}
use Rattle.std.specs.Bool.{◌==◌}
use Rattle.std.proofs.lemmas.Bool.{cases_eq}
use Rattle.std.proofs.lemmas.Bool.Decides.{nat_tests}
use Rattle.reo_net_base.specs.declared.mark.Mark.TheVariants.{F}
use Rattle.reo_net_base.specs.Net.{Net, row_count}
use Rattle.reo_net_base.specs.Wired.{IsWired}
use Rattle.reo_net_base.specs.declared.mark.Mark.{Mark}
use Rattle.reo_net_laws.specs.Ends.{mark_in, IsRowOf}
use Rattle.reo_joint_values.specs.Values.{no_joint, joint_of, giver_side}
use Rattle.reo_side_tables.specs.declared.board.Flow.{Flow}
use Rattle.reo_side_tables.specs.Listing.{StandsIn, Lists}
use Rattle.reo_side_tables.specs.Boards.{IsFlow}
use Rattle.reo_side_tables.specs.Marks.{side_in, apart_in, end_at, mark_at_joint, IsApartAt, IsJointOf, TakesFlow, GivesFlow}
use Rattle.reo_side_tables.specs.Grouping.{IsAsSomeGroup}
use Rattle.reo_side_tables.proofs.Sides.{mark_as_group}
use Rattle.reo_side_tables.specs.Flowing.{gives_at, FlowsAt, joints_of_flow, flow_at, AreSound, AreMore, IsFlowAdded, AreAdded, AreBlank}
use Rattle.reo_side_tables.proofs.Growing.{stands_old, stands_new, all_more}

bools : (a b : Bool) → (a ≡ b) ⊎ (a ≡ not b)
bools true true = inl refl
bools true false = inr refl
bools false true = inr refl
bools false false = inl refl

-- One joint at the end of a list of one row.
module _ (old new : List Flow) (row joint : ℕ) (gives : Bool) (added : IsFlowAdded old new row joint gives) where
  which : (k : ℕ) (d : Flow) (g : Bool) → (flow_at new k d g ≡ flow_at old k d g) ⊎ ((k ≡ row) × (g ≡ gives) × (flow_at new k d g ≡ flow_at old k d g ++ joint ∷ []))
  which k d g = elim (cases_eq k row) [
    | inl same ↦ elim (bools g gives) [
      | inl way ↦ inr (same, way, subst (λ (x : ℕ). flow_at new x d g ≡ flow_at old x d g ++ joint ∷ []) (sym same) (subst (λ (x : Bool). flow_at new row d x ≡ flow_at old row d x ++ joint ∷ []) (sym way) (added.here d)))
      | inr way ↦ inl (subst (λ (x : ℕ). flow_at new x d g ≡ flow_at old x d g) (sym same) (subst (λ (x : Bool). flow_at new row d x ≡ flow_at old row d x) (sym way) (added.elsewhere d)))
    ]
    | inr other ↦ inl (ap (joints_of_flow g) (added.other k d other))
  ]

  more_of : AreMore old new
  more_of = record {
    one_each = added.one_each;
    stays = λ k j d g lt stands. elim (which k d g) [
      | inl same ↦ subst (λ (xs : List ℕ). StandsIn xs j) (sym same) stands
      | inr (_, _, longer) ↦ subst (λ (xs : List ℕ). StandsIn xs j) (sym longer) (stands_old (flow_at old k d g) joint j stands)
    ];
  }

  sound_of : (net : Net) (side : ℕ) → FlowsAt net side row gives joint → AreSound net side old → AreSound net side new
  sound_of net side flows sound k m d g lt m_lt = elim (which k d g) [
    | inl same ↦
        let before : m < length (flow_at old k d g) = subst (λ (xs : List ℕ). m < length xs) same m_lt in
        subst (λ (xs : List ℕ). FlowsAt net side k g (get_or xs m 0)) (sym same) (sound k m d g (omega (arith, added.one_each)) before)
    | inr (here, way, longer) ↦
        let within : m < length (flow_at old k d g ++ joint ∷ []) = subst (λ (xs : List ℕ). m < length xs) longer m_lt in
        let this : FlowsAt net side k g joint = subst (λ (x : ℕ). FlowsAt net side x g joint) (sym here) (subst (λ (x : Bool). FlowsAt net side row x joint) (sym way) flows) in
        subst (λ (xs : List ℕ). FlowsAt net side k g (get_or xs m 0)) (sym longer)
        (all_more (FlowsAt net side k g) (flow_at old k d g) joint (λ i i_lt. sound k i d g (omega (arith, added.one_each)) i_lt) this m within)
  ]

  -- It adds the joint to the row.
  pub added_one : (net : Net) (side : ℕ) → IsJointOf net side joint → gives ≡ gives_at net side joint → mark_at_joint net side row joint ≡ F → AreAdded net side joint (λ r. r ≡ row) old new
  added_one net side of way flows = record {
    sound = sound_of net side (record { of_side = of; flows = flows; way = sym way });
    more = more_of;
    stands = λ r d is lt mark. subst (λ (x : ℕ). StandsIn (flow_at new x d (gives_at net side joint)) joint) (sym is)
        (subst (λ (x : Bool). StandsIn (flow_at new row d x) joint) way (subst (λ (xs : List ℕ). StandsIn xs joint) (sym (added.here d)) (stands_new (flow_at old row d gives) joint)));
  }

module _ (net : Net) (side joint : ℕ) where
  -- Nothing is added.
  pub added_none : (P : ℕ → Type 0) (flows : List Flow) → ((row : ℕ) → P row → ⊥) → AreAdded net side joint P flows flows
  added_none P flows none = record { sound = λ s. s; more = record { one_each = refl; stays = λ row j d g lt s. s }; stands = λ row d p lt mark. absurd (none row p) }

  -- What is added in two steps.
  pub added_both : (One Two Both : ℕ → Type 0) (a b c : List Flow) → AreAdded net side joint One a b → AreAdded net side joint Two b c
      → ((row : ℕ) → row < length a → mark_at_joint net side row joint ≡ F → Both row → One row ⊎ Two row) → AreAdded net side joint Both a c
  added_both One Two Both a b c one two each = record {
    sound = λ s. two.sound (one.sound s);
    more = record {
      one_each = two.more.one_each ∙ one.more.one_each;
      stays = λ row j d g lt s. two.more.stays row j d g (omega (arith, one.more.one_each)) (one.more.stays row j d g lt s);
    };
    stands = λ row d r lt mark. elim (each row lt mark r) [
      | inl p ↦ two.more.stays row joint d (gives_at net side joint) (omega (arith, one.more.one_each)) (one.stands row d p lt mark)
      | inr q ↦ two.stands row d q (omega (arith, one.more.one_each)) mark
    ];
  }

-- One of the first n numbers of a list.
abbrev pub IsBelow : List ℕ → ℕ → ℕ → Type 0
IsBelow list n k = (m : ℕ) × (m < n) × (get_or list m 0 ≡ k)

-- All joints of a side, one by one.
pub record AreFlowsBelow (net : Net) (side n : ℕ) (joints : List ℕ) (flows : List Flow) : Type 0 where
  pub one_each : length flows ≡ row_count (side_in net side)
  pub sound : AreSound net side flows
  pub stands : (m row : ℕ) (d : Flow) → m < n → row < length flows → mark_at_joint net side row (get_or joints m 0) ≡ F
      → StandsIn (flow_at flows row d (gives_at net side (get_or joints m 0))) (get_or joints m 0)

pub flows_none : (net : Net) (side : ℕ) (joints : List ℕ) (flows : List Flow) → AreBlank (row_count (side_in net side)) flows → AreFlowsBelow net side 0 joints flows
flows_none net side joints flows blank = record {
  one_each = blank.one_each;
  sound = λ row m d g lt m_lt. let none : m < 0 = subst (λ (xs : List ℕ). m < length xs) (blank.blank row d g lt) m_lt in absurd (omega (arith, none));
  stands = λ m row d lt row_lt mark. absurd (omega arith);
}

pub flows_more : (net : Net) (side n : ℕ) (joints : List ℕ) (old new : List Flow) → ((row : ℕ) → row < row_count (side_in net side) → IsRowOf net side row) → AreFlowsBelow net side n joints old → AreAdded net side (get_or joints n 0) (IsRowOf net side) old new → AreFlowsBelow net side (n + 1) joints new
flows_more net side n joints old new in_table are added = record {
  one_each = added.more.one_each ∙ are.one_each;
  sound = added.sound are.sound;
  stands = λ m row d lt row_lt mark.
      let row_old : row < length old = omega (arith, added.more.one_each) in
      elim (cases_eq m n) [
        | inl same ↦ subst (λ (x : ℕ). mark_at_joint net side row (get_or joints x 0) ≡ F → StandsIn (flow_at new row d (gives_at net side (get_or joints x 0))) (get_or joints x 0)) (sym same)
            (λ here. added.stands row d (in_table row (omega (arith, are.one_each))) row_old here) mark
        | inr other ↦ added.more.stays row (get_or joints m 0) d (gives_at net side (get_or joints m 0)) row_old (are.stands m row d (omega arith) row_old mark)
      ];
}

-- A joint where a row takes in, and one where it gives.
module _ (net : Net) (wired : IsWired net) (side row : ℕ) where
  abbrev mark_by : ℕ → Bool → Mark
  mark_by j gives = mark_in net row (cond gives (joint_of net j).giver (joint_of net j).taker)

  takes_at : (j : ℕ) → TakesFlow net side row j → FlowsAt net side row false j
  takes_at j t =
      let apart : giver_side net j ≢ side = λ same. wired.apart j no_joint t.in_range (same ∙ sym t.here) in
      let way : gives_at net side j ≡ false = grind (arith, nat_tests) in
      record { of_side = record { in_range = t.in_range; here = inr t.here }; flows = subst (λ (x : Bool). mark_by j x ≡ F) (sym way) t.flows; way = way }

  gives_here : (j : ℕ) → GivesFlow net side row j → FlowsAt net side row true j
  gives_here j t =
      let way : gives_at net side j ≡ true = grind (arith, nat_tests, t.here) in
      record { of_side = record { in_range = t.in_range; here = inl t.here }; flows = subst (λ (x : Bool). mark_by j x ≡ F) (sym way) t.flows; way = way }

  at_taker : (j : ℕ) → FlowsAt net side row false j → TakesFlow net side row j
  at_taker j f =
      let apart : giver_side net j ≢ side = λ same. (let yes : gives_at net side j ≡ true = grind (arith, nat_tests, same) in let wrong : true ≡ false = sym yes ∙ f.way in cc) in
      record { in_range = f.of_side.in_range; here = elim f.of_side.here [ inl here ↦ absurd (apart here) | inr here ↦ here ]; flows = subst (λ (x : Bool). mark_by j x ≡ F) f.way f.flows }

  at_giver : (j : ℕ) → FlowsAt net side row true j → GivesFlow net side row j
  at_giver j f =
      let here : giver_side net j ≡ side = grind (arith, nat_tests, f.way) in
      record { in_range = f.of_side.in_range; here = here; flows = subst (λ (x : Bool). mark_by j x ≡ F) f.way f.flows }

  -- With all joints of the side, the lists of a row are those of its flows.
  pub flow_is : (joints : List ℕ) (flows : List Flow) → Lists (IsJointOf net side) joints → AreFlowsBelow net side (length joints) joints flows → (d : Flow) → row < length flows → IsFlow net side row (get_or flows row d)
  flow_is joints flows all are d lt =
      let stands : (j : ℕ) (gives : Bool) → FlowsAt net side row gives j → StandsIn (flow_at flows row d gives) j =
      λ j gives f. (let found = all.whole j f.of_side in
      subst (λ (g : Bool). StandsIn (flow_at flows row d g) j) f.way
      (subst (λ (x : ℕ). mark_at_joint net side row x ≡ F → StandsIn (flow_at flows row d (gives_at net side x)) x) found.2 (λ mark. are.stands found.0 row d found.1 lt mark) f.flows)) in
      record {
        taking = record { sound = λ m m_lt. at_taker (get_or (flow_at flows row d false) m 0) (are.sound row m d false lt m_lt); whole = λ j t. stands j false (takes_at j t) };
        giving = record { sound = λ m m_lt. at_giver (get_or (flow_at flows row d true) m 0) (are.sound row m d true lt m_lt); whole = λ j t. stands j true (gives_here j t) };
      }

-- A number among the first n and one more is among the first n, or is that one.
pub below_cases : (list : List ℕ) (n k : ℕ) → IsBelow list (n + 1) k → IsBelow list n k ⊎ (k ≡ get_or list n 0)
below_cases list n k (m, lt, is) = elim (cases_eq m n) [
  | inl same ↦ inr (sym is ∙ ap (λ (x : ℕ). get_or list x 0) same)
  | inr other ↦ inl (m, omega arith, is)
]

abbrev same_end : Option ℕ → ℕ → Bool
same_end None e = false
same_end (Some x) e = x == e

is_end : (o : Option ℕ) (e : ℕ) → same_end o e ≡ true → o ≡ Some e
is_end None e h = cc
is_end (Some x) e h = let is : x ≡ e = grind (arith, nat_tests) in ap Some is

no_end : (o : Option ℕ) (e : ℕ) → same_end o e ≡ false → o ≢ Some e
no_end o e h is = let wrong : false ≡ (e == e) = sym h ∙ ap (λ (x : Option ℕ). same_end x e) is in let yes : (e == e) ≡ true = grind (arith, nat_tests) in let bad : false ≡ true = wrong ∙ yes in cc

-- A row that flows at a joint of its side is apart there, or as its group, which flows.
pub apart_or_not : (net : Net) → IsWired net → (side j row : ℕ) → IsJointOf net side j → IsRowOf net side row → mark_at_joint net side row j ≡ F → IsAsSomeGroup net side j row ⊎ IsApartAt net side (end_at net side j).end row
apart_or_not net wired side j row of in_table flows =
    elim (same_end (apart_in net side row) (end_at net side j).end) as (λ t. same_end (apart_in net side row) (end_at net side j).end ≡ t → IsAsSomeGroup net side j row ⊎ IsApartAt net side (end_at net side j).end row) [
      | true ↦ λ yes_is. inr (record { in_table = in_table; apart = is_end (apart_in net side row) (end_at net side j).end yes_is })
      | false ↦ λ no_is.
          let with = no_end (apart_in net side row) (end_at net side j).end no_is in
          inl (record { in_table = in_table; with = with; flows = sym (mark_as_group net wired side j row of in_table with) ∙ flows })
    ] refl
