-- Which values go with a row: those that it takes in, what it gives for them, and what it gives by its state alone.
use Rattle.std.proofs.Common.{◌≡◌, ◌⊎◌, inl, inr, ℕ, ◌+◌, ◌-◌, ◌<◌, ◌≤◌, Bool, true, false, ◌&&◌, cond, List, [], length, get_or, Option, None, Some, refl, ap, sym, ◌∙◌, subst, arith}
use Rattle.std.specs.Bool.{◌==◌}
use Rattle.std.specs.Option.{is_some}
use Rattle.std.proofs.lemmas.Bool.{cases_Bool, cond-true, cond-false, and_from, and_parts, eqb-true, eq-eqb}
use Rattle.reo_values.specs.declared.value.Value.{Value}
use Rattle.reo_net_base.specs.declared.mark.Mark.TheVariants.{F}
use Rattle.reo_net_base.specs.Net.{Net}
use Rattle.reo_net_base.specs.Wired.{IsWired}
use Rattle.reo_net_laws.specs.Ends.{mark_in, from_in, IsRowOf}
use Rattle.reo_joint_values.specs.declared.value.JointValue.{JointValue}
use Rattle.reo_joint_values.specs.Values.{giver_mark, taker_mark, Names, Family, item_named, no_joint, joint_of, giver_side, taker_side}
use Rattle.reo_joint_values.specs.Works.{Follows, IsGivenAs, TakerWorks}
use Rattle.reo_joint_values.proofs.Fitting.{decided, follows_dependent}
use Rattle.reo_joint_values.proofs.Fitting.Decided.{by_none, by_joint}
use Rattle.reo_joint_values.proofs.Marks.{flow_number}
use Rattle.reo_side_tables.specs.declared.board.Flow.{Flow as Flows}
use Rattle.reo_side_tables.specs.Boards.{IsFlow}
use Rattle.reo_side_tables.specs.Marks.{IsJointOf, TakesFlow, GivesFlow}
use Rattle.reo_rows.specs.RowFlags.{flag, AreAlikeTables}
use Rattle.reo_rows.specs.Seeing.{AreSeen, Below, FollowUse, TakenUse, TakesUse, AloneUse, RowUse, LiveRowUse}
use Rattle.reo_rows.specs.declared.groups.Group.{Group}
use Rattle.reo_rows.specs.declared.rows.Rows.{Rows}
use Rattle.reo_rows.specs.Rows.{AreTables, IsSeen}
use Rattle.reo_rows.specs.Sets.{value_of, code_of, family_of}
use Rattle.reo_rows.proofs.Codes.{flow_code, value_code, flag_value, flag_in}
use Rattle.reo_rows.proofs.Union.{seen_both, seen_same}

-- A value is put in the table.
pub put_seen : (old new : List (List Bool)) (i p : ℕ) → AreAlikeTables old new → ((k q : ℕ) → flag new k q ≡ cond ((k == i) && (q == p)) true (flag old k q)) → AreSeen (λ j code. (j ≡ i) × (code ≡ p)) old new
put_seen old new i p alike is = record {
  alike = alike;
  stays = λ j code h. elim (cases_Bool ((j == i) && (code == p))) [
    | inl here ↦ is j code ∙ cond-true ((j == i) && (code == p)) true (flag old j code) here
    | inr off ↦ is j code ∙ cond-false ((j == i) && (code == p)) true (flag old j code) off ∙ h
  ];
  sound = λ j code h. elim (cases_Bool ((j == i) && (code == p))) [
    | inl here ↦ let both = and_parts (j == i) (code == p) here in inr (eqb-true j i both.0, eqb-true code p both.1)
    | inr off ↦ inl (sym (is j code ∙ cond-false ((j == i) && (code == p)) true (flag old j code) off) ∙ h)
  ];
  whole = λ j code u. is j code ∙ cond-true ((j == i) && (code == p)) true (flag old j code) (and_from (j == i) (code == p) (eq-eqb j i u.0) (eq-eqb code p u.1));
}

-- It is taken in, and then what is given for it is seen.
pub taken_seen : (net : Net) (names : Names) (family : Family) (side row source place : ℕ) (item : Value) (a b c : List (List Bool)) → 4 ≤ place → TakerWorks net names family side row source (value_of place)
    → names source (place - 4) ≡ Some item → AreSeen (λ j code. (j ≡ source) × (code ≡ place)) a b → AreSeen (FollowUse net names family side row source (Some item)) b c
    → AreSeen (TakenUse net names family side row source place) a c
taken_seen net names family side row source place item a b c flows works named itself after =
    let is : Some item ≡ item_named names source (value_of place) = sym named ∙ ap (item_named names source) (sym (flow_code place flows)) in
    seen_same (λ j code. ((j ≡ source) × (code ≡ place)) ⊎ FollowUse net names family side row source (Some item) j code) (TakenUse net names family side row source place) a c
    (λ j code u. elim u [
      | inl here ↦ record { flows = flows; works = works; goes = inl here }
      | inr follow ↦ record { flows = flows; works = works; goes = inr (subst (λ (o : Option Value). FollowUse net names family side row source o j code) is follow) }
    ])
    (λ j code u. elim u.goes [
      | inl here ↦ inl here
      | inr follow ↦ inr (subst (λ (o : Option Value). FollowUse net names family side row source o j code) (sym is) follow)
    ])
    (seen_both (λ j code. (j ≡ source) × (code ≡ place)) (FollowUse net names family side row source (Some item)) a b c itself after)

module _ (net : Net) (wired : IsWired net) (names : Names) (family : Family) (side row : ℕ) (in_table : IsRowOf net side row) where
  apart : (j : ℕ) → j < length net.joints → giver_side net j ≡ side → taker_side net j ≡ side → ⊥
  apart j lt gives takes = wired.apart j no_joint lt (gives ∙ sym takes)

  -- What decides an item is taken in at one joint.
  one_source : (k i j : ℕ) → k < length net.joints → giver_side net k ≡ side → i < length net.joints → j < length net.joints → Follows net row k i → Follows net row k j → i ≡ j
  one_source k i j lt at i_in j_in follows_i follows_j = elim (decided net wired side row k lt at in_table) [
    | by_none never ↦ absurd (never (follows_dependent net row k i follows_i))
    | by_joint s s_in s_at follows flows only ↦ only i i_in follows_i ∙ sym (only j j_in follows_j)
  ]

  taken_goes : (source place : ℕ) → TakesFlow net side row source → 4 ≤ place → TakerWorks net names family side row source (value_of place) → RowUse net names family side row source place
  taken_goes source place takes flows works = record {
    of_side = record { in_range = takes.in_range; here = inr takes.here };
    flows = flows;
    has = works.has;
    works = record { taker = λ at. works; giver = λ at. absurd (apart source takes.in_range at takes.here) };
  }

  followed_goes : (source place j code : ℕ) → TakesFlow net side row source → TakerWorks net names family side row source (value_of place) → FollowUse net names family side row source (item_named names source (value_of place)) j code
      → RowUse net names family side row j code
  followed_goes source place j code takes works f = record {
    of_side = record { in_range = f.in_range; here = inl f.here };
    flows = f.followed.given.flows;
    has = f.followed.given.has;
    works = record {
      taker = λ at. absurd (apart j f.in_range f.here at);
      giver = λ at. record {
        mark = f.followed.given.given.mark;
        alone = λ never. absurd (never (follows_dependent net row j source f.followed.follows));
        after = λ i i_in i_at follows.
            let same : source ≡ i = one_source j source i f.in_range f.here takes.in_range i_in f.followed.follows follows in (
              value_of place,
              subst (λ (k : ℕ). TakerWorks net names family side row k (value_of place)) same works,
              subst (λ (k : ℕ). IsGivenAs net names row j (item_named names k (value_of place)) (value_of code)) same f.followed.given.given,
            );
      };
    };
  }

  takes_goes : (source place j code : ℕ) → TakesFlow net side row source → TakenUse net names family side row source place j code → RowUse net names family side row j code
  takes_goes source place j code takes u = elim u.goes [
    | inl here ↦
        subst (λ (k : ℕ). RowUse net names family side row k code) (sym here.0)
        (subst (λ (c : ℕ). RowUse net names family side row source c) (sym here.1) (taken_goes source place takes u.flows u.works))
    | inr f ↦ followed_goes source place j code takes u.works f
  ]

  alone_here : (k code : ℕ) → GivesFlow net side row k → from_in net row (joint_of net k).giver ≡ None → 4 ≤ code → family k (value_of code) ≡ true → IsGivenAs net names row k None (value_of code) → RowUse net names family side row k code
  alone_here k code gives none flows has given = record {
    of_side = record { in_range = gives.in_range; here = inl gives.here };
    flows = flows;
    has = has;
    works = record {
      taker = λ at. absurd (apart k gives.in_range gives.here at);
      giver = λ at. record {
        mark = given.mark;
        alone = λ never. given;
        after = λ i i_in i_at follows. let wrong : Some (joint_of net i).taker.end ≡ None = sym follows.from ∙ none in absurd cc;
      };
    };
  }

  alone_goes : (k j code : ℕ) → GivesFlow net side row k → AloneUse net names family row k j code → RowUse net names family side row j code
  alone_goes k j code gives u =
      subst (λ (m : ℕ). RowUse net names family side row m code) (sym u.given.here) (alone_here k code gives u.alone u.given.flows u.given.has u.given.given)

  -- A value that a row takes in, or gives for what it takes in.
  record IsTaken (j code : ℕ) : Type 0 where
    source : ℕ
    takes : TakesFlow net side row source
    goes : TakesUse net names family side row source j code

  -- A value that a row gives by its state alone.
  record IsAlone (j code : ℕ) : Type 0 where
    place : ℕ
    gives : GivesFlow net side row place
    goes : AloneUse net names family row place j code

  goes_taken : (j code : ℕ) → taker_side net j ≡ side → RowUse net names family side row j code → IsTaken j code
  goes_taken j code at u =
      let works = u.works.taker at in
      record {
        source = j;
        takes = record { in_range = u.of_side.in_range; here = at; flows = sym works.takes.mark ∙ ap taker_mark (flow_code code u.flows) };
        goes = (code, record { flows = u.flows; works = works; goes = inl (refl, refl) });
      }

  goes_given : (j code : ℕ) → giver_side net j ≡ side → RowUse net names family side row j code → IsTaken j code ⊎ IsAlone j code
  goes_given j code at u =
      let lt : j < length net.joints = u.of_side.in_range in
      let uses = u.works.giver at in
      let flow : mark_in net row (joint_of net j).giver ≡ F = sym uses.mark ∙ ap giver_mark (flow_code code u.flows) in
      elim (decided net wired side row j lt at in_table) [
        | by_none never ↦ elim (from_in net row (joint_of net j).giver) as (λ o. from_in net row (joint_of net j).giver ≡ o → IsTaken j code ⊎ IsAlone j code) [
          | None ↦ λ none. inr (record {
            place = j;
            gives = record { in_range = lt; here = at; flows = flow };
            goes = record { alone = none; given = record { here = refl; is = refl; flows = u.flows; has = u.has; given = uses.alone never } };
          })
          | Some from ↦ λ some. absurd (never (record { flows = flow; from = ap is_some some }))
        ] refl
        | by_joint i i_in i_at follows flows only ↦
            let t = uses.after i i_in i_at follows in
            let n = flow_number t.0 (inr (t.1.takes.mark ∙ flows)) in
            let same : t.0 ≡ value_of (n.0 + 4) = sym (ap value_of (ap code_of (sym n.1)) ∙ value_code t.0) in
            inl (record {
              source = i;
              takes = record { in_range = i_in; here = i_at; flows = flows };
              goes = (
                n.0 + 4,
                record {
                  flows = omega arith;
                  works = subst (λ (v : JointValue). TakerWorks net names family side row i v) same t.1;
                  goes = inr (record {
                    in_range = lt;
                    here = at;
                    followed = record {
                      follows = follows;
                      given = record {
                        here = refl;
                        is = refl;
                        flows = u.flows;
                        has = u.has;
                        given = subst (λ (v : JointValue). IsGivenAs net names row j (item_named names i v) (value_of code)) same t.2;
                      };
                    };
                  });
                },
              );
            })
      ]

  -- What goes with a row is what it takes in and gives where it flows.
  module _ (flow : Flows) (are : IsFlow net side row flow) where
    abbrev pub Takes : ℕ → ℕ → ℕ → Type 0
    Takes m = TakesUse net names family side row (get_or flow.taking m 0)

    abbrev pub Gives : ℕ → ℕ → ℕ → Type 0
    Gives m = AloneUse net names family row (get_or flow.giving m 0)

    row_goes : (j code : ℕ) → Below Takes (length flow.taking) j code ⊎ Below Gives (length flow.giving) j code → RowUse net names family side row j code
    row_goes j code (inl u) = takes_goes (get_or flow.taking u.0 0) u.2.0 j code (are.taking.sound u.0 u.1) u.2.1
    row_goes j code (inr u) = alone_goes (get_or flow.giving u.0 0) j code (are.giving.sound u.0 u.1) u.2

    taken_below : (j code : ℕ) → IsTaken j code → Below Takes (length flow.taking) j code
    taken_below j code t =
        let stands = are.taking.whole t.source t.takes in
        (stands.0, stands.1, subst (λ (s : ℕ). TakesUse net names family side row s j code) (sym stands.2) t.goes)

    alone_below : (j code : ℕ) → IsAlone j code → Below Gives (length flow.giving) j code
    alone_below j code t =
        let stands = are.giving.whole t.place t.gives in
        (stands.0, stands.1, subst (λ (s : ℕ). AloneUse net names family row s j code) (sym stands.2) t.goes)

    goes_row : (j code : ℕ) → RowUse net names family side row j code → Below Takes (length flow.taking) j code ⊎ Below Gives (length flow.giving) j code
    goes_row j code u = elim u.of_side.here [
      | inl at ↦ elim (goes_given j code at u) [ inl t ↦ inl (taken_below j code t) | inr t ↦ inr (alone_below j code t) ]
      | inr at ↦ inl (taken_below j code (goes_taken j code at u))
    ]

    pub seen_row : (a b c : List (List Bool)) → AreSeen (Below Takes (length flow.taking)) a b → AreSeen (Below Gives (length flow.giving)) b c → AreSeen (RowUse net names family side row) a c
    seen_row a b c taken given =
        seen_same (λ j code. Below Takes (length flow.taking) j code ⊎ Below Gives (length flow.giving) j code) (RowUse net names family side row) a c row_goes goes_row
        (seen_both (Below Takes (length flow.taking)) (Below Gives (length flow.giving)) a b c taken given)

-- What is taken in at a joint is a value of one of its places.
pub seen_takes : (net : Net) (names : Names) (alive : List (List Bool)) (side row source n : ℕ) (a b : List (List Bool)) → length (get_or alive source []) ≤ n
    → AreSeen (Below (TakenUse net names (family_of alive) side row source) n) a b → AreSeen (TakesUse net names (family_of alive) side row source) a b
seen_takes net names alive side row source n a b all =
    seen_same (Below (TakenUse net names (family_of alive) side row source) n) (TakesUse net names (family_of alive) side row source) a b (λ j code u. (u.0, u.2))
    (λ j code u. let place = flag_in alive source u.0 (sym (flag_value alive source u.0) ∙ u.1.works.has) in (u.0, omega (arith, place, all), u.1))

-- What is seen, where nothing was seen before, is that which goes with a row that has its flag.
pub seen_side : (net : Net) (names : Names) (family : Family) (side n : ℕ) (before : List (List Bool)) (rows : Rows) → ((j code : ℕ) → IsJointOf net side j → 4 ≤ code → flag before j code ≡ false) → length (get_or rows.live side []) ≤ n
    → AreSeen (Below (LiveRowUse net names family rows.live side) n) before rows.seen → IsSeen net names family side rows
seen_side net names family side n before rows none all seen = record {
  sound = λ j code of flows h. elim (seen.sound j code h) [
    | inl was ↦ let wrong : true ≡ false = sym was ∙ none j code of flows in absurd cc
    | inr u ↦ record { row = u.0; set = u.2.set; has = u.2.goes.has; works = u.2.goes.works }
  ];
  whole = λ j code of flows u.
      let place = flag_in rows.live side u.row u.set in
      seen.whole j code (u.row, omega (arith, place, all), record { set = u.set; goes = record { of_side = of; flows = flows; has = u.has; works = u.works } });
}

-- The tables stay, whatever is seen.
pub seen_tables : (net : Net) (items : List (List Value)) (old new : Rows) → AreTables net items old → new.live ≡ old.live → new.notes ≡ old.notes → AreAlikeTables old.seen new.seen → AreTables net items new
seen_tables net items old new tables live notes alike = record {
  sides = ap (λ (t : List (List Bool)). length t) live ∙ tables.sides;
  width = λ side lt. ap (λ (t : List (List Bool)). length (get_or t side [])) live ∙ tables.width side lt;
  noted = ap (λ (t : List (List Group)). length t) notes ∙ tables.noted;
  groups = λ side lt. ap (λ (t : List (List Group)). length (get_or t side [])) notes ∙ tables.groups side lt;
  joints = alike.rows ∙ tables.joints;
  values = λ j lt. alike.width j ∙ tables.values j lt;
}
