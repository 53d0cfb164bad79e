-- Right logs show that no colouring stands before.
use Rattle.std.proofs.Common.{◌≡◌, inl, inr, ℕ, ◌+◌, ◌<◌, ◌≤◌, List, [], ◌∷◌, Bool, true, false, nat_lt, Option, Some, IsSome, length, get_or, map, Contains, refl, ap, sym, ◌∙◌, subst, arith}
use Rattle.std.specs.List.{range_with_len}
use Rattle.std.proofs.lemmas.List.{get_or-map, length-map}
use Rattle.std.proofs.lemmas.List.Elements.{Contains-append_left, Contains-append_right}
use Rattle.std.proofs.lemmas.Option.{slice_get-get_or, slice_get_past}
use Rattle.std.proofs.lemmas.Bool.{cases_eq, lt-ltb, ltb-true, cases_lt}
use Rattle.reo_values.specs.declared.value.Value.{Value}
use Rattle.reo_net_base.specs.Wired.{OrderHasNoCycle, IsWired}
use Rattle.reo_net_base.specs.Net.{Net, all_sides, side_at, from_sides, to_sides}
use Rattle.reo_net_base.specs.Sides.{side_count}
use Rattle.reo_net_base.specs.Colouring.{IsColouring}
use Rattle.reo_net_laws.specs.Parts.{IsClosed, IsAssignment}
use Rattle.reo_net_laws.proofs.Sides.{rows_length, row_below, side_in_range}
use Rattle.reo_joint_values.specs.declared.value.JointValue.{JointValue}
use Rattle.reo_joint_values.specs.declared.value.JointValue.TheVariants.{Flow, RG, GR, GG, Jam}
use Rattle.reo_joint_values.specs.Values.{no_joint, giver_side}
use Rattle.reo_joint_values.specs.Ties.{AreNamed, IsNamed, AssignmentsAreChoices}
use Rattle.reo_joint_values.specs.StandingLaws.{ItemsCanStand}
use Rattle.reo_refute_base.specs.declared.line.LogLine.{LogLine}
use Rattle.reo_refute_base.specs.Items.{Lists, items_at, numbered}
use Rattle.reo_refute_base.specs.Live.{values_of, all_live}
use Rattle.reo_refute_base.specs.Logs.{IsBranch, AreParts, RightLogsRefute}
use Rattle.reo_refute_base.specs.Logs.AreParts.{done, part}
use Rattle.reo_refute_base.specs.Places.{IsAllowed, IsLive}
use Rattle.reo_refute_base.proofs.laws.Branches.{IsFitting, none_left}
use Rattle.reo_refute_base.proofs.laws.Deciding.{places_decide}
use Rattle.reo_refute_base.proofs.laws.Listing.{contained, range_has}

-- Each live place has its branch.
abbrev HasBranch : Net → ℕ → List ℕ → Lists → ℕ → Type 0
HasBranch net turn given lists p = (branch : List LogLine) × IsBranch net lists (IsAllowed net turn given p) (all_live lists) branch

branch_of : (net : Net) (turn : ℕ) (given : List ℕ) (lists : Lists) (from : ℕ) (log : List LogLine) → AreParts net turn given lists from log
    → (p : ℕ) → from ≤ p → IsLive net turn given p → HasBranch net turn given lists p
branch_of net turn given lists from log (done f none) p le live = absurd (none p le live)
branch_of net turn given lists from log (part f q branch rest next is parts) p le live =
    elim (cases_eq p q) [
      | inl same ↦ subst (HasBranch net turn given lists) (sym same) (branch, is)
      | inr other ↦ elim (cases_lt p q) [
        | inl before ↦ absurd (next.none_before p le before live)
        | inr after ↦ branch_of net turn given lists (q + 1) rest parts p (omega (arith, after, other)) live
      ]
    ]

-- All sides, as a test.
abbrev pub everywhere : Net → ℕ → Bool
everywhere net s = nat_lt s (side_count net)

map_has : {X Y : Type 0} (f : X → Y) (xs : List X) (x : X) → Contains xs x → Contains (map f xs) (f x)
map_has f xs x has = (has.0, subst (λ (n : ℕ). has.0 < n) (sym (length-map xs f)) has.1, get_or-map f xs has.0 x (f x) has.1 ∙ ap f has.2)

-- What is live at first is among the values of its joint.
pub all_among : (lists : Lists) (j : ℕ) (v : JointValue) → all_live lists j v ≡ true → Contains (values_of lists j) v
all_among lists j (Flow n) is =
    Contains-append_left (map Flow (range_with_len 0 (length (items_at lists j)))) (RG ∷ GR ∷ GG ∷ Jam ∷ []) (Flow n)
    (map_has Flow (range_with_len 0 (length (items_at lists j))) n (range_has (length (items_at lists j)) n (ltb-true n (length (items_at lists j)) is)))
all_among lists j RG is = Contains-append_right (map Flow (range_with_len 0 (length (items_at lists j)))) (RG ∷ GR ∷ GG ∷ Jam ∷ []) RG (0, omega arith, refl)
all_among lists j GR is = Contains-append_right (map Flow (range_with_len 0 (length (items_at lists j)))) (RG ∷ GR ∷ GG ∷ Jam ∷ []) GR (1, omega arith, refl)
all_among lists j GG is = Contains-append_right (map Flow (range_with_len 0 (length (items_at lists j)))) (RG ∷ GR ∷ GG ∷ Jam ∷ []) GG (2, omega arith, refl)
all_among lists j Jam is = Contains-append_right (map Flow (range_with_len 0 (length (items_at lists j)))) (RG ∷ GR ∷ GG ∷ Jam ∷ []) Jam (3, omega arith, refl)

named_live : (lists : Lists) (j : ℕ) (v : JointValue) → IsNamed (numbered lists) j v → all_live lists j v ≡ true
named_live lists j (Flow n) named =
    elim (cases_lt n (length (items_at lists j))) [
      | inl lt ↦ lt-ltb n (length (items_at lists j)) lt
      | inr past ↦ let wrong : false ≡ true = subst (λ (o : Option Value). IsSome o) (slice_get_past (items_at lists j) n past) (named refl) in absurd cc
    ]
named_live lists j RG named = refl
named_live lists j GR named = refl
named_live lists j GG named = refl
named_live lists j Jam named = refl

module _ (net : Net) (wired : IsWired net) where
  pub closed : IsClosed net (everywhere net)
  closed = record {
    along = λ j d lt.
        let g = lt-ltb (side_at net (get_or net.joints j d).giver) (side_count net) (side_in_range net wired (get_or net.joints j d).giver (wired.givers j d lt)) in
        let t = lt-ltb (side_at net (get_or net.joints j d).taker) (side_count net) (side_in_range net wired (get_or net.joints j d).taker (wired.takers j d lt)) in
        g ∙ sym t;
  }

  assignment : (rows : List ℕ) (items : List (Option Value)) → IsColouring net rows items → IsAssignment net (everywhere net) rows items
  assignment rows items is = record {
    one_row = rows_length (all_sides net.primitives) rows is.rows_fit.in_tables;
    one_item = is.one_each;
    in_tables = λ k d lt h. row_below (all_sides net.primitives) rows is.rows_fit.in_tables k d lt;
    matched = λ j d lt h. is.rows_fit.matched j d lt;
    items_fit = λ j d lt h. is.items_fit j d lt;
  }

pub refutes : OrderHasNoCycle → ItemsCanStand → AssignmentsAreChoices → RightLogsRefute
refutes no_cycle stand choices net wired order is_order turn given log right =
    (places_decide net turn given).1 (λ p live others items is are.
    let lists : Lists = right.lists in
    let found = branch_of net turn given lists 0 log right.parts p (omega arith) live in
    let of_all : IsAssignment net (everywhere net) others items = assignment net wired others items is in
    let named : AreNamed net (numbered lists) (everywhere net) items = λ j item lt h at.
    let can = stand net wired (no_cycle (from_sides net) (to_sides net) order is_order) (everywhere net) (closed net wired) others items of_all j no_joint item lt h at in
    let has = contained net wired lists right.item_lists j item can in
    (has.0, slice_get-get_or (items_at lists j) has.0 item has.1 ∙ ap Some has.2) in
    let has = choices net wired (numbered lists) (everywhere net) (all_live lists) (closed net wired) (λ side h. ltb-true side (side_count net) h) (λ j v lt h name. named_live lists j v name) others items of_all named in
    let from : (j : ℕ) → j < length net.joints → all_live lists j (has.choice j) ≡ true = λ j lt.
    has.chosen.from (giver_side net j) (lt-ltb (giver_side net j) (side_count net) (side_in_range net wired (get_or net.joints j no_joint).giver (wired.givers j no_joint lt))) j lt (inl refl) in
    let fitting : IsFitting net lists (IsAllowed net turn given p) (λ side. get_or others side 0) has.choice = record {
      fits = λ side lt. has.chosen.fits side (lt-ltb side (side_count net) lt);
      are = are;
      among = λ j lt. all_among lists j (has.choice j) (from j lt);
    } in
    none_left net wired lists (IsAllowed net turn given p) (λ side. get_or others side 0) has.choice fitting (all_live lists) found.0 from found.1)
