-- The table of a part is found, or it has too many lists.
use Rattle.std.proofs.Common.{◌≡◌, inl, inr, ◌⊎◌, ℕ, zero, suc, ◌+◌, ◌<◌, ◌≤◌, Bool, true, List, [], ◌∷◌, ◌++◌, length, get_or, refl, sym, ap, ◌∙◌, subst, arith}
use Rattle.std.proofs.lemmas.Bool.{cases_lt, false_from_ne_true}
use Rattle.std.proofs.lemmas.List.{length-append}
use Rattle.reo_net_base.specs.declared.mark.Mark.{Mark}
use Rattle.reo_net_base.specs.declared.mark.Mark.TheVariants.{F, G, R}
use Rattle.reo_net_base.specs.Net.{Net, Wiring, net_of}
use Rattle.reo_net_base.specs.Wired.{IsWired, IsOrder}
use Rattle.reo_net_laws.specs.Jams.{jams}
use Rattle.reo_net_laws.specs.Keys.{IsFirstIn}
use Rattle.reo_net_laws.specs.Knots.{Knotted, in_knot}
use Rattle.reo_net_laws.specs.Parts.{IsKnot}
use Rattle.reo_net_laws.proofs.FirstInside.{first_inside}
use Rattle.reo_net_laws.proofs.Flows.{knot_jams_exactly}
use Rattle.reo_net_laws.proofs.Least.{first_exists}
use Rattle.reo_open.specs.declared.gate.GateRows.TheVariants.{All}
use Rattle.reo_open.specs.declared.opens.Open.{Open}
use Rattle.reo_open.specs.declared.opens.Open.TheVariants.{Border, Inner}
use Rattle.reo_open.specs.Opens.{open_behaviour}
use Rattle.reo_search.specs.First.{HasNoThreeColouring}
use Rattle.reo_weights.proofs.Decisions.{true_decided}
use Rattle.reo_listing.specs.declared.base.fault.ListFault.TheVariants as faults
use Rattle.reo_listing.specs.base.Tables.{IsTable, HasMany, mark_number, most_rows}
use Rattle.reo_listing.specs.laws.Extended.{Extends, HasMoreThanMost}
use Rattle.reo_listing.specs.laws.Gated.{allowed_for, gate_of, IsGate, put_at}
use Rattle.reo_listing.specs.laws.Searched.{IsSearched, HasThreeColouring}
use Rattle.reo_listing.proofs.laws.Fronts.{next_gate}
use Rattle.reo_listing.proofs.laws.Gates.{IsPlain}
use Rattle.reo_listing.proofs.laws.Searching.{front_added, front_exceeds, none_added, searched_next, AddedUpTo, added_none, added_more, added_all, fault_more}

-- Whether a knot does without a jam row is decided.
three_decided : (net : Net) → IsWired net → (order : List ℕ) → IsOrder net order → (inside : ℕ → Bool) → IsKnot net inside → HasThreeColouring net inside ⊎ HasNoThreeColouring net inside
three_decided net wired order is inside is_knot =
    let found = first_exists net wired order is 1 in
    let first : IsFirstIn net inside 1 found.0 found.1 = first_inside net wired 1 found.0 found.1 found.2 inside is_knot.closed in
    let says = knot_jams_exactly net wired inside is_knot 1 found.0 found.1 first is_knot.some.0 is_knot.some.1 is_knot.some.2 in
    elim (true_decided (jams net found.0 is_knot.some.0)) [
      | inl jam ↦ inr (says.0 jam)
      | inr plain ↦
          inl (
            found.0,
            found.1,
            record {
              assignment = first.assignment;
              no_jam = λ k lt k_in. false_from_ne_true (jams net found.0 k) (λ jam.
                  plain (says.1 ((knot_jams_exactly net wired inside is_knot 1 found.0 found.1 first k lt k_in).0 jam)));
            },
          )
    ]

F-plain : IsPlain F
F-plain e = cc

G-plain : IsPlain G
G-plain e = cc

R-plain : IsPlain R
R-plain e = cc

takes_of : Open → Bool
takes_of (Border gate) = gate.takes
takes_of (Inner kind) = true

-- A gate goes one way.
one_way : (w : Wiring Open) (port : ℕ) (a b : Bool) → IsGate w port a All → IsGate w port b All → a ≡ b
unfolding takes_of
one_way w port a b is also = ap takes_of (sym (is.is (gate_of a All)) ∙ also.is (gate_of a All))

module _ (knots : Knotted) (part budget : ℕ) (ports : List ℕ) where
  abbrev inside : ℕ → Bool
  inside = in_knot knots.numbers part

  -- The lists that begin with a front come behind what was there, or there would be too many.
  abbrev Filled : Wiring Open → List (List Mark) → Type 0
  Filled w old =
      ((new : List (List Mark)) × Extends (net_of open_behaviour w) inside ports old new × (length new ≤ most_rows)) ⊎ HasMoreThanMost (net_of open_behaviour w) inside ports old

  -- So it is for fronts of all ports but so many.
  abbrev Fills : ℕ → Type 0
  Fills n = (w : Wiring Open) (front : List Mark) → IsSearched w knots part budget ports front → length ports ≡ length front + n → (old : List (List Mark)) → length old ≤ most_rows → Filled w old

  abbrev FillsSome : ℕ → Type 0
  FillsSome n = (w : Wiring Open) (front : List Mark) → IsSearched w knots part budget ports front → length ports ≡ length front + n → HasThreeColouring (net_of open_behaviour w) inside
      → (old : List (List Mark)) → length old ≤ most_rows → Filled w old

  decided : (n : ℕ) → FillsSome n → Fills n
  decided n some w front is long old few =
      elim (three_decided (net_of open_behaviour w) is.wired is.order is.is_order inside (is.are_knots.are_knots part is.in_range)) [
        | inl three ↦ some w front is long three old few
        | inr none ↦ inl (old, none_added w knots part budget ports front is none old old refl, few)
      ]

  whole : FillsSome 0
  whole w front is long three old few =
      let same : length front ≡ length ports = omega (arith, long) in
      let longer = length-append old (front ∷ []) in
      elim (cases_lt (length old) most_rows) [
        | inl less ↦ inl (old ++ front ∷ [], front_added w knots part budget ports front is same three old (old ++ front ∷ []) refl, omega (arith, less, longer))
        | inr full ↦ inr (front_exceeds w knots part budget ports front is same three old full)
      ]

  module _ (n : ℕ) (fills : Fills n) (w : Wiring Open) (front : List Mark) (is : IsSearched w knots part budget ports front) (long : length ports ≡ length front + suc n) where
    short : length front < length ports
    short = omega (arith, long)

    abbrev port : ℕ
    port = get_or ports (length front) 0

    gate : (takes : Bool) × IsGate w port takes All
    gate = next_gate w is.wired inside ports front is.held short

    -- The lists with smaller marks at the next port.
    abbrev Said : ℕ → List (List Mark) → Type 0
    Said k old =
        ((now : List (List Mark)) × AddedUpTo w knots part budget ports front is short k old now × (length now ≤ most_rows)) ⊎ HasMoreThanMost (net_of open_behaviour w) inside ports old

    abbrev held : Bool → Mark → Wiring Open
    held takes m = put_at w port (gate_of takes (allowed_for m))

    say : (m : Mark) → IsPlain m → (old : List (List Mark)) → Said (mark_number m) old → Said (mark_number m + 1) old
    say m plain old (inr many) = inr many
    say m plain old (inl it) =
        let next : IsSearched (held gate.0 m) knots part budget ports (front ++ m ∷ []) = searched_next w knots part budget ports front is short gate.0 gate.1 m plain in
        let longer = length-append front (m ∷ []) in
        elim (fills (held gate.0 m) (front ++ m ∷ []) next (omega (arith, long, longer)) it.0 it.2) [
          | inl more ↦
              inl (
                more.0,
                added_more w knots part budget ports front is short m plain old it.0 it.1 more.0
                    (λ takes one. subst (λ (t : Bool). Extends (net_of open_behaviour (held t m)) inside ports it.0 more.0) (one_way w port gate.0 takes gate.1 one) more.1),
                more.2,
              )
          | inr many ↦
              inr ((fault_more w knots part budget ports front is short m plain old it.0 it.1 (faults.Rows part)
              (λ takes one. (refl, subst (λ (t : Bool). HasMoreThanMost (net_of open_behaviour (held t m)) inside ports it.0) (one_way w port gate.0 takes gate.1 one) many))).1)
        ]

    all_said : (old : List (List Mark)) → Said 3 old → Filled w old
    all_said old (inr many) = inr many
    all_said old (inl it) = inl (it.0, added_all w knots part budget ports front is short old it.0 it.1, it.2)

    next_port : (old : List (List Mark)) → length old ≤ most_rows → Filled w old
    next_port old few = all_said old (say R R-plain old (say G G-plain old (say F F-plain old (inl (old, added_none w knots part budget ports front is short old, few)))))

  filled : (n : ℕ) → Fills n
  filled zero = decided 0 whole
  filled (suc n) = decided (suc n) (λ w front is long three old few. next_port n (filled n) w front is long old few)

  -- A part within the budget has its table, or too many lists.
  pub table_or_many : (w : Wiring Open) → IsSearched w knots part budget ports [] → ((rows : List (List Mark)) × IsTable (net_of open_behaviour w) inside ports rows × (length rows ≤ most_rows)) ⊎ HasMany (net_of open_behaviour w) inside ports
  table_or_many w is = elim (filled (length ports) w [] is (omega arith) [] (omega arith)) [
    | inl it ↦ inl (it.0, subst (IsTable (net_of open_behaviour w) inside ports) (sym it.1.new_is) it.1.table, it.2)
    | inr it ↦ let h = it.many in inr (record { rows = it.more; are = it.are; many = omega (arith, h) })
  ]
