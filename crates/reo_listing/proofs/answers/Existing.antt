-- Each circuit is listed, or it is refused.
use Rattle.std.proofs.Common.{◌≡◌, ◌≢◌, inl, inr, ◌⊎◌, ℕ, zero, suc, ◌+◌, ◌<◌, ◌≤◌, true, false, List, [], ◌∷◌, ◌++◌, length, map, get_or, refl, sym, ap, subst, arith}
use Rattle.std.specs.Prelude.{Result, Ok, Err}
use Rattle.std.proofs.lemmas.Bool.{cases_lt, false_from_ne_true}
use Rattle.reo_net_base.specs.Net.{Net, Wiring, net_of}
use Rattle.reo_net_base.specs.Sides.{side_count}
use Rattle.reo_net_base.specs.Wired.{IsWired, IsOrder, ArePorts}
use Rattle.reo_net_circuit.proofs.ReshapeLemmas.{order_same}
use Rattle.reo_net_laws.specs.Knots.{AreNumbers, in_knot}
use Rattle.reo_net_laws.specs.Parts.{SameKnot}
use Rattle.reo_kinds.specs.declared.kind.Kind.{Kind}
use Rattle.reo_kinds.specs.Kinds.{behaviour_of}
use Rattle.reo_open.specs.Opened.{opened, open_wiring, open_net, is_filter, HasNoFilter}
use Rattle.reo_open.specs.OpenedLaws.{opened_shapes}
use Rattle.reo_open.specs.Opens.{open_behaviour}
use Rattle.reo_open.proofs.FaultLemmas.{open_wired}
use Rattle.reo_weights.specs.Over.{IsWithin}
use Rattle.reo_weights.proofs.Decisions.{true_decided}
use Rattle.reo_weights.proofs.ExistLemmas.{weight_exists}
use Rattle.reo_weights.proofs.NumberLemmas.{one_numbering}
use Rattle.reo_weights.proofs.PartLists.{part_numbers}
use Rattle.reo_listing.specs.declared.base.table.BoundaryTable.{BoundaryTable}
use Rattle.reo_listing.specs.declared.base.fault.ListFault.{ListFault}
use Rattle.reo_listing.specs.declared.base.fault.ListFault.TheVariants.{Filter, Spent, Rows, NoMemory}
use Rattle.reo_listing.specs.base.Listed.{ports_of, has_ports, AreTables, IsFirstFilter, ListsParts, ListsOpen, Lists}
use Rattle.reo_listing.specs.answers.Laws.{ListingExists}
use Rattle.reo_listing.specs.laws.Searched.{IsSearched}
use Rattle.reo_listing.proofs.PartLemmas.{none_more, table_more, stops}
use Rattle.reo_listing.proofs.answers.Filling.{table_or_many}
use Rattle.reo_listing.proofs.answers.SomeKnots.{some_knots, count_is, are_some}
use Rattle.reo_listing.proofs.base.Units.{narrow}
use Rattle.reo_listing.proofs.gates.PortLemmas.{open_held}

abbrev Answer : Type 0
Answer = Result (List BoundaryTable) ListFault

fault_of : Answer → ListFault
fault_of (Ok tables) = NoMemory
fault_of (Err fault) = fault

later : (kind : Kind) (kinds : List Kind) (n : ℕ) → is_filter kind ≡ false → ((i : ℕ) (d : Kind) → i < n → is_filter (get_or kinds i d) ≡ false)
    → (i : ℕ) (d : Kind) → i < suc n → is_filter (get_or (kind ∷ kinds) i d) ≡ false
later kind kinds n here h zero d lt = here
later kind kinds n here h (suc i) d lt = h i d (omega (arith, lt))

-- There is a first filter, or none.
filter_or_none : (kinds : List Kind) → ((i : ℕ) × IsFirstFilter kinds i) ⊎ HasNoFilter kinds
filter_or_none [] = inr (λ i d lt. absurd (omega (arith, lt)))
filter_or_none (kind ∷ kinds) = elim (true_decided (is_filter kind)) [
  | inl is ↦ inl (0, record { in_range = omega arith; here = λ d. is; before = λ i d lt. absurd (omega (arith, lt)) })
  | inr other ↦
      let here : is_filter kind ≡ false = false_from_ne_true (is_filter kind) other in
      elim (filter_or_none kinds) [
        | inl it ↦ let h = it.1.in_range in inl (suc it.0, record { in_range = omega (arith, h); here = it.1.here; before = later kind kinds it.0 here it.1.before })
        | inr none ↦ inr (λ i d lt. later kind kinds (length kinds) here none i d (omega (arith, lt)))
      ]
]

module _ (w : Wiring Kind) (wired : IsWired (net_of behaviour_of w)) (ports_are : ArePorts (map behaviour_of w.primitives) w.ports) (order : List ℕ) (is_order : IsOrder (net_of behaviour_of w) order) (budget : ℕ) where
  abbrev net : Net
  net = open_net w

  opened_order : IsOrder net order
  opened_order = order_same (map behaviour_of w.primitives) (map open_behaviour (map opened w.primitives)) (opened_shapes w.primitives) w.joints wired order is_order

  module _ (numbers : List ℕ) (count : ℕ) (are : AreNumbers (SameKnot net) (side_count net) numbers count) where
    -- The first parts have their tables, or some part stops the listing.
    abbrev Listing : ℕ → Type 0
    Listing n = ((tables : List BoundaryTable) × AreTables net w.ports budget numbers n tables) ⊎ ((fault : ListFault) × (fault ≢ NoMemory) × ListsParts net w.ports budget numbers count (Err fault))

    module _ (n : ℕ) (lt : n < count) (tables : List BoundaryTable) (before : AreTables net w.ports budget numbers n tables) (has : has_ports net w.ports budget numbers n ≡ true) where
      table_here : IsWithin budget net (in_knot numbers n) → Listing (n + 1)
      table_here within =
          let searched : IsSearched (open_wiring w) (some_knots net (open_wired w wired) numbers count are) n budget (ports_of net w.ports budget numbers n) [] = record {
            wired = open_wired w wired;
            order = order;
            is_order = opened_order;
            are_knots = are_some net (open_wired w wired) numbers count are;
            in_range = subst (λ (m : ℕ). n < m) (sym (count_is net (open_wired w wired) numbers count are)) lt;
            held = open_held w ports_are (in_knot numbers n);
            within = within;
          } in
          elim (table_or_many (some_knots net (open_wired w wired) numbers count are) n budget (ports_of net w.ports budget numbers n) (open_wiring w) searched) [
            | inl it ↦
                let table : BoundaryTable = record { part = n; ports = ports_of net w.ports budget numbers n; rows = it.0 } in
                inl (
                  tables ++ table ∷ [],
                  table_more net w.ports budget numbers n tables before has table
                      (record { part_is = refl; table = record { ports_are = refl; within = within; is_table = it.1; few = it.2 } }) (tables ++ table ∷ []) refl,
                )
            | inr many ↦ inr (Rows n, (λ e. cc), stops net w.ports budget numbers n tables before has (ports_of net w.ports budget numbers n) refl (Rows n) (refl, within, many) count lt)
          ]

      part_here : Listing (n + 1)
      part_here =
          let weight = weight_exists net (open_wired w wired) order opened_order (in_knot numbers n) in
          elim (cases_lt budget weight.0) [
            | inl more ↦
                inr (
                  Spent n weight.0,
                  (λ e. cc),
                  stops net w.ports budget numbers n tables before has (ports_of net w.ports budget numbers n) refl (Spent n weight.0)
                      (refl, record { narrow = narrow w wired (in_knot numbers n); weighs = weight.1; many = more }) count lt,
                )
            | inr few ↦ table_here (record { narrow = narrow w wired (in_knot numbers n); weight = weight.0; weighs = weight.1; few = few })
          ]

    one_more : (n : ℕ) → n < count → (tables : List BoundaryTable) → AreTables net w.ports budget numbers n tables → Listing (n + 1)
    one_more n lt tables before = elim (true_decided (has_ports net w.ports budget numbers n)) [
      | inl has ↦ part_here n lt tables before has
      | inr none ↦ inl (tables, none_more net w.ports budget numbers n tables before (false_from_ne_true (has_ports net w.ports budget numbers n) none))
    ]

    listing : (n : ℕ) → n ≤ count → Listing n
    listing zero le = inl ([], record { parts = refl; each = λ m d lt. absurd (omega (arith, lt)) })
    listing (suc n) le = elim (listing n (omega (arith, le))) [
      | inl it ↦ let next : n + 1 ≡ suc n = omega arith in subst Listing next (one_more n (omega (arith, le)) it.0 it.1)
      | inr it ↦ inr it
    ]

    -- In whatever numbers its parts are told, they are these.
    in_each : (x : Answer) → ListsParts net w.ports budget numbers count x → ListsOpen net w.ports budget x
    in_each x is others many they =
        let same = one_numbering net numbers others count many are they in
        subst (λ (ns : List ℕ). ListsParts net w.ports budget ns many x) same.0 (subst (λ (m : ℕ). ListsParts net w.ports budget numbers m x) same.1 is)

    lists_fault : HasNoFilter w.primitives → (fault : ListFault) → fault ≢ NoMemory → ListsParts net w.ports budget numbers count (Err fault) → Lists w budget (Err fault)
    lists_fault none (Filter i) some is = absurd is
    lists_fault none (Spent part weight) some is = (none, in_each (Err (Spent part weight)) is)
    lists_fault none (Rows part) some is = (none, in_each (Err (Rows part)) is)
    lists_fault none NoMemory some is = absurd (some refl)

    some_answer : HasNoFilter w.primitives → (x : Answer) × (x ≢ Err NoMemory) × Lists w budget x
    unfolding fault_of
    some_answer none = elim (listing count (omega arith)) [
      | inl it ↦ (Ok it.0, (λ e. cc), (none, in_each (Ok it.0) it.1))
      | inr it ↦ (Err it.0, (λ e. it.1 (ap fault_of e)), lists_fault none it.0 it.1 it.2)
    ]

pub listing_exists : ListingExists
listing_exists w wired ports_are order is_order budget = elim (filter_or_none w.primitives) [
  | inl it ↦ (Err (Filter it.0), (λ e. cc), it.1)
  | inr none ↦
      let they = part_numbers (open_net w) (open_wired w wired) in
      some_answer w wired ports_are order is_order budget they.0 they.1 they.2 none
]
