-- A circuit is listed in one way.
use Rattle.std.proofs.Common.{◌≡◌, ◌≢◌, inl, inr, ◌⊎◌, ℕ, ◌<◌, List, refl, sym, ap, ◌∙◌, arith}
use Rattle.std.specs.Prelude.{Result, Ok, Err}
use Rattle.std.proofs.lemmas.Bool.{cases_lt}
use Rattle.reo_net_base.specs.Net.{Net, Wiring}
use Rattle.reo_net_base.specs.Sides.{side_count}
use Rattle.reo_net_base.specs.Wired.{IsWired}
use Rattle.reo_net_laws.specs.Parts.{SameKnot}
use Rattle.reo_net_laws.specs.Knots.{AreNumbers}
use Rattle.reo_kinds.specs.declared.kind.Kind.{Kind}
use Rattle.reo_kinds.specs.declared.kind.Kind.TheVariants as kinds
use Rattle.reo_open.specs.Opened.{open_net, HasNoFilter}
use Rattle.reo_open.proofs.FaultLemmas.{open_wired}
use Rattle.reo_weights.proofs.PartLists.{part_numbers}
use Rattle.reo_listing.specs.declared.base.table.BoundaryTable.{BoundaryTable}
use Rattle.reo_listing.specs.declared.base.fault.ListFault.{ListFault}
use Rattle.reo_listing.specs.declared.base.fault.ListFault.TheVariants.{Filter, Spent, Rows, NoMemory}
use Rattle.reo_listing.specs.base.Listed.{IsFirstFilter, ListsParts, ListsOpen, Lists}
use Rattle.reo_listing.specs.answers.Laws.{ListingIsOne}
use Rattle.reo_listing.proofs.answers.PartTables.{one_list, not_found, IsLast, one_last}

abbrev Answer : Type 0
Answer = Result (List BoundaryTable) ListFault

-- By one numbering of the parts.
module _ (net : Net) (wired : IsWired net) (ports budget : ℕ) (numbers : List ℕ) (count : ℕ) (are : AreNumbers (SameKnot net) (side_count net) numbers count) where
  last_of : (fault : ListFault) → ◌≢◌ {A = Answer} (Err fault) (Err NoMemory) → ListsParts net ports budget numbers count (Err fault) → IsLast net wired ports budget numbers count are fault
  last_of (Filter i) some it = absurd it
  last_of (Spent part weight) some it = record { part = part; next = it.0; stopped = (refl, it.1) }
  last_of (Rows part) some it = record { part = part; next = it.0; stopped = (refl, it.1, it.2) }
  last_of NoMemory some it = absurd (some refl)

  apart : (tables : List BoundaryTable) (fault : ListFault) → ListsParts net ports budget numbers count (Ok tables) → IsLast net wired ports budget numbers count are fault → ⊥
  apart tables fault they it = not_found net wired ports budget numbers count are count tables they it.part it.next.in_range it.next.in_range it.next.has fault it.stopped

  by_parts : (x y : Answer) → x ≢ Err NoMemory → y ≢ Err NoMemory → ListsParts net ports budget numbers count x → ListsParts net ports budget numbers count y → x ≡ y
  by_parts (Ok xs) (Ok ys) some other p q = ap Ok (one_list net wired ports budget numbers count are count xs ys p q)
  by_parts (Ok xs) (Err b) some other p q = absurd (apart xs b p (last_of b other q))
  by_parts (Err a) (Ok ys) some other p q = absurd (apart ys a q (last_of a some p))
  by_parts (Err a) (Err b) some other p q = ap Err (one_last net wired ports budget numbers count are a b (last_of a some p) (last_of b other q))

-- The first filter is answered, or what the open circuit says.
abbrev Says : Wiring Kind → ℕ → Answer → Type 0
Says w budget x =
    ((i : ℕ) × (x ≡ Err (Filter i)) × IsFirstFilter w.primitives i) ⊎ (HasNoFilter w.primitives × ListsOpen (open_net w) w.ports budget x)

says : (w : Wiring Kind) (budget : ℕ) (x : Answer) → x ≢ Err NoMemory → Lists w budget x → Says w budget x
says w budget (Ok tables) some it = inr it
says w budget (Err (Filter i)) some it = inl (i, refl, it)
says w budget (Err (Spent part weight)) some it = inr it
says w budget (Err (Rows part)) some it = inr it
says w budget (Err NoMemory) some it = absurd (some refl)

not_first : (kinds : List Kind) (i j : ℕ) → IsFirstFilter kinds i → IsFirstFilter kinds j → i < j → ⊥
not_first ks i j p q less = let is = p.here (kinds.Sync) in let not = q.before i (kinds.Sync) less in cc

one_filter : (kinds : List Kind) (i j : ℕ) → IsFirstFilter kinds i → IsFirstFilter kinds j → i ≡ j
one_filter ks i j p q = elim (cases_lt i j) [
  | inl less ↦ absurd (not_first ks i j p q less)
  | inr le ↦ elim (cases_lt j i) [
    | inl less ↦ absurd (not_first ks j i q p less)
    | inr ge ↦ omega (arith, le, ge)
  ]
]

no_filter : (kinds : List Kind) (i : ℕ) → HasNoFilter kinds → IsFirstFilter kinds i → ⊥
no_filter ks i none it = let is = it.here (kinds.Sync) in let not = none i (kinds.Sync) it.in_range in cc

pub listing_is_one : ListingIsOne
listing_is_one w wired budget x y some other p q = elim (says w budget x some p) [
  | inl first ↦ elim (says w budget y other q) [
    | inl second ↦ first.1 ∙ ap (λ i. Err (Filter i)) (one_filter w.primitives first.0 second.0 first.2 second.2) ∙ sym second.1
    | inr lists ↦ absurd (no_filter w.primitives first.0 lists.0 first.2)
  ]
  | inr lists ↦ elim (says w budget y other q) [
    | inl second ↦ absurd (no_filter w.primitives second.0 lists.0 second.2)
    | inr others ↦
        let net = open_net w in
        let opened = open_wired w wired in
        let they = part_numbers net opened in
        by_parts net opened w.ports budget they.0 they.1 they.2 x y some other (lists.1 they.0 they.1 they.2) (others.1 they.0 they.1 they.2)
  ]
]
