-- Which places are live can be told.
use Rattle.std.proofs.Common.{◌≡◌, ◌⊎◌, inl, inr, ℕ, ◌<◌, List, length, get_or, subst, arith}
use Rattle.std.proofs.lemmas.List.{get_or_default}
use Rattle.std.proofs.lemmas.Bool.{cases_eq, cases_lt}
use Rattle.reo_net_base.specs.Net.{Net, Side, all_sides, no_side, row_count}
use Rattle.reo_net_base.specs.First.{positions}
use Rattle.reo_net_laws.specs.Ends.{IsRowOf}
use Rattle.reo_refute_base.specs.Places.{place_at, IsAllowed}
use Rattle.reo_refute_base.specs.laws.Singles.{LivePlacesAreTold}
use Rattle.reo_refute_base.proofs.laws.Deciding.{side_in}
use Rattle.reo_refute_base.proofs.laws.Growing.{first_below}

module _ (net : Net) (turn : ℕ) (given : List ℕ) (p side row : ℕ) (in_table : IsRowOf net side row) where
  abbrev pub number : ℕ → ℕ → ℕ
  number q r = (place_at net turn q).number r

  pub allowed_or : IsAllowed net turn given p side row ⊎ (IsAllowed net turn given p side row → ⊥)
  allowed_or =
      elim (first_below p (λ q. ((place_at net turn q).side ≡ side) × (number q row ≡ number q (get_or given side 0) → ⊥)) (λ q. (place_at net turn q).side ≡ side → number q row ≡ number q (get_or given side 0)) (λ q lt.
      elim (cases_eq (place_at net turn q).side side) [
        | inr other ↦ inr (λ is. absurd (other is))
        | inl is ↦ elim (cases_eq (number q row) (number q (get_or given side 0))) [ inl same ↦ inr (λ _. same) | inr differ ↦ inl (is, differ) ]
      ])) [
        | inl bad ↦ inr (λ a. bad.2.1 (a.before bad.0 bad.1 bad.2.0))
        | inr before ↦ elim (cases_eq (place_at net turn p).side side) [
          | inr other ↦ inl (record { in_table = in_table; before = before; smaller = λ is. absurd (other is) })
          | inl is ↦ elim (cases_lt (number p row) (number p (get_or given side 0))) [
            | inl lt ↦ inl (record { in_table = in_table; before = before; smaller = λ _. lt })
            | inr ge ↦ inr (λ a. let lt = a.smaller is in omega (arith, lt, ge))
          ]
        ]
      ]

pub live_places_are_told : LivePlacesAreTold
live_places_are_told net turn given p =
    elim (cases_lt p (length (positions net turn))) [
      | inr past ↦ inr (λ l. omega (arith, l.in_range, past))
      | inl p_in ↦
          let side : ℕ = (place_at net turn p).side in
          let side_lt = side_in net turn given p p_in in
          let table : (r : ℕ) → r < row_count (get_or (all_sides net.primitives) side no_side) → IsRowOf net side r = λ r lt d.
          subst (λ (s : Side). r < row_count s) (get_or_default (all_sides net.primitives) side no_side d side_lt) lt in
          elim (first_below (row_count (get_or (all_sides net.primitives) side no_side)) (λ r. IsAllowed net turn given p side r) (λ r. IsAllowed net turn given p side r → ⊥) (λ r lt. allowed_or net turn given p side r (table r lt))) [
            | inl found ↦ inl (record { in_range = p_in; row = found.0; allowed = found.2 })
            | inr none ↦ inr (λ l. none l.row (l.allowed.in_table no_side) l.allowed)
          ]
    ]
