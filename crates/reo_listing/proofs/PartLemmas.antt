-- One part more.
use Rattle.std.proofs.Common.{◌≡◌, ◌∙◌, ℕ, zero, suc, ◌+◌, ◌<◌, ◌==◌, true, false, List, [], ◌∷◌, ◌++◌, map, length, get_or, refl, sym, ap, subst, arith}
use Rattle.std.specs.Prelude.{nat_lt}
use Rattle.std.proofs.lemmas.Bool.Decides.{nat_tests}
use Rattle.std.proofs.lemmas.List.{append-nil, map-append}
use Rattle.reo_net_base.specs.Net.{Net}
use Rattle.reo_net_laws.specs.Knots.{in_knot}
use Rattle.reo_listing.specs.declared.base.table.BoundaryTable.{BoundaryTable}
use Rattle.reo_listing.specs.declared.base.fault.ListFault.{ListFault}
use Rattle.reo_listing.specs.declared.base.fault.ListFault.TheVariants as faults
use Rattle.reo_weights.specs.Over.{IsWithin, IsSpent}
use Rattle.reo_listing.specs.base.Tables.{HasMany}
use Rattle.reo_listing.specs.base.Listed.{ports_of, has_ports, IsTableOf, AreTables, IsNextPart}
use Rattle.reo_listing.proofs.ports.PortRange.{kept_more}
use Rattle.reo_listing.specs.rows.PartTables.{IsPartFault}
use Rattle.reo_listing.specs.Parts.{IsPartsTable, StopsAt}

-- What is so of each of a list and of one more is so of all.
each_more : {X : Type 0} (P : X → Type 0) (xs : List X) (x : X) → ((k : ℕ) (d : X) → k < length xs → P (get_or xs k d)) → P x → (k : ℕ) (d : X) → k < length (xs ++ x ∷ []) → P (get_or (xs ++ x ∷ []) k d)
each_more P [] x each last zero d lt = last
each_more P [] x each last (suc k) d lt = absurd (omega (arith, lt))
each_more P (y ∷ ys) x each last zero d lt = each zero d (omega arith)
each_more P (y ∷ ys) x each last (suc k) d lt = each_more P ys x (λ n e h. each (suc n) e (omega (arith, h))) last k d (omega (arith, lt))

no_number : (xs : List ℕ) → (length xs == 0) ≡ true → nat_lt 0 (length xs) ≡ false
no_number [] none = refl
no_number (x ∷ xs) none = grind (arith, none)

some_number : (xs : List ℕ) → (length xs == 0) ≡ false → nat_lt 0 (length xs) ≡ true
some_number [] some = cc
some_number (x ∷ xs) some = grind (arith, nat_tests)

-- Whether a part has ports, by the list of them.
pub without_ports : (net : Net) (ports budget : ℕ) (numbers : List ℕ) (part : ℕ) (xs : List ℕ) → xs ≡ ports_of net ports budget numbers part → (length xs == 0) ≡ true
    → has_ports net ports budget numbers part ≡ false
without_ports net ports budget numbers part xs are none = subst (λ (ys : List ℕ). nat_lt 0 (length ys) ≡ false) are (no_number xs none)

pub with_ports : (net : Net) (ports budget : ℕ) (numbers : List ℕ) (part : ℕ) (xs : List ℕ) → xs ≡ ports_of net ports budget numbers part → (length xs == 0) ≡ false
    → has_ports net ports budget numbers part ≡ true
with_ports net ports budget numbers part xs are some = subst (λ (ys : List ℕ). nat_lt 0 (length ys) ≡ true) are (some_number xs some)

module _ (net : Net) (ports budget : ℕ) (numbers : List ℕ) (part : ℕ) (tables : List BoundaryTable) (before : AreTables net ports budget numbers part tables) where
  -- A part without ports has no table.
  pub none_more : has_ports net ports budget numbers part ≡ false → AreTables net ports budget numbers (part + 1) tables
  none_more none = record {
    parts = kept_more (has_ports net ports budget numbers) part (map (λ (t : BoundaryTable). t.part) tables) (map (λ (t : BoundaryTable). t.part) tables) false before.parts (sym none)
        (sym (append-nil (map (λ (t : BoundaryTable). t.part) tables)));
    each = before.each;
  }

  -- The table of a part with ports comes last.
  pub table_more : has_ports net ports budget numbers part ≡ true → (t : BoundaryTable) → IsPartsTable net ports budget numbers part t → (new : List BoundaryTable) → new ≡ tables ++ t ∷ []
      → AreTables net ports budget numbers (part + 1) new
  table_more has t is new new_is =
      let parts : map (λ (s : BoundaryTable). s.part) (tables ++ t ∷ []) ≡ map (λ (s : BoundaryTable). s.part) tables ++ part ∷ [] =
      map-append (λ (s : BoundaryTable). s.part) tables (t ∷ []) ∙ ap (λ n. map (λ (s : BoundaryTable). s.part) tables ++ n ∷ []) is.part_is in
      subst (AreTables net ports budget numbers (part + 1)) (sym new_is) (record {
        parts = kept_more (has_ports net ports budget numbers) part (map (λ (s : BoundaryTable). s.part) tables) (map (λ (s : BoundaryTable). s.part) (tables ++ t ∷ [])) true before.parts (sym has) parts;
        each = each_more (IsTableOf net ports budget numbers) tables t before.each is.table;
      })

  -- Why a part with ports has no table is why nothing is listed.
  stops_by : has_ports net ports budget numbers part ≡ true → (fault : ListFault) → IsPartFault budget net (in_knot numbers part) (ports_of net ports budget numbers part) part fault
      → StopsAt net ports budget numbers part fault
  stops_by has (faults.Filter i) it count lt = it
  stops_by has (faults.Spent k weight) it count lt =
      subst (λ n. IsNextPart net ports budget numbers count n × IsSpent budget net (in_knot numbers n) weight) (sym it.0) (record { in_range = lt; has = has; tables = tables; before = before }, it.1)
  stops_by has (faults.Rows k) it count lt =
      subst (λ n. IsNextPart net ports budget numbers count n × IsWithin budget net (in_knot numbers n) × HasMany net (in_knot numbers n) (ports_of net ports budget numbers n)) (sym it.0)
      (record { in_range = lt; has = has; tables = tables; before = before }, it.1, it.2)
  stops_by has faults.NoMemory it count lt = it

  pub stops : has_ports net ports budget numbers part ≡ true → (xs : List ℕ) → xs ≡ ports_of net ports budget numbers part → (fault : ListFault)
      → IsPartFault budget net (in_knot numbers part) xs part fault → StopsAt net ports budget numbers part fault
  stops has xs are fault it = stops_by has fault (subst (λ (ys : List ℕ). IsPartFault budget net (in_knot numbers part) ys part fault) are it)
