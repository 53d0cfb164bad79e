-- A part has one table, or is stopped for one reason.
use Rattle.std.proofs.Common.{◌≡◌, inl, inr, ℕ, zero, suc, ◌+◌, ◌<◌, ◌≤◌, true, List, [], ◌∷◌, length, map, drop, get_or, refl, sym, ap, ◌∙◌, subst, arith}
use Rattle.std.specs.Prelude.{Contains}
use Rattle.std.specs.List.{range_with_len}
use Rattle.std.proofs.lemmas.Bool.{cases_lt}
use Rattle.std.proofs.lemmas.List.{length-map, get_or-map}
use Rattle.reo_net_base.specs.Net.{Net}
use Rattle.reo_net_base.specs.Sides.{side_count}
use Rattle.reo_net_base.specs.Wired.{IsWired}
use Rattle.reo_net_laws.specs.Parts.{IsClosed, SameKnot}
use Rattle.reo_net_laws.specs.Knots.{AreNumbers, in_knot}
use Rattle.reo_net_laws.proofs.Knots.{knot}
use Rattle.reo_weights.specs.Over.{IsWithin, IsSpent}
use Rattle.reo_weights.proofs.Listings.{in_filter}
use Rattle.reo_weights.proofs.WeightLemmas.{one_weight}
use Rattle.reo_listing.specs.declared.base.table.BoundaryTable.{BoundaryTable}
use Rattle.reo_listing.specs.declared.base.fault.ListFault.{ListFault}
use Rattle.reo_listing.specs.declared.base.fault.ListFault.TheVariants.{Filter, Spent, Rows, NoMemory}
use Rattle.reo_listing.specs.base.Tables.{IsTable, HasMany}
use Rattle.reo_listing.specs.base.Listed.{ports_of, has_ports, IsTableOf, AreTables, IsNextPart}
use Rattle.reo_listing.proofs.answers.Ordered.{here, there}
use Rattle.reo_listing.proofs.answers.OneTable.{one_table, not_many}

in_range : (from n k : ℕ) → from ≤ k → k < from + n → Contains (range_with_len from n) k
in_range from zero k le lt = absurd (omega (arith, le, lt))
in_range from (suc n) k le lt = elim (cases_lt from k) [
  | inl less ↦ there from k (range_with_len (from + 1) n) (in_range (from + 1) n k (omega (arith, less)) (omega (arith, lt)))
  | inr ge ↦
      let same : from ≡ k = omega (arith, le, ge) in
      subst (Contains (range_with_len from (suc n))) same (here from (range_with_len (from + 1) n))
]

no_table : BoundaryTable
no_table = record { part = 0; ports = []; rows = [] }

abbrev part_of : BoundaryTable → ℕ
part_of t = t.part

module _ (net : Net) (wired : IsWired net) (ports budget : ℕ) (numbers : List ℕ) (count : ℕ) (are : AreNumbers (SameKnot net) (side_count net) numbers count) where
  abbrev IsPartsTable : BoundaryTable → Type 0
  IsPartsTable t = IsTableOf net ports budget numbers t

  one_of_part : (t u : BoundaryTable) → t.part ≡ u.part → IsPartsTable t → IsPartsTable u → t ≡ u
  one_of_part t u same p q =
      let ports_same : t.ports ≡ u.ports = p.ports_are ∙ ap (ports_of net ports budget numbers) same ∙ sym q.ports_are in
      let table : IsTable net (in_knot numbers t.part) t.ports u.rows =
      subst (λ n. IsTable net (in_knot numbers n) t.ports u.rows) (sym same) (subst (λ (ps : List ℕ). IsTable net (in_knot numbers u.part) ps u.rows) (sym ports_same) q.is_table) in
      let rows_same : t.rows ≡ u.rows = one_table net (in_knot numbers t.part) t.ports t.rows u.rows p.is_table table in
      (λ i. record { part = same i; ports = ports_same i; rows = rows_same i })

  same_tables : (xs ys : List BoundaryTable) → map part_of xs ≡ map part_of ys → ((m : ℕ) (d : BoundaryTable) → m < length xs → IsPartsTable (get_or xs m d))
      → ((m : ℕ) (d : BoundaryTable) → m < length ys → IsPartsTable (get_or ys m d)) → xs ≡ ys
  same_tables [] [] same each other = refl
  same_tables [] (y ∷ ys) same each other = absurd (let long = ap length same in omega (arith, long))
  same_tables (x ∷ xs) [] same each other = absurd (let long = ap length same in omega (arith, long))
  same_tables (x ∷ xs) (y ∷ ys) same each other =
      let first : x.part ≡ y.part = ap (λ (ns : List ℕ). get_or ns 0 0) same in
      let rest : map part_of xs ≡ map part_of ys = ap (λ (ns : List ℕ). drop 1 ns) same in
      ap (λ (t : BoundaryTable). t ∷ xs) (one_of_part x y first (each 0 x (omega arith)) (other 0 y (omega arith)))
      ∙ ap (λ (ts : List BoundaryTable). y ∷ ts) (same_tables xs ys rest (λ m d lt. each (suc m) d (omega (arith, lt))) (λ m d lt. other (suc m) d (omega (arith, lt))))

  pub one_list : (n : ℕ) (xs ys : List BoundaryTable) → AreTables net ports budget numbers n xs → AreTables net ports budget numbers n ys → xs ≡ ys
  one_list n xs ys p q = same_tables xs ys (p.parts ∙ sym q.parts) p.each q.each

  -- Each part with ports has its table.
  found : (n : ℕ) (tables : List BoundaryTable) → AreTables net ports budget numbers n tables → (part : ℕ) → part < n → has_ports net ports budget numbers part ≡ true
      → (t : BoundaryTable) × (t.part ≡ part) × IsPartsTable t
  found n tables they part lt has =
      let among : Contains (map part_of tables) part =
      subst (λ (ns : List ℕ). Contains ns part) (sym they.parts) ((in_filter (has_ports net ports budget numbers) (range_with_len 0 n) part).1 (in_range 0 n part (omega arith) (omega (arith, lt)), has)) in
      let k_in : among.0 < length tables = let long = length-map tables part_of in let within = among.1 in omega (arith, long, within) in
      (get_or tables among.0 no_table, sym (get_or-map part_of tables among.0 no_table part k_in) ∙ among.2, they.each among.0 no_table k_in)

  -- Why a part has no table.
  abbrev pub IsStopped : ℕ → ListFault → Type 0
  IsStopped part (Filter i) = ⊥
  IsStopped part (Spent k weight) = (k ≡ part) × IsSpent budget net (in_knot numbers part) weight
  IsStopped part (Rows k) = (k ≡ part) × IsWithin budget net (in_knot numbers part) × HasMany net (in_knot numbers part) (ports_of net ports budget numbers part)
  IsStopped part NoMemory = ⊥

  closed : (part : ℕ) → part < count → IsClosed net (in_knot numbers part)
  closed part lt = (knot net wired numbers count are part lt).closed

  not_both : (part : ℕ) → part < count → (weight : ℕ) → IsWithin budget net (in_knot numbers part) → IsSpent budget net (in_knot numbers part) weight → ⊥
  not_both part lt weight within spent =
      let same = one_weight net wired (in_knot numbers part) (closed part lt) weight within.weight spent.weighs within.weighs in
      let few = within.few in
      let many = spent.many in
      omega (arith, same, few, many)

  not_here : (t : BoundaryTable) → t.part < count → IsPartsTable t → (fault : ListFault) → IsStopped t.part fault → ⊥
  not_here t lt is (Filter i) it = it
  not_here t lt is (Spent k weight) it = not_both t.part lt weight is.within it.1
  not_here t lt is (Rows k) it =
      not_many net (in_knot numbers t.part) t.ports t.rows is.is_table is.few
      (subst (λ (ps : List ℕ). HasMany net (in_knot numbers t.part) ps) (sym is.ports_are) it.2)
  not_here t lt is NoMemory it = it

  -- A part with ports that is stopped has no table.
  pub not_found : (n : ℕ) (tables : List BoundaryTable) → AreTables net ports budget numbers n tables → (part : ℕ) → part < n → part < count → has_ports net ports budget numbers part ≡ true
      → (fault : ListFault) → IsStopped part fault → ⊥
  not_found n tables they part lt in_count has fault stopped =
      let it = found n tables they part lt has in
      not_here it.0 (subst (λ k. k < count) (sym it.1) in_count) it.2 fault (subst (λ k. IsStopped k fault) (sym it.1) stopped)

  one_stop : (part : ℕ) → part < count → (a b : ListFault) → IsStopped part a → IsStopped part b → a ≡ b
  one_stop part lt (Filter i) b p q = absurd p
  one_stop part lt NoMemory b p q = absurd p
  one_stop part lt (Spent k weight) (Filter i) p q = absurd q
  one_stop part lt (Spent k weight) NoMemory p q = absurd q
  one_stop part lt (Spent k weight) (Rows m) p q = absurd (not_both part lt weight q.1 p.1)
  one_stop part lt (Spent k weight) (Spent m heavy) p q =
      let parts : k ≡ m = p.0 ∙ sym q.0 in
      let weights : weight ≡ heavy = one_weight net wired (in_knot numbers part) (closed part lt) weight heavy p.1.weighs q.1.weighs in
      (λ i. Spent (parts i) (weights i))
  one_stop part lt (Rows k) (Filter i) p q = absurd q
  one_stop part lt (Rows k) NoMemory p q = absurd q
  one_stop part lt (Rows k) (Spent m heavy) p q = absurd (not_both part lt heavy p.1 q.1)
  one_stop part lt (Rows k) (Rows m) p q = let parts : k ≡ m = p.0 ∙ sym q.0 in (λ i. Rows (parts i))

  -- The next part without a table, and why.
  pub record IsLast (fault : ListFault) : Type 0 where
    pub part : ℕ
    pub next : IsNextPart net ports budget numbers count part
    pub stopped : IsStopped part fault

  pub one_last : (a b : ListFault) → IsLast a → IsLast b → a ≡ b
  one_last a b p q = elim (cases_lt p.part q.part) [
    | inl less ↦ absurd (not_found q.part q.next.tables q.next.before p.part less p.next.in_range p.next.has a p.stopped)
    | inr le ↦ elim (cases_lt q.part p.part) [
      | inl less ↦ absurd (not_found p.part p.next.tables p.next.before q.part less q.next.in_range q.next.has b q.stopped)
      | inr ge ↦
          let same : q.part ≡ p.part = omega (arith, le, ge) in
          one_stop p.part p.next.in_range a b p.stopped (subst (λ k. IsStopped k b) same q.stopped)
    ]
  ]
