-- The first is one.
use Rattle.std.proofs.Common.{◌≡◌, ◌≢◌, ℕ, zero, suc, ◌+◌, ◌<◌, List, [], ◌∷◌, ◌++◌, Bool, true, false, cond, length, get_or, refl, sym, ◌∙◌, arith, zero-add, add-zero}
use Rattle.std.proofs.lemmas.Grind.{same_number_lists}
use Rattle.std.specs.declared.cmp.Ordering.{Ordering}
use Rattle.std.specs.declared.cmp.Ordering.TheVariants.{Less, Equal, Greater}
use Rattle.std.specs.Ordering.{ordering_reverse}
use Rattle.std.specs.Cmp.Lexicographic.{nat_list_cmp_total}
use Rattle.std.specs.FinMap.{slice_cmp-IsAntisymmetric, nat_cmp-IsAntisymmetric}
use Rattle.reo_net_base.specs.Net.{Side, all_sides}
use Rattle.reo_net_base.specs.First.{Position, key_at, leading_positions, class_positions, row_positions, positions, order_by}
use Rattle.reo_net_laws.specs.Keys.{within}
use Rattle.reo_net_laws.specs.FirstLaws.{FirstIsOneInside, FirstIsOne}
use Rattle.reo_net_laws.proofs.OneItems.{one_items, one_colouring}
use Rattle.reo_net_laws.proofs.Sets.{everywhere, everywhere_closed}
use Rattle.reo_net_laws.proofs.FirstInside.{first_inside}

neither : (o p : Ordering) → o ≡ ordering_reverse p → o ≢ Less → p ≢ Less → o ≡ Equal
neither Less p e h g = absurd (h refl)
neither Equal p e h g = refl
neither Greater Less e h g = absurd (g refl)
neither Greater Equal e h g = cc
neither Greater Greater e h g = cc

same_keys : (ps : List Position) (a b : List ℕ) → order_by ps a b ≢ Less → order_by ps b a ≢ Less → key_at ps a ≡ key_at ps b
same_keys ps a b h g =
    slice_cmp-IsAntisymmetric nat_cmp-IsAntisymmetric (key_at ps a) (key_at ps b)
    (neither (order_by ps a b) (order_by ps b a) (nat_list_cmp_total.antisymm (key_at ps a) (key_at ps b)) h g)

module _ (inside : ℕ → Bool) (a b : List ℕ) where
  -- At each place of the set both have the same number.
  abbrev Agree : List Position → Type 0
  Agree [] = Unit {0}
  Agree (p ∷ ps) = (inside p.side ≡ true → p.number (get_or a p.side 0) ≡ p.number (get_or b p.side 0)) × Agree ps

  agree : (ps : List Position) → key_at (within inside ps) a ≡ key_at (within inside ps) b → Agree ps
  agree [] h = tt
  agree (p ∷ ps) h =
      elim (inside p.side) as (λ t. inside p.side ≡ t → key_at (cond t (p ∷ within inside ps) (within inside ps)) a ≡ key_at (cond t (p ∷ within inside ps) (within inside ps)) b → Agree (p ∷ ps)) [
        | true ↦ λ e same.
            let first : p.number (get_or a p.side 0) ≡ p.number (get_or b p.side 0) = cc in
            let later : key_at (within inside ps) a ≡ key_at (within inside ps) b = cc in
            (λ g. first, agree ps later)
        | false ↦ λ e same. (λ g. let calm : false ≡ true = sym e ∙ g in cc, agree ps same)
      ] refl h

  agree_later : (ps qs : List Position) → Agree (ps ++ qs) → Agree qs
  agree_later [] qs h = h
  agree_later (p ∷ ps) qs h = agree_later ps qs h.1

  rows_agree : (ss : List Side) (k : ℕ) → Agree (row_positions ss k) → (j : ℕ) → j < length ss → inside (k + j) ≡ true → get_or a (k + j) 0 ≡ get_or b (k + j) 0
  rows_agree [] k h j lt g = absurd (omega arith)
  rows_agree (s ∷ ss) k h zero lt g = rw add-zero (h.0 (rw add-zero at g))
  rows_agree (s ∷ ss) k h (suc j) lt g =
      let shift : k + suc j ≡ suc k + j = omega arith in
      rw shift (rows_agree ss (suc k) h.1 j (omega arith) (rw shift at g))

pub one_inside : FirstIsOneInside
one_inside net wired order is_order inside closed turn a b xs ys first_a first_b =
    let ss : List Side = all_sides net.primitives in
    let keys = same_keys (within inside (positions net turn)) a b (first_b.least a xs first_a.assignment) (first_a.least b ys first_b.assignment) in
    let rows : (k : ℕ) → k < length ss → inside k ≡ true → get_or a k 0 ≡ get_or b k 0 = λ k lt h.
    rw zero-add at (rows_agree inside a b ss 0 (agree_later inside a b (class_positions turn ss 0) (row_positions ss 0)
    (agree_later inside a b (leading_positions turn ss 0) (class_positions turn ss 0 ++ row_positions ss 0) (agree inside a b (positions net turn) keys))) k lt (rw zero-add h)) in
    record { rows = rows; items = λ j d lt h. one_items net wired order is_order inside closed a b xs ys first_a.assignment first_b.assignment rows j lt d h }

pub one_first : FirstIsOne
one_first net wired order is_order turn a b xs ys first_a first_b =
    let in_a = first_inside net wired turn a xs first_a everywhere (everywhere_closed net) in
    let in_b = first_inside net wired turn b ys first_b everywhere (everywhere_closed net) in
    let same = one_inside net wired order is_order everywhere (everywhere_closed net) turn a b xs ys in_a in_b in
    let rows : a ≡ b = same_number_lists a b (in_a.assignment.one_row ∙ sym in_b.assignment.one_row) (λ k lt. same.rows k (omega (arith, in_a.assignment.one_row)) refl) in
    (rows, one_colouring net wired order is_order b xs ys (rw rows at first_a.colouring) first_b.colouring)
