-- The order of lists of marks.
use Rattle.std.proofs.Common.{◌≡◌, inl, inr, ◌<◌, List, sym, ◌∙◌, subst, arith}
use Rattle.std.proofs.lemmas.Bool.{cases_lt}
use Rattle.reo_net_base.specs.declared.mark.Mark.{Mark}
use Rattle.reo_listing.specs.base.Tables.{StandsBefore, mark_of, mark_number}

pub never_before : (a : List Mark) → StandsBefore a a → ⊥
never_before a it = let less = it.before in omega (arith, less)

pub before_on : (a b c : List Mark) → StandsBefore a b → StandsBefore b c → StandsBefore a c
before_on a b c p q = elim (cases_lt p.place q.place) [
  | inl less ↦ record {
    place = p.place;
    in_first = p.in_first;
    in_second = let it = q.in_second in omega (arith, it, less);
    alike = λ k lt. p.alike k lt ∙ q.alike k (omega (arith, lt, less));
    before = subst (λ m. mark_number (mark_of a p.place) < mark_number m) (q.alike p.place less) p.before;
  }
  | inr le ↦ elim (cases_lt q.place p.place) [
    | inl less ↦ record {
      place = q.place;
      in_first = let it = p.in_first in omega (arith, it, less);
      in_second = q.in_second;
      alike = λ k lt. p.alike k (omega (arith, lt, less)) ∙ q.alike k lt;
      before = subst (λ m. mark_number m < mark_number (mark_of c q.place)) (sym (p.alike q.place less)) q.before;
    }
    | inr ge ↦
        let same : q.place ≡ p.place = omega (arith, le, ge) in
        let second : mark_number (mark_of b p.place) < mark_number (mark_of c p.place) = subst (λ k. mark_number (mark_of b k) < mark_number (mark_of c k)) same q.before in
        let first = p.before in
        record {
          place = p.place;
          in_first = p.in_first;
          in_second = let it = q.in_second in omega (arith, it, same);
          alike = λ k lt. p.alike k lt ∙ q.alike k (omega (arith, lt, same));
          before = omega (arith, first, second);
        }
  ]
]
