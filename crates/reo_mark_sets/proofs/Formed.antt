-- The rows of mergers and replicators, by their kinds.
use Rattle.std.proofs.Common.{◌≡◌, inl, inr, ◌↔◌, ℕ, zero, suc, ◌+◌, ◌<◌, Bool, true, false, cond, List, length, slice_index, refl, sym, ap, ◌∙◌, subst, arith}
use Rattle.std.specs.Bool.{◌==◌}
use Rattle.std.proofs.lemmas.Bool.{cases_eq, lt-ltb, le-ltb, eq-eqb, ne_eqb}
use Rattle.reo_net_base.specs.declared.mark.Mark.{Mark}
use Rattle.reo_net_base.specs.declared.mark.Mark.TheVariants.{F, G, R, J}
use Rattle.reo_net_base.specs.declared.branches.Branches.{Branches}
use Rattle.reo_net_base.specs.declared.form.Form.{Form}
use Rattle.reo_net_base.specs.declared.form.Form.TheVariants.{Merging, Replicating}
use Rattle.reo_net_base.specs.Branching.{merger_mark, replicator_mark, inputs_and_output, input_and_outputs}
use Rattle.reo_net_base.specs.Forms.{rows_by, mark_by}
use Rattle.reo_mark_sets.specs.declared.marks.PlainMarks.{PlainMarks}
use Rattle.reo_mark_sets.specs.declared.stars.Star.{Star}
use Rattle.reo_mark_sets.specs.declared.stars.Star.TheVariants.{Merger, Replicator}
use Rattle.reo_mark_sets.specs.PlainMarks.{has, open_at}
use Rattle.reo_mark_sets.specs.Standing.{Works, IsNarrowed, SomeWorks}
use Rattle.reo_mark_sets.specs.Stars.{Kind, kind_mark, IsKind, IsStar, KindWorks, IsStarNarrowed}
use Rattle.reo_mark_sets.specs.Stars.Kind.{apart, rest, other}

-- A form whose rows are the kinds of a star, each once.
pub record HasKinds (form : Form) (star : Star) (center from to width : ℕ) (row_of : Kind → ℕ) : Type 0 where
  pub plain : (kind : Kind) → IsKind from to kind → row_of kind + 1 < rows_by form
  pub mark : (kind : Kind) (o : ℕ) → IsKind from to kind → o < width → mark_by form (row_of kind) o ≡ kind_mark star center kind o
  pub each : (row : ℕ) → row + 1 < rows_by form → (kind : Kind) × IsKind from to kind × (row_of kind ≡ row)

module _ (form : Form) (star : Star) (center from to : ℕ) (row_of : Kind → ℕ) (places : List ℕ) (sets : List PlainMarks) (kinds : HasKinds form star center from to (length places) row_of) where
  works_kind : (kind : Kind) → KindWorks star center from to places sets kind → Works form places sets (row_of kind)
  works_kind kind w = record {
    plain = kinds.plain kind w.is_kind;
    each = λ o lt. subst (λ (m : Mark). has (open_at sets (slice_index places o)) m ≡ true) (sym (kinds.mark kind o w.is_kind lt)) (w.each o lt);
  }

  kind_works : (row : ℕ) → Works form places sets row → (kind : Kind) × KindWorks star center from to places sets kind × (row_of kind ≡ row)
  kind_works row w =
      let k = kinds.each row w.plain in (
        k.0,
        record {
          is_kind = k.1;
          each = λ o lt. subst (λ (m : Mark). has (open_at sets (slice_index places o)) m ≡ true) (ap (λ (r : ℕ). mark_by form r o) (sym k.2) ∙ kinds.mark k.0 o k.1 lt) (w.each o lt);
        },
        k.2,
      )

  pub narrowed_by_kind : (new : List PlainMarks) → IsStarNarrowed star center from to places sets new → IsNarrowed form places sets new
  narrowed_by_kind new is = record {
    elsewhere = is.elsewhere;
    exact = λ o mark lt. (
      λ h. let k = (is.exact o mark lt).0 h in (row_of k.0, works_kind k.0 k.1, kinds.mark k.0 o k.1.is_kind lt ∙ k.2),
      λ w. let k = kind_works w.0 w.1 in (is.exact o mark lt).1 (k.0, k.1, sym (kinds.mark k.0 o k.1.is_kind lt) ∙ ap (λ (r : ℕ). mark_by form r o) k.2 ∙ w.2),
    );
  }

  pub some_by_kind : ((kind : Kind) × KindWorks star center from to places sets kind) ↔ SomeWorks form places sets
  some_by_kind = (λ k. (row_of k.0, works_kind k.0 k.1), λ w. let k = kind_works w.0 w.1 in (k.0, k.1))

-- The rows of a merger.
abbrev pub merger_row : ℕ → Kind → ℕ
merger_row n (apart x) = x
merger_row n rest = n
merger_row n other = n + 1

merger_marks : (n : ℕ) (kind : Kind) (o : ℕ) → IsKind 0 n kind → o < n + 1 → merger_mark n (merger_row n kind) o ≡ kind_mark Merger n kind o
merger_marks n (apart x) o is lt =
    ap (λ (t : Bool). cond t (inputs_and_output n (cond (o == x) F G) F o) (cond (x == n) (inputs_and_output n G R o) (cond (x == n + 1) (inputs_and_output n R G o) J))) (lt-ltb x n is.1)
    ∙ elim (cases_eq o n) [
      | inl e ↦ ap (λ (t : Bool). cond t (cond (o == x) F G) F) (le-ltb o n (omega arith)) ∙ sym (ap (λ (t : Bool). cond t F (cond (o == x) F G)) (eq-eqb o n e))
      | inr ne ↦ ap (λ (t : Bool). cond t (cond (o == x) F G) F) (lt-ltb o n (omega arith)) ∙ sym (ap (λ (t : Bool). cond t F (cond (o == x) F G)) (ne_eqb o n ne))
    ]
merger_marks n rest o is lt =
    (λ i. cond (le-ltb n n (omega arith) i) (inputs_and_output n (cond (o == n) F G) F o) (cond (eq-eqb n n refl i) (inputs_and_output n G R o) (cond (n == n + 1) (inputs_and_output n R G o) J)))
    ∙ elim (cases_eq o n) [
      | inl e ↦ ap (λ (t : Bool). cond t G R) (le-ltb o n (omega arith)) ∙ sym (ap (λ (t : Bool). cond t R G) (eq-eqb o n e))
      | inr ne ↦ ap (λ (t : Bool). cond t G R) (lt-ltb o n (omega arith)) ∙ sym (ap (λ (t : Bool). cond t R G) (ne_eqb o n ne))
    ]
merger_marks n other o is lt =
    (λ i. cond (le-ltb (n + 1) n (omega arith) i) (inputs_and_output n (cond (o == n + 1) F G) F o) (cond (ne_eqb (n + 1) n (λ e. omega (arith, e)) i) (inputs_and_output n G R o) (cond (eq-eqb (n + 1) (n + 1) refl i) (inputs_and_output n R G o) J)))
    ∙ elim (cases_eq o n) [
      | inl e ↦ ap (λ (t : Bool). cond t R G) (le-ltb o n (omega arith)) ∙ sym (ap (λ (t : Bool). cond t G R) (eq-eqb o n e))
      | inr ne ↦ ap (λ (t : Bool). cond t R G) (lt-ltb o n (omega arith)) ∙ sym (ap (λ (t : Bool). cond t G R) (ne_eqb o n ne))
    ]

merger_each : (n row : ℕ) → row + 1 < n + 3 → (kind : Kind) × IsKind 0 n kind × (merger_row n kind ≡ row)
merger_each n row lt = elim (cases_eq row n) [
  | inl e ↦ (rest, tt, sym e)
  | inr ne ↦ elim (cases_eq row (n + 1)) [
    | inl e ↦ (other, tt, sym e)
    | inr nf ↦ (apart row, (omega arith, omega (arith, lt, ne, nf)), refl)
  ]
]

merger_plain : (n : ℕ) (kind : Kind) → IsKind 0 n kind → merger_row n kind + 1 < n + 3
merger_plain n (apart x) is = omega (arith, is.1)
merger_plain n rest is = omega arith
merger_plain n other is = omega arith

pub merger_kinds : (branches : Branches) (width : ℕ) → width ≡ branches.count + 1 → HasKinds (Merging branches) Merger branches.count 0 branches.count width (merger_row branches.count)
merger_kinds branches width same = record {
  plain = merger_plain branches.count;
  mark = λ kind o is lt. merger_marks branches.count kind o is (omega (arith, lt, same));
  each = merger_each branches.count;
}

-- The rows of a replicator.
abbrev pub replicator_row : Kind → ℕ
replicator_row (apart x) = x + 1
replicator_row rest = 1
replicator_row other = 0

replicator_marks : (n : ℕ) (kind : Kind) (o : ℕ) → IsKind 1 (n + 1) kind → o < n + 1 → replicator_mark n (replicator_row kind) o ≡ kind_mark Replicator 0 kind o
replicator_marks n (apart x) o is lt =
    (λ i. cond (ne_eqb (x + 1) 0 (λ e. omega (arith, e)) i) F (cond (ne_eqb (x + 1) 1 (λ e. omega (arith, e, is.0)) i) (input_and_outputs R G o) (cond (lt-ltb (x + 1) (n + 2) (omega (arith, is.1)) i) (cond (o + 1 == x + 1) R G) J)))
    ∙ elim (cases_eq o 0) [
      | inl e ↦ ap (λ (t : Bool). cond t R G) (ne_eqb (o + 1) (x + 1) (λ f. omega (arith, e, f, is.0))) ∙ sym (ap (λ (t : Bool). cond t G (cond (o == x) R G)) (eq-eqb o 0 e))
      | inr ne ↦ ap (λ (t : Bool). cond t R G) (plus_eq o x) ∙ sym (ap (λ (t : Bool). cond t G (cond (o == x) R G)) (ne_eqb o 0 ne))
    ]
  where
    plus_eq : (o x : ℕ) → (o + 1 == x + 1) ≡ (o == x)
    plus_eq o x = elim (cases_eq o x) [
      | inl e ↦ eq-eqb (o + 1) (x + 1) (omega (arith, e)) ∙ sym (eq-eqb o x e)
      | inr ne ↦ ne_eqb (o + 1) (x + 1) (λ e. ne (omega (arith, e))) ∙ sym (ne_eqb o x ne)
    ]
replicator_marks n rest o is lt = refl
replicator_marks n other o is lt = both (o == 0)
  where
    both : (t : Bool) → F ≡ cond t F F
    both true = refl
    both false = refl

replicator_each : (n row : ℕ) → row + 1 < n + 3 → (kind : Kind) × IsKind 1 (n + 1) kind × (replicator_row kind ≡ row)
replicator_each n zero lt = (other, tt, refl)
replicator_each n (suc zero) lt = (rest, tt, refl)
replicator_each n (suc (suc row)) lt = (apart (suc row), (omega arith, omega (arith, lt)), omega arith)

replicator_plain : (n : ℕ) (kind : Kind) → IsKind 1 (n + 1) kind → replicator_row kind + 1 < n + 3
replicator_plain n (apart x) is = omega (arith, is.1)
replicator_plain n rest is = omega arith
replicator_plain n other is = omega arith

pub replicator_kinds : (branches : Branches) (width : ℕ) → width ≡ branches.count + 1 → HasKinds (Replicating branches) Replicator 0 1 (branches.count + 1) width replicator_row
replicator_kinds branches width same = record {
  plain = replicator_plain branches.count;
  mark = λ kind o is lt. replicator_marks branches.count kind o is (omega (arith, lt, same));
  each = replicator_each branches.count;
}

-- The ends of the two.
pub merger_star : (n width : ℕ) → width ≡ n + 1 → IsStar width n 0 n
merger_star n width same = record {
  center_in = omega arith;
  in_order = omega arith;
  spokes_in = omega arith;
  outside = λ o le lt e. omega (arith, lt, e);
  all = λ o lt. elim (cases_eq o n) [ inl e ↦ inl e | inr ne ↦ inr (omega arith, omega (arith, lt, ne, same)) ];
}

pub replicator_star : (n width : ℕ) → width ≡ n + 1 → IsStar width 0 1 (n + 1)
replicator_star n width same = record {
  center_in = omega arith;
  in_order = omega arith;
  spokes_in = omega arith;
  outside = λ o le lt e. omega (arith, le, e);
  all = λ o lt. elim (cases_eq o 0) [ inl e ↦ inl e | inr ne ↦ inr (omega (arith, ne), omega (arith, lt, same)) ];
}
