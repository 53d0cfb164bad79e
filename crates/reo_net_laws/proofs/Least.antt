-- A first colouring exists.
use Rattle.std.proofs.Common.{◌≡◌, ◌≢◌, inl, inr, ℕ, zero, suc, ◌<◌, List, [], ◌∷◌, Option, refl, ap, ◌∙◌, subst, arith}
use Rattle.std.specs.declared.cmp.Ordering.{Ordering}
use Rattle.std.specs.declared.cmp.Ordering.TheVariants.{Less, Equal, Greater}
use Rattle.std.specs.Ordering.{ordering_reverse}
use Rattle.std.specs.Cmp.Lexicographic.{nat_list_cmp_total}
use Rattle.reo_values.specs.declared.value.Value.{Value}
use Rattle.reo_net_base.specs.Net.{Net, Side, all_sides, row_count}
use Rattle.reo_net_base.specs.Colouring.{AreRows, IsColouring}
use Rattle.reo_net_base.specs.First.{Position, key_at, positions, order_by}
use Rattle.reo_net_base.specs.Wired.{IsWired, IsOrder}
use Rattle.reo_net_laws.specs.JamRows.{jam_rows, no_items}
use Rattle.reo_net_laws.specs.FirstLaws.{FirstExists}
use Rattle.reo_net_laws.proofs.JamRows.{jam_colouring}
use Rattle.reo_net_laws.proofs.Fill.{colouring_or}
use Rattle.reo_net_laws.proofs.Search.{Decided, eq_or}

less_or : (o : Ordering) → Decided (o ≡ Less)
less_or Less = inl refl
less_or Equal = inr (λ e. cc)
less_or Greater = inr (λ e. cc)

pub own_reverse : (o : Ordering) → o ≡ ordering_reverse o → o ≢ Less
own_reverse Less e h = cc
own_reverse Equal e h = cc
own_reverse Greater e h = cc

not_before_itself : (ps : List Position) (rows : List ℕ) → order_by ps rows rows ≢ Less
not_before_itself ps rows = own_reverse (order_by ps rows rows) (nat_list_cmp_total.antisymm (key_at ps rows) (key_at ps rows))

-- A colouring, the best so far.
record Best (net : Net) : Type 0 where
  pub rows : List ℕ
  pub items : List (Option Value)
  pub colouring : IsColouring net rows items

-- A colouring that is after nothing that another is not after, and after nothing that has been tried.
record IsBetter (net : Net) (ps : List Position) (old new : Best net) (Tried : List ℕ → Type 0) : Type 0 where
  pub not_after : (r : List ℕ) → order_by ps r old.rows ≢ Less → order_by ps r new.rows ≢ Less
  pub tried : (r : List ℕ) (items : List (Option Value)) → Tried r → IsColouring net r items → order_by ps r new.rows ≢ Less

-- Rows of some sides, with others in front.
abbrev IsOf : List Side → (List ℕ → List ℕ) → List ℕ → Type 0
IsOf ss front r = (rs : List ℕ) × AreRows ss rs × (r ≡ front rs)

-- The same, of one side more, whose row is below a bound.
abbrev IsOfMore : List Side → (List ℕ → List ℕ) → ℕ → List ℕ → Type 0
IsOfMore ss front n r = (q : ℕ) × (q < n) × IsOf ss (λ rs. front (q ∷ rs)) r

no_more : (front : List ℕ → List ℕ) (r x : List ℕ) → AreRows [] x → r ≡ front x → r ≡ front []
no_more front r [] h e = e
no_more front r (y ∷ ys) h e = absurd h

one_more : (s : Side) (ss : List Side) (front : List ℕ → List ℕ) (r x : List ℕ) → AreRows (s ∷ ss) x → r ≡ front x → IsOfMore ss front (row_count s) r
one_more s ss front r [] h e = absurd h
one_more s ss front r (y ∷ ys) h e = (y, h.0, (ys, h.1, e))

module _ (net : Net) (wired : IsWired net) (order : List ℕ) (is_order : IsOrder net order) (ps : List Position) where
  try_one : (old : Best net) (x : List ℕ) → (new : Best net) × IsBetter net ps old new (λ r. r ≡ x)
  try_one old x =
      elim (colouring_or net wired order is_order x) [
        | inr none ↦ (old, record { not_after = λ r h. h; tried = λ r items is col. absurd (none (items, subst (λ (y : List ℕ). IsColouring net y items) is col)) })
        | inl found ↦ elim (less_or (order_by ps x old.rows)) [
          | inl less ↦ (
            record { rows = x; items = found.0; colouring = found.1 },
            record {
              not_after = λ r h g. h (nat_list_cmp_total.trans (key_at ps r) (key_at ps x) (key_at ps old.rows) g less);
              tried = λ r items is col. rw is (not_before_itself ps x);
            },
          )
          | inr not_less ↦ (old, record { not_after = λ r h. h; tried = λ r items is col. rw is not_less })
        ]
      ]

  try_below : (ss : List Side) → ((front : List ℕ → List ℕ) (old : Best net) → (new : Best net) × IsBetter net ps old new (IsOf ss front)) → (front : List ℕ → List ℕ) (old : Best net) (n : ℕ)
      → (new : Best net) × IsBetter net ps old new (IsOfMore ss front n)
  try_below ss rest front old zero = (old, record { not_after = λ r h. h; tried = λ r items is col. absurd (omega (arith, is.1)) })
  try_below ss rest front old (suc n) =
      let before = try_below ss rest front old n in
      let here = rest (λ rs. front (n ∷ rs)) before.0 in (
        here.0,
        record {
          not_after = λ r h. here.1.not_after r (before.1.not_after r h);
          tried = λ r items is col. elim (eq_or is.0 n) [
            | inl same ↦ here.1.tried r items (is.2.0, is.2.1, is.2.2 ∙ ap (λ (q : ℕ). front (q ∷ is.2.0)) same) col
            | inr other ↦ here.1.not_after r (before.1.tried r items (is.0, omega (arith, is.1, other), is.2) col)
          ];
        },
      )

  try_all : (ss : List Side) (front : List ℕ → List ℕ) (old : Best net) → (new : Best net) × IsBetter net ps old new (IsOf ss front)
  try_all [] front old =
      let one = try_one old (front []) in
      (one.0, record { not_after = one.1.not_after; tried = λ r items is col. one.1.tried r items (no_more front r is.0 is.1 is.2) col })
  try_all (s ∷ ss) front old =
      let all = try_below ss (try_all ss) front old (row_count s) in
      (all.0, record { not_after = all.1.not_after; tried = λ r items is col. all.1.tried r items (one_more s ss front r is.0 is.1 is.2) col })

pub first_exists : FirstExists
first_exists net wired order is_order turn =
    let all = try_all net wired order is_order (positions net turn) (all_sides net.primitives) (λ rs. rs) (record { rows = jam_rows net; items = no_items net; colouring = jam_colouring net wired }) in
    (all.0.rows, all.0.items, record { colouring = all.0.colouring; least = λ others items col. all.1.tried others items (others, col.rows_fit.in_tables, refl) col })
