-- What is seen, one thing after another.
use Rattle.std.proofs.Common.{◌≡◌, ◌⊎◌, inl, inr, ℕ, ◌+◌, Bool, true, List, refl, ◌∙◌, subst, arith}
use Rattle.std.proofs.lemmas.Bool.{cases_eq}
use Rattle.reo_rows.specs.RowFlags.{flag, AreAlikeTables}
use Rattle.reo_rows.specs.Seeing.{AreSeen, Below}

pub alike_twice : (a b c : List (List Bool)) → AreAlikeTables a b → AreAlikeTables b c → AreAlikeTables a c
alike_twice a b c p q = record { rows = q.rows ∙ p.rows; width = λ row. q.width row ∙ p.width row }

pub seen_none : (uses : ℕ → ℕ → ℕ → Type 0) (table : List (List Bool)) → AreSeen (Below uses 0) table table
seen_none uses table = record {
  alike = record { rows = refl; width = λ row. refl };
  stays = λ j code h. h;
  sound = λ j code h. inl h;
  whole = λ j code u. absurd (omega (arith, u.1));
}

-- What was seen by one and then by another.
pub seen_both : (one two : ℕ → ℕ → Type 0) (a b c : List (List Bool)) → AreSeen one a b → AreSeen two b c → AreSeen (λ j code. one j code ⊎ two j code) a c
seen_both one two a b c p q = record {
  alike = alike_twice a b c p.alike q.alike;
  stays = λ j code h. q.stays j code (p.stays j code h);
  sound = λ j code h. elim (q.sound j code h) [
    | inr u ↦ inr (inr u)
    | inl was ↦ elim (p.sound j code was) [ inl first ↦ inl first | inr u ↦ inr (inl u) ]
  ];
  whole = λ j code u. elim u [ inl x ↦ q.stays j code (p.whole j code x) | inr y ↦ q.whole j code y ];
}

-- The same by other words.
pub seen_same : (one two : ℕ → ℕ → Type 0) (a b : List (List Bool)) → ((j code : ℕ) → one j code → two j code) → ((j code : ℕ) → two j code → one j code) → AreSeen one a b → AreSeen two a b
seen_same one two a b to from p = record {
  alike = p.alike;
  stays = p.stays;
  sound = λ j code h. elim (p.sound j code h) [ inl was ↦ inl was | inr u ↦ inr (to j code u) ];
  whole = λ j code u. p.whole j code (from j code u);
}

module _ (uses : ℕ → ℕ → ℕ → Type 0) (n j code : ℕ) where
  below_or_here : Below uses n j code ⊎ uses n j code → Below uses (n + 1) j code
  below_or_here (inl u) = (u.0, omega (arith, u.1), u.2)
  below_or_here (inr u) = (n, omega arith, u)

  here_or_below : Below uses (n + 1) j code → Below uses n j code ⊎ uses n j code
  here_or_below u = elim (cases_eq u.0 n) [
    | inl same ↦ inr (subst (λ (m : ℕ). uses m j code) same u.2)
    | inr other ↦ inl (u.0, omega (arith, u.1, other), u.2)
  ]

-- One more of them.
pub seen_more : (uses : ℕ → ℕ → ℕ → Type 0) (n : ℕ) (a b c : List (List Bool)) → AreSeen (Below uses n) a b → AreSeen (uses n) b c → AreSeen (Below uses (n + 1)) a c
seen_more uses n a b c p q =
    seen_same (λ j code. Below uses n j code ⊎ uses n j code) (Below uses (n + 1)) a c (below_or_here uses n) (here_or_below uses n) (seen_both (Below uses n) (uses n) a b c p q)

-- Nothing new, where what is used was seen before.
pub seen_still : (uses : ℕ → ℕ → Type 0) (table : List (List Bool)) → ((j code : ℕ) → uses j code → flag table j code ≡ true) → AreSeen uses table table
seen_still uses table was = record { alike = record { rows = refl; width = λ row. refl }; stays = λ j code h. h; sound = λ j code h. inl h; whole = was }
