-- Texts in quotes: where their insides end.
use Rattle.std.proofs.Common.{◌≡◌, ℕ, Bool, true, false, ◌&&◌, ◌||◌, not, cond, List, [], ◌∷◌, ◌++◌, refl, sym, ◌∙◌, ap, append_assoc, arith, ◌==◌, nat_le}
use Rattle.std.proofs.lemmas.Bool.{and_parts, not-true, and_from}
use Rattle.std.proofs.lemmas.Bool.Decides.{nat_tests}
use Rattle.reo_grammar.specs.Bytes.{is_unescaped, is_escaped, is_empty}
use Rattle.reo_grammar.specs.Spelling.{is_closed}
use Rattle.reo_lexer.specs.Faults.{is_body, stops, is_break, is_wrong}
use Rattle.reo_lexer.specs.Skipping.{Inside, inside}

-- The byte goes on inside.
abbrev pub is_more : Bool → ℕ → Bool
is_more true b = is_escaped b
is_more false b = b == 92 || is_unescaped b

-- No byte goes on.
abbrev pub halts : Bool → List ℕ → Bool
halts e [] = true
halts e (b ∷ bs) = not (is_more e b)

abbrev pub Goes : Bool → List ℕ → Inside → Type 0
Goes e bs i = (body : List ℕ) × (bs ≡ body ++ i.left) × (is_body e body i.escape ≡ true) × (halts i.escape i.left ≡ true)

here : (e : Bool) (bs : List ℕ) → halts e bs ≡ true → Goes e bs (record { escape = e; left = bs })
here true bs h = ([], refl, refl, h)
here false bs h = ([], refl, refl, h)

unescaped-step : (x p g t : Bool) → x ≡ false → p ≡ true → g ≡ true → cond x t (p && g) ≡ true
unescaped-step false true g t h k l = l
unescaped-step true p g t h k l = absurd (cc)
unescaped-step false false g t h k l = absurd (cc)

escape-step : (x t o : Bool) → x ≡ true → t ≡ true → cond x t o ≡ true
escape-step true t o h k = k
escape-step false t o h k = absurd (cc)

no-more : (x y : Bool) → x ≡ false → y ≡ false → not (x || y) ≡ true
no-more false false h k = refl
no-more true y h k = absurd (cc)
no-more false true h k = absurd (cc)

further_true : (b : ℕ) (bs : List ℕ) (i : Inside) → is_escaped b ≡ true → Goes false bs i → Goes true (b ∷ bs) i
further_true b bs i h (body, w, g, k) = (b ∷ body, ap (λ l. b ∷ l) w, and_from (is_escaped b) (is_body false body i.escape) h g, k)

further_escape : (b : ℕ) (bs : List ℕ) (i : Inside) → (b == 92) ≡ true → Goes true bs i → Goes false (b ∷ bs) i
further_escape b bs i h (body, w, g, k) = (b ∷ body, ap (λ l. b ∷ l) w, rw h g, k)

further_unescaped : (b : ℕ) (bs : List ℕ) (i : Inside) → (b == 92) ≡ false → is_unescaped b ≡ true → Goes false bs i → Goes false (b ∷ bs) i
further_unescaped b bs i h p (body, w, g, k) = (b ∷ body, ap (λ l. b ∷ l) w, unescaped-step (b == 92) (is_unescaped b) (is_body false body i.escape) (is_body true body i.escape) h p g, k)

-- The inside, and what is left behind it.
pub inside-goes : (e : Bool) (bs : List ℕ) → Goes e bs (inside e bs)
inside-goes true [] = here true [] refl
inside-goes false [] = here false [] refl
inside-goes true (b ∷ bs) = by (is_escaped b) refl (inside-goes false bs)
  where
    by : (x : Bool) → is_escaped b ≡ x → Goes false bs (inside false bs) → Goes true (b ∷ bs) (cond x (inside false bs) (record { escape = true; left = b ∷ bs }))
    by true h g = further_true b bs (inside false bs) h g
    by false h g = here true (b ∷ bs) (rw h refl)
inside-goes false (b ∷ bs) = by (b == 92) (is_unescaped b) refl refl (inside-goes true bs) (inside-goes false bs)
  where
    by : (x y : Bool) → (b == 92) ≡ x → is_unescaped b ≡ y → Goes true bs (inside true bs) → Goes false bs (inside false bs)
        → Goes false (b ∷ bs) (cond x (inside true bs) (cond y (inside false bs) (record { escape = false; left = b ∷ bs })))
    by true y h p g k = further_escape b bs (inside true bs) h g
    by false true h p g k = further_unescaped b bs (inside false bs) h p k
    by false false h p g k = here false (b ∷ bs) (no-more (b == 92) (is_unescaped b) h p)

-- An inside that no byte goes on behind is the whole of it.
pub goes-inside : (e to : Bool) (body left : List ℕ) → is_body e body to ≡ true → halts to left ≡ true → inside e (body ++ left) ≡ record { escape = to; left = left }
goes-inside true true [] [] g h = refl
goes-inside false false [] [] g h = refl
goes-inside true false [] left g h = absurd (cc)
goes-inside false true [] left g h = absurd (cc)
goes-inside true true [] (b ∷ r) g h = let n : is_escaped b ≡ false = not-true (is_escaped b) h in rw n refl
goes-inside false false [] (b ∷ r) g h = none (b == 92) (is_unescaped b) (not-true (b == 92 || is_unescaped b) h)
  where
    none : (x y : Bool) → (x || y) ≡ false → cond x (inside true r) (cond y (inside false r) (record { escape = false; left = b ∷ r })) ≡ record { escape = false; left = b ∷ r }
    none true y n = absurd (cc)
    none false true n = absurd (cc)
    none false false n = refl
goes-inside true to (b ∷ body) left g h =
    let p : is_escaped b ≡ true = (and_parts (is_escaped b) (is_body false body to) g).0 in
    rw p (goes-inside false to body left ((and_parts (is_escaped b) (is_body false body to) g).1) h)
goes-inside false to (b ∷ body) left g h = by (b == 92) (is_unescaped b) g
    (λ k. goes-inside true to body left k h) (λ k. goes-inside false to body left k h)
  where
    by : (x y : Bool) → cond x (is_body true body to) (y && is_body false body to) ≡ true
        → (is_body true body to ≡ true → inside true (body ++ left) ≡ record { escape = to; left = left })
        → (is_body false body to ≡ true → inside false (body ++ left) ≡ record { escape = to; left = left })
        → cond x (inside true (body ++ left)) (cond y (inside false (body ++ left)) (record { escape = false; left = b ∷ (body ++ left) })) ≡ record { escape = to; left = left }
    by true y k i j = i k
    by false true k i j = j k
    by false false k i j = absurd (cc)

-- Closing goes by what stands behind the inside.
pub goes-closed : (e to : Bool) (body rest : List ℕ) → is_body e body to ≡ true → is_closed e (body ++ rest) ≡ is_closed to rest
goes-closed true true [] rest g = refl
goes-closed false false [] rest g = refl
goes-closed true false [] rest g = absurd (cc)
goes-closed false true [] rest g = absurd (cc)
goes-closed true to (b ∷ body) rest g =
    let p : is_escaped b ≡ true = (and_parts (is_escaped b) (is_body false body to) g).0 in
    rw p (goes-closed false to body rest ((and_parts (is_escaped b) (is_body false body to) g).1))
goes-closed false to (b ∷ body) rest g = by (b == 92) (is_unescaped b) refl refl g
    (λ k. goes-closed true to body rest k) (λ k. goes-closed false to body rest k)
  where
    unescaped-no-quote : is_unescaped b ≡ true → (b == 34) ≡ false
    unescaped-no-quote h = not-true (b == 34) ((and_parts (not (b == 34)) (not (b == 92)) ((and_parts (nat_le 32 b && nat_le b 126) (not (b == 34) && not (b == 92)) h).1)).0)

    escape-no-quote : (b == 92) ≡ true → (b == 34) ≡ false
    escape-no-quote h = let n : b ≡ 92 = grind (arith, nat_tests) in rw n refl

    by : (x y : Bool) → (b == 92) ≡ x → is_unescaped b ≡ y → cond x (is_body true body to) (y && is_body false body to) ≡ true
        → (is_body true body to ≡ true → is_closed true (body ++ rest) ≡ is_closed to rest)
        → (is_body false body to ≡ true → is_closed false (body ++ rest) ≡ is_closed to rest)
        → cond (b == 34) (is_empty (body ++ rest)) (cond x (is_closed true (body ++ rest)) (y && is_closed false (body ++ rest))) ≡ is_closed to rest
    by true y h p k i j = rw (escape-no-quote h) (i k)
    by false true h p k i j = rw (unescaped-no-quote p) (j k)
    by false false h p k i j = absurd (cc)

empty-is : (bs : List ℕ) → is_empty bs ≡ true → bs ≡ []
empty-is [] h = refl
empty-is (b ∷ bs) h = absurd (cc)

-- What is closed is an inside and the closing quote.
pub closed-goes : (e : Bool) (bs : List ℕ) → is_closed e bs ≡ true → (body : List ℕ) × (bs ≡ body ++ 34 ∷ []) × (is_body e body false ≡ true)
closed-goes true [] h = absurd (cc)
closed-goes false [] h = absurd (cc)
closed-goes true (b ∷ bs) h =
    let (body, w, g) = closed-goes false bs ((and_parts (is_escaped b) (is_closed false bs) h).1) in
    (b ∷ body, ap (λ l. b ∷ l) w, and_from (is_escaped b) (is_body false body false) ((and_parts (is_escaped b) (is_closed false bs) h).0) g)
closed-goes false (b ∷ bs) h = by (b == 34) (b == 92) refl refl h (λ k. closed-goes true bs k) (λ k. closed-goes false bs k)
  where
    by : (x y : Bool) → (b == 34) ≡ x → (b == 92) ≡ y → cond x (is_empty bs) (cond y (is_closed true bs) (is_unescaped b && is_closed false bs)) ≡ true
        → (is_closed true bs ≡ true → (body : List ℕ) × (bs ≡ body ++ 34 ∷ []) × (is_body true body false ≡ true))
        → (is_closed false bs ≡ true → (body : List ℕ) × (bs ≡ body ++ 34 ∷ []) × (is_body false body false ≡ true))
        → (body : List ℕ) × (b ∷ bs ≡ body ++ 34 ∷ []) × (is_body false body false ≡ true)
    by true y q e k i j = let n : b ≡ 34 = grind (arith, nat_tests) in ([], rw (n, empty-is bs k) refl, refl)
    by false true q e k i j = let (body, w, g) = i k in (b ∷ body, ap (λ l. b ∷ l) w, escape-step (b == 92) (is_body true body false) (is_unescaped b && is_body false body false) e g)
    by false false q e k i j =
        let (body, w, g) = j ((and_parts (is_unescaped b) (is_closed false bs) k).1) in
        (b ∷ body, ap (λ l. b ∷ l) w, unescaped-step (b == 92) (is_unescaped b) (is_body false body false) (is_body true body false) e ((and_parts (is_unescaped b) (is_closed false bs) k).0) g)

-- No longer bytes are closed.
pub closed-longest : (bs more : List ℕ) → is_closed false bs ≡ true → is_closed false (bs ++ more) ≡ true → more ≡ []
closed-longest bs more h k =
    let (body, w, g) = closed-goes false bs h in
    let e : (body ++ 34 ∷ []) ++ more ≡ body ++ (34 ∷ more) = append_assoc body (34 ∷ []) more in
    empty-is more (sym (goes-closed false false body (34 ∷ more) g) ∙ (rw e at (rw w at k)))

wrong-true : (e : Bool) (b : ℕ) → is_wrong e b ≡ true → not (is_more e b) ≡ true
wrong-true true b h = (and_parts (not (is_escaped b)) (not (is_break b)) h).0
wrong-true false b h = by (is_unescaped b) (b == 92) (b == 34) ((and_parts _ _ h).0)
  where
    by : (p x y : Bool) → (not p && not (y || x)) ≡ true → not (x || p) ≡ true
    by true x y k = absurd (cc)
    by false true true k = absurd (cc)
    by false true false k = absurd (cc)
    by false false y k = refl

break-false : (e : Bool) (b : ℕ) → is_break b ≡ true → not (is_more e b) ≡ true
break-false e b h = by (b == 10) refl h
  where
    by : (x : Bool) → (b == 10) ≡ x → (x || b == 13) ≡ true → not (is_more e b) ≡ true
    by true q k = let n : b ≡ 10 = grind (arith, nat_tests) in rw n (elim e as (λ v. not (is_more v 10) ≡ true) [ true ↦ refl | false ↦ refl ])
    by false q k = let n : b ≡ 13 = grind (arith, nat_tests) in rw n (elim e as (λ v. not (is_more v 13) ≡ true) [ true ↦ refl | false ↦ refl ])

pub wrong-halts : (e : Bool) (b : ℕ) (r : List ℕ) → is_wrong e b ≡ true → halts e (b ∷ r) ≡ true
wrong-halts e b r h = wrong-true e b h

pub stops-halts : (e : Bool) (r : List ℕ) → stops r ≡ true → halts e r ≡ true
stops-halts e [] h = refl
stops-halts e (b ∷ r) h = break-false e b h
