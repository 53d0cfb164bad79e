-- Grammars as data: what a grammar derives, and what a reader with one token of sight makes of a list of tokens.
use Rattle.std.specs.Prelude.{◌≡◌, ℕ, zero, suc, Bool, true, false, cond, List, [], ◌∷◌, ◌++◌, length, ◌⊎◌}
use Rattle.reo_grammar.specs.Tokens.{Lexeme, Class, matches, AreReal}

-- A grammar whose derivations stand for values of a type. Ref names the rules that lead back to themselves.
-- nothing x: no token, with the value x. token c: one token of the class. both f g h: g and then h, joined by f.
-- made f g: g, with f of its value. either c g h: g or h; a reader takes g where the next token is of the class c.
-- chain f c g h: g and then any number of h, each joined by f to what stands before it, so grouped to the left; a
-- reader takes one more where the next token is of the class c. lined f g: g, with the line of its first token.
-- rule r: what the rule r derives. The classes of either and chain are for readers alone: what is derived, by
-- Derives below, knows neither a reading position nor a next token.
pub data Grammar (Ref : Type 0) (tree : Ref → Type 0) : Type 0 → Type 1 where
  nothing : {A : Type 0} → A → Grammar Ref tree A
  token : Class → Grammar Ref tree Lexeme
  both : {A B C : Type 0} → (A → B → C) → Grammar Ref tree A → Grammar Ref tree B → Grammar Ref tree C
  made : {A B : Type 0} → (A → B) → Grammar Ref tree A → Grammar Ref tree B
  either : {A : Type 0} → Class → Grammar Ref tree A → Grammar Ref tree A → Grammar Ref tree A
  chain : {A B : Type 0} → (A → B → A) → Class → Grammar Ref tree A → Grammar Ref tree B → Grammar Ref tree A
  lined : {A B : Type 0} → (ℕ → A → B) → Grammar Ref tree A → Grammar Ref tree B
  rule : (r : Ref) → Grammar Ref tree (tree r)

-- The line of the first token.
abbrev pub line_of : List Lexeme → ℕ
line_of [] = 0
line_of (t ∷ ts) = t.line

-- A first part, and then so many further parts, each joined to what stands before it.
abbrev pub Links : {A B : Type 0} → (A → B → A) → (List Lexeme → A → Type 0) → (List Lexeme → B → Type 0) → ℕ → List Lexeme → A → Type 0
Links f First Next zero ts x = First ts x
Links f First Next (suc n) ts z = (a : List Lexeme) × (b : List Lexeme) × (x : _) × (y : _) × (ts ≡ a ++ b) × Links f First Next n a x × Next b y × (f x y ≡ z)

-- The tokens are derived with this value, where R says what each rule derives.
abbrev pub Derives : {Ref : Type 0} {tree : Ref → Type 0} {A : Type 0} → ((r : Ref) → List Lexeme → tree r → Type 0) → Grammar Ref tree A → List Lexeme → A → Type 0
Derives R (nothing x) ts y = (ts ≡ []) × (x ≡ y)
Derives R (token c) ts t = (ts ≡ t ∷ []) × (matches c t ≡ true)
Derives R (both f g h) ts z = (a : List Lexeme) × (b : List Lexeme) × (x : _) × (y : _) × (ts ≡ a ++ b) × Derives R g a x × Derives R h b y × (f x y ≡ z)
Derives R (made f g) ts z = (x : _) × Derives R g ts x × (f x ≡ z)
Derives R (either c g h) ts x = Derives R g ts x ⊎ Derives R h ts x
Derives R (chain f c g h) ts x = (n : ℕ) × Links f (Derives R g) (Derives R h) n ts x
Derives R (lined f g) ts z = (x : _) × Derives R g ts x × (f (line_of ts) x ≡ z)
Derives R (rule r) ts x = R r ts x

-- What reading comes to: a value and the tokens left; a token that is refused, with all from it on; no more room.
pub data Outcome (A : Type 0) : Type 0 where
  got : A → List Lexeme → Outcome A
  bad : List Lexeme → Outcome A
  out : Outcome A

-- Reading goes on with what was got.
abbrev pub then : {A B : Type 0} → Outcome A → (A → List Lexeme → Outcome B) → Outcome B
then (got x r) f = f x r
then (bad r) f = bad r
then out f = out

-- The next token is of the class.
abbrev pub starts : Class → List Lexeme → Bool
starts c [] = false
starts c (t ∷ ts) = matches c t

-- Reading one token.
abbrev pub token_at : Class → List Lexeme → Outcome Lexeme
token_at c [] = bad []
token_at c (t ∷ ts) = cond (matches c t) (got t ts) (bad (t ∷ ts))

-- Reading further parts as long as the next token is of the class.
abbrev pub loop : {A B : Type 0} → (A → B → A) → Class → (List Lexeme → Outcome B) → ℕ → A → List Lexeme → Outcome A
loop f c next zero x ts = got x ts
loop f c next (suc n) x ts = cond (starts c ts) (then (next ts) (λ y r. loop f c next n (f x y) r)) (got x ts)

-- Reading with one token of sight, where o reads each rule.
abbrev pub read : {Ref : Type 0} {tree : Ref → Type 0} {A : Type 0} → ((r : Ref) → List Lexeme → Outcome (tree r)) → Grammar Ref tree A → List Lexeme → Outcome A
read o (nothing x) ts = got x ts
read o (token c) ts = token_at c ts
read o (both f g h) ts = then (read o g ts) (λ x r. then (read o h r) (λ y s. got (f x y) s))
read o (made f g) ts = then (read o g ts) (λ x r. got (f x) r)
read o (either c g h) ts = cond (starts c ts) (read o g ts) (read o h ts)
read o (chain f c g h) ts = then (read o g ts) (λ x r. loop f c (read o h) (length r) x r)
read o (lined f g) ts = then (read o g ts) (λ x r. got (f (line_of ts) x) r)
read o (rule r) ts = o r ts

-- What a rule derives with rules nested at most so deep.
abbrev pub Within : {Ref : Type 0} {tree : Ref → Type 0} → ((r : Ref) → Grammar Ref tree (tree r)) → ℕ → (r : Ref) → List Lexeme → tree r → Type 0
Within rules zero r ts x = ⊥
Within rules (suc k) r ts x = Derives (Within rules k) (rules r) ts x

-- Reading a rule with rules nested at most so deep.
abbrev pub reads : {Ref : Type 0} {tree : Ref → Type 0} → ((r : Ref) → Grammar Ref tree (tree r)) → ℕ → (r : Ref) → List Lexeme → Outcome (tree r)
reads rules zero r ts = out
reads rules (suc k) r ts = read (reads rules k) (rules r) ts

-- The tokens say this value: they are derived, with rules nested however deep.
abbrev pub Says : {Ref : Type 0} {tree : Ref → Type 0} {A : Type 0} → ((r : Ref) → Grammar Ref tree (tree r)) → Grammar Ref tree A → List Lexeme → A → Type 0
Says rules g ts x = (k : ℕ) × Derives (Within rules k) g ts x

-- Tokens that texts have go on behind these to something derived.
abbrev pub Begins : {Ref : Type 0} {tree : Ref → Type 0} {A : Type 0} → ((r : Ref) → Grammar Ref tree (tree r)) → Grammar Ref tree A → List Lexeme → Type 0
Begins {A = A} rules g a = (c : List Lexeme) × (x : A) × AreReal c × Says rules g (a ++ c) x

-- Where reading is refused, by the tokens left. None left: the tokens begin something derived and are nothing derived.
-- Otherwise the tokens before the first one left begin something derived, and those up to and including it begin nothing.
abbrev pub Refused : {Ref : Type 0} {tree : Ref → Type 0} {A : Type 0} → ((r : Ref) → Grammar Ref tree (tree r)) → Grammar Ref tree A → List Lexeme → List Lexeme → Type 0
Refused {A = A} rules g ts [] = Begins rules g ts × ((x : A) → Says rules g ts x → ⊥)
Refused {A = A} rules g ts (t ∷ u) = (a : List Lexeme) × (ts ≡ a ++ (t ∷ u)) × Begins rules g a × (Begins rules g (a ++ (t ∷ [])) → ⊥)
