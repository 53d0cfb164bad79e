-- A turn of each sort of loop: it takes a token at least, and reading goes on with one part more.
use Rattle.std.proofs.Common.{◌≡◌, ℕ, ◌<◌, true, not, List, length, refl, codes}
use Rattle.reo_values.specs.declared.operator.Binary.{Binary}
use Rattle.reo_grammar.specs.Tokens.{Lexeme, Class}
use Rattle.reo_grammar.specs.Tokens.Class.{fixed}
use Rattle.reo_grammar.specs.Grammar.{Outcome, read, reads, loop, starts}
use Rattle.reo_grammar.specs.Grammar.Grammar.{both, made}
use Rattle.reo_grammar.specs.Grammar.Outcome.{got}
use Rattle.reo_grammar.specs.Conditions.{is_productive, is_nullable}
use Rattle.reo_grammar.proofs.Sound.{base}
use Rattle.reo_grammar.proofs.Complete.{shrinks, turn}
use Rattle.reo_cursor.specs.Reading.{word_at}
use Rattle.reo_trees.specs.declared.terms.Opened.{Opened}
use Rattle.reo_trees.specs.Forms.{FormOf, word, ◌▸◌, listed, further}
use Rattle.reo_trees.specs.Operators.{Further, joined}
use Rattle.reo_trees.specs.Rules.{circuit_rules}
use Rattle.reo_trees.specs.Table.{circuit_sound}

-- Going on with further parts behind a first one.
abbrev pub goes_on : {A B : Type 0} → (A → B → A) → Class → FormOf B → ℕ → A → List Lexeme → Outcome A
goes_on f c h room x ts = loop f c (read (reads circuit_rules room) h) (length ts) x ts

-- One turn more, from these tokens to those.
abbrev pub Turns : {A B : Type 0} → (A → B → A) → Class → FormOf B → ℕ → A → B → List Lexeme → List Lexeme → Type 0
Turns f c h room x y ts r = (length r < length ts) × (goes_on f c h room x ts ≡ goes_on f c h room (f x y) r)

pub one_turn : {A B : Type 0} (f : A → B → A) (c : Class) (h : FormOf B) → is_productive h ≡ true → not (is_nullable h) ≡ true → (room : ℕ) (x : A) (y : B) (ts r : List Lexeme)
    → starts c ts ≡ true → read (reads circuit_rules room) h ts ≡ got y r → Turns f c h room x y ts r
one_turn f c h p n room x y ts r s e =
    (shrinks (base circuit_sound room) h p n ts y r e, turn f c (read (reads circuit_rules room) h) (shrinks (base circuit_sound room) h p n) x y ts r s e)

pub comma_turn : {A : Type 0} (g : FormOf A) → is_productive (further g) ≡ true → not (is_nullable (further g)) ≡ true → (room : ℕ) (xs : List A) (x : A) (ts mid r : List Lexeme)
    → starts (fixed (codes ",")) ts ≡ true → word_at (codes ",") ts ≡ got tt mid → read (reads circuit_rules room) g mid ≡ got x r
    → Turns listed (fixed (codes ",")) (further g) room xs x ts r
comma_turn g p n room xs x ts mid r s e f = one_turn listed (fixed (codes ",")) (further g) p n room xs x ts r s (rw (e, f) refl)

abbrev pub operated : FormOf Binary → FormOf Opened → FormOf Further
operated o g = both (λ o x. record { operator = o; right = x }) o g

pub operator_turn : (c : Class) (o : FormOf Binary) (g : FormOf Opened) → is_productive (operated o g) ≡ true → not (is_nullable (operated o g)) ≡ true
    → (room : ℕ) (x : Opened) (b : Binary) (y : Opened) (ts mid r : List Lexeme)
    → starts c ts ≡ true → read (reads circuit_rules room) o ts ≡ got b mid → read (reads circuit_rules room) g mid ≡ got y r
    → Turns joined c (operated o g) room x (record { operator = b; right = y }) ts r
operator_turn c o g p n room x b y ts mid r s e f =
    one_turn joined c (operated o g) p n room x (record { operator = b; right = y }) ts r s (rw (e, f) refl)

abbrev pub operated_by : Binary → List ℕ → FormOf Opened → FormOf Further
operated_by b w g = made (λ x. record { operator = b; right = x }) (word w ▸ g)

pub word_turn : (b : Binary) (w : List ℕ) (g : FormOf Opened) → is_productive (operated_by b w g) ≡ true → not (is_nullable (operated_by b w g)) ≡ true
    → (room : ℕ) (x y : Opened) (ts mid r : List Lexeme)
    → starts (fixed w) ts ≡ true → word_at w ts ≡ got tt mid → read (reads circuit_rules room) g mid ≡ got y r
    → Turns joined (fixed w) (operated_by b w g) room x (record { operator = b; right = y }) ts r
word_turn b w g p n room x y ts mid r s e f =
    one_turn joined (fixed w) (operated_by b w g) p n room x (record { operator = b; right = y }) ts r s (rw (e, f) refl)
