-- A turn of a loop over parts of scripts: it takes a token at least, and reading goes on with one part more.
use Rattle.std.proofs.Common.{◌≡◌, ℕ, ◌<◌, true, not, List, length}
use Rattle.reo_grammar.specs.Tokens.{Lexeme, Class}
use Rattle.reo_grammar.specs.Grammar.{Outcome, read, reads, loop, starts}
use Rattle.reo_grammar.specs.Grammar.Outcome.{got}
use Rattle.reo_grammar.specs.Conditions.{is_productive, is_nullable}
use Rattle.reo_grammar.proofs.Sound.{base}
use Rattle.reo_grammar.proofs.Complete.{shrinks, turn}
use Rattle.reo_script.specs.scripts.ScriptForms.{ScriptFormOf, script_rules}
use Rattle.reo_script.specs.scripts.Table.{script_sound}

-- Going on with further parts behind a first one.
abbrev pub goes_on : {A B : Type 0} → (A → B → A) → Class → ScriptFormOf B → ℕ → A → List Lexeme → Outcome A
goes_on f c h room x ts = loop f c (read (reads script_rules room) h) (length ts) x ts

-- One turn more, from these tokens to those.
abbrev pub Turns : {A B : Type 0} → (A → B → A) → Class → ScriptFormOf B → ℕ → A → B → List Lexeme → List Lexeme → Type 0
Turns f c h room x y ts r = (length r < length ts) × (goes_on f c h room x ts ≡ goes_on f c h room (f x y) r)

pub one_turn : {A B : Type 0} (f : A → B → A) (c : Class) (h : ScriptFormOf B) → is_productive h ≡ true → not (is_nullable h) ≡ true → (room : ℕ) (x : A) (y : B) (ts r : List Lexeme)
    → starts c ts ≡ true → read (reads script_rules room) h ts ≡ got y r → Turns f c h room x y ts r
one_turn f c h p n room x y ts r s e =
    (shrinks (base script_sound room) h p n ts y r e, turn f c (read (reads script_rules room) h) (shrinks (base script_sound room) h p n) x y ts r s e)
