-- Where a part is refused, so is what it is a part of.
use Rattle.std.proofs.Common.{◌≡◌, ℕ, zero, suc, ◌-◌, true, List, [], ◌∷◌, Err, refl, subst, arith, codes}
use Rattle.reo_grammar.specs.Tokens.{Lexeme, Class}
use Rattle.reo_grammar.specs.Tokens.Class.{fixed, name}
use Rattle.reo_grammar.specs.Grammar.{Outcome, read, reads, starts, then}
use Rattle.reo_grammar.specs.Grammar.Outcome.{got}
use Rattle.reo_grammar.specs.Grammar.Grammar.{either, nothing}
use Rattle.reo_trees.specs.declared.items_two.FormTwo.{FormTwo}
use Rattle.reo_trees.specs.declared.items_two.ItemTwo.{ItemTwo}
use Rattle.reo_trees.specs.Forms.{FormOf, listed, further, comma_form}
use Rattle.reo_trees.specs.Forms.Rule.{looped_rule}
use Rattle.reo_trees.specs.ItemsTwo.{some_looped}
use Rattle.reo_trees.specs.Rules.{circuit_rules}
use Rattle.reo_cursor.specs.declared.halt.Halt.{Halt}
use Rattle.reo_cursor.specs.declared.halt.Halt.TheVariants as halts
use Rattle.reo_cursor.specs.Reading.{Gives, word_at}
use Rattle.reo_terms.specs.Reading.{read_plain}
use Rattle.reo_parser.proofs.Turns.{goes_on}

then-stops : {A B : Type 0} (o : Outcome A) (f : A → List Lexeme → Outcome B) (left : List Lexeme) (halt : Halt) → Gives {A = A} (Err halt) left o → Gives {A = B} (Err halt) left (then o f)
then-stops o f left halts.Syntax e = rw e refl
then-stops o f left halts.Room e = rw e refl
then-stops o f left halts.NoMemory e = tt

-- At a turn.
turn-stops : {A B : Type 0} (f : A → B → A) (c : Class) (h : FormOf B) (room : ℕ) (x : A) (ts left : List Lexeme) (halt : Halt)
    → starts c ts ≡ true → Gives {A = B} (Err halt) left (read (reads circuit_rules room) h ts) → Gives {A = A} (Err halt) left (goes_on f c h room x ts)
turn-stops f c h room x [] left halt s e = absurd (cc)
turn-stops f c h room x (t ∷ ts) left halt s e = rw s (then-stops (read (reads circuit_rules room) h (t ∷ ts)) _ left halt e)

-- At a part behind a comma, where the first part was read.
pub comma-stops : {A : Type 0} (g : FormOf A) (from : List Lexeme) (x : A) (r : List Lexeme) (xs : List A) (ts mid left : List Lexeme) (halt : Halt)
    → starts name from ≡ true → read_plain g from ≡ got x r → goes_on listed (fixed (codes ",")) (further g) 0 xs ts ≡ goes_on listed (fixed (codes ",")) (further g) 0 (x ∷ []) r
    → starts (fixed (codes ",")) ts ≡ true → word_at (codes ",") ts ≡ got tt mid → Gives {A = A} (Err halt) left (read_plain g mid)
    → Gives {A = List A} (Err halt) left (read_plain (either name (comma_form g) (nothing [])) from)
comma-stops g from x r xs ts mid left halt n e i s w stops =
    rw (n, e, ← i) (turn-stops listed (fixed (codes ",")) (further g) 0 xs ts left halt s (rw w (then-stops (read_plain g mid) _ left halt stops)))

-- At the item of a loop.
pub looped-stops : (room : ℕ) (ts left : List Lexeme) (halt : Halt) → (room ≡ 0 → ⊥)
    → Gives {A = FormTwo} (Err halt) left (read (reads circuit_rules (room - 1)) some_looped ts) → Gives {A = ItemTwo} (Err halt) left (reads circuit_rules room looped_rule ts)
looped-stops zero ts left halt n stops = absurd (n refl)
looped-stops (suc k) ts left halt n stops =
    let q : suc k - 1 ≡ k = omega arith in
    then-stops (read (reads circuit_rules k) some_looped ts) _ left halt (subst (λ m. Gives {A = FormTwo} (Err halt) left (read (reads circuit_rules m) some_looped ts)) q stops)
