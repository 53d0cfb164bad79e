-- The canonical text of a lifted program says it.
use Rattle.std.proofs.Common.{◌≡◌, ◌∙◌, ℕ, zero, suc, Bool, true, ◌&&◌, None, List, [], ◌∷◌, ◌++◌, map, refl, sym, ap, subst, codes}
use Rattle.std.specs.List.{list_all}
use Rattle.reo_grammar.specs.Tokens.{Lexeme}
use Rattle.reo_grammar.specs.Grammar.Grammar.{made}
use Rattle.reo_lexer.specs.Lexing.{lexemes_of}
use Rattle.reo_lexer.proofs.Spans.{tokens-real}
use Rattle.reo_trees.specs.loops.Few.{few_loops, few_declared, few_in_program}
use Rattle.reo_trees.specs.declared.items.ItemForm.{ItemForm}
use Rattle.reo_trees.specs.declared.items.ItemForm.TheVariants as plain
use Rattle.reo_trees.specs.declared.programs.Declaration.{Declaration}
use Rattle.reo_trees.specs.declared.programs.Declaration.TheVariants as declarations
use Rattle.reo_trees.specs.declared.programs.Program.{Program}
use Rattle.reo_trees.specs.declared.programs_two.AnyProgram.{AnyProgram}
use Rattle.reo_trees.specs.declared.programs_two.AnyProgram.TheVariants.{One, Two}
use Rattle.reo_trees.specs.declared.programs_two.DeclarationTwo.{DeclarationTwo}
use Rattle.reo_trees.specs.declared.programs_two.DeclarationTwo.TheVariants as variants
use Rattle.reo_trees.specs.declared.items_two.FormTwo.{FormTwo}
use Rattle.reo_trees.specs.Programs.{program_form}
use Rattle.reo_trees.specs.ProgramsTwo.{declarations_two, program_two}
use Rattle.reo_trees.specs.Says.{SaysProgram, most_levels}
use Rattle.reo_trees.specs.SaysTwo.{SaysTwo, SaysAny, most_loops}
use Rattle.reo_trees.proofs.Versions.{one_of_any}
use Rattle.reo_syntax.specs.Canonical.{canonical_text}
use Rattle.reo_syntax.specs.Unlined.{bare_item_form, bare_item, bare_parameter, bare_declaration, bare_program, Same}
use Rattle.reo_syntax.specs.Written.{IsWritten}
use Rattle.reo_syntax.proofs.Again.{Out, Said, out-both, out-else}
use Rattle.reo_syntax.proofs.Programs.{program-out}
use Rattle.reo_syntax.proofs.Bare.{lines-aside}
use Rattle.reo_syntax.proofs.Whole.{says-program}
use Rattle.reo_syntax.specs.two.Canonical.{canonical_text_two}
use Rattle.reo_syntax_laws.specs.syntax_two_laws.Unlined as two
use Rattle.reo_syntax_laws.specs.syntax_two_laws.Unlined.{SameTwo}
use Rattle.reo_syntax_laws.specs.syntax_two_laws.Written.{SaysSameTwo}
use Rattle.reo_syntax_laws.proofs.syntax_two_laws.Programs.{version-out}
use Rattle.reo_syntax_laws.proofs.syntax_two_laws.Bare as bare_two
use Rattle.reo_syntax_laws.proofs.syntax_two_laws.Whole as whole_two
use Rattle.reo_syntax_laws.proofs.syntax_two_laws.Whole.{out-says}
use Rattle.reo_expand.specs.base.Lifted.{lifted_form, lifted_item, lifted_declaration, lifted}
use Rattle.reo_upgrade.specs.Upgraded.{upgraded, canonical_text_any, SameAny, SaysSameAny}
use Rattle.reo_upgrade.proofs.Texts.{lifted-text}
use Rattle.reo_upgrade.proofs.Programs.{lifted-said}
use Rattle.reo_upgrade.proofs.Fronts.{the_reo, the_two, nowhere-version}

-- No loops stand in it.
few-form : (n : ℕ) (f : ItemForm) → few_loops n (lifted_form f) ≡ true
few-form zero (plain.Node name term) = refl
few-form zero (plain.Joined channel first second) = refl
few-form zero (plain.Used name arguments) = refl
few-form (suc n) (plain.Node name term) = refl
few-form (suc n) (plain.Joined channel first second) = refl
few-form (suc n) (plain.Used name arguments) = refl

all-mapped : {A B : Type 0} (f : B → Bool) (g : A → B) → ((x : A) → f (g x) ≡ true) → (xs : List A) → list_all f (map g xs) ≡ true
all-mapped f g h [] = refl
all-mapped f g h (x ∷ xs) = ap (λ b. b && list_all f (map g xs)) (h x) ∙ all-mapped f g h xs

few-declaration : (n : ℕ) (d : Declaration) → few_declared n (lifted_declaration d) ≡ true
few-declaration n (declarations.Named line name term) = refl
few-declaration n (declarations.Made c) = all-mapped _ lifted_item (λ i. few-form n i.form) c.items

few-lifted : (n : ℕ) (p : Program) → few_in_program n (lifted p) ≡ true
few-lifted n p = all-mapped (few_declared n) lifted_declaration (few-declaration n) p.declarations

-- Lines are put aside before or after.
map-twice : {A B C D : Type 0} (f : B → D) (g : A → B) (h : C → D) (i : A → C) → ((x : A) → f (g x) ≡ h (i x)) → (xs : List A) → map f (map g xs) ≡ map h (map i xs)
map-twice f g h i e [] = refl
map-twice f g h i e (x ∷ xs) = ap (λ y. y ∷ map f (map g xs)) (e x) ∙ ap (λ l. h (i x) ∷ l) (map-twice f g h i e xs)

form-bare : (f : ItemForm) → two.bare_form (lifted_form f) ≡ lifted_form (bare_item_form f)
form-bare (plain.Node name term) = refl
form-bare (plain.Joined channel first second) = refl
form-bare (plain.Used name arguments) = refl

declaration-bare : (d : Declaration) → two.bare_declaration (lifted_declaration d) ≡ lifted_declaration (bare_declaration d)
declaration-bare (declarations.Named line name term) = refl
declaration-bare (declarations.Made c) =
    ap (λ l. variants.Made (record { line = 0; name = c.name; number = None; parameters = map bare_parameter c.parameters; items = l }))
    (map-twice two.bare_item lifted_item lifted_item bare_item (λ i. ap (λ (z : FormTwo). record { line = 0; form = z }) (form-bare i.form)) c.items)

program-bare : (p : Program) → two.bare_program (lifted p) ≡ lifted (bare_program p)
program-bare p =
    ap (λ (l : List DeclarationTwo). record { declarations = l })
    (map-twice two.bare_declaration lifted_declaration lifted_declaration bare_declaration declaration-bare p.declarations)

lifted-same : (p q : Program) → Same p q → SameTwo (lifted p) (lifted q)
lifted-same p q e = program-bare p ∙ ap lifted e ∙ sym (program-bare q)

-- The line of the version and the canonical text of a program that a text says.
lifted-out : (text : List ℕ) (p : Program) → SaysProgram text p → SaysSameTwo (codes "reo 2\n" ++ canonical_text p) (lifted p)
lifted-out text p (ts, i, s, l) =
    let o = program-out (lexemes_of text ts) p (tokens-real text ts i) s in
    let z : Out program_two (codes "reo 2\n" ++ canonical_text p) ((the_reo ∷ the_two ∷ []) ++ lexemes_of text ts) [] (SameTwo (lifted p))
    = out-both (SameTwo (lifted p)) (version-out the_reo the_two (canonical_text p ++ []) refl refl refl refl) (out-else o (λ vs d. turned vs d)) (λ x y h k. k) in
    out-says (codes "reo 2\n" ++ canonical_text p) ((the_reo ∷ the_two ∷ []) ++ lexemes_of text ts) (lifted p) z (nowhere-version most_levels (lexemes_of text ts) l) (few-lifted most_loops p)
  where
    turned : (vs : List Lexeme) → Said program_form vs (Same p)
        → Said (made (λ ds. record { declarations = ds }) declarations_two) vs (SameTwo (lifted p))
    turned vs (q, s, e) = let (r, t, w) = lifted-said vs q s in (r, t, subst (SameTwo (lifted p)) w (lifted-same p q e))

-- It says the lifted program.
pub says-lifted : (p : Program) → IsWritten p → SaysSameTwo (canonical_text_two (lifted p)) (lifted p)
says-lifted p (text, (q, s, e)) =
    let (r, t, w) = lifted-out text q s in
    (r, subst (λ l. SaysTwo l r) (ap (λ l. codes "reo 2\n" ++ l) (lines-aside q p (sym e)) ∙ sym (lifted-text p)) t, lifted-same p q e ∙ w)

pub says-any : (text : List ℕ) (p : AnyProgram) → SaysAny text p → SaysSameAny (canonical_text_any p) p
says-any text (One p) s = let (q, t, e) = says-program p (text, (p, s, refl)) in (One q, t, e)
says-any text (Two p) s = let (q, t, e) = whole_two.says-program p (text, (p, s, refl)) in (Two q, t, e)

-- No other program is said by it.
pub says-back : (text : List ℕ) (p q : AnyProgram) → SaysAny text p → SaysAny (canonical_text_any p) q → SameAny p q
says-back text p q s t = let (r, u, e) = says-any text p s in subst (SameAny p) (one_of_any (canonical_text_any p) r q u t) e

text-same : (p q : AnyProgram) → SameAny p q → canonical_text_any q ≡ canonical_text_any p
text-same (One p) (One q) e = sym (lines-aside p q e)
text-same (One p) (Two q) e = absurd e
text-same (Two p) (One q) e = absurd e
text-same (Two p) (Two q) e = sym (bare_two.lines-aside p q e)

pub writes-again : (text : List ℕ) (p q : AnyProgram) → SaysAny text p → SaysAny (canonical_text_any p) q → canonical_text_any q ≡ canonical_text_any p
writes-again text p q s t = text-same p q (says-back text p q s t)

pub says-upgraded : (text : List ℕ) (p : AnyProgram) → SaysAny text p → SaysSameTwo (canonical_text_two (upgraded p)) (upgraded p)
says-upgraded text (One p) s = says-lifted p (text, (p, s, refl))
says-upgraded text (Two p) s = whole_two.says-program p (text, (p, s, refl))
