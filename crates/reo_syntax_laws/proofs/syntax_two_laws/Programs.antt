-- Programs of version 2 are printed so that their text says them.
use Rattle.std.proofs.Common.{◌≡◌, ℕ, zero, suc, ◌≤◌, ◌&&◌, true, Option, Some, None, List, [], ◌∷◌, ◌++◌, map, refl, sym, ◌∙◌, ap, append-nil, arith, codes, nat_le}
use Rattle.std.proofs.lemmas.Bool.{and_parts}
use Rattle.std.specs.List.{flat_map}
use Rattle.std.specs.Fmt.{decimal}
use Rattle.std.proofs.lemmas.Bool.Decides.{nat_tests}
use Rattle.std.proofs.lemmas.Fmt.{decimal_digit}
use Rattle.reo_grammar.specs.declared.kind.TokenKind.TheVariants as kinds
use Rattle.reo_grammar.specs.Tokens.{Lexeme, AreReal, matches, is_number, is_real, number_from}
use Rattle.reo_grammar.specs.Tokens.Class.{named, number}
use Rattle.reo_grammar.specs.Grammar.{Within, Says}
use Rattle.reo_lexer.proofs.Cut.{is_cut}
use Rattle.reo_trees.specs.declared.types.TypeTerm.{TypeTerm}
use Rattle.reo_trees.specs.declared.items_two.ItemTwo.{ItemTwo}
use Rattle.reo_trees.specs.declared.programs.Parameter.{Parameter}
use Rattle.reo_trees.specs.declared.programs_two.ConnectorTwo.{ConnectorTwo}
use Rattle.reo_trees.specs.declared.programs_two.DeclarationTwo.{DeclarationTwo}
use Rattle.reo_trees.specs.declared.programs_two.DeclarationTwo.TheVariants as declarations
use Rattle.reo_trees.specs.declared.programs_two.ProgramTwo.{ProgramTwo}
use Rattle.reo_trees.specs.Forms.{Rule, tree_of, number_form}
use Rattle.reo_trees.specs.Forms.Rule.{type_rule, literal_rule, term_rule, unary_rule, looped_rule}
use Rattle.reo_trees.specs.ProgramsTwo.{numbered_form, connector_two, named_two, declaration_two, declarations_two, version_two, program_two}
use Rattle.reo_trees.specs.Rules.{circuit_rules}
use Rattle.reo_syntax.specs.Spread.{spread}
use Rattle.reo_syntax.specs.TypeText.{type_text}
use Rattle.reo_syntax.specs.Canonical.{parameter_text}
use Rattle.reo_syntax.specs.Unlined.{bare_type, bare_parameter}
use Rattle.reo_syntax.proofs.Row.{apart-cut}
use Rattle.reo_syntax_laws.proofs.Again.{Out, out-both, out-more, out-first, out-left, out-right, out-made, out-lined, out-nothing, out-text, out-word, out-name, out-gap}
use Rattle.reo_syntax.proofs.Decimals.{out-number}
use Rattle.reo_syntax.proofs.Cuts.{open-cut}
use Rattle.reo_syntax.proofs.Claims.{Again, SameType, Claim}
use Rattle.reo_syntax_laws.proofs.Seen.{World, See, see-then, see-both, see-made, see-either, see-lined, see-word, see-token, see-chain, see-nothing}
use Rattle.reo_syntax.proofs.Lists.{flat-snoc, map-snoc}
use Rattle.reo_syntax.proofs.Types.{see-type, see-type-rule}
use Rattle.reo_syntax.proofs.Literals.{see-literal-rule}
use Rattle.reo_syntax.proofs.Terms.{see-unary, see-term-rule}
use Rattle.reo_syntax.proofs.Items.{apart-name}
use Rattle.reo_syntax.proofs.Programs.{SameParameters, see-parameters}
use Rattle.reo_syntax.specs.two.ItemText.{lines_text}
use Rattle.reo_syntax.specs.two.Canonical.{numbered_text, connector_text, declaration_text, canonical_text_two}
use Rattle.reo_syntax_laws.specs.syntax_two_laws.Unlined.{bare_item, bare_connector, bare_declaration, SameTwo}
use Rattle.reo_syntax_laws.proofs.syntax_two_laws.Starts.{starts-append, token-starts, less-cut, out-named, see-named}
use Rattle.reo_syntax_laws.proofs.syntax_two_laws.Claims.{ClaimTwo, FitTwo}
use Rattle.reo_syntax_laws.proofs.syntax_two_laws.Loops.{SameItems, see-items, see-looped-rule, loop-text}

abbrev SameNumber : Option (List ℕ) → Option (List ℕ) → Type 0
SameNumber x y = x ≡ y

see-numbered : {w : World} → See w numbered_form (Again numbered_form numbered_text SameNumber)
see-numbered = see-either (see-made (see-both (see-word (λ t m. see-both (see-made (see-token (λ u n q. see-word (λ c p r h.
    let S : List ℕ → Type 0 = λ y. u.bytes ≡ y in
    out-left (out-made (SameNumber (Some u.bytes)) (out-both S (out-word (codes "<") [] t _ m refl (less-cut (u.bytes ++ codes ">") r (starts-append u.bytes (codes ">") (token-starts u n q))))
    (out-both S (apart-name u (codes ">" ++ r) n q refl) (out-word (codes ">") [] c r p refl (apart-cut kinds.Sign (codes ">") r refl h)) (λ y z e j. e)) (λ y z e j. j)) (λ y e. ap Some e))))))))))
    (see-nothing (λ r h. out-right (out-nothing None r (SameNumber None) refl)))

numbered-cut : (b : List ℕ) (s : Option (List ℕ)) (l r : List ℕ) → is_cut kinds.Name b ((numbered_text s ++ codes "(") ++ l ++ r) ≡ true
numbered-cut b None l r = refl
numbered-cut b (Some i) l r = refl

abbrev SameConnector : ConnectorTwo → ConnectorTwo → Type 0
SameConnector x y = bare_connector x ≡ bare_connector y

see-connector : {w : World} → FitTwo w → See w connector_two (λ ts x. (r : List ℕ) → Out connector_two (connector_text x) ts r (SameConnector x))
see-connector f = see-lined (see-both (see-word (λ t m. see-both (see-made (see-token (λ u p q. see-both (see-both (see-then see-numbered (λ a0 k z. see-word (λ v n.
    see-both (see-both (see-then (see-parameters f.first) (λ a ps o. see-word (λ c g. see-both (see-word (λ d s. see-both (see-then (see-items f) (λ b is i. see-word (λ e j r.
    let C : ConnectorTwo = record { line = 0; name = u.bytes; number = k; parameters = ps; items = is } in
    let S : ConnectorTwo → Type 0 = SameConnector C in
    let body : List ℕ = codes "{\n" ++ (lines_text (codes "  ") is ++ codes "}\n") in
    let ports : List ℕ = spread parameter_text ps ++ codes ") " in
    out-text (sym (loop-text (codes "connector ") u.bytes (numbered_text k ++ codes "(") ports body))
    (out-lined S
    (out-both (λ (h : ℕ → ConnectorTwo). (l : ℕ) → S (h l)) (out-word (codes "connector") (codes " ") t _ m refl refl)
    (out-both (λ (h : ℕ → ConnectorTwo). (l : ℕ) → S (h l))
    (out-text (append-nil u.bytes) (out-name u [] _ p q refl (numbered-cut u.bytes k (ports ++ body) r)))
    (out-both (λ (h : List ℕ → ℕ → ConnectorTwo). (y : List ℕ) (l : ℕ) → u.bytes ≡ y → S (h y l))
    (out-both (SameNumber k) (z (codes "(" ++ ((ports ++ body) ++ r)) refl) (out-word (codes "(") [] v _ n refl (open-cut _)) (λ y z e i. e))
    (out-both (λ (h : Option (List ℕ) → List ℕ → ℕ → ConnectorTwo). (x : Option (List ℕ)) (y : List ℕ) (l : ℕ) → k ≡ x → u.bytes ≡ y → S (h x y l))
    (out-both (SameParameters ps) (o (codes ") " ++ (body ++ r)) refl) (out-word (codes ")") (codes " ") c _ g refl refl) (λ y z e i. e))
    (out-both (SameItems is) (out-word (codes "{") (codes "\n") d _ s refl refl)
    (out-both (SameItems is) (i (codes "  ") refl (codes "}\n" ++ r)) (out-word (codes "}") (codes "\n") e r j refl refl) (λ y z e i. e)) (λ y z e i. i))
    (λ y z e i x b l w1 w2. same-connector u.bytes b k x ps y is z w2 w1 e i))
    (λ x h e i y l w. i x y l e w))
    (λ y h e i l. i y l e)) (λ y h e i. i)) (λ l h e. e l)))))))))))))))))))))
  where
    same-connector : (n m : List ℕ) (k l : Option (List ℕ)) (ps qs : List Parameter) (is js : List ItemTwo) → n ≡ m → k ≡ l → SameParameters ps qs → SameItems is js
        → SameConnector (record { line = 0; name = n; number = k; parameters = ps; items = is }) (record { line = 0; name = m; number = l; parameters = qs; items = js })
    same-connector n m k l ps qs is js e i j h =
        ap (λ (a : List ℕ). record { line = 0; name = a; number = k; parameters = map bare_parameter ps; items = map bare_item is }) e
        ∙ ap (λ (a : Option (List ℕ)). record { line = 0; name = m; number = a; parameters = map bare_parameter ps; items = map bare_item is }) i
        ∙ ap (λ (a : List Parameter). record { line = 0; name = m; number = l; parameters = a; items = map bare_item is }) j
        ∙ ap (λ (a : List ItemTwo). record { line = 0; name = m; number = l; parameters = map bare_parameter qs; items = a }) h

abbrev SameDeclaration : DeclarationTwo → DeclarationTwo → Type 0
SameDeclaration x y = bare_declaration x ≡ bare_declaration y

see-type-declaration : {w : World} → FitTwo w → See w named_two (λ ts x. (r : List ℕ) → Out named_two (declaration_text x) ts r (SameDeclaration x))
see-type-declaration f = see-lined (see-both (see-word (λ t m. see-both (see-both (see-made (see-token (λ u p q. see-word (λ v n. see-both (see-then (see-type f.first.types) (λ a x o. see-word (λ d j r.
    let S : DeclarationTwo → Type 0 = SameDeclaration (declarations.Named 0 u.bytes x) in
    out-lined S
    (out-both (λ (h : ℕ → DeclarationTwo). (l : ℕ) → S (h l)) (out-word (codes "type") (codes " ") t _ m refl refl)
    (out-both (λ (h : ℕ → DeclarationTwo). (l : ℕ) → S (h l))
    (out-both (λ y. u.bytes ≡ y) (apart-name u (codes " = " ++ ((type_text x ++ codes ";\n") ++ r)) p q refl) (out-gap (codes " ") refl (out-word (codes "=") (codes " ") v ((type_text x ++ codes ";\n") ++ r) n refl refl)) (λ y z e i. e))
    (out-both (SameType x) (o (codes ";\n" ++ r) refl) (out-word (codes ";") (codes "\n") d r j refl refl) (λ y z e i. e))
    (λ y z e i l. ap (λ b. declarations.Named 0 b (bare_type x)) e ∙ ap (λ (b : TypeTerm). declarations.Named 0 y b) i)) (λ y h e i. i)) (λ l h e. e l))))))))))))

see-declaration : {w : World} → FitTwo w → See w declaration_two (λ ts x. (r : List ℕ) → Out declaration_two (declaration_text x) ts r (SameDeclaration x))
see-declaration f = see-either (see-then (see-type-declaration f) (λ ts x o r. out-left (o r)))
    (see-made (see-then (see-connector f) (λ ts x o r. out-right (out-made (SameDeclaration (declarations.Made x)) (o r) (λ y e. ap declarations.Made e)))))

abbrev pub SameDeclarations : List DeclarationTwo → List DeclarationTwo → Type 0
SameDeclarations x y = map bare_declaration x ≡ map bare_declaration y

see-declarations : {w : World} → FitTwo w → See w declarations_two (λ ts xs. (r : List ℕ) → Out declarations_two (flat_map declaration_text xs) ts r (SameDeclarations xs))
see-declarations f = see-chain (see-nothing (λ r. out-first (out-nothing [] r (SameDeclarations []) refl))) (λ a xs p. see-then (see-declaration f) (λ b x o r.
    out-text (sym (flat-snoc declaration_text xs x)) (out-more (SameDeclarations (xs ++ x ∷ [])) (p (declaration_text x ++ r)) (o r) (λ ys y e i. map-snoc bare_declaration xs ys x y e i))))

-- The number of the version.
is-two : (n : ℕ) → (nat_le 2 n && nat_le n 2) ≡ true → n ≡ 2
is-two n h =
    let a : nat_le 2 n ≡ true = (and_parts (nat_le 2 n) (nat_le n 2) h).0 in
    let b : nat_le n 2 ≡ true = (and_parts (nat_le 2 n) (nat_le n 2) h).1 in
    let c : 2 ≤ n = grind (arith, nat_tests) in
    let d : n ≤ 2 = grind (arith, nat_tests) in
    omega arith

two-out : (t : Lexeme) (r : List ℕ) → matches (number 2 2) t ≡ true → is_real t ≡ true → Out (number_form 2 2) (codes "2\n") (t ∷ []) r (λ n. number_from 0 t.bytes ≡ n)
two-out t r m q =
    let e : number_from 0 t.bytes ≡ 2 = is-two (number_from 0 t.bytes) ((and_parts (is_number t.kind) _ m).1) in
    out-text (ap (λ n. decimal n ++ codes "\n") e ∙ ap (λ l. l ++ codes "\n") (decimal_digit 2 (omega arith))) (out-number 2 2 t (codes "\n") r m q refl refl)

pub version-out : (t u : Lexeme) (r : List ℕ) → matches (named (codes "reo")) t ≡ true → is_real t ≡ true → matches (number 2 2) u ≡ true → is_real u ≡ true
    → Out version_two (codes "reo 2\n") ((t ∷ []) ++ (u ∷ [])) r (λ x. Unit {0})
version-out t u r m q n p =
    out-both (λ x. Unit {0}) (out-named (codes "reo") (codes " ") t (codes "2\n" ++ r) m q refl refl) (out-made (λ x. Unit {0}) (two-out u r n p) (λ x h. tt)) (λ x y h k. tt)

see-program : {w : World} → FitTwo w → See w program_two (λ ts p. (r : List ℕ) → Out program_two (canonical_text_two p) ts r (SameTwo p))
see-program f = see-both (see-both (see-named (λ t m q. see-made (see-made (see-token (λ u n p. see-made (see-then (see-declarations f) (λ ts xs o r.
    out-both (SameTwo (record { declarations = xs })) (version-out t u (flat_map declaration_text xs ++ r) m q n p)
    (out-made (SameTwo (record { declarations = xs })) (o r) (λ ys e. ap (λ (l : List DeclarationTwo). record { declarations = l }) e)) (λ x y h k. k)))))))))

-- What is claimed of each rule holds, by how deep the rules are nested.
rule-seen : (w : World) → FitTwo w → w.Holds unary_rule ≡ Claim unary_rule → (n : Rule) → See w (circuit_rules n) (ClaimTwo n)
rule-seen w f k type_rule = see-type-rule f.first.types
rule-seen w f k literal_rule = see-literal-rule f.first.literals
rule-seen w f k term_rule = see-term-rule f.first.terms k
rule-seen w f k unary_rule = see-unary f.first.terms k
rule-seen w f k looped_rule = see-looped-rule f

claims : (k : ℕ) (n : Rule) (ts : List Lexeme) (x : tree_of n) → AreReal ts → Within circuit_rules k n ts x → ClaimTwo n ts x
claims zero n ts x q d = absurd d
claims (suc k) n ts x q d =
    let w : World = record { Derived = Within circuit_rules k; Holds = ClaimTwo; each = claims k } in
    (rule-seen w (record { first = record { types = refl; literals = refl; terms = refl }; loops = refl }) refl n).at ts x q d

pub program-out : (ts : List Lexeme) (p : ProgramTwo) → AreReal ts → Says circuit_rules program_two ts p → Out program_two (canonical_text_two p) ts [] (SameTwo p)
program-out ts p q (k, d) =
    let w : World = record { Derived = Within circuit_rules k; Holds = ClaimTwo; each = claims k } in
    (see-program {w = w} (record { first = record { types = refl; literals = refl; terms = refl }; loops = refl })).at ts p q d []
