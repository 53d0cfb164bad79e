-- The text of a made script says its components.
use Rattle.std.proofs.Common.{◌≡◌, ℕ, ◌+◌, ◌≤◌, ◌<◌, ◌^◌, true, ◌&&◌, Option, None, pos, List, [], ◌∷◌, ◌++◌, map, refl, sym, ◌∙◌, ap, subst, append_assoc, append-nil, arith, nat_le, codes}
use Rattle.std.specs.List.{flat_map, range_with_len}
use Rattle.std.specs.Fmt.{decimal}
use Rattle.std.proofs.lemmas.Bool.Decides.{nat_tests}
use Rattle.reo_grammar.specs.declared.kind.TokenKind.TheVariants as kinds
use Rattle.reo_grammar.specs.Tokens.{number_from}
use Rattle.reo_grammar.specs.Grammar.{Says}
use Rattle.reo_grammar.specs.Grammar.Grammar.{rule}
use Rattle.reo_lexer.specs.Lexing.{lexemes_of}
use Rattle.reo_lexer.proofs.Cut.{is_cut}
use Rattle.reo_syntax.proofs.Decimals.{decimal-value, number-real}
use Rattle.reo_trees.specs.declared.literals.Constant.{Constant}
use Rattle.reo_trees.specs.declared.literals.Constant.TheVariants as constants
use Rattle.reo_trees.specs.declared.literals.Literal.{Literal}
use Rattle.reo_trees.specs.Forms.{name_form, word, ◌◂◌}
use Rattle.reo_trees.specs.Forms.Rule.{literal_rule}
use Rattle.reo_trees.specs.Literals.{greatest}
use Rattle.reo_script.specs.declared.scripts.forms.ActionForm.{ActionForm}
use Rattle.reo_script.specs.declared.scripts.forms.ActionForm.TheVariants as forms
use Rattle.reo_script.specs.declared.scripts.forms.ComponentForm.{ComponentForm}
use Rattle.reo_script.specs.scripts.ScriptForms.{ScriptFormOf, script_rules, script_form, lifted, within_form, label_form, action_list, component_form}
use Rattle.reo_script.specs.scripts.ScriptForms.ScriptRule.{action_rule, of_circuit}
use Rattle.reo_script.specs.scripts.ScriptAnswers.{SaysScript}
use Rattle.reo_gen.specs.Names.{numbered, output}
use Rattle.reo_gen.specs.Scripts.{write_text, writer_line, taker_line, script_text}
use Rattle.reo_gen.proofs.laws.Heights.{Height, height, low-nowhere, over}
use Rattle.reo_gen.proofs.laws.Pieces.{Reads, IsNamed, is_fit, reads-both, reads-more, reads-first, reads-left, reads-right, reads-made, reads-lined, reads-rule, reads-nothing, reads-text, reads-word, reads-name, reads-number, reads-all, reads-else}
use Rattle.reo_gen.proofs.laws.Written.{Lines, IsBy, AreBy, made_by, by-none, by-more, reads-claimed, reads-range}
use Rattle.reo_gen.proofs.laws.Words.{named-output, named-taker}
use Rattle.reo_grammar.specs.Conditions.{fixed_token}

-- What is read in a script text.
abbrev Script : {A : Type 0} → ScriptFormOf A → List ℕ → List ℕ → (A → Type 0) → Height → Height → Type 0
Script g a r S h k = Reads script_rules g a r S h k

-- A write of a number at the input, and the component of all of them.
abbrev pub write_by : ℕ → Lines → ActionForm
write_by item l = forms.Write l.0 (codes "i") (record { line = l.1; constant = constants.Int (pos item) }) None

abbrev pub writer_by : (ℕ → Lines) → ComponentForm
writer_by at = record { name = codes "w"; actions = made_by (map write_by (range_with_len 0 20)) at }

-- A take at an output, a thousand times.
abbrev pub taker_by : ℕ → Lines → ComponentForm
taker_by j l = record { name = numbered (codes "t") j; actions = forms.Repeat 1000 (forms.Take l.0 (output j) None ∷ []) ∷ [] }

-- The components of a script for so many stages.
abbrev pub components_by : ℕ → (ℕ → Lines) → (ℕ → Lines) → List ComponentForm
components_by stages at below = writer_by at ∷ made_by (map taker_by (range_with_len 0 (stages + 1))) below

abbrev bottom : Height
bottom = height 0 0

abbrev within_component : Height
within_component = height 0 1

abbrev within_repeat : Height
within_repeat = height 0 2

bare-name : (b r : List ℕ) (h : Height) → IsNamed b → is_cut kinds.Name b r ≡ true → (nat_le h.parentheses 64 && nat_le h.braces 16) ≡ true → Script (lifted name_form) b r (λ n. b ≡ n) h h
bare-name b r h n i low = reads-text (append-nil b) (reads-name b [] r h n refl i low)

named_i : IsNamed (codes "i")
named_i = record { spelled = refl; free = refl }

named_w : IsNamed (codes "w")
named_w = record { spelled = refl; free = refl }

in-bounds : (v n : ℕ) → v ≡ n → n < 10 ^ 18 → (nat_le 0 v && nat_le v greatest) ≡ true
in-bounds v n e h = let a : nat_le 0 v ≡ true = grind (arith, nat_tests) in let b : nat_le v greatest ≡ true = grind (arith, nat_tests) in λ i. a i && b i

reads-literal : (n : ℕ) (r : List ℕ) → n < 10 ^ 18 → is_cut kinds.Number (decimal n) r ≡ true
    → Script (rule (of_circuit literal_rule)) (decimal n) r (λ x. (m : ℕ) × (x ≡ record { line = m; constant = constants.Int (pos n) })) within_component within_component
reads-literal n r h i =
    let v = (decimal-value n (omega arith)).1 in
    reads-rule (of_circuit literal_rule) (reads-lined (λ (x : Literal). (m : ℕ) × (x ≡ record { line = m; constant = constants.Int (pos n) }))
    (reads-right (reads-right (reads-right (reads-right (reads-left (reads-made (λ (c : Constant). c ≡ constants.Int (pos n))
    (reads-text (append-nil (decimal n)) (reads-number n 0 greatest (decimal n) [] r within_component (in-bounds (number_from 0 (decimal n)) n v h) (number-real n h) v refl i refl))
    (λ k e. ap (λ j. constants.Int (pos j)) e)))))))
    (λ l c e. (l, ap (λ (z : Constant). record { line = l; constant = z }) e)))

-- The end of an action that has no bound.
reads-end : (r : List ℕ) (h : Height) → is_fit h (codes ";") (codes " ") ≡ true → Script (lifted (within_form ◂ word (codes ";"))) (codes "; ") r (λ o. o ≡ None) h (over h (fixed_token (codes ";")))
reads-end r h f =
    reads-both (λ (o : Option ℕ). o ≡ None) (reads-right (reads-nothing None (codes "; " ++ r) (λ (o : Option ℕ). o ≡ None) h refl)) (reads-word (codes ";") (codes " ") r h f refl) (λ o u e k. e)

reads-write : (n : ℕ) (r : List ℕ) → n < 10 ^ 18 → Script (rule action_rule) (write_text n) r (IsBy (write_by n)) within_component within_component
reads-write n r h =
    reads-rule action_rule (reads-left (reads-lined (IsBy (write_by n))
    (reads-both (λ (f : ℕ → ActionForm). (m : ℕ) × ((l : ℕ) → f l ≡ write_by n (l, m))) (reads-word (codes "write") (codes " ") _ within_component refl refl)
    (reads-both (λ (f : ℕ → ActionForm). (m : ℕ) × ((l : ℕ) → f l ≡ write_by n (l, m))) (reads-name (codes "i") (codes " ") ((decimal n ++ codes "; ") ++ r) within_component named_i refl refl refl)
    (reads-both (λ (f : List ℕ → ℕ → ActionForm). (m : ℕ) × ((a : List ℕ) (l : ℕ) → f a l ≡ forms.Write l a (record { line = m; constant = constants.Int (pos n) }) None))
    (reads-literal n (codes "; " ++ r) h refl) (reads-end r within_component refl)
    (λ x o e k. (e.0, λ a l i. forms.Write l a (e.1 i) (k i))))
    (λ a f e k. (k.0, λ l. k.1 a l ∙ ap (λ (b : List ℕ). forms.Write l b (record { line = k.0; constant = constants.Int (pos n) }) None) (sym e))))
    (λ u f e k. k))
    (λ l f k. ((l, k.0), k.1 l))))

-- The name of a component, and what stands between its braces.
reads-label : (name r : List ℕ) → IsNamed name → Script (lifted label_form) (codes "component " ++ ((name ++ codes " ") ++ codes "{ ")) r (λ n. name ≡ n) bottom within_component
reads-label name r n =
    reads-both (λ b. name ≡ b) (reads-word (codes "component") (codes " ") (((name ++ codes " ") ++ codes "{ ") ++ r) bottom refl refl)
    (reads-both (λ b. name ≡ b) (reads-name name (codes " ") (codes "{ " ++ r) bottom n refl refl refl) (reads-word (codes "{") (codes " ") r bottom refl refl) (λ b u e k. e))
    (λ u b e k. k)

reads-component : (name body r : List ℕ) (S : List ActionForm → Type 0) → IsNamed name → Script action_list body (codes "}\n" ++ r) S within_component within_component
    → Script component_form ((codes "component " ++ ((name ++ codes " ") ++ codes "{ ")) ++ (body ++ codes "}\n")) r (λ c. (xs : List ActionForm) × S xs × (c ≡ record { name = name; actions = xs })) bottom bottom
reads-component name body r S n b =
    reads-both (λ (c : ComponentForm). (xs : List ActionForm) × S xs × (c ≡ record { name = name; actions = xs })) (reads-label name ((body ++ codes "}\n") ++ r) n)
    (reads-both S b (reads-word (codes "}") (codes "\n") r within_component refl refl) (λ xs u e k. e))
    (λ m xs e k. (xs, k, λ i. record { name = sym e i; actions = xs }))

reads-writes : (r : List ℕ) → Script action_list (flat_map write_text (range_with_len 0 20)) (codes "}\n" ++ r) (AreBy (map write_by (range_with_len 0 20))) within_component within_component
reads-writes r =
    reads-range (λ s. Unit {0}) write_text write_by 0 20 [] [] (codes "}\n" ++ r) tt (λ j s. tt) (λ j s l u f. reads-write j s (omega arith)) (reads-first (reads-nothing [] _ (AreBy []) within_component by-none))

reads-writer : (r : List ℕ) → Script component_form writer_line r (λ c. (at : ℕ → Lines) × (c ≡ writer_by at)) bottom bottom
unfolding writer_line
reads-writer r =
    reads-else (reads-component (codes "w") (flat_map write_text (range_with_len 0 20)) r (AreBy (map write_by (range_with_len 0 20))) named_w (reads-writes r))
    (λ vs d. (d.0, d.1, (d.2.1.at, d.2.2 ∙ ap (λ (xs : List ActionForm). record { name = codes "w"; actions = xs }) d.2.1.are)))

reads-take : (name r : List ℕ) → IsNamed name → Script (rule action_rule) (codes "take " ++ (name ++ codes "; ")) r (λ a. (l : ℕ) × (a ≡ forms.Take l name None)) within_repeat within_repeat
reads-take name r n =
    reads-rule action_rule (reads-right (reads-left (reads-lined (λ (a : ActionForm). (l : ℕ) × (a ≡ forms.Take l name None))
    (reads-both (λ (f : ℕ → ActionForm). (l : ℕ) → f l ≡ forms.Take l name None) (reads-word (codes "take") (codes " ") ((name ++ codes "; ") ++ r) within_repeat refl refl)
    (reads-both (λ (f : ℕ → ActionForm). (l : ℕ) → f l ≡ forms.Take l name None) (bare-name name (codes "; " ++ r) within_repeat n refl refl) (reads-end r within_repeat refl)
    (λ b o e k l i. forms.Take l (sym e i) (k i)))
    (λ u f e k. k))
    (λ l f k. (l, k l)))))

-- A thousand times one take.
reads-repeat : (name r : List ℕ) → IsNamed name
    → Script (rule action_rule) (codes "repeat 1000 { " ++ ((codes "take " ++ (name ++ codes "; ")) ++ codes "} ")) r (λ a. (l : ℕ) × (a ≡ forms.Repeat 1000 (forms.Take l name None ∷ []))) within_component within_component
reads-repeat name r n =
    reads-rule action_rule (reads-right (reads-right (reads-right
    (reads-both (λ (a : ActionForm). (l : ℕ) × (a ≡ forms.Repeat 1000 (forms.Take l name None ∷ [])))
    (reads-both (λ k. k ≡ 1000) (reads-word (codes "repeat") (codes " ") (codes "1000 { " ++ (((codes "take " ++ (name ++ codes "; ")) ++ codes "} ") ++ r)) within_component refl refl)
    (reads-both (λ k. k ≡ 1000) (reads-number 1000 0 1000000000 (codes "1000") (codes " ") (codes "{ " ++ (((codes "take " ++ (name ++ codes "; ")) ++ codes "} ") ++ r)) within_component refl refl refl refl refl refl)
    (reads-word (codes "{") (codes " ") (((codes "take " ++ (name ++ codes "; ")) ++ codes "} ") ++ r) within_component refl refl) (λ k u e i. e))
    (λ u k e i. i))
    (reads-both (λ (xs : List ActionForm). (l : ℕ) × (xs ≡ forms.Take l name None ∷ []))
    (reads-more {a = []} (λ (xs : List ActionForm). (l : ℕ) × (xs ≡ forms.Take l name None ∷ [])) (reads-first (reads-nothing [] _ (λ (xs : List ActionForm). xs ≡ []) within_repeat refl)) (reads-take name (codes "} " ++ r) n)
    (λ xs x e k. (k.0, λ i. e i ++ k.1 i ∷ [])))
    (reads-word (codes "}") (codes " ") r within_repeat refl refl) (λ xs u e k. e))
    (λ k xs e i. (i.0, λ j. forms.Repeat (e j) (i.1 j)))))))

taker-text : (t o : List ℕ) → ((t ++ codes " ") ++ codes "{ ") ++ (codes "repeat 1000 { take " ++ (((o ++ codes "; ") ++ codes "} ") ++ codes "}\n")) ≡ ((t ++ codes " { repeat 1000 { take ") ++ o) ++ codes "; } }\n"
taker-text t o =
    append_assoc (t ++ codes " ") (codes "{ ") (codes "repeat 1000 { take " ++ (((o ++ codes "; ") ++ codes "} ") ++ codes "}\n"))
    ∙ append_assoc t (codes " ") (codes "{ repeat 1000 { take " ++ (((o ++ codes "; ") ++ codes "} ") ++ codes "}\n"))
    ∙ ap (λ l. t ++ (codes " { repeat 1000 { take " ++ l)) (append_assoc (o ++ codes "; ") (codes "} ") (codes "}\n") ∙ append_assoc o (codes "; ") (codes "} }\n"))
    ∙ sym (append_assoc t (codes " { repeat 1000 { take ") (o ++ codes "; } }\n")) ∙ sym (append_assoc (t ++ codes " { repeat 1000 { take ") o (codes "; } }\n"))

reads-taker : (j : ℕ) (r : List ℕ) → j < 2 ^ 64 → Script component_form (taker_line j) r (IsBy (taker_by j)) bottom bottom
reads-taker j r h =
    reads-text (ap (λ l. codes "component " ++ l) (taker-text (numbered (codes "t") j) (output j)))
    (reads-else
    (reads-component (numbered (codes "t") j) (codes "repeat 1000 { " ++ ((codes "take " ++ (output j ++ codes "; ")) ++ codes "} ")) r (λ xs. (l : ℕ) × (xs ≡ forms.Repeat 1000 (forms.Take l (output j) None ∷ []) ∷ [])) (named-taker j h)
    (reads-more {a = []} (λ (xs : List ActionForm). (l : ℕ) × (xs ≡ forms.Repeat 1000 (forms.Take l (output j) None ∷ []) ∷ [])) (reads-first (reads-nothing [] _ (λ (xs : List ActionForm). xs ≡ []) within_component refl))
    (reads-repeat (output j) (codes "}\n" ++ r) (named-output j h)) (λ xs x e k. (k.0, λ i. e i ++ k.1 i ∷ []))))
    (λ vs d. (d.0, d.1, ((d.2.1.0, 0), d.2.2 ∙ ap (λ (xs : List ActionForm). record { name = numbered (codes "t") j; actions = xs }) d.2.1.1))))

-- The writer, and so many components behind it.
record IsBehind (fs : List (Lines → ComponentForm)) (cs : List ComponentForm) : Type 0 where
  pub at : ℕ → Lines
  pub takers : List ComponentForm
  pub rest : AreBy fs takers
  pub are : cs ≡ writer_by at ∷ takers

behind-more : (fs : List (Lines → ComponentForm)) (f : Lines → ComponentForm) (cs : List ComponentForm) (c : ComponentForm) → IsBehind fs cs → IsBy f c → IsBehind (fs ++ f ∷ []) (cs ++ c ∷ [])
behind-more fs f cs c so by = record { at = so.at; takers = so.takers ++ c ∷ []; rest = by-more fs f so.takers c so.rest by; are = λ i. so.are i ++ c ∷ [] }

-- The text says the components, on some lines.
reads-script : (n : ℕ) → n ≤ 256 → Script script_form (script_text n) [] (IsBehind (map taker_by (range_with_len 0 (n + 1)))) bottom bottom
unfolding script_text
reads-script n few =
    reads-claimed IsBehind behind-more (λ s. Unit {0}) taker_line taker_by 0 (n + 1) [] writer_line [] tt (λ j s. tt) (λ j s l u f. reads-taker j s (omega arith))
    (reads-more {a = []} (IsBehind []) (reads-first (reads-nothing [] _ (λ (cs : List ComponentForm). cs ≡ []) bottom refl)) (reads-writer (flat_map taker_line (range_with_len 0 (n + 1)) ++ []))
    (λ cs c e k. record { at = k.0; takers = []; rest = by-none; are = λ i. e i ++ k.1 i ∷ [] }))

pub script-says : (n : ℕ) → n ≤ 256 → (at : ℕ → Lines) × (below : ℕ → Lines) × SaysScript (script_text n) (components_by n at below)
script-says n few =
    let (ts, is, low, said) = reads-all (reads-script n few) in
    let so = said.2 in
    (so.at, so.rest.at, (ts, is, subst (λ cs. Says script_rules script_form (lexemes_of (script_text n) ts) cs) (so.are ∙ ap (λ cs. writer_by so.at ∷ cs) so.rest.are) said.1, low-nowhere (lexemes_of (script_text n) ts) low))
