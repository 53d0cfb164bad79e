-- The text of a made circuit says its program.
use Rattle.std.proofs.Common.{◌≡◌, ℕ, zero, suc, ◌+◌, ◌-◌, ◌≤◌, ◌<◌, ◌^◌, ◌==◌, Bool, true, false, pos, List, [], ◌∷◌, ◌++◌, map, refl, sym, ◌∙◌, ap, subst, append_assoc, append-nil, arith, codes, not}
use Rattle.std.specs.List.{flat_map, range_with_len}
use Rattle.std.specs.Prelude.{if◌then◌else◌}
use Rattle.reo_grammar.specs.declared.kind.TokenKind.TheVariants as kinds
use Rattle.reo_grammar.specs.Tokens.{matches, is_real, number_from}
use Rattle.reo_grammar.specs.Tokens.Class.{number}
use Rattle.reo_lexer.proofs.Cut.{is_cut}
use Rattle.reo_syntax.proofs.Cuts.{open-cut}
use Rattle.reo_trees.specs.declared.types.Shape.{Shape}
use Rattle.reo_trees.specs.declared.types.Shape.TheVariants as shapes
use Rattle.reo_trees.specs.declared.types.TypeTerm.{TypeTerm}
use Rattle.reo_trees.specs.declared.items.Item.{Item}
use Rattle.reo_trees.specs.declared.programs.Parameter.{Parameter}
use Rattle.reo_trees.specs.declared.programs.Connector.{Connector}
use Rattle.reo_trees.specs.declared.programs.Declaration.{Declaration}
use Rattle.reo_trees.specs.declared.programs.Declaration.TheVariants as declarations
use Rattle.reo_trees.specs.declared.programs.Program.{Program}
use Rattle.reo_trees.specs.Forms.{comma_form, further}
use Rattle.reo_trees.specs.Forms.Rule.{type_rule}
use Rattle.reo_trees.specs.Types.{bound_form}
use Rattle.reo_trees.specs.Items.{items_form, item_form}
use Rattle.reo_trees.specs.Programs.{parameters_form, parameter_form, connector_form, declaration_form, declarations_form, program_form}
use Rattle.reo_trees.specs.Says.{SaysProgram}
use Rattle.reo_gen.specs.Names.{link, output}
use Rattle.reo_gen.specs.Circuits.{stage_text, output_text, head_text, link_line, source_of, sink_of, use_line, circuit_text}
use Rattle.reo_gen.proofs.laws.Heights.{Height, height, low-nowhere_above}
use Rattle.reo_gen.proofs.laws.Pieces.{IsNamed, reads-both, reads-more, reads-first, reads-left, reads-right, reads-made, reads-lined, reads-rule, reads-nothing, reads-text, reads-word, reads-name, reads-gap, reads-number, reads-all}
use Rattle.reo_gen.proofs.laws.Written.{Lines, IsBy, AreBy, made_by, by-none, by-more, past, made-append, reads-range}
use Rattle.reo_gen.proofs.laws.Words.{named-output, named-link}
use Rattle.reo_gen.proofs.laws.Trees.{parameter_by, channel_by, connector_by, stage_parameters, stage_items, output_by, link_by, stage_by, main_parameters, main_links, main_stages, Places, program_of, declarations_of, type_declaration, stage_of, buffer}
use Rattle.reo_gen.proofs.laws.Parts.{Circuit, bare-name, within_head, within_body, reads-in, reads-out, reads-node, reads-sync, reads-lossy, reads-drain, reads-buffer, reads-use}
use Rattle.reo_grammar.specs.Bytes.{one_of}
use Rattle.reo_grammar.specs.Grammar.{Says}
use Rattle.reo_grammar.specs.Grammar.Grammar.{rule}
use Rattle.reo_grammar.specs.Spelling.{reserved}
use Rattle.reo_lexer.specs.Lexing.{lexemes_of}
use Rattle.reo_trees.specs.Rules.{circuit_rules}
use Rattle.reo_values.specs.Names.{is_name}

-- Items so far, and one more, indented or not.
one-more : (fs : List (Lines → Item)) (f : Lines → Item) (before t r : List ℕ) → Circuit items_form before (t ++ r) (AreBy fs) within_body within_body → Circuit item_form t r (IsBy f) within_body within_body
    → Circuit items_form (before ++ t) r (AreBy (fs ++ f ∷ [])) within_body within_body
one-more fs f before t r x y = reads-more (AreBy (fs ++ f ∷ [])) x y (λ xs z p q. by-more fs f xs z p q)

named : (b : List ℕ) → is_name b ≡ true → not (one_of b reserved) ≡ true → IsNamed b
named b s f = record { spelled = s; free = f }

a_named : IsNamed (codes "a")
a_named = named (codes "a") refl refl

b_named : IsNamed (codes "b")
b_named = named (codes "b") refl refl

c_named : IsNamed (codes "c")
c_named = named (codes "c") refl refl

i_named : IsNamed (codes "i")
i_named = named (codes "i") refl refl

k_named : IsNamed (codes "k")
k_named = named (codes "k") refl refl

p_named : IsNamed (codes "p")
p_named = named (codes "p") refl refl

q_named : IsNamed (codes "q")
q_named = named (codes "q") refl refl

x_named : IsNamed (codes "x")
x_named = named (codes "x") refl refl

y_named : IsNamed (codes "y")
y_named = named (codes "y") refl refl

-- The items of a stage.
abbrev stage_body : List ℕ
stage_body =
    codes "  node x: t; node y: t; node k: t; node p: t; node q: t;\n  lossy a x; lossy a y; sync x p; sync x k; sync y q; sync y k; syncdrain a k;\n  fifo1 p b; fifo1 q c;\n"

reads-stage_items : (r : List ℕ) → Circuit items_form stage_body r (AreBy stage_items) within_body within_body
reads-stage_items r =
    one-more _ (channel_by buffer (codes "q") (codes "c")) _ (codes "fifo1 q c;\n") r
    (one-more _ (channel_by buffer (codes "p") (codes "b")) _ (codes "  fifo1 p b; ") _
    (one-more _ _ _ (codes "syncdrain a k;\n") _
    (one-more _ _ _ (codes "sync y k; ") _
    (one-more _ _ _ (codes "sync y q; ") _
    (one-more _ _ _ (codes "sync x k; ") _
    (one-more _ _ _ (codes "sync x p; ") _
    (one-more _ _ _ (codes "lossy a y; ") _
    (one-more _ _ _ (codes "  lossy a x; ") _
    (one-more _ _ _ (codes "node q: t;\n") _
    (one-more _ _ _ (codes "node p: t; ") _
    (one-more _ _ _ (codes "node k: t; ") _
    (one-more _ _ _ (codes "node y: t; ") _
    (one-more [] _ [] (codes "  node x: t; ") _
    (reads-first (reads-nothing [] _ (AreBy []) within_body by-none))
    (reads-gap (codes "  ") refl (reads-node (codes "x") (codes " ") _ x_named refl)))
    (reads-node (codes "y") (codes " ") _ y_named refl))
    (reads-node (codes "k") (codes " ") _ k_named refl))
    (reads-node (codes "p") (codes " ") _ p_named refl))
    (reads-node (codes "q") (codes "\n") _ q_named refl))
    (reads-gap (codes "  ") refl (reads-lossy (codes "a") (codes "x") (codes " ") _ a_named x_named refl)))
    (reads-lossy (codes "a") (codes "y") (codes " ") _ a_named y_named refl))
    (reads-sync (codes "x") (codes "p") (codes " ") _ x_named p_named refl))
    (reads-sync (codes "x") (codes "k") (codes " ") _ x_named k_named refl))
    (reads-sync (codes "y") (codes "q") (codes " ") _ y_named q_named refl))
    (reads-sync (codes "y") (codes "k") (codes " ") _ y_named k_named refl))
    (reads-drain (codes "a") (codes "k") (codes "\n") _ a_named k_named refl))
    (reads-gap (codes "  ") refl (reads-buffer (codes "p") (codes "b") (codes " ") _ p_named b_named refl)))
    (reads-buffer (codes "q") (codes "c") (codes "\n") r q_named c_named refl)

-- What a further parameter is read as.
further-out : (name r : List ℕ) → IsNamed name → is_cut kinds.Name (codes "t") r ≡ true
    → Circuit (further parameter_form) (codes ", " ++ (codes "out " ++ ((name ++ codes ": ") ++ codes "t"))) r (IsBy (parameter_by false name)) within_head within_head
further-out name r n i = reads-both (IsBy (parameter_by false name)) (reads-word (codes ",") (codes " ") _ within_head refl refl) (reads-out name r n i) (λ u p e q. q)

first-in : (name r : List ℕ) → IsNamed name → is_cut kinds.Name (codes "t") r ≡ true
    → Circuit (comma_form parameter_form) (codes "in " ++ ((name ++ codes ": ") ++ codes "t")) r (AreBy (parameter_by true name ∷ [])) within_head within_head
first-in name r n i = reads-first (reads-made (AreBy (parameter_by true name ∷ [])) (reads-in name r n i) (λ p q. by-more [] (parameter_by true name) [] p by-none q))

reads-stage_parameters : (s : List ℕ) → Circuit parameters_form (codes "in a: t, out b: t, out c: t") (codes ") " ++ s) (AreBy stage_parameters) within_head within_head
reads-stage_parameters s =
    let a = parameter_by true (codes "a") in
    let b = parameter_by false (codes "b") in
    let c = parameter_by false (codes "c") in
    reads-left (reads-more (AreBy stage_parameters)
    (reads-more (AreBy (a ∷ b ∷ [])) (first-in (codes "a") _ a_named refl) (further-out (codes "b") _ b_named refl) (λ ps p x y. by-more (a ∷ []) b ps p x y))
    (further-out (codes "c") (codes ") " ++ s) c_named refl) (λ ps p x y. by-more (a ∷ b ∷ []) c ps p x y))

below-large : (j n : ℕ) → n ≤ 300 → j < 0 + n → j < 2 ^ 64
below-large j n h l = omega arith

reads-main_parameters : (n : ℕ) (s : List ℕ) → n ≤ 256 → Circuit parameters_form (codes "in i: t" ++ flat_map output_text (range_with_len 0 (n + 1))) (codes ") " ++ s) (AreBy (main_parameters n)) within_head within_head
reads-main_parameters n s few =
    reads-left (reads-range (λ r. is_cut kinds.Name (codes "t") r ≡ true) output_text output_by 0 (n + 1) (parameter_by true (codes "i") ∷ []) (codes "in i: t") (codes ") " ++ s) refl (λ j r. refl)
    (λ j r l u f.
    reads-text (ap (λ t. codes ", out " ++ t) (append_assoc (output j) (codes ": ") (codes "t"))) (further-out (output j) r (named-output j (below-large j (n + 1) (omega arith) u)) f))
    (first-in (codes "i") _ i_named (fit (n + 1) 0)))
  where
    fit : (m a : ℕ) → is_cut kinds.Name (codes "t") (flat_map output_text (range_with_len a m) ++ (codes ") " ++ s)) ≡ true
    fit zero a = refl
    fit (suc m) a = refl

-- Some name, or another.
named-one : (b : Bool) (x y : List ℕ) → IsNamed x → IsNamed y → IsNamed (if b then x else y)
named-one true x y n m = n
named-one false x y n m = m

named-source : (j : ℕ) → j < 2 ^ 64 → IsNamed (source_of j)
named-source j h = named-one (j == 1) (codes "i") (link (j - 1)) i_named (named-link (j - 1) (omega arith))

named-sink : (n j : ℕ) → j < 2 ^ 64 → IsNamed (sink_of n j)
named-sink n j h = named-one (j == n) (output 0) (link j) (named-output 0 (omega arith)) (named-link j h)

reads-link : (j : ℕ) (r : List ℕ) → j < 2 ^ 64 → Circuit item_form (link_line j) r (IsBy (link_by j)) within_body within_body
reads-link j r h =
    reads-text (ap (λ t. codes "  node " ++ t) (append_assoc (link j) (codes ": ") (codes "t;\n"))) (reads-gap (codes "  ") refl (reads-node (link j) (codes "\n") r (named-link j h) refl))

use-text : (x y z : List ℕ) → (((x ++ (codes ", " ++ y)) ++ (codes ", " ++ z)) ++ codes ")") ++ codes ";\n" ≡ ((((x ++ codes ", ") ++ y) ++ codes ", ") ++ z) ++ codes ");\n"
use-text x y z =
    append_assoc ((x ++ (codes ", " ++ y)) ++ (codes ", " ++ z)) (codes ")") (codes ";\n")
    ∙ ap (λ l. l ++ codes ");\n") (sym (append_assoc (x ++ (codes ", " ++ y)) (codes ", ") z) ∙ ap (λ l. (l ++ codes ", ") ++ z) (sym (append_assoc x (codes ", ") y)))

reads-stage : (n j : ℕ) (r : List ℕ) → j < 2 ^ 64 → Circuit item_form (use_line n j) r (IsBy (stage_by n j)) within_body within_body
reads-stage n j r h =
    reads-text (ap (λ t. codes "  use stage(" ++ t) (use-text (source_of j) (sink_of n j) (output j)))
    (reads-gap (codes "  ") refl (reads-use (source_of j) (sink_of n j) (output j) (codes "\n") r (named-source j h) (named-sink n j h) (named-output j h) refl))

reads-main_items : (n : ℕ) (r : List ℕ) → 1 ≤ n → n ≤ 256
    → Circuit items_form (flat_map link_line (range_with_len 1 (n - 1)) ++ flat_map (use_line n) (range_with_len 1 n)) (codes "}\n" ++ r) (AreBy (main_links n ++ main_stages n)) within_body within_body
reads-main_items n r some few =
    reads-range (λ s. Unit {0}) (use_line n) (stage_by n) 1 n (map link_by (range_with_len 1 (n - 1))) (flat_map link_line (range_with_len 1 (n - 1))) (codes "}\n" ++ r) tt (λ j s. tt)
    (λ j s l u f. reads-stage n j s (omega arith))
    (reads-range (λ s. Unit {0}) link_line link_by 1 (n - 1) [] [] (flat_map (use_line n) (range_with_len 1 n) ++ (codes "}\n" ++ r)) tt (λ j s. tt)
    (λ j s l u f. reads-link j s (omega arith))
    (reads-first (reads-nothing [] _ (AreBy []) within_body by-none)))

-- A connector that is read.
record IsConnectorBy (name : List ℕ) (ps : List (Lines → Parameter)) (is : List (Lines → Item)) (c : Connector) : Type 0 where
  pub line : ℕ
  pub at : ℕ → Lines
  pub below : ℕ → Lines
  pub same : c ≡ connector_by name ps is line at below

abbrev bottom : Height
bottom = height 0 0

reads-connector : (name : List ℕ) (ps : List (Lines → Parameter)) (is : List (Lines → Item)) (head body r : List ℕ) → IsNamed name
    → ((s : List ℕ) → Circuit parameters_form head (codes ") " ++ s) (AreBy ps) within_head within_head) → Circuit items_form body (codes "}\n" ++ r) (AreBy is) within_body within_body
    → Circuit connector_form (codes "connector " ++ ((name ++ codes "(") ++ ((head ++ codes ") ") ++ (codes "{\n" ++ (body ++ codes "}\n"))))) r (IsConnectorBy name ps is) bottom bottom
reads-connector name ps is head body r n p i =
    reads-lined (IsConnectorBy name ps is)
    (reads-both (λ (f : ℕ → Connector). (at : ℕ → Lines) × (below : ℕ → Lines) × ((l : ℕ) → f l ≡ connector_by name ps is l at below)) (reads-word (codes "connector") (codes " ") _ bottom refl refl)
    (reads-both (λ (f : ℕ → Connector). (at : ℕ → Lines) × (below : ℕ → Lines) × ((l : ℕ) → f l ≡ connector_by name ps is l at below))
    (reads-both (λ y. name ≡ y) (bare-name name (codes "(" ++ (((head ++ codes ") ") ++ (codes "{\n" ++ (body ++ codes "}\n"))) ++ r)) bottom n refl refl) (reads-word (codes "(") [] _ bottom refl (open-cut (((head ++ codes ") ") ++ (codes "{\n" ++ (body ++ codes "}\n"))) ++ r))) (λ y u e k. e))
    (reads-both (λ (f : List ℕ → ℕ → Connector). (at : ℕ → Lines) × (below : ℕ → Lines) × ((m : List ℕ) (l : ℕ) → f m l ≡ connector_by m ps is l at below))
    (reads-both (AreBy ps) (p ((codes "{\n" ++ (body ++ codes "}\n")) ++ r)) (reads-word (codes ")") (codes " ") _ within_head refl refl) (λ y u e k. e))
    (reads-both (AreBy is) (reads-word (codes "{") (codes "\n") _ bottom refl refl)
    (reads-both (AreBy is) i (reads-word (codes "}") (codes "\n") r within_body refl refl) (λ y u e k. e))
    (λ u y k e. e))
    (λ y z e k. (e.at, k.at, λ m l j. record { line = l; name = m; parameters = e.are j; items = k.are j })))
    (λ m f e k. (k.0, k.1, λ l. k.2 m l ∙ ap (λ (z : List ℕ). connector_by z ps is l k.0 k.1) (sym e))))
    (λ u f e k. k))
    (λ l f k. record { line = l; at = k.0; below = k.1; same = k.2 l })

-- A bound of a type, without a sign.
reads-bound : (n : ℕ) (b r : List ℕ) → matches (number 0 1000000000) (record { kind = kinds.Number; bytes = b; line = 0 }) ≡ true → is_real (record { kind = kinds.Number; bytes = b; line = 0 }) ≡ true → number_from 0 b ≡ n
    → is_cut kinds.Number b r ≡ true → Circuit bound_form b r (λ z. z ≡ pos n) bottom bottom
reads-bound n b r m q v i = reads-right (reads-made (λ z. z ≡ pos n) (reads-text (append-nil b) (reads-number n 0 1000000000 b [] r bottom m q v refl i refl)) (λ k e. ap pos e))

abbrev range_shape : Shape
range_shape = shapes.Int (pos 0) (pos 999)

reads-range_type : (r : List ℕ) → Circuit (rule type_rule) (codes "int 0..999") (codes ";" ++ r) (λ t. (m : ℕ) × (t ≡ record { line = m; shape = range_shape })) bottom bottom
reads-range_type r =
    reads-rule type_rule (reads-lined (λ (t : TypeTerm). (m : ℕ) × (t ≡ record { line = m; shape = range_shape }))
    (reads-right (reads-right (reads-left
    (reads-both (λ s. s ≡ range_shape) (reads-word (codes "int") (codes " ") (codes "0..999;" ++ r) bottom refl refl)
    (reads-both (λ s. s ≡ range_shape)
    (reads-both (λ z. z ≡ pos 0) (reads-bound 0 (codes "0") (codes "..999;" ++ r) refl refl refl refl) (reads-word (codes "..") [] (codes "999;" ++ r) bottom refl refl) (λ z u e k. e))
    (reads-bound 999 (codes "999") (codes ";" ++ r) refl refl refl refl)
    (λ y z e k i. shapes.Int (e i) (k i)))
    (λ u s e k. k)))))
    (λ l s e. (l, ap (λ (z : Shape). record { line = l; shape = z }) e)))

-- The declarations, one by one.
abbrev IsTyped : Declaration → Type 0
IsTyped d = (l : ℕ) × (m : ℕ) × (d ≡ type_declaration l m)

reads-type : (r : List ℕ) → Circuit declaration_form (codes "type t = int 0..999;\n") r IsTyped bottom bottom
reads-type r =
    reads-left (reads-lined IsTyped
    (reads-both (λ (f : ℕ → Declaration). (m : ℕ) × ((l : ℕ) → f l ≡ type_declaration l m)) (reads-word (codes "type") (codes " ") (codes "t = int 0..999;\n" ++ r) bottom refl refl)
    (reads-both (λ (f : ℕ → Declaration). (m : ℕ) × ((l : ℕ) → f l ≡ type_declaration l m))
    (reads-both (λ y. codes "t" ≡ y) (reads-name (codes "t") (codes " ") (codes "= int 0..999;\n" ++ r) bottom (named (codes "t") refl refl) refl refl refl) (reads-word (codes "=") (codes " ") (codes "int 0..999;\n" ++ r) bottom refl refl) (λ y u e k. e))
    (reads-both (λ (t : TypeTerm). (m : ℕ) × (t ≡ record { line = m; shape = range_shape })) (reads-range_type (codes "\n" ++ r)) (reads-word (codes ";") (codes "\n") r bottom refl refl) (λ t u e k. e))
    (λ y t e k. (k.0, λ l i. declarations.Named l (sym e i) (k.1 i))))
    (λ u f e k. k))
    (λ l f k. (l, k.0, k.1 l)))

abbrev IsMadeBy : List ℕ → List (Lines → Parameter) → List (Lines → Item) → Declaration → Type 0
IsMadeBy name ps is d = (c : Connector) × IsConnectorBy name ps is c × (d ≡ declarations.Made c)

reads-made_connector : (name : List ℕ) (ps : List (Lines → Parameter)) (is : List (Lines → Item)) (a r : List ℕ) → Circuit connector_form a r (IsConnectorBy name ps is) bottom bottom → Circuit declaration_form a r (IsMadeBy name ps is) bottom bottom
reads-made_connector name ps is a r x = reads-right (reads-made (IsMadeBy name ps is) x (λ c k. (c, k, refl)))

-- The text of a connector.
abbrev connector_text : List ℕ → List ℕ → List ℕ → List ℕ
connector_text name head body = codes "connector " ++ ((name ++ codes "(") ++ ((head ++ codes ") ") ++ (codes "{\n" ++ (body ++ codes "}\n"))))

abbrev stage_connector : List ℕ
stage_connector = connector_text (codes "stage") (codes "in a: t, out b: t, out c: t") stage_body

abbrev main_head : ℕ → List ℕ
main_head n = codes "in i: t" ++ flat_map output_text (range_with_len 0 (n + 1))

abbrev main_body : ℕ → List ℕ
main_body n = flat_map link_line (range_with_len 1 (n - 1)) ++ flat_map (use_line n) (range_with_len 1 n)

abbrev main_connector : ℕ → List ℕ
main_connector n = connector_text (codes "main") (main_head n) (main_body n)

nowhere : Places
nowhere = record { type_line = 0; term_line = 0; stage_line = 0; stage_parameters = λ j. (0, 0); stage_items = λ j. (0, 0); main_line = 0; main_parameters = λ j. (0, 0); main_links = λ j. (0, 0); main_stages = λ j. (0, 0) }

reads-declarations : (n : ℕ) → 1 ≤ n → n ≤ 256
    → Circuit declarations_form ((codes "type t = int 0..999;\n" ++ stage_connector) ++ main_connector n) [] (λ ds. (at : Places) × (ds ≡ declarations_of n at)) bottom bottom
reads-declarations n some few =
    reads-more (λ ds. (at : Places) × (ds ≡ declarations_of n at))
    (reads-more (λ (ds : List Declaration). (at : Places) × (ds ≡ type_declaration at.type_line at.term_line ∷ declarations.Made (stage_of at) ∷ []))
    (reads-text refl (reads-more {a = []} (λ (ds : List Declaration). (at : Places) × (ds ≡ type_declaration at.type_line at.term_line ∷ []))
    (reads-first (reads-nothing [] _ (λ (ds : List Declaration). ds ≡ []) bottom refl)) (reads-type (stage_connector ++ (main_connector n ++ [])))
    (λ ds d e k. (record nowhere { type_line = k.0; term_line = k.1 }, λ i. e i ++ k.2 i ∷ []))))
    (reads-made_connector (codes "stage") stage_parameters stage_items stage_connector (main_connector n ++ [])
    (reads-connector (codes "stage") stage_parameters stage_items (codes "in a: t, out b: t, out c: t") stage_body (main_connector n ++ []) (named (codes "stage") refl refl) reads-stage_parameters (reads-stage_items (codes "}\n" ++ (main_connector n ++ [])))))
    (λ ds d e k. (record e.0 { stage_line = k.1.line; stage_parameters = k.1.at; stage_items = k.1.below }, λ i. e.1 i ++ (k.2 ∙ ap declarations.Made k.1.same) i ∷ [])))
    (reads-made_connector (codes "main") (main_parameters n) (main_links n ++ main_stages n) (main_connector n) []
    (reads-connector (codes "main") (main_parameters n) (main_links n ++ main_stages n) (main_head n) (main_body n) [] (named (codes "main") refl refl) (λ s. reads-main_parameters n s few) (reads-main_items n [] some few)))
    (λ ds d e k. (
      record e.0 { main_line = k.1.line; main_parameters = k.1.at; main_links = k.1.below; main_stages = past (main_links n) k.1.below },
      λ i. e.1 i ++ (k.2 ∙ ap declarations.Made (k.1.same ∙ ap (λ (is : List Item). record { line = k.1.line; name = codes "main"; parameters = made_by (main_parameters n) k.1.at; items = is }) (made-append (main_links n) (main_stages n) k.1.below))) i ∷ [],
    ))

joined-head : (p l u : List ℕ) → (p ++ codes ") ") ++ (codes "{\n" ++ ((l ++ u) ++ codes "}\n")) ≡ ((p ++ codes ") {\n") ++ l) ++ (u ++ codes "}\n")
joined-head p l u =
    append_assoc p (codes ") ") (codes "{\n" ++ ((l ++ u) ++ codes "}\n")) ∙ ap (λ t. p ++ (codes ") {\n" ++ t)) (append_assoc l u (codes "}\n"))
    ∙ sym (append_assoc p (codes ") {\n") (l ++ (u ++ codes "}\n"))) ∙ sym (append_assoc (p ++ codes ") {\n") l (u ++ codes "}\n"))

five-parts : (s h l u e : List ℕ) → s ++ ((h ++ l) ++ (u ++ e)) ≡ (((s ++ h) ++ l) ++ u) ++ e
five-parts s h l u e = sym (append_assoc s (h ++ l) (u ++ e)) ∙ ap (λ t. t ++ (u ++ e)) (sym (append_assoc s h l)) ∙ sym (append_assoc ((s ++ h) ++ l) u e)

whole-text : (n : ℕ) → (codes "type t = int 0..999;\n" ++ stage_connector) ++ main_connector n ≡ circuit_text n
unfolding circuit_text stage_text
whole-text n =
    let p = flat_map output_text (range_with_len 0 (n + 1)) in
    let l = flat_map link_line (range_with_len 1 (n - 1)) in
    let u = flat_map (use_line n) (range_with_len 1 n) in
    ap (λ t. stage_text ++ (codes "connector main(in i: t" ++ t)) (joined-head p l u) ∙ five-parts stage_text (head_text n) l u (codes "}\n")

-- The text says the program, on some lines.
pub circuit-says : (n : ℕ) → 1 ≤ n → n ≤ 256 → (at : Places) × SaysProgram (circuit_text n) (program_of n at)
circuit-says n some few =
    let whole : Circuit program_form (circuit_text n) [] (λ p. (at : Places) × (p ≡ program_of n at)) bottom bottom =
    reads-text (whole-text n) (reads-made (λ (p : Program). (at : Places) × (p ≡ program_of n at)) (reads-declarations n some few) (λ ds k. (k.0, ap (λ (l : List Declaration). record { declarations = l }) k.1))) in
    let (ts, is, low, said) = reads-all whole in
    (said.2.0, (ts, is, subst (λ p. Says circuit_rules program_form (lexemes_of (circuit_text n) ts) p) said.2.1 said.1, low-nowhere_above (lexemes_of (circuit_text n) ts) low))
