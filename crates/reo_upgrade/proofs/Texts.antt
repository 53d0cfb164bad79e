-- The canonical text of a lifted program.
use Rattle.std.proofs.Common.{◌≡◌, ◌∙◌, ℕ, List, [], ◌∷◌, ◌++◌, map, refl, sym, ap, append_assoc, append-nil, codes}
use Rattle.std.specs.List.{flat_map}
use Rattle.reo_trees.specs.declared.items.Item.{Item}
use Rattle.reo_trees.specs.declared.items.ItemForm.{ItemForm}
use Rattle.reo_trees.specs.declared.items.ItemForm.TheVariants as plain
use Rattle.reo_trees.specs.declared.programs.Connector.{Connector}
use Rattle.reo_trees.specs.declared.programs.Declaration.{Declaration}
use Rattle.reo_trees.specs.declared.programs.Declaration.TheVariants as declarations
use Rattle.reo_trees.specs.declared.programs.Program.{Program}
use Rattle.reo_syntax.specs.Spread.{spread, names_text}
use Rattle.reo_syntax.specs.TypeText.{type_text}
use Rattle.reo_syntax.specs.ItemText.{channel_head, channel_tail, form_of_item_text}
use Rattle.reo_syntax.specs.Canonical.{parameter_text, item_line, connector_text, declaration_text, canonical_text}
use Rattle.reo_syntax.proofs.Bare.{two-parts}
use Rattle.reo_syntax.specs.two.IndexText.{ref_text}
use Rattle.reo_syntax.specs.two.ItemText.{form_text, line_text, lines_text}
use Rattle.reo_syntax.specs.two.Canonical as two
use Rattle.reo_syntax.specs.two.Canonical.{canonical_text_two}
use Rattle.reo_expand.specs.base.Lifted.{lifted_ref, lifted_form, lifted_item, lifted_connector, lifted_declaration, lifted}

flat-mapped : {A B : Type 0} (f : B → List ℕ) (h : A → List ℕ) (g : A → B) → ((x : A) → f (g x) ≡ h x) → (xs : List A) → flat_map f (map g xs) ≡ flat_map h xs
flat-mapped f h g e [] = refl
flat-mapped f h g e (x ∷ xs) = two-parts (λ a b. a ++ b) (f (g x)) (flat_map f (map g xs)) (h x) (flat_map h xs) (e x) (flat-mapped f h g e xs)

names-text : (names : List (List ℕ)) → spread ref_text (map lifted_ref names) ≡ names_text names
names-text [] = refl
names-text (n ∷ ns) =
    two-parts (λ a b. a ++ b) (n ++ []) (flat_map (λ y. codes ", " ++ ref_text y) (map lifted_ref ns)) n (flat_map (λ y. codes ", " ++ y) ns) (append-nil n)
    (flat-mapped (λ y. codes ", " ++ ref_text y) (λ y. codes ", " ++ y) lifted_ref (λ y. ap (λ l. codes ", " ++ l) (append-nil y)) ns)

form-text : (indent : List ℕ) (f : ItemForm) → form_text indent (lifted_form f) ≡ form_of_item_text f
form-text indent (plain.Node name term) = ap (λ l. codes "node " ++ l) (sym (append_assoc name (codes ": ") (type_text term ++ codes ";")))
form-text indent (plain.Joined c x y) =
    two-parts (λ a b. channel_head c ++ ((a ++ codes " ") ++ (b ++ (channel_tail c ++ codes ";")))) (x ++ []) (y ++ []) x y (append-nil x) (append-nil y)
form-text indent (plain.Used name arguments) =
    ap (λ l. codes "use " ++ l) (sym (append_assoc name (codes "(") (spread ref_text (map lifted_ref arguments) ++ codes ");"))
    ∙ ap (λ l. (name ++ codes "(") ++ (l ++ codes ");")) (names-text arguments))

lines-text : (items : List Item) → lines_text (codes "  ") (map lifted_item items) ≡ flat_map item_line items
lines-text items = flat-mapped (line_text (codes "  ")) item_line lifted_item (λ i. ap (λ l. codes "  " ++ (l ++ codes "\n")) (form-text (codes "  ") i.form)) items

-- Parts of a connector's text, put together from the left and from the right.
header-parts : (a b c d e : List ℕ) → (a ++ (b ++ (c ++ d))) ++ e ≡ a ++ ((b ++ c) ++ (d ++ e))
header-parts a b c d e =
    append_assoc a (b ++ (c ++ d)) e ∙ ap (λ z. a ++ z) (ap (λ z. z ++ e) (sym (append_assoc b c d)) ∙ append_assoc (b ++ c) d e)

connector-text : (c : Connector) → two.connector_text (lifted_connector c) ≡ connector_text c
connector-text c =
    header-parts (codes "connector ") c.name (codes "(") (spread parameter_text c.parameters ++ codes ") ") (codes "{\n" ++ (lines_text (codes "  ") (map lifted_item c.items) ++ codes "}\n"))
    ∙ ap (λ l. codes "connector " ++ ((c.name ++ codes "(") ++ ((spread parameter_text c.parameters ++ codes ") ") ++ (codes "{\n" ++ (l ++ codes "}\n"))))) (lines-text c.items)

declaration-text : (d : Declaration) → two.declaration_text (lifted_declaration d) ≡ declaration_text d
declaration-text (declarations.Named line name term) = refl
declaration-text (declarations.Made c) = connector-text c

-- It is the line of the version, and the text of the program.
pub lifted-text : (p : Program) → canonical_text_two (lifted p) ≡ codes "reo 2\n" ++ canonical_text p
lifted-text p = ap (λ l. codes "reo 2\n" ++ l) (flat-mapped two.declaration_text declaration_text lifted_declaration declaration-text p.declarations)
