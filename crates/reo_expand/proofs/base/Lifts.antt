-- Lifted programs stand for themselves.
use Rattle.std.proofs.Common.{◌≡◌, ◌∙◌, ℕ, List, [], ◌∷◌, ◌++◌, map, refl, ap}
use Rattle.reo_trees.specs.declared.items.Item.{Item}
use Rattle.reo_trees.specs.declared.items.ItemForm.{ItemForm}
use Rattle.reo_trees.specs.declared.items.ItemForm.TheVariants as plain
use Rattle.reo_trees.specs.declared.programs.Connector.{Connector}
use Rattle.reo_trees.specs.declared.programs.Declaration.{Declaration}
use Rattle.reo_trees.specs.declared.programs.Declaration.TheVariants as declarations
use Rattle.reo_expand.specs.base.Expansion.{items_of, items_in, ref_name, on_line, declared_by, connectors_of, expanded}
use Rattle.reo_expand.specs.base.Lifted.{lifted_ref, lifted_form, lifted_item, lifted_declaration}

names-lifted : (names : List (List ℕ)) → map (ref_name []) (map lifted_ref names) ≡ names
names-lifted [] = refl
names-lifted (n ∷ ns) = ap (λ l. n ∷ l) (names-lifted ns)

form-lifted : (line : ℕ) (f : ItemForm) → items_of [] line (lifted_form f) ≡ on_line line f ∷ []
form-lifted line (plain.Node name term) = refl
form-lifted line (plain.Joined channel first second) = refl
form-lifted line (plain.Used name arguments) = ap (λ l. on_line line (plain.Used name l) ∷ []) (names-lifted arguments)

items-lifted : (items : List Item) → items_in [] (map lifted_item items) ≡ items
items-lifted [] = refl
items-lifted (i ∷ is) = ap (λ l. l ++ items_in [] (map lifted_item is)) (form-lifted i.line i.form) ∙ ap (λ l. i ∷ l) (items-lifted is)

declared-lifted : (later : List Connector) (d : Declaration) → declared_by later (lifted_declaration d) ≡ d ∷ []
declared-lifted later (declarations.Named line name term) = refl
declared-lifted later (declarations.Made c) =
    ap (λ l. declarations.Made (record { line = c.line; name = c.name; parameters = c.parameters; items = l }) ∷ []) (items-lifted c.items)

pub expanded-lifted : (ds : List Declaration) → expanded (map lifted_declaration ds) ≡ ds
expanded-lifted [] = refl
expanded-lifted (d ∷ ds) =
    ap (λ l. l ++ expanded (map lifted_declaration ds)) (declared-lifted (connectors_of (expanded (map lifted_declaration ds))) d)
    ∙ ap (λ l. d ∷ l) (expanded-lifted ds)
