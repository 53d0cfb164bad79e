-- Lifted programs are spelled.
use Rattle.std.proofs.Common.{arith, ℕ, zero, suc, List, [], ◌∷◌, map}
use Rattle.std.specs.List.{All}
use Rattle.reo_trees.specs.declared.items.ItemForm.{ItemForm}
use Rattle.reo_trees.specs.declared.items.ItemForm.TheVariants as plain
use Rattle.reo_trees.specs.declared.programs.Connector.{Connector}
use Rattle.reo_trees.specs.declared.programs.Declaration.{Declaration}
use Rattle.reo_trees.specs.declared.programs.Declaration.TheVariants as declarations
use Rattle.reo_trees.specs.declared.programs.Program.{Program}
use Rattle.reo_trees.specs.Says.{SaysProgram}
use Rattle.reo_syntax_laws.specs.trees_laws.Spelled.{IsFreeName, IsFormBy, IsItemBy, IsConnectorBy, IsDeclarationBy}
use Rattle.reo_syntax_laws.specs.trees_laws.SpelledTwo.{IsSpelledRef, IsSpelledFormTwo, IsSpelledItemTwo, IsSpelledConnectorTwo, IsSpelledDeclarationTwo, IsSpelledTwo}
use Rattle.reo_syntax_laws.proofs.trees_laws.Lists.{all-none, all-cons}
use Rattle.reo_syntax_laws.proofs.trees_laws.Programs.{written}
use Rattle.reo_expand.specs.base.Lifted.{lifted_ref, lifted_form, lifted_item, lifted_connector, lifted_declaration, lifted}

all-mapped : {X Y : Type 0} (P : X → Type 0) (Q : Y → Type 0) (f : X → Y) → ((x : X) → P x → Q (f x)) → (xs : List X) → All P xs → All Q (map f xs)
all-mapped P Q f each [] all = all-none Q
all-mapped P Q f each (x ∷ xs) all = all-cons Q (f x) (map f xs) (each x (all zero x (omega arith))) (all-mapped P Q f each xs (λ k d below. all (suc k) d (omega arith)))

form-spelled : (f : ItemForm) → IsFormBy IsFreeName f → IsSpelledFormTwo (lifted_form f)
form-spelled (plain.Node name term) p = (p.0, tt, p.1)
form-spelled (plain.Joined channel first second) p = (p.0, (p.1, tt), (p.2, tt))
form-spelled (plain.Used name arguments) p = (p.0, tt, all-mapped IsFreeName IsSpelledRef lifted_ref (λ n q. (q, tt)) arguments p.1)

connector-spelled : (c : Connector) → IsConnectorBy IsFreeName c → IsSpelledConnectorTwo (lifted_connector c)
connector-spelled c p = record {
  name = p.name;
  number = tt;
  parameters = p.parameters;
  items = all-mapped (IsItemBy IsFreeName) IsSpelledItemTwo lifted_item (λ i q. form-spelled i.form q) c.items p.items;
}

declaration-spelled : (d : Declaration) → IsDeclarationBy IsFreeName d → IsSpelledDeclarationTwo (lifted_declaration d)
declaration-spelled (declarations.Named line name term) p = p
declaration-spelled (declarations.Made c) p = connector-spelled c p

pub lifted-spelled : (text : List ℕ) (p : Program) → SaysProgram text p → IsSpelledTwo (lifted p)
lifted-spelled text p says = all-mapped (IsDeclarationBy IsFreeName) IsSpelledDeclarationTwo lifted_declaration declaration-spelled p.declarations (written text p says)
