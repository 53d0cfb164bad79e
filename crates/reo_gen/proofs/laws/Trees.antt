-- The trees of made circuits, with lines of their own.
use Rattle.std.proofs.Common.{ℕ, ◌+◌, ◌-◌, Bool, true, false, None, pos, List, [], ◌∷◌, ◌++◌, map, codes}
use Rattle.std.specs.List.{range_with_len}
use Rattle.reo_trees.specs.declared.types.Shape.TheVariants as shapes
use Rattle.reo_trees.specs.declared.types.TypeTerm.{TypeTerm}
use Rattle.reo_trees.specs.declared.items.Item.{Item}
use Rattle.reo_trees.specs.declared.items.ItemForm.TheVariants as forms
use Rattle.reo_trees.specs.declared.items.Channel.{Channel}
use Rattle.reo_trees.specs.declared.items.Channel.TheVariants as channels
use Rattle.reo_trees.specs.declared.programs.Parameter.{Parameter}
use Rattle.reo_trees.specs.declared.programs.Connector.{Connector}
use Rattle.reo_trees.specs.declared.programs.Declaration.{Declaration}
use Rattle.reo_trees.specs.declared.programs.Declaration.TheVariants as declarations
use Rattle.reo_trees.specs.declared.programs.Program.{Program}
use Rattle.reo_gen.specs.Names.{link, output}
use Rattle.reo_gen.specs.Circuits.{source_of, sink_of}
use Rattle.reo_gen.proofs.laws.Written.{Lines, made_by}

-- The type by its name.
abbrev pub t_type : ℕ → TypeTerm
t_type line = record { line = line; shape = shapes.Named (codes "t") }

abbrev pub parameter_by : Bool → List ℕ → Lines → Parameter
parameter_by inward name l = record { line = l.0; inward = inward; name = name; term = t_type l.1 }

abbrev pub node_by : List ℕ → Lines → Item
node_by name l = record { line = l.0; form = forms.Node name (t_type l.1) }

abbrev pub channel_by : Channel → List ℕ → List ℕ → Lines → Item
channel_by c x y l = record { line = l.0; form = forms.Joined c x y }

abbrev pub use_by : List ℕ → List ℕ → List ℕ → Lines → Item
use_by x y z l = record { line = l.0; form = forms.Used (codes "stage") (x ∷ y ∷ z ∷ []) }

abbrev pub connector_by : List ℕ → List (Lines → Parameter) → List (Lines → Item) → ℕ → (ℕ → Lines) → (ℕ → Lines) → Connector
connector_by name ps is line at below = record { line = line; name = name; parameters = made_by ps at; items = made_by is below }

-- The connector that is used over and over.
abbrev pub stage_parameters : List (Lines → Parameter)
stage_parameters = parameter_by true (codes "a") ∷ parameter_by false (codes "b") ∷ parameter_by false (codes "c") ∷ []

abbrev pub buffer : Channel
buffer = channels.Fifo1 None

abbrev pub stage_items : List (Lines → Item)
stage_items =
    node_by (codes "x") ∷ node_by (codes "y") ∷ node_by (codes "k") ∷ node_by (codes "p") ∷ node_by (codes "q")
    ∷ channel_by channels.Lossy (codes "a") (codes "x") ∷ channel_by channels.Lossy (codes "a") (codes "y") ∷ channel_by channels.Sync (codes "x") (codes "p") ∷ channel_by channels.Sync (codes "x") (codes "k")
    ∷ channel_by channels.Sync (codes "y") (codes "q") ∷ channel_by channels.Sync (codes "y") (codes "k") ∷ channel_by channels.SyncDrain (codes "a") (codes "k")
    ∷ channel_by buffer (codes "p") (codes "b") ∷ channel_by buffer (codes "q") (codes "c") ∷ []

abbrev pub output_by : ℕ → Lines → Parameter
output_by number = parameter_by false (output number)

abbrev pub link_by : ℕ → Lines → Item
link_by number = node_by (link number)

abbrev pub stage_by : ℕ → ℕ → Lines → Item
stage_by stages number = use_by (source_of number) (sink_of stages number) (output number)

abbrev pub main_parameters : ℕ → List (Lines → Parameter)
main_parameters stages = parameter_by true (codes "i") ∷ map output_by (range_with_len 0 (stages + 1))

abbrev pub main_links : ℕ → List (Lines → Item)
main_links stages = map link_by (range_with_len 1 (stages - 1))

abbrev pub main_stages : ℕ → List (Lines → Item)
main_stages stages = map (stage_by stages) (range_with_len 1 stages)

-- The lines of all parts.
pub record Places : Type 0 where
  pub type_line : ℕ
  pub term_line : ℕ
  pub stage_line : ℕ
  pub stage_parameters : ℕ → Lines
  pub stage_items : ℕ → Lines
  pub main_line : ℕ
  pub main_parameters : ℕ → Lines
  pub main_links : ℕ → Lines
  pub main_stages : ℕ → Lines

abbrev pub type_declaration : ℕ → ℕ → Declaration
type_declaration line term = declarations.Named line (codes "t") (record { line = term; shape = shapes.Int (pos 0) (pos 999) })

abbrev pub stage_of : Places → Connector
stage_of at = connector_by (codes "stage") stage_parameters stage_items at.stage_line at.stage_parameters at.stage_items

abbrev pub main_of : ℕ → Places → Connector
main_of stages at = record {
  line = at.main_line;
  name = codes "main";
  parameters = made_by (main_parameters stages) at.main_parameters;
  items = made_by (main_links stages) at.main_links ++ made_by (main_stages stages) at.main_stages;
}

abbrev pub declarations_of : ℕ → Places → List Declaration
declarations_of stages at = type_declaration at.type_line at.term_line ∷ declarations.Made (stage_of at) ∷ declarations.Made (main_of stages at) ∷ []

-- The program of so many stages.
abbrev pub program_of : ℕ → Places → Program
program_of stages at = record { declarations = declarations_of stages at }
