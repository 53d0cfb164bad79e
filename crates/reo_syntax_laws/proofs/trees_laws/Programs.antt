-- Programs that texts say.
use Rattle.std.proofs.Common.{ℕ, zero, suc, Bool, List, Option, Some, None}
use Rattle.std.specs.List.{All}
use Rattle.reo_lexer.specs.Lexing.{lexemes_of}
use Rattle.reo_lexer.proofs.Spans.{tokens-real}
use Rattle.reo_trees.specs.declared.literals.Literal.{Literal}
use Rattle.reo_trees.specs.declared.terms.Term.{Term}
use Rattle.reo_trees.specs.declared.types.TypeTerm.{TypeTerm}
use Rattle.reo_trees.specs.declared.items.Item.{Item}
use Rattle.reo_trees.specs.declared.items.ItemForm.{ItemForm}
use Rattle.reo_trees.specs.declared.items.Channel.{Channel}
use Rattle.reo_trees.specs.declared.programs.Parameter.{Parameter}
use Rattle.reo_trees.specs.declared.programs.Connector.{Connector}
use Rattle.reo_trees.specs.declared.programs.Declaration.{Declaration}
use Rattle.reo_trees.specs.declared.programs.Program.{Program}
use Rattle.reo_trees.specs.Forms.{Rule}
use Rattle.reo_trees.specs.Forms.Rule.{type_rule, literal_rule, term_rule, unary_rule, looped_rule}
use Rattle.reo_trees.specs.Rules.{circuit_rules}
use Rattle.reo_trees.specs.Channels.{plain_channel, plain_form, held_form, fifo1_form, held_list, sized_form, fifo_form, filter_form, map_form}
use Rattle.reo_trees.specs.Items.{node_form, arguments_form, use_form, some_item, item_form, items_form}
use Rattle.reo_trees.specs.Programs.{parameter_form, parameters_form, connector_form, named_form, declaration_form, declarations_form, program_form}
use Rattle.reo_trees.specs.Says.{SaysProgram}
use Rattle.reo_syntax_laws.proofs.Seen.{World, see-then}
use Rattle.reo_syntax_laws.specs.trees_laws.Spelled.{IsFreeName, IsSpelledShape, IsSpelledLiteral, IsSpelledTerm, IsSpelledChannel, IsFormBy, IsItemBy, IsSpelledParameter, IsConnectorBy, IsDeclarationBy, IsWritten}
use Rattle.reo_syntax_laws.proofs.trees_laws.Lists.{all-none, all-more}
use Rattle.reo_syntax_laws.proofs.trees_laws.Has.{Claim, Each, world, Has, Lies, any, has-both, has-left, has-right, has-made, has-lined, has-either, has-nothing, has-chain, has-word-as, has-name, has-number, has-comma, has-type, has-literal, has-term}
use Rattle.reo_syntax_laws.proofs.trees_laws.Types.{has-names, has-type-form}
use Rattle.reo_syntax_laws.proofs.trees_laws.Literals.{has-literal-form}
use Rattle.reo_syntax_laws.proofs.trees_laws.Terms.{has-term-form, has-unary-form}

-- All names of nodes and connectors are free.
abbrev pub IsFreeForm : ItemForm → Type 0
IsFreeForm f = IsFormBy IsFreeName f

abbrev pub IsFreeItem : Item → Type 0
IsFreeItem i = IsItemBy IsFreeName i

abbrev pub IsFreeConnector : Connector → Type 0
IsFreeConnector c = IsConnectorBy IsFreeName c

abbrev pub IsFreeDeclaration : Declaration → Type 0
IsFreeDeclaration d = IsDeclarationBy IsFreeName d

abbrev pub IsFreeType : TypeTerm → Type 0
IsFreeType x = IsSpelledShape x.shape

abbrev pub IsFreeTerm : Term → Type 0
IsFreeTerm x = IsSpelledTerm x.form

-- Literals that a buffer holds at first.
abbrev pub Held : Option Literal → Type 0
Held None = Unit {0}
Held (Some l) = IsSpelledLiteral l

-- What becomes an item behind a name, a size or a channel.
abbrev Named : (List ℕ → ItemForm) → Type 0
Named f = (x : List ℕ) → IsFreeName x → IsFreeForm (f x)

abbrev Sized : (ℕ → ItemForm) → Type 0
Sized f = (n : ℕ) → Lies 1 1024 n → IsFreeForm (f n)

abbrev Between : (List ℕ → ℕ → ItemForm) → Type 0
Between f = (x : List ℕ) (n : ℕ) → IsFreeName x → Lies 1 1024 n → IsFreeForm (f x n)

abbrev Joins : (Channel → ItemForm) → Type 0
Joins f = (c : Channel) → IsSpelledChannel c → IsFreeForm (f c)

-- And what becomes a parameter or a connector.
abbrev Inward : (Bool → ℕ → Parameter) → Type 0
Inward f = (way : Bool) (l : ℕ) → IsSpelledParameter (f way l)

abbrev Lined : (ℕ → Parameter) → Type 0
Lined f = (l : ℕ) → IsSpelledParameter (f l)

abbrev Made : (ℕ → Connector) → Type 0
Made f = (l : ℕ) → IsFreeConnector (f l)

abbrev MadeOf : (List ℕ → ℕ → Connector) → Type 0
MadeOf f = (n : List ℕ) (l : ℕ) → IsFreeName n → IsFreeConnector (f n l)

abbrev Declared : (ℕ → Declaration) → Type 0
Declared f = (l : ℕ) → IsFreeDeclaration (f l)

held-one : (x y : List ℕ) (held : Option Literal) → IsFreeName x → IsFreeName y → Held held → IsFreeForm (Rattle.reo_trees.specs.declared.items.ItemForm.TheVariants.Joined (Rattle.reo_trees.specs.declared.items.Channel.TheVariants.Fifo1 held) x y)
held-one x y None p q h = (tt, p, q)
held-one x y (Some l) p q h = (h, p, q)

module _ (k : ℕ) (each : Each k) where
  abbrev w : World
  w = world k each

  pub name-left : {B : Type 0} {h : Rattle.reo_trees.specs.Forms.FormOf B} → Has w (Rattle.reo_trees.specs.Forms.◌◂◌ Rattle.reo_trees.specs.Forms.name_form h) IsFreeName
  name-left = has-left IsFreeName has-name

  pub type-left : {B : Type 0} {h : Rattle.reo_trees.specs.Forms.FormOf B} → Has w (Rattle.reo_trees.specs.Forms.◌◂◌ (Rattle.reo_grammar.specs.Grammar.Grammar.rule type_rule) h) IsFreeType
  type-left = has-left IsFreeType (has-type k each)

  pub term-left : {B : Type 0} {h : Rattle.reo_trees.specs.Forms.FormOf B} → Has w (Rattle.reo_trees.specs.Forms.◌◂◌ (Rattle.reo_grammar.specs.Grammar.Grammar.rule term_rule) h) IsFreeTerm
  term-left = has-left IsFreeTerm (has-term k each)

  has-node : Has w node_form IsFreeForm
  has-node = has-right IsFreeForm (has-both IsFreeName IsFreeType IsFreeForm name-left type-left (λ x y p q. (p, q)))

  pub has-plain-channel : Has w plain_channel IsSpelledChannel
  has-plain-channel =
      has-either IsSpelledChannel (has-word-as IsSpelledChannel tt)
      (has-either IsSpelledChannel (has-word-as IsSpelledChannel tt)
      (has-either IsSpelledChannel (has-word-as IsSpelledChannel tt) (has-word-as IsSpelledChannel tt)))

  has-plain : Has w plain_form IsFreeForm
  has-plain = has-both IsSpelledChannel Joins IsFreeForm has-plain-channel (has-both IsFreeName IsFreeName Joins has-name name-left (λ x y p q c r. (r, p, q))) (λ c f p q. q c p)

  pub has-held : Has w held_form Held
  has-held = has-either Held (has-made Held (see-then (has-right IsSpelledLiteral (has-literal k each)) (λ ts x p. p))) (has-nothing Held tt)

  has-fifo1 : Has w fifo1_form IsFreeForm
  has-fifo1 = has-right IsFreeForm (has-both IsFreeName Named IsFreeForm has-name
      (has-both IsFreeName Held Named has-name (has-left Held has-held) (λ y held p q x r. held-one x y held r p q)) (λ x f p q. q x p))

  pub has-held-list : Has w held_list (All IsSpelledLiteral)
  has-held-list = has-either (All IsSpelledLiteral) (has-right (All IsSpelledLiteral) (has-comma IsSpelledLiteral (has-literal k each))) (has-nothing (All IsSpelledLiteral) (all-none IsSpelledLiteral))

  has-sized : Has w sized_form Sized
  has-sized = has-both IsFreeName Between Sized has-name
      (has-both IsFreeName (All IsSpelledLiteral) Between has-name (has-left (All IsSpelledLiteral) has-held-list) (λ y held p q x n r s. ((s.0, s.1, q), r, p))) (λ x f p q n s. q x n p s)

  has-fifo : Has w fifo_form IsFreeForm
  has-fifo = has-right IsFreeForm (has-both (Lies 1 1024) Sized IsFreeForm (has-number 1 1024) has-sized (λ n f p q. q n p))

  has-filter : Has w filter_form IsFreeForm
  has-filter = has-right IsFreeForm (has-both IsFreeName Named IsFreeForm has-name (has-both IsFreeName IsFreeTerm Named name-left term-left (λ y t p q x r. (q, r, p))) (λ x f p q. q x p))

  has-map : Has w map_form IsFreeForm
  has-map = has-right IsFreeForm (has-both IsFreeName Named IsFreeForm has-name (has-both IsFreeName IsFreeTerm Named name-left term-left (λ y t p q x r. (q, r, p))) (λ x f p q. q x p))

  has-arguments : Has w arguments_form (All IsFreeName)
  has-arguments = has-either (All IsFreeName) (has-names k each) (has-nothing (All IsFreeName) (all-none IsFreeName))

  has-use : Has w use_form IsFreeForm
  has-use = has-right IsFreeForm (has-both IsFreeName (All IsFreeName) IsFreeForm name-left (has-left (All IsFreeName) (has-left (All IsFreeName) has-arguments)) (λ x y p q. (p, q)))

  has-some-item : Has w some_item IsFreeForm
  has-some-item =
      has-either IsFreeForm has-node
      (has-either IsFreeForm has-plain
      (has-either IsFreeForm has-fifo1
      (has-either IsFreeForm has-fifo
      (has-either IsFreeForm has-filter
      (has-either IsFreeForm has-map has-use)))))

  has-item : Has w item_form IsFreeItem
  has-item = has-lined IsFreeForm IsFreeItem has-some-item (λ l f p. p)

  has-items : Has w items_form (All IsFreeItem)
  has-items = has-chain (All IsFreeItem) IsFreeItem (has-nothing (All IsFreeItem) (all-none IsFreeItem)) has-item (λ xs y all here. all-more IsFreeItem xs y all here)

  has-parameter : Has w parameter_form IsSpelledParameter
  has-parameter = has-lined Lined IsSpelledParameter
      (has-both (λ way. Unit {0}) Inward Lined any (has-both IsFreeName IsFreeType Inward name-left (has-type k each) (λ n t p q way l. (p, q))) (λ way f p q. q way)) (λ l f p. p l)

  pub has-parameters : Has w parameters_form (All IsSpelledParameter)
  has-parameters = has-either (All IsSpelledParameter) (has-comma IsSpelledParameter has-parameter) (has-nothing (All IsSpelledParameter) (all-none IsSpelledParameter))

  has-connector : Has w connector_form IsFreeConnector
  has-connector = has-lined Made IsFreeConnector
      (has-right Made (has-both IsFreeName MadeOf Made name-left
      (has-both (All IsSpelledParameter) (All IsFreeItem) MadeOf (has-left (All IsSpelledParameter) has-parameters) (has-right (All IsFreeItem) (has-left (All IsFreeItem) has-items))
      (λ ps is p q n l r. record { name = r; parameters = p; items = q })) (λ n f p q l. q n l p))) (λ l f p. p l)

  has-named : Has w named_form IsFreeDeclaration
  has-named = has-lined Declared IsFreeDeclaration (has-right Declared (has-both IsFreeName IsFreeType Declared name-left type-left (λ n t p q l. (p, q)))) (λ l f p. p l)

  has-declaration : Has w declaration_form IsFreeDeclaration
  has-declaration = has-either IsFreeDeclaration has-named (has-made IsFreeDeclaration (see-then has-connector (λ ts c p. p)))

  has-declarations : Has w declarations_form (All IsFreeDeclaration)
  has-declarations = has-chain (All IsFreeDeclaration) IsFreeDeclaration (has-nothing (All IsFreeDeclaration) (all-none IsFreeDeclaration)) has-declaration
      (λ xs y all here. all-more IsFreeDeclaration xs y all here)

  has-program : Has w program_form IsWritten
  has-program = has-made IsWritten (see-then has-declarations (λ ts ds p. p))

  pub rule-has : (r : Rule) → Has w (circuit_rules r) (Claim r)
  rule-has type_rule = has-type-form k each
  rule-has literal_rule = has-literal-form k each
  rule-has term_rule = has-term-form k each
  rule-has unary_rule = has-unary-form k each
  rule-has looped_rule = any

-- What is claimed of each rule holds, by how deep the rules are nested.
pub each_claim : (k : ℕ) → Each k
each_claim zero r ts x q d = absurd d
each_claim (suc k) r ts x q d = (rule-has k (each_claim k) r).at ts x q d

pub written : (text : List ℕ) (p : Program) → SaysProgram text p → IsWritten p
written text p (ts, tokens, (k, derived), levels) = (has-program k (each_claim k)).at (lexemes_of text ts) p (tokens-real text ts tokens) derived
