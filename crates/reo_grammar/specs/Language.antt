-- What a table of rules must meet to be read with one token of sight.
use Rattle.std.specs.Prelude.{◌≡◌, ℕ, true, false, List}
use Rattle.reo_grammar.specs.Tokens.{Lexeme, Class, AreReal}
use Rattle.reo_grammar.specs.Grammar.{Grammar, Derives, Within}
use Rattle.reo_grammar.specs.Conditions.{is_nullable, is_productive, is_guarded}
use Rattle.reo_grammar.specs.Sight.{firsts, mores, is_sighted}

-- Each rule derives something, never the empty list, and at least one list of tokens that texts have without any rule.
pub record Sound (Ref : Type 0) (tree : Ref → Type 0) (rules : (r : Ref) → Grammar Ref tree (tree r)) : Type 0 where
  pub productive : (r : Ref) → is_productive (rules r) ≡ true
  pub something : (r : Ref) → is_nullable (rules r) ≡ false
  pub each : (r : Ref) (k : ℕ) → (ts : List Lexeme) × (x : tree r) × AreReal ts × Derives (Within rules k) (rules r) ts x

-- A table of rules that one token of sight decides: for each rule the classes that begin it and those that go on after it.
pub record Sighted (Ref : Type 0) (tree : Ref → Type 0) (rules : (r : Ref) → Grammar Ref tree (tree r)) : Type 0 where
  pub sound : Sound Ref tree rules
  pub first : Ref → List Class
  pub more : Ref → List Class
  pub first-is : (r : Ref) → firsts first (rules r) ≡ first r
  pub more-is : (r : Ref) → mores more (rules r) ≡ more r
  pub guarded : (r : Ref) → is_guarded (rules r) ≡ true
  pub sighted : (r : Ref) → is_sighted first more (rules r) ≡ true
