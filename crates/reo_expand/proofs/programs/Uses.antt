-- The names that declarations use, one declaration more.
use Rattle.std.proofs.Common.{◌≡◌, ◌∙◌, ◌<◌, ◌+◌, ◌++◌, ℕ, Bool, true, false, Result, Ok, Err, OnOk, List, take, length, get_or, refl, ap, sym}
use Rattle.std.specs.Prelude.{◌||◌}
use Rattle.std.specs.List.{list_any}
use Rattle.std.proofs.lemmas.Grind.{flat_map-append}
use Rattle.std.proofs.lemmas.List.Folds.{list_any-append}
use Rattle.std.proofs.Math.Bool.{or_assoc, or-false}
use Rattle.reo_trees.specs.declared.items.Item.{Item}
use Rattle.reo_trees.specs.declared.programs.Connector.{Connector}
use Rattle.reo_trees.specs.declared.programs.Declaration.{Declaration}
use Rattle.reo_trees.specs.declared.programs.Declaration.TheVariants as declarations
use Rattle.reo_expand.specs.base.Expansion.{has_use, is_use_of, connector_in, connectors_of}
use Rattle.reo_expand.proofs.base.Turning.{next_of}

pub or-swap : (a b : Bool) → (a || b) ≡ (b || a)
or-swap true true = refl
or-swap true false = refl
or-swap false true = refl
or-swap false false = refl

pub has_use-append : (cs ds : List Connector) (n : List ℕ) → has_use (cs ++ ds) n ≡ (has_use cs n || has_use ds n)
has_use-append cs ds n = list_any-append (λ (c : Connector). list_any (λ (i : Item). is_use_of n i.form) c.items) cs ds

pub connectors-append : (ds es : List Declaration) → connectors_of (ds ++ es) ≡ connectors_of ds ++ connectors_of es
connectors-append ds es = flat_map-append connector_in ds es

-- A named type uses nothing, and a connector what its items use.
pub named_uses : (d : Declaration) (line : ℕ) (name : List ℕ) (term : _) (n : List ℕ) (b : Bool) → d ≡ declarations.Named line name term → b ≡ (b || has_use (connector_in d) n)
named_uses d line name term n b is = sym (ap (λ x. b || has_use (connector_in x) n) is ∙ or-false b)

pub made_uses : (d : Declaration) (c : Connector) (n : List ℕ) (b r : Bool) → d ≡ declarations.Made c
    → r ≡ (b || list_any (λ (i : Item). is_use_of n i.form) c.items) → r ≡ (b || has_use (connector_in d) n)
made_uses d c n b r is e =
    e
    ∙ ap (λ u. b || u) (sym (or-false (list_any (λ (i : Item). is_use_of n i.form) c.items)))
    ∙ ap (λ x. b || has_use (connector_in x) n) (sym is)

pub noted_more : (ds : List Declaration) (i : ℕ) (d : Declaration) (n : List ℕ) (old now next : Bool) → i < length ds → d ≡ get_or ds i d
    → now ≡ (old || has_use (connectors_of (take i ds)) n) → next ≡ (now || has_use (connector_in d) n)
    → next ≡ (old || has_use (connectors_of (take (i + 1) ds)) n)
noted_more ds i d n old now next lt is before e =
    let front = connectors_of (take i ds) in
    e
    ∙ ap (λ b. b || has_use (connector_in d) n) before
    ∙ or_assoc old (has_use front n) (has_use (connector_in d) n)
    ∙ ap (λ b. old || b) (sym (has_use-append front (connector_in d) n))
    ∙ ap (λ cs. old || has_use cs n) (sym (next_of connector_in ds i d lt is))

pub made_noted_uses : {A E : Type 0} (r : Result A E) (d : Declaration) (c : Connector) (items : List Item) (n : List ℕ) (b u : Bool) → d ≡ declarations.Made c → items ≡ c.items
    → OnOk r (u ≡ (b || list_any (λ (i : Item). is_use_of n i.form) items)) → OnOk r (u ≡ (b || has_use (connector_in d) n))
made_noted_uses (Ok v) d c items n b u is same noted =
    made_uses d c n b u is (noted ∙ ap (λ l. b || list_any (λ (i : Item). is_use_of n i.form) l) same)
made_noted_uses (Err e) d c items n b u is same noted = noted
