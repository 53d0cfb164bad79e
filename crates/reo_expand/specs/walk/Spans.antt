-- The turns of a loop.
use Rattle.std.specs.Prelude.{◌≡◌, ℤ, List}
use Rattle.reo_trees.specs.declared.indexes.Index.{Index}
use Rattle.reo_trees.specs.declared.items_two.FormTwo as form
use Rattle.reo_trees.specs.declared.items_two.FormTwo.{FormTwo}
use Rattle.reo_expand.specs.declared.base.bound.Bound.{Bound}
use Rattle.reo_expand.specs.base.Indexed.{value_of, turn_count}
use Rattle.reo_expand.specs.base.Judged.{IsNear}
use Rattle.reo_expand.specs.declared.walk.walk.Span.{Span}

-- From one value to another.
pub record IsSpanOf (low high : ℤ) (s : Span) : Type 0 where
  pub first : s.first ≡ low
  pub turns : s.turns ≡ turn_count low high
  pub low_near : IsNear low
  pub high_near : IsNear high

-- The turns from one index to another.
abbrev pub IsSpan : List Bound → Index → Index → Span → Type 0
IsSpan bound low high s = IsSpanOf (value_of bound low) (value_of bound high) s

abbrev pub IsNoLoop : FormTwo → Type 0
IsNoLoop (form.Loop' variable low high m row) = ⊥
IsNoLoop f = Unit {0}
