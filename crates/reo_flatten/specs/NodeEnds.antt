-- The ends at each node, by the number of the node.
use Rattle.std.specs.Prelude.{ℕ, ◌≡◌, ◌<◌, ◌&&◌, Bool, true, false, List, [], ◌∷◌, ◌++◌, length, bytes_eq, slice_index_or}
use Rattle.reo_net_base.specs.declared.joint.End.{End}
use Rattle.reo_kinds.specs.declared.kind.Kind.{Kind}
use Rattle.reo_kinds.specs.Kinds.{behaviour_of}
use Rattle.reo_rules.specs.Lists.{where_true}
use Rattle.reo_rules.specs.Touches.{bool_eq}
use Rattle.reo_flat.specs.Unfolding.{Placed}
use Rattle.reo_flat.specs.Ends.{ends_in, incoming, outgoing}
use Rattle.reo_flatten.specs.declared.ends.NodeEnds.{NodeEnds}

-- Primitives with the nodes that each is at.
abbrev pub placed_with : List Kind → List (List (List ℕ)) → List Placed
placed_with [] ends = []
placed_with (k ∷ ks) [] = []
placed_with (k ∷ ks) (e ∷ es) = record { kind = k; nodes = e } ∷ placed_with ks es

abbrev pub name_at : List (List ℕ) → ℕ → List ℕ
name_at names n = slice_index_or names n []

-- At each node these ends came behind those that were there.
abbrev pub Grows : List (List ℕ) → (List ℕ → List End) → List (List End) → List (List End) → Type 0
Grows names more old new = (length new ≡ length old) × ((n : ℕ) (d : List End) → n < length names → slice_index_or new n d ≡ slice_index_or old n d ++ more (name_at names n))

-- One end came at the node of a name.
abbrev pub one_at : List ℕ → Bool → End → Bool → List ℕ → List End
one_at name takes end way node = where_true (bytes_eq node name && bool_eq takes way) end

pub record AddsEnd (names : List (List ℕ)) (name : List ℕ) (takes : Bool) (end : End) (old new : NodeEnds) : Type 0 where
  pub ins : Grows names (one_at name takes end false) old.ins new.ins
  pub outs : Grows names (one_at name takes end true) old.outs new.outs

-- The ends of one primitive came at its nodes.
pub record AddsEnds (names : List (List ℕ)) (primitive : ℕ) (kind : Kind) (at : List (List ℕ)) (old new : NodeEnds) : Type 0 where
  pub ins : Grows names (λ node. ends_in (behaviour_of kind) false node primitive 0 at) old.ins new.ins
  pub outs : Grows names (λ node. ends_in (behaviour_of kind) true node primitive 0 at) old.outs new.outs

-- They are the ends of what is placed.
pub record AreEnds (names : List (List ℕ)) (placed : List Placed) (ends : NodeEnds) : Type 0 where
  pub many_ins : length ends.ins ≡ length names
  pub many_outs : length ends.outs ≡ length names
  pub ins : (n : ℕ) (d : List End) → n < length names → slice_index_or ends.ins n d ≡ incoming placed (name_at names n)
  pub outs : (n : ℕ) (d : List End) → n < length names → slice_index_or ends.outs n d ≡ outgoing placed (name_at names n)
