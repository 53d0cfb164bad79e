-- What a program is made of is right for the types of its nodes.
use Rattle.std.proofs.Common.{◌≡◌, ℕ, List, [], ◌∷◌, ◌++◌, Bool, true, false, refl, map, length, get_or, nat_le}
use Rattle.std.specs.List.{AllByRecursion, flat_map}
use Rattle.reo_values.specs.declared.value.Value.{Value}
use Rattle.reo_values.specs.declared.kindred.Kindred.{Kindred}
use Rattle.reo_values.specs.Kind.{IsIn}
use Rattle.reo_net_base.specs.declared.branches.Branches.{Branches}
use Rattle.reo_kinds.specs.declared.kind.Kind.{Kind}
use Rattle.reo_kinds.specs.declared.kind.Kind.TheVariants.{Writer, Taker, Sync, Lossy, SyncDrain, AsyncDrain, Store, Shift, Variable, Quota, Filter, Map, Merger, Replicator}
use Rattle.reo_rules.specs.Lists.{where_true}
use Rattle.reo_flat.specs.Unfolding.{Placed}
use Rattle.reo_flat.specs.Ends.{incoming, outgoing}
use Rattle.reo_flat.specs.Joints.{is_many}
use Rattle.reo_flat.specs.Flat.{branched, branched_with, own_kinds}
use Rattle.reo_flat.specs.flatten_laws.Fitting.{Fits}
use Rattle.reo_runs.proofs.Each.{by_recursion}
use Rattle.reo_flat.proofs.flatten_laws.TypedNodes.{FitsAt}
use Rattle.reo_runs.proofs.run_texts.Keeping.{EndTypes}
use Rattle.reo_runs.proofs.run_texts.RightKinds.{IsRight}
use Rattle.reo_runs.proofs.run_texts.TypedItems.{AreRight}

module _ (T : List ℕ → Kindred) where
  -- The types of the ends of what is placed: those of the nodes that they are at.
  abbrev pub placed_types : Placed → EndTypes
  placed_types p = λ end. T (get_or p.nodes end [])

  -- All ends of what a node has of its own are at that node.
  abbrev pub own_types : List Placed → List ℕ → List EndTypes
  own_types placed node = where_true (is_many (incoming placed node)) (λ end. T node) ++ where_true (is_many (outgoing placed node)) (λ end. T node)

  -- The types of the ends of all primitives.
  abbrev pub all_types : List Placed → List (List ℕ) → List EndTypes
  all_types placed nodes = map placed_types placed ++ flat_map (own_types placed) nodes

  fits_right : (kind : Kind) (nodes : List (List ℕ)) → Fits kind (map T nodes) → IsRight kind (λ end. T (get_or nodes end []))
  fits_right (Writer port) (n ∷ []) fits = fits
  fits_right (Taker port) (n ∷ []) fits = tt
  fits_right Sync (n ∷ m ∷ []) fits = fits
  fits_right Lossy (n ∷ m ∷ []) fits = fits
  fits_right SyncDrain (n ∷ m ∷ []) fits = tt
  fits_right AsyncDrain (n ∷ m ∷ []) fits = tt
  fits_right (Store b) (n ∷ m ∷ []) fits = (fits.0, by_recursion (λ (v : Value). IsIn v (T n)) b.items fits.1)
  fits_right (Shift b) (n ∷ m ∷ []) fits = (fits.0, by_recursion (λ (v : Value). IsIn v (T n)) b.items fits.1)
  fits_right (Variable held) (n ∷ m ∷ []) fits = fits
  fits_right (Quota left) (n ∷ m ∷ []) fits = fits
  fits_right (Filter rule) (n ∷ m ∷ []) fits = fits.0
  fits_right (Map rule) (n ∷ m ∷ []) fits = (fits.0, fits.2)
  fits_right kind nodes fits = absurd fits

  placed_right : (ps : List Placed) → AllByRecursion (FitsAt T) ps → AreRight IsRight (map (λ (p : Placed). p.kind) ps) (map placed_types ps)
  placed_right [] all = tt
  placed_right (p ∷ ps) all = (fits_right p.kind p.nodes all.0, placed_right ps all.1)

  append_right : (ks ls : List Kind) (ts us : List EndTypes) → AreRight IsRight ks ts → AreRight IsRight ls us → AreRight IsRight (ks ++ ls) (ts ++ us)
  append_right [] ls [] us a b = b
  append_right [] ls (t ∷ ts) us a b = absurd a
  append_right (k ∷ ks) ls [] us a b = absurd a
  append_right (k ∷ ks) ls (t ∷ ts) us a b = (a.0, append_right ks ls ts us a.1 b)

  where_right : (b : Bool) (kind : Kind) (types : EndTypes) → IsRight kind types → AreRight IsRight (where_true b kind) (where_true b types)
  where_right true kind types right = (right, tt)
  where_right false kind types right = tt

  branched_right : (made : Branches → Kind) (node : List ℕ) → ((x : Branches) → IsRight (made x) (λ end. T node)) → (n : ℕ) (a b : Bool) (p : nat_le 2 n ≡ a) (q : nat_le n 8192 ≡ b)
      → IsRight (branched_with made n a b p q) (λ end. T node)
  branched_right made node right n true true p q = right _
  branched_right made node right n true false p q = refl
  branched_right made node right n false true p q = refl
  branched_right made node right n false false p q = refl

  own_right : (placed : List Placed) (node : List ℕ) → AreRight IsRight (own_kinds placed node) (own_types placed node)
  own_right placed node =
      let ins = incoming placed node in
      let outs = outgoing placed node in
      let types : EndTypes = λ end. T node in
      append_right (where_true (is_many ins) (branched Merger (length ins))) (where_true (is_many outs) (branched Replicator (length outs))) (where_true (is_many ins) types) (where_true (is_many outs) types)
      (where_right (is_many ins) (branched Merger (length ins)) types (branched_right Merger node (λ b x y lt less. refl) (length ins) (nat_le 2 (length ins)) (nat_le (length ins) 8192) refl refl))
      (where_right (is_many outs) (branched Replicator (length outs)) types (branched_right Replicator node (λ b x y lt less. refl) (length outs) (nat_le 2 (length outs)) (nat_le (length outs) 8192) refl refl))

  owns_right : (placed : List Placed) (nodes : List (List ℕ)) → AreRight IsRight (flat_map (own_kinds placed) nodes) (flat_map (own_types placed) nodes)
  owns_right placed [] = tt
  owns_right placed (n ∷ ns) = append_right (own_kinds placed n) (flat_map (own_kinds placed) ns) (own_types placed n) (flat_map (own_types placed) ns) (own_right placed n) (owns_right placed ns)

  -- All primitives are right.
  pub all_right : (placed : List Placed) (nodes : List (List ℕ)) → AllByRecursion (FitsAt T) placed
      → AreRight IsRight (map (λ (p : Placed). p.kind) placed ++ flat_map (own_kinds placed) nodes) (all_types placed nodes)
  all_right placed nodes fit = append_right (map (λ (p : Placed). p.kind) placed) (flat_map (own_kinds placed) nodes) (map placed_types placed) (flat_map (own_types placed) nodes) (placed_right placed fit) (owns_right placed nodes)
