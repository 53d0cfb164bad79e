-- OpenBranch branches, split by split.
use Rattle.std.proofs.Common.{◌≡◌, inl, inr, subst, ℕ, ◌+◌, ◌<◌, ◌≤◌, List, [], ◌∷◌, ◌++◌, length, get_or, map, drop, refl, ap, sym, ◌∙◌, append_assoc, append-nil, length-append, add-one, arith}
use Rattle.std.specs.List.{All}
use Rattle.std.proofs.lemmas.List.{drop_all, get_or_append_left}
use Rattle.std.proofs.lemmas.List.Elements.{All-head, All-tail}
use Rattle.std.proofs.Math.Seq.{drop-cons, get_or-append_seam}
use Rattle.std.proofs.lemmas.Bool.{cases_lt}
use Rattle.reo_joint_values.specs.declared.value.JointValue.{JointValue}
use Rattle.reo_joint_values.specs.Values.{Family}
use Rattle.reo_refute_base.specs.Items.{Lists}
use Rattle.reo_refute_base.specs.Live.{alone, live_at}
use Rattle.reo_refute_live.specs.declared.branches.Split.{Split}
use Rattle.reo_refute_live.specs.declared.trail.Gone.{Gone}
use Rattle.reo_refute_live.specs.Trail.{HasLost}
use Rattle.reo_refute_live.specs.OpenBranch.{at_split, to_come, all_to_come, IsSplit, AreNested}
use Rattle.reo_refute_live.proofs.TrailLemmas.{same_since, none_since, lost_none, lost_le}

-- The last split is the innermost.
pub open_last : (live : Family) (gone : List Gone) (splits : List Split) (split : Split) → all_to_come live gone (splits ++ (split ∷ [])) ≡ to_come live gone split ++ all_to_come live gone splits
open_last live gone [] split = sym (append-nil (to_come live gone split))
open_last live gone (s ∷ splits) split =
    ap (λ (l : List Family). l ++ to_come live gone s) (open_last live gone splits split) ∙ append_assoc (to_come live gone split) (all_to_come live gone splits) (to_come live gone s)

-- Nothing is left of a split whose values have all had their branches.
pub none_to_come : (live : Family) (gone : List Gone) (split : Split) → length split.values ≤ split.next → to_come live gone split ≡ []
none_to_come live gone split le = ap (map (alone (at_split live gone split) split.joint)) (drop_all split.next split.values le)

-- The next branch of a split, and what is left then.
pub next_to_come : (live : Family) (gone : List Gone) (split : Split) (value : JointValue) → split.next < length split.values → value ≡ get_or split.values split.next value
    → to_come live gone split ≡ alone (at_split live gone split) split.joint value ∷ to_come live gone (record split { next = split.next + 1 })
next_to_come live gone split value lt is =
    let at : Family = at_split live gone split in
    let rest : drop split.next split.values ≡ get_or split.values split.next value ∷ drop (split.next + 1) split.values = rw (add-one, drop-cons split.values split.next value) refl in
    ap (map (alone at split.joint)) rest ∙ ap (λ (v : JointValue). alone at split.joint v ∷ map (alone at split.joint) (drop (split.next + 1) split.values)) (sym is)

-- What holds of splits while values go, and while they come back.
module _ (lists : Lists) (a b : Family) (g h : List Gone) (lost : HasLost a g b h) where
  pub same_split : (split : Split) → split.gone ≤ length g → at_split b h split ≡ at_split a g split
  same_split split le = same_since a b g h split.gone lost le

  same_come : (split : Split) → split.gone ≤ length g → to_come b h split ≡ to_come a g split
  same_come split le = ap (λ (f : Family). map (alone f split.joint) (drop split.next split.values)) (same_split split le)

  pub same_open : (splits : List Split) → All (λ (s : Split). s.gone ≤ length g) splits → all_to_come b h splits ≡ all_to_come a g splits
  same_open [] all = refl
  same_open (s ∷ splits) all =
      let rest = same_open splits (All-tail (λ (s : Split). s.gone ≤ length g) s splits all) in
      let first = same_come s (All-head (λ (s : Split). s.gone ≤ length g) s splits all) in
      λ i. rest i ++ first i

  pub split_after : (split : Split) → IsSplit lists a g split → IsSplit lists b h split
  split_after split is = record {
    since = omega (arith, is.since, lost_le a b g h lost);
    joint = is.joint;
    values_are = is.values_are ∙ ap (λ (f : Family). live_at lists f split.joint) (sym (same_split split is.since));
  }

  pub split_before : (split : Split) → split.gone ≤ length g → IsSplit lists b h split → IsSplit lists a g split
  split_before split le is = record {
    since = le;
    joint = is.joint;
    values_are = is.values_are ∙ ap (λ (f : Family). live_at lists f split.joint) (same_split split le);
  }

  pub splits_after : (splits : List Split) → All (IsSplit lists a g) splits → All (IsSplit lists b h) splits
  splits_after splits all k d lt = split_after (get_or splits k d) (all k d lt)

  pub splits_before : (splits : List Split) → All (λ (s : Split). s.gone ≤ length g) splits → All (IsSplit lists b h) splits → All (IsSplit lists a g) splits
  splits_before splits le all k d lt = split_before (get_or splits k d) (le k d lt) (all k d lt)

pub all_since : (lists : Lists) (a : Family) (g : List Gone) (splits : List Split) → All (IsSplit lists a g) splits → All (λ (s : Split). s.gone ≤ length g) splits
all_since lists a g splits all k d lt = (all k d lt).since

-- Splits that stand in one another, with one more inside or without.
pub nested_front : (splits : List Split) (last : Split) → AreNested (splits ++ (last ∷ [])) → AreNested splits
nested_front splits last nested i k d lt below =
    let left : (n : ℕ) → n < length splits → get_or (splits ++ (last ∷ [])) n d ≡ get_or splits n d = λ n n_lt. get_or_append_left splits (last ∷ []) d n n_lt in
    let both = nested i k d lt (omega (arith, below, length-append splits (last ∷ []))) in
    rw (sym (left i (omega (arith, lt, below))), sym (left k below)) both

pub nested_last : (splits : List Split) (last : Split) → AreNested (splits ++ (last ∷ [])) → All (λ (s : Split). s.gone ≤ last.gone) splits
nested_last splits last nested k d lt =
    let here : get_or (splits ++ (last ∷ [])) (length splits) d ≡ last = get_or-append_seam splits last [] d in
    let left : get_or (splits ++ (last ∷ [])) k d ≡ get_or splits k d = get_or_append_left splits (last ∷ []) d k lt in
    let both = nested k (length splits) d lt (omega (arith, length-append splits (last ∷ []))) in
    subst (λ (s : Split). (get_or splits k d).gone ≤ s.gone) here (subst (λ (s : Split). s.gone ≤ (get_or (splits ++ (last ∷ [])) (length splits) d).gone) left both)

pub nested_more : (splits : List Split) (last : Split) → AreNested splits → All (λ (s : Split). s.gone ≤ last.gone) splits → AreNested (splits ++ (last ∷ []))
nested_more splits last nested le i k d lt below = elim (cases_lt k (length splits)) [
  | inl in' ↦
      subst (λ (s : Split). (get_or (splits ++ (last ∷ [])) i d).gone ≤ s.gone) (sym (get_or_append_left splits (last ∷ []) d k in'))
      (subst (λ (s : Split). s.gone ≤ (get_or splits k d).gone) (sym (get_or_append_left splits (last ∷ []) d i (omega (arith, lt, in')))) (nested i k d lt in'))
  | inr from ↦
      let same : length splits ≡ k = omega (arith, from, below, length-append splits (last ∷ [])) in
      let i_lt : i < length splits = omega (arith, lt, same) in
      let here : get_or (splits ++ (last ∷ [])) k d ≡ last = subst (λ (n : ℕ). get_or (splits ++ (last ∷ [])) n d ≡ last) same (get_or-append_seam splits last [] d) in
      subst (λ (s : Split). (get_or (splits ++ (last ∷ [])) i d).gone ≤ s.gone) (sym here)
      (subst (λ (s : Split). s.gone ≤ last.gone) (sym (get_or_append_left splits (last ∷ []) d i i_lt)) (le i d i_lt))
]

-- The next branch of the innermost split begins: what went since has come back, and others have gone.
pub next_open : (lists : Lists) (a s b : Family) (g m h : List Gone) → HasLost s m a g → HasLost s m b h → (splits : List Split) → All (λ (t : Split). t.gone ≤ length m) splits
    → (split : Split) → split.gone ≡ length m → (value : JointValue) → split.next < length split.values → value ≡ get_or split.values split.next value → b ≡ alone s split.joint value
    → all_to_come a g (splits ++ (split ∷ [])) ≡ b ∷ all_to_come b h (splits ++ (record split { next = split.next + 1 } ∷ []))
next_open lists a s b g m h back lost splits le split since value lt is b_is =
    let after : Split = record split { next = split.next + 1 } in
    let here : split.gone ≤ length m = omega (arith, since) in
    let past : length m ≤ split.gone = omega (arith, since) in
    let first = same_come lists s a m g back split here in
    let rest = same_open lists s a m g back splits le in
    let then = same_come lists s b m h lost after here in
    let others = same_open lists s b m h lost splits le in
    let next = next_to_come s m split value lt is in
    let at : alone (at_split s m split) split.joint value ≡ b = ap (λ (f : Family). alone f split.joint value) (none_since s m split.gone past) ∙ sym b_is in
    open_last a g splits split ∙ (λ i. first i ++ rest i) ∙ ap (λ (l : List Family). l ++ all_to_come s m splits) next
    ∙ ap (λ (f : Family). f ∷ (to_come s m after ++ all_to_come s m splits)) at ∙ (λ i. b ∷ (sym then i ++ sym others i)) ∙ ap (λ (l : List Family). b ∷ l) (sym (open_last b h splits after))

-- The first branch of a new split begins.
pub split_open : (lists : Lists) (a b : Family) (g h : List Gone) → HasLost a g b h → (splits : List Split) → All (λ (t : Split). t.gone ≤ length g) splits
    → (count joint : ℕ) (values : List JointValue) → count ≡ length g → (value : JointValue) → 0 < length values → value ≡ get_or values 0 value → b ≡ alone a joint value
    → b ∷ all_to_come b h (splits ++ (record { gone = count; joint = joint; values = values; next = 1 } ∷ [])) ≡ map (alone a joint) values ++ all_to_come a g splits
split_open lists a b g h lost splits le count joint values since value lt is b_is =
    let start : Split = record { gone = count; joint = joint; values = values; next = 0 } in
    sym (next_open lists a a b g g h (lost_none a g) lost splits le start since value lt is b_is) ∙ open_last a g splits start
    ∙ ap (λ (f : Family). map (alone f joint) values ++ all_to_come a g splits) (none_since a g count (omega (arith, since)))

pub some_first : {X : Type 0} (xs : List X) → (xs ≡ [] → ⊥) → 0 < length xs
some_first [] h = absurd (h refl)
some_first (x ∷ xs) h = omega arith
