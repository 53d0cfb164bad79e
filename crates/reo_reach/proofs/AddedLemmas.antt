-- Adding items to a list.
use Rattle.std.proofs.Common.{◌≡◌, inl, inr, ℕ, ◌+◌, ◌<◌, ◌≤◌, List, [], ◌∷◌, ◌++◌, true, length, nat_lt, sym, subst, arith, below_more, length-append}
use Rattle.std.specs.Prelude.{Contains}
use Rattle.std.proofs.lemmas.Bool.Decides.{nat_tests}
use Rattle.std.proofs.lemmas.List.Elements.{Contains-push, Contains-push_cases, Contains-append_left}
use Rattle.reo_values.specs.declared.value.Value.{Value}
use Rattle.reo_joint_values.proofs.Distinct.{distinct_push}
use Rattle.reo_reach.specs.Added.{AreAdded}

-- Nothing is added where nothing is wanted.
pub added_nothing : (items : List Value) (wanted : Value → Type 0) → ((x : Value) → wanted x → ⊥) → AreAdded items items wanted
added_nothing items wanted none = record {
  kept = λ x h. h;
  from = λ x h. inl h;
  all = λ few x w. absurd (none x w);
  distinct = λ h. h;
  longer = omega arith;
  short = λ le. le;
}

-- Nothing is added to a list of more than 256 items.
pub added_full : (items : List Value) (wanted : Value → Type 0) → nat_lt 256 (length items) ≡ true → AreAdded items items wanted
added_full items wanted full =
    let many : 256 < length items = grind (arith, nat_tests) in
    record {
      kept = λ x h. h;
      from = λ x h. inl h;
      all = λ few x w. absurd (omega (arith, many, few));
      distinct = λ h. h;
      longer = omega arith;
      short = λ le. le;
    }

-- An item that is there is not added.
pub added_there : (items : List Value) (item : Value) → Contains items item → AreAdded items items (λ x. x ≡ item)
added_there items item there = record {
  kept = λ x h. h;
  from = λ x h. inl h;
  all = λ few x e. subst (λ (y : Value). Contains items y) (sym e) there;
  distinct = λ h. h;
  longer = omega arith;
  short = λ le. le;
}

-- An item that is not there is added to a list that is not full.
pub added_push : (items : List Value) (item : Value) → (Contains items item → ⊥) → length items ≤ 256 → AreAdded items (items ++ item ∷ []) (λ x. x ≡ item)
added_push items item new room = record {
  kept = λ x h. Contains-append_left items (item ∷ []) x h;
  from = λ x h. elim (Contains-push_cases items item x h) [ inl there ↦ inl there | inr same ↦ inr (sym same) ];
  all = λ few x e. subst (λ (y : Value). Contains (items ++ item ∷ []) y) (sym e) (Contains-push items item);
  distinct = λ h. distinct_push items item new h;
  longer = omega (arith, length-append items (item ∷ []));
  short = λ le. omega (arith, room, length-append items (item ∷ []));
}

-- What is wanted may be said in other words.
pub added_same : (old new : List Value) (wanted other : Value → Type 0) → ((x : Value) → wanted x → other x) → ((x : Value) → other x → wanted x) → AreAdded old new wanted → AreAdded old new other
added_same old new wanted other there back are = record {
  kept = are.kept;
  from = λ x h. elim (are.from x h) [ inl was ↦ inl was | inr is ↦ inr (there x is) ];
  all = λ few x w. are.all few x (back x w);
  distinct = are.distinct;
  longer = are.longer;
  short = are.short;
}

-- What one of the first n steps wants.
abbrev pub Below : (ℕ → Value → Type 0) → ℕ → Value → Type 0
Below wanted n x = (m : ℕ) × (m < n) × wanted m x

pub added_none : (items : List Value) (wanted : ℕ → Value → Type 0) → AreAdded items items (Below wanted 0)
added_none items wanted = added_nothing items (Below wanted 0) (λ x w. omega (arith, w.1))

-- One step more.
pub added_more : (a b c : List Value) (wanted : ℕ → Value → Type 0) (n : ℕ) → AreAdded a b (Below wanted n) → AreAdded b c (wanted n) → AreAdded a c (Below wanted (n + 1))
added_more a b c wanted n ab bc = record {
  kept = λ x h. bc.kept x (ab.kept x h);
  from = λ x h. elim (bc.from x h) [
    | inl was ↦ elim (ab.from x was) [ inl there ↦ inl there | inr below ↦ inr (below.0, omega (arith, below.1), below.2) ]
    | inr is ↦ inr (n, omega arith, is)
  ];
  all = λ few x w.
      below_more (λ (m : ℕ). wanted m x → Contains c x) n (λ m lt v. bc.kept x (ab.all (omega (arith, few, bc.longer)) x (m, lt, v))) (λ v. bc.all few x v) w.0 w.1 w.2;
  distinct = λ h. bc.distinct (ab.distinct h);
  longer = omega (arith, ab.longer, bc.longer);
  short = λ le. bc.short (ab.short le);
}
