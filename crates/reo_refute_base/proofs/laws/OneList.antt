-- The item lists of a circuit are one.
use Rattle.std.proofs.Common.{◌≡◌, inl, inr, ℕ, zero, suc, ◌≤◌, List, [], ◌∷◌, ◌++◌, length, map, set, Contains, refl, ap, sym, ◌∙◌, subst, arith}
use Rattle.std.proofs.lemmas.Bool.{cases_eq, cases_lt}
use Rattle.reo_values.specs.declared.value.Value.{Value}
use Rattle.reo_net_base.specs.declared.joint.Joint.{Joint}
use Rattle.reo_net_base.specs.Net.{Net}
use Rattle.reo_refute_base.specs.Items.{Lists, items_at, offered_at, IsAdded, IsVisited, AreVisited, IsPass, ArePassed}
use Rattle.reo_refute_base.specs.Items.IsAdded.{none, known, fresh}
use Rattle.reo_refute_base.specs.Items.AreVisited.{begun, next}
use Rattle.reo_refute_base.specs.Items.ArePassed.{empty, pass}
use Rattle.reo_refute_base.specs.laws.Answers.{ItemListsAreOne}

clash : (xs ys : List Value) (x y : Value) → Contains xs x → xs ≡ ys → x ≡ y → (Contains ys y → ⊥) → ⊥
clash xs ys x y has e same not = not (subst (λ (l : List Value). Contains l y) e (subst (Contains xs) same has))

heads_same : (x y : Value) (xs ys : List Value) → x ∷ xs ≡ y ∷ ys → x ≡ y
heads_same x y xs ys e = cc

tails_same : (x y : Value) (xs ys : List Value) → x ∷ xs ≡ y ∷ ys → xs ≡ ys
tails_same x y xs ys e = cc

push_same : (xs ys : List Value) (x y : Value) → xs ≡ ys → x ≡ y → xs ++ (x ∷ []) ≡ ys ++ (y ∷ [])
push_same xs ys x y e same = cc

-- What is added to a list makes one list.
added_one : (items offered new : List Value) → IsAdded items offered new → (items' offered' new' : List Value) → IsAdded items' offered' new' → items ≡ items' → offered ≡ offered' → new ≡ new'
added_one items offered new (none xs) items' offered' new' (none ys) e f = e
added_one items offered new (none xs) items' offered' new' (known ys rest' zs' y has' more') e f = absurd (cc)
added_one items offered new (none xs) items' offered' new' (fresh ys rest' zs' y not' more') e f = absurd (cc)
added_one items offered new (known xs rest zs x has more) items' offered' new' (none ys) e f = absurd (cc)
added_one items offered new (known xs rest zs x has more) items' offered' new' (known ys rest' zs' y has' more') e f =
    added_one xs rest zs more ys rest' zs' more' e (tails_same x y rest rest' f)
added_one items offered new (known xs rest zs x has more) items' offered' new' (fresh ys rest' zs' y not' more') e f =
    absurd (clash xs ys x y has e (heads_same x y rest rest' f) not')
added_one items offered new (fresh xs rest zs x not more) items' offered' new' (none ys) e f = absurd (cc)
added_one items offered new (fresh xs rest zs x not more) items' offered' new' (known ys rest' zs' y has' more') e f =
    absurd (clash ys xs y x has' (sym e) (sym (heads_same x y rest rest' f)) not)
added_one items offered new (fresh xs rest zs x not more) items' offered' new' (fresh ys rest' zs' y not' more') e f =
    added_one (xs ++ (x ∷ [])) rest zs more (ys ++ (y ∷ [])) rest' zs' more' (push_same xs ys x y e (heads_same x y rest rest' f)) (tails_same x y rest rest' f)

visit_one : (net : Net) (j : ℕ) (old a b : Lists) → IsVisited net j old a → IsVisited net j old b → a ≡ b
visit_one net j old a b v w =
    v.after ∙ ap (λ (items : List Value). set old j items) (added_one (items_at old j) (offered_at net old j) v.items v.added (items_at old j) (offered_at net old j) w.items w.added refl refl) ∙ sym w.after

visits_one : (net : Net) (n : ℕ) (old new : Lists) → AreVisited net n old new → (n' : ℕ) (old' new' : Lists) → AreVisited net n' old' new' → n ≡ n' → old ≡ old' → new ≡ new'
visits_one net n old new (begun a) n' old' new' (begun b) e f = f
visits_one net n old new (begun a) n' old' new' (next k a' b' c' before' v') e f = absurd (omega (arith, e))
visits_one net n old new (next k a b c before v) n' old' new' (begun a') e f = absurd (omega (arith, e))
visits_one net n old new (next k a b c before v) n' old' new' (next k' a' b' c' before' v') e f =
    let same_n : k ≡ k' = omega (arith, e) in
    let same : b ≡ b' = visits_one net k a b before k' a' b' before' same_n f in
    visit_one net k b c c' v (subst (λ (i : ℕ). IsVisited net i b c') (sym same_n) (subst (λ (l : Lists). IsVisited net k' l c') (sym same) v'))

-- So many passes come to these lists.
abbrev Reaches : Net → ℕ → Lists → Type 0
Reaches net zero lists = lists ≡ map (λ (_ : Joint). []) net.joints
Reaches net (suc n) lists = (old : Lists) × Reaches net n old × IsPass net old lists

reached : (net : Net) (lists : Lists) → ArePassed net lists → (n : ℕ) × Reaches net n lists
reached net lists empty = (zero, refl)
reached net lists (pass old new before is) = let r = reached net old before in (suc r.0, (old, r.1, is))

pass_one : (net : Net) (old old' a b : Lists) → IsPass net old a → IsPass net old' b → old ≡ old' → a ≡ b
pass_one net old old' a b p q e = visits_one net (length net.joints) old a p (length net.joints) old' b q refl e

reaches_one : (net : Net) (n : ℕ) (a b : Lists) → Reaches net n a → Reaches net n b → a ≡ b
reaches_one net zero a b r s = r ∙ sym s
reaches_one net (suc n) a b r s = pass_one net r.0 s.0 a b r.2 s.2 (reaches_one net n r.0 s.0 r.1 s.1)

-- Where a pass leaves the lists, more passes leave them.
stays : (net : Net) (n : ℕ) (a : Lists) → Reaches net n a → IsPass net a a → (m : ℕ) (b : Lists) → Reaches net m b → n ≤ m → a ≡ b
stays net n a r still zero b s le =
    let none : n ≡ zero = omega (arith, le) in
    reaches_one net zero a b (subst (λ (k : ℕ). Reaches net k a) none r) s
stays net n a r still (suc m) b s le =
    elim (cases_eq n (suc m)) [
      | inl same ↦ reaches_one net (suc m) a b (subst (λ (k : ℕ). Reaches net k a) same r) s
      | inr other ↦ pass_one net a s.0 a b still s.2 (stays net n a r still m s.0 s.1 (omega (arith, le, other)))
    ]

pub item_lists_are_one : ItemListsAreOne
item_lists_are_one net a b x y =
    let r = reached net a x.passed in
    let s = reached net b y.passed in
    elim (cases_lt r.0 s.0) [
      | inl lt ↦ stays net r.0 a r.1 x.last s.0 b s.1 (omega (arith, lt))
      | inr le ↦ sym (stays net s.0 b s.1 y.last r.0 a r.1 le)
    ]
