-- Holding a place to the number of a row.
use Rattle.std.proofs.Common.{◌≡◌, ◌≢◌, ◌⊎◌, inl, inr, ℕ, ◌+◌, ◌<◌, Bool, true, false, not, ◌&&◌, ◌||◌, List, [], length, get_or, refl, ap, sym, ◌∙◌, subst, arith, below_more}
use Rattle.std.specs.Bool.{◌==◌}
use Rattle.std.proofs.lemmas.Bool.{cases_eq, and_parts, both_ways, eq-eqb, ne_eqb}
use Rattle.reo_net_base.specs.declared.mark.Mark.{Mark}
use Rattle.reo_net_base.specs.Net.{Net}
use Rattle.reo_joint_values.specs.declared.value.JointValue.{JointValue}
use Rattle.reo_joint_values.specs.Values.{Names, Family, AtSide}
use Rattle.reo_joint_values.specs.Supported.{IsNarrowed}
use Rattle.reo_joint_values.proofs.Narrowing.{at_cases}
use Rattle.reo_side_tables.specs.Listing.{Lists}
use Rattle.reo_side_tables.specs.Marks.{mark_at_joint, IsJointOf}
use Rattle.reo_rows.specs.RowFlags.{flag, AreAlikeTables}
use Rattle.reo_rows.specs.Sets.{value_of, code_of, family_of}
use Rattle.reo_rows.specs.Stands.{value_mark}
use Rattle.reo_rows.proofs.Codes.{value_code, flag_in}
use Rattle.reo_propagate.specs.declared.thinning.Loss.{Loss}
use Rattle.reo_walk.specs.declared.place.KeyPlace.{KeyPlace}
use Rattle.reo_walk.specs.Places.{side_of_place, suits, is_at_side, value_suits, held_to}
use Rattle.reo_walk.specs.Holding.{IsHeldTo, IsHeldSoFar, AllSuit, IsHeld}
use Rattle.reo_walk.proofs.Numbering.{both, then_if, at_test, test_at}

away : (i j p n : ℕ) → (i ≢ j) ⊎ (p ≢ n) → ((i == j) && (p == n)) ≡ false
away i j p n (inl apart) = ap (λ (t : Bool). t && (p == n)) (ne_eqb i j apart)
away i j p n (inr apart) = and_false (i == j) (p == n) (ne_eqb p n apart)
  where
    and_false : (a b : Bool) → b ≡ false → (a && b) ≡ false
    and_false true b h = h
    and_false false b h = refl

with_true : (a : Bool) → (a && true) ≡ a
with_true true = refl
with_true false = refl

-- What clearing one flag leaves.
module _ (now new : List (List Bool)) (joint n : ℕ) (is : (k q : ℕ) → flag new k q ≡ (flag now k q && not ((k == joint) && (q == n)))) where
  pub kept_flag : (i c : ℕ) → flag new i c ≡ true → flag now i c ≡ true
  kept_flag i c f = (and_parts (flag now i c) (not ((i == joint) && (c == n))) (sym (is i c) ∙ f)).0

  pub other_flag : (i c : ℕ) → (i ≢ joint) ⊎ (c ≢ n) → flag new i c ≡ flag now i c
  other_flag i c apart = is i c ∙ ap (λ (t : Bool). flag now i c && not t) (away i joint c n apart) ∙ with_true (flag now i c)

  pub gone_flag : flag new joint n ≡ true → ⊥
  gone_flag f =
      let here : ((joint == joint) && (n == n)) ≡ true = both (joint == joint) (n == n) (eq-eqb joint joint refl) (eq-eqb n n refl) in
      let left = (and_parts (flag now joint n) (not ((joint == joint) && (n == n))) (sym (is joint n) ∙ f)).1 in
      both_ways (not ((joint == joint) && (n == n))) (ap not here) left

module _ (net : Net) (p : KeyPlace) (row joint n : ℕ) (old now : List (List Bool)) (loss : Loss) (h : IsHeldTo net p row joint n old now loss) where
  -- A value that suits stays, or is not there.
  pub hold_keep : (value_suits net p row joint (value_of n) ≡ true) ⊎ (flag now joint n ≡ false) → IsHeldTo net p row joint (n + 1) old now loss
  hold_keep good = record {
    alike = h.alike;
    elsewhere = h.elsewhere;
    less = h.less;
    keeps = h.keeps;
    done = below_more (λ c. flag now joint c ≡ true → value_suits net p row joint (value_of c) ≡ true) n h.done (λ f. elim good [ inl s ↦ s | inr gone ↦ absurd (both_ways (flag now joint n) gone f) ]);
    same = h.same;
    flows = h.flows;
  }

  -- A value that does not suit goes.
  pub hold_clear : (new : List (List Bool)) (more : Loss) → AreAlikeTables now new → ((k q : ℕ) → flag new k q ≡ (flag now k q && not ((k == joint) && (q == n)))) → value_suits net p row joint (value_of n) ≡ false
      → more.some ≡ true → (more.flow ≡ false → (loss.flow ≡ false) × (n < 4)) → IsHeldTo net p row joint (n + 1) old new more
  hold_clear new more alike is bad some flow = record {
    alike = record { rows = alike.rows ∙ h.alike.rows; width = λ r. alike.width r ∙ h.alike.width r };
    elsewhere = λ i c apart. other_flag now new joint n is i c (inl apart) ∙ h.elsewhere i c apart;
    less = λ c f. h.less c (kept_flag now new joint n is joint c f);
    keeps = λ c f s. elim (cases_eq c n) [
      | inl e ↦ absurd (both_ways (value_suits net p row joint (value_of n)) bad (ap (λ k. value_suits net p row joint (value_of k)) (sym e) ∙ s))
      | inr apart ↦ other_flag now new joint n is joint c (inr apart) ∙ h.keeps c f s
    ];
    done = below_more (λ c. flag new joint c ≡ true → value_suits net p row joint (value_of c) ≡ true) n
        (λ c lt f. h.done c lt (kept_flag now new joint n is joint c f))
        (λ f. absurd (gone_flag now new joint n is f));
    same = λ e. absurd (both_ways more.some e some);
    flows = λ e c four.
        let parts = flow e in
        other_flag now new joint n is joint c (inr (λ same. omega (arith, parts.1))) ∙ h.flows parts.0 c four;
  }

  pub held_so_far : IsHeldSoFar net p row old now
  held_so_far = record {
    alike = h.alike;
    less = λ j v f. elim (cases_eq j joint) [
      | inl e ↦ subst (λ k. flag old k (code_of v) ≡ true) (sym e) (h.less (code_of v) (subst (λ k. flag now k (code_of v) ≡ true) e f))
      | inr apart ↦ sym (h.elsewhere j (code_of v) apart) ∙ f
    ];
    keeps = λ j v f s. elim (cases_eq j joint) [
      | inl e ↦
          let suits_here : value_suits net p row joint (value_of (code_of v)) ≡ true = ap (value_suits net p row joint) (value_code v) ∙ subst (λ k. value_suits net p row k v ≡ true) e s in
          subst (λ k. flag now k (code_of v) ≡ true) (sym e) (h.keeps (code_of v) (subst (λ k. flag old k (code_of v) ≡ true) e f) suits_here)
      | inr apart ↦ h.elsewhere j (code_of v) apart ∙ f
    ];
  }

pub so_far_none : (net : Net) (p : KeyPlace) (row : ℕ) (old : List (List Bool)) → IsHeldSoFar net p row old old
so_far_none net p row old = record { alike = record { rows = refl; width = λ r. refl }; less = λ j v f. f; keeps = λ j v f s. f }

pub so_far_twice : (net : Net) (p : KeyPlace) (row : ℕ) (a b c : List (List Bool)) → IsHeldSoFar net p row a b → IsHeldSoFar net p row b c → IsHeldSoFar net p row a c
so_far_twice net p row a b c x y = record {
  alike = record { rows = y.alike.rows ∙ x.alike.rows; width = λ r. y.alike.width r ∙ x.alike.width r };
  less = λ j v f. x.less j v (y.less j v f);
  keeps = λ j v f s. y.keeps j v (x.keeps j v f s) s;
}

pub suit_more : (net : Net) (p : KeyPlace) (row : ℕ) (list : List ℕ) (n j : ℕ) (mid now : List (List Bool)) → j ≡ get_or list n 0 → IsHeldSoFar net p row mid now → AllSuit net p row list n mid
    → ((c : ℕ) → flag now j c ≡ true → value_suits net p row j (value_of c) ≡ true) → AllSuit net p row list (n + 1) now
suit_more net p row list n j mid now is held before here =
    below_more (λ m. (v : JointValue) → family_of now (get_or list m 0) v ≡ true → value_suits net p row (get_or list m 0) v ≡ true) n
    (λ m lt v f. before m lt v (held.less (get_or list m 0) v f))
    (λ v f. subst (λ k. value_suits net p row k v ≡ true) is (ap (value_suits net p row j) (sym (value_code v)) ∙ here (code_of v) (subst (λ k. family_of now k v ≡ true) (sym is) f)))

-- After all joints of its side the place is held.
pub held_all : (net : Net) (p : KeyPlace) (row : ℕ) (old now : List (List Bool)) (joints : List ℕ) → Lists (IsJointOf net (side_of_place p)) joints → IsHeldSoFar net p row old now → AllSuit net p row joints (length joints) now → IsHeld net p row old now
held_all net p row old now joints all held suit = record {
  alike = held.alike;
  within = held.less;
  less = λ j v lt f. both (family_of old j v) (value_suits net p row j v) (held.less j v f) (elim (at_cases net j (side_of_place p)) [
    | inl at ↦
        let found = all.whole j (record { in_range = lt; here = at }) in
        subst (λ k. value_suits net p row k v ≡ true) found.2 (suit found.0 found.1 v (subst (λ k. family_of now k v ≡ true) (sym found.2) f))
    | inr off ↦ then_if (is_at_side net (side_of_place p) j) (suits p (value_mark net (side_of_place p) j v) (mark_at_joint net (side_of_place p) row j)) (λ t. absurd (off (test_at net (side_of_place p) j t)))
  ]);
  keeps = λ j v f. held.keeps j v ((and_parts (family_of old j v) (value_suits net p row j v) f).0) ((and_parts (family_of old j v) (value_suits net p row j v) f).1);
}

-- Narrowed from what is held.
pub narrowed_held : (net : Net) (names : Names) (inside : ℕ → Bool) (p : KeyPlace) (row : ℕ) (old held : List (List Bool)) (next : Family) → IsHeld net p row old held → IsNarrowed net names inside (family_of held) next
    → IsNarrowed net names inside (held_to net p row (family_of old)) next
narrowed_held net names inside p row old held next h narrowed = record {
  smaller = λ j s v lt at is f. h.less j v lt (narrowed.smaller j s v lt at is f);
  keeps = λ family within supported. narrowed.keeps family (λ j s v lt at is f. h.keeps j v (within j s v lt at is f)) supported;
}

test_for : (t b : Bool) → t ≡ true → (not t || b) ≡ b
test_for true b is = refl
test_for false b is = cc

-- Whether a value suits a row, by the marks that are looked at.
pub suits_is : (net : Net) (p : KeyPlace) (row joint side : ℕ) (v : JointValue) (seen mark : Mark) → side ≡ side_of_place p → AtSide net joint (side_of_place p) → seen ≡ value_mark net side joint v → mark ≡ mark_at_joint net side row joint
    → value_suits net p row joint v ≡ suits p seen mark
suits_is net p row joint side v seen mark is at seen_is mark_is =
    test_for (is_at_side net (side_of_place p) joint) (suits p (value_mark net (side_of_place p) joint v) (mark_at_joint net (side_of_place p) row joint)) (at_test net (side_of_place p) joint at)
    ∙ ap (λ (s : ℕ). suits p (value_mark net s joint v) (mark_at_joint net s row joint)) (sym is)
    ∙ (λ i. suits p (sym seen_is i) (sym mark_is i))

pub less_flags : (net : Net) (p : KeyPlace) (row joint n : ℕ) (old now : List (List Bool)) (loss : Loss) → IsHeldTo net p row joint n old now loss → (i c : ℕ) → flag now i c ≡ true → flag old i c ≡ true
less_flags net p row joint n old now loss h i c f = elim (cases_eq i joint) [
  | inl e ↦ subst (λ (x : ℕ). flag old x c ≡ true) (sym e) (h.less c (subst (λ (x : ℕ). flag now x c ≡ true) e f))
  | inr apart ↦ sym (h.elsewhere i c apart) ∙ f
]

-- At its end each value that is left suits.
pub all_done : (net : Net) (p : KeyPlace) (row joint n : ℕ) (old now : List (List Bool)) (loss : Loss) → IsHeldTo net p row joint n old now loss → n ≡ length (get_or old joint []) → (c : ℕ) → flag now joint c ≡ true → value_suits net p row joint (value_of c) ≡ true
all_done net p row joint n old now loss h last c f = let there = flag_in now joint c f in h.done c (omega (arith, last, there, h.alike.width joint)) f
