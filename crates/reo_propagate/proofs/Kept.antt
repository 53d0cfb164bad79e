-- Lists of values out of which those go that have lost their flags.
use Rattle.std.proofs.Common.{◌≡◌, ◌↔◌, ◌⊎◌, inl, inr, ℕ, ◌+◌, ◌<◌, ◌≤◌, Bool, true, false, ◌&&◌, ◌||◌, List, [], length, get_or, take, refl, ap, sym, ◌∙◌, arith}
use Rattle.std.specs.Bool.{◌==◌}
use Rattle.std.proofs.lemmas.Bool.{cases_eq, cases_Bool, and_parts, or_left, or_right, eqb-true, eq-eqb, ne_eqb, cases_lt}
use Rattle.std.proofs.lemmas.List.{get_or_past, take_more, take_all}
use Rattle.reo_net_base.specs.Net.{Net}
use Rattle.reo_joint_values.specs.declared.value.JointValue.{JointValue}
use Rattle.reo_joint_values.specs.Values.{giver_side}
use Rattle.reo_side_tables.specs.Listing.{Lists}
use Rattle.reo_side_tables.specs.Marks.{IsJointOf}
use Rattle.reo_side_tables.specs.Flowing.{gives_at}
use Rattle.reo_rows.specs.Sets.{family_of}
use Rattle.reo_propagate.specs.Queues.{among}
use Rattle.reo_propagate.proofs.Among.{among_at, among_more}
use Rattle.reo_propagate.specs.ListedSets.{in_set, listed, AreKept, HaveSome}

eq_turned : (a b : ℕ) → (a == b) ≡ (b == a)
eq_turned a b = elim (cases_eq a b) [ inl e ↦ eq-eqb a b e ∙ sym (eq-eqb b a (sym e)) | inr ne ↦ ne_eqb a b ne ∙ sym (ne_eqb b a (λ e. ne (sym e))) ]

past : (sets : List (List JointValue)) (j : ℕ) (v : JointValue) → length sets ≤ j → listed sets j v ≡ false
past sets j v le = ap (λ (l : List JointValue). in_set l v) (get_or_past sets j [] le)

pub kept_less : (at : ℕ → Bool) (alive : List (List Bool)) (old new : List (List JointValue)) → AreKept at alive old new → (j : ℕ) (v : JointValue) → listed new j v ≡ true → listed old j v ≡ true
kept_less at alive old new kept j v h = elim (cases_Bool (at j)) [
  | inl is ↦ (and_parts (listed old j v) (family_of alive j v) (sym (kept.here j v is) ∙ h)).0
  | inr off ↦ ap (λ (l : List JointValue). in_set l v) (sym (kept.other j off)) ∙ h
]

-- At the same joints.
pub kept_as : (a b : ℕ → Bool) (alive : List (List Bool)) (old new : List (List JointValue)) → ((j : ℕ) → j < length old → a j ≡ b j) → AreKept a alive old new → AreKept b alive old new
kept_as a b alive old new same kept = record {
  one_each = kept.one_each;
  here = λ j v is. elim (cases_lt j (length old)) [
    | inl lt ↦ kept.here j v (same j lt ∙ is)
    | inr le ↦ past new j v (omega (arith, le, kept.one_each)) ∙ sym (ap (λ (x : Bool). x && family_of alive j v) (past old j v le))
  ];
  other = λ j off. elim (cases_lt j (length old)) [
    | inl lt ↦ kept.other j (same j lt ∙ off)
    | inr le ↦ let le_new : length new ≤ j = omega (arith, le, kept.one_each) in get_or_past new j [] le_new ∙ sym (get_or_past old j [] le)
  ];
}

pub some_as : (a b : ℕ → Bool) (sets : List (List JointValue)) → ((j : ℕ) → j < length sets → a j ≡ b j) → HaveSome a sets ↔ HaveSome b sets
some_as a b sets same = (λ h j lt is. h j lt (same j lt ∙ is), λ h j lt is. h j lt (sym (same j lt) ∙ is))

-- At some joints, and then at others.
module _ (a b c : ℕ → Bool) (alive : List (List Bool)) (old mid new : List (List JointValue)) (first : AreKept a alive old mid) (second : AreKept b alive mid new)
    (both : (j : ℕ) → c j ≡ (a j || b j)) where
  and_twice : (x f : Bool) → ((x && f) && f) ≡ (x && f)
  and_twice true true = refl
  and_twice true false = refl
  and_twice false f = refl

  unlisted : (j : ℕ) (v : JointValue) → b j ≡ false → listed new j v ≡ listed mid j v
  unlisted j v off = ap (λ (l : List JointValue). in_set l v) (second.other j off)

  still : (j : ℕ) (v : JointValue) → a j ≡ true → listed new j v ≡ listed mid j v
  still j v is = elim (cases_Bool (b j)) [
    | inr off ↦ unlisted j v off
    | inl on ↦ second.here j v on ∙ rw (first.here j v is) (and_twice (listed old j v) (family_of alive j v))
  ]

  untouched : (j : ℕ) (v : JointValue) → a j ≡ false → listed mid j v ≡ listed old j v
  untouched j v off = ap (λ (l : List JointValue). in_set l v) (first.other j off)

  either : (x y : Bool) → (x || y) ≡ true → (x ≡ true) ⊎ ((x ≡ false) × (y ≡ true))
  either true y h = inl refl
  either false y h = inr (refl, h)

  neither : (x y : Bool) → (x || y) ≡ false → (x ≡ false) × (y ≡ false)
  neither true y h = absurd cc
  neither false y h = (refl, h)

  pub kept_more : AreKept c alive old new
  kept_more = record {
    one_each = second.one_each ∙ first.one_each;
    here = λ j v is. elim (either (a j) (b j) (sym (both j) ∙ is)) [
      | inl on ↦ still j v on ∙ first.here j v on
      | inr on ↦ second.here j v on.1 ∙ ap (λ (x : Bool). x && family_of alive j v) (untouched j v on.0)
    ];
    other = λ j off. let none = neither (a j) (b j) (sym (both j) ∙ off) in second.other j none.1 ∙ first.other j none.0;
  }

  pub some_more : HaveSome b new → HaveSome a mid ↔ HaveSome c new
  some_more here = (
    λ before j lt is. elim (either (a j) (b j) (sym (both j) ∙ is)) [
      | inl on ↦ let s = before j (omega (arith, lt, second.one_each)) on in (s.0, still j s.0 on ∙ s.1)
      | inr on ↦ here j lt on.1
    ],
    λ after j lt is. let s = after j (omega (arith, lt, second.one_each)) (both j ∙ or_left (a j) (b j) is) in (s.0, sym (still j s.0 is) ∙ s.1),
  )

  pub some_less : (HaveSome b new → ⊥) → HaveSome c new → ⊥
  some_less none all = none (λ j lt is. all j lt (both j ∙ or_right (a j) (b j) is))

-- At one joint, if the side gives there.
abbrev pub at_one : Net → ℕ → ℕ → ℕ → Bool
at_one net side joint j = (joint == j) && gives_at net side j

-- At the first n joints of a list, where the side gives.
abbrev pub at_first : Net → ℕ → List ℕ → ℕ → ℕ → Bool
at_first net side joints n j = among (take n joints) j && gives_at net side j

module _ (net : Net) (side : ℕ) (joints : List ℕ) where
  pub first_more : (n joint : ℕ) → n < length joints → joint ≡ get_or joints n 0 → (j : ℕ) → at_first net side joints (n + 1) j ≡ (at_first net side joints n j || at_one net side joint j)
  first_more n joint lt is j = rw (take_more joints n 0 lt, among_more (take n joints) (get_or joints n 0) j, sym is) (and_over (among (take n joints) j) (joint == j) (gives_at net side j))
    where
      and_over : (a b g : Bool) → ((a || b) && g) ≡ ((a && g) || (b && g))
      and_over true b true = refl
      and_over true true false = refl
      and_over true false false = refl
      and_over false b g = refl

  -- All joints where the side gives.
  pub first_all : (n : ℕ) → length joints ≤ n → Lists (IsJointOf net side) joints → (j : ℕ) → j < length net.joints → at_first net side joints n j ≡ gives_at net side j
  first_all n le lists j lt = elim (cases_Bool (gives_at net side j)) [
    | inr off ↦ rw off (and_no (among (take n joints) j))
    | inl on ↦
        let stands = lists.whole j (record { in_range = lt; here = inl (eqb-true (giver_side net j) side on) }) in
        let all : among joints j ≡ true = ap (among joints) (sym stands.2) ∙ among_at joints stands.0 stands.1 in
        rw (take_all n joints le, all) refl
  ]
    where
      and_no : (b : Bool) → (b && false) ≡ false
      and_no true = refl
      and_no false = refl

-- At the joints where the first sides of a list give.
pub sides_more : (net : Net) (sides : List ℕ) (n side : ℕ) → n < length sides → side ≡ get_or sides n 0 → (j : ℕ)
    → among (take (n + 1) sides) (giver_side net j) ≡ (among (take n sides) (giver_side net j) || gives_at net side j)
sides_more net sides n side lt is j =
    rw (take_more sides n 0 lt, among_more (take n sides) (get_or sides n 0) (giver_side net j), sym is, eq_turned side (giver_side net j)) refl
