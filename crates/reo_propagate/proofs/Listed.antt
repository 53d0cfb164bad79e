-- Sets of values as lists.
use Rattle.std.proofs.Common.{◌≡◌, ◌≢◌, ◌↔◌, inl, inr, ℕ, zero, suc, ◌+◌, ◌<◌, ◌≤◌, Bool, true, false, ◌&&◌, ◌||◌, cond, List, [], ◌∷◌, ◌++◌, length, get_or, take, set, refl, ap, sym, ◌∙◌, arith, get_or-set_other}
use Rattle.std.specs.Bool.{◌==◌}
use Rattle.std.proofs.lemmas.Bool.{cases_eq, cases_Bool, or_left, or_right, eq-eqb, ne_eqb, or_cases}
use Rattle.std.proofs.lemmas.List.{length-set, take_more, take_more_set}
use Rattle.reo_joint_values.specs.declared.value.JointValue.{JointValue}
use Rattle.reo_joint_values.specs.Values.{value_eq}
use Rattle.reo_joint_values.proofs.Narrowing.{value_same, same_value}
use Rattle.reo_rows.specs.RowFlags.{flag, AreAlikeTables}
use Rattle.reo_rows.specs.Sets.{code_of, value_of, family_of}
use Rattle.reo_rows.proofs.Codes.{value_code}
use Rattle.reo_propagate.specs.ListedSets.{in_set, ArePut}

-- What a list has that has one value more.
pub set_more : (values : List JointValue) (w v : JointValue) → in_set (values ++ w ∷ []) v ≡ (in_set values v || value_eq w v)
set_more [] w v = or_none (value_eq w v)
  where
    or_none : (b : Bool) → (b || false) ≡ (false || b)
    or_none true = refl
    or_none false = refl
set_more (x ∷ xs) w v = ap (λ (b : Bool). value_eq x v || b) (set_more xs w v) ∙ or_moves (value_eq x v) (in_set xs v) (value_eq w v)
  where
    or_moves : (a b c : Bool) → (a || (b || c)) ≡ ((a || b) || c)
    or_moves true b c = refl
    or_moves false b c = refl

pub in_set_at : (values : List JointValue) (m : ℕ) (d : JointValue) → m < length values → in_set values (get_or values m d) ≡ true
in_set_at [] m d lt = absurd (omega arith)
in_set_at (x ∷ xs) zero d lt = or_left (value_eq x x) (in_set xs x) (value_same x)
in_set_at (x ∷ xs) (suc m) d lt = or_right (value_eq x (get_or xs m d)) (in_set xs (get_or xs m d)) (in_set_at xs m d (omega arith))

pub some_in : (values : List JointValue) → (0 < length values) ↔ ((v : JointValue) × (in_set values v ≡ true))
some_in [] = (λ lt. absurd (omega arith), λ s. absurd cc)
some_in (x ∷ xs) = (λ lt. (x, or_left (value_eq x x) (in_set xs x) (value_same x)), λ s. omega arith)

one_of : (x v : JointValue) → in_set (x ∷ []) v ≡ true → x ≡ v
one_of x v h = elim (or_cases (value_eq x v) false h) [
  | inl here ↦ same_value x v here
  | inr none ↦ absurd cc
]

-- A list shorter than two has at most one value.
pub at_most_one : (values : List JointValue) (v w : JointValue) → length values < 2 → in_set values v ≡ true → in_set values w ≡ true → v ≡ w
at_most_one [] v w lt h k = absurd cc
at_most_one (x ∷ []) v w lt h k = sym (one_of x v h) ∙ one_of x w k
at_most_one (x ∷ y ∷ xs) v w lt h k = absurd (omega arith)

or_false : (b : Bool) → b ≡ (b || false)
or_false true = refl
or_false false = refl

or_true : (b : Bool) → true ≡ (b || true)
or_true true = refl
or_true false = refl

other_value : (w v : JointValue) → w ≢ v → value_eq w v ≡ false
other_value w v ne = elim (cases_Bool (value_eq w v)) [ inl e ↦ absurd (ne (same_value w v e)) | inr e ↦ e ]

-- Values put among those of a joint.
module _ (joint : ℕ) (values : List JointValue) (old now : List (List Bool)) (w : JointValue) (put : ArePut joint values old now) where
  -- A value that has a flag.
  pub put_more : (new : List (List Bool)) → AreAlikeTables now new → ((i p : ℕ) → flag new i p ≡ cond ((i == joint) && (p == code_of w)) true (flag now i p))
      → ArePut joint (values ++ w ∷ []) old new
  put_more new alike is = record {
    alike = record { rows = alike.rows ∙ put.alike.rows; width = λ r. alike.width r ∙ put.alike.width r };
    elsewhere = λ i p ne. is i p ∙ rw (ne_eqb i joint ne) (put.elsewhere i p ne);
    here = λ v lt. is joint (code_of v) ∙ rw (eq-eqb joint joint refl, set_more values w v) (elim (cases_eq (code_of v) (code_of w)) [
      | inl e ↦
          let same : w ≡ v = sym (value_code w) ∙ ap value_of (sym e) ∙ value_code v in
          let both : value_eq w v ≡ true = ap (value_eq w) (sym same) ∙ value_same w in
          rw (eq-eqb (code_of v) (code_of w) e, both) (or_ends (family_of old joint v) (in_set values v))
      | inr ne ↦ rw (ne_eqb (code_of v) (code_of w) ne, other_value w v (λ e. ne (ap code_of (sym e)))) (put.here v lt ∙ or_last (family_of old joint v) (in_set values v))
    ]);
  }
    where
      or_ends : (a b : Bool) → true ≡ (a || (b || true))
      or_ends true b = refl
      or_ends false b = or_true b

      or_last : (a b : Bool) → (a || b) ≡ (a || (b || false))
      or_last a b = ap (λ (x : Bool). a || x) (or_false b)

  -- A value that has no flag.
  pub put_past : length (get_or old joint []) ≤ code_of w → ArePut joint (values ++ w ∷ []) old now
  put_past past = record {
    alike = put.alike;
    elsewhere = put.elsewhere;
    here = λ v lt.
        let ne : w ≢ v = λ e. omega (arith, past, lt, ap code_of e) in
        put.here v lt ∙ rw (set_more values w v, other_value w v ne) (ap (λ (x : Bool). family_of old joint v || x) (or_false (in_set values v)));
  }

-- Of the first n values of a list those are kept that have their flags.
pub record IsKeeping (alive : List (List Bool)) (joint n count : ℕ) (old now : List JointValue) : Type 0 where
  pub size : length now ≡ length old
  pub few : count ≤ n
  pub rest : (m : ℕ) (d : JointValue) → n ≤ m → get_or now m d ≡ get_or old m d
  pub kept : (v : JointValue) → in_set (take count now) v ≡ (in_set (take n old) v && family_of alive joint v)

module _ (alive : List (List Bool)) (joint n count : ℕ) (old now : List JointValue) (k : IsKeeping alive joint n count old now) (w : JointValue) (lt : n < length old) (is : w ≡ get_or now n w) where
  taken : take (n + 1) old ≡ take n old ++ w ∷ []
  taken = take_more old n w lt ∙ ap (λ (x : JointValue). take n old ++ x ∷ []) (sym (is ∙ k.rest n w (omega arith)))

  pub keeping_more : family_of alive joint w ≡ true → IsKeeping alive joint (n + 1) (count + 1) old (set now count w)
  keeping_more has =
      let few : count ≤ n = k.few in
      let there : count < length now = omega (arith, few, lt, k.size) in
      record {
        size = length-set now count w ∙ k.size;
        few = omega (arith, few);
        rest = λ m d le. let ne : m ≢ count = omega (arith, le, few) in get_or-set_other now count m w d ne ∙ k.rest m d (omega (arith, le));
        kept = λ v. rw (take_more_set now count w there, taken, set_more (take count now) w v, set_more (take n old) w v, k.kept v) (elim (cases_Bool (value_eq w v)) [
          | inl e ↦
              let f : family_of alive joint v ≡ true = ap (family_of alive joint) (sym (same_value w v e)) ∙ has in
              rw (e, f) (both_true (in_set (take n old) v && true) (in_set (take n old) v))
          | inr e ↦ rw e (no_more (in_set (take n old) v) (family_of alive joint v))
        ]);
      }
    where
      both_true : (a b : Bool) → (a || true) ≡ ((b || true) && true)
      both_true true true = refl
      both_true true false = refl
      both_true false true = refl
      both_true false false = refl

      no_more : (a f : Bool) → ((a && f) || false) ≡ ((a || false) && f)
      no_more true true = refl
      no_more true false = refl
      no_more false f = refl

  pub keeping_less : family_of alive joint w ≡ false → IsKeeping alive joint (n + 1) count old now
  keeping_less gone = record {
    size = k.size;
    few = let few : count ≤ n = k.few in omega (arith, few);
    rest = λ m d le. k.rest m d (omega (arith, le));
    kept = λ v. rw (taken, set_more (take n old) w v, k.kept v) (elim (cases_Bool (value_eq w v)) [
      | inl e ↦
          let f : family_of alive joint v ≡ false = ap (family_of alive joint) (sym (same_value w v e)) ∙ gone in
          rw f (none (in_set (take n old) v) (value_eq w v))
      | inr e ↦ rw e (same (in_set (take n old) v) (family_of alive joint v))
    ]);
  }
    where
      none : (a b : Bool) → (a && false) ≡ ((a || b) && false)
      none true b = refl
      none false true = refl
      none false false = refl

      same : (a f : Bool) → (a && f) ≡ ((a || false) && f)
      same true f = refl
      same false f = refl
