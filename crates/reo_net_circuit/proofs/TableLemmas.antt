-- Tables of the first joints that pass a test.
use Rattle.std.proofs.Common.{◌≡◌, ◌≢◌, inl, inr, ℕ, zero, suc, ◌+◌, ◌<◌, ◌≤◌, ◌==◌, Bool, true, false, cond, List, length, get_or, set, replicate, refl, arith, below_more, get_or-set_same, get_or-set_other}
use Rattle.std.proofs.lemmas.Bool.{cases_lt, cases_eq}
use Rattle.std.specs.List.{position_or_len}
use Rattle.std.proofs.lemmas.Bool.Decides.{nat_tests}
use Rattle.std.proofs.lemmas.List.Sums.{position_or_len_is, fails_before_first}
use Rattle.reo_net_base.specs.declared.joint.End.{End}
use Rattle.reo_net_base.specs.declared.joint.Joint.{Joint}
use Rattle.reo_net_base.specs.Behaviour.{Behaviour}
use Rattle.reo_net_base.specs.Net.{behaviour_at, end_of, is_at}
use Rattle.reo_net_base.specs.Step.{is_mouth}
use Rattle.reo_net_base.specs.Wired.{IsJoined}

-- SideOwner m is the first of the first k joints that passes the test, or n.
pub record IsFirstOf (test : Joint → Bool) (joints : List Joint) (k m : ℕ) : Type 0 where
  pub within : m ≤ length joints
  pub before : (j : ℕ) (d : Joint) → j < k → j < m → test (get_or joints j d) ≡ false
  pub here : (d : Joint) → m < length joints → test (get_or joints m d) ≡ true
  pub seen : m < length joints → m < k

pub first_done : (test : Joint → Bool) (joints : List Joint) (m : ℕ) (d : Joint) → IsFirstOf test joints (length joints) m → position_or_len test joints ≡ m
first_done test joints m d is = let within = is.within in position_or_len_is test joints m d is.within (λ k lt. is.before k d (omega arith) lt) (is.here d)

module _ (test : Joint → Bool) (joints : List Joint) (k : ℕ) (j : Joint) (lt : k < length joints) (at : (d : Joint) → get_or joints k d ≡ j) where
  pub first_no : (m : ℕ) → IsFirstOf test joints k m → test j ≡ false → IsFirstOf test joints (k + 1) m
  first_no m is fails = record {
    within = is.within;
    before = λ i d i_lt i_m. below_more (λ x. x < m → test (get_or joints x d) ≡ false) k (λ x x_lt x_m. is.before x d x_lt x_m) (λ k_m. rw (at d) fails) i i_lt i_m;
    here = is.here;
    seen = λ m_lt. let s = is.seen m_lt in omega arith;
  }

  pub first_kept : (m : ℕ) → IsFirstOf test joints k m → m ≢ length joints → IsFirstOf test joints (k + 1) m
  first_kept m is some =
      let within = is.within in
      let seen = is.seen (omega arith) in
      record {
        within = is.within;
        before = λ i d i_lt i_m. is.before i d (omega arith) i_m;
        here = is.here;
        seen = λ m_lt. omega arith;
      }

  pub first_found : (m : ℕ) → IsFirstOf test joints k m → m ≡ length joints → test j ≡ true → IsFirstOf test joints (k + 1) k
  first_found m is none passes = record {
    within = omega arith;
    before = λ i d i_lt i_k. is.before i d i_k (omega arith);
    here = λ d k_lt. rw (at d) passes;
    seen = λ k_lt. omega arith;
  }

  pub first_step : (m : ℕ) → IsFirstOf test joints k m → IsFirstOf test joints (k + 1) (cond (test j) (cond (m == length joints) k m) m)
  first_step m is =
      elim (test j) as (λ t. test j ≡ t → IsFirstOf test joints (k + 1) (cond t (cond (m == length joints) k m) m)) [
        | false ↦ λ fails. first_no m is fails
        | true ↦ λ passes. elim (m == length joints) as (λ t. (m == length joints) ≡ t → IsFirstOf test joints (k + 1) (cond t k m)) [
          | true ↦ λ e. first_found m is (grind (arith, nat_tests)) passes
          | false ↦ λ e. first_kept m is (λ same. grind (arith, nat_tests))
        ] refl
      ] refl

mouth_not : (b : Behaviour) (i : ℕ) (j : Joint) → i ≢ j.taker.primitive → is_mouth b i j ≡ false
mouth_not b i j ne = grind (arith, nat_tests)

-- One more joint has been looked at.
pub mouths_more : (bs : List Behaviour) (joints : List Joint) (k : ℕ) (j : Joint) (mouths : List ℕ) → k < length joints → ((d : Joint) → get_or joints k d ≡ j) → j.taker.primitive < length mouths
    → ((i : ℕ) → i < length mouths → IsFirstOf (is_mouth (behaviour_at bs i) i) joints k (get_or mouths i 0))
    → (i : ℕ) → i < length mouths → IsFirstOf (is_mouth (behaviour_at bs i) i) joints (k + 1) (get_or (set mouths j.taker.primitive (cond (is_mouth (behaviour_at bs j.taker.primitive) j.taker.primitive j) (cond (get_or mouths j.taker.primitive 0 == length joints) k (get_or mouths j.taker.primitive 0)) (get_or mouths j.taker.primitive 0))) i 0)
mouths_more bs joints k j mouths lt at p_in firsts i i_lt =
    let p : ℕ = j.taker.primitive in
    let old : ℕ = get_or mouths p 0 in
    let new : ℕ = cond (is_mouth (behaviour_at bs p) p j) (cond (old == length joints) k old) old in
    elim (cases_eq i p) [
      | inl e ↦ rw e (rw (get_or-set_same mouths p new 0 p_in) (first_step (is_mouth (behaviour_at bs p) p) joints k j lt at old (firsts p p_in)))
      | inr ne ↦ rw (get_or-set_other mouths p i new 0 ne) (first_no (is_mouth (behaviour_at bs i) i) joints k j lt at (get_or mouths i 0) (firsts i i_lt) (mouth_not (behaviour_at bs i) i j ne))
    ]

none_first : (test : Joint → Bool) (joints : List Joint) → IsFirstOf test joints 0 (length joints)
none_first test joints = record {
  within = omega arith;
  before = λ j d lt. absurd (omega arith);
  here = λ d lt. absurd (omega arith);
  seen = λ lt. omega arith;
}

all_at : (n x k : ℕ) → k < n → get_or (replicate n x) k 0 ≡ x
all_at zero x k lt = absurd (omega arith)
all_at (suc n) x zero lt = refl
all_at (suc n) x (suc k) lt = all_at n x k (omega arith)

pub mouths_none : (bs : List Behaviour) (joints : List Joint) (n i : ℕ) → i < n → IsFirstOf (is_mouth (behaviour_at bs i) i) joints 0 (get_or (replicate n (length joints)) i 0)
mouths_none bs joints n i lt = rw (all_at n (length joints) i lt) (none_first (is_mouth (behaviour_at bs i) i) joints)

pub ports_none : (joints : List Joint) (n i : ℕ) → i < n → IsFirstOf (is_at (end_of i 0)) joints 0 (get_or (replicate n (length joints)) i 0)
ports_none joints n i lt = rw (all_at n (length joints) i lt) (none_first (is_at (end_of i 0)) joints)

-- One more joint has been looked at.
pub ports_more : (joints : List Joint) (k : ℕ) (j : Joint) (old new : List ℕ) → k < length joints → ((d : Joint) → get_or joints k d ≡ j)
    → ((i : ℕ) → i < length old → IsFirstOf (is_at (end_of i 0)) joints k (get_or old i 0))
    → ((i : ℕ) → i < length old → get_or new i 0 ≡ cond (is_at (end_of i 0) j) (cond (get_or old i 0 == length joints) k (get_or old i 0)) (get_or old i 0))
    → (i : ℕ) → i < length old → IsFirstOf (is_at (end_of i 0)) joints (k + 1) (get_or new i 0)
ports_more joints k j old new lt at firsts noted i i_lt = rw (noted i i_lt) (first_step (is_at (end_of i 0)) joints k j lt at (get_or old i 0) (firsts i i_lt))

-- The first joint at an end that is joined is one of the joints.
pub joined_in : (joints : List Joint) (e : End) → IsJoined joints e → position_or_len (is_at e) joints < length joints
joined_in joints e is =
    let d : Joint = record { giver = e; taker = e } in
    elim (cases_lt (position_or_len (is_at e) joints) (length joints)) [
      | inl lt ↦ lt
      | inr past ↦
          let before : is.joint < position_or_len (is_at e) joints = omega (arith, is.in_range, past) in
          let not_here : is_at e (get_or joints is.joint d) ≡ false = fails_before_first (is_at e) joints is.joint d before in
          let here : is_at e (get_or joints is.joint d) ≡ true = is.here d in
          cc
    ]
