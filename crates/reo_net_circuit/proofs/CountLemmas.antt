-- Counting the joints at each end.
use Rattle.std.proofs.Common.{◌≡◌, ℕ, zero, suc, ◌+◌, ◌<◌, ◌≤◌, Bool, true, false, cond, List, [], ◌∷◌, length, map, get_or, take, replicate, refl, ap, sym, ◌∙◌, arith}
use Rattle.std.specs.List.{count_by}
use Rattle.std.proofs.lemmas.List.{length-map, length-replicate, get_or-map}
use Rattle.std.proofs.lemmas.Bool.{false_from_ne_true}
use Rattle.std.proofs.lemmas.List.Sums.{sum_by-cons, count_by_more_yes, count_by_more_no, count_by-le-length}
use Rattle.reo_net_base.proofs.Orders.{zero_at}
use Rattle.reo_net_base.specs.declared.joint.Joint.{Joint}
use Rattle.reo_net_base.specs.declared.joint.End.{End}
use Rattle.reo_net_base.specs.Behaviour.{Behaviour, nothing}
use Rattle.reo_net_base.specs.Net.{behaviour_at, end_of, is_at}
use Rattle.reo_net_base.specs.Wired.{IsJoined}
use Rattle.reo_net_circuit.specs.Counts.{joints_at, count_at, AreCounts, SameRows}

abbrev pub zero_counts : List Behaviour → List (List ℕ)
zero_counts bs = map (λ (b : Behaviour). replicate {A = ℕ} b.ends 0) bs

pub zero_are : (bs : List Behaviour) → AreCounts bs [] (zero_counts bs)
zero_are bs = record {
  rows = length-map bs (λ (b : Behaviour). replicate {A = ℕ} b.ends 0);
  row_length = λ i lt. rw (get_or-map (λ (b : Behaviour). replicate {A = ℕ} b.ends 0) bs i nothing [] lt) (length-replicate (behaviour_at bs i).ends 0);
  counted = λ i end lt end_lt. rw (get_or-map (λ (b : Behaviour). replicate {A = ℕ} b.ends 0) bs i nothing [] lt) (zero_at (behaviour_at bs i).ends end);
}

pub counts_few : (bs : List Behaviour) (joints : List Joint) (counts : List (List ℕ)) → AreCounts bs joints counts → (i end : ℕ) → i < length bs → end < (behaviour_at bs i).ends → count_at counts i end ≤ length joints
counts_few bs joints counts are i end lt end_lt = omega (arith, are.counted i end lt end_lt, count_by-le-length (is_at (end_of i end)) joints)

joints_more : (e : End) (joints : List Joint) (k : ℕ) (j : Joint) → k < length joints → get_or joints k j ≡ j → joints_at (take (k + 1) joints) e ≡ joints_at (take k joints) e + cond (is_at e j) 1 0
joints_more e joints k j lt is =
    elim (is_at e j) as (λ t. is_at e j ≡ t → joints_at (take (k + 1) joints) e ≡ joints_at (take k joints) e + cond t 1 0) [
      | true ↦ λ yes. count_by_more_yes (is_at e) joints k j lt (rw is yes)
      | false ↦ λ no. count_by_more_no (is_at e) joints k j lt (rw is no) ∙ omega arith
    ] refl

pub counts_more : (bs : List Behaviour) (joints : List Joint) (k : ℕ) (j : Joint) (old new : List (List ℕ)) → k < length joints → get_or joints k j ≡ j → AreCounts bs (take k joints) old → SameRows old new
    → ((i e : ℕ) → count_at new i e ≡ count_at old i e + cond (is_at (end_of i e) j) 1 0) → AreCounts bs (take (k + 1) joints) new
counts_more bs joints k j old new lt is are same counts = record {
  rows = same.rows ∙ are.rows;
  row_length = λ i i_lt. same.row_length i ∙ are.row_length i i_lt;
  counted = λ i end i_lt end_lt. counts i end ∙ ap (λ (n : ℕ). n + cond (is_at (end_of i end) j) 1 0) (are.counted i end i_lt end_lt) ∙ sym (joints_more (end_of i end) joints k j lt is);
}

-- A count of one is one place that passes, and no other.
count_cons : (test : Joint → Bool) (x : Joint) (xs : List Joint) → count_by test (x ∷ xs) ≡ cond (test x) 1 0 + count_by test xs
count_cons test x xs = sum_by-cons (λ y. cond (test y) 1 0) x xs

none_pass : (test : Joint → Bool) (xs : List Joint) → count_by test xs ≡ 0 → (k : ℕ) (d : Joint) → k < length xs → test (get_or xs k d) ≡ false
none_pass test [] none k d lt = absurd (omega arith)
none_pass test (x ∷ xs) none zero d lt =
    elim (test x) as (λ t. cond t 1 0 + count_by test xs ≡ 0 → t ≡ false) [ true ↦ λ e. absurd (omega (arith, e)) | false ↦ λ e. refl ] (sym (count_cons test x xs) ∙ none)
none_pass test (x ∷ xs) none (suc k) d lt = none_pass test xs (omega (arith, none, count_cons test x xs)) k d (omega arith)

count_at_none : (test : Joint → Bool) (x : Joint) (xs : List Joint) → test x ≡ false → count_by test (x ∷ xs) ≡ count_by test xs
count_at_none test x xs fails = count_cons test x xs ∙ ap (λ t. cond t 1 0 + count_by test xs) fails ∙ omega arith

count_at_one : (test : Joint → Bool) (x : Joint) (xs : List Joint) → test x ≡ true → count_by test (x ∷ xs) ≡ count_by test xs + 1
count_at_one test x xs passes = count_cons test x xs ∙ ap (λ t. cond t 1 0 + count_by test xs) passes ∙ omega arith

all_fail : (test : Joint → Bool) (xs : List Joint) → ((k : ℕ) (d : Joint) → k < length xs → test (get_or xs k d) ≡ false) → count_by test xs ≡ 0
all_fail test [] h = refl
all_fail test (x ∷ xs) h = count_at_none test x xs (h zero x (omega arith)) ∙ all_fail test xs (λ k d lt. h (suc k) d (omega arith))

head_only : (e : End) (x : Joint) (xs : List Joint) → joints_at xs e ≡ 0 → (j : ℕ) (d : Joint) → j < length (x ∷ xs) → is_at e (get_or (x ∷ xs) j d) ≡ true → j ≡ 0
head_only e x xs none zero d lt at = refl
head_only e x xs none (suc k) d lt at = let fails = none_pass (is_at e) xs none k d (omega arith) in absurd cc

rest_only : (e : End) (x : Joint) (xs : List Joint) (rest : IsJoined xs e) → is_at e x ≡ false → (j : ℕ) (d : Joint) → j < length (x ∷ xs) → is_at e (get_or (x ∷ xs) j d) ≡ true → j ≡ suc rest.joint
rest_only e x xs rest fails zero d lt at = absurd cc
rest_only e x xs rest fails (suc k) d lt at = ap suc (rest.only k d (omega arith) at)

pub joined_of_count : (joints : List Joint) (e : End) → joints_at joints e ≡ 1 → IsJoined joints e
joined_of_count [] e one = absurd (omega (arith, one))
joined_of_count (x ∷ xs) e one =
    elim (is_at e x) as (λ t. is_at e x ≡ t → cond t 1 0 + joints_at xs e ≡ 1 → IsJoined (x ∷ xs) e) [
      | true ↦ λ at n. record {
        joint = 0;
        in_range = omega arith;
        here = λ d. at;
        only = head_only e x xs (omega (arith, n));
      }
      | false ↦ λ fails n.
          let rest : IsJoined xs e = joined_of_count xs e (omega (arith, n)) in
          let lt = rest.in_range in
          record {
            joint = suc rest.joint;
            in_range = omega arith;
            here = rest.here;
            only = rest_only e x xs rest fails;
          }
    ] refl (sym (count_cons (is_at e) x xs) ∙ one)

count_is : (joints : List Joint) (e : End) (k : ℕ) → k < length joints → ((d : Joint) → is_at e (get_or joints k d) ≡ true) → ((j : ℕ) (d : Joint) → j < length joints → is_at e (get_or joints j d) ≡ true → j ≡ k) → joints_at joints e ≡ 1
count_is [] e k lt here only = absurd (omega arith)
count_is (x ∷ xs) e zero lt here only =
    let passes_here = here x in
    let none = all_fail (is_at e) xs (λ k d k_lt. false_from_ne_true (is_at e (get_or xs k d)) (λ passes. let same = only (suc k) d (omega arith) passes in absurd (omega (arith, same)))) in
    count_at_one (is_at e) x xs passes_here ∙ ap (λ (n : ℕ). n + 1) none
count_is (x ∷ xs) e (suc k) lt here only =
    let fails = false_from_ne_true (is_at e x) (λ passes. let same = only zero x (omega arith) passes in absurd (omega (arith, same))) in
    count_at_none (is_at e) x xs fails
    ∙ count_is xs e k (omega arith) here (λ j d j_lt passes. let same = only (suc j) d (omega arith) passes in omega (arith, same))

pub count_of_joined : (joints : List Joint) (e : End) → IsJoined joints e → joints_at joints e ≡ 1
count_of_joined joints e is = count_is joints e is.joint is.in_range is.here is.only
