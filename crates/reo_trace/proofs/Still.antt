-- Joints and ends that do not flow.
use Rattle.std.proofs.Common.{◌≡◌, ◌≢◌, ◌∙◌, ◌&&◌, ◌||◌, inl, inr, ℕ, zero, suc, ◌<◌, Bool, true, false, not, List, [], ◌∷◌, length, get_or, take, ◌+◌, ap, sym, refl, arith}
use Rattle.std.proofs.lemmas.Bool.{and_parts}
use Rattle.std.specs.List.{list_all}
use Rattle.std.proofs.lemmas.List.Folds.{list_all_at, list_all_more}
use Rattle.reo_net_base.specs.declared.mark.Mark.{Mark}
use Rattle.reo_net_base.specs.declared.mark.Mark.TheVariants.{F, G, R, J}
use Rattle.reo_net_base.specs.declared.joint.Joint.{Joint}
use Rattle.reo_net_base.specs.Marks.{is_flow}
use Rattle.reo_net_base.specs.Net.{Net, end_of, mark_at}
use Rattle.reo_net_base.specs.Wired.{IsWired}
use Rattle.reo_net_base.proofs.Marks.{mark_still}
use Rattle.reo_net_base.proofs.Ends.{at_joint}
use Rattle.reo_trace.specs.Entries.{is_idle, is_still}
use Rattle.reo_trace.specs.Idle.{NoEndFlows}

tests_no_flow : (m : Mark) → m ≢ F → is_flow m ≡ false
tests_no_flow F other = absurd (other refl)
tests_no_flow G other = refl
tests_no_flow R other = refl
tests_no_flow J other = refl

-- neither of two tests passes
neither : (a b : Bool) → not (a || b) ≡ true → (a ≡ false) × (b ≡ false)
neither true b e = absurd cc
neither false true e = absurd cc
neither false false e = (refl, refl)

-- all elements pass exactly where each does
all_at : {X : Type 0} (test : X → Bool) (xs : List X) (i : ℕ) (d : X) → list_all test xs ≡ true → i < length xs → test (get_or xs i d) ≡ true
all_at test [] i d all lt = absurd (omega arith)
all_at test (x ∷ xs) zero d all lt = (and_parts (test x) (list_all test xs) all).0
all_at test (x ∷ xs) (suc i) d all lt = all_at test xs i d (and_parts (test x) (list_all test xs) all).1 (omega arith)

all_from : {X : Type 0} (test : X → Bool) (xs : List X) → ((i : ℕ) (d : X) → i < length xs → test (get_or xs i d) ≡ true) → list_all test xs ≡ true
all_from test [] each = refl
all_from test (x ∷ xs) each = ap (λ t. t && list_all test xs) (each zero x (omega arith)) ∙ all_from test xs (λ i d lt. each (suc i) d (omega arith))

-- the two ends of a still joint do not flow
still_ends : (net : Net) (rows : List ℕ) (j : Joint) → is_still net rows j ≡ true → (mark_at net rows j.giver ≢ F) × (mark_at net rows j.taker ≢ F)
unfolding is_still
still_ends net rows j still =
    let tests = neither (is_flow (mark_at net rows j.giver)) (is_flow (mark_at net rows j.taker)) still in
    (mark_still (mark_at net rows j.giver) tests.0, mark_still (mark_at net rows j.taker) tests.1)

still_from : (net : Net) (rows : List ℕ) (j : Joint) → mark_at net rows j.giver ≢ F → mark_at net rows j.taker ≢ F → is_still net rows j ≡ true
unfolding is_still
still_from net rows j giver taker =
    ap (λ t. not (t || is_flow (mark_at net rows j.taker))) (tests_no_flow (mark_at net rows j.giver) giver) ∙ ap not (tests_no_flow (mark_at net rows j.taker) taker)

-- an idle line, and ends that do not flow
pub idle_from : (net : Net) (rows : List ℕ) → IsWired net → NoEndFlows net rows → is_idle net rows ≡ true
idle_from net rows wired none =
    all_from (is_still net rows) net.joints (λ i d lt. still_from net rows (get_or net.joints i d) (none (get_or net.joints i d).giver (wired.givers i d lt)) (none (get_or net.joints i d).taker (wired.takers i d lt)))

pub idle_ends : (net : Net) (rows : List ℕ) → IsWired net → is_idle net rows ≡ true → NoEndFlows net rows
idle_ends net rows wired idle e is flows =
    let none : Joint = record { giver = end_of 0 0; taker = end_of 0 0 } in
    let at = wired.each_end e.primitive e.end is.0 is.1 in
    let still = still_ends net rows (get_or net.joints at.joint none) (all_at (is_still net rows) net.joints at.joint none idle at.in_range) in
    elim (at_joint e (get_or net.joints at.joint none) (at.here none)) [
      | inl giver ↦ still.0 (ap (mark_at net rows) giver ∙ flows)
      | inr taker ↦ still.1 (ap (mark_at net rows) taker ∙ flows)
    ]

-- what one joint says of all
pub not_idle : (net : Net) (rows : List ℕ) (i : ℕ) (d : Joint) (answer : Bool) → i < length net.joints → answer ≡ is_still net rows (get_or net.joints i d) → answer ≡ false
    → false ≡ is_idle net rows
not_idle net rows i d answer lt e is = sym (list_all_at (is_still net rows) net.joints i d lt (sym e ∙ is))

pub still_more : (net : Net) (rows : List ℕ) (i : ℕ) (d : Joint) (answer : Bool) → i < length net.joints → answer ≡ is_still net rows (get_or net.joints i d) → answer ≡ true
    → list_all (is_still net rows) (take i net.joints) ≡ true → list_all (is_still net rows) (take (i + 1) net.joints) ≡ true
still_more net rows i d answer lt e is before =
    list_all_more (is_still net rows) net.joints i d lt ∙ ap (λ t. t && is_still net rows (get_or net.joints i d)) before ∙ sym e ∙ is
