-- What a pass over the joints brings.
use Rattle.std.proofs.Common.{◌≡◌, ℕ, zero, suc, ◌+◌, ◌-◌, ◌*◌, ◌<◌, ◌≤◌, List, [], ◌∷◌, length, map, refl, ap, sym, ◌∙◌, subst, arith, add-one}
use Rattle.std.specs.Prelude.{replicate}
use Rattle.std.specs.List.{sum_by}
use Rattle.std.proofs.lemmas.List.Sums.{sum_by-cons}
use Rattle.reo_values.specs.declared.value.Value.{Value}
use Rattle.reo_net_base.specs.declared.joint.Joint.{Joint}
use Rattle.reo_net_base.specs.Net.{Net}
use Rattle.reo_net_base.specs.Wired.{IsWired}
use Rattle.reo_joint_values.specs.Many.{AreDistinct}
use Rattle.reo_joint_values.proofs.Distinct.{distinct_fewer}
use Rattle.reo_refute_base.specs.Items.{Lists, items_at, IsVisited, AreVisited, IsPass, ArePassed, AreItemLists}
use Rattle.reo_refute_base.specs.Items.AreVisited.{next}
use Rattle.reo_refute_base.specs.Items.ArePassed.{empty, pass}
use Rattle.reo_refute_base.proofs.laws.Standing.{items_are_listed, passed_sound, passed_length}
use Rattle.reo_refute_parts.specs.declared.lists.visits.Brought.{Brought}
use Rattle.reo_refute_parts.specs.declared.lists.visits.Brought.TheVariants.{Nothing, Items, Many}
use Rattle.reo_refute_parts.specs.lists.Visits.{AreGood, total}
use Rattle.reo_refute_base.specs.Wide.{IsWide}
use Rattle.reo_refute_parts.specs.lists.Passes.{SoFar, Passes}

abbrev no_items : List Value
no_items = []

replicated : (joints : List Joint) → replicate (length joints) no_items ≡ map (λ (_ : Joint). []) joints
replicated [] = refl
replicated (j ∷ js) = ap (λ (l : Lists). [] ∷ l) (replicated js)

none_at : (joints : List Joint) (j : ℕ) → items_at (map (λ (_ : Joint). []) joints) j ≡ []
none_at [] j = refl
none_at (x ∷ xs) zero = refl
none_at (x ∷ xs) (suc j) = none_at xs j

pub begun_passed : (net : Net) (lists : Lists) → lists ≡ replicate (length net.joints) [] → ArePassed net lists
begun_passed net lists is = subst (ArePassed net) (sym (is ∙ replicated net.joints)) empty

pub begun_good : (net : Net) (lists : Lists) → lists ≡ replicate (length net.joints) [] → AreGood net lists
begun_good net lists is =
    subst (AreGood net) (sym (is ∙ replicated net.joints)) (record {
      one_each = passed_length net (map (λ (_ : Joint). []) net.joints) empty;
      sound = passed_sound net (map (λ (_ : Joint). []) net.joints) empty;
      distinct = λ j. subst AreDistinct (sym (none_at net.joints j)) (λ m n d lt n_in. absurd (omega (arith, n_in)));
      few = λ j. omega (arith, ap (λ (l : List Value). length l) (none_at net.joints j));
    })

pub one_more : (net : Net) (n : ℕ) (a b c : Lists) → AreVisited net n a b → IsVisited net n b c → AreVisited net (n + 1) a c
one_more net n a b c before visit = rw add-one (next n a b c before visit)

pub stayed : (a b c : Lists) (found : Brought) → SoFar a b found → c ≡ b → SoFar a c found
stayed a b c Nothing so same = same ∙ so
stayed a b c Items so same = subst (λ (l : Lists). total a < total l) (sym same) so
stayed a b c Many so same = absurd so

pub grew : (a b c : Lists) (found : Brought) → SoFar a b found → total b < total c → total a < total c
grew a b c Nothing so more = subst (λ (l : Lists). total l < total c) so more
grew a b c Items so more = omega (arith, so, more)
grew a b c Many so more = absurd so

pub all_passed : (net : Net) (n : ℕ) (a b : Lists) (found : Brought) → n ≡ length net.joints → AreVisited net n a b → AreGood net b → SoFar a b found → Passes net a b found
all_passed net n a b Nothing is visited good so = (subst (λ (k : ℕ). AreVisited net k a b) is visited, good, so)
all_passed net n a b Items is visited good so = (subst (λ (k : ℕ). AreVisited net k a b) is visited, good, so)
all_passed net n a b Many is visited good so = absurd so

-- The lists have no more items than they may.
total_bound : (lists : Lists) → ((j : ℕ) → length (items_at lists j) ≤ 256) → total lists ≤ 256 * length lists
total_bound [] few = omega arith
total_bound (l ∷ ls) few =
    let head : length l ≤ 256 = few zero in
    let rest : sum_by length ls ≤ 256 * length ls = total_bound ls (λ j. few (suc j)) in
    let cons : sum_by length (l ∷ ls) ≡ length l + sum_by length ls = sum_by-cons length l ls in
    omega (arith, head, rest, cons)

pub fewer_missing : (net : Net) (a b : Lists) → AreGood net b → total a < total b → 256 * length net.joints - total b < 256 * length net.joints - total a
fewer_missing net a b good more =
    let bound = total_bound b good.few in
    omega (arith, bound, more, ap (λ (n : ℕ). 256 * n) good.one_each)

pub not_wide : (net : Net) → IsWired net → (lists : Lists) → AreItemLists net lists → AreGood net lists → IsWide net → ⊥
not_wide net wired lists are good wide =
    let fewer = distinct_fewer wide.2.items (items_at lists wide.0) wide.2.distinct (λ x has. (items_are_listed net wired lists are wide.0 x wide.1).1 (wide.2.stand x has)) in
    omega (arith, fewer, wide.2.many, good.few wide.0)

-- Lists that a pass leaves are the item lists, and no joint is wide.
pub whole : (net : Net) → IsWired net → (old new : Lists) → ArePassed net old → IsPass net old new → AreGood net new → new ≡ old → AreItemLists net new × (IsWide net → ⊥)
whole net wired old new passed is good same =
    let are : AreItemLists net new = record { passed = pass old new passed is; last = subst (λ (l : Lists). IsPass net l new) (sym same) is } in
    (are, not_wide net wired new are good)
