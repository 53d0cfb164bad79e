-- Primitives between one that is marked and the next.
use Rattle.std.proofs.Common.{◌≡◌, ℕ, ◌<◌, ◌≤◌, Bool, true, List, get_or, arith}
use Rattle.std.proofs.lemmas.Bool.{both_ways}
use Rattle.reo_flags.specs.Next.{IsNext}
use Rattle.reo_net_base.specs.Behaviour.{Behaviour}
use Rattle.reo_net_base.specs.Lasting.{Lasting}
use Rattle.reo_net_base.specs.Net.{Net, Wiring, net_of}
use Rattle.reo_flows.specs.stepping.Changes.{AreThoseThatFlowed, CoverChanges, HasFlow, is_changed}

-- No end flows of those before the next that is marked.
pub none_flows : (net : Net) (rows : List ℕ) (marks : List Bool) → AreThoseThatFlowed net rows marks → (from next : ℕ) → IsNext true marks from next
    → (k : ℕ) → from ≤ k → k < next → HasFlow net rows k → ⊥
none_flows net rows marks those from next is k low high flow =
    let in_range = is.in_range in
    let one_each = those.one_each in
    both_ways (is_changed marks k) (is.none_before k low high) ((those.each k (omega arith)).1 flow)

-- Of those before the next that is marked, none that keeps something flows.
pub none_changes : {P : Type 0} → (behaviour : P → Behaviour) (lasting : P → Lasting) (w : Wiring P) (rows : List ℕ) (marks : List Bool) → CoverChanges behaviour lasting w rows marks
    → (from next : ℕ) → IsNext true marks from next → (k : ℕ) (d : P) → from ≤ k → k < next → (lasting (get_or w.primitives k d)).keeps ≡ true → HasFlow (net_of behaviour w) rows k → ⊥
none_changes behaviour lasting w rows marks cover from next is k d low high keeps flow =
    let in_range = is.in_range in
    let one_each = cover.one_each in
    both_ways (is_changed marks k) (is.none_before k low high) (cover.each k d (omega arith) keeps flow)
