use Rattle.std.proofs.Common.{◌≡◌, ◌↔◌, ℕ, Bool, true, false, List, get_or, sym, subst}
use Rattle.std.specs.Prelude.{IsTrue}
use Rattle.reo_side_tables.specs.declared.sets.Marks.{Marks}
use Rattle.reo_refute_live.specs.support.Families.{has}
use Rattle.reo_refute_live.specs.support.Marks.{IsMarkOf}
use Rattle.reo_side_tables.specs.Sets.{marks_has}
use Rattle.reo_refute_live.proofs.support.LiveLemmas.{giver_exact, taker_exact}
use Rattle.reo_refute_live.proofs.support.marks.live_marks.Goals as goal

pub returns-then-gives : goal.returns-then-gives
returns-then-gives c = λ m.
    let flows : IsTrue c.has_flow-flow.result ↔ ((n : ℕ) × (get_or c.args.live.now.flows n false ≡ true)) =
    subst (λ (l : List Bool). IsTrue c.has_flow-flow.result ↔ ((n : ℕ) × (get_or l n false ≡ true))) c.as_slice.ensures c.has_flow-flow.ensures in
    subst (λ (b : Bool). (marks_has c.marks_of.result m ≡ true) ↔ IsMarkOf (has c.args.live.now) b m) (sym c.if-gives.true)
    (subst (λ (s : Marks). (marks_has s m ≡ true) ↔ IsMarkOf (has c.args.live.now) true m) (sym c.marks_of.ensures) (giver_exact c.args.live.now c.has_flow-flow.result flows m))

pub returns-else-gives : goal.returns-else-gives
returns-else-gives c = λ m.
    let flows : IsTrue c.has_flow-flow.result ↔ ((n : ℕ) × (get_or c.args.live.now.flows n false ≡ true)) =
    subst (λ (l : List Bool). IsTrue c.has_flow-flow.result ↔ ((n : ℕ) × (get_or l n false ≡ true))) c.as_slice.ensures c.has_flow-flow.ensures in
    subst (λ (b : Bool). (marks_has c.marks_of-else-gives.result m ≡ true) ↔ IsMarkOf (has c.args.live.now) b m) (sym c.if-gives.false)
    (subst (λ (s : Marks). (marks_has s m ≡ true) ↔ IsMarkOf (has c.args.live.now) false m) (sym c.marks_of-else-gives.ensures) (taker_exact c.args.live.now c.has_flow-flow.result flows m))
