-- It is brought up to its clock, and marked anew.
use Rattle.std.proofs.Common.{◌≡◌, ◌∙◌, ◌<◌, ◌≤◌, ◌-◌, ◌||◌, ℕ, length, false, true≢false, refl, sym, ap, subst, arith}
use Rattle.std.proofs.lemmas.Bool.{or_parts}
use Rattle.reo_players.specs.declared.marks.Pace.{Pace}
use Rattle.reo_players.specs.Players.{Player, counts, after, step_of}
use Rattle.reo_players.specs.Pacing.{clock_at, due_of, later, shown}
use Rattle.reo_players.proofs.Paces.{uncounted_due}
use Rattle.reo_players.proofs.PacedLemmas.{shown_long, awake_long, counting_long, left_long, dues_long, was_awake, was_counting, was_left, due_at, in_time, kept, advanced}
use Rattle.reo_players.proofs.players.Players.advance.Goals as goal
use Rattle.reo_players.proofs.players.Players.advance.Goals.{then-before, else-before}

pub pass_one-next-requires-clause-component : goal.pass_one-next-requires-clause-component
pass_one-next-requires-clause-component c =
    let p = c.self.inside in
    let are = c.self.invariant in
    omega (arith, c.requires, ap length c.self.view_is, shown_long p.clock p.passed p.players p.marks p.dues are, c.len-count.ensures, c.len-count.type_inv)

pub at_mut-paced-requires : goal.at_mut-paced-requires
at_mut-paced-requires c =
    let p = c.self.inside in
    let are = c.self.invariant in
    let i = c.args.component in
    omega (arith, c.requires, ap length c.self.view_is, shown_long p.clock p.passed p.players p.marks p.dues are)

pub change-requires-clause-awake : goal.change-requires-clause-awake
change-requires-clause-awake c =
    let p = c.self.inside in
    let are = c.self.invariant in
    let i = c.args.component in
    omega (arith, c.requires, ap length c.self.view_is, shown_long p.clock p.passed p.players p.marks p.dues are, awake_long p.clock p.passed p.players p.marks p.dues are)

pub change-requires-clause-counting : goal.change-requires-clause-counting
change-requires-clause-counting c =
    let p = c.self.inside in
    let are = c.self.invariant in
    let i = c.args.component in
    omega (arith, c.requires, ap length c.self.view_is, shown_long p.clock p.passed p.players p.marks p.dues are, counting_long p.clock p.passed p.players p.marks p.dues are)

pub change-requires-clause-left : goal.change-requires-clause-left
change-requires-clause-left c =
    let p = c.self.inside in
    let are = c.self.invariant in
    let i = c.args.component in
    omega (arith, c.requires, ap length c.self.view_is, shown_long p.clock p.passed p.players p.marks p.dues are, left_long p.clock p.passed p.players p.marks p.dues are)

pub put_due-requires-clause-there : goal.put_due-requires-clause-there
put_due-requires-clause-there c =
    let p = c.self.inside in
    let are = c.self.invariant in
    let i = c.args.component in
    omega (arith, c.requires, ap length c.self.view_is, shown_long p.clock p.passed p.players p.marks p.dues are, dues_long p.clock p.passed p.players p.marks p.dues are)

pub put_due-requires-clause-same : goal.put_due-requires-clause-same
put_due-requires-clause-same c = λ without.
    let p = c.self.inside in
    let are = c.self.invariant in
    let i = c.args.component in
    let lt : i < length p.players = omega (arith, c.requires, ap length c.self.view_is, shown_long p.clock p.passed p.players p.marks p.dues are) in
    let x = c.at_mut-paced.result.now in
    let y = c.advance-step.new.self in
    let neither : (c.of-before.result.counting || c.of-mark.result.counting) ≡ false =
    elim c.if-before.branch [
      | then-before w ↦ absurd (true≢false (sym w.if-before.true ∙ sym w.counts-is ∙ without))
      | else-before w ↦ ap (λ b. b || c.of-mark.result.counting) w.if-before.false ∙ sym w.counts-is ∙ without
    ] in
    let before : counts x.player ≡ false = ap (λ (m : Pace). m.counting) (sym c.of-before.ensures) ∙ (or_parts c.of-before.result.counting c.of-mark.result.counting neither).0 in
    let now : counts y.player ≡ false =
    ap (λ (m : Pace). m.counting) (sym c.of-mark.ensures) ∙ (sym (ap (λ b. b || c.of-mark.result.counting) ((or_parts c.of-before.result.counting c.of-mark.result.counting neither).0)) ∙ neither) in
    due_at p.clock p.passed p.players p.marks p.dues are i x lt c.at_mut-paced.ensures.value ∙ uncounted_due x before ∙ sym (uncounted_due y now)

pub advance-step-requires : goal.advance-step-requires
advance-step-requires c =
    let p = c.self.inside in
    let are = c.self.invariant in
    let i = c.args.component in
    let lt : i < length p.players = omega (arith, c.requires, ap length c.self.view_is, shown_long p.clock p.passed p.players p.marks p.dues are) in
    let time = in_time p.clock p.passed p.players p.marks p.dues are i c.at_mut-paced.result.now lt c.at_mut-paced.ensures.value in
    subst (λ (k : ℕ). c.at_mut-paced.result.now.as_of ≤ k) (sym c.clock_of-clock.ensures) time

pub change-requires-clause-was_awake : goal.change-requires-clause-was_awake
change-requires-clause-was_awake c =
    let p = c.self.inside in
    let are = c.self.invariant in
    let i = c.args.component in
    let lt : i < length p.players = omega (arith, c.requires, ap length c.self.view_is, shown_long p.clock p.passed p.players p.marks p.dues are) in
    was_awake p.clock p.passed p.players p.marks p.dues are i c.at_mut-paced.result.now lt c.at_mut-paced.ensures.value ∙ sym (ap (λ (m : Pace). m.awake) c.of-before.ensures)

pub change-requires-clause-was_counting : goal.change-requires-clause-was_counting
change-requires-clause-was_counting c =
    let p = c.self.inside in
    let are = c.self.invariant in
    let i = c.args.component in
    let lt : i < length p.players = omega (arith, c.requires, ap length c.self.view_is, shown_long p.clock p.passed p.players p.marks p.dues are) in
    was_counting p.clock p.passed p.players p.marks p.dues are i c.at_mut-paced.result.now lt c.at_mut-paced.ensures.value ∙ sym (ap (λ (m : Pace). m.counting) c.of-before.ensures)

pub change-requires-clause-was_left : goal.change-requires-clause-was_left
change-requires-clause-was_left c =
    let p = c.self.inside in
    let are = c.self.invariant in
    let i = c.args.component in
    let lt : i < length p.players = omega (arith, c.requires, ap length c.self.view_is, shown_long p.clock p.passed p.players p.marks p.dues are) in
    was_left p.clock p.passed p.players p.marks p.dues are i c.at_mut-paced.result.now lt c.at_mut-paced.ensures.value ∙ sym (ap (λ (m : Pace). m.left) c.of-before.ensures)

pub invariant_of-self : goal.invariant_of-self
invariant_of-self c =
    let p = c.self.inside in
    let are = c.self.invariant in
    let i = c.args.component in
    let lt : i < length p.players = omega (arith, c.requires, ap length c.self.view_is, shown_long p.clock p.passed p.players p.marks p.dues are) in
    let y = c.advance-step.new.self in
    let on : y.as_of ≡ clock_at p.clock c.pass_one-next.new.passed i = c.advance-step.ensures.as_of ∙ c.pass_one-next.ensures.here in
    kept p.clock p.passed p.players p.marks p.dues are i c.at_mut-paced.result.now lt c.at_mut-paced.ensures.value c.pass_one-next.new.passed c.pass_one-next.ensures.others y
    (omega (arith, on)) c.of-mark.result c.of-mark.ensures c.change.new.self c.change.ensures.awake c.change.ensures.counting c.change.ensures.left
    (due_of y) refl c.put_due.new.dues c.put_due.ensures

pub returns : goal.returns
returns c =
    let p = c.self.inside in
    let are = c.self.invariant in
    let i = c.args.component in
    let lt : i < length p.players = omega (arith, c.requires, ap length c.self.view_is, shown_long p.clock p.passed p.players p.marks p.dues are) in
    let x = c.at_mut-paced.result.now in
    let y = c.advance-step.new.self in
    let q : Player = y.player in
    let clock : ℕ = clock_at p.clock c.pass_one-next.new.passed i in
    let on : y.as_of ≡ clock = c.advance-step.ensures.as_of ∙ c.pass_one-next.ensures.here in
    let none : clock - y.as_of ≡ 0 = omega (arith, on) in
    rw (← c.self.view_is)
    (advanced p.clock p.passed p.players p.marks p.dues are i x lt c.at_mut-paced.ensures.value c.pass_one-next.new.passed c.pass_one-next.ensures.others y q (ap (λ (n : ℕ). later n q) none)
    c.args.flowed c.advance-step.result (c.advance-step.ensures.player ∙ ap (λ (k : ℕ). after c.args.flowed (shown k x)) c.clock_of-clock.ensures)
    (c.advance-step.ensures.step ∙ ap (λ (k : ℕ). step_of c.args.flowed (shown k x)) c.clock_of-clock.ensures))
