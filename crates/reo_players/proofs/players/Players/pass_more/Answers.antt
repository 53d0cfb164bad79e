-- All at once.
use Rattle.std.proofs.Common.{◌≡◌, ◌<◌, ◌+◌, ◌^◌, ◌-◌, ℕ, List, true, refl, sym, subst, arith}
use Rattle.reo_flags.specs.Next.{IsNext}
use Rattle.reo_flags.specs.dues.Next.{IsNextDue}
use Rattle.reo_players.specs.Idle.{HavePassed}
use Rattle.reo_players.specs.Pacing.{clock_at, each_shown, ArePaced}
use Rattle.reo_players.proofs.PacedLemmas.{have_passed, kept_on}
use Rattle.reo_players.proofs.players.Players.pass_more.Goals as goal

pub invariant_of-self : goal.invariant_of-self
invariant_of-self c =
    let p = c.self.inside in
    let from : c.args.from ≡ p.passed = omega arith in
    let awake : ℕ = c.next_set-awake.result in
    let place : ℕ = c.next-place.result in
    let next = subst (λ (k : ℕ). IsNext true p.marks.awake k awake) from c.next_set-awake.ensures in
    let due = subst (λ (k : ℕ). IsNextDue p.dues k awake (p.clock + 1) place) from c.next-place.ensures.next in
    let clock = clock_at c.pass_to.new.clock c.pass_to.new.passed in
    subst (λ (ts : List ℕ). ArePaced c.pass_to.new.clock c.pass_to.new.passed p.players p.marks ts) (sym c.next-place.ensures.stays)
    (kept_on p.clock p.passed p.players p.marks p.dues c.self.invariant awake place next due clock c.pass_to.ensures.before
    (λ i ge lt. c.pass_to.ensures.behind i ge (omega (arith, lt, c.len-count.ensures)))
    c.pass_to.new.clock c.pass_to.new.passed (λ i. refl) c.pass_to.ensures.fits)

pub returns : goal.returns
returns c =
    let p = c.self.inside in
    let from : c.args.from ≡ p.passed = omega arith in
    let awake : ℕ = c.next_set-awake.result in
    let place : ℕ = c.next-place.result in
    let next = subst (λ (k : ℕ). IsNext true p.marks.awake k awake) from c.next_set-awake.ensures in
    let due = subst (λ (k : ℕ). IsNextDue p.dues k awake (p.clock + 1) place) from c.next-place.ensures.next in
    let clock = clock_at c.pass_to.new.clock c.pass_to.new.passed in
    let soon : p.clock + 1 < 2 ^ 64 - 1 = omega (arith, c.self.invariant.goes_on) in
    rw (← c.self.view_is)
    (subst (λ (k : ℕ). HavePassed k place (each_shown (clock_at p.clock p.passed) p.players) (each_shown clock p.players)) (sym from)
    (have_passed p.clock p.passed p.players p.marks p.dues c.self.invariant awake place next due clock c.pass_to.ensures.before
    (λ i ge lt. c.pass_to.ensures.behind i ge (omega (arith, lt, c.len-count.ensures))) soon))
