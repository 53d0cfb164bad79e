-- It is as if no round had seen its present action, and never due.
use Rattle.std.proofs.Common.{◌≡◌, ◌∙◌, ◌<◌, ◌-◌, length, true, false, refl, sym, ap, arith}
use Rattle.std.proofs.Math.Bool.{and-false}
use Rattle.std.specs.Prelude.{nat_eq}
use Rattle.reo_players.specs.declared.pacing.Paced.{Paced}
use Rattle.reo_players.specs.Players.{Player, counts}
use Rattle.reo_players.specs.Idle.{waits}
use Rattle.reo_players.specs.Pacing.{clock_at}
use Rattle.reo_players.proofs.Paces.{not_waiting, never_due}
use Rattle.reo_players.proofs.PacedLemmas.{shown_long, awake_long, counting_long, left_long, dues_long, in_time, kept, roused}
use Rattle.reo_players.proofs.players.Players.rouse.Goals as goal

pub at_mut-paced-requires : goal.at_mut-paced-requires
at_mut-paced-requires c =
    let p = c.self.inside in
    let are = c.self.invariant in
    let i = c.args.component in
    omega (arith, c.requires, ap length c.self.view_is, shown_long p.clock p.passed p.players p.marks p.dues are)

pub put-requires-clause-awake : goal.put-requires-clause-awake
put-requires-clause-awake c =
    let p = c.self.inside in
    let are = c.self.invariant in
    let i = c.args.component in
    omega (arith, c.requires, ap length c.self.view_is, shown_long p.clock p.passed p.players p.marks p.dues are, awake_long p.clock p.passed p.players p.marks p.dues are)

pub put-requires-clause-counting : goal.put-requires-clause-counting
put-requires-clause-counting c =
    let p = c.self.inside in
    let are = c.self.invariant in
    let i = c.args.component in
    omega (arith, c.requires, ap length c.self.view_is, shown_long p.clock p.passed p.players p.marks p.dues are, counting_long p.clock p.passed p.players p.marks p.dues are)

pub put-requires-clause-left : goal.put-requires-clause-left
put-requires-clause-left c =
    let p = c.self.inside in
    let are = c.self.invariant in
    let i = c.args.component in
    omega (arith, c.requires, ap length c.self.view_is, shown_long p.clock p.passed p.players p.marks p.dues are, left_long p.clock p.passed p.players p.marks p.dues are)

pub put-requires-2 : goal.put-requires-2
put-requires-2 c =
    let p = c.self.inside in
    let are = c.self.invariant in
    let i = c.args.component in
    omega (arith, c.requires, ap length c.self.view_is, shown_long p.clock p.passed p.players p.marks p.dues are, dues_long p.clock p.passed p.players p.marks p.dues are)

pub invariant_of-self : goal.invariant_of-self
invariant_of-self c =
    let p = c.self.inside in
    let are = c.self.invariant in
    let i = c.args.component in
    let lt : i < length p.players = omega (arith, c.requires, ap length c.self.view_is, shown_long p.clock p.passed p.players p.marks p.dues are) in
    let x = c.at_mut-paced.result.now in
    let y : Paced = record { player = c.rouse.new.self; as_of = x.as_of } in
    let fresh : nat_eq y.player.seen 0 ≡ true = ap (λ (q : Player). nat_eq q.seen 0) c.rouse.ensures in
    kept p.clock p.passed p.players p.marks p.dues are i x lt c.at_mut-paced.ensures.value p.passed (λ j ne. refl) y
    (in_time p.clock p.passed p.players p.marks p.dues are i x lt c.at_mut-paced.ensures.value)
    c.of-mark.result c.of-mark.ensures c.put.new.self c.put.ensures.awake c.put.ensures.counting c.put.ensures.left
    18446744073709551615 (sym (never_due y fresh)) c.put-2.new.self c.put-2.ensures

pub returns : goal.returns
returns c =
    let p = c.self.inside in
    let are = c.self.invariant in
    let i = c.args.component in
    let lt : i < length p.players = omega (arith, c.requires, ap length c.self.view_is, shown_long p.clock p.passed p.players p.marks p.dues are) in
    let x = c.at_mut-paced.result.now in
    let q : Player = c.rouse.new.self in
    let y : Paced = record { player = q; as_of = x.as_of } in
    let still : waits q ≡ false = ap waits c.rouse.ensures ∙ and-false (counts x.player) in
    rw (← c.self.view_is)
    (roused p.clock p.passed p.players p.marks p.dues are i x lt c.at_mut-paced.ensures.value p.passed (λ j ne. refl) y q
    (not_waiting (clock_at p.clock p.passed i - x.as_of) q still)
    (ap (λ (r : Player). r.rest) c.rouse.ensures) (ap (λ (r : Player). r.seen) c.rouse.ensures))
