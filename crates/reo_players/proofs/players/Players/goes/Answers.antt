-- What its mark and its due round tell.
use Rattle.std.proofs.Common.{◌≡◌, ◌≢◌, ◌∙◌, ◌||◌, ◌<◌, ◌+◌, ◌-◌, ◌^◌, ℕ, min, length, true, false, get_or, sym, ap, arith}
use Rattle.std.proofs.Math.Bool.{or-true}
use Rattle.std.proofs.lemmas.Bool.{not-false}
use Rattle.std.specs.Prelude.{nat_eq}
use Rattle.std.proofs.lemmas.Bool.Decides.{nat_tests}
use Rattle.std.proofs.lemmas.List.{get_or_default}
use Rattle.reo_players.specs.declared.pacing.Paced.{Paced}
use Rattle.reo_players.specs.Players.{Player, no_player, player_of, counts}
use Rattle.reo_players.specs.Idle.{is_awake, is_last}
use Rattle.reo_players.specs.Pacing.{clock_at, due_of, each_shown}
use Rattle.reo_players.proofs.Paces.{later_awake, later_counts, not_last, never_last, due_counts, due_fits}
use Rattle.reo_players.proofs.PacedLemmas.{shown_long, awake_long, dues_long, was_awake, due_at, in_time, player_at}
use Rattle.reo_players.proofs.players.Players.goes.Goals as goal

pub at-due-requires : goal.at-due-requires
at-due-requires c =
    let p = c.self.inside in
    let are = c.self.invariant in
    let i = c.args.component in
    omega (arith, c.requires, ap length c.self.view_is, shown_long p.clock p.passed p.players p.marks p.dues are, dues_long p.clock p.passed p.players p.marks p.dues are)

pub at-requires : goal.at-requires
at-requires c =
    let p = c.self.inside in
    let are = c.self.invariant in
    let i = c.args.component in
    omega (arith, c.requires, ap length c.self.view_is, shown_long p.clock p.passed p.players p.marks p.dues are, awake_long p.clock p.passed p.players p.marks p.dues are)

pub returns-then-at-clause-here : goal.returns-then-at-clause-here
returns-then-at-clause-here c = λ is.
    let p = c.self.inside in
    let are = c.self.invariant in
    let i = c.args.component in
    let lt : i < length p.players = omega (arith, c.requires, ap length c.self.view_is, shown_long p.clock p.passed p.players p.marks p.dues are) in
    let first : Paced = record { player = no_player; as_of = 0 } in
    let x : Paced = get_or p.players i first in
    let x_is : x ≡ get_or p.players i x = get_or_default p.players i first x lt in
    let clock : ℕ = clock_at p.clock p.passed i in
    let q : Player = player_of (each_shown (clock_at p.clock p.passed) p.players) i in
    let same : is_awake q ≡ is_awake x.player = ap is_awake (player_at p.clock p.passed p.players p.marks p.dues are i x lt x_is) ∙ later_awake (clock - x.as_of) x.player in
    rw (← c.self.view_is) (ap (λ b. b || counts q) (same ∙ sym (was_awake p.clock p.passed p.players p.marks p.dues are i x lt x_is) ∙ sym c.at.ensures ∙ is))

pub returns-then-due-clause-awake : goal.returns-then-due-clause-awake
returns-then-due-clause-awake c = λ is.
    let p = c.self.inside in
    let are = c.self.invariant in
    let i = c.args.component in
    let lt : i < length p.players = omega (arith, c.requires, ap length c.self.view_is, shown_long p.clock p.passed p.players p.marks p.dues are) in
    let first : Paced = record { player = no_player; as_of = 0 } in
    let x : Paced = get_or p.players i first in
    let x_is : x ≡ get_or p.players i x = get_or_default p.players i first x lt in
    let clock : ℕ = clock_at p.clock p.passed i in
    rw (← c.self.view_is)
    (ap is_awake (player_at p.clock p.passed p.players p.marks p.dues are i x lt x_is) ∙ later_awake (clock - x.as_of) x.player
    ∙ sym (was_awake p.clock p.passed p.players p.marks p.dues are i x lt x_is) ∙ sym c.at.ensures ∙ c.if-at.false)

pub returns-else-due-clause-awake : goal.returns-else-due-clause-awake
returns-else-due-clause-awake c = λ is.
    let p = c.self.inside in
    let are = c.self.invariant in
    let i = c.args.component in
    let lt : i < length p.players = omega (arith, c.requires, ap length c.self.view_is, shown_long p.clock p.passed p.players p.marks p.dues are) in
    let first : Paced = record { player = no_player; as_of = 0 } in
    let x : Paced = get_or p.players i first in
    let x_is : x ≡ get_or p.players i x = get_or_default p.players i first x lt in
    let clock : ℕ = clock_at p.clock p.passed i in
    rw (← c.self.view_is)
    (ap is_awake (player_at p.clock p.passed p.players p.marks p.dues are i x lt x_is) ∙ later_awake (clock - x.as_of) x.player
    ∙ sym (was_awake p.clock p.passed p.players p.marks p.dues are i x lt x_is) ∙ sym c.at.ensures ∙ c.if-at.false)

pub returns-then-due-clause-last : goal.returns-then-due-clause-last
returns-then-due-clause-last c = λ is.
    let p = c.self.inside in
    let are = c.self.invariant in
    let i = c.args.component in
    let lt : i < length p.players = omega (arith, c.requires, ap length c.self.view_is, shown_long p.clock p.passed p.players p.marks p.dues are) in
    let first : Paced = record { player = no_player; as_of = 0 } in
    let x : Paced = get_or p.players i first in
    let x_is : x ≡ get_or p.players i x = get_or_default p.players i first x lt in
    let clock : ℕ = clock_at p.clock p.passed i in
    let asleep : is_awake x.player ≡ false = sym (was_awake p.clock p.passed p.players p.marks p.dues are i x lt x_is) ∙ sym c.at.ensures ∙ c.if-at.false in
    let due : c.at-due.result ≡ due_of x = c.at-due.ensures ∙ due_at p.clock p.passed p.players p.marks p.dues are i x lt x_is in
    let fits = due_fits x in
    let sum : c.saturating_add.result ≡ min (c.clock_of-clock.result + 1) (2 ^ 64 - 1) = c.saturating_add.ensures in
    let less : c.saturating_add.result < c.at-due.result = grind (arith, nat_tests) in
    let soon : clock + 1 < due_of x = omega (arith, due, fits, sum, less, c.clock_of-clock.ensures) in
    rw (← c.self.view_is)
    (ap is_last (player_at p.clock p.passed p.players p.marks p.dues are i x lt x_is) ∙ not_last x clock (in_time p.clock p.passed p.players p.marks p.dues are i x lt x_is) asleep soon)

pub returns-then-due-clause-here : goal.returns-then-due-clause-here
returns-then-due-clause-here c = λ is.
    let p = c.self.inside in
    let are = c.self.invariant in
    let i = c.args.component in
    let lt : i < length p.players = omega (arith, c.requires, ap length c.self.view_is, shown_long p.clock p.passed p.players p.marks p.dues are) in
    let first : Paced = record { player = no_player; as_of = 0 } in
    let x : Paced = get_or p.players i first in
    let x_is : x ≡ get_or p.players i x = get_or_default p.players i first x lt in
    let clock : ℕ = clock_at p.clock p.passed i in
    let q : Player = player_of (each_shown (clock_at p.clock p.passed) p.players) i in
    let due : c.at-due.result ≡ due_of x = c.at-due.ensures ∙ due_at p.clock p.passed p.players p.marks p.dues are i x lt x_is in
    let fits = due_fits x in
    let not_same : c.at-due.result ≢ 18446744073709551615 = c.if-due.true in
    let ever : due_of x < 2 ^ 64 - 1 = omega (arith, due, fits, not_same) in
    let same : counts q ≡ counts x.player = ap counts (player_at p.clock p.passed p.players p.marks p.dues are i x lt x_is) ∙ later_counts (clock - x.as_of) x.player in
    rw (← c.self.view_is) (ap (λ b. is_awake q || b) (same ∙ due_counts x ever) ∙ or-true (is_awake q))

pub returns-else-due-clause-last : goal.returns-else-due-clause-last
returns-else-due-clause-last c = λ is.
    let p = c.self.inside in
    let are = c.self.invariant in
    let i = c.args.component in
    let lt : i < length p.players = omega (arith, c.requires, ap length c.self.view_is, shown_long p.clock p.passed p.players p.marks p.dues are) in
    let first : Paced = record { player = no_player; as_of = 0 } in
    let x : Paced = get_or p.players i first in
    let x_is : x ≡ get_or p.players i x = get_or_default p.players i first x lt in
    let clock : ℕ = clock_at p.clock p.passed i in
    let asleep : is_awake x.player ≡ false = sym (was_awake p.clock p.passed p.players p.marks p.dues are i x lt x_is) ∙ sym c.at.ensures ∙ c.if-at.false in
    let eq : nat_eq c.at-due.result 18446744073709551615 ≡ true = not-false (nat_eq c.at-due.result 18446744073709551615) is in
    let never : c.at-due.result ≡ 18446744073709551615 = grind (arith, nat_tests) in
    rw (← c.self.view_is)
    (ap is_last (player_at p.clock p.passed p.players p.marks p.dues are i x lt x_is) ∙ never_last x clock asleep (sym (c.at-due.ensures ∙ due_at p.clock p.passed p.players p.marks p.dues are i x lt x_is) ∙ never))
