-- Its mark tells.
use Rattle.std.proofs.Common.{◌≡◌, ◌∙◌, ◌<◌, ◌-◌, length, get_or, sym, ap, arith}
use Rattle.std.proofs.lemmas.List.{get_or_default}
use Rattle.reo_players.specs.declared.pacing.Paced.{Paced}
use Rattle.reo_players.specs.Players.{no_player}
use Rattle.reo_players.specs.Idle.{is_awake}
use Rattle.reo_players.specs.Pacing.{clock_at}
use Rattle.reo_players.proofs.Paces.{later_awake}
use Rattle.reo_players.proofs.PacedLemmas.{shown_long, awake_long, was_awake, player_at}
use Rattle.reo_players.proofs.players.Players.is_awake.Goals as goal

pub at-requires : goal.at-requires
at-requires c =
    let p = c.self.inside in
    let are = c.self.invariant in
    omega (arith, c.requires, ap length c.self.view_is, shown_long p.clock p.passed p.players p.marks p.dues are, awake_long p.clock p.passed p.players p.marks p.dues are)

pub returns : goal.returns
returns c =
    let p = c.self.inside in
    let are = c.self.invariant in
    let i = c.args.component in
    let lt : i < length p.players = omega (arith, c.requires, ap length c.self.view_is, shown_long p.clock p.passed p.players p.marks p.dues are) in
    let first : Paced = record { player = no_player; as_of = 0 } in
    let x : Paced = get_or p.players i first in
    let x_is : x ≡ get_or p.players i x = get_or_default p.players i first x lt in
    rw (← c.self.view_is)
    (c.at.ensures ∙ was_awake p.clock p.passed p.players p.marks p.dues are i x lt x_is
    ∙ sym (ap is_awake (player_at p.clock p.passed p.players p.marks p.dues are i x lt x_is) ∙ later_awake (clock_at p.clock p.passed i - x.as_of) x.player))
