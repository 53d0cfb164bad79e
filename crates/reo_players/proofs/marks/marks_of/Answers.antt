use Rattle.std.proofs.Common.{◌≡◌, ◌∙◌, ◌<◌, List, length, map, set, get_or, ap, sym, arith}
use Rattle.std.proofs.lemmas.List.{get_or-map, length-map}
use Rattle.reo_players.specs.declared.marks.Pace.{Pace}
use Rattle.reo_players.specs.Players.{Player, no_player, counts}
use Rattle.reo_players.specs.Idle.{is_awake, is_left}
use Rattle.reo_players.specs.Pacing.{player_in}
use Rattle.reo_players.proofs.Marked.{one_more_marked, marks_all}
use Rattle.reo_players.proofs.marks.marks_of.Goals as goal

pub loop-component-preserved : goal.loop-component-preserved
loop-component-preserved c =
    let paced = c.args.players.now in
    let players : List Player = map player_in paced in
    let n = c.loop-component.component in
    let old = c.loop-component.marks in
    let x = c.index-players-component.result in
    let p : Player = (get_or paced n x).player in
    let within : n < length paced = omega arith in
    let lt : n < length players = omega (arith, length-map paced player_in) in
    let is : p ≡ get_or players n no_player = sym (get_or-map player_in paced n x no_player within) in
    record {
      awake = one_more_marked is_awake players n old.awake c.put.new.self.awake p (c.put.ensures.awake ∙ ap (λ (m : Pace). set old.awake n m.awake) c.of.ensures) is lt c.loop-component.invariant.awake;
      counting = one_more_marked counts players n old.counting c.put.new.self.counting p (c.put.ensures.counting ∙ ap (λ (m : Pace). set old.counting n m.counting) c.of.ensures) is lt c.loop-component.invariant.counting;
      left = one_more_marked is_left players n old.left c.put.new.self.left p (c.put.ensures.left ∙ ap (λ (m : Pace). set old.left n m.left) c.of.ensures) is lt c.loop-component.invariant.left;
    }

pub returns : goal.returns
returns c =
    let far = c.loop-component.invariant in
    marks_all (map player_in c.args.players.now) c.loop-component.component c.loop-component.marks (omega (arith, length-map c.args.players.now player_in)) far.awake far.counting far.left
