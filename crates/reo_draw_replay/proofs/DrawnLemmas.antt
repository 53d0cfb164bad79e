-- Rounds that are drawn, one line after another.
use Rattle.std.proofs.Common.{◌≡◌, ◌∙◌, ℕ, ◌+◌, Bool, true, false, cond, List, [], ◌∷◌, ◌++◌, length, refl, sym, ap, subst, arith, append_assoc, length-append}
use Rattle.std.specs.Prelude.{◌==◌, Option, Some, None}
use Rattle.std.proofs.lemmas.Bool.Decides.{nat_tests}
use Rattle.reo_net_base.specs.declared.colouring.Colouring.{Colouring}
use Rattle.reo_net_base.specs.declared.port.Port.{Port}
use Rattle.reo_net_base.specs.Net.{Wiring, net_of}
use Rattle.reo_kinds.specs.declared.kind.Kind.{Kind}
use Rattle.reo_trace.specs.declared.line.RoundLine.{RoundLine}
use Rattle.reo_rounds.specs.declared.plan.Plan.{Plan}
use Rattle.reo_runs.specs.Run.{Place}
use Rattle.reo_runs.specs.at_ports.Kinds.{kind_rules}
use Rattle.reo_verify.specs.Seeing.{StandsBehind}
use Rattle.reo_verify.specs.judging.Judged.{IsColouringSaid, IsPlanShown}
use Rattle.reo_draw_rounds.specs.Rounds.{round_picture}
use Rattle.reo_draw_replay.specs.declared.drawing.Pictured.{Pictured}
use Rattle.reo_draw_replay.specs.Drawn.{IsDrawn}
use Rattle.reo_draw_replay.specs.Steps.{IsDrawnIf, IsDrawnWithin, HasDrawn}

-- No line was replayed yet.
pub drawn_none : (d : Pictured) (start : Place Kind) → d.picture ≡ None → HasDrawn d start [] d
drawn_none d start none = record {
  ports = refl;
  nodes = refl;
  homes = refl;
  number = refl;
  drawn = subst (λ (o : Option (List ℕ)). IsDrawnWithin d.ports.now.list d.nodes.now d.homes.now start [] 0 d.number o) (sym none) (λ some. some);
}

-- What was drawn is what was asked for first.
pub drawn_of : (first now : Pictured) (start : Place Kind) (lines : List RoundLine) → HasDrawn first start lines now
    → IsDrawnWithin first.ports.now.list first.nodes.now first.homes.now start lines (length lines) first.number now.picture
drawn_of first now start lines has =
    subst (λ n. IsDrawnWithin first.ports.now.list first.nodes.now first.homes.now start lines (length lines) n now.picture) has.number
    (subst (λ h. IsDrawnWithin first.ports.now.list first.nodes.now h start lines (length lines) now.number now.picture) has.homes
    (subst (λ n. IsDrawnWithin first.ports.now.list n now.homes.now start lines (length lines) now.number now.picture) has.nodes
    (subst (λ p. IsDrawnWithin p.list now.nodes.now now.homes.now start lines (length lines) now.number now.picture) has.ports has.drawn)))

module _ (ports : List Port) (nodes : List (List ℕ)) (homes : List ℕ) where
  -- The picture of a plan that a line shows is that of the line.
  drawn_if : (asked : Bool) (w : Wiring Kind) (line : RoundLine) (plan : Plan) (before after : Option (List ℕ)) → IsPlanShown (net_of kind_rules.behaviour w) w.ports line plan
      → after ≡ cond asked (Some (round_picture w ports homes nodes line plan.colouring)) before → IsDrawnIf ports nodes homes asked w line before after
  drawn_if true w line plan before after shown is = (
    plan.colouring,
    record {
      said = record { in_tables = shown.suits.colouring.rows_fit.in_tables; shown = ap (λ (l : RoundLine). l.entries) (sym shown.shown) };
      is_colouring = shown.suits.colouring;
    },
    is,
  )
  drawn_if false w line plan before after shown is = is

  module _ (start : Place Kind) (lines : List RoundLine) (number : ℕ) (line : RoundLine) where
    drawn_here : (w : Wiring Kind) → StandsBehind kind_rules start lines w → number ≡ length lines + 1 → (colouring : Colouring) → IsColouringSaid (net_of kind_rules.behaviour w) line.entries colouring
        → IsDrawn ports nodes homes start (lines ++ line ∷ []) number (round_picture w ports homes nodes line colouring)
    drawn_here w behind at colouring says = record {
      circuit = w;
      line = line;
      colouring = colouring;
      round = record {
        right = lines;
        left = [];
        before = behind.before;
        cut = refl;
        number_is = at;
        rounds = behind.rounds;
        circuit = behind.circuit;
        says = says;
      };
      is = refl;
    }

    later : (after : Option (List ℕ)) → (number ≡ length lines + 1 → ⊥) → IsDrawnWithin ports nodes homes start lines (length lines) number after
        → IsDrawnWithin ports nodes homes start (lines ++ line ∷ []) (length (lines ++ line ∷ [])) number after
    later None other within = λ some. omega (arith, within some, other, length-append lines (line ∷ []))
    later (Some picture) other within = record {
      circuit = within.circuit;
      line = within.line;
      colouring = within.colouring;
      round = record {
        right = within.round.right;
        left = within.round.left ++ line ∷ [];
        before = within.round.before;
        cut = ap (λ (ls : List RoundLine). ls ++ line ∷ []) within.round.cut ∙ append_assoc within.round.right (within.line ∷ within.round.left) (line ∷ []);
        number_is = within.round.number_is;
        rounds = within.round.rounds;
        circuit = within.round.circuit;
        says = within.round.says;
      };
      is = within.is;
    }

    -- One line more.
    pub drawn_by : (w : Wiring Kind) → StandsBehind kind_rules start lines w → (turn : ℕ) (asked : Bool) (before after : Option (List ℕ)) → turn ≡ length lines + 1 → (turn == number) ≡ asked
        → IsDrawnIf ports nodes homes asked w line before after → IsDrawnWithin ports nodes homes start lines (length lines) number before
        → IsDrawnWithin ports nodes homes start (lines ++ line ∷ []) (length (lines ++ line ∷ [])) number after
    drawn_by w behind turn true before after turn_is is made within =
        let same : turn ≡ number = grind (arith, nat_tests) in
        let at : number ≡ length lines + 1 = omega (arith, same, turn_is) in
        subst (λ (o : Option (List ℕ)). IsDrawnWithin ports nodes homes start (lines ++ line ∷ []) (length (lines ++ line ∷ [])) number o) (sym made.2) (drawn_here w behind at made.0 made.1)
    drawn_by w behind turn false before after turn_is is made within =
        let other : turn ≡ number → ⊥ = λ same. absurd (grind (arith, nat_tests)) in
        later after (λ at. other (omega (arith, at, turn_is))) (subst (λ (o : Option (List ℕ)). IsDrawnWithin ports nodes homes start lines (length lines) number o) (sym made) within)

-- One line more, of which a plan is shown.
pub drawn_more : (first old new : Pictured) (start : Place Kind) (lines : List RoundLine) (line : RoundLine) (w : Wiring Kind) (plan : Plan) → StandsBehind kind_rules start lines w → line.round ≡ length lines + 1
    → IsPlanShown (net_of kind_rules.behaviour w) w.ports line plan → (asked : Bool) → (line.round == old.number) ≡ asked
    → new ≡ record old { picture = cond asked (Some (round_picture w old.ports.now.list old.homes.now old.nodes.now line plan.colouring)) old.picture }
    → HasDrawn first start lines old → HasDrawn first start (lines ++ line ∷ []) new
drawn_more first old new start lines line w plan behind number shown asked asked_is is has =
    let picture : Option (List ℕ) = cond asked (Some (round_picture w old.ports.now.list old.homes.now old.nodes.now line plan.colouring)) old.picture in
    subst (HasDrawn first start (lines ++ line ∷ [])) (sym is) record {
      ports = has.ports;
      nodes = has.nodes;
      homes = has.homes;
      number = has.number;
      drawn = drawn_by old.ports.now.list old.nodes.now old.homes.now start lines old.number line w behind line.round asked old.picture picture number asked_is
          (drawn_if old.ports.now.list old.nodes.now old.homes.now asked w line plan old.picture picture shown refl) has.drawn;
    }
