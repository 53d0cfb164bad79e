-- There is one round of a circuit, and a round that is planned is it.
use Rattle.std.proofs.Common.{◌≡◌, ◌∙◌, ℕ, List, ap, refl, sym}
use Rattle.std.specs.Prelude.{Option}
use Rattle.reo_values.specs.declared.value.Value.{Value}
use Rattle.reo_net_base.specs.Moves.{moves_of}
use Rattle.reo_net_base.specs.Net.{Net, Wiring, net_of}
use Rattle.reo_net_base.specs.Step.{stepped}
use Rattle.reo_net_laws.specs.FirstLaws.{FirstExists, FirstIsOne}
use Rattle.reo_trace.specs.declared.line.RoundLine.{RoundLine}
use Rattle.reo_trace.specs.Entries.{line_for}
use Rattle.reo_weights.specs.Over.{Cause, IsOver}
use Rattle.reo_rounds.specs.declared.plan.Plan.{Plan}
use Rattle.reo_rounds.specs.Order.{HasOrder}
use Rattle.reo_rounds.specs.Plans.{ShowsItsOwn}
use Rattle.reo_rounds.specs.RoundOn.{Suiting, RoundOn, first_within}
use Rattle.reo_rounds.specs.Rules.{Rules}

module _ {P : Type 0} (r : Rules P) (turn : ℕ) (w : Wiring P) where
  abbrev shown_by : List ℕ → List (Option Value) → RoundLine
  shown_by rows items = line_for (net_of r.behaviour w) turn rows (moves_of (net_of r.behaviour w) w.ports rows items)

  abbrev made_by : List ℕ → List (Option Value) → Wiring P
  made_by rows items = record w { primitives = stepped r.behaviour r.settled w rows items }

  -- What suits one choice suits another.
  abbrev pub suits_also : (one other : Suiting) → ((net : Net) (n : ℕ) (rows : List ℕ) (items : List (Option Value)) → one net n rows items → other net n rows items)
      → (line : RoundLine) (b : Wiring P) → RoundOn one r turn w line b → RoundOn other r turn w line b
  suits_also one other also line b p = record {
    rows = p.rows;
    items = p.items;
    suits = also (net_of r.behaviour w) turn p.rows p.items p.suits;
    shown = p.shown;
    circuit = p.circuit;
  }

  -- A plan that shows its own moves, and whose rows and items suit, is a round.
  pub round_by : (suiting : Suiting) (p : Plan) (line : RoundLine) → suiting (net_of r.behaviour w) turn p.colouring.rows p.colouring.items
      → ShowsItsOwn (net_of r.behaviour w) w.ports p → line ≡ line_for (net_of r.behaviour w) turn p.colouring.rows p.moves
      → RoundOn suiting r turn w line (made_by p.colouring.rows p.colouring.items)
  round_by suiting p line suits shows line_is = record {
    rows = p.colouring.rows;
    items = p.colouring.items;
    suits = suits;
    shown = line_is ∙ ap (λ ms. line_for (net_of r.behaviour w) turn p.colouring.rows ms) shows.moves;
    circuit = refl;
  }

  -- Two first rounds of one circuit have the same rows, the same line and the same circuit after them.
  pub record AreSameRounds (budget : ℕ) (x y : RoundLine) (b d : Wiring P) (p : RoundOn (first_within budget) r turn w x b) (q : RoundOn (first_within budget) r turn w y d) : Type 0 where
    pub rows : p.rows ≡ q.rows
    pub line : x ≡ y
    pub circuit : b ≡ d

  pub one_round : FirstIsOne → HasOrder (net_of r.behaviour w) → (budget : ℕ) (x y : RoundLine) (b d : Wiring P)
      (p : RoundOn (first_within budget) r turn w x b) (q : RoundOn (first_within budget) r turn w y d) → AreSameRounds budget x y b d p q
  one_round one now budget x y b d p q =
      let same = one (net_of r.behaviour w) now.wired now.order now.is_order turn p.rows q.rows p.items q.items p.suits.1 q.suits.1 in
      record {
        rows = same.0;
        line = p.shown ∙ (λ i. shown_by (same.0 i) (same.1 i)) ∙ sym q.shown;
        circuit = p.circuit ∙ (λ i. made_by (same.0 i) (same.1 i)) ∙ sym q.circuit;
      }

  -- Where no part is over, there is one.
  pub round_exists : FirstExists → HasOrder (net_of r.behaviour w) → (budget : ℕ) → ((cause : Cause) → IsOver budget (net_of r.behaviour w) cause → ⊥)
      → (line : RoundLine) × (b : Wiring P) × RoundOn (first_within budget) r turn w line b
  round_exists first now budget none =
      let found = first (net_of r.behaviour w) now.wired now.order now.is_order turn in (
        shown_by found.0 found.1,
        made_by found.0 found.1,
        record { rows = found.0; items = found.1; suits = (none, found.2); shown = refl; circuit = refl },
      )
