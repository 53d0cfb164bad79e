-- Lines show one round of a number.
use Rattle.std.proofs.Common.{◌≡◌, ◌∙◌, ap, sym, subst, ℕ, ◌+◌, List, [], ◌∷◌, ◌++◌, length, arith}
use Rattle.reo_net_base.specs.declared.colouring.Colouring.{Colouring}
use Rattle.reo_net_base.specs.Net.{Net, Wiring, net_of}
use Rattle.reo_net_base.specs.Step.{stepped}
use Rattle.reo_players.specs.Offers.{offer_for}
use Rattle.reo_trace.specs.declared.line.RoundLine.{RoundLine}
use Rattle.reo_rounds.specs.Rules.{Rules}
use Rattle.reo_rounds.specs.Ready.{ready}
use Rattle.reo_rounds.specs.Order.{HasOrder}
use Rattle.reo_rounds.specs.Lasting.{KeepsShape}
use Rattle.reo_rounds.proofs.OrderLemmas.{ready_order, round_order}
use Rattle.reo_runs.specs.Round.{State, RoundOf, net_ready, advanced}
use Rattle.reo_runs.specs.Run.{Place, Leads, place_after}
use Rattle.reo_runs.specs.verdicts.Replays.{colourings}
use Rattle.reo_runs.specs.verdicts.Said.{AreSaid}
use Rattle.reo_runs.proofs.verdicts.WrongLemmas.{one_colouring_said}
use Rattle.reo_verify.specs.judging.Judged.{IsColouringSaid}
use Rattle.reo_draw_replay.specs.Rounds.{IsRound}

-- Two places that are one, before the same lines.
record IsOnePlace {P : Type 0} (r : Rules P) (q s : Place P) (left also : List RoundLine) : Type 0 where
  pub places : q ≡ s
  pub lines : left ≡ also
  pub ordered : HasOrder (net_of r.behaviour q.state.circuit)

module _ {P : Type 0} (r : Rules P) (k : KeepsShape r) where
  said : (turn : ℕ) (a : State P) (line : RoundLine) (b : State P) (p : RoundOf colourings r turn a line b) → AreSaid (net_ready r a) line.entries p.made.rows
  said turn a line b p = record { in_tables = p.made.suits.rows_fit.in_tables; shown = ap (λ (l : RoundLine). l.entries) (sym p.made.shown) }

  -- A line leads to one state.
  one_next : (turn : ℕ) (a : State P) (line : RoundLine) (b d : State P) → HasOrder (net_of r.behaviour a.circuit) → RoundOf colourings r turn a line b → RoundOf colourings r turn a line d → b ≡ d
  one_next turn a line b d old p q =
      let w : Wiring P = ready r (offer_for a.players) a.circuit in
      let net : Net = net_ready r a in
      let same = one_colouring_said net (ready_order r k (offer_for a.players) a.circuit old) line.entries p.made.rows q.made.rows p.made.items q.made.items (said turn a line b p) (said turn a line d q) p.made.suits q.made.suits in
      let circuits : b.circuit ≡ d.circuit = p.made.circuit ∙ (λ i. record w { primitives = stepped r.behaviour r.settled w (same.0 i) (same.1 i) }) ∙ sym q.made.circuit in
      let players : b.players ≡ d.players = p.players ∙ ap (λ (rows : List ℕ). advanced net rows a.players) same.0 ∙ sym q.players in
      λ i. record { circuit = circuits i; players = players i }

  -- Lines lead to one place, whose joints have an order.
  one_place : (turn : ℕ) (p : Place P) (xs ys left also : List RoundLine) (q s : Place P) → xs ++ left ≡ ys ++ also → length xs ≡ length ys
      → HasOrder (net_of r.behaviour p.state.circuit) → Leads colourings r turn p xs q → Leads colourings r turn p ys s → IsOnePlace r q s left also
  one_place turn p [] [] left also q s same count old d g =
      record { places = sym d ∙ g; lines = same; ordered = subst (λ (z : Place P). HasOrder (net_of r.behaviour z.state.circuit)) d old }
  one_place turn p [] (y ∷ ys) left also q s same count old d g = absurd (omega (arith, count))
  one_place turn p (x ∷ xs) [] left also q s same count old d g = absurd (omega (arith, count))
  one_place turn p (x ∷ xs) (y ∷ ys) left also q s same count old d g =
      let line : x ≡ y = cc in
      let rest : xs ++ left ≡ ys ++ also = cc in
      let fewer : length xs ≡ length ys = omega (arith, count) in
      let other : RoundOf colourings r turn p.state x g.1 = subst (λ (z : RoundLine). RoundOf colourings r turn p.state z g.1) (sym line) g.2 in
      let state : d.1 ≡ g.1 = one_next turn p.state x d.1 g.1 old d.2 other in
      let here = round_order r k (offer_for p.state.players) colourings.suits turn p.state.circuit x d.1.circuit d.2.made old in
      let behind : Leads colourings r (turn + 1) (place_after turn x p.state d.1) ys s =
      subst (λ (z : RoundLine). Leads colourings r (turn + 1) (place_after turn z p.state d.1) ys s) (sym line)
      (subst (λ (c : State P). Leads colourings r (turn + 1) (place_after turn y p.state c) ys s) (sym state) g.3) in
      one_place (turn + 1) (place_after turn x p.state d.1) xs ys left also q s rest fewer here d.3 behind

  pub one_round : (start : Place P) (lines : List RoundLine) (number : ℕ) (w v : Wiring P) (x y : RoundLine) (c d : Colouring)
      → HasOrder (net_of r.behaviour start.state.circuit) → IsRound r start lines number w x c → IsRound r start lines number v y d → (w ≡ v) × (x ≡ y) × (c ≡ d)
  one_round start lines number w v x y c d old a b =
      let count : length a.right ≡ length b.right = omega (arith, a.number_is, b.number_is) in
      let at = one_place 1 start a.right b.right (x ∷ a.left) (y ∷ b.left) a.before b.before (sym a.cut ∙ b.cut) count old a.rounds b.rounds in
      let behind = at.lines in
      let line : x ≡ y = cc in
      let circuits : w ≡ v = a.circuit ∙ ap (λ (p : Place P). ready r (offer_for p.state.players) p.state.circuit) at.places ∙ sym b.circuit in
      let ordered : HasOrder (net_of r.behaviour w) = subst (λ (u : Wiring P). HasOrder (net_of r.behaviour u)) (sym a.circuit) (ready_order r k (offer_for a.before.state.players) a.before.state.circuit at.ordered) in
      let says : IsColouringSaid (net_of r.behaviour w) x.entries d =
      subst (λ (l : RoundLine). IsColouringSaid (net_of r.behaviour w) l.entries d) (sym line)
      (subst (λ (u : Wiring P). IsColouringSaid (net_of r.behaviour u) y.entries d) (sym circuits) b.says) in
      let same = one_colouring_said (net_of r.behaviour w) ordered x.entries c.rows d.rows c.items d.items a.says.said says.said a.says.is_colouring says.is_colouring in
      (circuits, line, λ i. record { rows = same.0 i; items = same.1 i })
