-- What is wrong first with one round, and that nothing is where its log is accepted.
use Rattle.std.proofs.Common.{◌≡◌, ◌≢◌, ◌∙◌, ◌⊎◌, ap, sym, subst, refl, inl, inr, ℕ, ◌+◌, List}
use Rattle.reo_net_base.specs.Net.{Net, Wiring, net_of}
use Rattle.reo_net_base.specs.Step.{stepped}
use Rattle.reo_players.specs.Offers.{offer_for}
use Rattle.reo_trace.specs.declared.line.RoundLine.{RoundLine}
use Rattle.reo_rounds.specs.Rules.{Rules}
use Rattle.reo_rounds.specs.Ready.{ready}
use Rattle.reo_rounds.specs.Order.{HasOrder}
use Rattle.reo_rounds.specs.Lasting.{KeepsShape}
use Rattle.reo_rounds.proofs.OrderLemmas.{ready_order}
use Rattle.reo_runs.specs.Round.{State, RoundOf, net_ready, advanced}
use Rattle.reo_net_base.specs.declared.port.Port.{Port}
use Rattle.reo_runs.specs.declared.verdicts.verdict.Refusal.{Refusal}
use Rattle.reo_runs.specs.declared.verdicts.verdict.Refusal.TheVariants as causes
use Rattle.reo_runs.specs.verdicts.Replays.{colourings}
use Rattle.reo_runs.specs.verdicts.Said.{AreSaid}
use Rattle.reo_runs.specs.verdicts.Wrongs.{IsWrongRound}
use Rattle.reo_runs.proofs.verdicts.WrongLemmas.{one_colouring_said, one_wrong_round, none_wrong_round}
use Rattle.reo_refute_base.specs.declared.faults.fault.ProofFault.{ProofFault}
use Rattle.reo_refute_base.specs.declared.faults.fault.ProofFault.TheVariants as faults
use Rattle.reo_refute_base.specs.faults.Faults.{IsProofFault}
use Rattle.reo_refute_base.proofs.faults.OneFault.{one_fault, proof_or_fault}
use Rattle.reo_proof_texts.specs.declared.refusal.ProofRefusal.{ProofRefusal}
use Rattle.reo_proof_texts.specs.declared.refusal.ProofRefusal.TheVariants as refusals
use Rattle.reo_proof_texts.specs.Cuts.{LoggedRound, lines_text}
use Rattle.reo_proof_texts.specs.Proven.{IsProven}
use Rattle.reo_proof_texts.specs.ProofVerdicts.{FailsBy, IsWrongRoundBy}

-- The refusal of a round for a cause of its line, or for a fault of its log.
abbrev of_cause : Refusal → ProofRefusal
of_cause (causes.Line line) = refusals.Line line
of_cause (causes.Ended round) = refusals.Ended round
of_cause (causes.Round round wrong node) = refusals.Round round wrong node
of_cause (causes.Moves round) = refusals.Moves round
of_cause causes.End = refusals.End

abbrev of_fault : ℕ → ℕ → ProofFault → ProofRefusal
of_fault before turn (faults.Colouring wrong) = refusals.NoMemory
of_fault before turn faults.Wide = refusals.Wide turn
of_fault before turn (faults.Line number) = refusals.Log turn (before + 1 + number)
of_fault before turn faults.NoMemory = refusals.NoMemory

wide_told : faults.Wide ≢ faults.NoMemory
wide_told e = cc

line_told : (n : ℕ) → faults.Line n ≢ faults.NoMemory
line_told n e = cc

module _ {P : Type 0} (r : Rules P) (k : KeepsShape r) where
  ordered_ready : (a : State P) → HasOrder (net_of r.behaviour a.circuit) → HasOrder (net_ready r a)
  ordered_ready a old = ready_order r k (offer_for a.players) a.circuit old

  round_said : (turn : ℕ) (a : State P) (line : RoundLine) (b : State P) (p : RoundOf colourings r turn a line b) → AreSaid (net_ready r a) line.entries p.made.rows
  round_said turn a line b p = record { in_tables = p.made.suits.rows_fit.in_tables; shown = ap (λ (l : RoundLine). l.entries) (sym p.made.shown) }

  -- A line says one list of rows.
  same_rows : (turn : ℕ) (a : State P) (line : RoundLine) (b d : State P) → HasOrder (net_of r.behaviour a.circuit)
      → (p : RoundOf colourings r turn a line b) (q : RoundOf colourings r turn a line d) → p.made.rows ≡ q.made.rows
  same_rows turn a line b d old p q =
      (one_colouring_said (net_ready r a) (ordered_ready a old) line.entries p.made.rows q.made.rows p.made.items q.made.items (round_said turn a line b p) (round_said turn a line d q) p.made.suits q.made.suits).0

  -- A line leads to one state.
  pub one_state : (turn : ℕ) (a : State P) (line : RoundLine) (b d : State P) → HasOrder (net_of r.behaviour a.circuit) → RoundOf colourings r turn a line b → RoundOf colourings r turn a line d → b ≡ d
  one_state turn a line b d old p q =
      let w : Wiring P = ready r (offer_for a.players) a.circuit in
      let net : Net = net_ready r a in
      let same = one_colouring_said net (ordered_ready a old) line.entries p.made.rows q.made.rows p.made.items q.made.items (round_said turn a line b p) (round_said turn a line d q) p.made.suits q.made.suits in
      let circuits : b.circuit ≡ d.circuit = p.made.circuit ∙ (λ i. record w { primitives = stepped r.behaviour r.settled w (same.0 i) (same.1 i) }) ∙ sym q.made.circuit in
      let players : b.players ≡ d.players = p.players ∙ ap (λ (rows : List ℕ). advanced net rows a.players) same.0 ∙ sym q.players in
      λ i. record { circuit = circuits i; players = players i }

  module _ (ports : List Port) (nodes : List (List ℕ)) (homes : List ℕ) (before turn : ℕ) (a : State P) (x : LoggedRound) where
    -- What is wrong first, in two kinds: with the line, or with the log.
    abbrev Found : ProofRefusal → Type 0
    Found refusal =
        ((cause : Refusal) × IsWrongRound nodes homes (net_ready r a) a.circuit.ports turn x.line cause × (refusal ≡ of_cause cause))
        ⊎ ((fault : ProofFault) × FailsBy r ports nodes homes turn a x fault × (fault ≢ faults.NoMemory) × (refusal ≡ of_fault before turn fault))

    found : (refusal : ProofRefusal) → IsWrongRoundBy r ports nodes homes before turn a x refusal → Found refusal
    found (refusals.Line line) p = absurd p
    found (refusals.Ended round) p = absurd p
    found (refusals.Round round wrong node) p = inl (causes.Round round wrong node, p, refl)
    found (refusals.Moves round) p = inl (causes.Moves round, p, refl)
    found (refusals.Wide round) p = inr (faults.Wide, p.1, wide_told, ap refusals.Wide p.0)
    found (refusals.Log round line) p = inr (faults.Line p.1, p.2, line_told p.1, λ i. refusals.Log (p.0 i) (p.3 i))
    found refusals.End p = absurd p
    found refusals.NoMemory p = absurd p

    module _ (old : HasOrder (net_of r.behaviour a.circuit)) where
      one_found : (p q : ProofRefusal) → Found p → Found q → p ≡ q
      one_found p q (inl f) (inl g) =
          f.2 ∙ ap of_cause (one_wrong_round nodes homes (net_ready r a) (ordered_ready a old) a.circuit.ports turn x.line f.0 g.0 f.1 g.1) ∙ sym g.2
      one_found p q (inl f) (inr g) =
          let round = g.1.round in
          absurd (none_wrong_round nodes homes (net_ready r a) (ordered_ready a old) a.circuit.ports turn x.line round.made.rows round.made.items round.made.suits round.made.shown f.0 f.1)
      one_found p q (inr f) (inl g) =
          let round = f.1.round in
          absurd (none_wrong_round nodes homes (net_ready r a) (ordered_ready a old) a.circuit.ports turn x.line round.made.rows round.made.items round.made.suits round.made.shown g.0 g.1)
      one_found p q (inr f) (inr g) =
          let net : Net = net_ready r a in
          let ordered = ordered_ready a old in
          let log : List ℕ = lines_text x.log in
          let rows = same_rows turn a x.line g.1.next f.1.next old g.1.round f.1.round in
          let other : IsProofFault net turn f.1.round.made.rows log g.0 = subst (λ (z : List ℕ). IsProofFault net turn z log g.0) rows g.1.fault_is in
          f.3 ∙ ap (of_fault before turn) (one_fault net ordered.wired ordered.order ordered.is_order turn f.1.round.made.rows log f.0 g.0 f.2 g.2 f.1.fault_is other) ∙ sym g.3

      -- One thing is wrong first with a round.
      pub one_wrong_by : (p q : ProofRefusal) → IsWrongRoundBy r ports nodes homes before turn a x p → IsWrongRoundBy r ports nodes homes before turn a x q → p ≡ q
      one_wrong_by p q f g = one_found p q (found p f) (found q g)

      none_found : (b : State P) → IsProven colourings r turn a x b → (p : ProofRefusal) → Found p → ⊥
      none_found b proven p (inl f) =
          let round = proven.round in
          none_wrong_round nodes homes (net_ready r a) (ordered_ready a old) a.circuit.ports turn x.line round.made.rows round.made.items round.made.suits round.made.shown f.0 f.1
      none_found b proven p (inr f) =
          let net : Net = net_ready r a in
          let ordered = ordered_ready a old in
          let log : List ℕ = lines_text x.log in
          let rows = same_rows turn a x.line f.1.next b old f.1.round proven.round in
          let fault : IsProofFault net turn proven.round.made.rows log f.0 = subst (λ (z : List ℕ). IsProofFault net turn z log f.0) rows f.1.fault_is in
          proof_or_fault net ordered.wired ordered.order ordered.is_order turn proven.round.made.rows log f.0 f.2 proven.proof fault

      -- Nothing is wrong with a round whose log is accepted.
      pub none_wrong_by : (b : State P) → IsProven colourings r turn a x b → (p : ProofRefusal) → IsWrongRoundBy r ports nodes homes before turn a x p → ⊥
      none_wrong_by b proven p f = none_found b proven p (found p f)
