-- A trace has no other verdict.
use Rattle.std.proofs.Common.{◌≡◌, ◌∙◌, ap, sym, subst, refl, inl, inr, ℕ, ◌+◌, List, [], ◌∷◌, ◌++◌, length, arith}
use Rattle.std.specs.Prelude.{None}
use Rattle.reo_net_base.specs.Net.{Net, Wiring, net_of}
use Rattle.reo_net_base.specs.Step.{stepped}
use Rattle.reo_players.specs.Offers.{offer_for}
use Rattle.reo_trace.specs.declared.line.RoundLine.{RoundLine}
use Rattle.reo_trace.specs.declared.line.Ending.{Ending}
use Rattle.reo_trace_reader.specs.declared.texts.trace.Trace.{Trace}
use Rattle.reo_rounds.specs.Rules.{Rules}
use Rattle.reo_rounds.specs.Ready.{ready}
use Rattle.reo_runs.specs.Round.{State, RoundOf, net_ready, advanced}
use Rattle.reo_runs.specs.Run.{Place, Leads, EndsAs, IsRun, place_after}
use Rattle.reo_rounds.specs.Order.{HasOrder}
use Rattle.reo_rounds.specs.Lasting.{KeepsShape}
use Rattle.reo_rounds.proofs.OrderLemmas.{ready_order, round_order}
use Rattle.reo_runs.specs.declared.verdicts.verdict.Refusal.{Refusal}
use Rattle.reo_runs.specs.declared.verdicts.verdict.Verdict.{Verdict}
use Rattle.reo_runs.specs.declared.verdicts.verdict.Verdict.TheVariants as verdicts
use Rattle.reo_runs.specs.verdicts.Replays.{colourings}
use Rattle.reo_runs.specs.verdicts.Said.{AreSaid}
use Rattle.reo_runs.specs.verdicts.Verdicts.{IsWrongAt, IsRefused, IsVerdict}
use Rattle.reo_runs.proofs.verdicts.WrongLemmas.{one_colouring_said, one_wrong_round, none_wrong_round}

module _ {P : Type 0} (r : Rules P) (k : KeepsShape r) where
  ordered_ready : (a : State P) → HasOrder (net_of r.behaviour a.circuit) → HasOrder (net_ready r a)
  ordered_ready a old = ready_order r k (offer_for a.players) a.circuit old

  round_said : (turn : ℕ) (a : State P) (line : RoundLine) (b : State P) (p : RoundOf colourings r turn a line b) → AreSaid (net_ready r a) line.entries p.made.rows
  round_said turn a line b p = record { in_tables = p.made.suits.rows_fit.in_tables; shown = ap (λ (l : RoundLine). l.entries) (sym p.made.shown) }

  -- A line leads to one state.
  one_next : (turn : ℕ) (a : State P) (line : RoundLine) (b d : State P) → HasOrder (net_of r.behaviour a.circuit) → RoundOf colourings r turn a line b → RoundOf colourings r turn a line d → b ≡ d
  one_next turn a line b d old p q =
      let w : Wiring P = ready r (offer_for a.players) a.circuit in
      let net : Net = net_ready r a in
      let same = one_colouring_said net (ordered_ready a old) line.entries p.made.rows q.made.rows p.made.items q.made.items (round_said turn a line b p) (round_said turn a line d q) p.made.suits q.made.suits in
      let circuits : b.circuit ≡ d.circuit = p.made.circuit ∙ (λ i. record w { primitives = stepped r.behaviour r.settled w (same.0 i) (same.1 i) }) ∙ sym q.made.circuit in
      let players : b.players ≡ d.players = p.players ∙ ap (λ (rows : List ℕ). advanced net rows a.players) same.0 ∙ sym q.players in
      λ i. record { circuit = circuits i; players = players i }

  same_next : (turn : ℕ) (a : State P) (x y : RoundLine) (b d : State P) → HasOrder (net_of r.behaviour a.circuit) → x ≡ y → RoundOf colourings r turn a x b → RoundOf colourings r turn a y d → b ≡ d
  same_next turn a x y b d old same p q = one_next turn a x b d old p (subst (λ (z : RoundLine). RoundOf colourings r turn a z d) (sym same) q)

  -- What follows a round is what follows the same round.
  same_leads : (turn : ℕ) (a : State P) (x y : RoundLine) (b d : State P) (ys : List RoundLine) (s : Place P) → x ≡ y → b ≡ d → Leads colourings r (turn + 1) (place_after turn y a d) ys s
      → Leads colourings r (turn + 1) (place_after turn x a b) ys s
  same_leads turn a x y b d ys s line state rest =
      subst (λ (z : RoundLine). Leads colourings r (turn + 1) (place_after turn z a b) ys s) (sym line)
      (subst (λ (c : State P). Leads colourings r (turn + 1) (place_after turn y a c) ys s) (sym state) rest)

  ends_here : (turn t : ℕ) (p q : Place P) (e : Ending) → t ≡ turn → p ≡ q → EndsAs colourings r t q e → EndsAs colourings r turn p e
  ends_here turn t p q e count same ends =
      subst (λ (n : ℕ). EndsAs colourings r n p e) count (subst (λ (s : Place P). EndsAs colourings r t s e) (sym same) ends)

  module _ (nodes : List (List ℕ)) (homes : List ℕ) where
    one_wrong_at : (turn : ℕ) (q : Place P) (left : List RoundLine) (e : Ending) (a b : Refusal) → HasOrder (net_of r.behaviour q.state.circuit)
        → IsWrongAt r nodes homes turn q left e a → IsWrongAt r nodes homes turn q left e b → a ≡ b
    one_wrong_at turn q [] e a b old p s = p.0 ∙ sym s.0
    one_wrong_at turn q (line ∷ left) e a b old (inl p) (inl s) = p.1 ∙ sym s.1
    one_wrong_at turn q (line ∷ left) e a b old (inl p) (inr s) = absurd (p.0 s.0)
    one_wrong_at turn q (line ∷ left) e a b old (inr p) (inl s) = absurd (s.0 p.0)
    one_wrong_at turn q (line ∷ left) e a b old (inr p) (inr s) =
        one_wrong_round nodes homes (net_ready r q.state) (ordered_ready q.state old) q.state.circuit.ports turn line a b p.1 s.1

    -- Nothing is wrong where a round is right.
    right_at : (turn : ℕ) (p : Place P) (line : RoundLine) (left : List RoundLine) (b : State P) (e : Ending) (a : Refusal) → HasOrder (net_of r.behaviour p.state.circuit)
        → p.over ≡ None → RoundOf colourings r turn p.state line b → IsWrongAt r nodes homes turn p (line ∷ left) e a → ⊥
    right_at turn p line left b e a old on round (inl w) = w.0 on
    right_at turn p line left b e a old on round (inr w) =
        none_wrong_round nodes homes (net_ready r p.state) (ordered_ready p.state old) p.state.circuit.ports turn line round.made.rows round.made.items round.made.suits round.made.shown a w.1

    wrong_here : (turn t : ℕ) (p q : Place P) (rest left : List RoundLine) (e : Ending) (a : Refusal) → t ≡ turn → p ≡ q → left ≡ rest → IsWrongAt r nodes homes t q left e a → IsWrongAt r nodes homes turn p rest e a
    wrong_here turn t p q rest left e a count same lines wrong =
        subst (λ (n : ℕ). IsWrongAt r nodes homes n p rest e a) count
        (subst (λ (s : Place P). IsWrongAt r nodes homes t s rest e a) (sym same)
        (subst (λ (ls : List RoundLine). IsWrongAt r nodes homes t q ls e a) lines wrong))

    one_refused : (turn t u : ℕ) (p : Place P) (xs ys left also : List RoundLine) (q s : Place P) (e : Ending) (a b : Refusal) → xs ++ left ≡ ys ++ also
        → t ≡ turn + length xs → u ≡ turn + length ys → HasOrder (net_of r.behaviour p.state.circuit) → Leads colourings r turn p xs q → Leads colourings r turn p ys s
        → IsWrongAt r nodes homes t q left e a → IsWrongAt r nodes homes u s also e b → a ≡ b
    one_refused turn t u p [] [] left also q s e a b same count other old d g w v =
        one_wrong_at turn p also e a b old (wrong_here turn t p q also left e a (omega (arith, count)) d same w) (wrong_here turn u p s also also e b (omega (arith, other)) g refl v)
    one_refused turn t u p [] (y ∷ ys) left also q s e a b same count other old d g w v =
        absurd (right_at turn p y (ys ++ also) g.1 e a old g.0 g.2 (wrong_here turn t p q (y ∷ (ys ++ also)) left e a (omega (arith, count)) d same w))
    one_refused turn t u p (x ∷ xs) [] left also q s e a b same count other old d g w v =
        absurd (right_at turn p x (xs ++ left) d.1 e b old d.0 d.2 (wrong_here turn u p s (x ∷ (xs ++ left)) also e b (omega (arith, other)) g (sym same) v))
    one_refused turn t u p (x ∷ xs) (y ∷ ys) left also q s e a b same count other old d g w v =
        let line : x ≡ y = cc in
        let rest : xs ++ left ≡ ys ++ also = cc in
        let state : d.1 ≡ g.1 = same_next turn p.state x y d.1 g.1 old line d.2 g.2 in
        let here = round_order r k (offer_for p.state.players) colourings.suits turn p.state.circuit x d.1.circuit d.2.made old in
        one_refused (turn + 1) t u (place_after turn x p.state d.1) xs ys left also q s e a b rest (omega (arith, count)) (omega (arith, other)) here d.3
        (same_leads turn p.state x y d.1 g.1 ys s line state g.3) w v

    -- Nothing is wrong with a run.
    none_refused : (turn t u : ℕ) (p : Place P) (xs ys left : List RoundLine) (q s : Place P) (e : Ending) (a : Refusal) → xs ≡ ys ++ left
        → t ≡ turn + length xs → u ≡ turn + length ys → HasOrder (net_of r.behaviour p.state.circuit) → Leads colourings r turn p xs q → EndsAs colourings r t q e
        → Leads colourings r turn p ys s → IsWrongAt r nodes homes u s left e a → ⊥
    none_refused turn t u p [] [] left q s e a same count other old d ends g w =
        let here = wrong_here turn u p s [] left e a (omega (arith, other)) g (sym same) w in
        here.1 (ends_here turn t p q e (omega (arith, count)) d ends)
    none_refused turn t u p [] (y ∷ ys) left q s e a same count other old d ends g w = absurd cc
    none_refused turn t u p (x ∷ xs) [] left q s e a same count other old d ends g w =
        right_at turn p x xs d.1 e a old d.0 d.2 (wrong_here turn u p s (x ∷ xs) left e a (omega (arith, other)) g (sym same) w)
    none_refused turn t u p (x ∷ xs) (y ∷ ys) left q s e a same count other old d ends g w =
        let line : x ≡ y = cc in
        let rest : xs ≡ ys ++ left = cc in
        let state : d.1 ≡ g.1 = same_next turn p.state x y d.1 g.1 old line d.2 g.2 in
        let here = round_order r k (offer_for p.state.players) colourings.suits turn p.state.circuit x d.1.circuit d.2.made old in
        none_refused (turn + 1) t u (place_after turn x p.state d.1) xs ys left q s e a rest (omega (arith, count)) (omega (arith, other)) here d.3 ends
        (same_leads turn p.state x y d.1 g.1 ys s line state g.3) w

    run_refused : (start : Place P) (t : Trace) (a : Refusal) → HasOrder (net_of r.behaviour start.state.circuit) → IsRun colourings r start t.rounds t.ending → IsRefused r nodes homes start t a → ⊥
    run_refused start t a old p q =
        none_refused 1 (length t.rounds + 1) (length q.right + 1) start t.rounds q.right q.left p.last q.last t.ending a q.cut (omega arith) (omega arith) old p.rounds p.ends q.rounds q.wrong

    -- A trace has one verdict.
    pub one_verdict : (start : Place P) (t : Trace) (a b : Verdict) → HasOrder (net_of r.behaviour start.state.circuit) → IsVerdict r nodes homes start t a → IsVerdict r nodes homes start t b → a ≡ b
    one_verdict start t (verdicts.Verified rounds jams) (verdicts.Verified others other_jams) old p q =
        let count : rounds ≡ others = p.1 ∙ sym q.1 in
        let jam_count : jams ≡ other_jams = p.2 ∙ sym q.2 in
        λ i. verdicts.Verified (count i) (jam_count i)
    one_verdict start t (verdicts.Verified rounds jams) (verdicts.Refused b) old p q = absurd (run_refused start t b old p.0 q)
    one_verdict start t (verdicts.Refused a) (verdicts.Verified rounds jams) old p q = absurd (run_refused start t a old q.0 p)
    one_verdict start t (verdicts.Refused a) (verdicts.Refused b) old p q =
        let same : p.right ++ p.left ≡ q.right ++ q.left = sym p.cut ∙ q.cut in
        ap (λ (x : Refusal). verdicts.Refused x)
        (one_refused 1 (length p.right + 1) (length q.right + 1) start p.right q.right p.left q.left p.last q.last t.ending a b same (omega arith) (omega arith) old p.rounds q.rounds p.wrong q.wrong)
