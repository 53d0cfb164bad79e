-- A proof text has no other verdict.
use Rattle.std.proofs.Common.{◌≡◌, ◌∙◌, ap, sym, subst, refl, inl, inr, ℕ, ◌+◌, List, [], ◌∷◌, ◌++◌, length, append_assoc, arith}
use Rattle.std.specs.Prelude.{None, Result, Ok, Err}
use Rattle.reo_net_base.specs.declared.port.Port.{Port}
use Rattle.reo_net_base.specs.Net.{net_of}
use Rattle.reo_players.specs.Offers.{offer_for}
use Rattle.reo_trace_reader.specs.texts.Lines.{AreTold}
use Rattle.reo_rounds.specs.Order.{HasOrder}
use Rattle.reo_rounds.specs.Rules.{Rules}
use Rattle.reo_rounds.specs.Lasting.{KeepsShape}
use Rattle.reo_rounds.proofs.OrderLemmas.{round_order}
use Rattle.reo_runs.specs.Round.{State}
use Rattle.reo_runs.specs.Run.{Place, EndsAs, place_after}
use Rattle.reo_runs.specs.verdicts.Replays.{colourings}
use Rattle.reo_proof_texts.specs.declared.refusal.ProofRefusal.{ProofRefusal}
use Rattle.reo_proof_texts.specs.Cuts.{LoggedRound, logged_text, all_logged, lines_in, AreLogged, Next, IsNext}
use Rattle.reo_proof_texts.specs.Proven.{IsProven, AreProven}
use Rattle.reo_proof_texts.specs.ProofVerdicts.{IsWrongNext, IsProofVerdict}
use Rattle.reo_proof_texts.proofs.CutLemmas.{logged_told, one_next}
use Rattle.reo_proof_texts.proofs.RoundLemmas.{one_state, one_wrong_by, none_wrong_by}

module _ {P : Type 0} (r : Rules P) (k : KeepsShape r) (ports : List Port) (told : AreTold ports) (nodes : List (List ℕ)) (homes : List ℕ) where
  -- What is answered by what stands next: it is the ending, or what is wrong first.
  abbrev Concludes : ℕ → ℕ → Place P → Next → Result ℕ ProofRefusal → Type 0
  Concludes before turn q (Next.ending e) (Ok count) = EndsAs colourings r turn q e × (count + 1 ≡ turn)
  Concludes before turn q (Next.round x more) (Ok count) = ⊥
  Concludes before turn q (Next.wrong line) (Ok count) = ⊥
  Concludes before turn q next (Err refusal) = IsWrongNext r ports nodes homes before turn q next refusal

  one_concluded : (before turn : ℕ) (q : Place P) (next : Next) (a b : Result ℕ ProofRefusal) → HasOrder (net_of r.behaviour q.state.circuit)
      → Concludes before turn q next a → Concludes before turn q next b → a ≡ b
  one_concluded before turn q (Next.ending e) (Ok m) (Ok n) old p s = let same : m ≡ n = omega (arith, p.1, s.1) in ap Ok same
  one_concluded before turn q (Next.ending e) (Ok m) (Err b) old p s = absurd (s.1 p.0)
  one_concluded before turn q (Next.ending e) (Err a) (Ok n) old p s = absurd (p.1 s.0)
  one_concluded before turn q (Next.ending e) (Err a) (Err b) old p s = ap Err (p.0 ∙ sym s.0)
  one_concluded before turn q (Next.round x more) (Ok m) b old p s = absurd p
  one_concluded before turn q (Next.round x more) (Err a) (Ok n) old p s = absurd s
  one_concluded before turn q (Next.round x more) (Err a) (Err b) old (inl p) (inl s) = ap Err (p.1 ∙ sym s.1)
  one_concluded before turn q (Next.round x more) (Err a) (Err b) old (inl p) (inr s) = absurd (p.0 s.0)
  one_concluded before turn q (Next.round x more) (Err a) (Err b) old (inr p) (inl s) = absurd (s.0 p.0)
  one_concluded before turn q (Next.round x more) (Err a) (Err b) old (inr p) (inr s) =
      ap Err (one_wrong_by r k ports nodes homes before turn q.state x old a b p.1 s.1)
  one_concluded before turn q (Next.wrong line) (Ok m) b old p s = absurd p
  one_concluded before turn q (Next.wrong line) (Err a) (Ok n) old p s = absurd s
  one_concluded before turn q (Next.wrong line) (Err a) (Err b) old p s = ap Err (p ∙ sym s)

  -- A round whose log is accepted does not conclude.
  goes_on : (before turn : ℕ) (p : Place P) (x : LoggedRound) (more : List ℕ) (b : State P) (a : Result ℕ ProofRefusal) → HasOrder (net_of r.behaviour p.state.circuit)
      → p.over ≡ None → IsProven colourings r turn p.state x b → Concludes before turn p (Next.round x more) a → ⊥
  goes_on before turn p x more b (Ok m) old on proven c = c
  goes_on before turn p x more b (Err a) old on proven (inl w) = w.0 on
  goes_on before turn p x more b (Err a) old on proven (inr w) = none_wrong_by r k ports nodes homes before turn p.state x old b proven a w.1

  -- These rounds are right, and what stands behind them concludes.
  record Reaches (base turn : ℕ) (p : Place P) (xs : List LoggedRound) (text : List ℕ) (answer : Result ℕ ProofRefusal) : Type 0 where
    left : List ℕ
    last : Place P
    next : Next
    cut : text ≡ all_logged ports xs ++ left
    logged : AreLogged ports turn xs
    proven : AreProven colourings r turn p xs last
    next_is : IsNext ports (turn + length xs) left next
    concludes : Concludes (base + lines_in xs) (turn + length xs) last next answer

  -- It concludes here.
  record Here (base turn : ℕ) (p : Place P) (text : List ℕ) (answer : Result ℕ ProofRefusal) : Type 0 where
    next : Next
    next_is : IsNext ports turn text next
    concludes : Concludes base turn p next answer

  here : (base turn : ℕ) (p : Place P) (text : List ℕ) (a : Result ℕ ProofRefusal) → Reaches base turn p [] text a → Here base turn p text a
  here base turn p text a h =
      let none : List LoggedRound = [] in
      let count : turn + length none ≡ turn = omega arith in
      let lines : base + lines_in none ≡ base = omega arith in
      record {
        next = h.next;
        next_is = subst (λ (n : ℕ). IsNext ports n text h.next) count (subst (λ (t : List ℕ). IsNext ports (turn + length none) t h.next) (sym h.cut) h.next_is);
        concludes = subst (λ (n : ℕ). Concludes base n p h.next a) count
            (subst (λ (m : ℕ). Concludes m (turn + length none) p h.next a) lines
            (subst (λ (s : Place P). Concludes (base + lines_in none) (turn + length none) s h.next a) (sym h.proven) h.concludes));
      }

  rest_of : (base turn : ℕ) (p : Place P) (x : LoggedRound) (xs : List LoggedRound) (text : List ℕ) (a : Result ℕ ProofRefusal) → Reaches base turn p (x ∷ xs) text a → List ℕ
  rest_of base turn p x xs text a h = all_logged ports xs ++ h.left

  cut_first : (base turn : ℕ) (p : Place P) (x : LoggedRound) (xs : List LoggedRound) (text : List ℕ) (a : Result ℕ ProofRefusal) (h : Reaches base turn p (x ∷ xs) text a)
      → text ≡ logged_text ports x ++ (all_logged ports xs ++ h.left)
  cut_first base turn p x xs text a h = h.cut ∙ append_assoc (logged_text ports x) (all_logged ports xs) h.left

  -- The same behind the first round.
  behind : (base turn : ℕ) (p : Place P) (x : LoggedRound) (xs : List LoggedRound) (text : List ℕ) (a : Result ℕ ProofRefusal) (h : Reaches base turn p (x ∷ xs) text a)
      → Reaches (base + (length x.log + 2)) (turn + 1) (place_after turn x.line p.state h.proven.1) xs (all_logged ports xs ++ h.left) a
  behind base turn p x xs text a h =
      let count : turn + length (x ∷ xs) ≡ turn + 1 + length xs = omega arith in
      let lines : base + lines_in (x ∷ xs) ≡ base + (length x.log + 2) + lines_in xs = omega arith in
      record {
        left = h.left;
        last = h.last;
        next = h.next;
        cut = refl;
        logged = h.logged.1;
        proven = h.proven.3;
        next_is = subst (λ (n : ℕ). IsNext ports n h.left h.next) count h.next_is;
        concludes = subst (λ (n : ℕ). Concludes (base + (length x.log + 2) + lines_in xs) n h.last h.next a) count
            (subst (λ (m : ℕ). Concludes m (turn + length (x ∷ xs)) h.last h.next a) lines h.concludes);
      }

  -- It concludes nowhere before a round whose log is accepted.
  not_before : (base turn : ℕ) (p : Place P) (y : LoggedRound) (ys : List LoggedRound) (text : List ℕ) (a b : Result ℕ ProofRefusal) → HasOrder (net_of r.behaviour p.state.circuit)
      → Reaches base turn p [] text a → Reaches base turn p (y ∷ ys) text b → ⊥
  not_before base turn p y ys text a b old h g =
      let now = here base turn p text a h in
      let more : List ℕ = all_logged ports ys ++ g.left in
      let same = one_next ports told turn text now.next (Next.round y more) now.next_is (g.logged.0, cut_first base turn p y ys text b g) in
      goes_on base turn p y more g.proven.1 a old g.proven.0 g.proven.2 (subst (λ (n : Next). Concludes base turn p n a) same now.concludes)

  one_reached : (base turn : ℕ) (p : Place P) (xs ys : List LoggedRound) (text : List ℕ) (a b : Result ℕ ProofRefusal) → HasOrder (net_of r.behaviour p.state.circuit)
      → Reaches base turn p xs text a → Reaches base turn p ys text b → a ≡ b
  one_reached base turn p [] [] text a b old h g =
      let now = here base turn p text a h in
      let also = here base turn p text b g in
      let same = one_next ports told turn text also.next now.next also.next_is now.next_is in
      one_concluded base turn p now.next a b old now.concludes (subst (λ (n : Next). Concludes base turn p n b) same also.concludes)
  one_reached base turn p [] (y ∷ ys) text a b old h g = absurd (not_before base turn p y ys text a b old h g)
  one_reached base turn p (x ∷ xs) [] text a b old h g = absurd (not_before base turn p x xs text b a old g h)
  one_reached base turn p (x ∷ xs) (y ∷ ys) text a b old h g =
      let parts = logged_told ports told turn turn y x _ _ g.logged.0 h.logged.0 (sym (cut_first base turn p y ys text b g) ∙ cut_first base turn p x xs text a h) in
      let also : Reaches base turn p (x ∷ ys) text b = subst (λ (z : LoggedRound). Reaches base turn p (z ∷ ys) text b) parts.0 g in
      let rests = logged_told ports told turn turn x x _ _ also.logged.0 h.logged.0 (sym (cut_first base turn p x ys text b also) ∙ cut_first base turn p x xs text a h) in
      let state = one_state r k turn p.state x.line also.proven.1 h.proven.1 old also.proven.2.round h.proven.2.round in
      let next : ℕ = base + (length x.log + 2) in
      let place : Place P = place_after turn x.line p.state h.proven.1 in
      let here_order = round_order r k (offer_for p.state.players) colourings.suits turn p.state.circuit x.line h.proven.1.circuit h.proven.2.round.made old in
      let moved : Reaches next (turn + 1) place ys (all_logged ports ys ++ also.left) b =
      subst (λ (s : State P). Reaches next (turn + 1) (place_after turn x.line p.state s) ys (all_logged ports ys ++ also.left) b) state (behind base turn p x ys text b also) in
      let other : Reaches next (turn + 1) place ys (all_logged ports xs ++ h.left) b =
      subst (λ (t : List ℕ). Reaches next (turn + 1) place ys t b) rests.1 moved in
      one_reached next (turn + 1) place xs ys (all_logged ports xs ++ h.left) a b here_order (behind base turn p x xs text a h) other

  module _ (start : Place P) (text : List ℕ) where
    -- The rounds that are right.
    abbrev rounds_of : (a : Result ℕ ProofRefusal) → IsProofVerdict r ports nodes homes start text a → List LoggedRound
    rounds_of (Ok count) h = h.rounds
    rounds_of (Err refusal) h = h.right

    reached : (a : Result ℕ ProofRefusal) (h : IsProofVerdict r ports nodes homes start text a) → Reaches 0 1 start (rounds_of a h) text a
    reached (Ok count) h =
        let turn : length h.rounds + 1 ≡ 1 + length h.rounds = omega arith in
        let ends : EndsAs colourings r (1 + length h.rounds) h.proved.last h.ending = subst (λ (n : ℕ). EndsAs colourings r n h.proved.last h.ending) turn h.proved.ends in
        let count_is : count + 1 ≡ 1 + length h.rounds = omega (arith, h.count_is) in
        record {
          left = _;
          last = h.proved.last;
          next = Next.ending h.ending;
          cut = h.proved.text_is;
          logged = h.logged;
          proven = h.proved.proven;
          next_is = (h.is_ending, refl);
          concludes = (ends, count_is);
        }
    reached (Err refusal) h =
        let turn : length h.right + 1 ≡ 1 + length h.right = omega arith in
        let lines : lines_in h.right ≡ 0 + lines_in h.right = omega arith in
        record {
          left = h.left;
          last = h.last;
          next = h.next;
          cut = h.cut;
          logged = h.logged;
          proven = h.proven;
          next_is = subst (λ (n : ℕ). IsNext ports n h.left h.next) turn h.next_is;
          concludes = subst (λ (n : ℕ). IsWrongNext r ports nodes homes (0 + lines_in h.right) n h.last h.next refusal) turn
              (subst (λ (m : ℕ). IsWrongNext r ports nodes homes m (length h.right + 1) h.last h.next refusal) lines h.wrong);
        }

    -- A proof text has one verdict.
    pub one_verdict : (a b : Result ℕ ProofRefusal) → HasOrder (net_of r.behaviour start.state.circuit)
        → IsProofVerdict r ports nodes homes start text a → IsProofVerdict r ports nodes homes start text b → a ≡ b
    one_verdict a b old h g = one_reached 0 1 start (rounds_of a h) (rounds_of b g) text a b old (reached a h) (reached b g)
