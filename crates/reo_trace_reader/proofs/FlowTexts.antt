-- What flowed in a round, at the front of a text.
use Rattle.std.proofs.Common.{◌≡◌, ◌∙◌, ℕ, Bool, true, false, List, [], ◌∷◌, ◌++◌, refl, sym, append_assoc, arith}
use Rattle.std.specs.Prelude.{codes}
use Rattle.std.proofs.lemmas.List.Elements.{All-nil}
use Rattle.reo_net_base.specs.declared.colouring.Move.{Move}
use Rattle.reo_net_base.specs.declared.port.Port.{Port}
use Rattle.reo_trace.specs.RoundText.{moves_text}
use Rattle.reo_trace_reader.specs.texts.Lines.{AreTold, IsMove}
use Rattle.reo_trace_reader.proofs.texts.Moves as laws
use Rattle.reo_trace_reader.specs.declared.moves.PortFlows.{PortFlows}
use Rattle.reo_trace_reader.specs.Fronts.{AreFlows, AreMoves, flows_text, moves_front}

module _ (ports : List Port) (told : AreTold ports) where
  for_laws : (x : PortFlows) → AreFlows ports x → laws.AreMoves ports told x.idle x.moves
  for_laws x h = record { each = h.moves; still = h.still }

  -- what flowed, and what comes after it, are told from the text
  pub flows_unique : (x y : PortFlows) (r s : List ℕ) → AreFlows ports x → AreFlows ports y → flows_text ports x ++ r ≡ flows_text ports y ++ s → (x ≡ y) × (r ≡ s)
  flows_unique x y r s h g e =
      let parts = laws.moves_unique ports told x.idle y.idle x.moves y.moves r s (for_laws x h) (for_laws y g)
      (sym (append_assoc (moves_text ports x.idle x.moves) (codes " | ") r) ∙ e ∙ append_assoc (moves_text ports y.idle y.moves) (codes " | ") s) in
      ((λ i. record { idle = parts.0 i; moves = parts.1 i }), parts.2)

  pub idle_reads : (old new : List ℕ) (ms : List Move) → ms ≡ [] → old ≡ codes "idle | " ++ new → (x : PortFlows) (rest : List ℕ) → AreFlows ports x → old ≡ flows_text ports x ++ rest
      → ((record { idle = true; moves = ms }) ≡ x) × (new ≡ rest)
  idle_reads old new ms none taken x rest h e =
      let found : PortFlows = record { idle = true; moves = [] } in
      let is : AreFlows ports found = record { moves = All-nil (IsMove ports); rising = tt; still = λ t. refl } in
      let parts = flows_unique found x new rest is h (sym taken ∙ e) in
      ((λ i. record { idle = true; moves = none i }) ∙ parts.0, parts.1)

  pub dash_reads : (old new : List ℕ) (ms : List Move) → ms ≡ [] → old ≡ codes "- | " ++ new → (x : PortFlows) (rest : List ℕ) → AreFlows ports x → old ≡ flows_text ports x ++ rest
      → ((record { idle = false; moves = ms }) ≡ x) × (new ≡ rest)
  dash_reads old new ms none taken x rest h e =
      let found : PortFlows = record { idle = false; moves = [] } in
      let is : AreFlows ports found = record { moves = All-nil (IsMove ports); rising = tt; still = λ t. refl } in
      let parts = flows_unique found x new rest is h (sym taken ∙ e) in
      ((λ i. record { idle = false; moves = none i }) ∙ parts.0, parts.1)

  -- where neither word is next, moves are
  moves_here : (idle : Bool) (ms : List Move) (old rest : List ℕ) → AreFlows ports (record { idle = idle; moves = ms }) → old ≡ (moves_text ports idle ms ++ codes " | ") ++ rest
      → ((more : List ℕ) → old ≡ codes "idle | " ++ more → ⊥) → ((more : List ℕ) → old ≡ codes "- | " ++ more → ⊥)
      → (false ≡ idle) × AreMoves ports ms × (old ≡ moves_front ports ms ++ rest)
  moves_here true ms old rest h e no_idle no_dash = absurd (no_idle rest e)
  moves_here false [] old rest h e no_idle no_dash = absurd (no_dash rest e)
  moves_here false (m ∷ ms) old rest h e no_idle no_dash = (refl, record { some = omega arith; moves = h.moves; rising = h.rising }, e)

  pub moves_read : (old rest : List ℕ) (x : PortFlows) → AreFlows ports x → old ≡ flows_text ports x ++ rest
      → ((more : List ℕ) → old ≡ codes "idle | " ++ more → ⊥) → ((more : List ℕ) → old ≡ codes "- | " ++ more → ⊥)
      → (false ≡ x.idle) × AreMoves ports x.moves × (old ≡ moves_front ports x.moves ++ rest)
  moves_read old rest x h e no_idle no_dash = moves_here x.idle x.moves old rest h e no_idle no_dash
