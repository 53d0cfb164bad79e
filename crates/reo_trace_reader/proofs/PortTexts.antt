-- Ports and moves at the front of a text.
use Rattle.std.proofs.Common.{◌≡◌, ◌∙◌, ◌<◌, ◌≤◌, ◌+◌, ℕ, Some, List, ◌++◌, ap, refl, sym, subst, length, get_or, append_assoc, arith}
use borrow.Author.Count.{below_more}
use Rattle.std.specs.Prelude.{slice_get}
use Rattle.std.proofs.lemmas.List.{append_cancel_left}
use Rattle.std.proofs.lemmas.Option.{slice_get_within, slice_get_read}
use Rattle.reo_values.specs.ItemText.{text_of}
use Rattle.reo_values.specs.Kind.{IsIn}
use Rattle.reo_values.specs.Names.{IsNameByte}
use Rattle.reo_net_base.specs.declared.colouring.Move.{Move}
use Rattle.reo_net_base.specs.declared.port.Port.{Port}
use Rattle.reo_trace.specs.RoundText.{sign_of, move_text}
use Rattle.reo_trace_reader.specs.texts.Lines.{AreTold}
use Rattle.reo_values.proofs.decimals.Fronts.{front_unique}
use Rattle.reo_trace_reader.proofs.texts.Moves.{bytes_of-name, sign_no-name, move_at, name_at, number_of}
use Rattle.reo_trace_reader.specs.Fronts.{port_text, IsPortFrom, IsMoveFrom}

-- no port from one number to below another is next
abbrev pub NoneBefore : List Port → ℕ → ℕ → List ℕ → Type 0
NoneBefore ports from number old = (k : ℕ) (port : Port) (rest : List ℕ) → from ≤ k → k < number → slice_get ports k ≡ Some port → old ≡ port_text (Some port) ++ rest → ⊥

pub port_there : (ports : List Port) (i : ℕ) (port : Port) → i < length ports → port ≡ get_or ports i port → slice_get ports i ≡ Some port
port_there ports i port within e = slice_get_read ports (length ports) i port refl within e

some_same : (p q : Port) → Some p ≡ Some q → p ≡ q
some_same p q e = cc

-- one more port is not next
pub none_more : (ports : List Port) (from number : ℕ) (port : Port) (old : List ℕ) → NoneBefore ports from number old → slice_get ports number ≡ Some port
    → ((rest : List ℕ) → old ≡ port_text (Some port) ++ rest → ⊥) → NoneBefore ports from (number + 1) old
none_more ports from number port old none at other k p rest low high there e =
    below_more (λ (n : ℕ). (q : Port) (more : List ℕ) → from ≤ n → slice_get ports n ≡ Some q → old ≡ port_text (Some q) ++ more → ⊥) number
    (λ n less q more l t f. none n q more l less t f)
    (λ q more l t f. other more (f ∙ ap (λ (x : Port). port_text (Some x) ++ more) (some_same q port (sym t ∙ at))))
    k high p rest low there e

-- and where none is next, none stands there
pub none_there : (ports : List Port) (from number : ℕ) (old : List ℕ) → NoneBefore ports from number old → length ports ≤ number
    → (x : ℕ) (rest : List ℕ) → IsPortFrom ports from x → old ≡ port_text (slice_get ports x) ++ rest → ⊥
none_there ports from number old none all x rest h e =
    none x h.1.0 rest h.0 (let within = slice_get_within ports x h.1.0 h.1.1 in omega arith) h.1.1 (e ∙ ap (λ o. port_text o ++ rest) h.1.1)

module _ (ports : List Port) (told : AreTold ports) where
  -- a port's name and sign, and what comes after them, tell the port
  pub port_unique : (i j : ℕ) (p q : Port) (r s : List ℕ) → slice_get ports i ≡ Some p → slice_get ports j ≡ Some q
      → port_text (Some p) ++ r ≡ port_text (Some q) ++ s → (i ≡ j) × (r ≡ s)
  port_unique i j p q r s at there e =
      let parts = front_unique IsNameByte p.name q.name (sign_of p.way ++ r) (sign_of q.way ++ s)
      (bytes_of-name p.name (name_at ports told i p at)) (bytes_of-name q.name (name_at ports told j q there)) (sign_no-name p.way r) (sign_no-name q.way s)
      (sym (append_assoc p.name (sign_of p.way) r) ∙ e ∙ append_assoc q.name (sign_of q.way) s) in
      let number = number_of ports told i j p q at there parts.0 in
      let port = some_same p q (sym at ∙ ap (λ (n : ℕ). slice_get ports n) number ∙ there) in
      (number, append_cancel_left (sign_of p.way) r s (parts.1 ∙ sym (ap (λ (x : Port). sign_of x.way ++ s) port)))

  -- the port that is next is the one that stands there
  pub port_found : (from number : ℕ) (port : Port) (old new : List ℕ) → slice_get ports number ≡ Some port → old ≡ port_text (Some port) ++ new
      → (x : ℕ) (rest : List ℕ) → IsPortFrom ports from x → old ≡ port_text (slice_get ports x) ++ rest → (number ≡ x) × (new ≡ rest)
  port_found from number port old new at taken x rest h e =
      port_unique number x port h.1.0 new rest at h.1.1 (sym taken ∙ e ∙ ap (λ o. port_text o ++ rest) h.1.1)

  -- a move is a port and an item
  pub move_stood : (old mid new : List ℕ) (m : Move) (p : Port) → slice_get ports m.port ≡ Some p → old ≡ port_text (slice_get ports m.port) ++ mid
      → mid ≡ text_of m.item p.kindred ++ new → old ≡ move_text ports m ++ new
  move_stood old mid new m p at e f =
      e ∙ (λ i. port_text (at i) ++ f i) ∙ append_assoc p.name (sign_of p.way) (text_of m.item p.kindred ++ new) ∙ sym (move_at ports told m p new at)

  pub move_parts : (from : ℕ) (old rest : List ℕ) (m : Move) (h : IsMoveFrom ports from m) → old ≡ move_text ports m ++ rest
      → IsPortFrom ports from m.port × (old ≡ port_text (slice_get ports m.port) ++ (text_of m.item h.1.0.kindred ++ rest))
  move_parts from old rest m h e =
      let p = h.1.0 in (
        (h.0, (p, h.1.1)),
        e ∙ move_at ports told m p rest h.1.1 ∙ sym (append_assoc p.name (sign_of p.way) (text_of m.item p.kindred ++ rest))
            ∙ sym (ap (λ o. port_text o ++ (text_of m.item p.kindred ++ rest)) h.1.1),
      )

  -- the item of a move, at the port that was found
  pub move_item : (from : ℕ) (rest mid : List ℕ) (m : Move) (h : IsMoveFrom ports from m) (number : ℕ) (q : Port) → slice_get ports number ≡ Some q → number ≡ m.port
      → mid ≡ text_of m.item h.1.0.kindred ++ rest → IsIn m.item q.kindred × (mid ≡ text_of m.item q.kindred ++ rest)
  move_item from rest mid m h number q at same e =
      let port = some_same h.1.0 q (sym h.1.1 ∙ sym (ap (λ (n : ℕ). slice_get ports n) same) ∙ at) in
      (subst (λ (x : Port). IsIn m.item x.kindred) port h.1.2, e ∙ ap (λ (x : Port). text_of m.item x.kindred ++ rest) port)
