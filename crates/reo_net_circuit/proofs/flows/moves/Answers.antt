use Rattle.std.proofs.Common.{◌≡◌, ◌∙◌, ◌++◌, ◌∷◌, [], ℕ, ◌+◌, List, ap, sym, refl, append-nil}
use Rattle.std.specs.List.{flat_map, range_with_len}
use Rattle.std.proofs.lemmas.Grind.{flat_map-append}
use Rattle.reo_net_base.specs.declared.colouring.Move.{Move}
use Rattle.reo_net_base.specs.Net.{Net, net_of}
use Rattle.reo_net_base.specs.Moves.{moves_at}
use Rattle.reo_net_laws.proofs.Ranges.{range_plus_one}
use Rattle.reo_net_circuit.proofs.flows.moves.Goals as goal

flat_more : (f : ℕ → List Move) (k : ℕ) → flat_map f (range_with_len 0 (k + 1)) ≡ flat_map f (range_with_len 0 k) ++ f k
flat_more f k = rw (range_plus_one k, flat_map-append f (range_with_len 0 k) (k ∷ []), append-nil) refl

pub loop-port-preserved : goal.loop-port-preserved
loop-port-preserved g c =
    let net : Net = net_of g.P.Primitive.behaviour c.args.circuit.now in
    c.in_ok-add_move.ensures
    ∙ ap (λ (xs : List Move). xs ++ moves_at net c.args.colouring.now.rows c.args.colouring.now.items c.loop-port.port) c.loop-port.invariant
    ∙ sym (flat_more (moves_at net c.args.colouring.now.rows c.args.colouring.now.items) c.loop-port.port)
