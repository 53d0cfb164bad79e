use Rattle.std.proofs.Common.{◌≡◌, ℕ, ◌+◌, ◌<◌, ◌-◌, ◌||◌, ◌↔◌, IsTrue, [], ◌∷◌, ◌++◌, List, Bool, length, get_or, take, drop, sym, ◌∙◌, ap, subst, arith, length-drop, length-take-le}
use Rattle.std.proofs.lemmas.List.{take_more, get_or-drop}
use Rattle.reo_net_base.specs.Net.{Net, net_of}
use Rattle.reo_walk.specs.Arranged.{IsJamRow}
use Rattle.reo_walk.proofs.Jamming.{SomeJams, jam_more}
use Rattle.reo_walk.proofs.part.part_of.Goals as goal

pub loop-index-preserved : goal.loop-index-preserved
loop-index-preserved g c =
    let net : Net = net_of g.P.Primitive.behaviour c.args.circuit.now in
    let i : ℕ = c.loop-index.index in
    let from : ℕ = length c.args.chosen.now - length c.args.sides.now in
    let side : ℕ = get_or c.args.sides.now i 0 in
    let row : ℕ = get_or c.args.chosen.now (from + i) 0 in
    let kept = c.loop-index.invariant in
    let lt : i < length c.args.sides.now = omega arith in
    let rest : List ℕ = drop from c.args.chosen.now in
    let rest_lt : i < length rest = omega (arith, length-drop from c.args.chosen.now, c.requires.enough) in
    let sides_is : c.push.new.self ≡ c.loop-index.part.sides ++ side ∷ [] = c.in_ok-push.ensures.ok in
    let rows_is : c.push-in-loop-index.new.self ≡ c.loop-index.part.rows ++ row ∷ [] = c.in_ok-push-2.ensures.ok ∙ ap (λ (r : ℕ). c.loop-index.part.rows ++ r ∷ []) c.row_of-row.ensures in
    let count : length c.loop-index.part.rows ≡ length c.loop-index.part.sides =
    ap length kept.rows ∙ length-take-le i rest (omega arith) ∙ sym (ap length kept.sides ∙ length-take-le i c.args.sides.now (omega arith)) in
    record {
      sides = sides_is ∙ ap (λ (xs : List ℕ). xs ++ side ∷ []) kept.sides ∙ sym (take_more c.args.sides.now i 0 lt);
      rows = rows_is ∙ ap (λ (xs : List ℕ). xs ++ row ∷ []) kept.rows ∙ ap (λ (r : ℕ). take i rest ++ r ∷ []) (sym (get_or-drop from c.args.chosen.now i 0)) ∙ sym (take_more rest i 0 rest_lt);
      jammed = subst (λ (b : Bool). IsTrue b ↔ SomeJams net c.push.new.self c.push-in-loop-index.new.self) (sym c.one_is.ensures)
          (subst (λ (xs : List ℕ). IsTrue (c.loop-index.part.jammed || c.is_jam_row-jams.result) ↔ SomeJams net xs c.push-in-loop-index.new.self) (sym sides_is)
          (subst (λ (xs : List ℕ). IsTrue (c.loop-index.part.jammed || c.is_jam_row-jams.result) ↔ SomeJams net (c.loop-index.part.sides ++ side ∷ []) xs) (sym rows_is)
          (jam_more net c.loop-index.part.sides c.loop-index.part.rows side row count c.loop-index.part.jammed c.is_jam_row-jams.result kept.jammed (subst (λ (r : ℕ). IsTrue c.is_jam_row-jams.result ↔ IsJamRow net side r) c.row_of-row.ensures c.is_jam_row-jams.ensures))));
    }
