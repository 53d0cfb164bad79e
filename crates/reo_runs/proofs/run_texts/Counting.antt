-- How many primitives there are, round by round and in a program.
use Rattle.std.proofs.Common.{◌≡◌, ◌||◌, ℕ, suc, ◌≤◌, List, [], ◌∷◌, refl, ap, length, codes}
use Rattle.std.proofs.lemmas.Bool.{ltb-false, or_parts}
use Rattle.std.specs.Prelude.{Option, nat_lt}
use Rattle.reo_values.specs.declared.value.Value.{Value}
use Rattle.reo_net_base.specs.declared.colouring.Chosen.{Chosen}
use Rattle.reo_net_base.specs.declared.port.Offer.{Offer}
use Rattle.reo_net_base.specs.Net.{Wiring, net_of}
use Rattle.reo_net_base.specs.Step.{stepped, settled_list, all_chosen, all_taken}
use Rattle.reo_trees.specs.declared.programs.Declaration.{Declaration}
use Rattle.reo_rules.specs.declared.fault.FlatFault.TheVariants as faults
use Rattle.reo_rules.proofs.AfterLemmas.{where_false as none_true}
use Rattle.reo_flat.specs.Unfolding.{meaning_named, meanings_of}
use Rattle.reo_flat.specs.Flat.{primitives_of}
use Rattle.reo_flat.specs.Sizes.{is_too_many, too_many}
use Rattle.reo_rounds.specs.Rules.{Rules}
use Rattle.reo_rounds.specs.Ready.{ready, ports_ready}

module _ {P : Type 0} (r : Rules P) where
  ports_count : (offers : ℕ → Option Offer) (ps : List P) (limit n : ℕ) → length (ports_ready r offers limit n ps) ≡ length ps
  ports_count offers [] limit n = refl
  ports_count offers (p ∷ ps) limit n = ap suc (ports_count offers ps limit (suc n))

  -- As many as before stand at the start of a round.
  pub ready_count : (offers : ℕ → Option Offer) (w : Wiring P) → length (ready r offers w).primitives ≡ length w.primitives
  ready_count offers w = ports_count offers w.primitives w.ports 0

  settled_count : (ps : List P) (rows : List Chosen) (taken : List (Option Value)) → length (settled_list r.settled ps rows taken) ≡ length ps
  settled_count [] rows taken = refl
  settled_count (p ∷ ps) [] taken = refl
  settled_count (p ∷ ps) (c ∷ rows) [] = refl
  settled_count (p ∷ ps) (c ∷ rows) (t ∷ taken) = ap suc (settled_count ps rows taken)

  -- As many as before stand after a round.
  pub stepped_count : (w : Wiring P) (rows : List ℕ) (items : List (Option Value)) → length (stepped r.behaviour r.settled w rows items) ≡ length w.primitives
  stepped_count w rows items = settled_count w.primitives (all_chosen (net_of r.behaviour w) rows) (all_taken (net_of r.behaviour w) items)

-- A program that is accepted has few primitives.
pub program_count : (ds : List Declaration) → too_many ds ≡ [] → length (primitives_of ds) ≤ 4096
program_count ds none =
    let m = meaning_named (meanings_of ds) (codes "main") in
    let all = none_true (is_too_many ds m) faults.TooMany none in
    ltb-false 4096 (length (primitives_of ds)) ((or_parts (nat_lt 4096 (length (primitives_of ds))) (nat_lt 65536 m.uses) ((or_parts (nat_lt 4096 (length (primitives_of ds)) || nat_lt 65536 m.uses) (nat_lt 64 m.depth) all).0)).0)
