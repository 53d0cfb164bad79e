-- What primitives do with items stays when they go on.
use Rattle.std.proofs.Common.{◌≡◌, ℕ, zero, suc, List, [], ◌∷◌, Option, map, refl, sym, subst}
use Rattle.reo_values.specs.declared.value.Value.{Value}
use Rattle.reo_net_base.specs.declared.colouring.Chosen.{Chosen}
use Rattle.reo_net_base.specs.Behaviour.{Behaviour}
use Rattle.reo_net_base.specs.Lawful.{TreatsAlike}
use Rattle.reo_net_base.specs.Net.{Wiring, behaviour_at}
use Rattle.reo_net_base.specs.Shapes.{TreatAlike}
use Rattle.reo_net_base.specs.Step.{change_at, settled_list, stepped}

unchanged : (b : Behaviour) → TreatsAlike b b
unchanged b = record { passes = λ side row end item. refl; from = λ side row end. refl; given = λ side row end from taken is. refl }

-- Where one primitive changes.
module _ {P : Type 0} (behaviour : P → Behaviour) (f : P → P) (law : (p : P) → TreatsAlike (behaviour p) (behaviour (f p))) where
  changed : (ps : List P) (i k : ℕ) → TreatsAlike (behaviour_at (map behaviour ps) k) (behaviour_at (map behaviour (change_at f ps i)) k)
  changed [] i k = unchanged (behaviour_at [] k)
  changed (p ∷ ps) zero zero = law p
  changed (p ∷ ps) zero (suc k) = unchanged (behaviour_at (map behaviour ps) k)
  changed (p ∷ ps) (suc i) zero = unchanged (behaviour p)
  changed (p ∷ ps) (suc i) (suc k) = changed ps i k

  pub one_treats : (old new : Wiring P) (i : ℕ) → new ≡ record old { primitives = change_at f old.primitives i } → TreatAlike (map behaviour old.primitives) (map behaviour new.primitives)
  one_treats old new i is = subst (λ (w : Wiring P). TreatAlike (map behaviour old.primitives) (map behaviour w.primitives)) (sym is) (changed old.primitives i)

-- Over a round.
module _ {P : Type 0} (behaviour : P → Behaviour) (settled : P → Chosen → Option Value → P) (law : (p : P) (rows : Chosen) (taken : Option Value) → TreatsAlike (behaviour p) (behaviour (settled p rows taken))) where
  settled_treat : (ps : List P) (rows : List Chosen) (taken : List (Option Value)) → TreatAlike (map behaviour ps) (map behaviour (settled_list settled ps rows taken))
  settled_treat [] rows taken i = unchanged (behaviour_at [] i)
  settled_treat (p ∷ ps) [] taken i = unchanged (behaviour_at (map behaviour (p ∷ ps)) i)
  settled_treat (p ∷ ps) (r ∷ rows) [] i = unchanged (behaviour_at (map behaviour (p ∷ ps)) i)
  settled_treat (p ∷ ps) (r ∷ rows) (t ∷ taken) zero = law p r t
  settled_treat (p ∷ ps) (r ∷ rows) (t ∷ taken) (suc i) = settled_treat ps rows taken i

  pub round_treats : (old new : Wiring P) (rows : List ℕ) (items : List (Option Value)) → new ≡ record old { primitives = stepped behaviour settled old rows items }
      → TreatAlike (map behaviour old.primitives) (map behaviour new.primitives)
  round_treats old new rows items is =
      subst (λ (w : Wiring P). TreatAlike (map behaviour old.primitives) (map behaviour w.primitives)) (sym is) (settled_treat old.primitives _ _)
