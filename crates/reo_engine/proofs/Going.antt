-- The primitives that a round goes to, of those that are marked.
use Rattle.std.proofs.Common.{◌≡◌, ◌∙◌, inl, inr, ℕ, zero, suc, ◌+◌, ◌<◌, Bool, true, false, List, [], ◌∷◌, Option, length, map, get_or, set, ap, sym, refl, arith}
use Rattle.std.proofs.Math.Bool.{or-true}
use Rattle.std.specs.Prelude.{◌||◌, ◌==◌}
use Rattle.std.proofs.lemmas.Bool.{cases_Bool, cases_eq, both_ways}
use Rattle.std.proofs.lemmas.List.{get_or-map, get_or-set_other, get_or-set_same, length-map}
use Rattle.reo_values.specs.declared.value.Value.{Value}
use Rattle.reo_flags.specs.Where.{AreKeptWhere}
use Rattle.reo_net_base.specs.declared.colouring.Chosen.{Chosen}
use Rattle.reo_net_base.specs.Behaviour.{Behaviour}
use Rattle.reo_net_base.specs.Lasting.{Lasting}
use Rattle.reo_net_base.specs.Lawful.{SameShape}
use Rattle.reo_net_base.specs.Net.{Wiring, net_of, behaviour_at}
use Rattle.reo_net_base.specs.Step.{change_at, settled_list}
use Rattle.reo_net_laws.specs.Knots.{Knotted}
use Rattle.reo_settling.specs.Plannings.{Kept, AreBetweenUnsettled}
use Rattle.reo_flows.specs.stepping.Changes.{AreThoseThatFlowed, CoverChanges}
use Rattle.reo_engine.specs.declared.goers.Goers.{Goers}
use Rattle.reo_engine.specs.Goers.{AreGoers, is_keeper}

-- What a test says stays where one thing changes, or each, and the test stays.
pub map_changed : {P : Type 0} (f : P → Bool) (g : P → P) → ((p : P) → f (g p) ≡ f p) → (ps : List P) (i : ℕ) → map f (change_at g ps i) ≡ map f ps
map_changed f g law [] i = refl
map_changed f g law (p ∷ ps) zero = ap (λ (b : Bool). b ∷ map f ps) (law p)
map_changed f g law (p ∷ ps) (suc i) = ap (λ (bs : List Bool). f p ∷ bs) (map_changed f g law ps i)

pub map_settled : {P : Type 0} (f : P → Bool) (settled : P → Chosen → Option Value → P) → ((p : P) (r : Chosen) (t : Option Value) → f (settled p r t) ≡ f p)
    → (ps : List P) (rows : List Chosen) (taken : List (Option Value)) → map f (settled_list settled ps rows taken) ≡ map f ps
map_settled f settled law [] rows taken = refl
map_settled f settled law (p ∷ ps) [] taken = refl
map_settled f settled law (p ∷ ps) (r ∷ rows) [] = refl
map_settled f settled law (p ∷ ps) (r ∷ rows) (t ∷ taken) =
    ap (λ (b : Bool). b ∷ map f (settled_list settled ps rows taken)) (law p r t) ∙ ap (λ (bs : List Bool). f p ∷ bs) (map_settled f settled law ps rows taken)

-- One test more is told.
pub one_more : {P : Type 0} (f : P → Bool) (ps : List P) (n : ℕ) (p : P) → n < length ps → p ≡ get_or ps n p → (old now : List Bool) → length old ≡ length ps
    → ((i : ℕ) → i < n → get_or old i false ≡ get_or (map f ps) i false) → now ≡ set old n (f p) → (i : ℕ) → i < n + 1 → get_or now i false ≡ get_or (map f ps) i false
one_more f ps n p lt at old now one_each far is i within = elim (cases_eq i n) [
  | inl e ↦
      ap (λ (xs : List Bool). get_or xs i false) is ∙ ap (λ (k : ℕ). get_or (set old n (f p)) k false) e ∙ get_or-set_same old n (f p) false (omega (arith, one_each, lt))
      ∙ ap f at ∙ sym (get_or-map f ps n p false lt) ∙ ap (λ (k : ℕ). get_or (map f ps) k false) (sym e)
  | inr apart ↦ ap (λ (xs : List Bool). get_or xs i false) is ∙ get_or-set_other old n i (f p) false apart ∙ far i (omega (arith, within, apart))
]

module _ {P : Type 0} (behaviour : P → Behaviour) (lasting : P → Lasting) where
  -- A primitive of the same shape that tells the same is a keeper as the other is.
  pub keeper_stays : (p q : P) → SameShape (behaviour p) (behaviour q) → lasting q ≡ lasting p → is_keeper behaviour lasting q ≡ is_keeper behaviour lasting p
  keeper_stays p q shape same =
      ap (λ (l : Lasting). l.keeps || ((behaviour q).sides == 2)) same ∙ ap (λ (n : ℕ). (lasting p).keeps || (n == 2)) shape.sides

  -- Where the tests stay, those that are told stay.
  pub goers_stay : (old new : List P) (before now : Goers) → AreGoers behaviour lasting old before → map (is_keeper behaviour lasting) new ≡ map (is_keeper behaviour lasting) old
      → now.keepers ≡ before.keepers → length now.going ≡ length before.going → AreGoers behaviour lasting new now
  goers_stay old new before now are same keepers going =
      let f : P → Bool = is_keeper behaviour lasting in
      record {
        keepers = keepers ∙ are.keepers ∙ sym same;
        one_each = going ∙ are.one_each ∙ sym (length-map old f) ∙ ap (λ (bs : List Bool). length bs) (sym same) ∙ length-map new f;
      }

  -- What keeps something is a keeper, and so is what has two sides.
  keeps_told : (ps : List P) (i : ℕ) (d : P) → i < length ps → (lasting (get_or ps i d)).keeps ≡ true → get_or (map (is_keeper behaviour lasting) ps) i false ≡ true
  keeps_told ps i d lt keeps =
      let p : P = get_or ps i d in
      get_or-map (is_keeper behaviour lasting) ps i d false lt ∙ ap (λ (b : Bool). b || ((behaviour p).sides == 2)) keeps

  two_told : (ps : List P) (i : ℕ) → (behaviour_at (map behaviour ps) i).sides ≡ 2 → get_or (map (is_keeper behaviour lasting) ps) i false ≡ true
  two_told [] i two = absurd cc
  two_told (p ∷ ps) zero two = ap (λ (n : ℕ). (lasting p).keeps || (n == 2)) two ∙ or-true (lasting p).keeps
  two_told (p ∷ ps) (suc i) two = two_told ps i two

  module _ (w : Wiring P) (goers : Goers) (are : AreGoers behaviour lasting w.primitives goers) (marks going : List Bool) (kept : AreKeptWhere true goers.keepers marks going) where
    -- So each that keeps something and of which some end flowed is gone to.
    pub cover_going : (rows : List ℕ) → AreThoseThatFlowed (net_of behaviour w) rows marks → CoverChanges behaviour lasting w rows going
    cover_going rows flowed =
        let count = length-map w.primitives behaviour in
        record {
          one_each = kept.one_each ∙ flowed.one_each ∙ count;
          each = λ i d lt keeps flow.
              kept.kept i (ap (λ (xs : List Bool). get_or xs i false) are.keepers ∙ keeps_told w.primitives i d lt keeps) ∙ (flowed.each i (omega (arith, lt, count))).1 flow;
        }

    -- And of those with two sides just the marked ones are gone to.
    pub between_going : (knots : Knotted) (old new : Kept) → AreBetweenUnsettled (net_of behaviour w) knots going (length going) old new
        → AreBetweenUnsettled (net_of behaviour w) knots marks (length marks) old new
    between_going knots old new unsettled =
        let count = kept.one_each in
        record {
          fewer = unsettled.fewer;
          gone = λ i lt both. unsettled.gone i (omega (arith, count, lt))
              (kept.kept i (ap (λ (xs : List Bool). get_or xs i false) are.keepers ∙ two_told w.primitives i both.1) ∙ both.0, both.1);
          stay = λ k apart settled. unsettled.stay k (λ i lt both. apart i (omega (arith, count, lt)) (marked i both.0, both.1)) settled;
        }
      where
        marked : (i : ℕ) → get_or going i false ≡ true → get_or marks i false ≡ true
        marked i goes = elim (cases_Bool (get_or goers.keepers i false)) [
          | inl h ↦ sym (kept.kept i h) ∙ goes
          | inr h ↦ absurd (both_ways (get_or going i false) (kept.gone i h) goes)
        ]
