-- A circuit of which the first so many primitives have gone on.
use Rattle.std.proofs.Common.{◌≡◌, ◌≢◌, ◌∙◌, inl, inr, ℕ, zero, suc, ◌+◌, ◌<◌, ◌≤◌, true, false, List, [], ◌∷◌, ◌++◌, length, map, get_or, set, take, drop, ap, sym, subst, refl, arith, append-nil}
use Rattle.std.specs.Prelude.{Option, None, cond, ◌==◌}
use Rattle.std.specs.List.{position_or_len}
use Rattle.std.proofs.lemmas.Bool.{cases_Bool}
use Rattle.std.proofs.lemmas.List.{length-map, length-set, get_or-map, take_all, drop_all}
use Rattle.std.proofs.lemmas.List.FromFn.{get_or-map-range_with_len, length-map-range_with_len}
use Rattle.reo_values.specs.declared.value.Value.{Value}
use Rattle.reo_net_base.specs.declared.colouring.Chosen.{Chosen}
use Rattle.reo_net_base.specs.declared.joint.End.{End}
use Rattle.reo_net_base.specs.declared.joint.Joint.{Joint}
use Rattle.reo_net_base.specs.Behaviour.{Behaviour, nothing}
use Rattle.reo_net_base.specs.Colouring.{IsColouring}
use Rattle.reo_net_base.specs.Lasting.{Lasting}
use Rattle.reo_net_base.specs.Lawful.{IsQuiet}
use Rattle.reo_net_base.specs.Net.{Net, Wiring, net_of, behaviour_at, first_side, is_at}
use Rattle.reo_net_base.specs.Shapes.{SameShapes, SameNetShape}
use Rattle.reo_net_base.specs.Step.{all_chosen, all_taken, change_at, chosen_for, mouth_of, settled_list, stepped, taken_for}
use Rattle.reo_net_base.specs.Wired.{IsWired, IsEnd}
use Rattle.reo_net_laws.proofs.Shapes.{shapes_twice}
use Rattle.reo_net_circuit.specs.found_ends.Ends.{AreEnds, joint_at}
use Rattle.reo_net_circuit.proofs.ReshapeLemmas.{first_same}
use Rattle.reo_net_circuit.proofs.SettleLemmas.{rest_same, same_at, settled_more}
use Rattle.reo_net_circuit.proofs.ShapeLemmas.{mouth_same}
use Rattle.reo_net_circuit.proofs.StepLemmas.{taken_kept}
use Rattle.reo_flows.specs.stepping.Changes.{HasFlow}
use Rattle.reo_flows.specs.stepping.Clearing.{ComesNoItem, MayBeCleared}
use Rattle.reo_flows.proofs.stepping.QuietLemmas.{quiet_rows, nothing_taken}
use Rattle.reo_flows.proofs.stepping.StepLemmas.{change_is_set, change_none}

-- An item that goes.
pub none_at : (xs : List (Option Value)) (m j : ℕ) → get_or xs j None ≡ None → get_or (set xs m None) j None ≡ None
none_at [] m j h = h
none_at (x ∷ xs) zero zero h = refl
none_at (x ∷ xs) zero (suc j) h = h
none_at (x ∷ xs) (suc m) zero h = h
none_at (x ∷ xs) (suc m) (suc j) h = none_at xs m j h

-- Where items may be cleared at one place there are as many, and where there was none there is none.
cleared_count : (m : ℕ) (old new : List (Option Value)) → MayBeCleared m old new → length new ≡ length old
cleared_count m old new (inl same) = ap (λ (xs : List (Option Value)). length xs) same
cleared_count m old new (inr gone) = ap (λ (xs : List (Option Value)). length xs) gone ∙ length-set old m None

cleared_none : (m : ℕ) (old new : List (Option Value)) → MayBeCleared m old new → (j : ℕ) → get_or old j None ≡ None → get_or new j None ≡ None
cleared_none m old new (inl same) j h = ap (λ (xs : List (Option Value)). get_or xs j None) same ∙ h
cleared_none m old new (inr gone) j h = ap (λ (xs : List (Option Value)). get_or xs j None) gone ∙ none_at old m j h

-- Where an item may be taken out at the mouth of a primitive, another takes what it took.
cleared_taken : (net : Net) (n i : ℕ) (old new : List (Option Value)) → length old ≡ length net.joints → n ≢ i → MayBeCleared (mouth_of net n) old new → taken_for net new i ≡ taken_for net old i
cleared_taken net n i old new count apart (inl same) = ap (λ (xs : List (Option Value)). taken_for net xs i) same
cleared_taken net n i old new count apart (inr gone) = ap (λ (xs : List (Option Value)). taken_for net xs i) gone ∙ taken_kept net old n i count apart

some_of : {X : Type 0} → (xs : List X) (i : ℕ) → i < length xs → X
some_of [] i lt = absurd (omega arith)
some_of (x ∷ xs) i lt = x

-- The joints at the ends are those of each circuit of the same shape.
pub ends_kept : (old new : Net) → new.joints ≡ old.joints → SameShapes old.primitives new.primitives → (table : List (List ℕ)) → AreEnds old table → AreEnds new table
ends_kept old new joints shapes table are = record {
  one_list = are.one_list ∙ sym shapes.count;
  one_each = λ i lt. let i_in : i < length old.primitives = omega (arith, shapes.count) in are.one_each i i_in ∙ sym (shapes.same i i_in).ends;
  in_range = λ e e_in. subst (λ (js : List Joint). joint_at table e < length js) (sym joints) (are.in_range e (back e e_in));
  here = λ e d e_in. subst (λ (js : List Joint). is_at e (get_or js (joint_at table e) d) ≡ true) (sym joints) (are.here e d (back e e_in));
}
  where
    back : (e : End) → IsEnd new.primitives e → IsEnd old.primitives e
    back e e_in =
        let p_in : e.primitive < length old.primitives = omega (arith, e_in.0, shapes.count) in (
          p_in,
          subst (λ (n : ℕ). e.end < n) (shapes.same e.primitive p_in).ends e_in.1,
        )

no_chosen : Chosen
no_chosen = record { first = 0; second = 0 }

module _ {P : Type 0} (behaviour : P → Behaviour) where
  net_shape_same : (a : Wiring P) → SameNetShape behaviour a a
  net_shape_same a = record {
    joints = refl;
    ports = refl;
    primitives = record { count = refl; same = λ i lt. record { ends = refl; sides = refl; side_of = λ _. refl; takes_in = λ _. refl; leads = λ _. refl } };
  }

  pub net_shape_twice : (a b c : Wiring P) → SameNetShape behaviour a b → SameNetShape behaviour b c → SameNetShape behaviour a c
  net_shape_twice a b c f g = record {
    joints = g.joints ∙ f.joints;
    ports = g.ports ∙ f.ports;
    primitives = shapes_twice (map behaviour a.primitives) (map behaviour b.primitives) (map behaviour c.primitives) f.primitives g.primitives;
  }

  -- The rows of a primitive and the joint at its mouth are those of each circuit of the same shape.
  pub chosen_same : (a b : Wiring P) → SameNetShape behaviour a b → (rows : List ℕ) (i : ℕ) → i < length a.primitives → chosen_for (net_of behaviour b) rows i ≡ chosen_for (net_of behaviour a) rows i
  chosen_same a b s rows i lt =
      let first : first_side (map behaviour b.primitives) i ≡ first_side (map behaviour a.primitives) i = first_same (map behaviour a.primitives) (map behaviour b.primitives) s.primitives i in
      let n = length-map a.primitives behaviour in
      let sides = (s.primitives.same i (omega (arith, n, lt))).sides in
      λ t. record { first = get_or rows (first t) 0; second = cond (sides t == 2) (get_or rows (first t + 1) 0) 0 }

  pub mouth_stays : (a b : Wiring P) → SameNetShape behaviour a b → (i : ℕ) → i < length a.primitives → mouth_of (net_of behaviour b) i ≡ mouth_of (net_of behaviour a) i
  mouth_stays a b s i lt =
      let n = length-map a.primitives behaviour in
      let test = mouth_same (behaviour_at (map behaviour a.primitives) i) (behaviour_at (map behaviour b.primitives) i) i (s.primitives.same i (omega (arith, n, lt))) in
      λ t. position_or_len (test t) (s.joints t)

  module _ (settled : P → Chosen → Option Value → P) (start : Wiring P) (rows : List ℕ) (from : List (Option Value)) where
    -- The first so many primitives have gone on, and their items are gone.
    pub record IsFar (n : ℕ) (w : Wiring P) (items : List (Option Value)) : Type 0 where
      pub shape : SameNetShape behaviour start w
      pub count : length items ≡ length start.joints
      pub untaken : (i : ℕ) → n ≤ i → i < length start.primitives → taken_for (net_of behaviour start) items i ≡ taken_for (net_of behaviour start) from i
      pub unsettled : drop n w.primitives ≡ drop n start.primitives
      pub whole : take n w.primitives ++ settled_list settled (drop n start.primitives) (drop n (all_chosen (net_of behaviour start) rows)) (drop n (all_taken (net_of behaviour start) from))
          ≡ settled_list settled start.primitives (all_chosen (net_of behaviour start) rows) (all_taken (net_of behaviour start) from)
      pub none : ComesNoItem from items

    pub same_count : (w : Wiring P) → SameNetShape behaviour start w → length w.primitives ≡ length start.primitives
    same_count w s = sym (length-map w.primitives behaviour) ∙ s.primitives.count ∙ length-map start.primitives behaviour

    -- What one primitive takes and by which rows it goes on, in the circuit as it is and as it was.
    chosen_at : (n : ℕ) (w : Wiring P) (items : List (Option Value)) → n < length start.primitives → IsFar n w items
        → chosen_for (net_of behaviour w) rows n ≡ get_or (all_chosen (net_of behaviour start) rows) n no_chosen
    chosen_at n w items lt far =
        let net : Net = net_of behaviour start in
        let bs = length-map start.primitives behaviour in
        chosen_same start w far.shape rows n lt
        ∙ sym (get_or-map-range_with_len {X = Chosen} (chosen_for net rows) 0 (length net.primitives) n n no_chosen (omega (arith, bs, lt)) (omega arith))

    taken_is : (n : ℕ) (w : Wiring P) (items : List (Option Value)) → n < length start.primitives → IsFar n w items
        → taken_for (net_of behaviour w) items n ≡ taken_for (net_of behaviour start) from n
    taken_is n w items lt far = ap (λ (m : ℕ). get_or items m None) (mouth_stays start w far.shape n lt) ∙ far.untaken n (omega arith) lt

    taken_there : (n : ℕ) (w : Wiring P) (items : List (Option Value)) → n < length start.primitives → IsFar n w items
        → taken_for (net_of behaviour w) items n ≡ get_or (all_taken (net_of behaviour start) from) n None
    taken_there n w items lt far =
        let net : Net = net_of behaviour start in
        let bs = length-map start.primitives behaviour in
        taken_is n w items lt far
        ∙ sym (get_or-map-range_with_len {X = Option Value} (taken_for net from) 0 (length net.primitives) n n None (omega (arith, bs, lt)) (omega arith))

    -- None has gone on yet.
    pub far_none : length from ≡ length start.joints → IsFar 0 start from
    far_none count = record {
      shape = net_shape_same start;
      count = count;
      untaken = λ i le lt. refl;
      unsettled = refl;
      whole = refl;
      none = record { count = refl; none = λ j h. h };
    }

    -- One more goes on.
    pub far_more : (n : ℕ) (w next : Wiring P) (items others : List (Option Value)) → n < length start.primitives → IsFar n w items
        → next ≡ record w { primitives = change_at (λ p. settled p (chosen_for (net_of behaviour w) rows n) (taken_for (net_of behaviour w) items n)) w.primitives n }
        → SameNetShape behaviour w next → MayBeCleared (mouth_of (net_of behaviour w) n) items others → IsFar (n + 1) next others
    far_more n w next items others lt far is shape rest =
        let net : Net = net_of behaviour start in
        let bs = length-map start.primitives behaviour in
        let d : P = some_of start.primitives n lt in
        let chosen : List Chosen = all_chosen net rows in
        let taken : List (Option Value) = all_taken net from in
        let f : P → P = λ p. settled p (chosen_for (net_of behaviour w) rows n) (taken_for (net_of behaviour w) items n) in
        let value : f (get_or w.primitives n d) ≡ settled (get_or start.primitives n d) (get_or chosen n no_chosen) (get_or taken n None) =
        (λ t. settled (same_at w.primitives start.primitives n d far.unsettled t) (chosen_at n w items lt far t) (taken_there n w items lt far t)) in
        let made : next.primitives ≡ set w.primitives n (settled (get_or start.primitives n d) (get_or chosen n no_chosen) (get_or taken n None)) =
        ap (λ (v : Wiring P). v.primitives) is ∙ change_is_set f w.primitives n d ∙ ap (set w.primitives n) value in
        let cleared : MayBeCleared (mouth_of net n) items others = subst (λ (m : ℕ). MayBeCleared m items others) (mouth_stays start w far.shape n lt) rest in
        let size = same_count w far.shape in
        record {
          shape = net_shape_twice start w next far.shape shape;
          count = cleared_count (mouth_of net n) items others cleared ∙ far.count;
          untaken = λ i le i_in. cleared_taken net n i items others far.count (omega arith) cleared ∙ far.untaken i (omega arith) i_in;
          unsettled = ap (drop (n + 1)) made ∙ rest_same w.primitives start.primitives n (settled (get_or start.primitives n d) (get_or chosen n no_chosen) (get_or taken n None)) far.unsettled;
          whole = ap (λ (ps : List P). take (n + 1) ps ++ settled_list settled (drop (n + 1) start.primitives) (drop (n + 1) chosen) (drop (n + 1) taken)) made
              ∙ settled_more settled w.primitives start.primitives chosen taken n d no_chosen None (omega (arith, size, lt)) lt
              (omega (arith, bs, lt, length-map-range_with_len {X = Chosen} (chosen_for net rows) 0 (length net.primitives)))
              (omega (arith, bs, lt, length-map-range_with_len {X = Option Value} (taken_for net from) 0 (length net.primitives)))
              ∙ far.whole;
          none = record {
            count = cleared_count (mouth_of net n) items others cleared ∙ far.none.count;
            none = λ j h. cleared_none (mouth_of net n) items others cleared j (far.none.none j h);
          };
        }

    -- All have gone on.
    pub far_all : (n : ℕ) (w : Wiring P) (items : List (Option Value)) → n ≡ length start.primitives → IsFar n w items → w ≡ record start { primitives = stepped behaviour settled start rows from }
    far_all n w items last far =
        let size = same_count w far.shape in
        let net : Net = net_of behaviour start in
        let whole : w.primitives ≡ stepped behaviour settled start rows from =
        ended n last (omega (arith, size, last)) ∙ far.whole in
        λ t. record { primitives = whole t; ports = far.shape.ports t; joints = far.shape.joints t }
      where
        ended : (k : ℕ) → k ≡ length start.primitives → length w.primitives ≤ k
            → w.primitives ≡ take k w.primitives ++ settled_list settled (drop k start.primitives) (drop k (all_chosen (net_of behaviour start) rows)) (drop k (all_taken (net_of behaviour start) from))
        ended k at le =
            let rest : drop k start.primitives ≡ [] = drop_all k start.primitives (omega (arith, at)) in
            sym (append-nil w.primitives) ∙ ap (λ (ps : List P). ps ++ []) (sym (take_all k w.primitives le))
            ∙ ap (λ (qs : List P). take k w.primitives ++ settled_list settled qs (drop k (all_chosen (net_of behaviour start) rows)) (drop k (all_taken (net_of behaviour start) from))) (sym rest)

    module _ (lasting : P → Lasting) (quiet : (p : P) (r : Chosen) → IsQuiet (behaviour p) r → settled p r None ≡ p)
        (keeps_nothing : (p : P) (r : Chosen) (taken : Option Value) → (lasting p).keeps ≡ false → settled p r taken ≡ p)
        (wired : IsWired (net_of behaviour start)) (is : IsColouring (net_of behaviour start) rows from) where
      -- One that keeps nothing stays as it is.
      bare_stays : (n : ℕ) (w : Wiring P) (items : List (Option Value)) (d : P) → IsFar n w items → (lasting (get_or start.primitives n d)).keeps ≡ false
          → change_at (λ p. settled p (chosen_for (net_of behaviour w) rows n) (taken_for (net_of behaviour w) items n)) w.primitives n ≡ w.primitives
      bare_stays n w items d far bare =
          let f : P → P = λ q. settled q (chosen_for (net_of behaviour w) rows n) (taken_for (net_of behaviour w) items n) in
          let same : get_or w.primitives n d ≡ get_or start.primitives n d = same_at w.primitives start.primitives n d far.unsettled in
          change_none f w.primitives n d
          (ap f same ∙ keeps_nothing (get_or start.primitives n d) (chosen_for (net_of behaviour w) rows n) (taken_for (net_of behaviour w) items n) bare ∙ sym same)

      -- One of which no end flows stays as it is.
      still_stays : (n : ℕ) (w : Wiring P) (items : List (Option Value)) → n < length start.primitives → IsFar n w items → (HasFlow (net_of behaviour start) rows n → ⊥)
          → change_at (λ p. settled p (chosen_for (net_of behaviour w) rows n) (taken_for (net_of behaviour w) items n)) w.primitives n ≡ w.primitives
      still_stays n w items lt far still =
          let net : Net = net_of behaviour start in
          let bs = length-map start.primitives behaviour in
          let n_in : n < length net.primitives = omega (arith, bs, lt) in
          let d : P = some_of start.primitives n lt in
          let p : P = get_or start.primitives n d in
          let same : get_or w.primitives n d ≡ p = same_at w.primitives start.primitives n d far.unsettled in
          let behaves : behaviour_at net.primitives n ≡ behaviour p = get_or-map behaviour start.primitives n d nothing lt in
          let rests : IsQuiet (behaviour p) (chosen_for net rows n) = subst (λ (b : Behaviour). IsQuiet b (chosen_for net rows n)) behaves (quiet_rows net rows from wired is n n_in still) in
          let none : taken_for (net_of behaviour w) items n ≡ None = taken_is n w items lt far ∙ nothing_taken net rows from wired is n still in
          change_none (λ q. settled q (chosen_for (net_of behaviour w) rows n) (taken_for (net_of behaviour w) items n)) w.primitives n d
          ((λ t. settled (same t) (chosen_same start w far.shape rows n lt t) (none t)) ∙ quiet p (chosen_for net rows n) rests ∙ sym same)

      -- One stays that keeps nothing or of which no end flows.
      stays_at : (n : ℕ) (w : Wiring P) (items : List (Option Value)) (d : P) → n < length start.primitives → IsFar n w items
          → ((lasting (get_or start.primitives n d)).keeps ≡ true → HasFlow (net_of behaviour start) rows n → ⊥)
          → change_at (λ p. settled p (chosen_for (net_of behaviour w) rows n) (taken_for (net_of behaviour w) items n)) w.primitives n ≡ w.primitives
      stays_at n w items d lt far still = elim (cases_Bool (lasting (get_or start.primitives n d)).keeps) [
        | inl keeps ↦ still_stays n w items lt far (still keeps)
        | inr bare ↦ bare_stays n w items d far bare
      ]

      -- So those have gone on too, up to a place, among which none that keeps something flows.
      pub far_over : (gap n m : ℕ) (w : Wiring P) (items : List (Option Value)) → n + gap ≡ m → m ≤ length start.primitives
          → ((k : ℕ) (d : P) → n ≤ k → k < m → (lasting (get_or start.primitives k d)).keeps ≡ true → HasFlow (net_of behaviour start) rows k → ⊥) → IsFar n w items → IsFar m w items
      far_over zero n m w items e le still far = let same : n ≡ m = omega arith in subst (λ (k : ℕ). IsFar k w items) same far
      far_over (suc gap) n m w items e le still far =
          let lt : n < length start.primitives = omega arith in
          let d : P = some_of start.primitives n lt in
          let stays = stays_at n w items d lt far (still n d (omega arith) (omega arith)) in
          far_over gap (n + 1) m w items (omega arith) le (λ k e low high. still k e (omega arith) high)
          (far_more n w w items items lt far (ap (λ (ps : List P). record w { primitives = ps }) (sym stays)) (net_shape_same w) (inl refl))
