-- Primitives of which no end flows stay.
use Rattle.std.proofs.Common.{◌≡◌, ◌∙◌, inl, inr, ℕ, zero, suc, ◌<◌, Bool, List, [], ◌∷◌, length, map, get_or, ap, sym, refl, arith}
use Rattle.std.proofs.lemmas.Bool.{cases_lt}
use Rattle.std.specs.Prelude.{Option, Some, None, slice_get}
use Rattle.std.proofs.lemmas.List.{length-map}
use Rattle.std.proofs.lemmas.List.FromFn.{get_or-map-range_with_len, length-map-range_with_len}
use Rattle.std.proofs.lemmas.Option.{slice_get_past}
use Rattle.reo_values.specs.declared.value.Value.{Value}
use Rattle.reo_net_base.specs.declared.colouring.Chosen.{Chosen}
use Rattle.reo_net_base.specs.Behaviour.{Behaviour}
use Rattle.reo_net_base.specs.Colouring.{IsColouring}
use Rattle.reo_net_base.specs.Lawful.{IsQuiet}
use Rattle.reo_net_base.specs.Net.{Net, Wiring, net_of, behaviour_at}
use Rattle.reo_net_base.specs.Step.{all_chosen, all_taken, chosen_for, settled_list, stepped, taken_for}
use Rattle.reo_net_base.specs.Wired.{IsWired}
use Rattle.reo_flows.specs.stepping.Changes.{AreThoseThatFlowed}
use Rattle.reo_flows.proofs.stepping.QuietLemmas.{IsStill, nothing_taken, quiet_rows}
use Rattle.reo_engine.specs.Changes.{OthersStay}

-- What settles to itself stays.
module _ {P : Type 0} (behaviour : P → Behaviour) (settled : P → Chosen → Option Value → P) (quiet : (p : P) (rows : Chosen) → IsQuiet (behaviour p) rows → settled p rows None ≡ p) where
  settled_stays : (ps : List P) (rows : List Chosen) (taken : List (Option Value)) (i : ℕ) (r : Chosen) → i < length ps → i < length rows → i < length taken
      → IsQuiet (behaviour_at (map behaviour ps) i) (get_or rows i r) → get_or taken i None ≡ None → slice_get (settled_list settled ps rows taken) i ≡ slice_get ps i
  settled_stays [] rows taken i r lt rows_lt taken_lt still none = absurd (omega arith)
  settled_stays (p ∷ ps) [] taken i r lt rows_lt taken_lt still none = absurd (omega arith)
  settled_stays (p ∷ ps) (c ∷ rows) [] i r lt rows_lt taken_lt still none = absurd (omega arith)
  settled_stays (p ∷ ps) (c ∷ rows) (t ∷ taken) zero r lt rows_lt taken_lt still none = ap Some (ap (settled p c) none ∙ quiet p c still)
  settled_stays (p ∷ ps) (c ∷ rows) (t ∷ taken) (suc i) r lt rows_lt taken_lt still none = settled_stays ps rows taken i r (omega arith) (omega arith) (omega arith) still none

  settled_count : (ps : List P) (rows : List Chosen) (taken : List (Option Value)) → length (settled_list settled ps rows taken) ≡ length ps
  settled_count [] rows taken = refl
  settled_count (p ∷ ps) [] taken = refl
  settled_count (p ∷ ps) (c ∷ rows) [] = refl
  settled_count (p ∷ ps) (c ∷ rows) (t ∷ taken) = ap suc (settled_count ps rows taken)

  pub stepped_count : (w : Wiring P) (rows : List ℕ) (items : List (Option Value)) → length (stepped behaviour settled w rows items) ≡ length w.primitives
  stepped_count w rows items = settled_count w.primitives (all_chosen (net_of behaviour w) rows) (all_taken (net_of behaviour w) items)

  still_stays : (w : Wiring P) (rows : List ℕ) (items : List (Option Value)) → IsWired (net_of behaviour w) → IsColouring (net_of behaviour w) rows items → (i : ℕ) → i < length w.primitives
      → IsStill (net_of behaviour w) rows i → slice_get (stepped behaviour settled w rows items) i ≡ slice_get w.primitives i
  still_stays w rows items wired is i lt still =
      let net : Net = net_of behaviour w in
      let count : length net.primitives ≡ length w.primitives = length-map w.primitives behaviour in
      let i_in : i < length net.primitives = omega arith in
      let d : Chosen = record { first = 0; second = 0 } in
      let chosen : get_or (all_chosen net rows) i d ≡ chosen_for net rows i = get_or-map-range_with_len {X = Chosen} (chosen_for net rows) 0 (length net.primitives) i i d i_in (omega arith) in
      let taken : get_or (all_taken net items) i None ≡ taken_for net items i = get_or-map-range_with_len {X = Option Value} (taken_for net items) 0 (length net.primitives) i i None i_in (omega arith) in
      settled_stays w.primitives (all_chosen net rows) (all_taken net items) i d lt
      (omega (arith, i_in, length-map-range_with_len {X = Chosen} (chosen_for net rows) 0 (length net.primitives)))
      (omega (arith, i_in, length-map-range_with_len {X = Option Value} (taken_for net items) 0 (length net.primitives)))
      (rw chosen (quiet_rows net rows items wired is i i_in still))
      (taken ∙ nothing_taken net rows items wired is i still)

  pub others_stay : (w after : Wiring P) (rows : List ℕ) (items : List (Option Value)) (marks : List Bool) → IsWired (net_of behaviour w) → IsColouring (net_of behaviour w) rows items
      → AreThoseThatFlowed (net_of behaviour w) rows marks → after ≡ record w { primitives = stepped behaviour settled w rows items } → OthersStay marks w.primitives after.primitives
  others_stay w after rows items marks wired is flowed step i not =
      let count : length (net_of behaviour w).primitives ≡ length w.primitives = length-map w.primitives behaviour in
      ap (λ (v : Wiring P). slice_get v.primitives i) step ∙ elim (cases_lt i (length w.primitives)) [
        | inl lt ↦ still_stays w rows items wired is i lt (λ flow. let mark = (flowed.each i (omega arith)).1 flow in absurd cc)
        | inr past ↦
            let same = stepped_count w rows items in
            slice_get_past (stepped behaviour settled w rows items) i (omega (arith, same)) ∙ sym (slice_get_past w.primitives i past)
      ]
