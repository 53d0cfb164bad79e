-- What the giver of a joint gives, by what feeds the joint, and putting it there.
use Rattle.std.proofs.Common.{◌≡◌, ◌∙◌, ℕ, ◌<◌, true, false, List, [], ◌∷◌, ◌++◌, length, get_or, set, refl, ap, sym, subst, arith}
use Rattle.std.specs.Prelude.{Option, Some, None}
use Rattle.std.proofs.lemmas.List.{get_or-set_other, get_or-set_same, get_or_default, length-set}
use Rattle.reo_values.specs.declared.value.Value.{Value}
use Rattle.reo_net_base.specs.declared.mark.Mark.TheVariants.{F}
use Rattle.reo_net_base.specs.declared.joint.End.{End}
use Rattle.reo_net_base.specs.declared.joint.Joint.{Joint}
use Rattle.reo_net_base.specs.Behaviour.{Behaviour, IsEndOf}
use Rattle.reo_net_base.specs.Colouring.{given_at, taken_at}
use Rattle.reo_net_base.specs.Lasting.{Lasting, GivesFront, GivesWhatItTakes}
use Rattle.reo_net_base.specs.Lawful.{GivesAt}
use Rattle.reo_net_base.specs.Net.{Net, Side, all_sides, behaviour_at, end_of, mark_at, no_side, row_at, side_at, side_of_end}
use Rattle.reo_net_base.specs.Sides.{AreRowsOf}
use Rattle.reo_net_base.specs.Wired.{IsWired}
use Rattle.reo_net_laws.specs.Ends.{mark_in, from_in, IsSource}
use Rattle.reo_net_laws.proofs.Joined.{source_taken}
use Rattle.reo_net_laws.proofs.Sides.{gives_at, row_below, row_in_table, side_at_is, side_in_range}
use Rattle.reo_net_laws.proofs.Items.{taken_one}
use Rattle.reo_net.proofs.colouring.ItemLemmas.{given_none, given_some}
use Rattle.reo_joint_values.specs.Standing.{giver_of, no_joint, taker_of}
use Rattle.reo_round.specs.Feeds.{GoesAlone, GoesTo, NoneGoes}
use Rattle.reo_round.specs.Filling.{IsPut}

module _ (net : Net) (wired : IsWired net) (rows : List ℕ) (are : AreRowsOf net rows) (j : ℕ) (j_in : j < length net.joints) (flows : mark_at net rows (giver_of net j) ≡ F) where
  abbrev e : End
  e = giver_of net j

  abbrev b : Behaviour
  b = behaviour_at net.primitives e.primitive

  abbrev side : ℕ
  side = b.side_of e.end

  abbrev row : ℕ
  row = row_at net rows e

  below : row < b.rows side
  below = row_in_table net wired e (wired.givers j no_joint j_in) rows no_side (row_below (all_sides net.primitives) rows are (side_at net e) no_side (side_in_range net wired e (wired.givers j no_joint j_in)))

  gives : GivesAt b side row e.end
  gives = gives_at net wired e (wired.givers j no_joint j_in) rows (wired.gives j no_joint j_in) below flows

  -- Where an end decides, a joint goes there.
  source : (from : ℕ) → b.from side row e.end ≡ Some from → (k : ℕ) × IsSource net row e from k
  unfolding mark_at mark_in from_in
  source from is = source_taken net wired j row from no_joint j_in below flows is

  source_goes : (from k : ℕ) → IsSource net row e from k → GoesTo net (length net.joints) (side_at net e) k
  source_goes from k is = (is.in_range, ap (side_at net) (is.taker no_joint) ∙ is.same_side)

  -- A joint that goes to the side goes to an end of it that takes in.
  taker_in : (k : ℕ) → GoesTo net (length net.joints) (side_at net e) k → IsEndOf b side (taker_of net k).end × (b.takes_in (taker_of net k).end ≡ true)
  taker_in k goes =
      let t : End = taker_of net k in
      let t_in = wired.takers k no_joint goes.0 in
      let same : side_of_end net t ≡ side_of_end net e =
      sym (side_at_is net wired t t_in no_side) ∙ ap (λ (s : ℕ). get_or (all_sides net.primitives) s no_side) goes.1 ∙ side_at_is net wired e (wired.givers j no_joint j_in) no_side in
      subst (λ (s : Side). IsEndOf s.of s.number t.end × (s.of.takes_in t.end ≡ true)) same ((t_in.1, refl), wired.takes k no_joint goes.0)

  -- By the state, where no joint goes to the side.
  pub given_front : (items : List (Option Value)) → NoneGoes net (length net.joints) (side_at net e) → (front : Option Value) → GivesFront front b → (item : Value) → front ≡ Some item → given_at net rows items e ≡ Some item
  given_front items nothing front law item is =
      elim (b.from side row e.end) as (λ o. b.from side row e.end ≡ o → given_at net rows items e ≡ Some item) [
        | None ↦ λ none. given_none net rows items e none ∙ law side row e.end item None is gives none
        | Some from ↦ λ some. let found = source from some in absurd (nothing found.0 (source_goes from found.0 found.1))
      ] refl

  -- The item at the one joint that goes to the side, where the primitive carries.
  pub given_fed : (items : List (Option Value)) → length items ≡ length net.joints → (k : ℕ) → GoesAlone net (length net.joints) (side_at net e) k
      → (lasting : Lasting) → GivesWhatItTakes lasting b → lasting.carries ≡ true → (item : Value) → get_or items k None ≡ Some item → given_at net rows items e ≡ Some item
  given_fed items count k one lasting law carries item there =
      elim (b.from side row e.end) as (λ o. b.from side row e.end ≡ o → given_at net rows items e ≡ Some item) [
        | None ↦ λ none.
            let taker = taker_in k one.goes in
            let not : b.takes_in (taker_of net k).end ≡ false = (wired.lawful e.primitive (wired.givers j no_joint j_in).0).from_none side row e.end (taker_of net k).end gives none taker.0 in
            absurd (let wrong : false ≡ true = sym not ∙ taker.1 in cc)
        | Some from ↦ λ some.
            let found = source from some in
            let is = found.1 in
            let taken : taken_at net.joints items (end_of e.primitive from) ≡ Some item =
            taken_one net.joints items (end_of e.primitive from) found.0 no_joint count is.in_range (is.taker no_joint) is.only
            ∙ ap (λ (m : ℕ). get_or items m None) (one.alone found.0 (source_goes from found.0 is)) ∙ there in
            given_some net rows items e from some ∙ ap (b.given side row e.end) taken ∙ law side row e.end from item carries gives some
      ] refl

-- An item is put, and its joint noted.
pub put_is : (net : Net) (rows : List ℕ) (j : ℕ) (old new : List (Option Value)) (before now : List ℕ) → j < length net.joints → length old ≡ length net.joints
    → new ≡ set old j (given_at net rows old (giver_of net j)) → now ≡ before ++ j ∷ [] → IsPut net rows j old new before now
put_is net rows j old new before now lt count is more = record {
  count = ap (λ (xs : List (Option Value)). length xs) is ∙ length-set old j (given_at net rows old (giver_of net j));
  others = λ k ne. ap (λ (xs : List (Option Value)). get_or xs k None) is ∙ get_or-set_other old j k (given_at net rows old (giver_of net j)) None ne;
  noted_is = more;
  item = λ d.
      ap (λ (xs : List (Option Value)). get_or xs j None) is ∙ get_or-set_same old j (given_at net rows old (giver_of net j)) None (omega (arith, lt, count))
      ∙ ap (λ (x : Joint). given_at net rows old x.giver) (get_or_default net.joints j no_joint d lt);
}
