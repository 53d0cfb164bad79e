-- What an assignment hangs on: circuits of one shape that are alike on a closed set, with rows and items that agree there.
use Rattle.std.proofs.Common.{◌≡◌, ℕ, zero, suc, ◌+◌, ◌<◌, List, [], ◌∷◌, Option, None, Some, Bool, true, false, length, get_or, take, refl, ap, sym, ◌∙◌, arith}
use Rattle.std.specs.Option.{option_and_then}
use Rattle.std.specs.List.{flat_map}
use Rattle.std.proofs.lemmas.List.{length-append, take_all}
use Rattle.reo_values.specs.declared.value.Value.{Value}
use Rattle.reo_net_base.specs.declared.mark.Mark.TheVariants.{F}
use Rattle.reo_net_base.specs.declared.joint.End.{End}
use Rattle.reo_net_base.specs.declared.joint.Joint.{Joint}
use Rattle.reo_net_base.specs.Behaviour.{Behaviour}
use Rattle.reo_net_base.specs.Lawful.{SameShape, GivesAt}
use Rattle.reo_net_base.specs.Net.{Net, Side, all_sides, sides_of, first_side, behaviour_at, end_of, side_at, side_of_end, row_at, mark_at}
use Rattle.reo_net_base.specs.Colouring.{taken_at, given_at, lets_in, ItemFits}
use Rattle.reo_net_base.specs.Wired.{IsWired, IsEnd}
use Rattle.reo_net_laws.specs.Parts.{is_joint_inside, IsClosed, IsAssignment}
use Rattle.reo_net_laws.specs.Alike.{SameSide, AreAlike}
use Rattle.reo_net_laws.proofs.Sides.{side_count, side_is, Owner, owner_of, owner_side, side_at_place, row_is, same_side_at, side_in_range, row_in_table, gives_at}
use Rattle.reo_net_laws.proofs.Items.{given_same}

-- Circuits of one shape have the same sides.
tail : (b d : Behaviour) (bs ds : List Behaviour) → ((i : ℕ) → i < suc (length bs) → SameShape (behaviour_at (b ∷ bs) i) (behaviour_at (d ∷ ds) i)) → (i : ℕ) → i < length bs → SameShape (behaviour_at bs i) (behaviour_at ds i)
tail b d bs ds h i lt = h (suc i) (omega arith)

pub first_same : (bs ds : List Behaviour) → length ds ≡ length bs → ((i : ℕ) → i < length bs → SameShape (behaviour_at bs i) (behaviour_at ds i)) → (i : ℕ) → first_side ds i ≡ first_side bs i
first_same bs ds n h zero = refl
first_same [] [] n h (suc i) = refl
first_same [] (d ∷ ds) n h (suc i) = absurd (omega arith)
first_same (b ∷ bs) [] n h (suc i) = absurd (omega arith)
first_same (b ∷ bs) (d ∷ ds) n h (suc i) =
    omega (
      arith,
      length-append (sides_of d) (flat_map sides_of (take i ds)),
      length-append (sides_of b) (flat_map sides_of (take i bs)),
      side_count b,
      side_count d,
      (h zero (omega arith)).sides,
      first_same bs ds (omega arith) (tail b d bs ds h) i,
    )

pub all_is : (bs : List Behaviour) → length (all_sides bs) ≡ first_side bs (length bs)
all_is bs = ap (λ (xs : List Behaviour). length (flat_map sides_of xs)) (sym (take_all (length bs) bs (omega arith)))

pub fits_same : (net other : Net) (a b : List ℕ) (xs ys : List (Option Value)) (j : Joint) (o : Option Value) → mark_at other b j.giver ≡ mark_at net a j.giver
    → (mark_at net a j.giver ≡ F → given_at other b ys j.giver ≡ given_at net a xs j.giver) → ((item : Value) → lets_in other b j.taker item ≡ lets_in net a j.taker item)
    → ItemFits net a xs j o → ItemFits other b ys j o
fits_same net other a b xs ys j None m g l h = λ e. h (sym m ∙ e)
fits_same net other a b xs ys j (Some item) m g l h = record { flows = m ∙ h.flows; given = g h.flows ∙ h.given; let_in = l item ∙ h.let_in }

module _ (bs ds : List Behaviour) (js : List Joint) (wired : IsWired (record { primitives = bs; joints = js })) (inside : ℕ → Bool)
    (alike : AreAlike (record { primitives = bs; joints = js }) (record { primitives = ds; joints = js }) inside) where
  abbrev net : Net
  net = record { primitives = bs; joints = js }

  abbrev other : Net
  other = record { primitives = ds; joints = js }

  pub first_same_at : (i : ℕ) → first_side ds i ≡ first_side bs i
  first_same_at = first_same bs ds alike.count alike.shape

  pub sides_same : length (all_sides ds) ≡ length (all_sides bs)
  sides_same = all_is ds ∙ ap (first_side ds) alike.count ∙ first_same_at (length bs) ∙ sym (all_is bs)

  pub side_same : (e : End) → IsEnd bs e → side_at other e ≡ side_at net e
  unfolding side_at
  side_same e is = λ i. first_same_at e.primitive i + (alike.shape e.primitive is.0).side_of e.end i

  pub side_other : (k : ℕ) (o : Owner bs k) (d : Side) → get_or (all_sides ds) k d ≡ record { of = behaviour_at ds o.primitive; number = o.number }
  side_other k o d =
      let place : k ≡ first_side ds o.primitive + o.number = o.place ∙ ap (λ (f : ℕ). f + o.number) (sym (first_same_at o.primitive)) in
      rw place (side_is ds o.primitive o.number d (omega (arith, alike.count, o.primitive_in)) (rw ((alike.shape o.primitive o.primitive_in).sides) o.number_in))

  pub side_inside : (k : ℕ) (o : Owner bs k) → inside k ≡ true → SameSide (behaviour_at bs o.primitive) (behaviour_at ds o.primitive) o.number
  side_inside k o h = alike.sides o.primitive o.number o.primitive_in o.number_in (ap inside (sym o.place) ∙ h)

  module _ (closed : IsClosed net inside) (rows r : List ℕ) (items others : List (Option Value)) (is : IsAssignment net inside r others)
      (one_row : length rows ≡ length (all_sides bs)) (one_item : length items ≡ length js)
      (same_rows : (k : ℕ) → k < length (all_sides bs) → inside k ≡ true → get_or rows k 0 ≡ get_or r k 0)
      (same_items : (j : ℕ) (d : Joint) → j < length js → is_joint_inside net inside (get_or js j d) ≡ true → get_or items j None ≡ get_or others j None) where
    -- At an end of the set.
    module _ (e : End) (e_in : IsEnd bs e) (h : inside (side_at net e) ≡ true) where
      side : SameSide (behaviour_at bs e.primitive) (behaviour_at ds e.primitive) ((behaviour_at bs e.primitive).side_of e.end)
      side = alike.sides e.primitive ((behaviour_at bs e.primitive).side_of e.end) e_in.0 ((wired.lawful e.primitive e_in.0).sides_in e.end e_in.1) (ap inside (sym (side_at_place net e)) ∙ h)

      same_row : row_at other rows e ≡ row_at net r e
      same_row = row_is other rows e ∙ ap (λ (k : ℕ). get_or rows k 0) (side_same e e_in) ∙ same_rows (side_at net e) (side_in_range net wired e e_in) h ∙ sym (row_is net r e)

      in_table : row_at net r e < (behaviour_at bs e.primitive).rows ((behaviour_at bs e.primitive).side_of e.end)
      in_table = row_in_table net wired e e_in r (side_of_end net e) (is.in_tables (side_at net e) (side_of_end net e) (side_in_range net wired e e_in) h)

      same_mark : mark_at other rows e ≡ mark_at net r e
      unfolding mark_at
      same_mark = (λ i. (behaviour_at ds e.primitive).mark ((alike.shape e.primitive e_in.0).side_of e.end i) (same_row i) e.end) ∙ side.mark (row_at net r e) e.end in_table (e_in.1, refl)

      same_lets : (behaviour_at bs e.primitive).takes_in e.end ≡ true → (item : Value) → lets_in other rows e item ≡ lets_in net r e item
      unfolding lets_in
      same_lets takes item = (λ i. (behaviour_at ds e.primitive).passes ((alike.shape e.primitive e_in.0).side_of e.end i) (same_row i) e.end item) ∙ side.passes (row_at net r e) e.end item in_table (e_in.1, refl) takes

      same_way : GivesAt (behaviour_at bs e.primitive) ((behaviour_at bs e.primitive).side_of e.end) (row_at net r e) e.end → given_at other rows items e ≡ given_at net r items e
      unfolding given_at
      same_way gives =
          let b : Behaviour = behaviour_at bs e.primitive in
          let d : Behaviour = behaviour_at ds e.primitive in
          let taken : Option ℕ → Option Value = option_and_then (λ from. taken_at js items (end_of e.primitive from)) in
          (λ i. d.given ((alike.shape e.primitive e_in.0).side_of e.end i) (same_row i) e.end (taken (d.from ((alike.shape e.primitive e_in.0).side_of e.end i) (same_row i) e.end)))
          ∙ side.given (row_at net r e) e.end (taken (d.from (b.side_of e.end) (row_at net r e) e.end)) gives
          ∙ ap (λ (o : Option ℕ). b.given (b.side_of e.end) (row_at net r e) e.end (taken o)) (side.from (row_at net r e) e.end gives)

      same_given : (behaviour_at bs e.primitive).takes_in e.end ≡ false → mark_at net r e ≡ F → given_at other rows items e ≡ given_at net r others e
      same_given out flows =
          let gives = gives_at net wired e e_in r out in_table flows in
          same_way gives ∙ given_same net wired r items others e e_in one_item is.one_item gives (λ from k d from_in lt taker.
          same_items k d lt (closed.along k d lt ∙ ap (λ (x : End). inside (side_at net x)) taker ∙ ap inside (same_side_at net e from from_in) ∙ h))

    pub carried : IsAssignment other inside rows items
    carried = record {
      one_row = one_row ∙ sym sides_same;
      one_item = one_item;
      in_tables = λ k d lt h.
          let k_in : k < length (all_sides bs) = omega (arith, sides_same) in
          let o = owner_of bs k k_in in
          let below = rw (owner_side bs k o d) at (is.in_tables k d k_in h) in
          rw (side_other k o d, (side_inside k o h).rows, same_rows k k_in h) below;
      matched = λ j d lt h.
          let joint : Joint = get_or js j d in
          let g = ap inside (sym (side_same joint.giver (wired.givers j d lt))) ∙ h in
          rw (same_mark joint.giver (wired.givers j d lt) g, same_mark joint.taker (wired.takers j d lt) (sym (closed.along j d lt) ∙ g)) (is.matched j d lt g);
      items_fit = λ j d lt h.
          let joint : Joint = get_or js j d in
          let g = ap inside (sym (side_same joint.giver (wired.givers j d lt))) ∙ h in
          let t = sym (closed.along j d lt) ∙ g in
          rw (same_items j d lt g)
          (fits_same net other r rows others items joint (get_or others j None) (same_mark joint.giver (wired.givers j d lt) g) (same_given joint.giver (wired.givers j d lt) g (wired.gives j d lt))
          (same_lets joint.taker (wired.takers j d lt) t (wired.takes j d lt)) (is.items_fit j d lt g));
    }

-- A circuit is alike to itself.
pub alike_self : (net : Net) (inside : ℕ → Bool) → AreAlike net net inside
alike_self net inside = record {
  joints = refl;
  count = refl;
  shape = λ i lt. record { ends = refl; sides = refl; side_of = λ end. refl; takes_in = λ end. refl; leads = λ side. refl };
  sides = λ i side lt side_in h. record {
    rows = refl;
    mark = λ row end r is. refl;
    class = λ row turn r. refl;
    from = λ row end gives. refl;
    given = λ row end taken gives. refl;
    passes = λ row end item r is takes. refl;
  };
}

-- Rows and items that agree with an assignment on its closed set are one too.
pub agreeing : (net : Net) → IsWired net → (inside : ℕ → Bool) → IsClosed net inside → (rows r : List ℕ) (items others : List (Option Value)) → IsAssignment net inside r others
    → length rows ≡ length (all_sides net.primitives) → length items ≡ length net.joints
    → ((k : ℕ) → k < length (all_sides net.primitives) → inside k ≡ true → get_or rows k 0 ≡ get_or r k 0)
    → ((j : ℕ) (d : Joint) → j < length net.joints → is_joint_inside net inside (get_or net.joints j d) ≡ true → get_or items j None ≡ get_or others j None)
    → IsAssignment net inside rows items
agreeing net wired inside closed = carried net.primitives net.primitives net.joints wired inside (alike_self net inside) closed
