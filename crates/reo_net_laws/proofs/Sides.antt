-- Where sides and their rows stand.
use Rattle.std.proofs.Common.{◌≡◌, inl, inr, ℕ, zero, suc, ◌+◌, ◌-◌, ◌*◌, ◌<◌, ◌≤◌, List, [], ◌∷◌, ◌++◌, false, length, get_or, take, refl, ap, ◌∙◌, arith, add-one, length-append}
use Rattle.std.specs.List.{flat_map}
use Rattle.std.proofs.lemmas.Grind.{flat_map-append}
use Rattle.std.proofs.lemmas.List.{take_more}
use Rattle.std.proofs.lemmas.List.Concat.{get_or-flat_map}
use Rattle.std.proofs.lemmas.List.Folds.{length-flat_map-take}
use Rattle.std.proofs.lemmas.List.FromFn.{get_or-map-range_with_len, length-map-range_with_len}
use Rattle.std.proofs.lemmas.Bool.{cases_lt}
use Rattle.reo_net_base.specs.declared.joint.End.{End}
use Rattle.reo_net_base.specs.declared.mark.Mark.TheVariants.{F}
use Rattle.reo_net_base.specs.Behaviour.{Behaviour, nothing, IsEndOf}
use Rattle.reo_net_base.specs.Lawful.{GivesAt, IsLawful}
use Rattle.reo_net_base.specs.Net.{Net, Side, all_sides, sides_of, first_side, behaviour_at, row_count, end_of, side_at, side_of_end, row_at, mark_at}
use Rattle.reo_net_base.specs.Colouring.{AreRows}
use Rattle.reo_net_base.specs.Wired.{IsWired, IsEnd}

-- One row for each side, by the number of the side.
pub rows_length : (ss : List Side) (rs : List ℕ) → AreRows ss rs → length rs ≡ length ss
rows_length [] [] h = refl
rows_length [] (r ∷ rs) h = absurd h
rows_length (s ∷ ss) [] h = absurd h
rows_length (s ∷ ss) (r ∷ rs) h = ap suc (rows_length ss rs h.1)

pub row_below : (ss : List Side) (rs : List ℕ) → AreRows ss rs → (k : ℕ) (d : Side) → k < length ss → get_or rs k 0 < row_count (get_or ss k d)
row_below [] rs h k d lt = absurd (omega arith)
row_below (s ∷ ss) [] h k d lt = absurd h
row_below (s ∷ ss) (r ∷ rs) h zero d lt = h.0
row_below (s ∷ ss) (r ∷ rs) h (suc k) d lt = row_below ss rs h.1 k d (omega arith)

pub are_rows : (ss : List Side) (rs : List ℕ) → length rs ≡ length ss → ((k : ℕ) (d : Side) → k < length ss → get_or rs k 0 < row_count (get_or ss k d)) → AreRows ss rs
are_rows [] [] n h = tt
are_rows [] (r ∷ rs) n h = absurd (omega arith)
are_rows (s ∷ ss) [] n h = absurd (omega arith)
are_rows (s ∷ ss) (r ∷ rs) n h = (h zero s (omega arith), are_rows ss rs (omega arith) (λ k d lt. h (suc k) d (omega arith)))

-- The sides of one primitive.
pub side_count : (b : Behaviour) → length (sides_of b) ≡ b.sides
side_count b = length-map-range_with_len {X = Side} (λ k. record { of = b; number = k }) 0 b.sides

pub side_in : (bs : List Behaviour) (i s : ℕ) → i < length bs → s < (behaviour_at bs i).sides → first_side bs i + s < length (all_sides bs)
side_in bs i s i_in s_in = omega (arith, length-flat_map-take sides_of bs i nothing i_in, side_count (behaviour_at bs i))

pub side_is : (bs : List Behaviour) (i s : ℕ) (d : Side) → i < length bs → s < (behaviour_at bs i).sides → get_or (all_sides bs) (first_side bs i + s) d ≡ record { of = behaviour_at bs i; number = s }
side_is bs i s d i_in s_in =
    get_or-flat_map sides_of bs i s nothing d i_in (omega (arith, side_count (behaviour_at bs i)))
    ∙ get_or-map-range_with_len {X = Side} (λ k. record { of = behaviour_at bs i; number = k }) 0 (behaviour_at bs i).sides s s d s_in (omega arith)

-- The sides of a primitive stand before those of a later one.
pub first_more : (bs : List Behaviour) (p : ℕ) → p < length bs → first_side bs (p + 1) ≡ first_side bs p + (behaviour_at bs p).sides
first_more bs p lt =
    rw (take_more bs p nothing lt, flat_map-append sides_of (take p bs) (get_or bs p nothing ∷ []))
    (omega (
      arith,
      length-append (flat_map sides_of (take p bs)) (flat_map sides_of (get_or bs p nothing ∷ [])),
      length-append (sides_of (get_or bs p nothing)) [],
      side_count (behaviour_at bs p),
    ))

pub first_before : (bs : List Behaviour) (k n : ℕ) → k < n → n ≤ length bs → first_side bs k + (behaviour_at bs k).sides ≤ first_side bs n
first_before bs k zero lt le = absurd (omega arith)
first_before bs k (suc n) lt le =
    let more : first_side bs (suc n) ≡ first_side bs n + (behaviour_at bs n).sides = rw add-one at (first_more bs n (omega (arith, le))) in
    elim (cases_lt k n) [
      | inl earlier ↦ omega (arith, more, first_before bs k n earlier (omega (arith, le)))
      | inr late ↦
          let same : k ≡ n = omega (arith, lt, late) in
          rw same (omega (arith, more))
    ]

-- A primitive has at most two.
pub sides_few : (bs : List Behaviour) → ((i : ℕ) → i < length bs → IsLawful (behaviour_at bs i)) → length (all_sides bs) ≤ 2 * length bs
sides_few [] law = omega arith
sides_few (b ∷ bs) law =
    let rest = sides_few bs (λ i lt. law (suc i) (omega (arith, lt))) in
    let own = (law zero (omega arith)).few_sides in
    omega (arith, rest, own, side_count b, length-append (sides_of b) (all_sides bs))

-- Each side is a side of a primitive.
pub record Owner (bs : List Behaviour) (k : ℕ) : Type 0 where
  pub primitive : ℕ
  pub number : ℕ
  pub primitive_in : primitive < length bs
  pub number_in : number < (behaviour_at bs primitive).sides
  pub place : k ≡ first_side bs primitive + number

pub owner_of : (bs : List Behaviour) (k : ℕ) → k < length (all_sides bs) → Owner bs k
owner_of [] k lt = absurd (omega arith)
owner_of (b ∷ bs) k lt =
    let count = side_count b in
    let total = length-append (sides_of b) (all_sides bs) in
    elim (cases_lt k b.sides) [
      | inl here ↦ record { primitive = 0; number = k; primitive_in = omega arith; number_in = here; place = omega arith }
      | inr there ↦
          let o = owner_of bs (k - b.sides) (omega arith) in
          let first : length (sides_of b ++ flat_map sides_of (take o.primitive bs)) ≡ length (sides_of b) + length (flat_map sides_of (take o.primitive bs)) = length-append (sides_of b) (flat_map sides_of (take o.primitive bs)) in
          record { primitive = suc o.primitive; number = o.number; primitive_in = omega (arith, o.primitive_in); number_in = o.number_in; place = omega (arith, o.place) }
    ]

pub owner_side : (bs : List Behaviour) (k : ℕ) (o : Owner bs k) (d : Side) → get_or (all_sides bs) k d ≡ record { of = behaviour_at bs o.primitive; number = o.number }
owner_side bs k o d = rw o.place (side_is bs o.primitive o.number d o.primitive_in o.number_in)

-- What opens the words of a net.
pub side_at_place : (net : Net) (e : End) → side_at net e ≡ first_side net.primitives e.primitive + (behaviour_at net.primitives e.primitive).side_of e.end
unfolding side_at
side_at_place net e = refl

pub row_is : (net : Net) (rows : List ℕ) (e : End) → row_at net rows e ≡ get_or rows (side_at net e) 0
unfolding row_at
row_is net rows e = refl

-- An end of the same side.
pub same_side_at : (net : Net) (e : End) (from : ℕ) → IsEndOf (behaviour_at net.primitives e.primitive) ((behaviour_at net.primitives e.primitive).side_of e.end) from
    → side_at net (end_of e.primitive from) ≡ side_at net e
unfolding side_at
same_side_at net e from is = ap (λ (s : ℕ). first_side net.primitives e.primitive + s) is.1

-- The side of an end is one of the sides.
abbrev pub owner_at : (net : Net) → IsWired net → (e : End) → IsEnd net.primitives e → Owner net.primitives (side_at net e)
owner_at net wired e is = record {
  primitive = e.primitive;
  number = (behaviour_at net.primitives e.primitive).side_of e.end;
  primitive_in = is.0;
  number_in = (wired.lawful e.primitive is.0).sides_in e.end is.1;
  place = side_at_place net e;
}

module _ (net : Net) (wired : IsWired net) (e : End) (is : IsEnd net.primitives e) where
  pub side_in_range : side_at net e < length (all_sides net.primitives)
  side_in_range =
      let o = owner_at net wired e is in
      omega (arith, o.place, side_in net.primitives o.primitive o.number o.primitive_in o.number_in)

  pub side_at_is : (d : Side) → get_or (all_sides net.primitives) (side_at net e) d ≡ side_of_end net e
  side_at_is d = owner_side net.primitives (side_at net e) (owner_at net wired e is) d

  -- The row of an end is in the table of its side.
  pub row_in_table : (rows : List ℕ) (d : Side) → get_or rows (side_at net e) 0 < row_count (get_or (all_sides net.primitives) (side_at net e) d)
      → row_at net rows e < (behaviour_at net.primitives e.primitive).rows ((behaviour_at net.primitives e.primitive).side_of e.end)
  row_in_table rows d below = rw (row_is net rows e) (rw (side_at_is d) at below)

  -- An end that gives with flow.
  pub gives_at : (rows : List ℕ) → (behaviour_at net.primitives e.primitive).takes_in e.end ≡ false → row_at net rows e < (behaviour_at net.primitives e.primitive).rows ((behaviour_at net.primitives e.primitive).side_of e.end)
      → mark_at net rows e ≡ F → GivesAt (behaviour_at net.primitives e.primitive) ((behaviour_at net.primitives e.primitive).side_of e.end) (row_at net rows e) e.end
  unfolding mark_at
  gives_at rows gives below flows = record {
    of_side = (wired.lawful e.primitive is.0).sides_in e.end is.1;
    in_table = below;
    is_end = (is.1, refl);
    gives = gives;
    flows = flows;
  }
