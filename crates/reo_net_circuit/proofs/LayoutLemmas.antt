-- The tables of a circuit, a primitive at a time.
use Rattle.std.proofs.Common.{◌≡◌, inl, inr, ℕ, ◌+◌, ◌-◌, ◌<◌, List, [], ◌∷◌, ◌++◌, length, map, get_or, refl, sym, ◌∙◌, arith, below_more}
use Rattle.std.proofs.lemmas.Bool.{cases_lt}
use Rattle.std.specs.List.{range_with_len}
use Rattle.std.proofs.Math.Seq.{get_or-append_seam}
use Rattle.std.proofs.lemmas.List.{length-append, get_or_append_left, get_or-append_right, get_or_default}
use Rattle.std.proofs.lemmas.List.FromFn.{get_or-map-range_with_len, length-map-range_with_len}
use Rattle.reo_net_circuit.specs.declared.layout.SideOwner.{SideOwner}
use Rattle.reo_net_base.specs.Behaviour.{Behaviour}
use Rattle.reo_net_base.specs.Net.{first_side, behaviour_at}
use Rattle.reo_net_circuit.specs.Layout.{AreOwners, AreFirsts, side_owner_at}
use Rattle.reo_net_circuit.proofs.Sides.{first_more}

-- An owner that was there, or a new one.
data Found (owners : List SideOwner) (p n k : ℕ) (there : SideOwner) : Type 0 where
  old : k < length owners → ((d : SideOwner) → get_or owners k d ≡ there) → Found owners p n k there
  new : (s : ℕ) → s < n → k ≡ length owners + s → there ≡ side_owner_at p s → Found owners p n k there

find : (owners : List SideOwner) (p n k : ℕ) (d : SideOwner) → k < length (owners ++ map (side_owner_at p) (range_with_len 0 n)) → Found owners p n k (get_or (owners ++ map (side_owner_at p) (range_with_len 0 n)) k d)
find owners p n k d lt =
    let added : List SideOwner = map (side_owner_at p) (range_with_len 0 n) in
    elim (cases_lt k (length owners)) [
      | inl h ↦ old h (λ e. get_or_default owners k e d h ∙ sym (get_or_append_left owners added d k h))
      | inr h ↦
          let s_in : k - length owners < n = omega (arith, lt, length-append owners added, length-map-range_with_len {X = SideOwner} (side_owner_at p) 0 n) in
          new (k - length owners) s_in (omega arith)
          (get_or-append_right owners added (length owners) k d refl h ∙ get_or-map-range_with_len {X = SideOwner} (side_owner_at p) 0 n (k - length owners) (k - length owners) d s_in (omega arith))
    ]

module _ (bs : List Behaviour) (owners : List SideOwner) (are : AreOwners bs owners) (p n : ℕ) (p_in : p < length bs) (here : length owners ≡ first_side bs p) (sides : n ≡ (behaviour_at bs p).sides) where
  in_from : (k : ℕ) (there : SideOwner) → Found owners p n k there → there.primitive < length bs
  in_from k there (old h same) = rw (same there) at (are.owner_in k there h)
  in_from k there (new s s_in at is) = rw is p_in

  side_from : (k : ℕ) (there : SideOwner) → Found owners p n k there → there.side < (behaviour_at bs there.primitive).sides
  side_from k there (old h same) = rw (same there) at (are.owner_side k there h)
  side_from k there (new s s_in at is) = rw is (omega (arith, s_in, sides))

  place_from : (k : ℕ) (there : SideOwner) → Found owners p n k there → k ≡ first_side bs there.primitive + there.side
  place_from k there (old h same) = rw (same there) at (are.owner k there h)
  place_from k there (new s s_in at is) = rw is (omega (arith, at, here))

  pub owners_add : AreOwners bs (owners ++ map (side_owner_at p) (range_with_len 0 n))
  owners_add = record {
    owner_in = λ k d lt. in_from k (get_or (owners ++ map (side_owner_at p) (range_with_len 0 n)) k d) (find owners p n k d lt);
    owner_side = λ k d lt. side_from k (get_or (owners ++ map (side_owner_at p) (range_with_len 0 n)) k d) (find owners p n k d lt);
    owner = λ k d lt. place_from k (get_or (owners ++ map (side_owner_at p) (range_with_len 0 n)) k d) (find owners p n k d lt);
  }

  pub owners_count : length (owners ++ map (side_owner_at p) (range_with_len 0 n)) ≡ first_side bs (p + 1)
  owners_count = omega (arith, length-append owners (map (side_owner_at p) (range_with_len 0 n)), length-map-range_with_len {X = SideOwner} (side_owner_at p) 0 n, first_more bs p p_in, here, sides)

pub firsts_push : (bs : List Behaviour) (firsts : List ℕ) (n f : ℕ) → AreFirsts bs firsts n → f ≡ first_side bs n → AreFirsts bs (firsts ++ f ∷ []) (n + 1)
firsts_push bs firsts n f are is = record {
  length_is = omega (arith, length-append firsts (f ∷ []), are.length_is);
  first = λ i d lt. below_more (λ k. get_or (firsts ++ f ∷ []) k d ≡ first_side bs k) n
      (λ k h. rw (get_or_append_left firsts (f ∷ []) d k (omega (arith, are.length_is))) (are.first k d h))
      (rw are.length_is at (get_or-append_seam firsts f [] d) ∙ is) i lt;
}
