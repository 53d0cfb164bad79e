-- Values that went, and come back.
use Rattle.std.proofs.Common.{◌≡◌, inl, inr, ℕ, ◌<◌, ◌≤◌, ◌&&◌, ◌||◌, not, nat_lt, Bool, true, false, List, [], ◌∷◌, ◌++◌, length, get_or, drop, refl, ap, sym, ◌∙◌, subst, append_assoc, append-nil, length-append, arith}
use Rattle.std.specs.Bool.{◌==◌}
use Rattle.std.specs.List.{All}
use Rattle.std.proofs.lemmas.Bool.{cases_eq, cases_Bool, lt-ltb, eq-eqb, ne_eqb, cases_lt}
use Rattle.std.proofs.lemmas.Bool.Decides.{nat_tests}
use Rattle.std.proofs.lemmas.List.{drop-append-le, drop_all, get_or_append_left}
use Rattle.std.proofs.Math.Seq.{get_or-append_seam}
use Rattle.reo_joint_values.specs.declared.value.JointValue.{JointValue}
use Rattle.reo_joint_values.specs.declared.value.JointValue.TheVariants.{Flow, RG, GR, GG, Jam}
use Rattle.reo_joint_values.specs.Values.{Family, value_eq}
use Rattle.reo_joint_values.proofs.Narrowing.{same_value}
use Rattle.reo_refute_base.specs.Items.{Lists, items_at}
use Rattle.reo_refute_base.specs.Live.{all_live, without}
use Rattle.reo_refute_live.specs.declared.support.live.LiveAt.{LiveAt}
use Rattle.reo_refute_live.specs.support.Families.{family_of, none_gone, AreLive}
use Rattle.reo_refute_live.proofs.support.LiveLemmas.{flag_in}
use Rattle.reo_refute_live.specs.declared.trail.Gone.{Gone}
use Rattle.reo_refute_live.specs.Trail.{with_back, revived, HasLost, IsOne, AreKept}

pub revived_append : (live : Family) (xs ys : List Gone) → revived live (xs ++ ys) ≡ revived (revived live ys) xs
revived_append live [] ys = refl
revived_append live (x ∷ xs) ys = ap (λ (f : Family). with_back f x) (revived_append live xs ys)

-- A value that was live goes and comes back.
back_other : (a e s : Bool) → s ≡ false → (a && not (e && s)) || (e && s) ≡ a
back_other a e s h = grind (arith, nat_tests)

back_off : (a e s : Bool) → e ≡ false → (a && not (e && s)) || (e && s) ≡ a
back_off a e s h = grind (arith, nat_tests)

back_here : (a e s : Bool) → e ≡ true → s ≡ true → a ≡ true → (a && not (e && s)) || (e && s) ≡ a
back_here a e s h k l = grind (arith, nat_tests)

pub gone_back : (live : Family) (joint : ℕ) (value : JointValue) → live joint value ≡ true → with_back (without live joint value) (record { joint = joint; value = value }) ≡ live
gone_back live joint value is i j w = at j w i
  where
    at : (j : ℕ) (w : JointValue) → with_back (without live joint value) (record { joint = joint; value = value }) j w ≡ live j w
    at j w = elim (cases_eq j joint) [
      | inl e ↦ elim (cases_Bool (value_eq w value)) [
        | inl same ↦
            let here : live j w ≡ true = ap (live j) (same_value w value same) ∙ ap (λ (k : ℕ). live k value) e ∙ is in
            let yes : (j == joint) ≡ true = eq-eqb j joint e in
            back_here (live j w) (j == joint) (value_eq w value) yes same here
        | inr other ↦ back_other (live j w) (j == joint) (value_eq w value) other
      ]
      | inr off ↦ back_off (live j w) (j == joint) (value_eq w value) (ne_eqb j joint off)
    ]

-- One moment after another.
pub lost_none : (live : Family) (gone : List Gone) → HasLost live gone live gone
lost_none live gone = record { more = []; noted = sym (append-nil gone); back = refl }

pub lost_one : (live after : Family) (gone now : List Gone) (joint : ℕ) (value : JointValue) → live joint value ≡ true → after ≡ without live joint value
    → now ≡ gone ++ (record { joint = joint; value = value } ∷ []) → HasLost live gone after now
lost_one live after gone now joint value is after_is now_is = record {
  more = record { joint = joint; value = value } ∷ [];
  noted = now_is;
  back = ap (λ (f : Family). with_back f (record { joint = joint; value = value })) after_is ∙ gone_back live joint value is;
}

pub lost_more : (a b d : Family) (g h k : List Gone) → HasLost a g b h → HasLost b h d k → HasLost a g d k
lost_more a b d g h k x y = record {
  more = x.more ++ y.more;
  noted = y.noted ∙ ap (λ (l : List Gone). l ++ y.more) x.noted ∙ append_assoc g x.more y.more;
  back = revived_append d x.more y.more ∙ ap (λ (f : Family). revived f x.more) y.back ∙ x.back;
}

-- With all back it is the same before and after.
pub same_whole : (a b : Family) (g h : List Gone) → HasLost a g b h → revived b h ≡ revived a g
same_whole a b g h x = ap (revived b) x.noted ∙ revived_append b g x.more ∙ ap (λ (f : Family). revived f g) x.back

pub lost_le : (a b : Family) (g h : List Gone) → HasLost a g b h → length g ≤ length h
lost_le a b g h x = omega (arith, ap (λ (l : List Gone). length l) x.noted, length-append g x.more)

-- What was live before some of the values went.
pub same_since : (a b : Family) (g h : List Gone) (n : ℕ) → HasLost a g b h → n ≤ length g → revived b (drop n h) ≡ revived a (drop n g)
same_since a b g h n x le =
    ap (λ (l : List Gone). revived b (drop n l)) x.noted ∙ ap (revived b) (drop-append-le n g x.more le) ∙ revived_append b (drop n g) x.more ∙ ap (λ (f : Family). revived f (drop n g)) x.back

pub none_since : (a : Family) (g : List Gone) (n : ℕ) → length g ≤ n → revived a (drop n g) ≡ a
none_since a g n le = ap (revived a) (drop_all n g le)

-- All of a list, with one more at its end or without.
pub all_front : {X : Type 0} (P : X → Type 0) (xs : List X) (x : X) → All P (xs ++ (x ∷ [])) → All P xs
all_front P xs x all k d lt = subst P (get_or_append_left xs (x ∷ []) d k lt) (all k d (omega (arith, lt, length-append xs (x ∷ []))))

pub all_last : {X : Type 0} (P : X → Type 0) (xs : List X) (x : X) → All P (xs ++ (x ∷ [])) → P x
all_last P xs x all = subst P (get_or-append_seam xs x [] x) (all (length xs) x (omega (arith, length-append xs (x ∷ []))))

pub all_more : {X : Type 0} (P : X → Type 0) (xs : List X) (x : X) → All P xs → P x → All P (xs ++ (x ∷ []))
all_more P xs x all last k d lt = elim (cases_lt k (length xs)) [
  | inl below ↦ subst P (sym (get_or_append_left xs (x ∷ []) d k below)) (all k d below)
  | inr from ↦
      let same : length xs ≡ k = omega (arith, from, lt, length-append xs (x ∷ [])) in
      subst (λ (m : ℕ). P (get_or (xs ++ (x ∷ [])) m d)) same (subst P (sym (get_or-append_seam xs x [] d)) last)
]

pub live_one : (lists : Lists) (table : List LiveAt) → AreLive lists table → (joint : ℕ) (value : JointValue) → family_of table joint value ≡ true → all_live lists joint value ≡ true
live_one lists table are joint (Flow n) is =
    let lt : n < length (get_or table joint none_gone).flows = flag_in (get_or table joint none_gone).flows n is in
    lt-ltb n (length (items_at lists joint)) (omega (arith, lt, are.flags joint))
live_one lists table are joint RG is = refl
live_one lists table are joint GR is = refl
live_one lists table are joint GG is = refl
live_one lists table are joint Jam is = refl

-- A value of a joint has its flag.
below_from : (k n : ℕ) → nat_lt n k ≡ true → n < k
below_from k n is = grind (arith, nat_tests)

pub flag_there : (lists : Lists) (table : List LiveAt) → AreLive lists table → (joint : ℕ) (value : JointValue) → all_live lists joint value ≡ true
    → (n : ℕ) → value ≡ Flow n → n < length (get_or table joint none_gone).flows
flag_there lists table are joint value is n flow =
    let one : nat_lt n (length (items_at lists joint)) ≡ true = ap (all_live lists joint) (sym flow) ∙ is in
    omega (arith, below_from (length (items_at lists joint)) n one, are.flags joint)

-- What is kept while a value goes, and while the last comes back.
pub kept_gone : (lists : Lists) (table after : List LiveAt) (gone now : List Gone) (joint : ℕ) (value : JointValue) → AreKept lists table gone → joint < length lists → family_of table joint value ≡ true
    → AreLive lists after → now ≡ gone ++ (record { joint = joint; value = value } ∷ []) → HasLost (family_of table) gone (family_of after) now → AreKept lists after now
kept_gone lists table after gone now joint value kept lt is live now_is lost = record {
  live = live;
  ones = subst (All (IsOne lists)) (sym now_is) (all_more (IsOne lists) gone (record { joint = joint; value = value }) kept.ones (lt, live_one lists table kept.live joint value is));
  whole = same_whole (family_of table) (family_of after) gone now lost ∙ kept.whole;
}

pub back_lost : (live after : Family) (gone now : List Gone) (last : Gone) → gone ≡ now ++ (last ∷ []) → after ≡ with_back live last → HasLost after now live gone
back_lost live after gone now last gone_is after_is = record { more = last ∷ []; noted = gone_is; back = sym after_is }

pub kept_back : (lists : Lists) (table after : List LiveAt) (gone now : List Gone) (last : Gone) → AreKept lists table gone → gone ≡ now ++ (last ∷ []) → AreLive lists after
    → family_of after ≡ with_back (family_of table) last → AreKept lists after now
kept_back lists table after gone now last kept gone_is live after_is = record {
  live = live;
  ones = all_front (IsOne lists) now last (subst (All (IsOne lists)) gone_is kept.ones);
  whole = sym (same_whole (family_of after) (family_of table) now gone (back_lost (family_of table) (family_of after) gone now last gone_is after_is)) ∙ kept.whole;
}
