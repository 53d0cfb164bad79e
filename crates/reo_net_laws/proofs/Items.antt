-- What an item hangs on.
use Rattle.std.proofs.Common.{◌≡◌, ℕ, zero, suc, ◌<◌, List, [], ◌∷◌, Bool, Option, None, Some, IsSome, true, false, cond, length, get_or, refl, ap, sym, ◌∙◌, arith}
use Rattle.std.specs.Option.{option_and_then}
use Rattle.std.proofs.lemmas.Bool.Decides.{nat_tests}
use Rattle.reo_values.specs.declared.value.Value.{Value}
use Rattle.reo_net_base.specs.declared.mark.Mark.TheVariants.{F}
use Rattle.reo_net_base.specs.declared.joint.End.{End}
use Rattle.reo_net_base.specs.declared.joint.Joint.{Joint}
use Rattle.reo_net_base.specs.Behaviour.{Behaviour, IsEndOf}
use Rattle.reo_net_base.specs.Lawful.{GivesAt}
use Rattle.reo_net_base.specs.Net.{Net, behaviour_at, end_of, end_eq, side_at, row_at, mark_at}
use Rattle.reo_net_base.specs.Colouring.{taken_at, given_at, ItemFits}
use Rattle.reo_net_base.specs.Wired.{IsWired, IsEnd, IsOrder}
pub use Rattle.reo_net_base.proofs.Ends.{end_is}
use Rattle.reo_net_laws.proofs.Sides.{gives_at, same_side_at}
use Rattle.reo_net_laws.proofs.Orders.{Feeds, place_in, place_of, fed_before}

pub end_same : (a b : End) → a ≡ b → end_eq a b ≡ true
end_same a b e =
    let p : a.primitive ≡ b.primitive = ap (λ (x : End). x.primitive) e in
    let q : a.end ≡ b.end = ap (λ (x : End). x.end) e in
    grind (arith, nat_tests)

-- The item that goes to an end is that of the one joint there.
pub taken_one : (joints : List Joint) (items : List (Option Value)) (e : End) (j : ℕ) (d : Joint) → length items ≡ length joints → j < length joints → (get_or joints j d).taker ≡ e
    → ((k : ℕ) (z : Joint) → k < length joints → (get_or joints k z).taker ≡ e → k ≡ j) → taken_at joints items e ≡ get_or items j None
taken_one [] items e j d n lt here only = absurd (omega arith)
taken_one (x ∷ xs) [] e j d n lt here only = absurd (omega arith)
taken_one (x ∷ xs) (y ∷ ys) e zero d n lt here only = ap (λ (t : Bool). cond t y (taken_at xs ys e)) (end_same x.taker e here)
taken_one (x ∷ xs) (y ∷ ys) e (suc j) d n lt here only =
    let rest : taken_at xs ys e ≡ get_or ys j None = taken_one xs ys e j d (omega arith) (omega arith) here (λ k z k_in k_here.
    let same : suc k ≡ suc j = only (suc k) z (omega arith) k_here in omega (arith, same)) in
    elim (end_eq x.taker e) as (λ t. end_eq x.taker e ≡ t → cond t y (taken_at xs ys e) ≡ get_or ys j None) [
      | true ↦ λ is. let same : zero ≡ suc j = only zero x (omega arith) (end_is x.taker e is) in absurd (omega (arith, same))
      | false ↦ λ is. rest
    ] refl

taken_same : (joints : List Joint) (xs ys : List (Option Value)) (e : End) → length xs ≡ length joints → length ys ≡ length joints
    → ((k : ℕ) (d : Joint) → k < length joints → (get_or joints k d).taker ≡ e → get_or xs k None ≡ get_or ys k None) → taken_at joints xs e ≡ taken_at joints ys e
taken_same [] xs ys e m n h = refl
taken_same (j ∷ js) [] ys e m n h = absurd (omega arith)
taken_same (j ∷ js) (x ∷ xs) [] e m n h = absurd (omega arith)
taken_same (j ∷ js) (x ∷ xs) (y ∷ ys) e m n h =
    let rest : taken_at js xs e ≡ taken_at js ys e = taken_same js xs ys e (omega arith) (omega arith) (λ k d lt is. h (suc k) d (omega arith) is) in
    elim (end_eq j.taker e) as (λ t. end_eq j.taker e ≡ t → cond t x (taken_at js xs e) ≡ cond t y (taken_at js ys e))
    [ true ↦ λ is. h zero j (omega arith) (end_is j.taker e is) | false ↦ λ is. rest ] refl

-- What a row gives hangs on the items that come in at its side.
pub given_same : (net : Net) → IsWired net → (rows : List ℕ) (xs ys : List (Option Value)) (e : End) → IsEnd net.primitives e → length xs ≡ length net.joints → length ys ≡ length net.joints
    → GivesAt (behaviour_at net.primitives e.primitive) ((behaviour_at net.primitives e.primitive).side_of e.end) (row_at net rows e) e.end
    → ((from k : ℕ) (d : Joint) → IsEndOf (behaviour_at net.primitives e.primitive) ((behaviour_at net.primitives e.primitive).side_of e.end) from → k < length net.joints
    → (get_or net.joints k d).taker ≡ end_of e.primitive from → get_or xs k None ≡ get_or ys k None)
    → given_at net rows xs e ≡ given_at net rows ys e
unfolding given_at
given_same net wired rows xs ys e is m n gives h =
    let b : Behaviour = behaviour_at net.primitives e.primitive in
    let side : ℕ = b.side_of e.end in
    let row : ℕ = row_at net rows e in
    let lawful = wired.lawful e.primitive is.0 in
    elim (b.from side row e.end) as (λ o. b.from side row e.end ≡ o → b.given side row e.end (option_and_then (λ from. taken_at net.joints xs (end_of e.primitive from)) o) ≡ b.given side row e.end (option_and_then (λ from. taken_at net.joints ys (end_of e.primitive from)) o)) [
      | None ↦ λ none. refl
      | Some from ↦ λ some.
          ap (b.given side row e.end) (taken_same net.joints xs ys (end_of e.primitive from) m n (λ k d lt taker. h from k d (lawful.from_end side row e.end from gives some) lt taker))
    ] refl

-- The item at a joint is the one that is given there.
pub fits_one : (net : Net) (a b : List ℕ) (xs ys : List (Option Value)) (j : Joint) (x y : Option Value) → mark_at net a j.giver ≡ mark_at net b j.giver
    → (mark_at net b j.giver ≡ F → given_at net a xs j.giver ≡ given_at net b ys j.giver) → ItemFits net a xs j x → ItemFits net b ys j y → x ≡ y
fits_one net a b xs ys j None None m g h i = refl
fits_one net a b xs ys j None (Some y) m g h i = absurd (h (m ∙ i.flows))
fits_one net a b xs ys j (Some x) None m g h i = absurd (i (sym m ∙ h.flows))
fits_one net a b xs ys j (Some x) (Some y) m g h i = sym h.given ∙ g i.flows ∙ i.given

-- By the same row an end has the same mark, and is given the same.
pub mark_moved : (net : Net) (a b : List ℕ) (e : End) → row_at net a e ≡ row_at net b e → mark_at net a e ≡ mark_at net b e
unfolding mark_at
mark_moved net a b e same = ap (λ (r : ℕ). (behaviour_at net.primitives e.primitive).mark ((behaviour_at net.primitives e.primitive).side_of e.end) r e.end) same

pub given_moved : (net : Net) (a b : List ℕ) (items : List (Option Value)) (e : End) → row_at net a e ≡ row_at net b e → given_at net a items e ≡ given_at net b items e
unfolding given_at
given_moved net a b items e same =
    let at : Behaviour = behaviour_at net.primitives e.primitive in
    ap (λ (r : ℕ). at.given (at.side_of e.end) r e.end (option_and_then (λ from. taken_at net.joints items (end_of e.primitive from)) (at.from (at.side_of e.end) r e.end))) same

-- What is given at a joint hangs on the items at the joints that feed it.
pub given_fed : (net : Net) → IsWired net → (rows : List ℕ) (xs ys : List (Option Value)) (j : ℕ) (d : Joint) → j < length net.joints → length xs ≡ length net.joints → length ys ≡ length net.joints
    → row_at net rows (get_or net.joints j d).giver < (behaviour_at net.primitives (get_or net.joints j d).giver.primitive).rows ((behaviour_at net.primitives (get_or net.joints j d).giver.primitive).side_of (get_or net.joints j d).giver.end)
    → ((k : ℕ) (e : Joint) → k < length net.joints → Feeds net (get_or net.joints k e) (get_or net.joints j d) → get_or xs k None ≡ get_or ys k None)
    → mark_at net rows (get_or net.joints j d).giver ≡ F → given_at net rows xs (get_or net.joints j d).giver ≡ given_at net rows ys (get_or net.joints j d).giver
given_fed net wired rows xs ys j d lt m n below fed flows =
    let giver : End = (get_or net.joints j d).giver in
    let e_in = wired.givers j d lt in
    given_same net wired rows xs ys giver e_in m n (gives_at net wired giver e_in rows (wired.gives j d lt) below flows) (λ from k e from_in k_in taker.
    fed k e k_in (ap (side_at net) taker ∙ same_side_at net giver from from_in))

-- What holds of a joint as soon as it holds of those that feed it, holds of each joint.
module _ (net : Net) (order : List ℕ) (is : IsOrder net order) (P : ℕ → Type 0)
    (step : (j : ℕ) → j < length net.joints → ((k : ℕ) (d e : Joint) → k < length net.joints → Feeds net (get_or net.joints k e) (get_or net.joints j d) → P k) → P j) where
  up_to : (n m : ℕ) → m < n → m < length order → P (get_or order m 0)
  up_to zero m lt m_in = absurd (omega arith)
  up_to (suc n) m lt m_in =
      step (get_or order m 0) (place_in net order is m m_in) (λ k d e k_in feeds.
      let earlier = fed_before net order is m d m_in k e k_in feeds in
      rw earlier.2 at (up_to n earlier.0 (omega (arith, earlier.1)) (omega (arith, earlier.1))))

  pub along_order : (j : ℕ) → j < length net.joints → P j
  along_order j lt = let place = place_of net order is j lt in rw place.2 at (up_to (length order) place.0 place.1 place.1)

-- An option that is some has an item.
pub some_item : (o : Option Value) → IsSome o → (item : Value) × (o ≡ Some item)
some_item None h = cc
some_item (Some item) h = (item, refl)
