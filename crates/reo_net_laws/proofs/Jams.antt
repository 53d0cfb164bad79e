-- Where assignments jam.
use Rattle.std.proofs.Common.{◌≡◌, ◌≢◌, ℕ, ◌+◌, ◌<◌, List, Option, Bool, true, false, length, get_or, refl, ap, sym, ◌∙◌, arith}
use Rattle.std.specs.Bool.{◌==◌}
use Rattle.std.specs.Prelude.{◌&&◌}
use Rattle.std.proofs.lemmas.Bool.Decides.{nat_tests}
use Rattle.reo_values.specs.declared.value.Value.{Value}
use Rattle.reo_net_base.specs.declared.mark.Mark.{Mark}
use Rattle.reo_net_base.specs.declared.mark.Mark.TheVariants.{F, G, R, J}
use Rattle.reo_net_base.specs.declared.joint.End.{End}
use Rattle.reo_net_base.specs.declared.joint.Joint.{Joint}
use Rattle.reo_net_base.specs.Marks.{marks_match}
use Rattle.reo_net_base.specs.Behaviour.{Behaviour, IsEndOf, IsPlainRow}
use Rattle.reo_net_base.specs.Lawful.{IsLawful}
use Rattle.reo_net_base.specs.Net.{Net, all_sides, no_side, behaviour_at, row_count, side_at, row_at, mark_at}
use Rattle.reo_net_base.specs.Wired.{IsWired, IsEnd}
use Rattle.reo_net_laws.specs.Parts.{IsClosed, IsAssignment}
use Rattle.reo_net_laws.specs.Jams.{jams, JamsWhole}
use Rattle.reo_net_laws.proofs.Sides.{Owner, owner_side, row_is, side_in_range, side_at_is, row_in_table}
use Rattle.reo_net_laws.proofs.Sets.{everywhere, everywhere_closed, restricted}

abbrev pub is_jam : Mark → Bool
is_jam F = false
is_jam G = false
is_jam R = false
is_jam J = true

not_jam : (m : Mark) → m ≢ J → false ≡ is_jam m
not_jam F h = refl
not_jam G h = refl
not_jam R h = refl
not_jam J h = absurd (h refl)

-- A row is the jam row where it jams an end.
jam_test : (b : Behaviour) → IsLawful b → (side row end : ℕ) → side < b.sides → row < b.rows side → IsEndOf b side end → (row + 1 == b.rows side) ≡ is_jam (b.mark side row end)
jam_test b lawful side row end side_in row_in is =
    elim (row + 1 == b.rows side) as (λ t. (row + 1 == b.rows side) ≡ t → t ≡ is_jam (b.mark side row end)) [
      | true ↦ λ e. let last : row + 1 ≡ b.rows side = grind (arith, nat_tests) in sym (ap is_jam (lawful.jam_row side row end side_in is last))
      | false ↦ λ e. let plain : row + 1 < b.rows side = grind (arith, nat_tests) in not_jam (b.mark side row end) (lawful.no_other_jam side row end side_in is plain)
    ] refl

-- Jam meets only jam.
jam_both : (m n : Mark) → marks_match m n ≡ true → is_jam m ≡ is_jam n
jam_both F F h = refl
jam_both F G h = refl
jam_both F R h = refl
jam_both F J h = cc
jam_both G F h = refl
jam_both G G h = refl
jam_both G R h = refl
jam_both G J h = cc
jam_both R F h = refl
jam_both R G h = refl
jam_both R R h = refl
jam_both R J h = cc
jam_both J F h = cc
jam_both J G h = cc
jam_both J R h = cc
jam_both J J h = refl

module _ (net : Net) (wired : IsWired net) (inside : ℕ → Bool) (closed : IsClosed net inside) (rows : List ℕ) (items : List (Option Value)) (is : IsAssignment net inside rows items) where
  pub end_jams : (e : End) → IsEnd net.primitives e → inside (side_at net e) ≡ true → jams net rows (side_at net e) ≡ is_jam (mark_at net rows e)
  unfolding mark_at
  end_jams e e_in h =
      let lawful = wired.lawful e.primitive e_in.0 in
      let below = row_in_table net wired e e_in rows no_side (is.in_tables (side_at net e) no_side (side_in_range net wired e e_in) h) in
      (λ i. sym (row_is net rows e) i + 1 == row_count (side_at_is net wired e e_in no_side i))
      ∙ jam_test (behaviour_at net.primitives e.primitive) lawful ((behaviour_at net.primitives e.primitive).side_of e.end) (row_at net rows e) e.end (lawful.sides_in e.end e_in.1) below (e_in.1, refl)

  -- No joint leads from a side that jams to one that does not.
  pub jams_closed : IsClosed net (λ k. inside k && jams net rows k)
  jams_closed = record {
    along = λ j d lt.
        let joint : Joint = get_or net.joints j d in
        let giver = wired.givers j d lt in
        let taker = wired.takers j d lt in
        let g : ℕ = side_at net joint.giver in
        let t : ℕ = side_at net joint.taker in
        let along = closed.along j d lt in
        elim (inside g) as (λ b. inside g ≡ b → (inside g && jams net rows g) ≡ (inside t && jams net rows t)) [
          | true ↦ λ h.
              let same = end_jams joint.giver giver h ∙ jam_both (mark_at net rows joint.giver) (mark_at net rows joint.taker) (is.matched j d lt h) ∙ sym (end_jams joint.taker taker (sym along ∙ h)) in
              λ i. along i && same i
          | false ↦ λ h. ap (λ (b : Bool). b && jams net rows g) h ∙ sym (ap (λ (b : Bool). b && jams net rows t) (sym along ∙ h))
        ] refl;
  }

  -- The row of a side of the set, by whether it jams.
  pub row_of : (k : ℕ) (o : Owner net.primitives k) → k < length (all_sides net.primitives) → inside k ≡ true → get_or rows k 0 < (behaviour_at net.primitives o.primitive).rows o.number
  row_of k o lt h = rw (owner_side net.primitives k o no_side) at (is.in_tables k no_side lt h)

  pub plain_of : (k : ℕ) (o : Owner net.primitives k) → k < length (all_sides net.primitives) → inside k ≡ true → jams net rows k ≡ false → IsPlainRow (behaviour_at net.primitives o.primitive) o.number (get_or rows k 0)
  plain_of k o lt h calm = plain_row (get_or rows k 0) ((behaviour_at net.primitives o.primitive).rows o.number) (row_of k o lt h) (rw (owner_side net.primitives k o no_side) at calm)
    where
      plain_row : (x n : ℕ) → x < n → (x + 1 == n) ≡ false → x + 1 < n
      plain_row x n lt h = grind (arith, nat_tests)

pub last_of : (net : Net) (rows : List ℕ) (k : ℕ) (o : Owner net.primitives k) → jams net rows k ≡ true → get_or rows k 0 + 1 ≡ (behaviour_at net.primitives o.primitive).rows o.number
last_of net rows k o jam = last_row (get_or rows k 0) ((behaviour_at net.primitives o.primitive).rows o.number) (rw (owner_side net.primitives k o no_side) at jam)
  where
    last_row : (x n : ℕ) → (x + 1 == n) ≡ true → x + 1 ≡ n
    last_row x n h = grind (arith, nat_tests)

pub jams_whole : JamsWhole
jams_whole net wired rows items col s t joined = joined (jams net rows) (jams_closed net wired everywhere (everywhere_closed net) rows items (restricted net everywhere rows items col))
