-- Marks that meet, and sides that are noted and pinned, one side more.
use Rattle.std.proofs.Common.{◌≡◌, ◌≢◌, ◌⊎◌, inl, inr, ℕ, ◌+◌, ◌-◌, ◌<◌, Bool, true, false, List, length, slice_index, slice_index_or, set, refl, sym, ap, ◌∙◌, subst, arith, get_or-set_same, get_or-set_other}
use Rattle.std.specs.Prelude.{Contains}
use Rattle.std.specs.Bool.{◌==◌}
use Rattle.std.proofs.lemmas.Bool.{cases_eq}
use Rattle.std.proofs.lemmas.Bool.Decides.{nat_tests}
use Rattle.std.proofs.lemmas.List.{get_or_default, get_or-map}
use Rattle.reo_net_base.specs.declared.form.Form.{Form}
use Rattle.reo_net_base.specs.declared.form.Form.TheVariants.{Single}
use Rattle.reo_net_base.specs.declared.table.Table.TheVariants.{Ready}
use Rattle.reo_net_base.specs.declared.mark.Mark.{Mark}
use Rattle.reo_net_base.specs.declared.mark.Mark.TheVariants.{F, G, R, J}
use Rattle.reo_net_base.specs.declared.joint.End.{End}
use Rattle.reo_net_base.specs.Behaviour.{Behaviour, IsEndOf}
use Rattle.reo_net_base.specs.Forms.{HasForm, mark_by}
use Rattle.reo_net_base.specs.Net.{Net, Side, all_sides, no_side, behaviour_at, end_of, first_side, row_count, side_at, row_at, mark_at}
use Rattle.reo_net_base.specs.Sides.{side_count}
use Rattle.reo_net_base.specs.Wired.{IsWired, IsEnd}
use Rattle.reo_mark_sets.specs.declared.marks.PlainMarks.{PlainMarks}
use Rattle.reo_mark_sets.specs.PlainMarks.{has, marks_at, open_at, all_marks}
use Rattle.reo_mark_sets.specs.Standing.{AreFewer, IsChosen, is_usual}
use Rattle.reo_net_laws.specs.JamRows.{jam_rows}
use Rattle.reo_net_laws.specs.Parts.{IsClosed}
use Rattle.reo_net_laws.proofs.Sides.{side_at_is, side_at_place, row_is}
use Rattle.reo_net_laws.specs.state_laws.States.{LetsIn, IsOpen}
use Rattle.reo_mark_search.specs.Fitting.{Fits, IsRival, AreNoted, form_at, AreOpenSides, AreReset, ArePinned, AreMet}
use Rattle.reo_mark_search.specs.Spots.{spot_of, AreSpots, end_by, IsSeat}
use Rattle.reo_mark_search.proofs.Parts.{side_one}
use Rattle.reo_mark_search.proofs.Placed.{offset_of, mark_offset}

-- One place more.
pub met_next : (sets : List PlainMarks) (places : List ℕ) (n : ℕ) → ((o : ℕ) → o < n → (mark : Mark) × (has (open_at sets (slice_index places o)) mark ≡ true)) → (mark : Mark) × (has (open_at sets (slice_index places n)) mark ≡ true)
    → (o : ℕ) → o < n + 1 → (mark : Mark) × (has (open_at sets (slice_index places o)) mark ≡ true)
met_next sets places n before here o lt = elim (cases_eq o n) [
  | inl e ↦ subst (λ (p : ℕ). (mark : Mark) × (has (open_at sets (slice_index places p)) mark ≡ true)) (sym e) here
  | inr ne ↦ before o (omega (arith, lt, ne))
]

module _ (net : Net) (wired : IsWired net) (spots : List (List ℕ)) (are : AreSpots net spots) (sides : List ℕ) (n : ℕ) where
  -- The ends of a side, where a number names it otherwise.
  module _ (k : ℕ) (form : Form) (places : List ℕ) (seat : IsSeat net spots k form places) (i side : ℕ) (i_in : i < length net.primitives) (side_in : side < (behaviour_at net.primitives i).sides) (number : k ≡ first_side net.primitives i + side) where
    same_side : (seat.primitive ≡ i) × (seat.side ≡ side)
    same_side = side_one net.primitives seat.primitive seat.side i side seat.primitive_in seat.side_in i_in side_in (sym seat.number ∙ number)

    pub form_here : HasForm form (behaviour_at net.primitives i) side
    form_here = subst (λ (s : ℕ). HasForm form (behaviour_at net.primitives i) s) same_side.1 (subst (λ (p : ℕ). HasForm form (behaviour_at net.primitives p) seat.side) same_side.0 seat.form_is)

    pub spot_here : (end : ℕ) → IsEndOf (behaviour_at net.primitives i) side end → (o : ℕ) × (o < length places) × (end_by form side o ≡ end) × (slice_index places o ≡ spot_of spots (end_of i end))
    spot_here end is =
        let at = offset_of form side end ((form_here.ends end).0 is) in
        let o_in : at.0 < length places = omega (arith, at.1, seat.ends.width) in (
          at.0,
          o_in,
          at.2,
          seat.ends.each at.0 o_in ∙ (λ j. spot_of spots (end_of (same_side.0 j) (end_by form (same_side.1 j) at.0))) ∙ ap (λ (e : ℕ). spot_of spots (end_of i e)) at.2,
        )

  last_or : (q : ℕ) → q < n + 1 → (q < n) ⊎ (q ≡ n)
  last_or q lt = elim (cases_eq q n) [ inl e ↦ inr e | inr ne ↦ inl (omega (arith, lt, ne)) ]

  pub met_side : (sets : List PlainMarks) (form : Form) (places : List ℕ) → IsSeat net spots (slice_index sides n) form places → AreMet net spots sides n sets
      → ((o : ℕ) → o < length places → (mark : Mark) × (has (open_at sets (slice_index places o)) mark ≡ true)) → AreMet net spots sides (n + 1) sets
  met_side sets form places seat before here = record {
    meet = λ q i side end lt i_in side_in number is. elim (last_or q lt) [
      | inl earlier ↦ before.meet q i side end earlier i_in side_in number is
      | inr e ↦
          let at = spot_here (slice_index sides n) form places seat i side i_in side_in (ap (slice_index sides) (sym e) ∙ number) end is in
          subst (λ (x : ℕ). (mark : Mark) × (has (open_at sets x) mark ≡ true)) at.3 (here at.0 at.1)
    ];
  }

  -- A row is taken at a side.
  module _ (old mid new : List PlainMarks) (rows : List ℕ) (row : ℕ) (form : Form) (places : List ℕ) (seat : IsSeat net spots (slice_index sides n) form places) (chosen : IsChosen form places row old mid) (fewer : AreFewer mid new) (mid_fewer : AreFewer old mid)
      (lt_rows : slice_index sides n < length rows) (before : ArePinned net spots sides n old rows) where
    abbrev side_now : ℕ
    side_now = slice_index sides n

    abbrev after : List ℕ
    after = set rows (slice_index sides n) row

    row_there : (q : ℕ) → slice_index sides q ≡ slice_index sides n → slice_index after (slice_index sides q) ≡ row
    row_there q e = ap (slice_index after) e ∙ get_or-set_same rows (slice_index sides n) row 0 lt_rows

    row_else : (q : ℕ) → slice_index sides q ≢ slice_index sides n → slice_index after (slice_index sides q) ≡ slice_index rows (slice_index sides q)
    row_else q ne = get_or-set_other rows (slice_index sides n) (slice_index sides q) row 0 ne

    earlier_or : (q : ℕ) → q < n + 1 → ((q < n) × (slice_index sides q ≢ slice_index sides n)) ⊎ (slice_index sides q ≡ slice_index sides n)
    earlier_or q lt = elim (cases_eq (slice_index sides q) (slice_index sides n)) [
      | inl e ↦ inr e
      | inr ne ↦ elim (last_or q lt) [ inl less ↦ inl (less, ne) | inr e ↦ absurd (ne (ap (slice_index sides) e)) ]
    ]

    pub pinned_next : ArePinned net spots sides (n + 1) new after
    pinned_next = record {
      plain = λ q i side lt i_in side_in number. elim (earlier_or q lt) [
        | inl x ↦ subst (λ (r : ℕ). r + 1 < (behaviour_at net.primitives i).rows side) (sym (row_else q x.1)) (before.plain q i side x.0 i_in side_in number)
        | inr e ↦
            let has = form_here (slice_index sides n) form places seat i side i_in side_in (sym e ∙ number) in
            subst (λ (r : ℕ). r + 1 < (behaviour_at net.primitives i).rows side) (sym (row_there q e)) (subst (λ (m : ℕ). row + 1 < m) (sym has.rows) chosen.first.plain)
      ];
      marks = λ q i side end mark lt i_in side_in number is h. elim (earlier_or q lt) [
        | inl x ↦
            subst (λ (r : ℕ). (behaviour_at net.primitives i).mark side r end ≡ mark) (sym (row_else q x.1))
            (before.marks q i side end mark x.0 i_in side_in number is (mid_fewer _ mark (fewer _ mark h)))
        | inr e ↦
            let there : slice_index sides n ≡ first_side net.primitives i + side = sym e ∙ number in
            let has_form = form_here (slice_index sides n) form places seat i side i_in side_in there in
            let at = spot_here (slice_index sides n) form places seat i side i_in side_in there end is in
            let marked = ((chosen.exact at.0 mark at.1).0 (subst (λ (x : ℕ). has (marks_at mid x) mark ≡ true) (sym at.3) (fewer _ mark h))).1 in
            let row_in : row < (behaviour_at net.primitives i).rows side = subst (λ (m : ℕ). row < m) (sym has_form.rows) (omega (arith, chosen.first.plain)) in
            subst (λ (r : ℕ). (behaviour_at net.primitives i).mark side r end ≡ mark) (sym (row_there q e))
            (has_form.mark row end row_in is ∙ ap (mark_by form row) (sym at.2) ∙ mark_offset form row side at.0 ∙ marked)
      ];
    }

all_but_jam : (m : Mark) → m ≢ J → has all_marks m ≡ true
all_but_jam F h = refl
all_but_jam G h = refl
all_but_jam R h = refl
all_but_jam J h = absurd (h refl)

not_last : (x n : ℕ) → x < n → (x + 1 == n) ≡ false → x + 1 < n
not_last x n lt h = grind (arith, nat_tests)

-- A side is noted.
module _ (net : Net) (spots : List (List ℕ)) (sides : List ℕ) (n k : ℕ) (at : slice_index sides n ≡ k) (form : Form) (places : List ℕ) (seat : IsSeat net spots k form places) where
  abbrev Named : ℕ → ℕ → ℕ → Type 0
  Named q i side = slice_index sides q ≡ first_side net.primitives i + side

  same_or : (q : ℕ) → q < n + 1 → ((q < n) × (slice_index sides q ≢ k)) ⊎ (slice_index sides q ≡ k)
  same_or q lt = elim (cases_eq (slice_index sides q) k) [
    | inl e ↦ inr e
    | inr ne ↦ elim (cases_eq q n) [ inl e ↦ absurd (ne (ap (slice_index sides) e ∙ at)) | inr nf ↦ inl (omega (arith, lt, nf), ne) ]
  ]

  one_side : (i side : ℕ) → i < length net.primitives → side < (behaviour_at net.primitives i).sides → k ≡ first_side net.primitives i + side → (seat.primitive ≡ i) × (seat.side ≡ side)
  one_side i side i_in side_in number = side_one net.primitives seat.primitive seat.side i side seat.primitive_in seat.side_in i_in side_in (sym seat.number ∙ number)

  pub open_next : (forms : List Form) → k < length forms → LetsIn (behaviour_at net.primitives seat.primitive) seat.side → AreOpenSides net sides n forms → AreOpenSides net sides (n + 1) (set forms k form)
  open_next forms lt lets before = record {
    form = λ q i side q_lt i_in side_in number. elim (same_or q q_lt) [
      | inl x ↦ subst (λ (f : Form). HasForm f (behaviour_at net.primitives i) side) (sym (get_or-set_other forms k (slice_index sides q) form (Single Ready) x.1)) (before.form q i side x.0 i_in side_in number)
      | inr e ↦
          let same = one_side i side i_in side_in (sym e ∙ number) in
          let here : form_at (set forms k form) (slice_index sides q) ≡ form = ap (form_at (set forms k form)) e ∙ get_or-set_same forms k form (Single Ready) lt in
          subst (λ (f : Form). HasForm f (behaviour_at net.primitives i) side) (sym here)
          (subst (λ (s : ℕ). HasForm form (behaviour_at net.primitives i) s) same.1 (subst (λ (p : ℕ). HasForm form (behaviour_at net.primitives p) seat.side) same.0 seat.form_is))
    ];
    usual = λ q q_lt. elim (same_or q q_lt) [
      | inl x ↦ subst (λ (f : Form). is_usual f ≡ true) (sym (get_or-set_other forms k (slice_index sides q) form (Single Ready) x.1)) (before.usual q x.0)
      | inr e ↦ subst (λ (f : Form). is_usual f ≡ true) (sym (ap (form_at (set forms k form)) e ∙ get_or-set_same forms k form (Single Ready) lt)) seat.usual
    ];
    lets_in = λ q i side q_lt i_in side_in number. elim (same_or q q_lt) [
      | inl x ↦ before.lets_in q i side x.0 i_in side_in number
      | inr e ↦
          let same = one_side i side i_in side_in (sym e ∙ number) in
          subst (λ (s : ℕ). LetsIn (behaviour_at net.primitives i) s) same.1 (subst (λ (p : ℕ). LetsIn (behaviour_at net.primitives p) seat.side) same.0 lets)
    ];
  }

  pub reset_next : (wired : IsWired net) (are : AreSpots net spots) (old new : List PlainMarks) → ((x : ℕ) → marks_at old x ≡ all_marks → marks_at new x ≡ all_marks) → ((o : ℕ) → o < length places → marks_at new (slice_index places o) ≡ all_marks)
      → AreReset net spots sides n old → AreReset net spots sides (n + 1) new
  reset_next wired are old new stays here before = record {
    all = λ q i side end q_lt i_in side_in number is. elim (same_or q q_lt) [
      | inl x ↦ stays (spot_of spots (end_of i end)) (before.all q i side end x.0 i_in side_in number is)
      | inr e ↦
          let found = spot_here net wired spots are sides n k form places seat i side i_in side_in (sym e ∙ number) end is in
          subst (λ (x : ℕ). marks_at new x ≡ all_marks) found.3 (here found.0 found.1)
    ];
  }

-- All sides of a part are noted.
module _ (net : Net) (wired : IsWired net) (spots : List (List ℕ)) (are : AreSpots net spots) (inside : ℕ → Bool) (closed : IsClosed net inside) (below : (k : ℕ) → inside k ≡ true → k < side_count net)
    (sides : List ℕ) (listed : (k : ℕ) → k < side_count net → inside k ≡ true → Contains sides k) where
  place : (k : ℕ) (h : inside k ≡ true) → slice_index sides (listed k (below k h) h).0 ≡ k
  place k h = let c = listed k (below k h) h in get_or_default sides c.0 0 k c.1 ∙ c.2

  pub noted_all : (forms : List Form) → length forms ≡ side_count net → AreOpenSides net sides (length sides) forms → AreNoted net inside forms
  noted_all forms count noted = record {
    one_each = count;
    have = λ i side i_in side_in h.
        let k : ℕ = first_side net.primitives i + side in
        let c = listed k (below k h) h in
        subst (λ (x : ℕ). HasForm (form_at forms x) (behaviour_at net.primitives i) side) (place k h) (noted.form c.0 i side c.1 i_in side_in (place k h));
    usual = λ k h. let c = listed k (below k h) h in subst (λ (x : ℕ). is_usual (form_at forms x) ≡ true) (place k h) (noted.usual c.0 c.1);
  }

  pub open_all : (forms : List Form) → AreOpenSides net sides (length sides) forms → IsOpen net inside
  open_all forms noted i side row end item i_in side_in h row_in is_end takes =
      let k : ℕ = first_side net.primitives i + side in
      let c = listed k (below k h) h in
      noted.lets_in c.0 i side c.1 i_in side_in (place k h) row end item row_in is_end takes

  module _ (sets : List PlainMarks) (reset : AreReset net spots sides (length sides) sets) (rows : List ℕ) (rival : IsRival net inside rows) where
    mark_there : (e : End) → IsEnd net.primitives e → inside (side_at net e) ≡ true → has (marks_at sets (spot_of spots e)) (mark_at net rows e) ≡ true
    unfolding mark_at
    mark_there e e_in h =
        let b : Behaviour = behaviour_at net.primitives e.primitive in
        let lawful = wired.lawful e.primitive e_in.0 in
        let side : ℕ = b.side_of e.end in
        let side_in : side < b.sides = lawful.sides_in e.end e_in.1 in
        let k : ℕ = side_at net e in
        let k_in = below k h in
        let c = listed k k_in h in
        let there = side_at_is net wired e e_in no_side in
        let in_table : slice_index rows k < b.rows side = subst (λ (s : Side). slice_index rows k < row_count s) there (rival.fitting.in_tables k no_side k_in h) in
        let plain : slice_index rows k + 1 < b.rows side = not_last (slice_index rows k) (b.rows side) in_table (subst (λ (s : Side). (slice_index rows k + 1 == row_count s) ≡ false) there (rival.no_jam k k_in h)) in
        let all : marks_at sets (spot_of spots e) ≡ all_marks = reset.all c.0 e.primitive side e.end c.1 e_in.0 side_in (place k h ∙ side_at_place net e) (e_in.1, refl) in
        subst (λ (m : PlainMarks). has m (b.mark side (row_at net rows e) e.end) ≡ true) (sym all)
        (all_but_jam (b.mark side (row_at net rows e) e.end) (subst (λ (r : ℕ). b.mark side r e.end ≢ J) (sym (row_is net rows e)) (lawful.no_other_jam side (slice_index rows k) e.end side_in (e_in.1, refl) plain)))

    pub all_fits : Fits net inside sets rows
    all_fits = record {
      giver = λ j d lt h. subst (λ (x : ℕ). has (marks_at sets x) (mark_at net rows (slice_index_or net.joints j d).giver) ≡ true) (are.giver j d lt) (mark_there (slice_index_or net.joints j d).giver (wired.givers j d lt) h);
      taker = λ j d lt h. subst (λ (x : ℕ). has (marks_at sets x) (mark_at net rows (slice_index_or net.joints j d).taker) ≡ true) (are.taker j d lt) (mark_there (slice_index_or net.joints j d).taker (wired.takers j d lt) (sym (closed.along j d lt) ∙ h));
    }

-- A jam row is written down.
pub jam_next : (net : Net) (sides rows : List ℕ) (n row : ℕ) → slice_index sides n < length rows → row ≡ slice_index (jam_rows net) (slice_index sides n)
    → ((q : ℕ) → q < n → slice_index rows (slice_index sides q) ≡ slice_index (jam_rows net) (slice_index sides q))
    → (q : ℕ) → q < n + 1 → slice_index (set rows (slice_index sides n) row) (slice_index sides q) ≡ slice_index (jam_rows net) (slice_index sides q)
jam_next net sides rows n row lt is before q q_lt = elim (cases_eq (slice_index sides q) (slice_index sides n)) [
  | inl e ↦ ap (slice_index (set rows (slice_index sides n) row)) e ∙ get_or-set_same rows (slice_index sides n) row 0 lt ∙ is ∙ ap (slice_index (jam_rows net)) (sym e)
  | inr ne ↦ elim (cases_eq q n) [
    | inl e ↦ absurd (ne (ap (slice_index sides) e))
    | inr nf ↦ get_or-set_other rows (slice_index sides n) (slice_index sides q) row 0 ne ∙ before q (omega (arith, q_lt, nf))
  ]
]

pub jam_row_at : (net : Net) (k : ℕ) → k < side_count net → slice_index (jam_rows net) k ≡ row_count (slice_index_or (all_sides net.primitives) k no_side) - 1
jam_row_at net k lt = get_or-map (λ (s : Side). row_count s - 1) (all_sides net.primitives) k no_side 0 lt
