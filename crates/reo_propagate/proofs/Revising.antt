-- Revising a side, joint by joint.
use Rattle.std.proofs.Common.{◌≡◌, inl, inr, ℕ, ◌+◌, ◌<◌, ◌≤◌, Bool, true, List, [], length, get_or, refl, ap, sym, ◌∙◌, subst, arith, below_more}
use Rattle.reo_values.specs.declared.value.Value.{Value}
use Rattle.reo_net_base.specs.Net.{Net}
use Rattle.reo_net_base.specs.Wired.{IsWired}
use Rattle.std.proofs.lemmas.Bool.{cases_lt}
use Rattle.reo_joint_values.specs.declared.value.JointValue.{JointValue}
use Rattle.reo_joint_values.specs.Values.{Names, Family, AtSide}
use Rattle.reo_joint_values.specs.Supported.{IsUsed, IsThinned}
use Rattle.reo_joint_values.proofs.Narrowing.{thinned_none, narrowed_twice, narrowed_thinned}
use Rattle.reo_side_tables.specs.declared.board.Board.{Board}
use Rattle.reo_side_tables.specs.Listing.{Lists}
use Rattle.reo_side_tables.specs.Marks.{IsJointOf}
use Rattle.reo_rows.specs.declared.groups.Group.{Group}
use Rattle.reo_rows.specs.declared.rows.Rows.{Rows}
use Rattle.reo_rows.specs.RowFlags.{flag, count_set, AreAlikeTables}
use Rattle.reo_rows.specs.Sets.{code_of, value_of, family_of, names_of, IsReady}
use Rattle.reo_rows.proofs.Codes.{flag_value}
use Rattle.reo_rows.specs.Rows.{AreTables, IsSifted, IsSeen, OtherSidesStay}
use Rattle.reo_rows.proofs.Union.{alike_twice}
use Rattle.reo_propagate.specs.declared.queue.WaitingSides.{WaitingSides}
use Rattle.reo_propagate.specs.declared.thinning.Loss.{Loss}
use Rattle.reo_propagate.specs.declared.state.State.{State}
use Rattle.reo_propagate.specs.Narrow.{IsTended, nobody, IsReduced, IsRevised, IsTendedAt, IsCut, IsThinnedTo, OtherRowsMayGo}
use Rattle.reo_propagate.proofs.Cutting.{no_flag}
use Rattle.reo_propagate.proofs.Thinned.{joint_done}
use Rattle.reo_propagate.proofs.Resting.{SideStays, stays_here, sifted_stays, seen_stays}
use Rattle.reo_propagate.proofs.Tending.{tended_rows, tended_end, revised_rests}

-- What a joint lost, and which rows went, says how it was tended.
pub at_joint : (net : Net) (names : Names) (side joint : ℕ) (old new : State) (loss : Loss) → IsCut joint old.alive new.alive loss
    → ((start : Family) → IsSifted net names start side old.rows → IsSeen net names start side old.rows → IsThinned net names side start (family_of old.alive)
    → IsThinnedTo net names side joint (length (get_or old.alive joint [])) start new.alive)
    → OtherRowsMayGo side old.rows new.rows → IsTendedAt net names side joint old new
at_joint net names side joint old new loss cut thin rows = record {
  rows = rows;
  alike = cut.alike;
  less = cut.less;
  elsewhere = cut.elsewhere;
  thinned = λ start sifted seen thinned.
      let t = thin start sifted seen thinned in
      (t.thinned, joint_done net names side joint start old.alive new.alive cut.alike t);
}

pub rows_same : (side : ℕ) (rows new : Rows) → new ≡ rows → OtherRowsMayGo side rows new
rows_same side rows new is = subst (λ (r : Rows). OtherRowsMayGo side rows r) (sym is) (record { here = λ row. refl; less = λ s row h. h; notes = refl; seen = refl })

-- The first n joints of a list have been tended.
pub record IsRevising (net : Net) (items : List (List Value)) (inside : ℕ → Bool) (side : ℕ) (joints : List ℕ) (n : ℕ) (first now : State) : Type 0 where
  pub revised : IsRevised net (names_of items) side first.alive now.alive
  pub tables : AreTables net items now.rows
  pub sifted : IsSifted net (names_of items) (family_of first.alive) side now.rows
  pub seen : IsSeen net (names_of items) (family_of first.alive) side now.rows
  pub done : (m : ℕ) → m < n → (v : JointValue) → family_of now.alive (get_or joints m 0) v ≡ true
      → IsUsed net (names_of items) (family_of first.alive) side (get_or joints m 0) v
  pub tended : IsTended net (names_of items) inside side now.alive now.rows now.queue
  pub fewer : count_set now.alive + length now.queue.line ≤ count_set first.alive + length first.queue.line

pub revised_none : (net : Net) (names : Names) (side : ℕ) (table : List (List Bool)) → IsRevised net names side table table
revised_none net names side table = record { thinned = thinned_none net names side (family_of table); elsewhere = λ i p off. refl; alike = record { rows = refl; width = λ r. refl } }

-- At first the side has been sifted and seen.
pub revising_none : (net : Net) (items : List (List Value)) (inside : ℕ → Bool) (side : ℕ) (joints : List ℕ) (alive : List (List Bool)) (before sifted rows : Rows) (queue : WaitingSides)
    → AreTables net items rows → OtherSidesStay side before sifted → IsSifted net (names_of items) (family_of alive) side sifted → rows.live ≡ sifted.live → rows.notes ≡ sifted.notes
    → IsSeen net (names_of items) (family_of alive) side rows → IsTended net (names_of items) inside side alive before queue
    → IsRevising net items inside side joints 0 (record { alive = alive; rows = rows; queue = queue }) (record { alive = alive; rows = rows; queue = queue })
revising_none net items inside side joints alive before sifted rows queue tables others is live notes seen tended =
    let stays : SideStays side sifted rows = record { flags = λ row. ap (λ (t : List (List Bool)). flag t side row) live; notes = ap (λ (n : List (List Group)). get_or n side []) notes } in
    let now : IsSifted net (names_of items) (family_of alive) side rows = sifted_stays net side sifted rows stays (names_of items) (family_of alive) is in
    let away : OtherSidesStay side before rows = record {
      flags = λ s row off. ap (λ (t : List (List Bool)). flag t s row) live ∙ others.flags s row off;
      notes = λ s off. ap (λ (n : List (List Group)). get_or n s []) notes ∙ others.notes s off;
      less = λ row h. others.less row (ap (λ (t : List (List Bool)). flag t side row) (sym live) ∙ h);
    } in
    record {
      revised = revised_none net (names_of items) side alive;
      tables = tables;
      sifted = now;
      seen = seen;
      done = λ m lt. absurd (omega arith);
      tended = tended_rows net (names_of items) inside side alive before rows queue away now.works tended;
      fewer = omega arith;
    }

module _ (net : Net) (items : List (List Value)) (inside : ℕ → Bool) (side : ℕ) (joints : List ℕ) (n : ℕ) (first now : State) (r : IsRevising net items inside side joints n first now) where
  module _ (joint : ℕ) (new : State) (of : IsJointOf net side joint) (t : IsTendedAt net (names_of items) side joint now new) where
    -- One joint more, whether or not memory ended.
    pub revised_more : IsRevised net (names_of items) side first.alive new.alive
    revised_more = record {
      thinned = (t.thinned (family_of first.alive) r.sifted r.seen r.revised.thinned).0;
      elsewhere = λ i p off. t.elsewhere i p (λ e. off (subst (λ (k : ℕ). AtSide net k side) (sym e) of.here)) ∙ r.revised.elsewhere i p off;
      alike = alike_twice first.alive now.alive new.alive r.revised.alike t.alike;
    }

    pub revising_more : joint ≡ get_or joints n 0 → AreTables net items new.rows → IsTended net (names_of items) inside side new.alive new.rows new.queue
        → count_set new.alive + length new.queue.line ≤ count_set now.alive + length now.queue.line → IsRevising net items inside side joints (n + 1) first new
    revising_more is tables tended fewer = record {
      revised = revised_more;
      tables = tables;
      sifted = sifted_stays net side now.rows new.rows (stays_here side now.rows new.rows t.rows) (names_of items) (family_of first.alive) r.sifted;
      seen = seen_stays net (names_of items) (family_of first.alive) side now.rows new.rows t.rows r.seen;
      done = below_more (λ m. (v : JointValue) → family_of new.alive (get_or joints m 0) v ≡ true → IsUsed net (names_of items) (family_of first.alive) side (get_or joints m 0) v) n
          (λ m lt v h. r.done m lt v (t.less (get_or joints m 0) (code_of v) h))
          (subst (λ (k : ℕ). (v : JointValue) → family_of new.alive k v ≡ true → IsUsed net (names_of items) (family_of first.alive) side k v) is
          (t.thinned (family_of first.alive) r.sifted r.seen r.revised.thinned).1);
      tended = tended;
      fewer = omega (arith, fewer, r.fewer);
    }

  -- All joints were tended: the side is at rest.
  pub revising_ends : IsWired net → n ≡ length joints → Lists (IsJointOf net side) joints → IsTended net (names_of items) inside (nobody net) now.alive now.rows now.queue
  revising_ends wired is lists =
      tended_end net (names_of items) inside side now.alive now.rows now.queue
      (revised_rests net wired (names_of items) side joints (family_of first.alive) (family_of now.alive) now.rows lists r.revised.thinned r.sifted (λ m lt. r.done m (omega (arith, lt, is))))
      r.tended

-- What is ready stays so.
pub ready_alike : (net : Net) (boards : List Board) (ends : List (List ℕ)) (items : List (List Value)) (old new : List (List Bool)) → AreAlikeTables old new → IsReady net boards ends items old
    → IsReady net boards ends items new
ready_alike net boards ends items old new alike r = record {
  boards_are = r.boards_are;
  ends_are = r.ends_are;
  supply = r.supply;
  one_set = alike.rows ∙ r.one_set;
  width = λ j lt. alike.width j ∙ r.width j lt;
}

-- What narrowing does to the values.
module _ (net : Net) (names : Names) (inside : ℕ → Bool) where
  pub reduced_twice : (a b c : List (List Bool)) → IsReduced net names inside a b → IsReduced net names inside b c → IsReduced net names inside a c
  reduced_twice a b c p q = record {
    narrowed = narrowed_twice net names inside (family_of a) (family_of b) (family_of c) p.narrowed q.narrowed;
    less = λ j r h. p.less j r (q.less j r h);
    elsewhere = λ j r off. q.elsewhere j r off ∙ p.elsewhere j r off;
    alike = alike_twice a b c p.alike q.alike;
  }

  -- What revising one of the sides does.
  pub reduced_side : (side : ℕ) (old new : List (List Bool)) → inside side ≡ true → length old ≡ length net.joints → IsRevised net names side old new → IsReduced net names inside old new
  reduced_side side old new is one_set r = record {
    narrowed = narrowed_thinned net names inside side (family_of old) (family_of new) is r.thinned (λ j v lt off h. r.elsewhere j (code_of v) off ∙ h);
    less = λ j p h. sym (flag_value old j p) ∙ r.thinned.less j (value_of p) (flag_value new j p ∙ h);
    elsewhere = λ j p off. elim (cases_lt j (length net.joints)) [
      | inl lt ↦ r.elsewhere j p (λ at. off side (record { in_range = lt; here = at }) is)
      | inr past ↦ no_flag new j p (omega (arith, past, one_set, r.alike.rows)) ∙ sym (no_flag old j p (omega (arith, past, one_set)))
    ];
    alike = r.alike;
  }
