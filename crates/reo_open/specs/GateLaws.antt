-- Gates keep the laws of a primitive.
use Rattle.std.proofs.Common.{ℕ, ◌≡◌, refl, ap, length, arith, slice_index_or, List, []}
use Rattle.std.proofs.Math.ListN.{get_or-eq_default}
use Rattle.reo_net_base.specs.declared.mark.Mark.{Mark}
use Rattle.reo_net_base.specs.declared.mark.Mark.TheVariants.{J}
use Rattle.reo_net_base.specs.Lawful.{IsLawful, SameShape, TreatsAlike}
use Rattle.reo_net_base.specs.Rows.{Rows, mark_in}
use Rattle.reo_kinds.specs.TableTests.{TableFacts, table_facts}
use Rattle.reo_kinds.specs.SideLaws.{only_zero}
use Rattle.reo_open.specs.declared.gate.GateRows.{GateRows}
use Rattle.reo_open.specs.declared.gate.GateRows.TheVariants.{All, Flow, Given, Required}
use Rattle.reo_open.specs.declared.gate.Gate.{Gate}
use Rattle.reo_open.specs.Gates.{gate_rows, gate_behaviour, with_allowed}

-- The tables of gates pass the test of tables.
pub gate_facts : (allowed : GateRows) → TableFacts 1 (gate_rows allowed)
gate_facts All = table_facts 1 (gate_rows All) refl
gate_facts Flow = table_facts 1 (gate_rows Flow) refl
gate_facts Given = table_facts 1 (gate_rows Given) refl
gate_facts Required = table_facts 1 (gate_rows Required) refl

past : (rows : Rows) (row : ℕ) → row ≡ length rows → mark_in rows row 0 ≡ J
past rows row h = ap (λ (marks : List Mark). slice_index_or marks 0 J) (get_or-eq_default rows [] {n = row} (omega (arith, h)))

pub gate_lawful : (g : Gate) → IsLawful (gate_behaviour g)
gate_lawful g =
    let t : TableFacts 1 (gate_rows g.allowed) = gate_facts g.allowed in
    record {
      some_side = omega arith;
      few_sides = omega arith;
      sides_in = λ end h. omega arith;
      two_sides = λ h. absurd (omega (arith, h));
      some_row = λ side h. omega arith;
      few_rows = λ side h. omega (arith, t.few);
      jam_row = λ side row end h e last. past (gate_rows g.allowed) row (omega (arith, last));
      no_other_jam = λ side row end h e plain. t.no_jam row 0 (omega (arith, plain)) (omega arith);
      told_apart = λ side row other h k l same. t.no_double row other k l (only_zero _ (same 0 (omega arith, omega (arith, h))));
      more_flow = λ side row other turn h k l flows end e. t.more row other 0 (omega (arith, k)) (omega (arith, l)) (only_zero _ (flows end e)) (omega arith);
      same_class = λ side row other turn h k l there back.
          t.equal row other (omega (arith, k)) (omega (arith, l)) (only_zero _ (there 0 (omega arith, omega (arith, h)))) (only_zero _ (back 0 (omega arith, omega (arith, h))));
      same_flow = λ side row other turn h k l same end e. t.back row other (omega (arith, k)) (omega (arith, l)) same 0 (omega arith);
      jam_last = λ side row other turn h k last.
          let place = t.place row (omega (arith, k)) in let jam = t.jam in let is : other ≡ length (gate_rows g.allowed) = omega (arith, last) in rw (is, jam) place;
      grouped = record {
        group_in = λ side row h k. k;
        few_groups = λ side h. omega arith;
        apart_end = λ side row end h k is. absurd cc;
        common_mark = λ side row end h k e other. refl;
        given_alike = λ side row other end at gives none. (refl, refl);
        let_in_alike = λ side row other end item at takes. refl;
        decides_alike = λ side row other end giver at takes gives is. absurd cc;
      };
      from_end = λ side row end from at is. absurd cc;
      from_takes = λ side row end from at is. absurd cc;
      from_flows = λ side row end from at is. absurd cc;
      from_none = λ side row end other at is of_side. at.gives;
      given_alone = λ side row end at is. refl;
      given_for = λ side row end from item at is. absurd cc;
      given_for_none = λ side row end from at is. absurd cc;
    }

-- Whatever rows are allowed, the shape is the same.
pub gate_shape : (g : Gate) (allowed : GateRows) → SameShape (gate_behaviour g) (gate_behaviour (with_allowed allowed g))
gate_shape g allowed = record { ends = refl; sides = refl; side_of = λ _. refl; takes_in = λ _. refl; leads = λ _. refl }

-- And so is what is done with items.
pub gate_alike : (g : Gate) (allowed : GateRows) → TreatsAlike (gate_behaviour g) (gate_behaviour (with_allowed allowed g))
gate_alike g allowed = record { passes = λ side row end item. refl; from = λ side row end. refl; given = λ side row end from taken is. refl }
