-- Forms of one number have one table.
use Rattle.std.proofs.Common.{◌≡◌, ℕ, zero, suc, ◌+◌, ◌-◌, ◌%◌, ◌≤◌, cond, nat_lt, refl, sym, ap, ◌∙◌, subst, arith}
use Rattle.reo_net_base.specs.declared.branches.Branches.{Branches}
use Rattle.reo_net_base.specs.declared.table.Table.{Table}
use Rattle.reo_net_base.specs.declared.table.Table.TheVariants.{Ready, Resting, Together, Lossy, OneOfTwo, Filter, Spent}
use Rattle.reo_net_base.specs.declared.form.Form.{Form}
use Rattle.reo_net_base.specs.declared.form.Form.TheVariants.{Single, Double, Merging, Replicating}
use Rattle.reo_net_base.specs.Branching.{merger_mark, merger_class, replicator_mark, replicator_class}
use Rattle.reo_net_base.specs.Tables.{place_in}
use Rattle.reo_net_base.specs.Forms.{rows_by, mark_by, class_by, number_in, IsPlaceOf}
use Rattle.reo_net_base.specs.SameTables.{HaveOneRest, OneNumberOneTable}

-- The places of tables are numbers up to 6.
pub few_places : (t : Table) → place_in t ≤ 6
few_places Ready = omega arith
few_places Resting = omega arith
few_places Together = omega arith
few_places Lossy = omega arith
few_places OneOfTwo = omega arith
few_places Filter = omega arith
few_places Spent = omega arith

-- The table at a place.
table_at : ℕ → Table
table_at zero = Ready
table_at (suc zero) = Resting
table_at (suc (suc zero)) = Together
table_at (suc (suc (suc zero))) = Lossy
table_at (suc (suc (suc (suc zero)))) = OneOfTwo
table_at (suc (suc (suc (suc (suc zero))))) = Filter
table_at (suc (suc (suc (suc (suc (suc k)))))) = Spent

table_back : (t : Table) → table_at (place_in t) ≡ t
unfolding table_at
table_back Ready = refl
table_back Resting = refl
table_back Together = refl
table_back Lossy = refl
table_back OneOfTwo = refl
table_back Filter = refl
table_back Spent = refl

table_is : (t s : Table) → place_in t ≡ place_in s → t ≡ s
table_is t s same = sym (table_back t) ∙ ap table_at same ∙ table_back s

-- What two forms say of a side of this number.
record SayOne (form other : Form) (turn later : ℕ) : Type 0 where
  rows : rows_by other ≡ rows_by form
  mark : (row end : ℕ) → mark_by other row end ≡ mark_by form row end
  class : (row : ℕ) → class_by other row later ≡ class_by form row turn
  place : (side end : ℕ) → IsPlaceOf form side end → IsPlaceOf other side end

module _ (turn later : ℕ) where
  single_one : (t s : Table) → t ≡ s → SayOne (Single t) (Single s) turn later
  single_one t s same = subst (λ (x : Table). SayOne (Single t) (Single x) turn later) same
      (record { rows = refl; mark = λ row end. refl; class = λ row. refl; place = λ side end is. is })

  double_one : (t s : Table) → t ≡ s → SayOne (Double t) (Double s) turn later
  double_one t s same = subst (λ (x : Table). SayOne (Double t) (Double x) turn later) same
      (record { rows = refl; mark = λ row end. refl; class = λ row. refl; place = λ side end is. is })

  merging_one : (b c : Branches) → b.count ≡ c.count → HaveOneRest (Merging b) turn later → SayOne (Merging b) (Merging c) turn later
  merging_one b c same rest = record {
    rows = ap (λ n. n + 3) (sym same);
    mark = λ row end. ap (λ n. merger_mark n row end) (sym same);
    class = λ row. ap (λ n. merger_class n row later) (sym same)
        ∙ ap (λ k. cond (nat_lt row b.count) ((row + b.count - k) % b.count) (cond (nat_lt row (b.count + 2)) b.count (b.count + 1))) (sym rest);
    place = λ side end is. omega (arith, is, same);
  }

  replicating_one : (b c : Branches) → b.count ≡ c.count → SayOne (Replicating b) (Replicating c) turn later
  replicating_one b c same = record {
    rows = ap (λ n. n + 3) (sym same);
    mark = λ row end. ap (λ n. replicator_mark n row end) (sym same);
    class = λ row. ap (λ n. replicator_class n row) (sym same);
    place = λ side end is. omega (arith, is, same);
  }

  say_one : (form other : Form) → number_in form ≡ number_in other → HaveOneRest form turn later → SayOne form other turn later
  say_one (Single t) (Single s) same rest = single_one t s (table_is t s same)
  say_one (Single t) (Double s) same rest = let few = few_places t in absurd (omega (arith, same, few))
  say_one (Single t) (Merging c) same rest = let few = few_places t in absurd (omega (arith, same, few))
  say_one (Single t) (Replicating c) same rest = let few = few_places t in absurd (omega (arith, same, few))
  say_one (Double t) (Single s) same rest = let few = few_places s in absurd (omega (arith, same, few))
  say_one (Double t) (Double s) same rest = double_one t s (table_is t s (omega (arith, same)))
  say_one (Double t) (Merging c) same rest = let few = few_places t in absurd (omega (arith, same, few))
  say_one (Double t) (Replicating c) same rest = let few = few_places t in absurd (omega (arith, same, few))
  say_one (Merging b) (Single s) same rest = let few = few_places s in absurd (omega (arith, same, few))
  say_one (Merging b) (Double s) same rest = let few = few_places s in absurd (omega (arith, same, few))
  say_one (Merging b) (Merging c) same rest = merging_one b c (omega (arith, same)) rest
  say_one (Merging b) (Replicating c) same rest = absurd (omega (arith, same))
  say_one (Replicating b) (Single s) same rest = let few = few_places s in absurd (omega (arith, same, few))
  say_one (Replicating b) (Double s) same rest = let few = few_places s in absurd (omega (arith, same, few))
  say_one (Replicating b) (Merging c) same rest = absurd (omega (arith, same))
  say_one (Replicating b) (Replicating c) same rest = replicating_one b c (omega (arith, same))

pub one_table : OneNumberOneTable
one_table form other number turn later rest b d side here there =
    let one = say_one turn later form other number rest in
    record {
      rows = there.rows ∙ one.rows ∙ sym here.rows;
      mark = λ row end row_in is.
          let end_there = (there.ends end).1 (one.place side end ((here.ends end).0 is)) in
          there.mark row end (rw (there.rows, one.rows, ← here.rows) row_in) end_there ∙ one.mark row end ∙ sym (here.mark row end row_in is);
      class = λ row row_in.
          there.class row later (rw (there.rows, one.rows, ← here.rows) row_in) ∙ one.class row ∙ sym (here.class row turn row_in);
    }
