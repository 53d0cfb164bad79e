-- The beginning of a search.
use Rattle.std.proofs.Common.{◌≡◌, inl, inr, ℕ, zero, suc, ◌<◌, ◌+◌, Bool, true, List, [], length, get_or, replicate, refl, ap, sym, ◌∙◌, subst, arith}
use Rattle.std.proofs.lemmas.Bool.{both_ways, cases_lt}
use Rattle.std.proofs.lemmas.List.{get_or_past, length-replicate}
use Rattle.reo_values.specs.declared.value.Value.{Value}
use Rattle.reo_net_base.specs.Net.{Net, all_sides, no_side, row_count}
use Rattle.reo_net_base.specs.Sides.{side_count}
use Rattle.reo_net_circuit.specs.found_ends.Ends.{AreEnds}
use Rattle.reo_joint_values.specs.declared.value.JointValue.{JointValue}
use Rattle.reo_joint_values.specs.Values.{Names, Family}
use Rattle.reo_side_tables.specs.declared.board.Board.{Board}
use Rattle.reo_side_tables.specs.Boards.{AreBoards}
use Rattle.reo_side_tables.specs.Listing.{StandsIn}
use Rattle.reo_side_tables.specs.Marks.{IsJointOf}
use Rattle.reo_rows.specs.declared.rows.Rows.{Rows}
use Rattle.reo_rows.specs.RowFlags.{flag}
use Rattle.reo_rows.specs.Sets.{code_of, family_of, names_of, IsReady}
use Rattle.reo_rows.specs.Rows.{AreTables, AreLive}
use Rattle.reo_propagate.specs.declared.state.State.{State}
use Rattle.reo_propagate.specs.Queues.{among}
use Rattle.reo_propagate.specs.Beginning.{AreFlags, IsSearch}
use Rattle.reo_propagate.specs.Setting.{AreRowsSet, IsOfFirst, AreFresh}
use Rattle.reo_propagate.proofs.Among.{among_at, among_stands}

ever_true : (n k : ℕ) → get_or (replicate n true) k true ≡ true
ever_true zero k = refl
ever_true (suc n) zero = refl
ever_true (suc n) (suc k) = ever_true n k

-- Where all rows of a side have their flags, those that work have.
all_live : (net : Net) (items : List (List Value)) (names : Names) (family : Family) (rows : Rows) → AreTables net items rows
    → (side : ℕ) → ((row : ℕ) → row < length (get_or rows.live side []) → flag rows.live side row ≡ true) → AreLive net names family side rows
all_live net items names family rows tables side all row works =
    let lt : row < row_count (get_or (all_sides net.primitives) side no_side) = works.in_table no_side in
    elim (cases_lt side (side_count net)) [
      | inl there ↦ all row (omega (arith, lt, tables.width side there))
      | inr past ↦
          let none : row < row_count no_side = subst (λ x. row < row_count x) (get_or_past (all_sides net.primitives) side no_side past) lt in
          absurd (omega arith)
    ]

-- A search begins with flags of values, all rows, and all sides waiting.
pub begun : (net : Net) (boards : List Board) (ends : List (List ℕ)) (items : List (List Value)) (sides : List ℕ) (family : Family) (state : State) (count : ℕ)
    → AreBoards net boards → AreEnds net ends → length items ≡ length net.joints → AreFlags items (length items) family state.alive → AreTables net items state.rows
    → ((side row : ℕ) → row < length (get_or state.rows.live side []) → flag state.rows.live side row ≡ true)
    → count ≡ side_count net → state.queue.waits ≡ replicate count true → state.queue.line ≡ sides → IsSearch net boards ends items (among sides) state
begun net boards ends items sides family state count are_boards are_ends n flags tables all count_is waits line =
    let ever : (s : ℕ) → get_or state.queue.waits s true ≡ true = λ s. ap (λ (w : List Bool). get_or w s true) waits ∙ ever_true count s in
    record {
      ready = record {
        boards_are = are_boards;
        ends_are = are_ends;
        supply = n;
        one_set = flags.one_each ∙ n;
        width = λ j lt. flags.width j (omega (arith, lt, n));
      };
      tables = tables;
      tended = record {
        one_each = ap (λ (w : List Bool). length w) waits ∙ length-replicate count true ∙ count_is;
        works = λ s is. all_live net items (names_of items) (family_of state.alive) state.rows tables s (all s);
        at_rest = λ s is ne sleeps. absurd (both_ways (get_or state.queue.waits s true) sleeps (ever s));
        waiting = λ s is w. subst (λ (l : List ℕ). StandsIn l s) (sym line) (among_stands sides s is);
        within = λ m lt. ap (λ (l : List ℕ). among sides (get_or l m 0)) line ∙ among_at sides m (omega (arith, ap (λ (l : List ℕ). length l) line, lt));
      };
    }

-- Tables keep their places where rows are set.
tables_set : (net : Net) (items : List (List Value)) (sides : ℕ → Type 0) (old new : Rows) → AreTables net items old → AreRowsSet sides old new → AreTables net items new
tables_set net items sides old new tables set = record {
  sides = set.live.alike.rows ∙ tables.sides;
  width = λ side lt. set.live.alike.width side ∙ tables.width side lt;
  noted = ap length set.notes ∙ tables.noted;
  groups = λ side lt. ap (λ l. length (get_or l side [])) set.notes ∙ tables.groups side lt;
  joints = ap length set.seen ∙ tables.joints;
  values = λ j lt. ap (λ l. length (get_or l j [])) set.seen ∙ tables.values j lt;
}

-- A search begins anew at some sides.
module _ (net : Net) (boards : List Board) (ends : List (List ℕ)) (items : List (List Value)) (sides : List ℕ) (old fresh : State) (ready : IsReady net boards ends items old.alive)
    (tables : AreTables net items old.rows) (waits : length old.queue.waits ≡ side_count net) (are : AreFresh net sides (length sides) old fresh) where
  still_ready : IsReady net boards ends items fresh.alive
  still_ready = record {
    boards_are = ready.boards_are;
    ends_are = ready.ends_are;
    supply = ready.supply;
    one_set = are.alive.alike.rows ∙ ready.one_set;
    width = λ j lt. are.alive.alike.width j ∙ ready.width j lt;
  }

  rows_there : (s : ℕ) → among sides s ≡ true → (row : ℕ) → row < length (get_or fresh.rows.live s []) → flag fresh.rows.live s row ≡ true
  rows_there s is row lt = are.rows.live.set s row (among_stands sides s is) lt

  waits_there : (s : ℕ) → among sides s ≡ true → get_or fresh.queue.waits s true ≡ true
  waits_there s is =
      let stands = among_stands sides s is in
      subst (λ (i : ℕ). get_or fresh.queue.waits i true ≡ true) stands.2 (are.waits stands.0 stands.1)

  pub begun_anew : (line : List ℕ) → line ≡ sides → IsSearch net boards ends items (among sides) (record { alive = fresh.alive; rows = fresh.rows; queue = record { waits = fresh.queue.waits; line = line } })
  begun_anew line same = record {
    ready = still_ready;
    tables = tables_set net items (IsOfFirst sides (length sides)) old.rows fresh.rows tables are.rows;
    tended = record {
      one_each = are.one_each ∙ waits;
      works = λ s is. all_live net items (names_of items) (family_of fresh.alive) fresh.rows (tables_set net items (IsOfFirst sides (length sides)) old.rows fresh.rows tables are.rows) s (rows_there s is);
      at_rest = λ s is ne sleeps. absurd (both_ways (get_or fresh.queue.waits s true) sleeps (waits_there s is));
      waiting = λ s is w. subst (λ (l : List ℕ). StandsIn l s) (sym same) (among_stands sides s is);
      within = λ m lt. ap (λ (l : List ℕ). among sides (get_or l m 0)) same ∙ among_at sides m (omega (arith, ap (λ (l : List ℕ). length l) same, lt));
    };
  }

  -- All values at the joints of these sides are there.
  pub values_there : (j side : ℕ) (v : JointValue) → IsJointOf net side j → among sides side ≡ true → code_of v < length (get_or items j []) + 4 → family_of fresh.alive j v ≡ true
  values_there j side v of is lt =
      let stands = among_stands sides side is in
      are.alive.set j (code_of v) (stands.0, stands.1, subst (λ (s : ℕ). IsJointOf net s j) (sym stands.2) of) (omega (arith, lt, are.alive.alike.width j, ready.width j of.in_range))
