-- One thing is wrong first with a line, and nothing with the line of a round.
use Rattle.std.proofs.Common.{◌≡◌, ◌∙◌, ap, sym, subst, refl, ℕ, List, get_or, arith}
use Rattle.std.specs.Prelude.{Option, None}
use Rattle.reo_values.specs.declared.value.Value.{Value}
use Rattle.reo_net_base.specs.Colouring.{RowsFit, IsColouring, IsFilled}
use Rattle.reo_net_base.specs.Moves.{moves_of}
use Rattle.reo_net_base.specs.Net.{Net}
use Rattle.reo_net_laws.proofs.Orders.{no_joint}
use Rattle.reo_net.proofs.colouring.ItemLemmas.{filled_from}
use Rattle.reo_checker.specs.declared.wrong.Wrong.{Wrong}
use Rattle.reo_checker.specs.declared.wrong.Wrong.TheVariants.{Count, Row, Joint, Item}
use Rattle.reo_checker.specs.Faults.{IsJointFault, IsItemFault}
use Rattle.reo_checker.proofs.FirstFaults.{not_apart, joint_earlier, item_earlier}
use Rattle.reo_checker.proofs.ExactLemmas.{fails_fits}
use Rattle.reo_trace.specs.declared.line.Cell.TheVariants as cells
use Rattle.reo_trace.specs.declared.line.Entry.{Entry}
use Rattle.reo_trace.specs.declared.line.RoundLine.{RoundLine}
use Rattle.reo_trace.specs.Entries.{line_for}
use Rattle.reo_rounds.specs.Order.{HasOrder}
use Rattle.reo_runs.specs.declared.verdicts.verdict.Refusal.{Refusal}
use Rattle.reo_runs.specs.declared.verdicts.verdict.Refusal.TheVariants as refusals
use Rattle.reo_runs.specs.verdicts.Said.{HasRows, HasNoRow, AreSaid}
use Rattle.reo_runs.specs.verdicts.Wrongs.{IsRowBreak, IsWrongWith, HasWrongMoves, node_of, IsWrongRound}
use Rattle.reo_runs.proofs.verdicts.SaidLemmas.{one_said, said_counted, said_rows}
use Rattle.reo_runs.proofs.verdicts.ItemLemmas.{one_filled}

not_out : (net : Net) (entries : List Entry) (i : ℕ) → HasNoRow net entries i → HasRows net entries i → ⊥
not_out net entries i out are =
    let within = are out.entry out.side (cells.Row out.row) out.entry_is out.cell_is in
    absurd (omega (arith, within, out.out))

one_row : (net : Net) (entries : List Entry) (i k : ℕ) → IsRowBreak net entries i → IsRowBreak net entries k → i ≡ k
one_row net entries i k p q = not_apart i k (λ lt. not_out net entries i p.out (q.before i lt)) (λ lt. not_out net entries k q.out (p.before k lt))

one_joint : (net : Net) (rows : List ℕ) (i k : ℕ) → IsJointFault net rows i → IsJointFault net rows k → i ≡ k
one_joint net rows i k p q = not_apart i k (joint_earlier net rows i k p q) (joint_earlier net rows k i q p)

one_item : (net : Net) (rows : List ℕ) (items : List (Option Value)) (i k : ℕ) → IsItemFault net rows items i → IsItemFault net rows items k → i ≡ k
one_item net rows items i k p q = not_apart i k (item_earlier net rows items i k p q) (item_earlier net rows items k i q p)

no_joint_fault : (net : Net) (rows : List ℕ) (j : ℕ) → RowsFit net rows → IsJointFault net rows j → ⊥
no_joint_fault net rows j fit fault =
    let clash = fault.clashes no_joint in
    let match = fit.matched j no_joint fault.in_range in
    absurd cc

module _ (net : Net) (ordered : HasOrder net) (entries : List Entry) where
  no_break : (rows : List ℕ) (i : ℕ) → AreSaid net entries rows → IsRowBreak net entries i → ⊥
  no_break rows i said broken = not_out net entries i broken.out (said_rows net ordered.wired entries rows said i broken.in_range)

  fit_same : (rows others : List ℕ) → AreSaid net entries rows → AreSaid net entries others → RowsFit net others → RowsFit net rows
  fit_same rows others said also fit = subst (RowsFit net) (one_said net ordered.wired entries others rows also said) fit

  one_joint_said : (i k : ℕ) → IsWrongWith net entries (Joint i) → IsWrongWith net entries (Joint k) → i ≡ k
  one_joint_said i k p q =
      one_joint net p.0 i k p.2 (subst (λ (rows : List ℕ). IsJointFault net rows k) (one_said net ordered.wired entries q.0 p.0 q.1 p.1) q.2)

  one_item_said : (i k : ℕ) → IsWrongWith net entries (Item i) → IsWrongWith net entries (Item k) → i ≡ k
  one_item_said i k p q =
      let rows : q.0 ≡ p.0 = one_said net ordered.wired entries q.0 p.0 q.2 p.2 in
      let filled : IsFilled net p.0 q.1 = subst (λ (xs : List ℕ). IsFilled net xs q.1) rows q.4 in
      let fault : IsItemFault net p.0 q.1 k = subst (λ (xs : List ℕ). IsItemFault net xs q.1 k) rows q.5 in
      let items : q.1 ≡ p.1 = one_filled net ordered p.0 p.3.in_tables q.1 p.1 filled p.4 in
      one_item net p.0 p.1 i k p.5 (subst (λ (xs : List (Option Value)). IsItemFault net p.0 xs k) items fault)

  -- One thing is wrong first with entries.
  pub one_wrong : (a b : Wrong) → IsWrongWith net entries a → IsWrongWith net entries b → a ≡ b
  one_wrong Count Count p q = refl
  one_wrong Count (Row k) p q = absurd (p q.0)
  one_wrong Count (Joint k) p q = absurd (p (said_counted net ordered.wired entries q.0 q.1))
  one_wrong Count (Item k) p q = absurd (p (said_counted net ordered.wired entries q.0 q.2))
  one_wrong (Row i) Count p q = absurd (q p.0)
  one_wrong (Row i) (Row k) p q = ap (λ (n : ℕ). Row n) (one_row net entries i k p.1 q.1)
  one_wrong (Row i) (Joint k) p q = absurd (no_break q.0 i q.1 p.1)
  one_wrong (Row i) (Item k) p q = absurd (no_break q.0 i q.2 p.1)
  one_wrong (Joint i) Count p q = absurd (q (said_counted net ordered.wired entries p.0 p.1))
  one_wrong (Joint i) (Row k) p q = absurd (no_break p.0 k p.1 q.1)
  one_wrong (Joint i) (Joint k) p q = ap (λ (n : ℕ). Joint n) (one_joint_said i k p q)
  one_wrong (Joint i) (Item k) p q = absurd (no_joint_fault net p.0 i (fit_same p.0 q.0 p.1 q.2 q.3) p.2)
  one_wrong (Item i) Count p q = absurd (q (said_counted net ordered.wired entries p.0 p.2))
  one_wrong (Item i) (Row k) p q = absurd (no_break p.0 k p.2 q.1)
  one_wrong (Item i) (Joint k) p q = absurd (no_joint_fault net q.0 k (fit_same q.0 p.0 q.1 p.2 p.3) q.2)
  one_wrong (Item i) (Item k) p q = ap (λ (n : ℕ). Item n) (one_item_said i k p q)

  -- Entries of a colouring say no other one.
  pub one_colouring_said : (rows others : List ℕ) (items other_items : List (Option Value)) → AreSaid net entries rows → AreSaid net entries others
      → IsColouring net rows items → IsColouring net others other_items → (rows ≡ others) × (items ≡ other_items)
  one_colouring_said rows others items other_items said also col other =
      let same : rows ≡ others = one_said net ordered.wired entries rows others said also in
      let moved : IsColouring net others items = subst (λ (xs : List ℕ). IsColouring net xs items) same col in
      (same, one_filled net ordered others other.rows_fit.in_tables items other_items (filled_from net others items moved) (filled_from net others other_items other))

  -- Nothing is wrong with the entries of a colouring.
  pub none_wrong : (rows : List ℕ) (items : List (Option Value)) → AreSaid net entries rows → IsColouring net rows items → (wrong : Wrong) → IsWrongWith net entries wrong → ⊥
  none_wrong rows items said col Count p = p (said_counted net ordered.wired entries rows said)
  none_wrong rows items said col (Row i) p = no_break rows i said p.1
  none_wrong rows items said col (Joint j) p = no_joint_fault net p.0 j (fit_same p.0 rows p.1 said col.rows_fit) p.2
  none_wrong rows items said col (Item j) p =
      let same : p.0 ≡ rows = one_said net ordered.wired entries p.0 rows p.2 said in
      let filled : IsFilled net rows p.1 = subst (λ (xs : List ℕ). IsFilled net xs p.1) same p.4 in
      let fault : IsItemFault net rows p.1 j = subst (λ (xs : List ℕ). IsItemFault net xs p.1 j) same p.5 in
      let items_same : p.1 ≡ items = one_filled net ordered rows col.rows_fit.in_tables p.1 items filled (filled_from net rows items col) in
      let here : IsItemFault net rows items j = subst (λ (xs : List (Option Value)). IsItemFault net rows xs j) items_same fault in
      fails_fits net rows items (get_or net.joints j no_joint) (get_or items j None) (here.fails no_joint) (col.items_fit j no_joint here.in_range)

module _ (nodes : List (List ℕ)) (homes : List ℕ) (net : Net) (ordered : HasOrder net) (ports turn : ℕ) (line : RoundLine) where
  -- One thing is wrong first with a line.
  pub one_wrong_round : (a b : Refusal) → IsWrongRound nodes homes net ports turn line a → IsWrongRound nodes homes net ports turn line b → a ≡ b
  one_wrong_round (refusals.Line number) b p q = absurd p
  one_wrong_round (refusals.Ended round) b p q = absurd p
  one_wrong_round refusals.End b p q = absurd p
  one_wrong_round (refusals.Round round wrong node) (refusals.Line number) p q = absurd q
  one_wrong_round (refusals.Round round wrong node) (refusals.Ended other) p q = absurd q
  one_wrong_round (refusals.Round round wrong node) refusals.End p q = absurd q
  one_wrong_round (refusals.Round round wrong node) (refusals.Round other cause place) p q =
      let rounds : round ≡ other = p.0 ∙ sym q.0 in
      let wrongs : wrong ≡ cause = one_wrong net ordered line.entries wrong cause p.2 q.2 in
      let places : node ≡ place = p.1 ∙ ap (node_of nodes homes) wrongs ∙ sym q.1 in
      λ i. refusals.Round (rounds i) (wrongs i) (places i)
  one_wrong_round (refusals.Round round wrong node) (refusals.Moves other) p q =
      let moves : HasWrongMoves net ports turn line = q.1 in
      absurd (none_wrong net ordered line.entries moves.0 moves.1 moves.2 moves.3 wrong p.2)
  one_wrong_round (refusals.Moves round) (refusals.Line number) p q = absurd q
  one_wrong_round (refusals.Moves round) (refusals.Ended other) p q = absurd q
  one_wrong_round (refusals.Moves round) refusals.End p q = absurd q
  one_wrong_round (refusals.Moves round) (refusals.Round other cause place) p q =
      let moves : HasWrongMoves net ports turn line = p.1 in
      absurd (none_wrong net ordered line.entries moves.0 moves.1 moves.2 moves.3 cause q.2)
  one_wrong_round (refusals.Moves round) (refusals.Moves other) p q = ap (λ (n : ℕ). refusals.Moves n) (p.0 ∙ sym q.0)

  -- Nothing is wrong with the line of a colouring.
  pub none_wrong_round : (rows : List ℕ) (items : List (Option Value)) → IsColouring net rows items → line ≡ line_for net turn rows (moves_of net ports rows items)
      → (a : Refusal) → IsWrongRound nodes homes net ports turn line a → ⊥
  none_wrong_round rows items col shown (refusals.Line number) p = p
  none_wrong_round rows items col shown (refusals.Ended round) p = p
  none_wrong_round rows items col shown refusals.End p = p
  none_wrong_round rows items col shown (refusals.Round round wrong node) p =
      let said : AreSaid net line.entries rows = record { in_tables = col.rows_fit.in_tables; shown = ap (λ (l : RoundLine). l.entries) (sym shown) } in
      none_wrong net ordered line.entries rows items said col wrong p.2
  none_wrong_round rows items col shown (refusals.Moves round) p =
      let moves : HasWrongMoves net ports turn line = p.1 in
      let said : AreSaid net line.entries rows = record { in_tables = col.rows_fit.in_tables; shown = ap (λ (l : RoundLine). l.entries) (sym shown) } in
      let same = one_colouring_said net ordered line.entries rows moves.0 items moves.1 said moves.2 col moves.3 in
      moves.4 (shown ∙ (λ i. line_for net turn (same.0 i) (moves_of net ports (same.0 i) (same.1 i))))
