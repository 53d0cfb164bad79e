-- Cells that are shown are the entries of a line.
use Rattle.std.proofs.Common.{◌≡◌, ◌∙◌, ◌⊎◌, inl, inr, ℕ, zero, suc, ◌+◌, ◌<◌, ◌≤◌, ◌^◌, Bool, true, false, cond, List, [], ◌∷◌, ◌++◌, length, get_or, take, drop, map, ap, sym, subst, refl, arith, append_assoc, append-nil}
use Rattle.std.specs.Prelude.{◌==◌, codes, if◌then◌else◌}
use Rattle.std.specs.Fmt.{decimal}
use Rattle.std.specs.List.{All, flat_map, range_with_len}
use Rattle.std.proofs.lemmas.Bool.{eqb-false, ne_eqb}
use Rattle.std.proofs.lemmas.List.{get_or-drop, length-append}
use Rattle.std.proofs.lemmas.List.FromFn.{get_or-map-range_with_len}
use Rattle.std.proofs.lemmas.List.Elements.{All-append, All-from_get_or, All-get_or, All-nil}
use Rattle.reo_net_base.specs.declared.joint.Joint.{Joint}
use Rattle.reo_net_base.specs.declared.colouring.Chosen.{Chosen}
use Rattle.reo_net_base.specs.Behaviour.{Behaviour}
use Rattle.reo_net_base.specs.Colouring.{AreRows}
use Rattle.reo_net_base.specs.Net.{Net, Side, all_sides, behaviour_at, first_side, no_side, row_count, sides_of}
use Rattle.reo_net_base.specs.Wired.{IsWired}
use Rattle.reo_net_laws.proofs.Sides.{side_count}
use Rattle.reo_trace.specs.declared.line.Cell.TheVariants.{Row, Jam}
use Rattle.reo_trace.specs.declared.line.Entry.{Entry}
use Rattle.reo_trace.specs.declared.line.Entry.TheVariants.{One, Two}
use Rattle.reo_trace.specs.Entries.{cell_of, entries_of, entry_at, entry_of}
use Rattle.reo_trace.specs.RoundText.{cell_text, entry_text}
use Rattle.reo_trace.specs.Spaced.{spaced}
use Rattle.reo_trace.specs.cells.Texts.{before_side, befores, cells_text, code_text, jam_code}

-- Entries with a space before each.
abbrev led : List Entry → List ℕ
led es = flat_map (λ e. 32 ∷ entry_text e) es

spaced-led : (e : Entry) (es : List Entry) → 32 ∷ spaced entry_text (e ∷ es) ≡ led (e ∷ es)
spaced-led e [] = ap (λ xs. 32 ∷ xs) (sym (append-nil (entry_text e)))
spaced-led e (f ∷ es) = ap (λ xs. 32 ∷ (entry_text e ++ xs)) (spaced-led f es)

-- The rows of the first of some primitives, and the entries of them all.
abbrev chosen_first : Behaviour → List ℕ → Chosen
chosen_first b rows = record { first = get_or rows 0 0; second = cond (b.sides == 2) (get_or rows 1 0) 0 }

abbrev by_list : List Behaviour → List ℕ → List Entry
by_list [] rows = []
by_list (b ∷ bs) rows = entry_of b (chosen_first b rows) ∷ by_list bs (drop b.sides rows)

entry-first : (b : Behaviour) (bs : List Behaviour) (js : List Joint) (rows : List ℕ) → entry_at (record { primitives = b ∷ bs; joints = js }) rows 0 ≡ entry_of b (chosen_first b rows)
unfolding entry_at
entry-first b bs js rows = refl

entry-later : (b : Behaviour) (bs : List Behaviour) (js : List Joint) (rows : List ℕ) (i : ℕ)
    → entry_at (record { primitives = b ∷ bs; joints = js }) rows (suc i) ≡ entry_at (record { primitives = bs; joints = js }) (drop b.sides rows) i
unfolding entry_at
entry-later b bs js rows i =
    let at : first_side (b ∷ bs) (suc i) ≡ b.sides + first_side bs i = length-append (sides_of b) (flat_map sides_of (take i bs)) ∙ ap (λ n. n + first_side bs i) (side_count b) in
    let one : get_or rows (first_side (b ∷ bs) (suc i)) 0 ≡ get_or (drop b.sides rows) (first_side bs i) 0 = ap (λ n. get_or rows n 0) at ∙ sym (get_or-drop b.sides rows (first_side bs i) 0) in
    let next : first_side (b ∷ bs) (suc i) + 1 ≡ b.sides + (first_side bs i + 1) = omega (arith, at) in
    let two : get_or rows (first_side (b ∷ bs) (suc i) + 1) 0 ≡ get_or (drop b.sides rows) (first_side bs i + 1) 0 = ap (λ n. get_or rows n 0) next ∙ sym (get_or-drop b.sides rows (first_side bs i + 1) 0) in
    λ t. entry_of (behaviour_at bs i) (record { first = one t; second = cond ((behaviour_at bs i).sides == 2) (two t) 0 })

map-later : (f g : ℕ → Entry) (a n : ℕ) → ((i : ℕ) → f (suc i) ≡ g i) → map f (range_with_len (suc a) n) ≡ map g (range_with_len a n)
map-later f g a zero same = refl
map-later f g a (suc n) same =
    let next : suc a + 1 ≡ suc (a + 1) = omega arith in
    ap (λ e. e ∷ map f (range_with_len (suc a + 1) n)) (same a) ∙ ap (λ k. g a ∷ map f (range_with_len k n)) next ∙ ap (λ es. g a ∷ es) (map-later f g (a + 1) n same)

entries-by_list : (bs : List Behaviour) (js : List Joint) (rows : List ℕ) → entries_of (record { primitives = bs; joints = js }) rows ≡ by_list bs rows
entries-by_list [] js rows = refl
entries-by_list (b ∷ bs) js rows =
    ap (λ e. e ∷ map (entry_at (record { primitives = b ∷ bs; joints = js }) rows) (range_with_len 1 (length bs))) (entry-first b bs js rows)
    ∙ ap (λ es. entry_of b (chosen_first b rows) ∷ es)
    (map-later (entry_at (record { primitives = b ∷ bs; joints = js }) rows) (entry_at (record { primitives = bs; joints = js }) (drop b.sides rows)) 0 (length bs) (entry-later b bs js rows)
    ∙ entries-by_list bs js (drop b.sides rows))

-- The text of sides, by their rows.
abbrev told : List Side → List ℕ → List ℕ
told [] rows = []
told (s ∷ ss) [] = []
told (s ∷ ss) (r ∷ rs) = before_side s ∷ (cell_text (cell_of s.of s.number r) ++ told ss rs)

abbrev zeroth : Behaviour → Side
zeroth b = record { of = b; number = 0 }

abbrev first : Behaviour → Side
first b = record { of = b; number = 1 }

told-one : (b : Behaviour) (ss : List Side) (rows : List ℕ) → AreRows (zeroth b ∷ ss) rows → told (zeroth b ∷ ss) rows ≡ 32 ∷ (entry_text (One (cell_of b 0 (get_or rows 0 0))) ++ told ss (drop 1 rows))
unfolding entry_text
told-one b ss [] are = absurd are
told-one b ss (r ∷ rs) are = refl

told-two : (b : Behaviour) (ss : List Side) (rows : List ℕ) → AreRows (zeroth b ∷ first b ∷ ss) rows
    → told (zeroth b ∷ first b ∷ ss) rows ≡ 32 ∷ (entry_text (Two (cell_of b 0 (get_or rows 0 0)) (cell_of b 1 (get_or rows 1 0))) ++ told ss (drop 2 rows))
unfolding entry_text
told-two b ss [] are = absurd are
told-two b ss (r ∷ []) are = absurd are.1
told-two b ss (r ∷ q ∷ rs) are =
    ap (λ xs. 32 ∷ xs) (sym (append_assoc (cell_text (cell_of b 0 r)) (46 ∷ cell_text (cell_of b 1 q)) (told ss rs)))

rows-later : (s : Side) (ss : List Side) (rows : List ℕ) → AreRows (s ∷ ss) rows → AreRows ss (drop 1 rows)
rows-later s ss [] are = absurd are
rows-later s ss (r ∷ rs) are = are.1

rows-later_two : (s t : Side) (ss : List Side) (rows : List ℕ) → AreRows (s ∷ t ∷ ss) rows → AreRows ss (drop 2 rows)
rows-later_two s t ss [] are = absurd are
rows-later_two s t ss (r ∷ []) are = absurd are.1
rows-later_two s t ss (r ∷ q ∷ rs) are = are.1.1

-- Each primitive has one side or two.
abbrev AreFew : List Behaviour → Type 0
AreFew bs = (i : ℕ) → i < length bs → ((behaviour_at bs i).sides ≡ 1) ⊎ ((behaviour_at bs i).sides ≡ 2)

sides_are : (b : Behaviour) (bs : List Behaviour) (n : ℕ) → b.sides ≡ n → all_sides (b ∷ bs) ≡ map (λ s. record { of = b; number = s }) (range_with_len 0 n) ++ all_sides bs
sides_are b bs n e = ap (λ k. map (λ s. record { of = b; number = s }) (range_with_len 0 k) ++ all_sides bs) e

entry_is : (b : Behaviour) (rows : List ℕ) (n : ℕ) → b.sides ≡ n
    → entry_of b (chosen_first b rows) ≡ cond (n == 2) (Two (cell_of b 0 (get_or rows 0 0)) (cell_of b 1 (cond (n == 2) (get_or rows 1 0) 0))) (One (cell_of b 0 (get_or rows 0 0)))
entry_is b rows n e = ap (λ k. cond (k == 2) (Two (cell_of b 0 (get_or rows 0 0)) (cell_of b 1 (cond (k == 2) (get_or rows 1 0) 0))) (One (cell_of b 0 (get_or rows 0 0)))) e

one_side : (b : Behaviour) (bs : List Behaviour) (rows : List ℕ) → b.sides ≡ 1 → AreRows (all_sides (b ∷ bs)) rows
    → ((rest : List ℕ) → AreRows (all_sides bs) rest → told (all_sides bs) rest ≡ led (by_list bs rest))
    → told (all_sides (b ∷ bs)) rows ≡ led (by_list (b ∷ bs) rows)
one_side b bs rows e are later =
    let these : AreRows (zeroth b ∷ all_sides bs) rows = subst (λ (ss : List Side). AreRows ss rows) (sides_are b bs 1 e) are in
    ap (λ (ss : List Side). told ss rows) (sides_are b bs 1 e) ∙ told-one b (all_sides bs) rows these
    ∙ ap (λ xs. 32 ∷ (entry_text (One (cell_of b 0 (get_or rows 0 0))) ++ xs)) (later (drop 1 rows) (rows-later (zeroth b) (all_sides bs) rows these))
    ∙ ap (λ (x : Entry). 32 ∷ (entry_text x ++ led (by_list bs (drop 1 rows)))) (sym (entry_is b rows 1 e))
    ∙ ap (λ n. 32 ∷ (entry_text (entry_of b (chosen_first b rows)) ++ led (by_list bs (drop n rows)))) (sym e)

two_sides : (b : Behaviour) (bs : List Behaviour) (rows : List ℕ) → b.sides ≡ 2 → AreRows (all_sides (b ∷ bs)) rows
    → ((rest : List ℕ) → AreRows (all_sides bs) rest → told (all_sides bs) rest ≡ led (by_list bs rest))
    → told (all_sides (b ∷ bs)) rows ≡ led (by_list (b ∷ bs) rows)
two_sides b bs rows e are later =
    let these : AreRows (zeroth b ∷ first b ∷ all_sides bs) rows = subst (λ (ss : List Side). AreRows ss rows) (sides_are b bs 2 e) are in
    ap (λ (ss : List Side). told ss rows) (sides_are b bs 2 e) ∙ told-two b (all_sides bs) rows these
    ∙ ap (λ xs. 32 ∷ (entry_text (Two (cell_of b 0 (get_or rows 0 0)) (cell_of b 1 (get_or rows 1 0))) ++ xs))
    (later (drop 2 rows) (rows-later_two (zeroth b) (first b) (all_sides bs) rows these))
    ∙ ap (λ (x : Entry). 32 ∷ (entry_text x ++ led (by_list bs (drop 2 rows)))) (sym (entry_is b rows 2 e))
    ∙ ap (λ n. 32 ∷ (entry_text (entry_of b (chosen_first b rows)) ++ led (by_list bs (drop n rows)))) (sym e)

told-entries : (bs : List Behaviour) (rows : List ℕ) → AreFew bs → AreRows (all_sides bs) rows → told (all_sides bs) rows ≡ led (by_list bs rows)
told-entries [] [] few are = refl
told-entries [] (r ∷ rs) few are = absurd are
told-entries (b ∷ bs) rows few are =
    let later = λ (rest : List ℕ) (these : AreRows (all_sides bs) rest). told-entries bs rest (λ i lt. few (suc i) (omega arith)) these in
    elim (few zero (omega arith)) [ inl e ↦ one_side b bs rows e are later | inr e ↦ two_sides b bs rows e are later ]

-- The code of the cell of a side by its row.
abbrev code_for : Side → ℕ → ℕ
code_for side row = if (row + 1) == row_count side then jam_code else row

code_by : (row : ℕ) (last : Bool) → (last ≡ false → row < jam_code) → code_text (cond last jam_code row) ≡ cell_text (cond last Jam (Row row))
code_by row true few = refl
code_by row false few = ap (λ (t : Bool). cond t (codes "j") (decimal row)) (ne_eqb row jam_code (λ same. let lt = few refl in omega (arith, lt, same)))

code_for-text : (side : Side) (row : ℕ) → row < row_count side → row_count side < 2 ^ 32 → code_text (code_for side row) ≡ cell_text (cell_of side.of side.number row)
code_for-text side row lt few =
    code_by row ((row + 1) == row_count side) (λ not_last. let apart = eqb-false (row + 1) (row_count side) not_last in omega (arith, apart))

shown-told : (ss : List Side) (rows cells : List ℕ) → AreRows ss rows → length cells ≡ length ss
    → ((k : ℕ) → k < length ss → row_count (get_or ss k no_side) < 2 ^ 32)
    → ((k : ℕ) → k < length ss → get_or cells k 0 ≡ code_for (get_or ss k no_side) (get_or rows k 0))
    → cells_text (map before_side ss) cells ≡ told ss rows
shown-told [] rows cells are count few shown = refl
shown-told (s ∷ ss) [] cells are count few shown = absurd are
shown-told (s ∷ ss) (r ∷ rs) [] are count few shown = absurd (omega arith)
shown-told (s ∷ ss) (r ∷ rs) (c ∷ cs) are count few shown =
    let here : code_text c ≡ cell_text (cell_of s.of s.number r) = ap code_text (shown zero (omega arith)) ∙ code_for-text s r are.0 (few zero (omega arith)) in
    let rest = shown-told ss rs cs are.1 (omega arith) (λ k lt. few (suc k) (omega arith)) (λ k lt. shown (suc k) (omega arith)) in
    ap (λ xs. before_side s ∷ (xs ++ cells_text (map before_side ss) cs)) here ∙ ap (λ xs. before_side s ∷ (cell_text (cell_of s.of s.number r) ++ xs)) rest

-- The laws of each circuit: one side or two, and fewer rows than there are codes.
one_or_two : (n : ℕ) → 0 < n → n ≤ 2 → (n ≡ 1) ⊎ (n ≡ 2)
one_or_two zero some few = absurd (omega arith)
one_or_two (suc zero) some few = inl refl
one_or_two (suc (suc zero)) some few = inr refl
one_or_two (suc (suc (suc n))) some few = absurd (omega arith)

few_sides : (net : Net) → IsWired net → AreFew net.primitives
few_sides net wired i lt =
    let lawful = wired.lawful i lt in
    one_or_two (behaviour_at net.primitives i).sides lawful.some_side lawful.few_sides

abbrev HasFewRows : Side → Type 0
HasFewRows side = row_count side < 2 ^ 32

few_rows : (bs : List Behaviour) → ((i : ℕ) → i < length bs → (s : ℕ) → s < (behaviour_at bs i).sides → (behaviour_at bs i).rows s < 2 ^ 32) → All HasFewRows (all_sides bs)
few_rows [] each = All-nil HasFewRows
few_rows (b ∷ bs) each =
    let own : (k : ℕ) → k < length (sides_of b) → HasFewRows (get_or (sides_of b) k no_side) = λ k lt.
    let in_it : k < b.sides = omega (arith, side_count b) in
    subst HasFewRows (sym (get_or-map-range_with_len {X = Side} (λ s. record { of = b; number = s }) 0 b.sides k k no_side in_it (omega arith))) (each zero (omega arith) k in_it) in
    All-append HasFewRows (sides_of b) (all_sides bs) (All-from_get_or HasFewRows (sides_of b) no_side own) (few_rows bs (λ i l. each (suc i) (omega arith)))

barred : (bs : List Behaviour) (rows : List ℕ) (empty : Bool) → ((i : ℕ) → i < length bs → 0 < (behaviour_at bs i).sides)
    → (empty ≡ true → length (all_sides bs) ≡ 0) → (empty ≡ false → 0 < length (all_sides bs))
    → cond empty (32 ∷ []) [] ++ led (by_list bs rows) ≡ 32 ∷ spaced entry_text (by_list bs rows)
barred [] rows true each none some = refl
barred [] rows false each none some = let lt = some refl in absurd (omega (arith, lt))
barred (b ∷ bs) rows false each none some = sym (spaced-led (entry_of b (chosen_first b rows)) (by_list bs (drop b.sides rows)))
barred (b ∷ bs) rows true each none some =
    let no = none refl in
    let one = each zero (omega arith) in
    absurd (omega (arith, no, one, length-append (sides_of b) (all_sides bs), side_count b))

-- What is written after the bar: a space where there is no side, and the cells.
pub shown-entries : (net : Net) (rows cells : List ℕ) (empty : Bool) → IsWired net → AreRows (all_sides net.primitives) rows → length cells ≡ length (all_sides net.primitives)
    → ((s : ℕ) → s < length (all_sides net.primitives) → get_or cells s 0 ≡ code_for (get_or (all_sides net.primitives) s no_side) (get_or rows s 0))
    → (empty ≡ true → length cells ≡ 0) → (empty ≡ false → 0 < length cells)
    → cond empty (32 ∷ []) [] ++ cells_text (befores net) cells ≡ 32 ∷ spaced entry_text (entries_of net rows)
shown-entries net rows cells empty wired are count shown none some =
    let few = few_rows net.primitives (λ i lt. (wired.lawful i lt).few_rows) in
    let by_rows = shown-told (all_sides net.primitives) rows cells are count (λ k lt. All-get_or HasFewRows (all_sides net.primitives) k no_side lt few) shown in
    let all : cells_text (befores net) cells ≡ led (by_list net.primitives rows) = by_rows ∙ told-entries net.primitives rows (few_sides net wired) are in
    ap (λ xs. cond empty (32 ∷ []) [] ++ xs) all
    ∙ barred net.primitives rows empty (λ i lt. (wired.lawful i lt).some_side) (λ e. omega (arith, none e, count)) (λ e. omega (arith, some e, count))
    ∙ ap (λ (es : List Entry). 32 ∷ spaced entry_text es) (sym (entries-by_list net.primitives net.joints rows))
