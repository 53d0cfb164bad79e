-- The line of a round, with the cells that are kept.
use Rattle.std.proofs.Common.{◌≡◌, ◌∙◌, ◌++◌, ℕ, Bool, true, false, List, [], ◌∷◌, ap, refl, arith, length, append_assoc, cond}
use Rattle.std.specs.Prelude.{codes, ◌==◌}
use Rattle.std.specs.Fmt.{decimal}
use Rattle.std.proofs.lemmas.Bool.{eqb-true, eqb-false}
use Rattle.reo_net_base.specs.declared.colouring.Move.{Move}
use Rattle.reo_net_base.specs.declared.port.Port.{Port}
use Rattle.reo_net_base.specs.Net.{Net}
use Rattle.reo_net_base.specs.Sides.{AreRowsOf}
use Rattle.reo_net_base.specs.Wired.{IsWired}
use Rattle.reo_trace.specs.Entries.{entries_of, is_idle, line_for}
use Rattle.reo_trace.specs.RoundText.{entry_text, moves_text, round_text}
use Rattle.reo_trace.specs.Spaced.{spaced}
use Rattle.reo_trace.specs.declared.cells.cells.Cells.{Cells}
use Rattle.reo_trace.specs.cells.Cells.{AreCells, AreShown}
use Rattle.reo_trace.specs.cells.Texts.{bar, befores, cells_text}
use Rattle.reo_trace.proofs.cells.Laid.{bytes-length}
use Rattle.reo_trace.proofs.cells.Shown.{shown-entries}

-- The bar is a space, the bar itself and, where no cell comes, a space.
bar_parts : (none : Bool) (cells end : List ℕ) → bar none ++ (cells ++ end) ≡ 32 ∷ 124 ∷ ((cond none (32 ∷ []) [] ++ cells) ++ end)
bar_parts true cells end = refl
bar_parts false cells end = refl

tail_is : (net : Net) (rows : List ℕ) (cells : Cells) → IsWired net → AreCells net cells → AreRowsOf net rows → AreShown net rows cells
    → bar (length cells.text == 0) ++ (cells_text (befores net) cells.shown ++ codes "\n") ≡ codes " | " ++ (spaced entry_text (entries_of net rows) ++ codes "\n")
tail_is net rows cells wired are rows_are shown =
    let count = bytes-length net cells are in
    let shown_is = shown-entries net rows cells.shown (length cells.text == 0) wired rows_are are.one_each shown
    (λ e. let none = eqb-true (length cells.text) 0 e in omega (arith, none, count))
    (λ e. let some = eqb-false (length cells.text) 0 e in omega (arith, some, count)) in
    bar_parts (length cells.text == 0) (cells_text (befores net) cells.shown) (codes "\n") ∙ ap (λ (xs : List ℕ). 32 ∷ 124 ∷ (xs ++ codes "\n")) shown_is

pub line_is : (net : Net) (rows : List ℕ) (cells : Cells) (ports : List Port) (round : ℕ) (idle : Bool) (moves : List Move) (start head text : List ℕ)
    → start ≡ [] → head ≡ start ++ (codes "round " ++ (decimal round ++ (codes ": " ++ moves_text ports idle moves)))
    → text ≡ head ++ (bar (length cells.text == 0) ++ (cells_text (befores net) cells.shown ++ codes "\n"))
    → IsWired net → AreCells net cells → AreRowsOf net rows → AreShown net rows cells → idle ≡ is_idle net rows
    → text ≡ round_text ports (line_for net round rows moves)
unfolding round_text
line_is net rows cells ports round idle moves start head text a h t wired are rows_are shown still =
    let tail = tail_is net rows cells wired are rows_are shown in
    let end : List ℕ = codes " | " ++ (spaced entry_text (entries_of net rows) ++ codes "\n") in
    t ∙ ap (λ (xs : List ℕ). head ++ xs) tail ∙ ap (λ (xs : List ℕ). xs ++ end) (h ∙ ap (λ (xs : List ℕ). xs ++ (codes "round " ++ (decimal round ++ (codes ": " ++ moves_text ports idle moves)))) a)
    ∙ ap (λ (xs : List ℕ). codes "round " ++ xs) (append_assoc (decimal round) (codes ": " ++ moves_text ports idle moves) end)
    ∙ ap (λ (i : Bool). codes "round " ++ (decimal round ++ (codes ": " ++ (moves_text ports i moves ++ end)))) still
