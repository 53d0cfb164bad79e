use Rattle.std.proofs.Common.{◌≡◌, ◌∙◌, ℕ, List, [], ◌∷◌, get_or, refl}
use Rattle.std.specs.Prelude.{Some}
use Rattle.reo_draw_command.specs.declared.words.Drawing.TheVariants.{Circuit, Table, Round}
use Rattle.reo_draw_command.specs.Words.{drawing_of, names_of}
use Rattle.reo_draw_command.proofs.DrawingLemmas.{drawing_seen, none_seen, word_seen, circuit_names, table_names, round_names, answered_as, round_answered, status_as, answered_none, status_none}
use Rattle.reo_draw_command.proofs.drawing.draw.Goals as goal

pub returns-in-Some-Circuit-clause-answer : goal.returns-in-Some-Circuit-clause-answer
returns-in-Some-Circuit-clause-answer g c =
    let words : List (List ℕ) = c.args.words.now in
    let seen : List (List ℕ) = c.as_slice-words.result.now in
    let is : drawing_of words ≡ Some Circuit = drawing_seen words seen c.as_slice-words.ensures _ _ Circuit c.drawing_of.ensures c.in-Some-Circuit.is c.in-Some-Circuit.field-0-is in
    let first : get_or words 0 [] ≡ c.word_at.result.now = word_seen words seen c.as_slice-words.ensures 0 _ c.word_at.ensures in
    let named : names_of Circuit words ≡ c.word_at.result.now ∷ [] = circuit_names words is ∙ (λ i. first i ∷ []) in
    answered_as words _ _ _ Circuit (c.word_at.result.now ∷ []) is named c.draw_circuit.ensures.answered

pub returns-in-Some-Circuit-clause-status : goal.returns-in-Some-Circuit-clause-status
returns-in-Some-Circuit-clause-status g c =
    let is = drawing_seen c.args.words.now c.as_slice-words.result.now c.as_slice-words.ensures _ _ Circuit c.drawing_of.ensures c.in-Some-Circuit.is c.in-Some-Circuit.field-0-is in
    status_as c.args.words.now _ Circuit is c.draw_circuit.ensures.status

pub returns-in-Some-Table-clause-answer : goal.returns-in-Some-Table-clause-answer
returns-in-Some-Table-clause-answer g c =
    let words : List (List ℕ) = c.args.words.now in
    let seen : List (List ℕ) = c.as_slice-words.result.now in
    let is : drawing_of words ≡ Some Table = drawing_seen words seen c.as_slice-words.ensures _ _ Table c.drawing_of.ensures c.in-Some-Table.is c.in-Some-Table.field-0-is in
    let first : get_or words 0 [] ≡ c.word_at-circuit.result.now = word_seen words seen c.as_slice-words.ensures 0 _ c.word_at-circuit.ensures in
    let second : get_or words 1 [] ≡ c.word_at-script.result.now = word_seen words seen c.as_slice-words.ensures 1 _ c.word_at-script.ensures in
    let third : get_or words 2 [] ≡ c.word_at-in-Some-Table.result.now = word_seen words seen c.as_slice-words.ensures 2 _ c.word_at-in-Some-Table.ensures in
    let named : names_of Table words ≡ c.word_at-circuit.result.now ∷ c.word_at-script.result.now ∷ c.word_at-in-Some-Table.result.now ∷ [] =
    table_names words is ∙ (λ i. first i ∷ second i ∷ third i ∷ []) in
    answered_as words _ _ _ Table (c.word_at-circuit.result.now ∷ c.word_at-script.result.now ∷ c.word_at-in-Some-Table.result.now ∷ []) is named c.draw_table.ensures.answered

pub returns-in-Some-Table-clause-status : goal.returns-in-Some-Table-clause-status
returns-in-Some-Table-clause-status g c =
    let is = drawing_seen c.args.words.now c.as_slice-words.result.now c.as_slice-words.ensures _ _ Table c.drawing_of.ensures c.in-Some-Table.is c.in-Some-Table.field-0-is in
    status_as c.args.words.now _ Table is c.draw_table.ensures.status

pub returns-in-Some-Round-clause-answer : goal.returns-in-Some-Round-clause-answer
returns-in-Some-Round-clause-answer g c =
    let words : List (List ℕ) = c.args.words.now in
    let seen : List (List ℕ) = c.as_slice-words.result.now in
    let is : drawing_of words ≡ Some Round = drawing_seen words seen c.as_slice-words.ensures _ _ Round c.drawing_of.ensures c.in-Some-Round.is c.in-Some-Round.field-0-is in
    let first : get_or words 0 [] ≡ c.word_at-circuit-in-Some-Round.result.now = word_seen words seen c.as_slice-words.ensures 0 _ c.word_at-circuit-in-Some-Round.ensures in
    let second : get_or words 1 [] ≡ c.word_at-script-in-Some-Round.result.now = word_seen words seen c.as_slice-words.ensures 1 _ c.word_at-script-in-Some-Round.ensures in
    let third : get_or words 2 [] ≡ c.word_at-trace.result.now = word_seen words seen c.as_slice-words.ensures 2 _ c.word_at-trace.ensures in
    let fourth : get_or words 3 [] ≡ c.word_at-in-Some-Round.result.now = word_seen words seen c.as_slice-words.ensures 3 _ c.word_at-in-Some-Round.ensures in
    let named : names_of Round words ≡ c.word_at-circuit-in-Some-Round.result.now ∷ c.word_at-script-in-Some-Round.result.now ∷ c.word_at-trace.result.now ∷ [] =
    round_names words is ∙ (λ i. first i ∷ second i ∷ third i ∷ []) in
    round_answered words _ _ _ (c.word_at-circuit-in-Some-Round.result.now ∷ c.word_at-script-in-Some-Round.result.now ∷ c.word_at-trace.result.now ∷ []) c.word_at-in-Some-Round.result.now is named fourth c.draw_round.ensures.answered

pub returns-in-Some-Round-clause-status : goal.returns-in-Some-Round-clause-status
returns-in-Some-Round-clause-status g c =
    let is = drawing_seen c.args.words.now c.as_slice-words.result.now c.as_slice-words.ensures _ _ Round c.drawing_of.ensures c.in-Some-Round.is c.in-Some-Round.field-0-is in
    status_as c.args.words.now _ Round is c.draw_round.ensures.status

pub returns-in-None-clause-answer : goal.returns-in-None-clause-answer
returns-in-None-clause-answer g c =
    let is = none_seen c.args.words.now c.as_slice-words.result.now c.as_slice-words.ensures _ c.drawing_of.ensures c.in-None.is in
    answered_none c.args.words.now _ _ _ is refl c.answer.ensures.answers

pub returns-in-None-clause-status : goal.returns-in-None-clause-status
returns-in-None-clause-status g c =
    let is = none_seen c.args.words.now c.as_slice-words.result.now c.as_slice-words.ensures _ c.drawing_of.ensures c.in-None.is in
    status_none c.args.words.now _ _ is c.answer.ensures.answers
