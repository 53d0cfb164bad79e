-- What stands next, by its first line.
use Rattle.std.proofs.Common.{◌≡◌, ◌≢◌, ◌∙◌, ap, sym, subst, ℕ, List, [], ◌∷◌, ◌++◌, length, drop, append_assoc, append-nil}
use Rattle.std.specs.Prelude.{codes}
use Rattle.std.specs.List.{All}
use Rattle.reo_values.proofs.decimals.Fronts.{front_unique}
use Rattle.reo_net_base.specs.declared.port.Port.{Port}
use Rattle.reo_trace.specs.declared.line.RoundLine.{RoundLine}
use Rattle.reo_trace.specs.declared.line.Ending.{Ending}
use Rattle.reo_trace.specs.EndingText.{ending_text}
use Rattle.reo_trace.specs.RoundText.{round_text}
use Rattle.reo_trace_reader.specs.texts.Lines.{AreTold, IsLine, IsEnding}
use Rattle.reo_trace_reader.specs.texts.Texts.{IsRoundText, IsEndingText}
use Rattle.reo_trace_reader.proofs.texts.Answering.{one_round, round_no-end}
use Rattle.reo_proof_texts.specs.Cuts.{IsInLine, HasNone}
use Rattle.reo_proof_texts.proofs.CutLemmas.{feed_ends, no_feed}
use Rattle.reo_proof_reader.specs.Reads.{IsLineTaken}
use Rattle.reo_proof_reader.proofs.OneLine.{IsOneLine, round_in, ending_in}

-- One line, and what comes behind it.
one_line : (t more : List ℕ) (one : IsOneLine t) → t ++ more ≡ one.line ++ (10 ∷ more)
one_line t more one = ap (λ (l : List ℕ). l ++ more) one.text_is ∙ append_assoc one.line (10 ∷ []) more

-- It is the line that was taken.
first_line : (old new x t more : List ℕ) → IsLineTaken old new x → IsOneLine t → old ≡ t ++ more → (x ++ codes "\n" ≡ t) × (new ≡ more)
first_line old new x t more taken one is =
    let parts = front_unique IsInLine x one.line (10 ∷ new) (10 ∷ more) taken.in_line one.in_line feed_ends feed_ends (sym taken.text_is ∙ is ∙ one_line t more one) in
    (ap (λ (l : List ℕ). l ++ codes "\n") parts.0 ∙ sym one.text_is, ap (λ (l : List ℕ). drop 1 l) parts.1)

module _ (ports : List Port) (told : AreTold ports) (number : ℕ) where
  round_there : (old new x : List ℕ) (a : RoundLine) (more : List ℕ) → IsLineTaken old new x → IsLine ports number a → old ≡ round_text ports a ++ more → IsRoundText ports x a
  round_there old new x a more taken is_line is =
      let first = first_line old new x (round_text ports a) more taken (round_in ports told number a is_line) is in
      record { fits = subst (λ (n : ℕ). IsLine ports n a) (sym is_line.number_is) is_line; text_is = first.0 }

  ending_there : (old new x : List ℕ) (e : Ending) → IsLineTaken old new x → IsEnding e → old ≡ ending_text e → IsEndingText x e × (new ≡ [])
  ending_there old new x e taken is_ending is =
      let first = first_line old new x (ending_text e) [] taken (ending_in ports told e is_ending) (is ∙ sym (append-nil (ending_text e))) in
      (record { fits = is_ending; text_is = first.0 }, first.1)

  -- No line feed is left.
  pub none_wrong : (old : List ℕ) → All IsInLine old → HasNone ports number old
  none_wrong old all = record {
    no_round = λ a more is_line is.
        let one = round_in ports told number a is_line in
        no_feed one.line more old all (is ∙ one_line (round_text ports a) more one);
    no_ending = λ e is_ending is.
        let one = ending_in ports told e is_ending in
        no_feed one.line [] old all (is ∙ one.text_is);
  }

  -- The line is neither that of a round nor an ending.
  pub form_wrong : (old new x : List ℕ) → IsLineTaken old new x → ((a : RoundLine) → IsRoundText ports x a → ⊥) → ((e : Ending) → IsEndingText x e → ⊥) → HasNone ports number old
  form_wrong old new x taken no_round no_ending = record {
    no_round = λ a more is_line is. no_round a (round_there old new x a more taken is_line is);
    no_ending = λ e is_ending is. no_ending e (ending_there old new x e taken is_ending is).0;
  }

  -- The line is that of a round of another number.
  pub other_wrong : (old new x : List ℕ) (line : RoundLine) → IsLineTaken old new x → IsRoundText ports x line → line.round ≢ number → HasNone ports number old
  other_wrong old new x line taken is_round other = record {
    no_round = λ a more is_line is.
        let same = one_round ports told x line a is_round (round_there old new x a more taken is_line is) in
        other (ap (λ (l : RoundLine). l.round) same ∙ is_line.number_is);
    no_ending = λ e is_ending is. round_no-end ports x line e is_round (ending_there old new x e taken is_ending is).0;
  }

  -- The line is an ending, and something follows.
  pub not_last : (old new x : List ℕ) (e : Ending) → IsLineTaken old new x → IsEndingText x e → length new ≢ 0 → HasNone ports number old
  not_last old new x e taken ends more = record {
    no_round = λ a rest is_line is. round_no-end ports x a e (round_there old new x a rest taken is_line is) ends;
    no_ending = λ d is_ending is. more (ap (λ (l : List ℕ). length l) (ending_there old new x d taken is_ending is).1);
  }
