-- The logs of a proved text are cut into lines.
use Rattle.std.proofs.Common.{◌≡◌, ◌∙◌, ℕ, ◌+◌, List, [], ◌∷◌, ◌++◌, refl, ap, sym, subst, length, map}
use Rattle.std.specs.Prelude.{codes}
use Rattle.std.specs.List.{All}
use Rattle.std.proofs.lemmas.List.{length-map}
use Rattle.std.proofs.lemmas.List.Elements.{All-nil, All-cons}
use Rattle.reo_net_base.specs.declared.port.Port.{Port}
use Rattle.reo_trace.specs.declared.line.RoundLine.{RoundLine}
use Rattle.reo_trace.specs.declared.line.Ending.{Ending}
use Rattle.reo_trace.specs.EndingText.{ending_text}
use Rattle.reo_trace.specs.RoundText.{round_text}
use Rattle.reo_rounds.specs.Rules.{Rules}
use Rattle.reo_runs.specs.Round.{Choosing, net_ready}
use Rattle.reo_runs.specs.Run.{Place, EndsAs, place_after, firsts}
use Rattle.reo_refute_base.specs.faults.Faults.{IsProof}
use Rattle.reo_proof_texts.specs.Cuts.{LoggedRound, lines_text, all_logged}
use Rattle.reo_proof_texts.specs.Proven.{IsProven, AreProven, IsProved}
use Rattle.reo_proof_laws.specs.Logs.{LogsAreLines}
use Rattle.reo_proof_laws.specs.Proofs.{IsCut, line_of, IsCutProof, ProvedTextsAreCut}

module _ {P : Type 0} (C : Choosing) (r : Rules P) (ports : List Port) (cut : LogsAreLines) where
  -- Rounds with the same lines and the same texts, of which each log is cut into lines.
  record AreCutOf (turn : ℕ) (p : Place P) (xs : List LoggedRound) (q : Place P) : Type 0 where
    others : List LoggedRound
    are_cut : All IsCut others
    lines : map line_of others ≡ map line_of xs
    texts : all_logged ports others ≡ all_logged ports xs
    proven : AreProven C r turn p others q

  cut_all : (turn : ℕ) (p : Place P) (xs : List LoggedRound) (q : Place P) → AreProven C r turn p xs q → AreCutOf turn p xs q
  cut_all turn p [] q d = record { others = []; are_cut = All-nil IsCut; lines = refl; texts = refl; proven = d }
  cut_all turn p (x ∷ xs) q d =
      let net = net_ready r p.state in
      let rows : List ℕ = d.2.round.made.rows in
      let log = cut net turn rows (lines_text x.log) d.2.proof.right in
      let y : LoggedRound = record { line = x.line; log = log.0 } in
      let rest = cut_all (turn + 1) (place_after turn x.line p.state d.1) xs q d.3 in
      let same : lines_text y.log ≡ lines_text x.log = sym log.1.text_is in
      let here : IsProven C r turn p.state y d.1 = record { round = d.2.round; proof = subst (IsProof net turn rows) log.1.text_is d.2.proof } in
      let texts = rest.texts in
      let lines = rest.lines in
      record {
        others = y ∷ rest.others;
        are_cut = All-cons IsCut y rest.others log.1.are_lines rest.are_cut;
        lines = λ i. x.line ∷ lines i;
        texts = λ i. (round_text ports x.line ++ (same i ++ codes "proved\n")) ++ texts i;
        proven = (d.0, d.1, here, rest.proven);
      }

  cut_proof : (start : Place P) (rounds : List LoggedRound) (ending : Ending) (text : List ℕ) → IsProved C r ports start rounds ending text → IsCutProof C r ports start rounds ending text
  cut_proof start rounds ending text proved =
      let made = cut_all 1 start rounds proved.last proved.proven in
      let count : length rounds ≡ length made.others = sym (length-map rounds line_of) ∙ ap (λ (ls : List RoundLine). length ls) (sym made.lines) ∙ length-map made.others line_of in
      record {
        others = made.others;
        are_cut = made.are_cut;
        lines = made.lines;
        proved = record {
          text_is = proved.text_is ∙ ap (λ (l : List ℕ). l ++ ending_text ending) (sym made.texts);
          last = proved.last;
          proven = made.proven;
          ends = subst (λ (n : ℕ). EndsAs C r (n + 1) proved.last ending) count proved.ends;
        };
      }

pub proved_texts_are_cut : {P : Type 0} (r : Rules P) → LogsAreLines → ProvedTextsAreCut r
proved_texts_are_cut r cut budget limit ports start rounds ending text proved = cut_proof (firsts budget limit) r ports cut start rounds ending text proved
