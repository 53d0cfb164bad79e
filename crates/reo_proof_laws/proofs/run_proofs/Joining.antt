-- The rounds of a trace, and logs cut into lines, are rounds with their logs.
use Rattle.std.proofs.Common.{◌∙◌, ℕ, ◌+◌, List, [], ◌∷◌, map, sym, ap, length}
use Rattle.std.specs.List.{All}
use Rattle.std.proofs.lemmas.List.{length-map}
use Rattle.std.proofs.lemmas.List.Elements.{All-head, All-tail}
use Rattle.reo_flat.specs.Flat.{ports_of, wiring_of_program}
use Rattle.reo_kinds.specs.declared.kind.Kind.{Kind}
use Rattle.reo_net_base.specs.declared.port.Port.{Port}
use Rattle.reo_trace.specs.declared.line.RoundLine.{RoundLine}
use Rattle.reo_trace_reader.specs.texts.Lines.{AreLines}
use Rattle.reo_runs.specs.Run.{Place, start_of}
use Rattle.reo_runs.specs.run_texts.Laws.{kind_rules, RunsAreTraceTexts}
use Rattle.reo_proof_texts.specs.Cuts.{LoggedRound, AreLogged}
use Rattle.reo_proof_texts.specs.Laws.{ProvedTextsAreOfRuns, ProvedTextsAreVerified}
use Rattle.reo_proof_laws.specs.Proofs.{line_of, IsCut, ProvedTextsAreCut}
use Rattle.reo_proof_laws.specs.run_proofs.Laws.{RunsAreProofTexts, RunProofsAreVerified}

logged_by : (ports : List Port) (n : ℕ) (xs : List LoggedRound) → AreLines ports n (map line_of xs) → All IsCut xs → AreLogged ports n xs
logged_by ports n [] lines cut = tt
logged_by ports n (x ∷ xs) lines cut = (
  record { line = lines.0; log = All-head IsCut x xs cut },
  logged_by ports (n + 1) xs lines.1 (All-tail IsCut x xs cut),
)

pub runs_are_proof_texts : ProvedTextsAreCut kind_rules → ProvedTextsAreOfRuns kind_rules → RunsAreTraceTexts → RunsAreProofTexts
runs_are_proof_texts cuts of_runs texts p components budget limit rounds ending text told few_budget few_rounds proved =
    let ports : List Port = ports_of p.declarations in
    let start : Place Kind = start_of (wiring_of_program p.declarations) components in
    let cut = cuts budget limit ports start rounds ending text proved in
    let run = of_runs budget limit ports start cut.others ending text cut.proved in
    let trace = texts p components budget limit (map line_of cut.others) ending told few_budget few_rounds run in
    record {
      rounds = cut.others;
      logged = logged_by ports 1 cut.others trace.lines cut.are_cut;
      is_ending = trace.ending;
      proved = cut.proved;
      count_is = sym (length-map cut.others line_of) ∙ ap (λ (ls : List RoundLine). length ls) cut.lines ∙ length-map rounds line_of;
    }

pub run_proofs_are_verified : RunsAreProofTexts → ProvedTextsAreVerified kind_rules → RunProofsAreVerified
run_proofs_are_verified texts verified p components budget limit nodes homes rounds ending text told few_budget few_rounds proved =
    let ports : List Port = ports_of p.declarations in
    let start : Place Kind = start_of (wiring_of_program p.declarations) components in
    let is = texts p components budget limit rounds ending text told few_budget few_rounds proved in
    let made = verified budget limit ports nodes homes start is.rounds ending text is.logged is.is_ending is.proved in
    record {
      rounds = made.rounds;
      ending = made.ending;
      logged = made.logged;
      is_ending = made.is_ending;
      proved = made.proved;
      count_is = sym is.count_is ∙ made.count_is;
    }
