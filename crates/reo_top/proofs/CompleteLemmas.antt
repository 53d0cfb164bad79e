-- Where nothing fails, a run of what is accepted comes to its end.
use Rattle.std.proofs.Common.{◌≡◌, ◌∙◌, ◌⊎◌, inl, inr, ℕ, true, List, [], ◌∷◌, ◌++◌, sym, subst, refl, arith}
use Rattle.std.proofs.lemmas.Bool.{cases_order}
use Rattle.std.specs.Prelude.{◌≢◌, Option, Some, None, IfSome}
use Rattle.reo_io.specs.Fetches.{Folder}
use Rattle.reo_trace.specs.declared.line.Ending.{Ending}
use Rattle.reo_trace.specs.declared.line.Ending.TheVariants.{Done, Stuck, Limit, Spent, Wide}
use Rattle.reo_command.specs.declared.command.Command.TheVariants.{Run}
use Rattle.reo_top.specs.Answers.{Answered}
use Rattle.reo_command.specs.top_base.Answered.{IsAnswered}
use Rattle.reo_command.specs.top_base.Cases.{IsFailure, IsFair}
use Rattle.reo_live.specs.closings.Sources.{SourceChange, Events}
use Rattle.reo_command.specs.Commands.{is_free, roles_of}
use Rattle.reo_top.specs.Complete.{NothingFailed, IsWhole, Complete, ending_statuses}
use Rattle.reo_command.specs.Fetched.{Content, has_gone, missed, AreFetched}
use Rattle.reo_top.specs.Headline.{Accepted, GaveAccepted, IsTraced, Headline}
use Rattle.reo_command.specs.Limits.{limits_of}
use Rattle.reo_top.specs.Owed.{owed_of}
use Rattle.reo_command.specs.Readings.{Runnable}
use Rattle.reo_command.specs.States.{SinkState, FilesState, Change}
use Rattle.reo_command.specs.Statuses.{IsAmong}
use Rattle.reo_top.specs.runs.Traces.{ending_status}
use Rattle.reo_command.proofs.FetchLemmas.{is_noted}
use Rattle.reo_top.proofs.TopLemmas.{answered_with}

same_rest : {A : Type 0} (x : A) (xs ys : List A) → x ∷ xs ≡ x ∷ ys → xs ≡ ys
same_rest x xs ys e = cc

-- Nothing more than a list is nothing.
nothing_more : {A : Type 0} (xs ys : List A) → xs ++ ys ≡ xs → ys ≡ []
nothing_more [] ys e = e
nothing_more (x ∷ xs) ys e = nothing_more xs ys (same_rest x (xs ++ ys) xs e)

ending_among : (ending : Ending) → IsAmong ending_statuses (ending_status ending)
ending_among (Done rounds) = refl
ending_among (Stuck rounds) = refl
ending_among (Limit rounds) = refl
ending_among (Spent round knot weight budget) = refl
ending_among (Wide round knot) = refl

module _ (words : List (List ℕ)) (files : Change FilesState) (sink : Change SinkState) (code : ℕ) where
  whole : (r : Runnable) → IsTraced (limits_of words) r sink code → IsWhole words r sink code
  whole r traced = record { traced = traced; status = subst (λ (k : ℕ). IsAmong ending_statuses k) (sym traced.trace.status) (ending_among traced.trace.ending) }

  no_gone : (names : List (List ℕ)) (answers : List Content) → AreFetched (roles_of Run) names answers files → files.new.failed ≡ files.old.failed → has_gone answers ≡ true → ⊥
  no_gone names answers fetched same is = is_noted names answers fetched.few is (nothing_more files.old.failed (missed names answers) (sym fetched.failed ∙ same))

  module _ (events : Events) (names : List (List ℕ)) (run : IsAnswered (is_free Run) (owed_of Run words events) (roles_of Run) names files sink code) (fair : IsFair sink code) (nothing : NothingFailed files sink) (other : code ≢ 10) where
    no_failure : IsFailure code → ⊥
    no_failure (inl three) = no_gone names run.answers run.fetched nothing.fetches (run.blames.only three)
    no_failure (inr (inl nine)) = nothing.takes (fair.rose nine)
    no_failure (inr (inr ten)) = other ten

  module _ (source : SourceChange) (h : Answered words files source sink code) (headline : Headline words files sink code) (fair : IsFair sink code) where
    whole_or_ten : (folder : Folder) (r : Runnable) → files.old.told ≡ Some folder → Accepted words folder r → NothingFailed files sink → code ≢ 10 → IsWhole words r sink code
    whole_or_ten folder r is a nothing other =
        let run = answered_with words files source sink code Run (a.circuit ∷ a.script ∷ []) a.run a.names h in
        let here = subst (λ (o : Option Folder). IfSome o (λ f. (x : Runnable) → Accepted words f x → (IsFailure code → ⊥) → IsTraced (limits_of words) x sink code)) is headline.told in
        whole r (here r a (no_failure h.events (a.circuit ∷ a.script ∷ []) run fair nothing other))

    told_as : (o : Option Folder) → files.old.told ≡ o → IfSome o (λ folder. (r : Runnable) → Accepted words folder r → NothingFailed files sink → (code ≡ 10) ⊎ IsWhole words r sink code)
    told_as None is = tt
    told_as (Some folder) is = λ r a nothing. elim (cases_order code 10) [
      | inl ten ↦ inl ten
      | inr (inl less) ↦ inr (whole_or_ten folder r is a nothing (λ e. omega (arith, e, less)))
      | inr (inr more) ↦ inr (whole_or_ten folder r is a nothing (λ e. omega (arith, e, more)))
    ]

    given_or_ten : (r : Runnable) → GaveAccepted words files r → NothingFailed files sink → code ≢ 10 → IsWhole words r sink code
    given_or_ten r a nothing other =
        let run = answered_with words files source sink code Run (a.circuit.0 ∷ a.script.0 ∷ []) a.run a.names h in
        whole r (headline.given r a (no_failure h.events (a.circuit.0 ∷ a.script.0 ∷ []) run fair nothing other))

    given_as : (r : Runnable) → GaveAccepted words files r → NothingFailed files sink → (code ≡ 10) ⊎ IsWhole words r sink code
    given_as r a nothing = elim (cases_order code 10) [
      | inl ten ↦ inl ten
      | inr (inl less) ↦ inr (given_or_ten r a nothing (λ e. omega (arith, e, less)))
      | inr (inr more) ↦ inr (given_or_ten r a nothing (λ e. omega (arith, e, more)))
    ]

    -- From what the call has come to.
    pub complete : Complete words files sink code
    complete = record { told = told_as files.old.told refl; given = given_as }
