-- What verdicts say, of which traces.
use Rattle.std.specs.Prelude.{ℕ, ◌≡◌, ◌↔◌, false, Option, Some, None, List, length, slice_index_or}
use Rattle.reo_values.specs.declared.value.Value.{Value}
use Rattle.reo_net_base.specs.declared.joint.Joint.{Joint}
use Rattle.reo_net_base.specs.declared.mark.Mark.TheVariants.{F}
use Rattle.reo_net_base.specs.Net.{Net, Wiring, net_of, mark_at}
use Rattle.reo_net_base.specs.Colouring.{given_at, lets_in, IsFilled}
use Rattle.reo_checker.specs.declared.wrong.Wrong.TheVariants.{Item}
use Rattle.reo_script.specs.declared.scripts.action.Component.{Component}
use Rattle.reo_trace.specs.declared.line.Entry.{Entry}
use Rattle.reo_trace_reader.specs.declared.texts.trace.Trace.{Trace}
use Rattle.reo_rounds.specs.Rules.{Rules}
use Rattle.reo_runs.specs.Run.{Place, start_of, firsts, IsRun}
use Rattle.reo_rounds.specs.Order.{HasOrder}
use Rattle.reo_runs.specs.declared.verdicts.verdict.Verdict.{Verdict}
use Rattle.reo_runs.specs.declared.verdicts.verdict.Verdict.TheVariants.{Verified}
use Rattle.reo_runs.specs.verdicts.Said.{AreSaid, jammed}
use Rattle.reo_runs.specs.verdicts.Verdicts.{IsVerdict}
use Rattle.reo_runs.specs.verdicts.Replay.{IsReplay}
use Rattle.reo_runs.specs.verdicts.Wrongs.{IsWrongWith}

-- The whole trace of a run is verified.
abbrev pub RunsAreVerified : {P : Type 0} → Rules P → Type 0
RunsAreVerified r =
    (budget limit : ℕ) (nodes : List (List ℕ)) (homes : List ℕ) (start : Place _) (t : Trace)
    → IsRun (firsts budget limit) r start t.rounds t.ending
    → IsVerdict r nodes homes start t (Verified (length t.rounds) (jammed t.rounds))

-- A trace has one verdict.
abbrev pub OneVerdict : {P : Type 0} → Rules P → Type 0
OneVerdict r =
    (nodes : List (List ℕ)) (homes : List ℕ) (start : Place _) (t : Trace) (a b : Verdict)
    → HasOrder (net_of r.behaviour start.state.circuit) → IsVerdict r nodes homes start t a → IsVerdict r nodes homes start t b → a ≡ b

-- It is verified exactly where it can be replayed.
abbrev pub VerifiedSays : {P : Type 0} → Rules P → Type 0
VerifiedSays r =
    (nodes : List (List ℕ)) (homes : List ℕ) (w : Wiring _) (components : List Component) (t : Trace)
    → IsVerdict r nodes homes (start_of w components) t (Verified (length t.rounds) (jammed t.rounds))
    ↔ IsReplay r (start_of w components).state t

-- By the rows that entries say an item stands at a joint: the giver's row gives it there, and the taker's row does not let it in.
pub record IsNotLetIn (net : Net) (entries : List Entry) (place : ℕ) (joint : Joint) : Type 0 where
  pub rows : List ℕ
  pub items : List (Option Value)
  pub item : Value
  pub said : AreSaid net entries rows
  pub filled : IsFilled net rows items
  pub stands : slice_index_or items place None ≡ Some item
  pub flows : mark_at net rows joint.giver ≡ F
  pub given : given_at net rows items joint.giver ≡ Some item
  pub out : lets_in net rows joint.taker item ≡ false

-- An item for which entries are refused is one that the taker's row does not let in.
abbrev pub RefusedItemsAreNotLetIn : Type 0
RefusedItemsAreNotLetIn =
    (net : Net) (entries : List Entry) (j : ℕ) (d : Joint) → HasOrder net → IsWrongWith net entries (Item j)
    → IsNotLetIn net entries j (slice_index_or net.joints j d)
