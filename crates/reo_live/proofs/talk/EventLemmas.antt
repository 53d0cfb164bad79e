-- A line that is an event, which happened.
use Rattle.std.proofs.Common.{ℕ, List, Option, Result, Ok, Err}
use Rattle.std.specs.Prelude.{IfOk}
use Rattle.reo_net_base.specs.declared.port.Port.{Port}
use Rattle.reo_script.specs.declared.scripts.event.Event.{Event}
use Rattle.reo_script.specs.scripts.Events.{IsReadEvent}
use Rattle.reo_rounds.specs.Rules.{Rules}
use Rattle.reo_live.specs.declared.base.answer.Answer.{Answer}
use Rattle.reo_live.specs.declared.talk.reply.Reply.{Reply}
use Rattle.reo_live.specs.talk.Replies.{TellsIf}
use Rattle.reo_live.specs.base.Held.{short}
use Rattle.reo_live.specs.base.Live.{Stand}
use Rattle.reo_live.specs.base.Events.{Told, Does}
use Rattle.reo_live.specs.base.Hearing.{Judges}

pub happened : {P E : Type 0} (r : Rules P) (ports : List Port) (budget : ℕ) (before : Stand P) (line : List ℕ) (event : Event) (told : Option Answer → Told P) (result : Result (Option Reply) E) → IsReadEvent line ports (Ok event)
    → IfOk result (λ reply. (answer : Option Answer) × TellsIf ports reply answer × Does r budget before (Ok event) (told answer))
    → IfOk result (λ reply. (answer : Option Answer) × TellsIf ports reply answer × Judges r ports budget before (short line) (told answer))
happened r ports budget before line event told (Ok reply) read does = (does.0, does.1, (Ok event, read, does.2))
happened r ports budget before line event told (Err fault) read does = tt
