-- A component that goes on after a round, and what it has left at the ports.
use Rattle.std.proofs.Common.{◌≡◌, ◌∙◌, ◌+◌, ◌-◌, ◌^◌, ◌||◌, inl, inr, ℕ, Bool, true, false, cond, min, List, [], ◌∷◌, refl, sym, ap, subst, arith}
use Rattle.std.specs.Prelude.{Option, Some, None, is_none, is_some, nat_eq, option_and_then}
use Rattle.std.specs.Option.{option_map_or}
use Rattle.std.proofs.lemmas.Bool.{cases_eq, true≢false}
use Rattle.std.proofs.lemmas.Bool.Decides.{nat_tests}
use Rattle.reo_net_base.specs.declared.port.Offer.{Offer}
use Rattle.reo_net_base.specs.PortState.{PortState}
use Rattle.reo_net_circuit.specs.Offers.{OnlyPort}
use Rattle.reo_rules.specs.Lists.{first_of}
use Rattle.reo_players.specs.declared.step.Step.{Step}
use Rattle.reo_players.specs.declared.step.Step.TheVariants as steps
use Rattle.reo_players.specs.Written.{Task}
use Rattle.reo_players.specs.Written.Task.{writes, takes, rests}
use Rattle.reo_players.specs.Players.{Player, bound_of, first_port, port_of, offer_of, ended, runs_out, one_more_seen, after_task, after, step_task, step_of}
use Rattle.reo_players.specs.Offers.{task_offer, offer_at}
use Rattle.reo_players.specs.Idle.{is_last}
use Rattle.reo_runs.specs.at_ports.Pending.{pending_at, held_at}
use Rattle.reo_runs.specs.at_ports.Between.{is_gone}
use Rattle.reo_runs.specs.at_ports.Parts.{IsPendingOrGone, IsLeft}
use Rattle.reo_runs.proofs.at_ports.Cases.{none_either}
use Rattle.reo_runs.proofs.at_ports.Offered.{offers_of, gives, task_gives, elsewhere}

-- Whether an offer is gone is seen at its port.
pub gone_at : (states : List PortState) (p : Player) (port : ℕ) (o : Offer) → offer_at port p ≡ Some o → is_gone states p ≡ is_none (pending_at states port)
gone_at states p port o offers =
    let is = offers_of port o p offers in
    ap (λ ts. option_map_or (λ port. is_none (pending_at states port)) (option_and_then port_of (first_of ts)) false) is.rest_is
    ∙ ap (λ n. option_map_or (λ port. is_none (pending_at states port)) n false) is.at

none_is : {X : Type 0} (o : Option X) → is_none o ≡ true → o ≡ None
none_is None e = refl
none_is (Some x) e = absurd (true≢false (sym e))

-- What is there is the offer.
pub still_there : (states : List PortState) (p : Player) (port : ℕ) (o : Offer) → IsPendingOrGone p states → offer_at port p ≡ Some o → is_gone states p ≡ false → pending_at states port ≡ Some o
still_there states p port o may offers stays =
    elim (may port o offers) [
      | inl none ↦ absurd (true≢false (ap is_none (sym none) ∙ sym (gone_at states p port o offers) ∙ stays))
      | inr some ↦ some
    ]

pub not_there : (states : List PortState) (p : Player) (port : ℕ) (o : Offer) → offer_at port p ≡ Some o → is_gone states p ≡ true → pending_at states port ≡ None
not_there states p port o offers gone = none_is (pending_at states port) (sym (gone_at states p port o offers) ∙ gone)

-- An action whose bound ran out.
of_ended : (t : Task) (q : ℕ) → ended t ≡ steps.GaveUp q → (o : Offer) × (port_of t ≡ Some q) × (offer_of t ≡ Some o)
of_ended (writes n item within) q e = let same : n ≡ q = cc in (_, ap (λ m. Some m) same, refl)
of_ended (takes n within) q e = let same : n ≡ q = cc in (_, ap (λ m. Some m) same, refl)
of_ended (rests rounds) q e = absurd cc

ended_at : (t : Task) (q : ℕ) → port_of t ≡ Some q → ended t ≡ steps.GaveUp q
ended_at (writes n item within) q e = let same : n ≡ q = cc in ap (λ m. steps.GaveUp m) same
ended_at (takes n within) q e = let same : n ≡ q = cc in ap (λ m. steps.GaveUp m) same
ended_at (rests rounds) q e = absurd cc

record RanOut (flowed : Bool) (seen q : ℕ) (rest : List Task) : Type 0 where
  task : Task
  more : List Task
  rest_is : rest ≡ task ∷ more
  stays : flowed ≡ false
  over : runs_out task seen ≡ true
  ended_is : ended task ≡ steps.GaveUp q

ran_out : (flowed : Bool) (seen q : ℕ) (rest : List Task) → step_task flowed seen rest ≡ steps.GaveUp q → RanOut flowed seen q rest
ran_out flowed seen q [] e = absurd cc
ran_out true seen q (t ∷ ts) e = absurd cc
ran_out false seen q (t ∷ ts) e =
    elim (runs_out t seen) as (λ b. runs_out t seen ≡ b → cond b (ended t) steps.Stays ≡ steps.GaveUp q → RanOut false seen q (t ∷ ts)) [
      | true ↦ λ over is. record { task = t; more = ts; rest_is = refl; stays = refl; over = over; ended_is = is }
      | false ↦ λ over is. absurd cc
    ] refl e

-- What is held of an action that is over, and of one that goes on.
held_over : (port : ℕ) (flowed : Bool) (seen : ℕ) (t : Task) (ts : List Task) → (flowed || runs_out t seen) ≡ true → held_at port (after_task flowed seen (t ∷ ts)) ≡ None
held_over port flowed seen t ts over =
    let gone : Player = record { rest = ts; seen = 0 } in
    let stays : Player = record { rest = t ∷ ts; seen = one_more_seen t seen } in
    ap (λ b. held_at port (cond b gone stays)) over

was_seen : (t : Task) (seen : ℕ) → nat_eq (one_more_seen t seen) 0 ≡ false
was_seen t seen =
    elim (is_some (bound_of t)) as (λ b. nat_eq (cond b (min (seen + 1) (2 ^ 32 - 1)) 1) 0 ≡ false) [ true ↦ grind (arith, nat_tests) | false ↦ refl ]

held_on : (port : ℕ) (flowed : Bool) (seen : ℕ) (t : Task) (ts : List Task) → (flowed || runs_out t seen) ≡ false → held_at port (after_task flowed seen (t ∷ ts)) ≡ task_offer port t
held_on port flowed seen t ts on =
    let gone : Player = record { rest = ts; seen = 0 } in
    let stays : Player = record { rest = t ∷ ts; seen = one_more_seen t seen } in
    ap (λ b. held_at port (cond b gone stays)) on ∙ ap (λ b. cond b None (task_offer port t)) (was_seen t seen)

held_nowhere : (port : ℕ) (flowed : Bool) (seen : ℕ) (rest : List Task) → option_and_then (task_offer port) (first_of rest) ≡ None → held_at port (after_task flowed seen rest) ≡ None
held_nowhere port flowed seen [] none = none_either (nat_eq seen 0)
held_nowhere port flowed seen (t ∷ ts) none =
    elim (flowed || runs_out t seen) as (λ b. (flowed || runs_out t seen) ≡ b → held_at port (after_task flowed seen (t ∷ ts)) ≡ None) [
      | true ↦ λ over. held_over port flowed seen t ts over
      | false ↦ λ on. held_on port flowed seen t ts on ∙ none
    ] refl

-- A round in which nothing of it flows and its bound does not run out leaves it where it is.
held_by : (port : ℕ) (rest : List Task) (seen : ℕ) → is_last (record { rest = rest; seen = seen }) ≡ false → held_at port (after_task false seen rest) ≡ option_and_then (task_offer port) (first_of rest)
held_by port [] seen on = none_either (nat_eq seen 0)
held_by port (t ∷ ts) seen on = held_on port false seen t ts on

pub held_passed : (port : ℕ) (p : Player) → is_last p ≡ false → held_at port (after false p) ≡ offer_at port p
held_passed port p on = held_by port p.rest p.seen on

rest_by : (rest : List Task) (seen : ℕ) → is_last (record { rest = rest; seen = seen }) ≡ false → (after_task false seen rest).rest ≡ rest
rest_by [] seen on = refl
rest_by (t ∷ ts) seen on =
    let gone : Player = record { rest = ts; seen = 0 } in
    let stays : Player = record { rest = t ∷ ts; seen = one_more_seen t seen } in
    ap (λ b. (cond b gone stays).rest) on

pub passed_rest : (p : Player) → is_last p ≡ false → (after false p).rest ≡ p.rest
passed_rest p on = rest_by p.rest p.seen on

pub nothing_held : (port : ℕ) (flowed : Bool) (p : Player) → offer_at port p ≡ None → held_at port (after flowed p) ≡ None
nothing_held port flowed p none = held_nowhere port flowed p.seen p.rest none

-- A component that gave up had an offer pending, and has none left.
pub record GivesUp (states : List PortState) (p : Player) (q : ℕ) : Type 0 where
  pub offer : Offer
  pub offers : offer_at q p ≡ Some offer
  pub pending : pending_at states q ≡ Some offer
  pub left : (port : ℕ) → held_at port (after (is_gone states p) p) ≡ None

gives_up : (states : List PortState) (p : Player) (q : ℕ) → IsPendingOrGone p states → step_of (is_gone states p) p ≡ steps.GaveUp q → GivesUp states p q
gives_up states p q may step =
    let is = ran_out (is_gone states p) p.seen q p.rest step in
    let what = of_ended is.task q is.ended_is in
    let offers : offer_at q p ≡ Some what.0 = gives q what.0 p is.task (ap first_of is.rest_is) what.1 what.2 in
    let over : (is_gone states p || runs_out is.task p.seen) ≡ true = ap (λ b. is_gone states p || b) is.over ∙ ap (λ b. b || true) is.stays in
    record {
      offer = what.0;
      offers = offers;
      pending = still_there states p q what.0 may offers is.stays;
      left = λ port. ap (λ ts. held_at port (after_task (is_gone states p) p.seen ts)) is.rest_is ∙ held_over port (is_gone states p) p.seen is.task is.more over;
    }

pub gave_up : (states : List PortState) (p : Player) (flowed : Bool) (step : Step) (q : ℕ) → IsPendingOrGone p states → flowed ≡ is_gone states p → step ≡ step_of flowed p → step ≡ steps.GaveUp q → GivesUp states p q
gave_up states p flowed step q may is step_is gave = gives_up states p q may (ap (λ b. step_of b p) (sym is) ∙ sym step_is ∙ gave)

-- Its offer is taken back.
pub left_taken : (before now : List PortState) (p : Player) (q : ℕ) → GivesUp before p q → OnlyPort before now q None → IsLeft p (after (is_gone before p) p) before now
left_taken before now p q up only = record {
  here = λ port o offers. elim (cases_eq port q) [
    | inl same ↦ subst (λ k. pending_at now k ≡ held_at port (after (is_gone before p) p)) (sym same) (only.here.pending_is ∙ sym (up.left port))
    | inr ne ↦ let none = elsewhere port q up.offer p up.offers ne in absurd cc
  ];
  elsewhere = λ port none. ap (λ (state : PortState). state.pending) (only.others port (λ same. let offers = subst (λ k. offer_at k p ≡ None) same none in let was = up.offers in absurd cc));
  held = λ port none. up.left port;
  were = λ port o some. elim (cases_eq port q) [
    | inl same ↦ let none = only.here.pending_is in let there = subst (λ k. pending_at now k ≡ Some o) same some in absurd cc
    | inr ne ↦ ap (λ (state : PortState). state.pending) (sym (only.others port ne)) ∙ some
  ];
}

-- A component that did not give up has left what is pending.
goes_on : (states : List PortState) (p : Player) (port : ℕ) (o : Offer) → IsPendingOrGone p states → ((q : ℕ) → step_of (is_gone states p) p ≡ steps.GaveUp q → ⊥)
    → offer_at port p ≡ Some o → pending_at states port ≡ held_at port (after (is_gone states p) p)
goes_on states p port o may none offers =
    let is = offers_of port o p offers in
    let flowed = is_gone states p in
    let as_task : held_at port (after flowed p) ≡ held_at port (after_task flowed p.seen (is.task ∷ is.more)) = ap (λ ts. held_at port (after_task flowed p.seen ts)) is.rest_is in
    let step_is : step_of flowed p ≡ step_task flowed p.seen (is.task ∷ is.more) = ap (step_task flowed p.seen) is.rest_is in
    elim flowed as (λ b. is_gone states p ≡ b → pending_at states port ≡ held_at port (after (is_gone states p) p)) [
      | true ↦ λ gone. not_there states p port o offers gone ∙ sym (as_task ∙ held_over port flowed p.seen is.task is.more (ap (λ b. b || runs_out is.task p.seen) gone))
      | false ↦ λ stays.
          elim (runs_out is.task p.seen) as (λ b. runs_out is.task p.seen ≡ b → pending_at states port ≡ held_at port (after (is_gone states p) p)) [
            | true ↦ λ over. absurd (none port (step_is ∙ ap (λ b. step_task b p.seen (is.task ∷ is.more)) stays ∙ ap (λ b. cond b (ended is.task) steps.Stays) over ∙ ended_at is.task port is.at))
            | false ↦ λ on.
                let held = held_on port flowed p.seen is.task is.more (ap (λ b. b || runs_out is.task p.seen) stays ∙ on) in
                let offer_is = ap (λ ts. option_and_then (task_offer port) (first_of ts)) is.rest_is in
                still_there states p port o may offers stays ∙ sym (as_task ∙ held ∙ sym offer_is ∙ offers)
          ] refl
    ] refl

-- So all that it has left is pending, and nothing else of it is.
pub left_on : (states : List PortState) (p : Player) → IsPendingOrGone p states → ((q : ℕ) → step_of (is_gone states p) p ≡ steps.GaveUp q → ⊥) → IsLeft p (after (is_gone states p) p) states states
left_on states p may none = record {
  here = λ port o offers. goes_on states p port o may none offers;
  elsewhere = λ port nothing. refl;
  held = λ port nothing. nothing_held port (is_gone states p) p nothing;
  were = λ port o some. some;
}

-- What is seen at its port alone decides whether an offer is gone.
gone_rest : (before now : List PortState) (rest : List Task) → ((port : ℕ) (o : Offer) → option_and_then (task_offer port) (first_of rest) ≡ Some o → pending_at now port ≡ pending_at before port)
    → option_map_or (λ port. is_none (pending_at now port)) (option_and_then port_of (first_of rest)) false ≡ option_map_or (λ port. is_none (pending_at before port)) (option_and_then port_of (first_of rest)) false
gone_rest before now [] same = refl
gone_rest before now (writes n item within ∷ ts) same = ap is_none (same n _ (task_gives n _ (writes n item within) refl refl))
gone_rest before now (takes n within ∷ ts) same = ap is_none (same n _ (task_gives n _ (takes n within) refl refl))
gone_rest before now (rests rounds ∷ ts) same = refl

pub gone_alike : (before now : List PortState) (p : Player) → ((port : ℕ) (o : Offer) → offer_at port p ≡ Some o → pending_at now port ≡ pending_at before port) → is_gone now p ≡ is_gone before p
gone_alike before now p same = gone_rest before now p.rest same

-- An offer is gone where its port has none, and else not.
pub names_gone : (states : List PortState) (p : Player) (port : ℕ) → first_port p.rest ≡ Some port → pending_at states port ≡ None → is_gone states p ≡ true
names_gone states p port named none = ap (λ n. option_map_or (λ port. is_none (pending_at states port)) n false) named ∙ ap is_none none

gone_by : (states : List PortState) (named : Option ℕ) → option_map_or (λ port. is_none (pending_at states port)) named false ≡ true → (port : ℕ) × (named ≡ Some port) × (pending_at states port ≡ None)
gone_by states None gone = absurd cc
gone_by states (Some port) gone = (port, refl, none_is (pending_at states port) gone)

pub gone_names : (states : List PortState) (p : Player) → is_gone states p ≡ true → (port : ℕ) × (first_port p.rest ≡ Some port) × (pending_at states port ≡ None)
gone_names states p gone = gone_by states (first_port p.rest) gone

-- Where its offer flowed it does not matter how many rounds it had seen.
pub flowed_alike : (rest : List Task) (seen other port : ℕ) → first_port rest ≡ Some port → after_task true seen rest ≡ after_task true other rest
flowed_alike [] seen other port named = absurd cc
flowed_alike (t ∷ ts) seen other port named = refl
