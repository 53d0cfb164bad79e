-- What one component offers.
use Rattle.std.proofs.Common.{◌≡◌, ◌≢◌, ◌∙◌, ◌||◌, ◌==◌, ℕ, true, false, cond, List, [], ◌∷◌, refl, ap, arith}
use Rattle.std.specs.Prelude.{Option, Some, None, nat_eq, option_and_then}
use Rattle.std.specs.List.{list_any}
use Rattle.std.specs.Option.{option_map_or}
use Rattle.std.proofs.lemmas.Bool.Decides.{nat_tests}
use Rattle.reo_net_base.specs.declared.port.Offer.{Offer}
use Rattle.reo_rules.specs.Lists.{first_of}
use Rattle.reo_players.specs.Written.{Task}
use Rattle.reo_players.specs.Written.Task.{writes, takes, rests}
use Rattle.reo_players.specs.Players.{Player, present, port_of, offer_of}
use Rattle.reo_players.specs.Offers.{task_offer, offer_at}
use Rattle.reo_runs.specs.run_premises.Fitting.{names}

-- The task that offers, first of what is left.
pub record Offers (port : ℕ) (o : Offer) (rest : List Task) : Type 0 where
  pub task : Task
  pub more : List Task
  pub rest_is : rest ≡ task ∷ more
  pub at : port_of task ≡ Some port
  pub what : offer_of task ≡ Some o

picked : (n port : ℕ) (u o : Offer) → cond (nat_eq n port) (Some u) None ≡ Some o → (◌≡◌ {A = Option ℕ} (Some n) (Some port)) × (Some u ≡ Some o)
picked n port u o e =
    elim (nat_eq n port) as (λ t. nat_eq n port ≡ t → cond t (Some u) None ≡ Some o → (◌≡◌ {A = Option ℕ} (Some n) (Some port)) × (Some u ≡ Some o)) [
      | true ↦ λ yes got. let same : n ≡ port = grind (arith, nat_tests) in (ap Some same, got)
      | false ↦ λ no got. absurd cc
    ] refl e

of_task : (port : ℕ) (o : Offer) (t : Task) → task_offer port t ≡ Some o → (port_of t ≡ Some port) × (offer_of t ≡ Some o)
of_task port o (writes n item within) e = picked n port _ o e
of_task port o (takes n within) e = picked n port _ o e
of_task port o (rests rounds) e = absurd cc

of_rest : (port : ℕ) (o : Offer) (rest : List Task) → option_and_then (task_offer port) (first_of rest) ≡ Some o → Offers port o rest
of_rest port o [] e = absurd cc
of_rest port o (t ∷ ts) e = let is = of_task port o t e in record { task = t; more = ts; rest_is = refl; at = is.0; what = is.1 }

pub offers_of : (port : ℕ) (o : Offer) (p : Player) → offer_at port p ≡ Some o → Offers port o p.rest
offers_of port o p e = of_rest port o p.rest e

at_its_port : (n port : ℕ) (u : Offer) → nat_eq n port ≡ true → cond (nat_eq n port) (Some u) None ≡ Some u
at_its_port n port u same = rw same refl

same_number : (n port : ℕ) → ◌≡◌ {A = Option ℕ} (Some n) (Some port) → nat_eq n port ≡ true
same_number n port e = let same : n ≡ port = cc in grind (arith, nat_tests)

pub task_gives : (port : ℕ) (o : Offer) (t : Task) → port_of t ≡ Some port → offer_of t ≡ Some o → task_offer port t ≡ Some o
task_gives port o (writes n item within) at what = at_its_port n port _ (same_number n port at) ∙ what
task_gives port o (takes n within) at what = at_its_port n port _ (same_number n port at) ∙ what
task_gives port o (rests rounds) at what = absurd cc

pub gives : (port : ℕ) (o : Offer) (p : Player) (t : Task) → present p ≡ Some t → port_of t ≡ Some port → offer_of t ≡ Some o → offer_at port p ≡ Some o
gives port o p t is at what = ap (option_and_then (task_offer port)) is ∙ task_gives port o t at what

-- A component offers at one port.
elsewhere_none : (n port : ℕ) (u : Offer) → port ≢ n → cond (nat_eq n port) (Some u) None ≡ None
elsewhere_none n port u ne = let no : nat_eq n port ≡ false = grind (arith, nat_tests) in rw no refl

task_elsewhere : (port q : ℕ) (t : Task) → port_of t ≡ Some q → port ≢ q → task_offer port t ≡ None
task_elsewhere port q (writes n item within) at ne = elsewhere_none n port _ (λ e. let same : n ≡ q = cc in ne (omega arith))
task_elsewhere port q (takes n within) at ne = elsewhere_none n port _ (λ e. let same : n ≡ q = cc in ne (omega arith))
task_elsewhere port q (rests rounds) at ne = refl

pub elsewhere : (port q : ℕ) (o : Offer) (p : Player) → offer_at q p ≡ Some o → port ≢ q → offer_at port p ≡ None
elsewhere port q o p e ne =
    let is = offers_of q o p e in
    ap (λ ts. option_and_then (task_offer port) (first_of ts)) is.rest_is ∙ task_elsewhere port q is.task is.at ne

-- It names the port at which it offers.
first_names : (port : ℕ) (t : Task) (ts : List Task) → port_of t ≡ Some port → list_any (names port) (t ∷ ts) ≡ true
first_names port t ts at = ap (λ b. b || list_any (names port) ts) (ap (λ (n : Option ℕ). option_map_or (λ m. m == port) n false) at ∙ same_number port port refl)

pub named : (port : ℕ) (o : Offer) (p : Player) → offer_at port p ≡ Some o → list_any (names port) p.rest ≡ true
named port o p e = let is = offers_of port o p e in ap (list_any (names port)) is.rest_is ∙ first_names port is.task is.more is.at

-- Where a component names a port, it offers something there.
task_offers : (port : ℕ) (t : Task) → port_of t ≡ Some port → (o : Offer) × (offer_of t ≡ Some o)
task_offers port (writes n item within) at = (_, refl)
task_offers port (takes n within) at = (_, refl)
task_offers port (rests rounds) at = absurd cc

rest_offers : (port : ℕ) (rest : List Task) → option_and_then port_of (first_of rest) ≡ Some port → (o : Offer) × (option_and_then (task_offer port) (first_of rest) ≡ Some o)
rest_offers port [] at = absurd cc
rest_offers port (t ∷ ts) at = let is = task_offers port t at in (is.0, task_gives port is.0 t at is.1)

pub offers_where : (port : ℕ) (p : Player) → option_and_then port_of (present p) ≡ Some port → (o : Offer) × (offer_at port p ≡ Some o)
offers_where port p at = rest_offers port p.rest at
