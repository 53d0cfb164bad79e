-- Components that fit the ports, and circuits that have them.
use Rattle.std.proofs.Common.{◌≡◌, ◌≢◌, ◌∙◌, ◌||◌, inl, inr, ℕ, suc, ◌<◌, Bool, true, false, cond, List, [], ◌∷◌, length, map, sym, ap, subst, arith}
use Rattle.std.proofs.Math.Bool.{or-true}
use Rattle.std.specs.Prelude.{Option, Some, None, slice_index_or}
use Rattle.std.specs.List.{All, list_any}
use Rattle.std.proofs.lemmas.Bool.{cases_eq, true≢false, cases_lt}
use Rattle.std.proofs.lemmas.List.{ext_get_or, get_or-map, get_or_past, length-map}
use Rattle.std.proofs.lemmas.List.Elements.{All-get_or, All-from_get_or}
use Rattle.std.proofs.lemmas.Option.{slice_get_within}
use Rattle.reo_net_base.specs.declared.port.Port.{Port}
use Rattle.reo_net_base.specs.declared.port.Offer.{Offer}
use Rattle.reo_net_base.specs.declared.port.Offer.TheVariants.{Write, Take}
use Rattle.reo_net_base.specs.PortState.{PortState, port_state_at, way_of, IsAccepted}
use Rattle.reo_net_circuit.specs.Offers.{OnlyPort}
use Rattle.reo_players.specs.Written.{Task}
use Rattle.reo_players.specs.Written.Task.{writes, takes, rests}
use Rattle.reo_players.specs.Players.{Player, no_player, player_of, after, after_task, port_of, offer_of, runs_out, one_more_seen}
use Rattle.reo_players.specs.Offers.{offer_at}
use Rattle.reo_runs.specs.run_premises.Fitting.{FitsPorts, FitPorts, names, names_in}
use Rattle.reo_runs.specs.run_premises.PortsOf.{IsPortOf, HasPorts}
use Rattle.reo_rounds.specs.Offering.{IsTakenAt}
use Rattle.reo_runs.specs.at_ports.Pending.{pending_at}
use Rattle.reo_runs.specs.at_ports.Between.{AreAtPorts, is_gone}
use Rattle.reo_runs.specs.at_ports.Parts.{HasGoneOn}
use Rattle.reo_runs.proofs.at_ports.Cases.{option_cases}
use Rattle.reo_runs.proofs.at_ports.Offered.{offers_of, named}

-- What the components have left to do, each at its place.
abbrev pub rests_of : List Player → List (List Task)
rests_of players = map (λ (p : Player). p.rest) players

pub rest_at : (players : List Player) (i : ℕ) → i < length players → slice_index_or (rests_of players) i [] ≡ (player_of players i).rest
rest_at players i lt = get_or-map (λ (p : Player). p.rest) players i no_player [] lt

-- As many components, each of which has as much left to do, have the same left to do.
pub rests_same : (old new : List Player) → length new ≡ length old → ((i : ℕ) → (player_of new i).rest ≡ (player_of old i).rest) → rests_of new ≡ rests_of old
rests_same old new count rest =
    ext_get_or [] (rests_of new) (rests_of old) (length-map new (λ (p : Player). p.rest) ∙ count ∙ sym (length-map old (λ (p : Player). p.rest)))
    (λ i lt.
    let lt_new : i < length new = omega (arith, length-map new (λ (p : Player). p.rest)) in
    rest_at new i lt_new ∙ rest i ∙ sym (rest_at old i (omega (arith, count))))

-- Each action of each component fits the ports.
pub fits_at : (ports : List Port) (players : List Player) (i : ℕ) → FitPorts ports (rests_of players) → i < length players → All (FitsPorts ports) (player_of players i).rest
fits_at ports players i fit lt =
    subst (All (FitsPorts ports)) (rest_at players i lt)
    (All-get_or (All (FitsPorts ports)) (rests_of players) i [] (omega (arith, length-map players (λ (p : Player). p.rest))) fit.each)

names_at : (players : List Player) (port i : ℕ) → i < length players → names_in (rests_of players) port i ≡ list_any (names port) (player_of players i).rest
names_at players port i lt = ap (list_any (names port)) (rest_at players i lt)

-- At each port one component offers.
pub apart : (ports : List Port) (players : List Player) (port i j : ℕ) (o u : Offer) → FitPorts ports (rests_of players) → i < length players → j < length players
    → offer_at port (player_of players i) ≡ Some o → offer_at port (player_of players j) ≡ Some u → i ≡ j
apart ports players port i j o u fit i_lt j_lt one other =
    fit.apart port i j (names_at players port i i_lt ∙ named port o (player_of players i) one) (names_at players port j j_lt ∙ named port u (player_of players j) other)

pub alone : (ports : List Port) (players : List Player) (port i j : ℕ) (o : Offer) → FitPorts ports (rests_of players) → i < length players → j < length players
    → offer_at port (player_of players i) ≡ Some o → j ≢ i → offer_at port (player_of players j) ≡ None
alone ports players port i j o fit i_lt j_lt one ne =
    elim (option_cases (offer_at port (player_of players j))) [
      | inl none ↦ none
      | inr some ↦ absurd (ne (sym (apart ports players port i j o some.0 fit i_lt j_lt one some.1)))
    ]

-- The port takes what is offered there.
record Takes (ports : ℕ) (state : PortState) (port : ℕ) (o : Offer) : Type 0 where
  in_range : port < ports
  way : state.way ≡ Some (way_of o)
  accepted : IsAccepted state o

-- So it is by the action that offers, and by the component that does.
takes_task : (ports : List Port) (states : List PortState) (t : Task) (port : ℕ) (o : Offer) → HasPorts states ports → FitsPorts ports t → port_of t ≡ Some port → offer_of t ≡ Some o
    → Takes (length ports) (port_state_at states port) port o
takes_task ports states (writes n item within) port o has fits at what =
    let here = has.each n fits.0 fits.1 in
    let there : Takes (length ports) (port_state_at states n) n (Write item) = record {
      in_range = slice_get_within ports n fits.0 fits.1;
      way = here.way ∙ ap (λ w. Some w) fits.2;
      accepted = here.accepts fits.2 item ∙ fits.3;
    } in
    let same : n ≡ port = cc in
    let it : Write item ≡ o = cc in
    subst (λ k. Takes (length ports) (port_state_at states k) k o) same (subst (λ u. Takes (length ports) (port_state_at states n) n u) it there)
takes_task ports states (takes n within) port o has fits at what =
    let here = has.each n fits.0 fits.1 in
    let there : Takes (length ports) (port_state_at states n) n Take = record {
      in_range = slice_get_within ports n fits.0 fits.1;
      way = here.way ∙ ap (λ w. Some w) fits.2;
      accepted = tt;
    } in
    let same : n ≡ port = cc in
    let it : Take ≡ o = cc in
    subst (λ k. Takes (length ports) (port_state_at states k) k o) same (subst (λ u. Takes (length ports) (port_state_at states n) n u) it there)
takes_task ports states (rests rounds) port o has fits at what = absurd cc

takes_offer : (ports : List Port) (count : ℕ) (players : List Player) (states : List PortState) (i port : ℕ) (o : Offer) → AreAtPorts ports count players states → i < length players
    → offer_at port (player_of players i) ≡ Some o → Takes (length ports) (port_state_at states port) port o
takes_offer ports count players states i port o at i_lt offers =
    let is = offers_of port o (player_of players i) offers in
    let all = subst (All (FitsPorts ports)) is.rest_is (fits_at ports players i at.fit i_lt) in
    takes_task ports states is.task port o at.ports_are (all 0 is.task (omega arith)) is.at is.what

-- The port is one of the circuit's, and where nothing is pending the offer is taken.
pub in_range : (ports : List Port) (count : ℕ) (players : List Player) (states : List PortState) (i port : ℕ) (o : Offer) → AreAtPorts ports count players states → i < length players
    → offer_at port (player_of players i) ≡ Some o → port < length ports
in_range ports count players states i port o at i_lt offers = (takes_offer ports count players states i port o at i_lt offers).in_range

pub is_taken : (ports : List Port) (count : ℕ) (players : List Player) (states : List PortState) (i port : ℕ) (o : Offer) → AreAtPorts ports count players states → i < length players
    → offer_at port (player_of players i) ≡ Some o → pending_at states port ≡ None → IsTakenAt states count port o
is_taken ports count players states i port o at i_lt offers free =
    let is = takes_offer ports count players states i port o at i_lt offers in
    let few = is.in_range in
    record { in_range = omega (arith, at.count_is); can_place = record { way = is.way; free = free; accepted = is.accepted } }

-- The ports stay where an offer comes or goes.
pub ports_stay : (ports : List Port) (old new : List PortState) (port : ℕ) (pending : Option Offer) → OnlyPort old new port pending → HasPorts old ports → HasPorts new ports
ports_stay ports old new port pending only has = record {
  each = λ i p got. elim (cases_eq i port) [
    | inl same ↦ let here = subst (λ k. IsPortOf (port_state_at old k) p) same (has.each i p got) in
        subst (λ k. IsPortOf (port_state_at new k) p) (sym same) record { way = only.here.way ∙ here.way; accepts = λ way item. only.here.accepts item ∙ here.accepts way item }
    | inr ne ↦ subst (λ state. IsPortOf state p) (sym (only.others i ne)) (has.each i p got)
  ];
  others = λ i le. elim (cases_eq i port) [
    | inl same ↦ let there = subst (λ k. (port_state_at old k).way ≡ None) same (has.others i le) in
        subst (λ k. (port_state_at new k).way ≡ None) (sym same) (only.here.way ∙ there)
    | inr ne ↦ ap (λ (state : PortState). state.way) (only.others i ne) ∙ has.others i le
  ];
}

-- What a component has left to do gets shorter.
module _ (flowed : Bool) (seen : ℕ) where
  rest_fits : (ports : List Port) (ts : List Task) → All (FitsPorts ports) ts → All (FitsPorts ports) (after_task flowed seen ts).rest
  rest_fits ports [] all = all
  rest_fits ports (t ∷ ts) all =
      let gone : Player = record { rest = ts; seen = 0 } in
      let stays : Player = record { rest = t ∷ ts; seen = one_more_seen t seen } in
      elim (flowed || runs_out t seen) as (λ b. All (FitsPorts ports) (cond b gone stays).rest) [ true ↦ λ k d below. all (suc k) d (omega arith) | false ↦ all ]

  rest_names : (port : ℕ) (ts : List Task) → list_any (names port) (after_task flowed seen ts).rest ≡ true → list_any (names port) ts ≡ true
  rest_names port [] = λ any. any
  rest_names port (t ∷ ts) =
      let gone : Player = record { rest = ts; seen = 0 } in
      let stays : Player = record { rest = t ∷ ts; seen = one_more_seen t seen } in
      elim (flowed || runs_out t seen) as (λ b. list_any (names port) (cond b gone stays).rest ≡ true → list_any (names port) (t ∷ ts) ≡ true) [
        | true ↦ λ any. ap (λ b. names port t || b) any ∙ or-true (names port t)
        | false ↦ λ any. any
      ]

module _ (ports : List Port) (component : ℕ) (states : List PortState) (old new : List Player) (on : HasGoneOn component states old new) (fit : FitPorts ports (rests_of old)) where
  here : (i : ℕ) → i ≡ component → player_of new i ≡ after (is_gone states (player_of old i)) (player_of old i)
  here i same = subst (λ k. player_of new k ≡ after (is_gone states (player_of old k)) (player_of old k)) (sym same) on.here

  still_fits : (i : ℕ) → i < length new → All (FitsPorts ports) (player_of new i).rest
  still_fits i lt =
      let fits = fits_at ports old i fit (omega (arith, on.count)) in
      elim (cases_eq i component) [
        | inl same ↦ subst (λ (p : Player). All (FitsPorts ports) p.rest) (sym (here i same)) (rest_fits (is_gone states (player_of old i)) (player_of old i).seen ports (player_of old i).rest fits)
        | inr ne ↦ subst (λ (p : Player). All (FitsPorts ports) p.rest) (sym (on.others i ne)) fits
      ]

  named_before : (port i : ℕ) → list_any (names port) (player_of new i).rest ≡ true → list_any (names port) (player_of old i).rest ≡ true
  named_before port i any =
      elim (cases_eq i component) [
        | inl same ↦ rest_names (is_gone states (player_of old i)) (player_of old i).seen port (player_of old i).rest (ap (λ (p : Player). list_any (names port) p.rest) (sym (here i same)) ∙ any)
        | inr ne ↦ ap (λ (p : Player). list_any (names port) p.rest) (sym (on.others i ne)) ∙ any
      ]

  names_before : (port i : ℕ) → names_in (rests_of new) port i ≡ true → names_in (rests_of old) port i ≡ true
  names_before port i any =
      elim (cases_lt i (length new)) [
        | inl lt ↦ names_at old port i (omega (arith, on.count)) ∙ named_before port i (sym (names_at new port i lt) ∙ any)
        | inr le ↦ let none = ap (list_any (names port)) (get_or_past (rests_of new) i [] (omega (arith, length-map new (λ (p : Player). p.rest)))) in absurd (true≢false (sym any ∙ none))
      ]

  pub fit_on : FitPorts ports (rests_of new)
  fit_on = record {
    each = All-from_get_or (All (FitsPorts ports)) (rests_of new) [] (λ i lt.
        let lt_new : i < length new = omega (arith, length-map new (λ (p : Player). p.rest)) in
        subst (All (FitsPorts ports)) (sym (rest_at new i lt_new)) (still_fits i lt_new));
    apart = λ port i j one other. fit.apart port i j (names_before port i one) (names_before port j other);
  }
