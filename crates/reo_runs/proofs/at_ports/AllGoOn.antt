-- The components go on one by one.
use Rattle.std.proofs.Common.{◌≡◌, ◌≢◌, ◌∙◌, inl, inr, ℕ, ◌+◌, ◌<◌, ◌≤◌, Bool, true, false, cond, List, length, refl, sym, ap, subst, arith}
use Rattle.std.specs.Prelude.{Option, Some, None, nat_lt, nat_eq}
use Rattle.std.proofs.lemmas.Bool.{cases_eq, cases_lt}
use Rattle.std.proofs.lemmas.Bool.Decides.{nat_tests}
use Rattle.std.proofs.lemmas.List.{ext_get_or, get_or-map, length-map}
use Rattle.reo_net_base.specs.declared.port.Port.{Port}
use Rattle.reo_net_base.specs.declared.port.Offer.{Offer}
use Rattle.reo_net_base.specs.PortState.{PortState}
use Rattle.reo_players.specs.Players.{Player, no_player, player_of, after}
use Rattle.reo_players.specs.Offers.{offer_at}
use Rattle.reo_players.specs.Idle.{is_awake, ArePassed, HavePassed}
use Rattle.reo_runs.specs.run_premises.Fitting.{FitPorts}
use Rattle.reo_runs.specs.at_ports.Pending.{pending_at, held_at}
use Rattle.reo_runs.specs.at_ports.Between.{AreAtPorts, AreBetween, AreStepped, NoneAsleepIsGone, is_gone, gone_on}
use Rattle.reo_runs.specs.at_ports.Parts.{HasGoneOn, IsLeft, IsPendingOrGone}
use Rattle.reo_runs.proofs.at_ports.Cases.{option_cases}
use Rattle.reo_runs.proofs.at_ports.AtPorts.{alone, in_range, rests_same}
use Rattle.reo_runs.proofs.at_ports.GoneOn.{gone_alike, still_there, held_passed, passed_rest}

-- What a component has at a port, of which the first so many have gone on.
abbrev pub has_at : List Player → ℕ → ℕ → ℕ → Option Offer
has_at players done i port = cond (nat_lt i done) (held_at port (player_of players i)) (offer_at port (player_of players i))

-- The first so many have gone on, and the others wait; what these offer is pending or gone as it was after the round.
pub record Advancing (ports : List Port) (count done : ℕ) (old new : List Player) (before now : List PortState) : Type 0 where
  pub at_ports : AreAtPorts ports count new now
  pub length_is : length new ≡ length old
  pub gone : (i : ℕ) → i < done → player_of new i ≡ after (is_gone before (player_of old i)) (player_of old i)
  pub waiting : (i : ℕ) → done ≤ i → player_of new i ≡ player_of old i
  pub held : (port i : ℕ) (o : Offer) → port < length ports → i < done → i < length new → held_at port (player_of new i) ≡ Some o → pending_at now port ≡ Some o
  pub offered : (port i : ℕ) (o : Offer) → port < length ports → done ≤ i → i < length new → offer_at port (player_of new i) ≡ Some o → pending_at now port ≡ pending_at before port
  pub unnamed : (port : ℕ) → port < length ports → ((i : ℕ) → i < length new → has_at new done i port ≡ None) → pending_at now port ≡ None
  pub were : (port : ℕ) (o : Offer) → pending_at now port ≡ Some o → pending_at before port ≡ Some o

module _ (players : List Player) where
  by_test : (n i port : ℕ) (b : Bool) → nat_lt i n ≡ b → has_at players n i port ≡ cond b (held_at port (player_of players i)) (offer_at port (player_of players i))
  by_test n i port b e = ap (λ t. cond t (held_at port (player_of players i)) (offer_at port (player_of players i))) e

  holds : (n i port : ℕ) → i < n → has_at players n i port ≡ held_at port (player_of players i)
  holds n i port lt = by_test n i port true (grind (arith, nat_tests))

  offers : (n i port : ℕ) → n ≤ i → has_at players n i port ≡ offer_at port (player_of players i)
  offers n i port le = by_test n i port false (grind (arith, nat_tests))

-- Before the first.
pub first : (ports : List Port) (count : ℕ) (players : List Player) (states : List PortState) → AreStepped ports count players states → Advancing ports count 0 players players states states
first ports count players states are = record {
  at_ports = are.at_ports;
  length_is = refl;
  gone = λ i lt. absurd (omega arith);
  waiting = λ i le. refl;
  held = λ port i o lt none. absurd (omega arith);
  offered = λ port i o lt le i_lt is. refl;
  unnamed = λ port lt all. are.pending.unnamed port lt (λ i i_lt. sym (offers players 0 i port (omega arith)) ∙ all i i_lt);
  were = λ port o some. some;
}

module _ (ports : List Port) (count done : ℕ) (old new : List Player) (before now : List PortState) (are : Advancing ports count done old new before now) (lt : done < length new) where
  -- what the next component offers is as the round has left it
  as_before : (port : ℕ) (o : Offer) → offer_at port (player_of new done) ≡ Some o → pending_at now port ≡ pending_at before port
  as_before port o is = are.offered port done o (in_range ports count new now done port o are.at_ports lt is) (omega arith) lt is

  pub may : (had : ℕ) → AreStepped ports had old before → IsPendingOrGone (player_of new done) now
  may had stepped port o is =
      let was : offer_at port (player_of old done) ≡ Some o = ap (offer_at port) (sym (are.waiting done (omega arith))) ∙ is in
      let port_lt = in_range ports count new now done port o are.at_ports lt is in
      elim (stepped.pending.named port done o port_lt (omega (arith, are.length_is)) was) [
        | inl none ↦ inl (as_before port o is ∙ none)
        | inr some ↦ inr (as_before port o is ∙ some)
      ]

  module _ (counted : ℕ) (newer : List Player) (later : List PortState) (at : AreAtPorts ports counted newer later) (on : HasGoneOn done now new newer) (left : IsLeft (player_of new done) (player_of newer done) now later) where
    -- at a port of the component no other offers
    others_none : (port i : ℕ) (o : Offer) → offer_at port (player_of new done) ≡ Some o → i < length new → i ≢ done → offer_at port (player_of new i) ≡ None
    others_none port i o is i_lt ne = alone ports new port done i o are.at_ports.fit lt i_lt is ne

    -- where another offers it has nothing
    here_none : (port i : ℕ) (o : Offer) → offer_at port (player_of new i) ≡ Some o → i < length new → i ≢ done → offer_at port (player_of new done) ≡ None
    here_none port i o is i_lt ne = alone ports new port i done o are.at_ports.fit i_lt lt is (λ e. ne (sym e))

    went : player_of newer done ≡ after (is_gone before (player_of old done)) (player_of old done)
    went =
        let waits = are.waiting done (omega arith) in
        on.here ∙ ap (λ b. after b (player_of new done)) (gone_alike before now (player_of new done) as_before)
        ∙ ap (λ p. after (is_gone before p) p) waits

    held_offers : (port i : ℕ) (o : Offer) → held_at port (player_of new i) ≡ Some o → offer_at port (player_of new i) ≡ Some o
    held_offers port i o is =
        elim (nat_eq (player_of new i).seen 0) as (λ b. cond b None (offer_at port (player_of new i)) ≡ Some o → offer_at port (player_of new i) ≡ Some o) [ true ↦ λ e. absurd cc | false ↦ λ e. e ] is

    held_later : (port i : ℕ) (o : Offer) → port < length ports → i < done + 1 → i < length newer → held_at port (player_of newer i) ≡ Some o → pending_at later port ≡ Some o
    held_later port i o port_lt i_done i_lt is =
        elim (cases_eq i done) [
          | inl same ↦
              let here = subst (λ k. held_at port (player_of newer k) ≡ Some o) same is in
              elim (option_cases (offer_at port (player_of new done))) [
                | inl none ↦ let nothing = left.held port none in absurd cc
                | inr some ↦ left.here port some.0 some.1 ∙ here
              ]
          | inr ne ↦
              let was : held_at port (player_of new i) ≡ Some o = ap (held_at port) (sym (on.others i ne)) ∙ is in
              let lt_new : i < length new = omega (arith, on.count) in
              left.elsewhere port (here_none port i o (held_offers port i o was) lt_new ne) ∙ are.held port i o port_lt (omega arith) lt_new was
        ]

    offered_later : (port i : ℕ) (o : Offer) → port < length ports → done + 1 ≤ i → i < length newer → offer_at port (player_of newer i) ≡ Some o → pending_at later port ≡ pending_at before port
    offered_later port i o port_lt le i_lt is =
        let ne : i ≢ done = (λ e. absurd (omega arith)) in
        let was : offer_at port (player_of new i) ≡ Some o = ap (offer_at port) (sym (on.others i ne)) ∙ is in
        let lt_new : i < length new = omega (arith, on.count) in
        left.elsewhere port (here_none port i o was lt_new ne) ∙ are.offered port i o port_lt (omega arith) lt_new was

    has_later : (port i : ℕ) → i ≢ done → has_at newer (done + 1) i port ≡ has_at new done i port
    has_later port i ne =
        let same = on.others i ne in
        elim (cases_lt i done) [
          | inl less ↦ holds newer (done + 1) i port (omega arith) ∙ ap (held_at port) same ∙ sym (holds new done i port less)
          | inr le ↦ offers newer (done + 1) i port (omega arith) ∙ ap (offer_at port) same ∙ sym (offers new done i port le)
        ]

    unnamed_later : (port : ℕ) → port < length ports → ((i : ℕ) → i < length newer → has_at newer (done + 1) i port ≡ None) → pending_at later port ≡ None
    unnamed_later port port_lt all =
        elim (option_cases (offer_at port (player_of new done))) [
          | inl none ↦ left.elsewhere port none ∙ are.unnamed port port_lt (λ i i_lt. elim (cases_eq i done) [
            | inl same ↦ offers new done i port (omega arith) ∙ subst (λ k. offer_at port (player_of new k) ≡ None) (sym same) none
            | inr ne ↦ sym (has_later port i ne) ∙ all i (omega (arith, on.count))
          ])
          | inr some ↦ left.here port some.0 some.1 ∙ sym (holds newer (done + 1) done port (omega arith)) ∙ all done (omega (arith, on.count))
        ]

    -- one more has gone on
    pub next : Advancing ports counted (done + 1) old newer before later
    next = record {
      at_ports = at;
      length_is = on.count ∙ are.length_is;
      gone = λ i less. elim (cases_eq i done) [
        | inl same ↦ subst (λ k. player_of newer k ≡ after (is_gone before (player_of old k)) (player_of old k)) (sym same) went
        | inr ne ↦ on.others i ne ∙ are.gone i (omega arith)
      ];
      waiting = λ i le. on.others i (λ e. absurd (omega arith)) ∙ are.waiting i (omega arith);
      held = held_later;
      offered = offered_later;
      unnamed = unnamed_later;
      were = λ port o some. are.were port o (left.were port o some);
    }

-- Those that are idle or wait and whose bound does not run out have passed, all at once.
module _ (ports : List Port) (count : ℕ) (old new newer : List Player) (before now : List PortState) (had : ℕ) (stepped : AreStepped ports had old before) (stay : NoneAsleepIsGone old before)
    (done place : ℕ) (within : done ≤ length new) (are : Advancing ports count done old new before now) (have : HavePassed done place new newer) where
  passed : ArePassed done place new newer
  passed = have.are

  on : done ≤ place
  on = let from = have.from_on in omega arith

  module _ (i : ℕ) (low : done ≤ i) (high : i < place) where
    i_lt : i < length new
    i_lt = let inside = have.in_range in omega arith

    as_was : player_of new i ≡ player_of old i
    as_was = are.waiting i low

    stays : is_gone before (player_of old i) ≡ false
    stays = stay i (omega (arith, i_lt, are.length_is)) (ap is_awake (sym as_was) ∙ passed.asleep i low high)

    stays_now : is_gone now (player_of new i) ≡ false
    stays_now =
        gone_alike before now (player_of new i) (λ port o is. are.offered port i o (in_range ports count new now i port o are.at_ports i_lt is) low i_lt is)
        ∙ ap (is_gone before) as_was ∙ stays

    has_gone : player_of newer i ≡ after (is_gone before (player_of old i)) (player_of old i)
    has_gone = passed.passed i low high ∙ ap (after false) as_was ∙ sym (ap (λ b. after b (player_of old i)) stays)

    held_is : (port : ℕ) → held_at port (player_of newer i) ≡ offer_at port (player_of new i)
    held_is port = ap (held_at port) (passed.passed i low high) ∙ held_passed port (player_of new i) (passed.not_last i low high)

    may_be : IsPendingOrGone (player_of new i) now
    may_be port o is =
        let was : offer_at port (player_of old i) ≡ Some o = ap (offer_at port) (sym as_was) ∙ is in
        let port_lt = in_range ports count new now i port o are.at_ports i_lt is in
        let same = are.offered port i o port_lt low i_lt is in
        elim (stepped.pending.named port i o port_lt (omega (arith, i_lt, are.length_is)) was) [
          | inl none ↦ inl (same ∙ none)
          | inr some ↦ inr (same ∙ some)
        ]

    is_held : (port : ℕ) (o : Offer) → held_at port (player_of newer i) ≡ Some o → pending_at now port ≡ Some o
    is_held port o is = still_there now (player_of new i) port o may_be (sym (held_is port) ∙ is) stays_now

  rest_same : (i : ℕ) → (player_of newer i).rest ≡ (player_of new i).rest
  rest_same i =
      elim (cases_lt i done) [
        | inl less ↦ ap (λ (p : Player). p.rest) (passed.before i less)
        | inr low ↦ elim (cases_lt i place) [
          | inl high ↦ ap (λ (p : Player). p.rest) (passed.passed i low high) ∙ passed_rest (player_of new i) (passed.not_last i low high)
          | inr behind ↦ ap (λ (p : Player). p.rest) (passed.behind i behind)
        ]
      ]

  has_same : (port i : ℕ) → has_at newer place i port ≡ has_at new done i port
  has_same port i =
      elim (cases_lt i done) [
        | inl less ↦ holds newer place i port (omega (arith, on)) ∙ ap (held_at port) (passed.before i less) ∙ sym (holds new done i port less)
        | inr low ↦ elim (cases_lt i place) [
          | inl high ↦ holds newer place i port high ∙ held_is i low high port ∙ sym (offers new done i port low)
          | inr behind ↦ offers newer place i port behind ∙ ap (offer_at port) (passed.behind i behind) ∙ sym (offers new done i port low)
        ]
      ]

  pub pass_to : Advancing ports count place old newer before now
  pass_to = record {
    at_ports = record { count_is = are.at_ports.count_is; ports_are = are.at_ports.ports_are; fit = subst (FitPorts ports) (sym (rests_same new newer passed.count rest_same)) are.at_ports.fit };
    length_is = passed.count ∙ are.length_is;
    gone = λ i less. elim (cases_lt i done) [
      | inl first ↦ passed.before i first ∙ are.gone i first
      | inr low ↦ has_gone i low less
    ];
    waiting = λ i le. passed.behind i le ∙ are.waiting i (omega (arith, on));
    held = λ port i o port_lt less lt is. elim (cases_lt i done) [
      | inl first ↦ are.held port i o port_lt first (omega (arith, passed.count)) (ap (held_at port) (sym (passed.before i first)) ∙ is)
      | inr low ↦ is_held i low less port o is
    ];
    offered = λ port i o port_lt le lt is. are.offered port i o port_lt (omega (arith, on)) (omega (arith, passed.count)) (ap (offer_at port) (sym (passed.behind i le)) ∙ is);
    unnamed = λ port port_lt all. are.unnamed port port_lt (λ i lt. sym (has_same port i) ∙ all i (omega (arith, passed.count)));
    were = are.were;
  }

-- After the last.
module _ (ports : List Port) (count done : ℕ) (old new : List Player) (before now : List PortState) (are : Advancing ports count done old new before now) (all : length new ≤ done) where
  pub all_gone_on : new ≡ gone_on before old
  all_gone_on =
      let on : Player → Player = (λ p. after (is_gone before p) p) in
      ext_get_or no_player new (gone_on before old) (are.length_is ∙ sym (length-map old on))
      (λ i lt. are.gone i (omega arith) ∙ sym (get_or-map on old i no_player no_player (omega (arith, are.length_is))))

  pub all_between : AreBetween ports count new now
  all_between = record {
    at_ports = are.at_ports;
    pending = record {
      named = λ port i o port_lt i_lt is. are.held port i o port_lt (omega arith) i_lt is;
      unnamed = λ port port_lt none. are.unnamed port port_lt (λ i i_lt. holds new done i port (omega arith) ∙ none i i_lt);
    };
  }
