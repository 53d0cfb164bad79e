-- The components make their offers one by one.
use Rattle.std.proofs.Common.{◌≡◌, ◌≢◌, ◌∙◌, inl, inr, ℕ, zero, suc, ◌+◌, ◌-◌, ◌<◌, ◌≤◌, ⊎_elim, ◌||◌, Bool, true, false, cond, not, List, [], ◌∷◌, length, sym, ap, subst, arith}
use Rattle.std.specs.Prelude.{Option, Some, None, is_some, nat_eq, nat_lt, slice_get}
use Rattle.std.proofs.lemmas.Bool.{cases_eq, or_cases, not-true, not-false, and_parts, cases_lt}
use Rattle.std.proofs.lemmas.Bool.Decides.{nat_tests}
use Rattle.std.proofs.lemmas.Option.{slice_get_within, get_or_from_slice_get, slice_get-get_or}
use Rattle.reo_net_base.specs.declared.port.Port.{Port}
use Rattle.reo_net_base.specs.declared.port.Offer.{Offer}
use Rattle.reo_net_base.specs.PortState.{PortState}
use Rattle.reo_net_circuit.specs.Offers.{OnlyPort}
use Rattle.reo_players.specs.Written.{Task}
use Rattle.reo_players.specs.Players.{Player, no_player, player_of, bound_of, counts}
use Rattle.reo_players.specs.Idle.{is_idle, waits, is_awake, IsNextAwake}
use Rattle.reo_players.specs.Offers.{offer_at, offer_for, OffersAgree}
use Rattle.reo_runs.specs.at_ports.Pending.{pending_at, held_at, ArePending}
use Rattle.reo_runs.specs.at_ports.Between.{AreBetween, AreStarted}
use Rattle.reo_runs.specs.at_ports.Parts.{offered_at, AreOffering}
use Rattle.reo_runs.proofs.at_ports.Cases.{none_either}
use Rattle.reo_runs.proofs.at_ports.Offered.{elsewhere}
use Rattle.reo_runs.proofs.at_ports.AtPorts.{apart, alone, in_range, ports_stay}

-- Where each has the same at each port, the same is pending.
pub pending_like : (has had : ℕ → ℕ → Option Offer) (count ports : ℕ) (states : List PortState) → ((port i : ℕ) → i < count → has i port ≡ had i port) → ArePending had count ports states → ArePending has count ports states
pending_like has had count ports states same are = record {
  named = λ port i o lt i_lt is. are.named port i o lt i_lt (sym (same port i i_lt) ∙ is);
  unnamed = λ port lt all. are.unnamed port lt (λ i i_lt. sym (same port i i_lt) ∙ all i i_lt);
}

-- What a component has before and after its turn, and the others.
module _ (players : List Player) where
  by_test : (n i port : ℕ) (b : Bool) → nat_lt i n ≡ b → offered_at players n i port ≡ cond b (offer_at port (player_of players i)) (held_at port (player_of players i))
  by_test n i port b e = ap (λ t. cond t (offer_at port (player_of players i)) (held_at port (player_of players i))) e

  pub has_offered : (n i port : ℕ) → i < n → offered_at players n i port ≡ offer_at port (player_of players i)
  has_offered n i port lt = by_test n i port true (grind (arith, nat_tests))

  pub holds : (n i port : ℕ) → n ≤ i → offered_at players n i port ≡ held_at port (player_of players i)
  holds n i port le = by_test n i port false (grind (arith, nat_tests))

  others_alike : (n i port : ℕ) → i ≢ n → offered_at players (n + 1) i port ≡ offered_at players n i port
  others_alike n i port ne =
      elim (cases_lt i n) [
        | inl lt ↦ has_offered (n + 1) i port (omega arith) ∙ sym (has_offered n i port lt)
        | inr le ↦ holds (n + 1) i port (omega arith) ∙ sym (holds n i port le)
      ]

  nothing_held : (port i : ℕ) → offer_at port (player_of players i) ≡ None → held_at port (player_of players i) ≡ None
  nothing_held port i none = ap (λ o. cond (nat_eq (player_of players i).seen 0) None o) none ∙ none_either (nat_eq (player_of players i).seen 0)

  fresh_holds : (port i : ℕ) → nat_eq (player_of players i).seen 0 ≡ true → held_at port (player_of players i) ≡ None
  fresh_holds port i fresh = ap (λ b. cond b None (offer_at port (player_of players i))) fresh

  nothing_offered : (n port i : ℕ) → offer_at port (player_of players i) ≡ None → offered_at players n i port ≡ None
  nothing_offered n port i none =
      elim (cases_lt i n) [
        | inl lt ↦ has_offered n i port lt ∙ none
        | inr le ↦ holds n i port le ∙ nothing_held port i none
      ]

-- A round has seen its offer.
pub seen_offered : (p : Player) → nat_eq p.seen 0 ≡ false → (port : ℕ) → held_at port p ≡ offer_at port p
seen_offered p seen port = ap (λ b. cond b None (offer_at port p)) seen

idle_rest : (port : ℕ) (rest : List Task) (seen : ℕ) → is_idle (record { rest = rest; seen = seen }) ≡ true → held_at port (record { rest = rest; seen = seen }) ≡ offer_at port (record { rest = rest; seen = seen })
idle_rest port [] seen idle = none_either (nat_eq seen 0)
idle_rest port (t ∷ ts) seen idle =
    let once : nat_eq seen 1 ≡ true = (and_parts (not (is_some (bound_of t))) (nat_eq seen 1) idle).1 in
    let not_none : nat_eq seen 0 ≡ false = grind (arith, nat_tests) in
    seen_offered (record { rest = t ∷ ts; seen = seen }) not_none port

-- Nor has one that is idle or waits an offer that no round has seen.
pub asleep_offered : (p : Player) → is_awake p ≡ false → (port : ℕ) → held_at port p ≡ offer_at port p
asleep_offered p asleep port =
    ⊎_elim (λ idle. idle_rest port p.rest p.seen idle)
    (λ waiting. seen_offered p (not-true (nat_eq p.seen 0) ((and_parts (counts p) (not (nat_eq p.seen 0)) waiting).1)) port)
    (or_cases (is_idle p) (waits p) (not-false (is_idle p || waits p) asleep))

-- A component that has nothing to add, as a round has seen its offer or it makes none.
pub pass_over : (ports : List Port) (count n : ℕ) (players : List Player) (states : List PortState) → ((port : ℕ) → held_at port (player_of players n) ≡ offer_at port (player_of players n))
    → AreOffering ports count n players states → AreOffering ports count (n + 1) players states
pass_over ports count n players states same are = record {
  at_ports = are.at_ports;
  pending = pending_like (offered_at players (n + 1)) (offered_at players n) (length players) (length ports) states
      (λ port i lt. elim (cases_eq i n) [
        | inl is ↦
            has_offered players (n + 1) i port (omega arith)
            ∙ subst (λ k. offer_at port (player_of players k) ≡ held_at port (player_of players k)) (sym is) (sym (same port))
            ∙ sym (holds players n i port (omega arith))
        | inr ne ↦ others_alike players n i port ne
      ]) are.pending;
}

-- So many in a row that are idle or wait.
pub pass_idle : (ports : List Port) (count : ℕ) (players : List Player) (states : List PortState) (more n : ℕ) → ((i : ℕ) → n ≤ i → i < n + more → is_awake (player_of players i) ≡ false)
    → AreOffering ports count n players states → AreOffering ports count (n + more) players states
pass_idle ports count players states zero n idle are =
    let same : n + zero ≡ n = omega arith in
    subst (λ (k : ℕ). AreOffering ports count k players states) (sym same) are
pass_idle ports count players states (suc more) n idle are =
    let same : n + suc more ≡ n + 1 + more = omega arith in
    subst (λ (k : ℕ). AreOffering ports count k players states) (sym same)
    (pass_idle ports count players states more (n + 1) (λ i le lt. idle i (omega arith) (omega arith))
    (pass_over ports count n players states (asleep_offered (player_of players n) (idle n (omega arith) (omega arith))) are))

-- Up to the next that is awake.
pub pass_to : (ports : List Port) (count : ℕ) (players : List Player) (states : List PortState) (n place : ℕ) → n ≤ length players → IsNextAwake players n place
    → AreOffering ports count n players states → AreOffering ports count place players states
pass_to ports count players states n place within next are =
    let on = next.from_on in
    let le : n ≤ place = omega arith in
    let same : n + (place - n) ≡ place = omega arith in
    subst (λ (k : ℕ). AreOffering ports count k players states) same
    (pass_idle ports count players states (place - n) n (λ i low high. next.none_before i low (omega arith)) are)

-- A component makes its offer, at a port where nothing is pending.
module _ (ports : List Port) (count n : ℕ) (players : List Player) (states : List PortState) (are : AreOffering ports count n players states) (lt : n < length players)
    (fresh : nat_eq (player_of players n).seen 0 ≡ true) (q : ℕ) (o : Offer) (offers : offer_at q (player_of players n) ≡ Some o) where
  others_none : (i : ℕ) → i < length players → i ≢ n → offer_at q (player_of players i) ≡ None
  others_none i i_lt ne = alone ports players q n i o are.at_ports.fit lt i_lt offers ne

  pub is_free : pending_at states q ≡ None
  is_free =
      are.pending.unnamed q (in_range ports count players states n q o are.at_ports lt offers)
      (λ i i_lt. elim (cases_eq i n) [
        | inl is ↦ holds players n i q (omega arith) ∙ fresh_holds players q i (subst (λ k. nat_eq (player_of players k).seen 0 ≡ true) (sym is) fresh)
        | inr ne ↦ nothing_offered players n q i (others_none i i_lt ne)
      ])

  module _ (new : List PortState) (only : OnlyPort states new q (Some o)) where
    elsewhere_same : (port : ℕ) → port ≢ q → pending_at new port ≡ pending_at states port
    elsewhere_same port ne = ap (λ (state : PortState). state.pending) (only.others port ne)

    -- what any component has at the port of the offer is the offer
    at_port : (i : ℕ) (u : Offer) → i < length players → offered_at players (n + 1) i q ≡ Some u → Some o ≡ Some u
    at_port i u i_lt is =
        elim (cases_eq i n) [
          | inl same ↦
              let has = has_offered players (n + 1) i q (omega arith) in
              let here = subst (λ k. offer_at q (player_of players k) ≡ Some o) (sym same) offers in
              sym here ∙ sym has ∙ is
          | inr ne ↦ let none = nothing_offered players (n + 1) q i (others_none i i_lt ne) in absurd cc
        ]

    at_others : (port i : ℕ) (u : Offer) → port ≢ q → port < length ports → i < length players → offered_at players (n + 1) i port ≡ Some u → pending_at new port ≡ Some u
    at_others port i u ne port_lt i_lt is =
        elim (cases_eq i n) [
          | inl same ↦
              let has = has_offered players (n + 1) i port (omega arith) in
              let none = subst (λ k. offer_at port (player_of players k) ≡ None) (sym same) (elsewhere port q o (player_of players n) offers ne) in
              absurd cc
          | inr other ↦ elsewhere_same port ne ∙ are.pending.named port i u port_lt i_lt (sym (others_alike players n i port other) ∙ is)
        ]

    none_before : (port : ℕ) → ((i : ℕ) → i < length players → offered_at players (n + 1) i port ≡ None) → (i : ℕ) → i < length players → offered_at players n i port ≡ None
    none_before port all i i_lt =
        elim (cases_eq i n) [
          | inl same ↦ nothing_offered players n port i (sym (has_offered players (n + 1) i port (omega arith)) ∙ all i i_lt)
          | inr other ↦ sym (others_alike players n i port other) ∙ all i i_lt
        ]

    pub placed_more : AreOffering ports count (n + 1) players new
    placed_more = record {
      at_ports = record { count_is = are.at_ports.count_is; ports_are = ports_stay ports states new q (Some o) only are.at_ports.ports_are; fit = are.at_ports.fit };
      pending = record {
        named = λ port i u port_lt i_lt is. elim (cases_eq port q) [
          | inl same ↦
              let here = subst (λ k. offered_at players (n + 1) i k ≡ Some u) same is in
              subst (λ k. pending_at new k ≡ Some u) (sym same) (only.here.pending_is ∙ at_port i u i_lt here)
          | inr ne ↦ at_others port i u ne port_lt i_lt is
        ];
        unnamed = λ port port_lt all. elim (cases_eq port q) [
          | inl same ↦
              let none = has_offered players (n + 1) n port (omega arith) in
              let nothing = all n lt in
              let here = subst (λ k. offer_at k (player_of players n) ≡ Some o) (sym same) offers in
              absurd cc
          | inr ne ↦ elsewhere_same port ne ∙ are.pending.unnamed port port_lt (none_before port all)
        ];
      };
    }

-- Before the first and after the last.
pub begun : (ports : List Port) (count : ℕ) (players : List Player) (states : List PortState) → AreBetween ports count players states → AreOffering ports count 0 players states
begun ports count players states are = record {
  at_ports = are.at_ports;
  pending = pending_like (offered_at players 0) (λ i port. held_at port (player_of players i)) (length players) (length ports) states (λ port i lt. holds players 0 i port (omega arith)) are.pending;
}

pub started : (ports : List Port) (count n : ℕ) (players : List Player) (states : List PortState) → length players ≤ n → AreOffering ports count n players states → AreStarted ports count players states
started ports count n players states all are = record {
  at_ports = are.at_ports;
  pending = pending_like (λ i port. offer_at port (player_of players i)) (offered_at players n) (length players) (length ports) states (λ port i lt. sym (has_offered players n i port (omega arith))) are.pending;
}

-- What is pending is what is found component by component.
pub pending_is : OffersAgree → (ports : List Port) (count : ℕ) (players : List Player) (states : List PortState) → AreStarted ports count players states
    → (port : ℕ) → port < count → pending_at states port ≡ offer_for players port
pending_is agree ports count players states are port lt =
    let port_lt : port < length ports = omega (arith, are.at_ports.count_is) in
    let at : (i : ℕ) (p : Player) → slice_get players i ≡ Some p → player_of players i ≡ p = (λ i p got. get_or_from_slice_get players i p no_player got) in
    (agree players port (pending_at states port)
    (λ port i j p q o u got there offers other.
    apart ports players port i j o u are.at_ports.fit (slice_get_within players i p got) (slice_get_within players j q there) (ap (offer_at port) (at i p got) ∙ offers) (ap (offer_at port) (at j q there) ∙ other))).0
    record {
      named = λ i p o got offers. are.pending.named port i o port_lt (slice_get_within players i p got) (ap (offer_at port) (at i p got) ∙ offers);
      unnamed = λ all. are.pending.unnamed port port_lt (λ i i_lt. all i (player_of players i) (slice_get-get_or players i no_player i_lt));
    }
