-- Those at whose ports items moved are as if no round had seen their present actions.
use Rattle.std.proofs.Common.{◌≡◌, ◌∙◌, inl, inr, ⊎_elim, ℕ, ◌+◌, ◌<◌, true, false, not, ◌||◌, List, length, refl, sym, ap, subst, arith}
use Rattle.std.specs.Prelude.{Some, None, is_none, nat_eq, slice_get, option_and_then}
use Rattle.std.specs.Option.{option_map_or}
use Rattle.std.proofs.lemmas.Bool.{cases_eq, or_cases, both_ways, not-true, not-false, and_parts}
use Rattle.std.proofs.lemmas.List.{ext_get_or, get_or-map, length-map}
use Rattle.std.proofs.lemmas.Option.{slice_get_within}
use Rattle.reo_net_base.specs.declared.colouring.Move.{Move}
use Rattle.reo_net_base.specs.declared.port.Port.{Port}
use Rattle.reo_net_base.specs.PortState.{PortState}
use Rattle.reo_rules.specs.Lists.{first_of}
use Rattle.reo_players.specs.Written.{Task}
use Rattle.reo_players.specs.Players.{Player, no_player, player_of, port_of, first_port, counts, after, after_task}
use Rattle.reo_players.specs.Offers.{task_offer, offer_at}
use Rattle.reo_players.specs.Idle.{is_idle, waits, is_awake, NamesPort, IsRoused, HasRoused}
use Rattle.reo_players.proofs.Idling.{idle_seen}
use Rattle.reo_runs.specs.run_premises.Fitting.{FitPorts}
use Rattle.reo_runs.specs.at_ports.Pending.{pending_at}
use Rattle.reo_runs.specs.at_ports.Between.{AreStepped, AreMoved, NoneAsleepIsGone, is_gone, gone_on}
use Rattle.reo_runs.specs.at_ports.Parts.{AreRoused, IsMoved}
use Rattle.reo_runs.proofs.at_ports.Offered.{offers_where}
use Rattle.reo_runs.proofs.at_ports.AtPorts.{apart, rests_same}
use Rattle.reo_runs.proofs.at_ports.GoneOn.{names_gone, gone_names, flowed_alike}

-- Before the first move.
pub none_roused : (moves : List Move) (players : List Player) → AreRoused moves 0 players players
none_roused moves players = record {
  count = refl;
  rest = λ i. refl;
  others = λ i. inl refl;
  roused = λ k m lt is. absurd (omega arith);
}

-- The same port is named where the same is left.
names_as : (port i : ℕ) (old new : List Player) → length new ≡ length old → (player_of new i).rest ≡ (player_of old i).rest → NamesPort old port i → NamesPort new port i
names_as port i old new count rest names = record {
  there = let lt = names.there in omega arith;
  named = ap (λ (ts : List Task). option_and_then port_of (first_of ts)) rest ∙ names.named;
}

one_further : (moves : List Move) (n : ℕ) (players : List Player) (i : ℕ) → IsMoved moves n players i → IsMoved moves (n + 1) players i
one_further moves n players i is = record {
  place = is.place;
  move = is.move;
  first = let lt = is.first in omega arith;
  there = is.there;
  names = is.names;
}

-- One more move.
module _ (moves : List Move) (n : ℕ) (move : Move) (there : slice_get moves n ≡ Some move) (old mid new : List Player) (are : AreRoused moves n old mid) where
  back : (port i : ℕ) → NamesPort mid port i → NamesPort old port i
  back port i names = names_as port i mid old (sym are.count) (sym (are.rest i)) names

  at_last : (m : Move) (k : ℕ) → k ≡ n → slice_get moves k ≡ Some m → m ≡ move
  at_last m k same is = let both : Some m ≡ Some move = sym is ∙ ap (slice_get moves) same ∙ there in cc

  module _ (none : (i : ℕ) → NamesPort mid move.port i → ⊥) where
    none_at : (m : Move) (k : ℕ) → k ≡ n → slice_get moves k ≡ Some m → (i : ℕ) → NamesPort old m.port i → ⊥
    none_at m k last is i names =
        let here : NamesPort mid m.port i = names_as m.port i old mid are.count (are.rest i) names in
        none i (subst (λ (x : Move). NamesPort mid x.port i) (at_last m k last is) here)

    nobody : AreRoused moves (n + 1) old mid
    nobody = record {
      count = are.count;
      rest = are.rest;
      others = λ i. ⊎_elim (λ is. inl is) (λ moved. inr (one_further moves n old i moved)) (are.others i);
      roused = λ k m lt is. elim (cases_eq k n) [
        | inl last ↦ inl (none_at m k last is)
        | inr ne ↦ are.roused k m (omega arith) is
      ];
    }

  module _ (c : ℕ) (names : NamesPort mid move.port c) (is : IsRoused c mid new) where
    moved : IsMoved moves (n + 1) old c
    moved = record { place = n; move = move; first = omega arith; there = there; names = back move.port c names }

    rest_same : (i : ℕ) → (player_of new i).rest ≡ (player_of mid i).rest
    rest_same i = elim (cases_eq i c) [
      | inl same ↦ subst (λ k. (player_of new k).rest ≡ (player_of mid k).rest) (sym same) is.rest
      | inr ne ↦ ap (λ (p : Player). p.rest) (is.others i ne)
    ]

    still_none : (i : ℕ) → (player_of mid i).seen ≡ 0 → (player_of new i).seen ≡ 0
    still_none i zeroth = elim (cases_eq i c) [
      | inl same ↦ subst (λ k. (player_of new k).seen ≡ 0) (sym same) is.seen
      | inr ne ↦ ap (λ (p : Player). p.seen) (is.others i ne) ∙ zeroth
    ]

    one : AreRoused moves (n + 1) old new
    one = record {
      count = is.count ∙ are.count;
      rest = λ i. rest_same i ∙ are.rest i;
      others = λ i. elim (cases_eq i c) [
        | inl same ↦ inr (subst (λ k. IsMoved moves (n + 1) old k) (sym same) moved)
        | inr ne ↦ ⊎_elim (λ was. inl (is.others i ne ∙ was)) (λ before. inr (one_further moves n old i before)) (are.others i)
      ];
      roused = λ k m lt at. elim (cases_eq k n) [
        | inl last ↦ inr (c, subst (λ (x : Move). NamesPort old x.port c) (sym (at_last m k last at)) (back move.port c names), is.seen)
        | inr ne ↦ ⊎_elim (λ none. inl none) (λ (some : (i : ℕ) × NamesPort old m.port i × ((player_of mid i).seen ≡ 0)). inr (some.0, some.1, still_none some.0 some.2)) (are.roused k m (omega arith) at)
      ];
    }

  pub one_more_roused : HasRoused move.port mid new → AreRoused moves (n + 1) old new
  one_more_roused has =
      ⊎_elim
      (λ (p : ((i : ℕ) → NamesPort mid move.port i → ⊥) × (new ≡ mid)). subst (λ (ps : List Player). AreRoused moves (n + 1) old ps) (sym p.1) (nobody p.0))
      (λ (p : (i : ℕ) × NamesPort mid move.port i × IsRoused i mid new). one p.0 p.1 p.2)
      has

-- After a round.
module _ (moves : List Move) (old new : List Player) (states : List PortState) (are : AreRoused moves (length moves) old new) (moved : AreMoved moves old states)
    (ports : List Port) (count : ℕ) (stepped : AreStepped ports count old states) where
  offer_same : (port i : ℕ) → offer_at port (player_of new i) ≡ offer_at port (player_of old i)
  offer_same port i = ap (λ (ts : List Task). option_and_then (task_offer port) (first_of ts)) (are.rest i)

  gone_same : (i : ℕ) → is_gone states (player_of new i) ≡ is_gone states (player_of old i)
  gone_same i = ap (λ (ts : List Task). option_map_or (λ port. is_none (pending_at states port)) (option_and_then port_of (first_of ts)) false) (are.rest i)

  pub roused_stepped : AreStepped ports count new states
  roused_stepped = record {
    at_ports = record { count_is = stepped.at_ports.count_is; ports_are = stepped.at_ports.ports_are; fit = subst (FitPorts ports) (sym (rests_same old new are.count are.rest)) stepped.at_ports.fit };
    pending = record {
      named = λ port i o lt i_lt has. stepped.pending.named port i o lt (omega (arith, are.count)) (sym (offer_same port i) ∙ has);
      unnamed = λ port lt all. stepped.pending.unnamed port lt (λ i i_lt. sym (offer_same port i) ∙ all i (omega (arith, are.count)));
    };
  }

  -- One whose offer is gone has been roused.
  roused_at : (i port : ℕ) → i < length old → first_port (player_of old i).rest ≡ Some port → pending_at states port ≡ None → (player_of new i).seen ≡ 0
  roused_at i port lt named none =
      let offer = offers_where port (player_of old i) named in
      let at = moved.each port i offer.0 lt offer.1 none in
      let at_port : at.1.port ≡ port = at.3 in
      ⊎_elim
      (λ (nobody : (k : ℕ) → NamesPort old at.1.port k → ⊥). absurd (nobody i (subst (λ (q : ℕ). NamesPort old q i) (sym at_port) (record { there = lt; named = named }))))
      (λ (some : (k : ℕ) × NamesPort old at.1.port k × ((player_of new k).seen ≡ 0)).
      let names : NamesPort old port some.0 = subst (λ (q : ℕ). NamesPort old q some.0) at_port some.1 in
      let its = offers_where port (player_of old some.0) names.named in
      let same : some.0 ≡ i = apart ports old port some.0 i its.0 offer.0 stepped.at_ports.fit names.there lt its.1 offer.1 in
      subst (λ (k : ℕ). (player_of new k).seen ≡ 0) same some.2)
      (are.roused at.0 at.1 (slice_get_within moves at.0 at.1 at.2) at.2)

  not_gone : (i : ℕ) → i < length new → is_awake (player_of new i) ≡ false → is_gone states (player_of new i) ≡ true → ⊥
  not_gone i lt asleep gone =
      let named = gone_names states (player_of new i) gone in
      let was : first_port (player_of old i).rest ≡ Some named.0 = ap first_port (sym (are.rest i)) ∙ named.1 in
      let zeroth = roused_at i named.0 (omega (arith, are.count)) was named.2 in
      ⊎_elim
      (λ idle. let once = idle_seen (player_of new i) named.0 idle named.1 in omega (arith, zeroth, once))
      (λ waiting. both_ways (nat_eq (player_of new i).seen 0) (not-true (nat_eq (player_of new i).seen 0) ((and_parts (counts (player_of new i)) (not (nat_eq (player_of new i).seen 0)) waiting).1)) (ap (λ n. nat_eq n 0) zeroth))
      (or_cases (is_idle (player_of new i)) (waits (player_of new i)) (not-false (is_idle (player_of new i) || waits (player_of new i)) asleep))

  pub none_skipped : NoneAsleepIsGone new states
  none_skipped i lt asleep =
      elim (is_gone states (player_of new i)) as (λ b. is_gone states (player_of new i) ≡ b → is_gone states (player_of new i) ≡ false) [
        | true ↦ λ gone. absurd (not_gone i lt asleep gone)
        | false ↦ λ stays. stays
      ] refl

  -- So they go on as the others.
  moved_alike : (i : ℕ) → IsMoved moves (length moves) old i → after (is_gone states (player_of new i)) (player_of new i) ≡ after (is_gone states (player_of old i)) (player_of old i)
  moved_alike i is =
      let new_seen : ℕ = (player_of new i).seen in
      let old_seen : ℕ = (player_of old i).seen in
      let none : pending_at states is.move.port ≡ None = moved.gone is.place is.move is.there in
      let gone : is_gone states (player_of old i) ≡ true = names_gone states (player_of old i) is.move.port is.names.named none in
      ap (λ b. after_task b new_seen (player_of new i).rest) (gone_same i ∙ gone)
      ∙ ap (λ (ts : List Task). after_task true new_seen ts) (are.rest i)
      ∙ flowed_alike (player_of old i).rest new_seen old_seen is.move.port is.names.named
      ∙ sym (ap (λ b. after_task b old_seen (player_of old i).rest) gone)

  alike : (i : ℕ) → after (is_gone states (player_of new i)) (player_of new i) ≡ after (is_gone states (player_of old i)) (player_of old i)
  alike i = ⊎_elim (λ same. ap (λ (p : Player). after (is_gone states p) p) same) (moved_alike i) (are.others i)

  pub roused_on : gone_on states new ≡ gone_on states old
  roused_on =
      let on : Player → Player = (λ p. after (is_gone states p) p) in
      ext_get_or no_player (gone_on states new) (gone_on states old) (length-map new on ∙ are.count ∙ sym (length-map old on))
      (λ i lt.
      let lt_new : i < length new = omega (arith, length-map new on) in
      get_or-map on new i no_player no_player lt_new ∙ alike i ∙ sym (get_or-map on old i no_player no_player (omega (arith, are.count))))
