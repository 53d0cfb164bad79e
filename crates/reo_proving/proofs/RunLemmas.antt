-- Rounds with their logs, one after another.
use Rattle.std.proofs.Common.{◌≡◌, ◌∙◌, ℕ, ◌+◌, inl, inr, List, [], ◌∷◌, ◌++◌, Bool, true, false, cond, ap, sym, refl, subst, length, map, arith, append_assoc, length-append}
use Rattle.std.proofs.lemmas.List.{append-nil}
use Rattle.std.proofs.lemmas.Grind.{flat_map-append}
use Rattle.std.specs.Prelude.{Option, Some, None, Result, Ok, Err, IsErr, IsErrAnd}
use Rattle.reo_io.specs.Sinks.{Appended, TookPart}
use Rattle.reo_io.proofs.Taken.{Appended-none, Appended-append, TookPart-after, TookPart-more}
use Rattle.reo_net_base.specs.declared.port.Port.{Port}
use Rattle.reo_net_base.specs.Net.{Wiring}
use Rattle.reo_script.specs.declared.scripts.action.Component.{Component}
use Rattle.reo_players.specs.Players.{Player, all_done, beginning_of}
use Rattle.reo_trace.specs.declared.line.Ending.{Ending}
use Rattle.reo_trace.specs.declared.line.Ending.TheVariants as endings
use Rattle.reo_trace.specs.declared.write.WriteFault.{WriteFault}
use Rattle.reo_trace.specs.declared.write.WriteFault.TheVariants.{Failed, NoMemory}
use Rattle.reo_trace.specs.EndingText.{ending_text}
use Rattle.reo_rounds.specs.Rules.{Rules}
use Rattle.reo_runs.specs.Round.{State}
use Rattle.reo_runs.specs.Run.{Place, EndsAs, place_after, over_after, start_of, firsts}
use Rattle.reo_runs.specs.at_ports.Pending.{IsButForOffers}
use Rattle.reo_proof_texts.specs.Cuts.{LoggedRound, logged_text, all_logged}
use Rattle.reo_proof_texts.specs.Proven.{IsProven, AreProven, IsProved}
use Rattle.reo_proof_laws.specs.Proofs.{HasProofs}
use Rattle.reo_proof_laws.proofs.Goings.{proven_more}
use Rattle.reo_proving.specs.Proving.{HasProved, HasCut, HasKept}
use Rattle.reo_proving.specs.Rounds.{Went, CutRound}
use Rattle.reo_proving.proofs.SoFar.{SoFar, Finished}
pub use Rattle.reo_values.proofs.Faults.{passed_on as same_fault}

-- The text of one round more with its log.
text_more : (ports : List Port) (xs : List LoggedRound) (x : LoggedRound) → all_logged ports (xs ++ x ∷ []) ≡ all_logged ports xs ++ logged_text ports x
text_more ports xs x = flat_map-append (logged_text ports) xs (x ∷ []) ∙ ap (λ (z : List ℕ). all_logged ports xs ++ z) (append-nil (logged_text ports x))

text_on : (ports : List Port) (before mid now : Option (List ℕ)) (xs : List LoggedRound) (x : LoggedRound) → Appended before mid (all_logged ports xs) → Appended mid now (logged_text ports x) → Appended before now (all_logged ports (xs ++ x ∷ []))
text_on ports before mid now xs x p q = subst (λ (z : List ℕ). Appended before now z) (sym (text_more ports xs x)) (Appended-append before mid now _ _ p q)

-- What the answer says of a fault.
by_fault : (Q : Result Ending WriteFault → Type 0) (fault : WriteFault) → (fault ≡ Failed → Q (Err Failed)) → (fault ≡ NoMemory → Q (Err NoMemory)) → Q (Err fault)
by_fault Q Failed cut kept = cut refl
by_fault Q NoMemory cut kept = kept refl

-- A fault that is passed on.
pub passed_on : (Q : Result Ending WriteFault → Type 0) (r : Result Ending WriteFault) (d : WriteFault) → IsErr r × IsErrAnd r (λ y. y ≡ d) → (d ≡ Failed → Q (Err Failed)) → (d ≡ NoMemory → Q (Err NoMemory)) → Q r
passed_on Q (Ok v) d h cut kept = absurd h.1
passed_on Q (Err e) d h cut kept = subst (λ (x : WriteFault). Q (Err x)) (sym h.1) (by_fault Q d cut kept)

module _ {P : Type 0} (r : Rules P) (ports : List Port) (budget limit : ℕ) (start : Place P) where
  -- The run ended, and its ending was written.
  pub proved_by : (before mid now : Option (List ℕ)) (ending : Ending) → Finished r ports budget limit start before mid ending → Appended mid now (ending_text ending) → HasProved (firsts budget limit) r ports start ending before now
  proved_by before mid now ending f written = record {
    rounds = f.rounds;
    text = all_logged ports f.rounds ++ ending_text ending;
    proved = record { text_is = refl; last = f.last; proven = f.proven; ends = f.ends };
    added = Appended-append before mid now _ _ f.text written;
  }

  -- The sink failed on the ending.
  pub cut_at_end : (before mid now : Option (List ℕ)) (ending : Ending) → Finished r ports budget limit start before mid ending → TookPart mid now (ending_text ending) → HasCut (firsts budget limit) r ports start before now
  cut_at_end before mid now ending f part = record {
    rounds = f.rounds;
    ending = ending;
    text = all_logged ports f.rounds ++ ending_text ending;
    proved = record { text_is = refl; last = f.last; proven = f.proven; ends = f.ends };
    part = TookPart-after before mid now _ _ f.text part;
  }

  -- Memory ran out for the ending.
  pub kept_at_end : (before mid now : Option (List ℕ)) (ending : Ending) → Finished r ports budget limit start before mid ending → now ≡ mid → HasKept (firsts budget limit) r ports start before now
  kept_at_end before mid now ending f same = record {
    first = f.rounds;
    rest = [];
    ending = ending;
    text = all_logged ports f.rounds ++ ending_text ending;
    proved = subst (λ (xs : List LoggedRound). IsProved (firsts budget limit) r ports start xs ending (all_logged ports f.rounds ++ ending_text ending)) (sym (append-nil f.rounds))
        (record { text_is = refl; last = f.last; proven = f.proven; ends = f.ends });
    added = subst (λ (z : Option (List ℕ)). Appended before z (all_logged ports f.rounds)) (sym same) f.text;
  }

  -- Memory ran out where rounds lead to a place.
  pub kept_by : HasProofs (firsts budget limit) r ports start → (before now : Option (List ℕ)) (xs : List LoggedRound) (q : Place P) → AreProven (firsts budget limit) r 1 start xs q → Appended before now (all_logged ports xs)
      → HasKept (firsts budget limit) r ports start before now
  kept_by have before now xs q proven text =
      let more = have xs q proven in
      record { first = xs; rest = more.rest; ending = more.ending; text = more.text; proved = more.proved; added = text }

  -- The text of a proved text of which these rounds stand first, and one round more.
  cut_text : (xs rest : List LoggedRound) (x : LoggedRound) (ending : Ending) → all_logged ports ((xs ++ x ∷ []) ++ rest) ++ ending_text ending ≡ (all_logged ports xs ++ logged_text ports x) ++ (all_logged ports rest ++ ending_text ending)
  cut_text xs rest x ending =
      ap (λ (z : List ℕ). z ++ ending_text ending) (flat_map-append (logged_text ports) (xs ++ x ∷ []) rest ∙ ap (λ (z : List ℕ). z ++ all_logged ports rest) (text_more ports xs x))
      ∙ append_assoc (all_logged ports xs ++ logged_text ports x) (all_logged ports rest) (ending_text ending)

  -- Every component is done before the first round.
  pub done_first : (w : Wiring P) (cs : List Component) → start ≡ start_of w cs → all_done (map beginning_of cs) ≡ true → (before : Option (List ℕ)) → Finished r ports budget limit start before before (endings.Done 0)
  done_first w cs is done before = record {
    rounds = [];
    last = start;
    proven = refl;
    ends = inl (ap (λ (s : Place P). s.over) is ∙ ap (λ (b : Bool). cond b (Some (endings.Done 0)) None) done);
    text = Appended-none before;
  }

  module _ (before mid : Option (List ℕ)) (rounds_made : ℕ) (w : Wiring P) (players : List Player) (so_far : SoFar r ports budget limit start before mid rounds_made w players) where
    abbrev pub now_at : State P
    now_at = record { circuit = so_far.circuit; players = players }

    -- Memory ran out between two rounds.
    pub kept : HasProofs (firsts budget limit) r ports start → (now : Option (List ℕ)) → now ≡ mid → HasKept (firsts budget limit) r ports start before now
    kept have now same =
        subst (λ (z : Option (List ℕ)). HasKept (firsts budget limit) r ports start before z) (sym same)
        (kept_by have before mid so_far.rounds (record { state = now_at; over = None }) so_far.proven so_far.text)

    more : (x : LoggedRound) (b : State P) → IsProven (firsts budget limit) r (rounds_made + 1) now_at x b
        → AreProven (firsts budget limit) r 1 start (so_far.rounds ++ x ∷ []) (place_after (rounds_made + 1) x.line now_at b)
    more x b is =
        subst (λ (n : ℕ). AreProven (firsts budget limit) r 1 start (so_far.rounds ++ x ∷ []) (place_after (n + 1) x.line now_at b)) (sym so_far.count)
        (proven_more (firsts budget limit) r start so_far.rounds now_at x b so_far.proven (subst (λ (n : ℕ). IsProven (firsts budget limit) r (n + 1) now_at x b) so_far.count is))

    count_more : (x : LoggedRound) → rounds_made + 1 ≡ length (so_far.rounds ++ x ∷ [])
    count_more x = omega (arith, so_far.count, length-append so_far.rounds (x ∷ []))

    -- The sink failed on a round with its log.
    pub cut_round : HasProofs (firsts budget limit) r ports start → (now : Option (List ℕ)) → CutRound r ports budget limit (rounds_made + 1) now_at mid now → HasCut (firsts budget limit) r ports start before now
    cut_round have now cut =
        let x : LoggedRound = cut.logged in
        let xs : List LoggedRound = so_far.rounds in
        let on = have (xs ++ x ∷ []) (place_after (rounds_made + 1) x.line now_at cut.next) (more x cut.next cut.proven) in
        let first : List ℕ = all_logged ports xs ++ logged_text ports x in
        let last : List ℕ = all_logged ports on.rest ++ ending_text on.ending in
        record {
          rounds = (xs ++ x ∷ []) ++ on.rest;
          ending = on.ending;
          text = on.text;
          proved = on.proved;
          part = subst (λ (z : List ℕ). TookPart before now z) (sym (on.proved.text_is ∙ cut_text xs on.rest x on.ending))
              (TookPart-more before now first last (TookPart-after before mid now _ _ so_far.text cut.part));
        }

    module _ (now : Option (List ℕ)) (v : Wiring P) (others : List Player) where
      -- The run is over.
      pub finished : (ending : Ending) → Went r ports budget limit (rounds_made + 1) now_at mid now v others (Some ending) → Finished r ports budget limit start before now ending
      finished ending (inl stops) =
          let over : Some ending ≡ Some stops.ending = stops.over_is in
          let same : ending ≡ stops.ending = cc in
          record {
            rounds = so_far.rounds;
            last = record { state = now_at; over = None };
            proven = so_far.proven;
            ends = subst (λ (n : ℕ). EndsAs (firsts budget limit) r (n + 1) (record { state = now_at; over = None }) ending) so_far.count
                (subst (λ (e : Ending). EndsAs (firsts budget limit) r (rounds_made + 1) (record { state = now_at; over = None }) e) (sym same) (inr (refl, stops.stops)));
            text = subst (λ (z : Option (List ℕ)). Appended before z (all_logged ports so_far.rounds)) (sym stops.same) so_far.text;
          }
      finished ending (inr made) = record {
        rounds = so_far.rounds ++ made.logged ∷ [];
        last = place_after (rounds_made + 1) made.logged.line now_at made.next;
        proven = more made.logged made.next made.proven;
        ends = inl (sym made.over_is);
        text = text_on ports before mid now so_far.rounds made.logged so_far.text made.text;
      }

      -- The run goes on.
      pub so_far_more : Went r ports budget limit (rounds_made + 1) now_at mid now v others None → SoFar r ports budget limit start before now (rounds_made + 1) v others
      so_far_more (inl stops) =
          let over : None ≡ Some stops.ending = stops.over_is in
          absurd (cc)
      so_far_more (inr made) = record {
        rounds = so_far.rounds ++ made.logged ∷ [];
        circuit = made.next.circuit;
        proven =
            let none : over_after (rounds_made + 1) made.logged.line.idle players made.next.players ≡ None = sym made.over_is in
            let here : place_after (rounds_made + 1) made.logged.line now_at made.next ≡ record { state = record { circuit = made.next.circuit; players = others }; over = None }
            = λ i. record { state = record { circuit = made.next.circuit; players = sym made.players_are i }; over = none i } in
            subst (AreProven (firsts budget limit) r 1 start (so_far.rounds ++ made.logged ∷ [])) here (more made.logged made.next made.proven);
        left = made.circuit;
        count = count_more made.logged;
        text = text_on ports before mid now so_far.rounds made.logged so_far.text made.text;
      }

-- A run that begins, some component not being done.
pub begun : {P : Type 0} (Q : Place P → Type 0) (w v : Wiring P) (cs : List Component) (players : List Player) → all_done (map beginning_of cs) ≡ false → players ≡ map beginning_of cs → v ≡ w
    → Q (record { state = record { circuit = v; players = players }; over = None }) → Q (start_of w cs)
begun Q w v cs players going same here is =
    let from : Place _ = record { state = record { circuit = v; players = players }; over = None } in
    let begins : from ≡ start_of w cs = λ i. record {
      state = record { circuit = here i; players = same i };
      over = ap (λ (b : Bool). cond b (Some (endings.Done 0)) None) (sym going) i;
    } in
    subst Q begins is

-- Nothing was made yet.
pub so_far_none : {P : Type 0} (r : Rules P) (ports : List Port) (budget limit : ℕ) (w : Wiring P) (players : List Player) (before : Option (List ℕ)) (n : ℕ) → IsButForOffers r w w → n ≡ 0
    → SoFar r ports budget limit (record { state = record { circuit = w; players = players }; over = None }) before before n w players
so_far_none r ports budget limit w players before n left none = record {
  rounds = [];
  circuit = w;
  proven = refl;
  left = left;
  count = none;
  text = Appended-none before;
}
