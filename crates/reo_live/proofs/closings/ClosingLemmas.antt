-- What began to be heard goes on to a closing.
use Rattle.std.proofs.Common.{◌≡◌, inl, inr, ℕ, ◌≤◌, Bool, true, false, cond, List, [], ◌∷◌, ◌++◌, length, take, sym, subst, refl}
use Rattle.std.proofs.lemmas.Bool.{cases_lt}
use Rattle.std.proofs.lemmas.List.{append-nil, append_assoc}
use Rattle.reo_net_base.specs.Net.{Wiring, net_of}
use Rattle.reo_net_base.specs.declared.port.Port.{Port}
use Rattle.reo_rounds.specs.Order.{HasOrder}
use Rattle.reo_rounds.specs.Rules.{Rules}
use Rattle.reo_rounds.specs.Lasting.{KeepsShape}
use Rattle.reo_live.specs.declared.base.answer.Answer.{Answer}
use Rattle.reo_live.specs.base.Held.{joined}
use Rattle.reo_live.specs.base.Lines.{ended_lines, open_line}
use Rattle.reo_live.specs.base.Live.{Live, beginning, held_open}
use Rattle.reo_live.specs.base.Hearing.{After, HearsAll, Last}
use Rattle.reo_live.specs.base.Laws.{CutsChangeNothing, HearingExists}
use Rattle.reo_live.proofs.base.OrderLemmas.{all_order}
use Rattle.reo_live.proofs.base.SumLemmas.{stand-stays}
use Rattle.reo_live.specs.closings.Sources.{Events, most_events}
use Rattle.reo_live.specs.closings.Closings.{Closing, over, many, missed, ends, Closes}

module _ {P : Type 0} (r : Rules P) (ports : List Port) (budget : ℕ) where
  -- Once it is over nothing more is heard.
  over_all : (t : Live P) (lines : List (List ℕ)) → t.stand.over ≡ true → HearsAll r ports budget t lines t []
  over_all t [] e = (refl, refl)
  over_all t (l ∷ ls) e = inl (e, refl, refl)

  by_flag : (t u : Live P) (b : Bool) → b ≡ true → t ≡ cond b t u
  by_flag t u true e = refl
  by_flag t u false e = absurd (never e) where
    never : false ≡ true → ⊥
    never f = cc

  open_over : (t : Live P) (bytes : List ℕ) → t.stand.over ≡ true → t ≡ held_open t bytes
  open_over t bytes e = by_flag t (record t { line = joined t.line bytes }) t.stand.over e

  pub after_over : (t : Live P) (bytes : List ℕ) → t.stand.over ≡ true → After r ports budget t bytes t []
  after_over t bytes e = record {
    between = t;
    heard = over_all t (ended_lines bytes) e;
    is = open_over t (open_line bytes) e;
  }

  -- Before the first byte nothing was heard.
  pub after_none : (w : Wiring P) → After r ports budget (beginning w) [] (beginning w) []
  after_none w = record { between = beginning w; heard = (refl, refl); is = refl }

  module _ (cuts : CutsChangeNothing r) (w : Wiring P) where
    -- It is over, whatever else comes.
    pub closes_over : (events : Events) (fed more : List ℕ) (t : Live P) (x : List Answer) → take most_events events.bytes ≡ fed ++ more
        → After r ports budget (beginning w) fed t x → t.stand.over ≡ true → Closes r ports budget w events over x
    closes_over events fed more t x is after e = record {
      state = t;
      heard = x;
      after = subst (λ bytes. After r ports budget (beginning w) bytes t x) (sym is)
          (subst (λ y. After r ports budget (beginning w) (fed ++ more) t y) (append-nil x) (cuts ports budget (beginning w) t t fed more x [] after (after_over t more e)));
      by = (e, refl);
    }

    module _ (exists : HearingExists r) (k : KeepsShape r) (old : HasOrder (net_of r.behaviour w)) where
      order_at : (fed : List ℕ) (t : Live P) (x : List Answer) → After r ports budget (beginning w) fed t x → HasOrder (net_of r.behaviour t.stand.circuit)
      order_at fed t x after =
          let there = all_order r k budget ports (beginning w) after.between (ended_lines fed) x old after.heard in
          subst (λ (a : Live P). HasOrder (net_of r.behaviour a.stand.circuit)) (sym after.is)
          (subst (λ s. HasOrder (net_of r.behaviour s.circuit)) (sym (stand-stays after.between (open_line fed))) there)

      abbrev GoesOn : Events → List Answer → Type 0
      GoesOn events x = (closing : Closing) × (y : List Answer) × Closes r ports budget w events closing (x ++ y)

      -- By what has come to be known behind the first 2^32 bytes.
      known : (events : Events) (u : Live P) (x z last : List Answer) → After r ports budget (beginning w) (take most_events events.bytes) u (x ++ z) → Last r ports budget u last
          → (b f : Bool) → u.stand.over ≡ b → events.failed ≡ f → GoesOn events x
      known events u x z last after end true f e g = (over, z, record { state = u; heard = x ++ z; after = after; by = (e, refl) })
      known events u x z last after end false f e g = elim (cases_lt most_events (length events.bytes)) [
        | inl long ↦ (many, z, record { state = u; heard = x ++ z; after = after; by = (e, long, refl) })
        | inr short ↦ few events u x z last after end f e g short
      ] where
        few : (events : Events) (u : Live P) (x z last : List Answer) → After r ports budget (beginning w) (take most_events events.bytes) u (x ++ z) → Last r ports budget u last
            → (f : Bool) → u.stand.over ≡ false → events.failed ≡ f → length events.bytes ≤ most_events → GoesOn events x
        few events u x z last after end true e g short = (missed, z, record { state = u; heard = x ++ z; after = after; by = (e, short, g, refl) })
        few events u x z last after end false e g short =
            (ends, z ++ last, record { state = u; heard = x ++ z; after = after; by = (e, short, g, last, end, sym (append_assoc x z last)) })

      pub goes_on : (events : Events) (fed more : List ℕ) (t : Live P) (x : List Answer) → take most_events events.bytes ≡ fed ++ more
          → After r ports budget (beginning w) fed t x → GoesOn events x
      goes_on events fed more t x is after =
          let found = exists ports budget t more (order_at fed t x after) in
          let u = found.0 in
          let whole = subst (λ bytes. After r ports budget (beginning w) bytes u (x ++ found.1)) (sym is) (cuts ports budget (beginning w) t u fed more x found.1 after found.3) in
          known events u x found.1 found.2 whole found.4 u.stand.over events.failed refl refl
