-- There is one closing.
use Rattle.std.proofs.Common.{◌≡◌, ◌∙◌, inl, inr, ℕ, ◌≤◌, ◌<◌, Bool, true, false, List, [], ◌∷◌, ◌++◌, cond, length, take, sym, subst, ap, refl, arith}
use Rattle.reo_net_base.specs.Net.{Wiring, net_of}
use Rattle.reo_net_base.specs.declared.port.Port.{Port}
use Rattle.reo_net_laws.specs.FirstLaws.{FirstIsOne}
use Rattle.reo_weights.specs.Laws.{CauseIsOne}
use Rattle.reo_rounds.specs.Order.{HasOrder}
use Rattle.reo_rounds.specs.Rules.{Rules}
use Rattle.reo_live.specs.declared.base.answer.Answer.{Answer}
use Rattle.reo_live.specs.declared.base.answer.Answer.TheVariants.{Ended}
use Rattle.reo_live.specs.base.Held.{Held, short, long}
use Rattle.reo_live.specs.base.Live.{Stand, Live, beginning}
use Rattle.reo_live.specs.base.Hearing.{After, ClosesLine, Last}
use Rattle.reo_live.specs.base.Laws.{HearingIsOne}
use Rattle.reo_live.proofs.base.OrderLemmas.{all_order}
use Rattle.reo_live.proofs.base.SumLemmas.{stand-stays}
use Rattle.reo_rounds.specs.Lasting.{KeepsShape}
use Rattle.reo_live.specs.base.Lines.{ended_lines, open_line}
use Rattle.reo_live.proofs.base.OneLemmas.{judges_one}
use Rattle.reo_live.specs.closings.Sources.{Events, most_events}
use Rattle.reo_live.specs.closings.Closings.{Closing, over, many, missed, ends, Closes, ClosesBy}

not_both : {A : Type 0} (b : Bool) → b ≡ true → b ≡ false → A
not_both b t f = absurd (never t f) where
  never : b ≡ true → b ≡ false → ⊥
  never t f = cc

not_long : {A : Type 0} (n m : ℕ) → n < m → m ≤ n → A
not_long n m less more = absurd (never less more) where
  never : n < m → m ≤ n → ⊥
  never less more = omega (arith, less, more)

module _ {P : Type 0} (r : Rules P) (ports : List Port) (budget : ℕ) (first : FirstIsOne) (cause : CauseIsOne) where
  line_one : (a : Stand P) (h : Held) (x y : List Answer) → HasOrder (net_of r.behaviour a.circuit) → ClosesLine r ports budget a h x → ClosesLine r ports budget a h y → x ≡ y
  line_one a (short []) x y old p q = p ∙ sym q
  line_one a (short (b ∷ bs)) x y old p q =
      let same = judges_one r budget first cause ports a (short (b ∷ bs)) p.0 q.0 old p.1 q.1 in
      p.2 ∙ (λ i. (same i).answers ++ cond (same i).stand.over [] (Ended (same i).stand.rounds ∷ [])) ∙ sym q.2
  line_one a long x y old p q =
      let same = judges_one r budget first cause ports a long p.0 q.0 old p.1 q.1 in
      p.2 ∙ (λ i. (same i).answers ++ cond (same i).stand.over [] (Ended (same i).stand.rounds ∷ [])) ∙ sym q.2

  last_one : (s : Live P) (x y : List Answer) → HasOrder (net_of r.behaviour s.stand.circuit) → Last r ports budget s x → Last r ports budget s y → x ≡ y
  last_one s x y old (inl p) (inl q) = p.1 ∙ sym q.1
  last_one s x y old (inl p) (inr q) = not_both s.stand.over p.0 q.0
  last_one s x y old (inr p) (inl q) = not_both s.stand.over q.0 p.0
  last_one s x y old (inr p) (inr q) = line_one s.stand s.line x y old p.1 q.1

  abbrev Same : Closing → Closing → List Answer → List Answer → Type 0
  Same a b x y = (a ≡ b) × (x ≡ y)

  by_one : (events : Events) (s : Live P) (heard : List Answer) (a b : Closing) (x y : List Answer) → HasOrder (net_of r.behaviour s.stand.circuit)
      → ClosesBy r ports budget events s heard a x → ClosesBy r ports budget events s heard b y → Same a b x y
  by_one events s heard over over x y old p q = (refl, p.1 ∙ sym q.1)
  by_one events s heard over many x y old p q = not_both s.stand.over p.0 q.0
  by_one events s heard over missed x y old p q = not_both s.stand.over p.0 q.0
  by_one events s heard over ends x y old p q = not_both s.stand.over p.0 q.0
  by_one events s heard many over x y old p q = not_both s.stand.over q.0 p.0
  by_one events s heard many many x y old p q = (refl, p.2 ∙ sym q.2)
  by_one events s heard many missed x y old p q = not_long most_events (length events.bytes) p.1 q.1
  by_one events s heard many ends x y old p q = not_long most_events (length events.bytes) p.1 q.1
  by_one events s heard missed over x y old p q = not_both s.stand.over q.0 p.0
  by_one events s heard missed many x y old p q = not_long most_events (length events.bytes) q.1 p.1
  by_one events s heard missed missed x y old p q = (refl, p.3 ∙ sym q.3)
  by_one events s heard missed ends x y old p q = not_both events.failed p.2 q.2
  by_one events s heard ends over x y old p q = not_both s.stand.over q.0 p.0
  by_one events s heard ends many x y old p q = not_long most_events (length events.bytes) q.1 p.1
  by_one events s heard ends missed x y old p q = not_both events.failed q.2 p.2
  by_one events s heard ends ends x y old p q = (refl, p.5 ∙ (ap (λ (l : List Answer). heard ++ l) (last_one s p.3 q.3 old p.4 q.4) ∙ sym q.5))

  module _ (one : HearingIsOne r) (k : KeepsShape r) (w : Wiring P) (old : HasOrder (net_of r.behaviour w)) where
    order_at : (bytes : List ℕ) (t : Live P) (x : List Answer) → After r ports budget (beginning w) bytes t x → HasOrder (net_of r.behaviour t.stand.circuit)
    order_at bytes t x after =
        let there = all_order r k budget ports (beginning w) after.between (ended_lines bytes) x old after.heard in
        subst (λ (a : Live P). HasOrder (net_of r.behaviour a.stand.circuit)) (sym after.is)
        (subst (λ s. HasOrder (net_of r.behaviour s.circuit)) (sym (stand-stays after.between (open_line bytes))) there)

    pub closing_one : (events : Events) (a b : Closing) (x y : List Answer) → Closes r ports budget w events a x → Closes r ports budget w events b y → Same a b x y
    closing_one events a b x y p q =
        let same = one ports budget (beginning w) q.state p.state (take most_events events.bytes) q.heard p.heard old q.after p.after in
        by_one events p.state p.heard a b x y (order_at (take most_events events.bytes) p.state p.heard p.after) p.by
        (subst (λ (h : List Answer). ClosesBy r ports budget events p.state h b y) same.1 (subst (λ (s : Live P). ClosesBy r ports budget events s q.heard b y) same.0 q.by))
