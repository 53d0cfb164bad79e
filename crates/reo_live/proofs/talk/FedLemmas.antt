-- What feeding a piece has come to.
use Rattle.std.proofs.Common.{◌≡◌, ◌∙◌, ℕ, ◌+◌, ◌<◌, ◌≤◌, Bool, true, false, inl, inr, ◌⊎◌, Option, List, [], ◌∷◌, ◌++◌, Result, Ok, Err, refl, sym, ap, subst, append_assoc, length, length-append, arith}
use Rattle.std.specs.Result.{IsErr, IsErrAnd}
use Rattle.std.proofs.lemmas.List.{append-nil}
use Rattle.std.proofs.Math.Nat.{eq-or-lt_of_le}
use Rattle.reo_values.specs.Bytes.{line_feed}
use Rattle.reo_io.specs.Sinks.{Appended, TookPart}
use Rattle.reo_net_base.specs.Net.{net_of}
use Rattle.reo_net_base.specs.declared.port.Port.{Port}
use Rattle.reo_rounds.specs.Rules.{Rules}
use Rattle.reo_engine.specs.Engine.{Running}
use Rattle.reo_live.specs.base.Held.{Held, short, joined}
use Rattle.reo_live.specs.base.Live.{Stand, Live, fresh}
use Rattle.reo_live.specs.declared.base.answer.Answer.{Answer}
use Rattle.reo_live.specs.base.Answers.{answers_text}
use Rattle.reo_live.specs.base.Events.{Told}
use Rattle.reo_live.specs.base.Hearing.{Judges, After, cleaned}
use Rattle.reo_rounds.specs.Order.{HasOrder}
use Rattle.reo_live.specs.base.Laws.{HearingExists}
use Rattle.reo_rounds.specs.Lasting.{KeepsShape}
use Rattle.reo_live.proofs.base.OrderLemmas.{judges_order}
use Rattle.reo_live.specs.declared.talk.fault.Going.{Going}
use Rattle.reo_live.specs.declared.talk.fault.Going.TheVariants as goings
use Rattle.reo_live.specs.declared.talk.fault.LiveFault.{LiveFault}
use Rattle.reo_live.specs.declared.talk.fault.LiveFault.TheVariants as faults
use Rattle.reo_live.specs.talk.Feeds.{HasNoFeed, IsCut}
use Rattle.reo_live.specs.talk.Fed.{Whole, Judged, FedPart, FedLines, FedAll, IsFed}
use Rattle.reo_live.specs.talk.Outcomes.{Says, is_over}
use Rattle.reo_live.specs.talk.Talks.{stand_of, live_of}
use Rattle.reo_live.proofs.talk.HearLemmas.{SoFar, so_far_more, heard_first, heard_open, heard_over, took_far}

abbrev GoesOn : Result Going LiveFault → Type 0
GoesOn result = result ≡ Ok goings.More

abbrev Fails : Result Going LiveFault → Type 0
Fails result = result ≡ Err faults.Failed

-- A count that rises only with a fault is as it was where there is none.
pub no_fault : (before now : ℕ) (going : Going) → before ≤ now → (before < now → Fails (Ok going)) → now ≡ before
no_fault before now going later risen = elim (eq-or-lt_of_le later) [
  | inl same ↦ sym same
  | inr rose ↦ absurd (let is : Fails (Ok going) = risen rose in cc)
]

-- What `?` passes on.
pub passed : {X : Type 0} (result : Result X LiveFault) (fault : LiveFault) → IsErr result × IsErrAnd result (λ z. z ≡ fault) → result ≡ Err fault
passed (Ok x) fault h = absurd (cc)
passed (Err z) fault h = ap Err h.1

-- What is left behind a line is shorter.
pub cut_shorter : (whole line rest : List ℕ) → IsCut whole line rest → length rest + 1 ≤ length whole
cut_shorter whole line rest cut = omega (arith, ap length cut.cut, length-append line (line_feed ∷ rest))

-- The line was taken out, if memory did not run out.
abbrev pub IsCleared : Result Going LiveFault → Held → Type 0
IsCleared result h = (result ≡ Err faults.NoMemory) ⊎ (h ≡ short [])

module _ {P : Type 0} (r : Rules P) (budget : ℕ) (ports : List Port) (s : Live P) (bytes : List ℕ) (before : Option (List ℕ)) where
  -- It goes on.
  pub more_fed : (now : Option (List ℕ)) (e : Running P) (n : ℕ) (line : Held) (rest : List ℕ) → SoFar r ports budget s bytes (live_of e n false line) rest before now → HasNoFeed rest
      → FedAll ports before now r budget s bytes (live_of e n false (joined line rest)) (Ok goings.More)
  more_fed now e n line rest far none = record {
    answers = far.answers ++ [];
    after = far.goes (live_of e n false (joined line rest)) [] (heard_open r ports budget (live_of e n false line) rest none);
    whole = record { says = refl; text = subst (λ (x : List Answer). Appended before now (answers_text ports x)) (sym (append-nil far.answers)) far.text };
  }

  -- It goes on behind a line.
  pub on_far : (mid now : Option (List ℕ)) (u : Live P) (whole line rest : List ℕ) → SoFar r ports budget s bytes u whole before mid → IsCut whole line rest → u.stand.over ≡ false
      → (e : Running P) (n : ℕ) (h : Held) (going : Going) → going ≡ goings.More → Judged ports mid now (Judges r ports budget u.stand (cleaned (joined u.line line))) (stand_of e n (is_over (Ok going))) (Ok going)
      → IsCleared (Ok going) h → SoFar r ports budget s bytes (live_of e n false h) rest before now
  on_far mid now u whole line rest far cut on e n h goings.More is j (inl out) = absurd (cc)
  on_far mid now u whole line rest far cut on e n h goings.More is j (inr clear) =
      let next : SoFar r ports budget s bytes (fresh j.0.stand) rest before now = so_far_more r ports budget s u bytes line rest whole j.0 before mid now far cut on j.1 j.3.text in
      let there : fresh j.0.stand ≡ live_of e n false h = (λ i. record { stand = j.2 i; line = sym clear i }) in
      subst (λ (v : Live P). SoFar r ports budget s bytes v rest before now) there next
  on_far mid now u whole line rest far cut on e n h goings.Ended is j clear = absurd (cc)

  -- No memory for what is left.
  pub out_fed : (now : Option (List ℕ)) (u : Live P) (rest : List ℕ) → HearingExists r → HasOrder (net_of r.behaviour u.stand.circuit) → SoFar r ports budget s bytes u rest before now → FedLines ports before now r budget s bytes
  out_fed now u rest exists old far =
      let f = exists ports budget u rest old in
      record { next = f.0; lines = far.answers; rest = f.1; after = far.goes f.0 f.1 f.3; text = far.text }

  pub out_passed : (now : Option (List ℕ)) (e : Running P) (n : ℕ) (h : Held) (result : Result Going LiveFault) → result ≡ Err faults.NoMemory → FedLines ports before now r budget s bytes
      → IsFed ports before now r budget s bytes (live_of e n (is_over result) h) result
  out_passed now e n h result is lines = subst (λ (q : Result Going LiveFault). IsFed ports before now r budget s bytes (live_of e n (is_over q) h) q) (sym is) lines

  says_more : (x y : List Answer) (over : Bool) (result : Result Going LiveFault) → over ≡ true → Says over y result → Says true ((x ++ y) ++ []) result
  says_more x y true result is says =
      (x ++ says.0, says.1, append-nil (x ++ y) ∙ ap (λ (z : List Answer). x ++ z) says.2 ∙ sym (append_assoc x says.0 (says.1 ∷ [])), says.3)
  says_more x y false result is says = absurd (cc)

  module _ (mid now : Option (List ℕ)) (u : Live P) (whole line rest : List ℕ) (far : SoFar r ports budget s bytes u whole before mid) (cut : IsCut whole line rest) (on : u.stand.over ≡ false) where
    abbrev Is : Told P → Type 0
    Is = Judges r ports budget u.stand (cleaned (joined u.line line))

    -- It is over.
    over_fed : (e : Running P) (n : ℕ) (h : Held) (result : Result Going LiveFault) (told : Told P) → Is told → told.stand ≡ stand_of e n true → h ≡ short [] → Whole ports mid now told.stand.over told.answers result
        → FedAll ports before now r budget s bytes (live_of e n true h) result
    over_fed e n h result told is same clear all =
        let off : told.stand.over ≡ true = ap (λ (a : Stand P). a.over) same in
        let next = so_far_more r ports budget s u bytes line rest whole told before mid now far cut on is all.text in
        let end = next.goes (fresh told.stand) [] (heard_over r ports budget (fresh told.stand) rest off) in
        let there : fresh told.stand ≡ live_of e n true h = (λ i. record { stand = same i; line = sym clear i }) in
        record {
          answers = (far.answers ++ told.answers) ++ [];
          after = subst (λ (v : Live P). After r ports budget s bytes v ((far.answers ++ told.answers) ++ [])) there end;
          whole = record {
            says = says_more far.answers told.answers told.stand.over result off all.says;
            text = subst (λ (x : List Answer). Appended before now (answers_text ports x)) (sym (append-nil (far.answers ++ told.answers))) next.text;
          };
        }

    module _ (k : KeepsShape r) (exists : HearingExists r) (old : HasOrder (net_of r.behaviour u.stand.circuit)) where
      part_fed : (told : Told P) → Is told → TookPart mid now (answers_text ports told.answers) → FedPart ports before now r budget s bytes
      part_fed told is part =
          let f = exists ports budget (fresh told.stand) rest (judges_order r k budget ports u.stand (cleaned (joined u.line line)) told old is) in
          let one = heard_first r ports budget u f.0 line rest told f.1 cut.none on is f.3 in
          record {
            next = f.0;
            answers = far.answers ++ (told.answers ++ f.1);
            after = far.goes f.0 (told.answers ++ f.1) (subst (λ (bs : List ℕ). After r ports budget u bs f.0 (told.answers ++ f.1)) (sym cut.cut) one);
            part = took_far r ports budget far.answers told.answers f.1 before mid now far.text part;
          }

      lines_fed : now ≡ mid → FedLines ports before now r budget s bytes
      lines_fed stays =
          let f = exists ports budget u whole old in
          record { next = f.0; lines = far.answers; rest = f.1; after = far.goes f.0 f.1 f.3; text = subst (λ (z : Option (List ℕ)). Appended before z (answers_text ports far.answers)) (sym stays) far.text }

      -- A line after which nothing is heard.
      pub stop_fed : (e : Running P) (n : ℕ) (h : Held) (result : Result Going LiveFault) → Judged ports mid now Is (stand_of e n (is_over result)) result → (result ≡ Err faults.NoMemory) ⊎ (h ≡ short [])
          → (result ≡ Ok goings.More → ⊥) → IsFed ports before now r budget s bytes (live_of e n (is_over result) h) result
      stop_fed e n h (Ok goings.More) j clear other = absurd (other refl)
      stop_fed e n h (Ok goings.Ended) j (inl out) other = absurd (cc)
      stop_fed e n h (Ok goings.Ended) j (inr clear) other = over_fed e n h (Ok goings.Ended) j.0 j.1 j.2 clear j.3
      stop_fed e n h (Err faults.Failed) j clear other = part_fed j.0 j.1 j.2
      stop_fed e n h (Err (faults.Wide knot)) j (inl out) other = absurd (cc)
      stop_fed e n h (Err (faults.Wide knot)) j (inr clear) other = over_fed e n h (Err (faults.Wide knot)) j.0 j.1 j.2 clear j.3
      stop_fed e n h (Err (faults.Spent knot w)) j (inl out) other = absurd (cc)
      stop_fed e n h (Err (faults.Spent knot w)) j (inr clear) other = over_fed e n h (Err (faults.Spent knot w)) j.0 j.1 j.2 clear j.3
      stop_fed e n h (Err faults.NoMemory) j clear other = lines_fed j

      pub ended_fed : (e : Running P) (n : ℕ) (h : Held) (going : Going) → going ≡ goings.Ended → Judged ports mid now Is (stand_of e n (is_over (Ok going))) (Ok going) → IsCleared (Ok going) h
          → FedAll ports before now r budget s bytes (live_of e n true h) (Ok goings.Ended)
      ended_fed e n h goings.More is j clear = absurd (cc)
      ended_fed e n h goings.Ended is j clear = stop_fed e n h (Ok goings.Ended) j clear (λ (same : GoesOn (Ok goings.Ended)). cc)

      pub fault_fed : (e : Running P) (n : ℕ) (h : Held) (fault : LiveFault) → Judged ports mid now Is (stand_of e n true) (Err fault) → IsCleared (Err fault) h
          → (result : Result Going LiveFault) → result ≡ Err fault → IsFed ports before now r budget s bytes (live_of e n (is_over result) h) result
      fault_fed e n h fault j clear result is =
          subst (λ (q : Result Going LiveFault). IsFed ports before now r budget s bytes (live_of e n (is_over q) h) q) (sym is)
          (stop_fed e n h (Err fault) j clear (λ (same : GoesOn (Err fault)). cc))
