-- How a walk through the marks of ports goes on.
use Rattle.std.proofs.Common.{◌≡◌, ℕ, zero, suc, ◌<◌, ◌≤◌, List, [], ◌∷◌, ◌++◌, Bool, Result, Ok, Err, MatchResult, length, get_or, take, refl, sym, ◌∙◌, ap, subst, arith, inl, inr}
use Rattle.std.proofs.lemmas.Bool.{cases_lt}
use Rattle.std.proofs.Math.Seq.{take-append_seam}
use Rattle.reo_net_base.specs.declared.mark.Mark.{Mark}
use Rattle.reo_net_base.specs.declared.mark.Mark.TheVariants.{F, G, R}
use Rattle.reo_net_base.specs.Net.{Net, Wiring, net_of}
use Rattle.reo_net_base.specs.Step.{change_at}
use Rattle.reo_net_laws.specs.Knots.{Knotted, in_knot}
use Rattle.reo_open.specs.declared.gate.GateRows.{GateRows}
use Rattle.reo_open.specs.declared.gate.GateRows.TheVariants.{All}
use Rattle.reo_open.specs.declared.opens.Open.{Open}
use Rattle.reo_open.specs.Opens.{open_behaviour}
use Rattle.reo_search.specs.First.{HasNoThreeColouring}
use Rattle.reo_listing.specs.declared.base.fault.ListFault.{ListFault}
use Rattle.reo_listing.specs.declared.base.fault.ListFault.TheVariants as faults
use Rattle.reo_listing.specs.laws.Extended.{Extends, IsExtendFault}
use Rattle.reo_listing.specs.laws.Gated.{allowed_for, gate_of, IsGate, put_at}
use Rattle.reo_listing.specs.laws.Searched.{IsSearched, HasThreeColouring}
use Rattle.reo_listing.proofs.laws.Fronts.{next_gate}
use Rattle.reo_listing.proofs.rows.LookupsLemmas.{beside_put}
use Rattle.reo_listing.proofs.laws.Gates.{IsPlain, gate_put}
use Rattle.reo_listing.proofs.laws.Searching.{front_added, front_exceeds, none_added, searched_next, AddedUpTo, added_none, added_more, added_all, fault_more}
use Rattle.reo_listing.specs.rows.Full.{IsFull}
use Rattle.reo_listing.specs.rows.Lookups.{AreLookupsBeside}
use Rattle.reo_listing.specs.declared.rows.lookups.Lookups.{Lookups}
use Rattle.reo_net_circuit.specs.found_ends.Laws.{EndsStay}

F-plain : IsPlain F
F-plain e = cc

G-plain : IsPlain G
G-plain e = cc

R-plain : IsPlain R
R-plain e = cc

pub short_by : (a b n : ℕ) → n ≡ a → (n ≡ b → ⊥) → a ≤ b → a < b
short_by a b n is ne le = elim (cases_lt a b) [ inl less ↦ less | inr ge ↦ absurd (ne (omega arith)) ]

put_twice : (a b : Open) (ps : List Open) (i : ℕ) (lt : i < length ps) → ((d : Open) → get_or ps i d ≡ b) → change_at (λ _. b) (change_at (λ _. a) ps i) i ≡ ps
put_twice a b [] i lt is = refl
put_twice a b (p ∷ ps) zero lt is = ap (λ (x : Open). x ∷ ps) (sym (is p))
put_twice a b (p ∷ ps) (suc i) lt is = ap (λ (xs : List Open). p ∷ xs) (put_twice a b ps i (omega arith) is)

module _ (knots : Knotted) (part budget : ℕ) (ports : List ℕ) where
  abbrev inside : ℕ → Bool
  inside = in_knot knots.numbers part

  -- Where a port says one mark, its lists are added.
  abbrev pub SaysAt : Wiring Open → List Mark → Mark → List (List Mark) → List (List Mark) → Type 0
  SaysAt w front m rows newer = (takes : Bool) → IsGate w (get_or ports (length front) 0) takes All
      → Extends (net_of open_behaviour (put_at w (get_or ports (length front) 0) (gate_of takes (allowed_for m)))) inside ports rows newer

  abbrev pub FailsAt : Wiring Open → List Mark → Mark → List (List Mark) → ListFault → Type 0
  FailsAt w front m rows fault = (takes : Bool) → IsGate w (get_or ports (length front) 0) takes All
      → IsExtendFault (net_of open_behaviour (put_at w (get_or ports (length front) 0) (gate_of takes (allowed_for m)))) inside ports rows part fault

  module _ (w : Wiring Open) (front : List Mark) (is : IsSearched w knots part budget ports front) where
    abbrev net : Net
    net = net_of open_behaviour w

    full_by : length front ≡ length ports → HasThreeColouring net inside → (old : List (List Mark)) (fault : ListFault) → IsFull (length old) part fault → IsExtendFault net inside ports old part fault
    full_by long three old (faults.Filter i) h = h
    full_by long three old (faults.Spent k weight) h = h
    full_by long three old (faults.Rows k) h = (h.0, front_exceeds w knots part budget ports front is long three old h.1)
    full_by long three old faults.NoMemory h = h

    -- Nothing is met.
    pub none_here : HasNoThreeColouring net inside → (old : List (List Mark)) → Extends net inside ports old old
    none_here none old = none_added w knots part budget ports front is none old old refl

    -- A whole front is added.
    pub whole : {A : Type 0} → length front ≡ length ports → HasThreeColouring net inside → (old new : List (List Mark)) (marks : List Mark) → marks ≡ front → (result : Result A ListFault)
        → MatchResult result (λ _. new ≡ old ++ marks ∷ []) (IsFull (length old) part) → MatchResult result (λ _. Extends net inside ports old new) (IsExtendFault net inside ports old part)
    whole long three old new marks same (Ok done) h = front_added w knots part budget ports front is long three old new (h ∙ ap (λ (ms : List Mark). old ++ ms ∷ []) same)
    whole long three old new marks same (Err fault) h = full_by long three old fault h

    module _ (short : length front < length ports) where
      abbrev port : ℕ
      port = get_or ports (length front) 0

      pub a_gate : (takes : Bool) × IsGate w port takes All
      a_gate = next_gate w is.wired inside ports front is.held short

      abbrev Added : ℕ → List (List Mark) → List (List Mark) → Type 0
      Added n old new = AddedUpTo w knots part budget ports front is short n old new

      pub fails_first : (old : List (List Mark)) (fault : ListFault) → FailsAt w front F old fault → IsExtendFault net inside ports old part fault
      fails_first old fault h = fault_more w knots part budget ports front is short F F-plain old old (added_none w knots part budget ports front is short old) fault h

      module _ (old one : List (List Mark)) (first : SaysAt w front F old one) (v : Wiring Open) (f : List Mark) (v_is : v ≡ w) (f_is : f ≡ front) where
        up_to_one : Added 1 old one
        up_to_one = added_more w knots part budget ports front is short F F-plain old old (added_none w knots part budget ports front is short old) one first

        pub fails_second : (fault : ListFault) → FailsAt v f G one fault → IsExtendFault net inside ports old part fault
        fails_second fault h =
            fault_more w knots part budget ports front is short G G-plain old one up_to_one fault
            (subst (λ (x : Wiring Open). FailsAt x front G one fault) v_is (subst (λ (y : List Mark). FailsAt v y G one fault) f_is h))

        module _ (two : List (List Mark)) (second : SaysAt v f G one two) (u : Wiring Open) (e : List Mark) (u_is : u ≡ v) (e_is : e ≡ f) where
          up_to_two : Added 2 old two
          up_to_two =
              added_more w knots part budget ports front is short G G-plain old one up_to_one two
              (subst (λ (x : Wiring Open). SaysAt x front G one two) v_is (subst (λ (y : List Mark). SaysAt v y G one two) f_is second))

          last_here : (B : List Mark → Wiring Open → Type 0) → B e u → B front w
          last_here B h = subst (λ (x : Wiring Open). B front x) (u_is ∙ v_is) (subst (λ (y : List Mark). B y u) (e_is ∙ f_is) h)

          pub last : {A : Type 0} (three : List (List Mark)) (result : Result A ListFault)
              → ((takes : Bool) → IsGate u (get_or ports (length e) 0) takes All
              → MatchResult result (λ _. Extends (net_of open_behaviour (put_at u (get_or ports (length e) 0) (gate_of takes (allowed_for R)))) inside ports two three)
              (IsExtendFault (net_of open_behaviour (put_at u (get_or ports (length e) 0) (gate_of takes (allowed_for R)))) inside ports two part))
              → MatchResult result (λ _. Extends net inside ports old three) (IsExtendFault net inside ports old part)
          last three (Ok done) h =
              added_all w knots part budget ports front is short old three
              (added_more w knots part budget ports front is short R R-plain old two up_to_two three (last_here (λ y x. SaysAt x y R two three) h))
          last three (Err fault) h =
              fault_more w knots part budget ports front is short R R-plain old two up_to_two fault (last_here (λ y x. FailsAt x y R two fault) h)

      -- A gate that says one mark, and then has all rows again.
      module _ (m : Mark) (plain : IsPlain m) (p : ℕ) (p_is : p ≡ length front) where
        pub gate_here : (takes : Bool) × (before : GateRows) × IsGate w (get_or ports p 0) takes before
        gate_here = subst (λ (k : ℕ). (takes : Bool) × (before : GateRows) × IsGate w (get_or ports k 0) takes before) (sym p_is) (a_gate.0, All, a_gate.1)

        module _ (allowed : GateRows) (allowed_is : allowed ≡ allowed_for m) (v : Wiring Open)
            (put : (takes : Bool) (before : GateRows) → IsGate w (get_or ports p 0) takes before → v ≡ put_at w (get_or ports p 0) (gate_of takes allowed)) where
          v_is : (takes : Bool) → IsGate w port takes All → v ≡ put_at w port (gate_of takes (allowed_for m))
          v_is takes one =
              subst (λ (k : ℕ). v ≡ put_at w (get_or ports k 0) (gate_of takes (allowed_for m))) p_is
              (subst (λ (a : GateRows). v ≡ put_at w (get_or ports p 0) (gate_of takes a)) allowed_is (put takes All (subst (λ (k : ℕ). IsGate w (get_or ports k 0) takes All) (sym p_is) one)))

          pub searched : (longer : List Mark) → longer ≡ front ++ m ∷ [] → IsSearched v knots part budget ports longer
          searched longer longer_is =
              subst (λ (x : Wiring Open). IsSearched x knots part budget ports longer) (sym (v_is a_gate.0 a_gate.1))
              (subst (λ (ms : List Mark). IsSearched (put_at w port (gate_of a_gate.0 (allowed_for m))) knots part budget ports ms) (sym longer_is) (searched_next w knots part budget ports front is short a_gate.0 a_gate.1 m plain))

          -- What parts are searched by is right beside the part, before and after.
          pub looked : EndsStay → (lookups : Lookups) → AreLookupsBeside net knots part lookups → AreLookupsBeside (net_of open_behaviour v) knots part lookups
          looked stay lookups are =
              subst (λ (x : Wiring Open). AreLookupsBeside (net_of open_behaviour x) knots part lookups) (sym (v_is a_gate.0 a_gate.1))
              (beside_put stay w is.wired knots is.are_knots part port a_gate.0 All (allowed_for m) a_gate.1 (is.held.here (length front) short) lookups are)

          pub looked_back : EndsStay → (lookups : Lookups) → AreLookupsBeside (net_of open_behaviour v) knots part lookups → AreLookupsBeside net knots part lookups
          looked_back stay lookups are =
              let takes : Bool = a_gate.0 in
              let one : Wiring Open = put_at w port (gate_of takes (allowed_for m)) in
              let next : IsSearched one knots part budget ports (front ++ m ∷ []) = searched_next w knots part budget ports front is short takes a_gate.1 m plain in
              let there : AreLookupsBeside (net_of open_behaviour one) knots part lookups = subst (λ (x : Wiring Open). AreLookupsBeside (net_of open_behaviour x) knots part lookups) (v_is takes a_gate.1) are in
              let again : put_at one port (gate_of takes All) ≡ w =
              ap (λ (ps : List Open). record w { primitives = ps }) (put_twice (gate_of takes (allowed_for m)) (gate_of takes All) w.primitives port a_gate.1.in_range a_gate.1.is) in
              subst (λ (x : Wiring Open). AreLookupsBeside (net_of open_behaviour x) knots part lookups) again
              (beside_put stay one next.wired knots next.are_knots part port takes (allowed_for m) All (gate_put w port takes (allowed_for m) a_gate.1.in_range) (next.held.here (length front) short) lookups there)

          pub said : (old new : List (List Mark)) → Extends (net_of open_behaviour v) inside ports old new → SaysAt w front m old new
          said old new h takes one = subst (λ (x : Wiring Open). Extends (net_of open_behaviour x) inside ports old new) (v_is takes one) h

          pub failed : (old : List (List Mark)) (fault : ListFault) → IsExtendFault (net_of open_behaviour v) inside ports old part fault → FailsAt w front m old fault
          failed old fault h takes one = subst (λ (x : Wiring Open). IsExtendFault (net_of open_behaviour x) inside ports old part fault) (v_is takes one) h

          -- The gate stands there again.
          module _ (u : Wiring Open) (u_is : u ≡ v) where
            pub gate_again : (takes : Bool) × (before : GateRows) × IsGate u (get_or ports p 0) takes before
            gate_again =
                subst (λ (x : Wiring Open). (takes : Bool) × (before : GateRows) × IsGate x (get_or ports p 0) takes before) (sym (u_is ∙ v_is a_gate.0 a_gate.1))
                (subst (λ (k : ℕ). (takes : Bool) × (before : GateRows) × IsGate (put_at w port (gate_of a_gate.0 (allowed_for m))) (get_or ports k 0) takes before) (sym p_is)
                (a_gate.0, allowed_for m, gate_put w port a_gate.0 (allowed_for m) a_gate.1.in_range))

            pub back : (x : Wiring Open) → ((takes : Bool) (before : GateRows) → IsGate u (get_or ports p 0) takes before → x ≡ put_at u (get_or ports p 0) (gate_of takes All)) → x ≡ w
            back x again =
                let takes : Bool = a_gate.0 in
                let one : Wiring Open = put_at w port (gate_of takes (allowed_for m)) in
                let is_one : u ≡ one = u_is ∙ v_is takes a_gate.1 in
                let stands : IsGate u (get_or ports p 0) takes (allowed_for m) =
                subst (λ (y : Wiring Open). IsGate y (get_or ports p 0) takes (allowed_for m)) (sym is_one)
                (subst (λ (k : ℕ). IsGate one (get_or ports k 0) takes (allowed_for m)) (sym p_is) (gate_put w port takes (allowed_for m) a_gate.1.in_range)) in
                again takes (allowed_for m) stands
                ∙ ap (λ (y : Wiring Open). put_at y (get_or ports p 0) (gate_of takes All)) is_one
                ∙ ap (λ (k : ℕ). put_at one (get_or ports k 0) (gate_of takes All)) p_is
                ∙ ap (λ (ps : List Open). record w { primitives = ps }) (put_twice (gate_of takes (allowed_for m)) (gate_of takes All) w.primitives port a_gate.1.in_range a_gate.1.is)

-- A front that was longer by one mark.
pub front_back : (front longer now after : List Mark) (m : Mark) (p : ℕ) → p ≡ length front → longer ≡ front ++ m ∷ [] → now ≡ longer → after ≡ take p now → after ≡ front
front_back front longer now after m p p_is longer_is now_is after_is =
    after_is ∙ ap (take p) (now_is ∙ longer_is) ∙ ap (λ (k : ℕ). take k (front ++ m ∷ [])) p_is ∙ take-append_seam front (m ∷ [])
