-- What holds of all that is heard.
use Rattle.std.specs.Prelude.{ℕ, ◌≡◌, List, ◌++◌}
use Rattle.reo_net_base.specs.Net.{net_of}
use Rattle.reo_net_base.specs.declared.port.Port.{Port}
use Rattle.reo_rounds.specs.Order.{HasOrder}
use Rattle.reo_rounds.specs.Rules.{Rules}
use Rattle.reo_live.specs.base.Live.{Live}
use Rattle.reo_live.specs.declared.base.answer.Answer.{Answer}
use Rattle.reo_live.specs.base.Hearing.{After, Last}

-- After one piece and then another it has come to the state after their sum, and has answered the
-- same.
abbrev pub CutsChangeNothing : {P : Type 0} → Rules P → Type 0
CutsChangeNothing r = (ports : List Port) (budget : ℕ)
    (s t u : Live _) (a b : List ℕ) (x y : List Answer)
    → After r ports budget s a t x → After r ports budget t b u y
    → After r ports budget s (a ++ b) u (x ++ y)

-- Where the joints have an order, there is a state after whatever comes, and there are last
-- answers.
abbrev pub HearingExists : {P : Type 0} → Rules P → Type 0
HearingExists r = (ports : List Port) (budget : ℕ) (s : Live _) (bytes : List ℕ)
    → HasOrder (net_of r.behaviour s.stand.circuit)
    → (t : Live _) × (answers : List Answer) × (last : List Answer)
    × After r ports budget s bytes t answers × Last r ports budget t last

-- And there are answers to the end, wherever it comes.
abbrev pub EndingExists : {P : Type 0} → Rules P → Type 0
EndingExists r = (ports : List Port) (budget : ℕ) (s : Live _)
    → HasOrder (net_of r.behaviour s.stand.circuit)
    → (answers : List Answer) × Last r ports budget s answers

-- There is one state, and there are no other answers.
abbrev pub HearingIsOne : {P : Type 0} → Rules P → Type 0
HearingIsOne r = (ports : List Port) (budget : ℕ)
    (s t u : Live _) (bytes : List ℕ) (x y : List Answer)
    → HasOrder (net_of r.behaviour s.stand.circuit)
    → After r ports budget s bytes t x → After r ports budget s bytes u y → (t ≡ u) × (x ≡ y)
