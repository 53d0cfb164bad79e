-- What calls answer, by number and by words.
use Rattle.std.specs.Prelude.{ℕ, ◌≡◌, List, Option, Some, None, codes}
use Rattle.reo_handles.specs.declared.session.Session.{Session}
use Rattle.reo_handles.specs.declared.status.CallStatus.{CallStatus}
use Rattle.reo_handles.specs.declared.status.CallStatus.TheVariants as statuses

-- The number of a status.
abbrev pub number_of : CallStatus → ℕ
number_of statuses.Done = 0
number_of statuses.Closed = 1
number_of statuses.Refused = 2
number_of statuses.TooLong = 3
number_of statuses.NoPort = 4
number_of statuses.WrongWay = 5
number_of statuses.Pending = 6
number_of statuses.NoItem = 8
number_of statuses.NotPending = 9
number_of statuses.Wide = 10
number_of statuses.Spent = 11
number_of statuses.LargeBudget = 12
number_of statuses.NoRound = 13
number_of statuses.NoMove = 14
number_of statuses.NoMemory = 15

-- Its words.
abbrev pub words_of : CallStatus → List ℕ
words_of statuses.Done = codes "done"
words_of statuses.Closed = codes "nothing is open"
words_of statuses.Refused = codes "no circuit"
words_of statuses.TooLong = codes "too long"
words_of statuses.NoPort = codes "no port"
words_of statuses.WrongWay = codes "wrong way"
words_of statuses.Pending = codes "pending"
words_of statuses.NoItem = codes "no item"
words_of statuses.NotPending = codes "not pending"
words_of statuses.Wide = codes "wide"
words_of statuses.Spent = codes "spent"
words_of statuses.LargeBudget = codes "large budget"
words_of statuses.NoRound = codes "no round"
words_of statuses.NoMove = codes "no move"
words_of statuses.NoMemory = codes "no memory"

-- A number that is answered: that of a status of which this holds.
pub record Answers (Holds : CallStatus → Type 0) (number : ℕ) : Type 0 where
  pub status : CallStatus
  pub number_is : number ≡ number_of status
  pub holds : Holds status

-- What a call does where a session is open; where none is, it says so, and none is open after it.
abbrev pub AtOpen : (Session → Session → CallStatus → Type 0) → Option Session → Option Session → CallStatus → Type 0
AtOpen Does (Some s) (Some t) status = Does s t status
AtOpen Does (Some s) None status = ⊥
AtOpen Does None (Some t) status = ⊥
AtOpen Does None None status = status ≡ statuses.Closed
