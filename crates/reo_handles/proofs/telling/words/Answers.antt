-- A number that has words is answered.
use Rattle.reo_handles.specs.declared.status.CallStatus.TheVariants as statuses
use Rattle.reo_handles.proofs.telling.words.Goals as goal

pub returns-in-0-clause-none : goal.returns-in-0-clause-none
returns-in-0-clause-none c = λ none. absurd (none statuses.Done c.in-0.is)

pub returns-in-1-clause-none : goal.returns-in-1-clause-none
returns-in-1-clause-none c = λ none. absurd (none statuses.Closed c.in-1.is)

pub returns-in-2-clause-none : goal.returns-in-2-clause-none
returns-in-2-clause-none c = λ none. absurd (none statuses.Refused c.in-2.is)

pub returns-in-3-clause-none : goal.returns-in-3-clause-none
returns-in-3-clause-none c = λ none. absurd (none statuses.TooLong c.in-3.is)

pub returns-in-4-clause-none : goal.returns-in-4-clause-none
returns-in-4-clause-none c = λ none. absurd (none statuses.NoPort c.in-4.is)

pub returns-in-5-clause-none : goal.returns-in-5-clause-none
returns-in-5-clause-none c = λ none. absurd (none statuses.WrongWay c.in-5.is)

pub returns-in-6-clause-none : goal.returns-in-6-clause-none
returns-in-6-clause-none c = λ none. absurd (none statuses.Pending c.in-6.is)

pub returns-in-8-clause-none : goal.returns-in-8-clause-none
returns-in-8-clause-none c = λ none. absurd (none statuses.NoItem c.in-8.is)

pub returns-in-9-clause-none : goal.returns-in-9-clause-none
returns-in-9-clause-none c = λ none. absurd (none statuses.NotPending c.in-9.is)

pub returns-in-10-clause-none : goal.returns-in-10-clause-none
returns-in-10-clause-none c = λ none. absurd (none statuses.Wide c.in-10.is)

pub returns-in-11-clause-none : goal.returns-in-11-clause-none
returns-in-11-clause-none c = λ none. absurd (none statuses.Spent c.in-11.is)

pub returns-in-12-clause-none : goal.returns-in-12-clause-none
returns-in-12-clause-none c = λ none. absurd (none statuses.LargeBudget c.in-12.is)

pub returns-in-13-clause-none : goal.returns-in-13-clause-none
returns-in-13-clause-none c = λ none. absurd (none statuses.NoRound c.in-13.is)

pub returns-in-14-clause-none : goal.returns-in-14-clause-none
returns-in-14-clause-none c = λ none. absurd (none statuses.NoMove c.in-14.is)

pub returns-in-15-clause-none : goal.returns-in-15-clause-none
returns-in-15-clause-none c = λ none. absurd (none statuses.NoMemory c.in-15.is)
