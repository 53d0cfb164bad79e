use Rattle.reo_refute.proofs.next.looking.has_two.Goals as goal

pub returns-in-Some-clause-one : goal.returns-in-Some-clause-one
returns-in-Some-clause-one c = λ off some. (c.in-Some.first, c.in-Some.ensures, c.has_other.ensures.none off)
