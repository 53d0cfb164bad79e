-- Sets of marks.
use Rattle.std.specs.Prelude.{ℕ, ◌+◌, ◌-◌, ◌%◌, ◌==◌, cond, Bool, true, false, not, ◌&&◌, ◌||◌, List, slice_index_or}
use Rattle.reo_net_base.specs.declared.mark.Mark.{Mark}
use Rattle.reo_net_base.specs.declared.mark.Mark.TheVariants.{F, G, R, J}
use Rattle.reo_mark_sets.specs.declared.marks.PlainMarks.{PlainMarks}

-- Whether a mark is one of some. Jam never is.
abbrev pub has : PlainMarks → Mark → Bool
has marks F = marks.flow
has marks G = marks.given
has marks R = marks.required
has marks J = false

-- Whether a mark meets one of some at a joint.
abbrev pub meets : PlainMarks → Mark → Bool
meets theirs F = theirs.flow
meets theirs G = theirs.given || theirs.required
meets theirs R = theirs.given
meets theirs J = false

abbrev pub no_marks : PlainMarks
no_marks = record { flow = false; given = false; required = false }

abbrev pub all_marks : PlainMarks
all_marks = record { flow = true; given = true; required = true }

-- The marks of which a test holds.
abbrev pub marks_where : (Mark → Bool) → PlainMarks
marks_where test = record { flow = test F; given = test G; required = test R }

-- Those of some marks that meet one of others at a joint.
abbrev pub met : PlainMarks → PlainMarks → PlainMarks
met own theirs = marks_where (λ mark. has own mark && meets theirs mark)

abbrev pub is_mark : Mark → Mark → Bool
is_mark F F = true
is_mark F G = false
is_mark F R = false
is_mark F J = false
is_mark G F = false
is_mark G G = true
is_mark G R = false
is_mark G J = false
is_mark R F = false
is_mark R G = false
is_mark R R = true
is_mark R J = false
is_mark J F = false
is_mark J G = false
is_mark J R = false
is_mark J J = true

-- One mark alone, if it is one of some.
abbrev pub only : PlainMarks → Mark → PlainMarks
only own mark = marks_where (λ m. has own m && is_mark mark m)

-- One mark alone.
abbrev pub just : Mark → PlainMarks
just mark = marks_where (is_mark mark)

-- The marks that are of both.
abbrev pub both : PlainMarks → PlainMarks → PlainMarks
both a b = marks_where (λ mark. has a mark && has b mark)

-- Whether each of some marks is one of others.
abbrev pub are_within : PlainMarks → PlainMarks → Bool
are_within a b = (not a.flow || b.flow) && ((not a.given || b.given) && (not a.required || b.required))

-- The two ends of the joint of a number are the places twice that number and the one behind it.
abbrev pub partner : ℕ → ℕ
partner place = cond (place % 2 == 0) (place + 1) (place - 1)

-- The marks at a place.
abbrev pub marks_at : List PlainMarks → ℕ → PlainMarks
marks_at sets place = slice_index_or sets place no_marks

-- Those of them that meet one at the other end of the joint.
abbrev pub open_at : List PlainMarks → ℕ → PlainMarks
open_at sets place = met (marks_at sets place) (marks_at sets (partner place))
