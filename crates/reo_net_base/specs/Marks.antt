-- Marks, and the joint rule.
use Rattle.std.specs.Prelude.{Bool, true, false}
use Rattle.reo_net_base.specs.declared.mark.Mark.{Mark}
use Rattle.reo_net_base.specs.declared.mark.Mark.TheVariants.{F, G, R, J}

-- The joint rule: both flow, or both jam, or neither flows or jams and at least one gives a reason.
abbrev pub marks_match : Mark → Mark → Bool
marks_match F F = true
marks_match F G = false
marks_match F R = false
marks_match F J = false
marks_match G F = false
marks_match G G = true
marks_match G R = true
marks_match G J = false
marks_match R F = false
marks_match R G = true
marks_match R R = false
marks_match R J = false
marks_match J F = false
marks_match J G = false
marks_match J R = false
marks_match J J = true

-- Whether a mark is flow.
abbrev pub is_flow : Mark → Bool
is_flow F = true
is_flow G = false
is_flow R = false
is_flow J = false
