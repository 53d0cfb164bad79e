-- The words and signs of operators.
use Rattle.std.specs.Prelude.{ℕ, List, codes}
use Rattle.reo_values.specs.declared.operator.Unary.{Unary}
use Rattle.reo_values.specs.declared.operator.Unary.TheVariants as unaries
use Rattle.reo_values.specs.declared.operator.Binary.{Binary}
use Rattle.reo_values.specs.declared.operator.Binary.TheVariants as binaries

abbrev pub unary_text : Unary → List ℕ
unary_text unaries.Not = codes "!"
unary_text unaries.Minus = codes "-"
unary_text unaries.First = codes "first"
unary_text unaries.Second = codes "second"
unary_text unaries.Length = codes "length"

abbrev pub binary_text : Binary → List ℕ
binary_text binaries.Or = codes "||"
binary_text binaries.And = codes "&&"
binary_text binaries.Eq = codes "=="
binary_text binaries.Ne = codes "!="
binary_text binaries.Lt = codes "<"
binary_text binaries.Le = codes "<="
binary_text binaries.Gt = codes ">"
binary_text binaries.Ge = codes ">="
binary_text binaries.Add = codes "+"
binary_text binaries.Sub = codes "-"
binary_text binaries.Mul = codes "*"
binary_text binaries.Div = codes "/"
binary_text binaries.Rem = codes "%"
binary_text binaries.Pair = codes ","
