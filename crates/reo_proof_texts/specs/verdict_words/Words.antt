-- What verdicts say of a round.
use Rattle.std.specs.Prelude.{ℕ, List, ◌++◌, codes}
use Rattle.std.specs.Fmt.{decimal}
use Rattle.reo_checker.specs.declared.wrong.Wrong.{Wrong}
use Rattle.reo_checker.specs.declared.wrong.Wrong.TheVariants.{Count, Row, Joint, Item}

-- What is wrong with the entries of a round; at a joint with the node's name.
abbrev pub wrong_words : Wrong → List ℕ → List ℕ
wrong_words Count node = codes "count"
wrong_words (Row primitive) node = codes "row " ++ decimal primitive
wrong_words (Joint joint) node = codes "joint " ++ decimal joint ++ codes " at " ++ node
wrong_words (Item joint) node = codes "item " ++ decimal joint ++ codes " at " ++ node

-- A cause in a round.
abbrev pub in_round : ℕ → List ℕ → List ℕ
in_round round words = codes "round " ++ decimal round ++ codes ": " ++ words
