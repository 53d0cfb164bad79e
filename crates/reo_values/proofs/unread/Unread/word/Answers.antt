use Rattle.std.proofs.Common.{Some, None, ◌∙◌, sym}
use Rattle.std.proofs.lemmas.Bool.Decides.{Decides-eqb}
use Rattle.std.proofs.lemmas.Slice.Eq.{strip_prefix_is}
use Rattle.reo_values.proofs.unread.Unread.word.Goals as goal

pub returns-in-Some-clause-taken : goal.returns-in-Some-clause-taken
returns-in-Some-clause-taken c t = sym c.self.view_is ∙ strip_prefix_is Decides-eqb c.self.inside.left.now c.args.word.now (Some c.in-Some.left) c.in-Some.ensures.cases

pub returns-in-None-clause-none : goal.returns-in-None-clause-none
returns-in-None-clause-none c t rest e = strip_prefix_is Decides-eqb c.self.inside.left.now c.args.word.now None c.in-None.ensures.cases rest (c.self.view_is ∙ e)
