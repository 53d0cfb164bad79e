use Rattle.reo_grammar.specs.declared.kind.TokenKind.TheVariants as kinds
use Rattle.reo_terms.proofs.Answering.{refusal-line}
use Rattle.reo_terms.proofs.refusal.line_of_refusal.Goals as goal

pub returns : goal.returns
returns c text h =
    refusal-line text c.args.tokens.now c.args.place c.min.result (record { kind = kinds.Name; start = 0; end = 0; line = 0 }) c.requires c.min.ensures h
