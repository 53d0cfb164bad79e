use Rattle.reo_lexer.proofs.Reading.{only-these, only-that}
use Rattle.reo_lexer.proofs.Spans.{lexed-lie, lexed-real}
use Rattle.reo_lexer.proofs.lexer.lex.Goals as goal

pub returns-clause-tokens : goal.returns-clause-tokens
returns-clause-tokens c ts h = only-these c.args.text.now c.tokens_of.result ts c.tokens_of.ensures h

pub returns-clause-fault : goal.returns-clause-fault
returns-clause-fault c f h = only-that c.args.text.now c.tokens_of.result f c.tokens_of.ensures h

pub returns-clause-spans : goal.returns-clause-spans
returns-clause-spans c = lexed-lie c.args.text.now c.tokens_of.result c.tokens_of.ensures

pub returns-clause-real : goal.returns-clause-real
returns-clause-real c = lexed-real c.args.text.now c.tokens_of.result c.tokens_of.ensures
