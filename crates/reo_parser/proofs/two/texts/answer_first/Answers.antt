use Rattle.std.proofs.lemmas.Result.{err_from_is_err_and}
use Rattle.reo_parser.proofs.two.Answering.{fault-first}
use Rattle.reo_parser.proofs.two.texts.answer_first.Goals as goal

pub returns-in_err-program : goal.returns-in_err-program
returns-in_err-program c ts are first =
    let p = err_from_is_err_and c.from_residual.result c.from_residual.ensures.1 in
    rw (p.1, p.2) (fault-first c.args.text.now ts are first c.in_err-program.field-0.0 c.in_err-program.ensures.parsed)
