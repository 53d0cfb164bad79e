use Rattle.reo_io.proofs.Taken.{TookPart-after}
use Rattle.reo_proving.proofs.logging.write_both.Goals as goal

pub returns-in_err-put_all-clause-failed : goal.returns-in_err-put_all-clause-failed
returns-in_err-put_all-clause-failed g c = λ failed.
    TookPart-after (g.S.Sink.told c.args.out.now) (g.S.Sink.told c.write_round.new.out) (g.S.Sink.told c.put_all.new.out) _ _ c.in_ok-write_round.ensures.ok c.in_err-put_all.ensures.err
