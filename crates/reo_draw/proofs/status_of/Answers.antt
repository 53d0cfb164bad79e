use Rattle.std.specs.Prelude.{Some}
use Rattle.reo_io.specs.Real.{writer_faults, writer_took}
use Rattle.reo_draw.proofs.status_of.Goals as goal

pub returns : goal.returns
returns g c = record {
  mid = record { told = Some (writer_took c.draw-status.new.out); faults = writer_faults c.draw-status.new.out };
  came = c.draw-status.result.code;
  comes = record {
    answer = c.draw-status.ensures.answer;
    status = c.draw-status.ensures.status;
    fair = c.draw-status.ensures.fair;
    tells = c.draw-status.ensures.tells;
  };
  flushed = c.flushed.ensures;
}
