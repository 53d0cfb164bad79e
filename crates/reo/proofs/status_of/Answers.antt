use Rattle.std.proofs.Common.{ap}
use Rattle.std.specs.Prelude.{Some}
use Rattle.reo_io.specs.Real.{writer_faults, writer_took}
use Rattle.reo_live.specs.closings.Sources.{state_of}
use Rattle.reo.proofs.status_of.Goals as goal

pub returns : goal.returns
returns g c = record {
  mid = record { told = Some (writer_took c.reo-status.new.out); faults = writer_faults c.reo-status.new.out };
  came = c.reo-status.result.code;
  comes = record {
    headline = c.reo-status.ensures.headline;
    complete = c.reo-status.ensures.complete;
    answer = c.reo-status.ensures.answer;
    honest = c.reo-status.ensures.honest;
    inputs = record {
      told = c.reo-status.ensures.inputs.told;
      source = λ still. ap (state_of g.R.Source.told g.R.Source.given g.R.Source.ends g.R.Source.faults) (c.reo-status.ensures.inputs.source still);
    };
  };
  flushed = c.flushed.ensures;
}
