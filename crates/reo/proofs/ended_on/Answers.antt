use Rattle.std.specs.Prelude.{None}
use Rattle.reo_io.specs.Real.{disk_failed, disk_fetches, disk_given, disk_long, disk_told, reader_ends, reader_faults, reader_given}
use Rattle.reo_command.specs.States.{files_change}
use Rattle.reo_live.specs.closings.Sources.{source_change}
use Rattle.reo.proofs.ended_on.Goals as goal

pub returns : goal.returns
returns g c = record {
  files = files_change disk_told disk_failed disk_given disk_long disk_fetches c.new-files.result c.ended.new.files;
  source = source_change (λ source. None) reader_given reader_ends reader_faults c.new-source.result c.ended.new.source;
  files_begin = λ i. record {
    told = None;
    failed = c.new-files.ensures.failed i;
    given = c.new-files.ensures.given i;
    long = c.new-files.ensures.long i;
    fetches = c.new-files.ensures.fetches i;
  };
  source_begins = λ i. record { told = None; given = c.new-source.ensures.given i; ends = c.new-source.ensures.ends i; faults = c.new-source.ensures.faults i };
  ended = c.ended.ensures;
}
