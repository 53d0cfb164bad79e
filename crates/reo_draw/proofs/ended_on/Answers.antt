use Rattle.std.specs.Prelude.{None}
use Rattle.reo_io.specs.Real.{disk_failed, disk_fetches, disk_given, disk_long, disk_told}
use Rattle.reo_command.specs.States.{files_change}
use Rattle.reo_draw.proofs.ended_on.Goals as goal

pub returns : goal.returns
returns g c = record {
  files = files_change disk_told disk_failed disk_given disk_long disk_fetches c.new-files.result c.ended.new.files;
  begin = λ i. record {
    told = None;
    failed = c.new-files.ensures.failed i;
    given = c.new-files.ensures.given i;
    long = c.new-files.ensures.long i;
    fetches = c.new-files.ensures.fetches i;
  };
  ended = c.ended.ensures;
}
