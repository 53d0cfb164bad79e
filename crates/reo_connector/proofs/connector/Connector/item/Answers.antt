-- The item that was read is that of the port.
use Rattle.std.proofs.Common.{rules}
use Rattle.reo_connector.proofs.connector.Connector.item.Goals as goal

pub returns-in-Ok-clause-found : goal.returns-in-Ok-clause-found
returns-in-Ok-clause-found c = record {
  at = c.in-Some.port.now;
  is = search rules;
  item_is = search rules;
  text_is = search rules;
}
