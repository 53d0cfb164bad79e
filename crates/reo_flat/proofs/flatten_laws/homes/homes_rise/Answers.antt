use Rattle.std.proofs.Common.{length}
use Rattle.reo_flat.specs.Flat.{placed_of, nodes_of}
use Rattle.reo_flat.proofs.flatten_laws.Rising.{homes_rise}
use Rattle.reo_flat.proofs.flatten_laws.homes.homes_rise.Goals as goal

pub returns : goal.returns
returns c ds j k le lt = homes_rise (placed_of ds) 0 (length (placed_of ds)) (nodes_of ds) j k le lt
