-- No port declines the offer for its item.
use Rattle.std.proofs.Common.{subst}
use Rattle.reo_rounds.specs.Offering.{IsOfferFault}
use Rattle.reo_connector.specs.Held.{states_of}
use Rattle.reo_handles.proofs.FitsLemmas.{never_outside}
use Rattle.reo_handles.proofs.session.Session.offer.Goals as goal

pub unreachable-requires : goal.unreachable-requires
unreachable-requires c =
    let held = c.args.self.now.connector in
    let fault = subst (IsOfferFault (states_of held) held.circuit.ports c.args.port c.args.offer) c.in-ItemOutside.is c.in-Err.ensures.exact in
    never_outside held c.args.port c.args.offer c.known.ensures.ports c.known.ensures.count c.requires.fits fault
