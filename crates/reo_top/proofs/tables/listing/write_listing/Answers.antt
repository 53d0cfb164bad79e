use Rattle.std.proofs.Common.{◌∙◌, List, ap}
use Rattle.reo_net_base.specs.declared.port.Port.{Port}
use Rattle.reo_command.specs.Readings.{FlatCircuit}
use Rattle.reo_command.specs.ReadSteps.{circuit_in}
use Rattle.reo_command.proofs.top_base.CaseLemmas.{no_memory_cases}
use Rattle.reo_command.proofs.top_base.ToldLemmas.{told_cases, told_exact, told_fair}
use Rattle.reo_top.specs.tables.Listings.{listing_text, listing_status, IsListing, ListsTables}
use Rattle.reo_top.proofs.tables.TableLemmas.{only_listing, status_not_nine}
use Rattle.reo_top.proofs.tables.listing.write_listing.Goals as goal

pub returns-in-Ok-clause-cases : goal.returns-in-Ok-clause-cases
returns-in-Ok-clause-cases g c =
    let flat : FlatCircuit = circuit_in c.args.flat.now in
    told_cases (IsListing c.args.budget flat) (listing_text c.args.budget flat.ports) listing_status c.list_tables-listing.result _ _ c.as_slice-in-Ok.result.now c.listing_status.result
    (c.as_slice-in-Ok.ensures ∙ c.in-Ok.ensures.text ∙ ap (λ (ports : List Port). listing_text c.args.budget ports c.list_tables-listing.result) c.as_slice.ensures) c.listing_status.ensures (c.in-Ok.ensures.told, c.list_tables-listing.ensures) c.answer.ensures.answers

pub returns-in-Ok-clause-exact : goal.returns-in-Ok-clause-exact
returns-in-Ok-clause-exact g c =
    let flat : FlatCircuit = circuit_in c.args.flat.now in
    told_exact (IsListing c.args.budget flat) (listing_text c.args.budget flat.ports) listing_status c.list_tables-listing.result _ _ c.as_slice-in-Ok.result.now c.listing_status.result
    (c.as_slice-in-Ok.ensures ∙ c.in-Ok.ensures.text ∙ ap (λ (ports : List Port). listing_text c.args.budget ports c.list_tables-listing.result) c.as_slice.ensures) c.listing_status.ensures
    (only_listing c.one_listing.ensures c.args.budget flat c.known.ensures.wired c.list_tables-listing.result (c.in-Ok.ensures.told, c.list_tables-listing.ensures)) c.answer.ensures.answers

pub returns-in-Ok-clause-fair : goal.returns-in-Ok-clause-fair
returns-in-Ok-clause-fair g c =
    let flat : FlatCircuit = circuit_in c.args.flat.now in
    told_fair (IsListing c.args.budget flat) (listing_text c.args.budget flat.ports) listing_status c.list_tables-listing.result _ _ c.as_slice-in-Ok.result.now c.listing_status.result
    (c.as_slice-in-Ok.ensures ∙ c.in-Ok.ensures.text ∙ ap (λ (ports : List Port). listing_text c.args.budget ports c.list_tables-listing.result) c.as_slice.ensures) c.listing_status.ensures (status_not_nine c.list_tables-listing.result) c.answer.ensures.fair

pub returns-clause-cases : goal.returns-clause-cases
returns-clause-cases g c = no_memory_cases _ _ (ListsTables c.args.budget (circuit_in c.args.flat.now)) c.no_memory.ensures.says
