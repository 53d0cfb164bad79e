-- The rows of a first colouring have a log.
use Rattle.std.proofs.Common.{ℕ, List, sym, subst}
use Rattle.std.proofs.lemmas.List.{append-nil}
use Rattle.reo_refute_base.specs.Items.{Lists}
use Rattle.reo_refute_base.specs.Texts.{log_text}
use Rattle.reo_refute_base.specs.faults.Faults.{IsProof}
use Rattle.reo_refute_base.specs.laws.Laws.{ItemsAreListed}
use Rattle.reo_refute_base.specs.laws.Singles.{LogsExist}
use Rattle.reo_refute.proofs.proving.FewItems.{lists_few}
use Rattle.reo_proof_laws.specs.Logs.{FirstsHaveLogs}
use Rattle.reo_proof_laws.proofs.ItemLists.{item_lists}
use Rattle.reo_proof_laws.proofs.LogLines.{logs_are_lines}
use Rattle.reo_proof_laws.proofs.Numbers.{parts_numbered}

pub firsts_have_logs : ItemsAreListed → LogsExist → FirstsHaveLogs
firsts_have_logs listed exist net wired order is_order sized narrow turn rows items first =
    let they = item_lists net wired narrow in
    let log = exist net wired order is_order turn rows first.colouring.rows_fit.in_tables first.least they.0 they.1 in
    let lists : Lists = log.1.lists in
    let few = lists_few listed net wired lists log.1.item_lists narrow in
    let text : List ℕ = log_text log.0 in
    let proof : IsProof net turn rows text = record {
      colouring = (items, first.colouring);
      narrow = narrow;
      right = record {
        lines = log.0;
        text = record { numbered = parts_numbered net wired sized lists few turn rows 0 log.0 log.1.parts; text = sym (append-nil text) };
        right = log.1;
      };
    } in
    let cut = logs_are_lines net turn rows text proof.right in
    (cut.0, record { are_lines = cut.1.are_lines; proof = subst (IsProof net turn rows) cut.1.text_is proof })
