-- A text of parts for all places is a proof.
use Rattle.std.proofs.Common.{◌≡◌, ℕ, List, [], ◌++◌, length, ap, sym, ◌∙◌, subst, arith}
use Rattle.std.proofs.lemmas.List.{append-nil}
use Rattle.reo_net_base.specs.Net.{Net}
use Rattle.reo_net_base.specs.First.{positions}
use Rattle.reo_refute_base.specs.Items.{Lists, AreItemLists}
use Rattle.reo_refute_base.specs.Logs.{AreParts}
use Rattle.reo_refute_base.specs.Texts.{log_text}
use Rattle.reo_refute_base.specs.Wide.{IsWide}
use Rattle.reo_refute_base.specs.faults.Faults.{IsProof}
use Rattle.reo_refute.specs.check.Judging.{IsFirstRows}
use Rattle.reo_refute.proofs.check.Passing.{parts_end}
use Rattle.reo_refute.specs.proving.Making.{ArePartsMade}

pub proved : (net : Net) (turn : ℕ) (rows : List ℕ) → IsFirstRows net turn rows → (IsWide net → ⊥) → (lists : Lists) → AreItemLists net lists → (start log : List ℕ) → start ≡ []
    → ArePartsMade net turn rows lists 0 (length (positions net turn)) start log → IsProof net turn rows log
proved net turn rows first narrow lists are start log none made = record {
  colouring = (first.0, first.1.colouring);
  narrow = narrow;
  right = record {
    lines = made.lines;
    text = record {
      numbered = made.written.numbered;
      text = made.written.text ∙ ap (λ (l : List ℕ). l ++ log_text made.lines) none ∙ sym (append-nil (log_text made.lines));
    };
    right = record {
      lists = lists;
      item_lists = are;
      parts = subst (AreParts net turn rows lists 0) (append-nil made.lines) ((made.passes.parts []).1 (parts_end net turn rows lists (length (positions net turn)) (omega arith)));
    };
  };
}
