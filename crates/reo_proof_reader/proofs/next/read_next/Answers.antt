use Rattle.std.proofs.Common.{◌≢◌, ◌∙◌, inl, refl, sym, subst, length}
use Rattle.std.specs.Prelude.{Ok, Err}
use Rattle.std.proofs.lemmas.Bool.{eqb-false}
use Rattle.reo_trace_reader.specs.texts.Answers.{IsLineRead}
use Rattle.reo_trace_reader.specs.texts.Texts.{IsRoundText, IsEndingText}
use Rattle.reo_trace_reader.specs.declared.texts.trace.TraceLine.{TraceLine}
use Rattle.reo_trace_reader.specs.declared.texts.fault.LineFault.{LineFault}
use Rattle.reo_proof_reader.proofs.NextLemmas.{none_wrong, form_wrong, other_wrong, not_last}
use Rattle.reo_proof_reader.proofs.next.read_next.Goals as goal

pub returns-in_default : goal.returns-in_default
returns-in_default c = inl (refl, none_wrong c.args.ports.now.list c.requires c.args.number c.args.reader.now c.in_default.ensures.0)

pub returns-else-line-number : goal.returns-else-line-number
returns-else-line-number c =
    let is_round : IsRoundText c.args.ports.now.list c.in-Some.text.now c.in-Ok-Round.line =
    subst (λ (t : TraceLine). IsLineRead c.args.ports.now.list c.in-Some.text.now (Ok t)) c.in-Ok-Round.field-0-is c.in-Ok-Round.ensures.read in
    inl (refl, other_wrong c.args.ports.now.list c.requires c.args.number c.args.reader.now c.line.new.self c.in-Some.text.now c.in-Ok-Round.line c.in-Some.ensures is_round c.if-line-number.false)

pub returns-else-is_done : goal.returns-else-is_done
returns-else-is_done c =
    let ends : IsEndingText c.in-Some.text.now c.in-Ok-Ending.ending =
    subst (λ (t : TraceLine). IsLineRead c.args.ports.now.list c.in-Some.text.now (Ok t)) c.in-Ok-Ending.field-0-is c.in-Ok-Ending.ensures.read in
    let more : length c.line.new.self ≢ 0 = λ e. eqb-false (length c.line.new.self) 0 (sym c.is_done.ensures ∙ c.if-is_done.false) e in
    inl (refl, not_last c.args.ports.now.list c.requires c.args.number c.args.reader.now c.line.new.self c.in-Some.text.now c.in-Ok-Ending.ending c.in-Some.ensures ends more)

pub returns-in-Err-Form : goal.returns-in-Err-Form
returns-in-Err-Form c =
    let neither = subst (λ (f : LineFault). IsLineRead c.args.ports.now.list c.in-Some.text.now (Err f)) c.in-Err-Form.field-0-is c.in-Err-Form.ensures.read in
    inl (refl, form_wrong c.args.ports.now.list c.requires c.args.number c.args.reader.now c.line.new.self c.in-Some.text.now c.in-Some.ensures neither.0 neither.1)
