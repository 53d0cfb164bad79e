use Rattle.std.proofs.Common.{◌≡◌, ◌≢◌, ◌∙◌, sym, subst, ℕ, List, take}
use Rattle.std.specs.Prelude.{codes}
use Rattle.std.proofs.lemmas.Slice.Eq.{slice_eq-Decides}
use Rattle.std.proofs.lemmas.Bool.Decides.{Decides-eqb}
use Rattle.reo_proof_reader.specs.Reads.{IsLogTaken}
use Rattle.reo_proof_reader.proofs.LogLemmas.{so_far_more, log_taken}
use Rattle.reo_proof_reader.proofs.log.take_log.Goals as goal

pub returns-then-eq : goal.returns-then-eq
returns-then-eq c =
    let same = (slice_eq-Decides Decides-eqb _ _ _ c.eq.ensures).0 c.if-eq.true in
    let is : c.in-Some.line.now ≡ codes "proved" = same ∙ c.as_slice.ensures in
    subst (λ (w : List ℕ). IsLogTaken w c.line.new.self (take c.loop-line.size c.left-whole.result.now) c.loop-line.lines) c.left-whole.ensures
    (log_taken c.left-whole.result.now c.loop-line.reader c.line.new.self c.in-Some.line.now c.loop-line.lines c.loop-line.size c.loop-line.invariant c.in-Some.ensures is)

pub loop-line-preserved : goal.loop-line-preserved
loop-line-preserved c =
    let other : c.in-Some.line.now ≢ codes "proved" = λ is. let yes = (slice_eq-Decides Decides-eqb _ _ _ c.eq.ensures).1 (is ∙ sym c.as_slice.ensures) in let no = c.if-eq.false in cc in
    so_far_more c.left-whole.result.now c.loop-line.reader c.line.new.self c.in-Some.line.now c.loop-line.lines c.loop-line.size c.loop-line.invariant c.in-Some.ensures other
