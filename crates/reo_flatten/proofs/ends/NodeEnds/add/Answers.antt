-- By the number of the name.
use Rattle.std.proofs.Common.{arith, ◌∙◌, ◌<◌, ◌++◌, ◌∷◌, [], sym, ap, position, bytes_eq, length, true, false}
use Rattle.std.proofs.lemmas.List.{get_or_default}
use Rattle.reo_rules.specs.Touches.{bool_eq}
use Rattle.reo_flatten.proofs.EndLemmas.{is_named, grows_at, grows_other, grows_nowhere}
use Rattle.reo_flatten.proofs.ends.NodeEnds.add.Goals as goal

pub returns-in_ok-push-in-Some : goal.returns-in_ok-push-in-Some
returns-in_ok-push-in-Some c =
    let found = is_named c.args.names.now c.args.name.now c.requires.distinct c.in-Some.number (ap (λ n. position (bytes_eq n) c.args.names.now) (sym c.as_slice.ensures) ∙ sym c.find.ensures ∙ c.in-Some.is) in
    let even = c.requires.outs in
    let within : c.in-Some.number < length c.args.self.now.outs = omega arith in record {
      ins = grows_other c.args.names.now c.args.name.now c.args.takes false c.args.end c.args.self.now.ins (ap (λ b. bool_eq b false) c.if-takes.true);
      outs = grows_at c.args.names.now c.args.name.now c.requires.distinct c.in-Some.number c.args.takes true c.args.end c.args.self.now.outs c.push.new.self (ap (λ n. position (bytes_eq n) c.args.names.now) (sym c.as_slice.ensures) ∙ sym c.find.ensures ∙ c.in-Some.is) c.requires.outs (ap (λ b. bool_eq b true) c.if-takes.true)
          (c.in_ok-push-in-Some.ensures.ok ∙ ap (λ es. es ++ c.args.end ∷ []) (c.at_mut.ensures.value ∙ get_or_default c.args.self.now.outs c.in-Some.number c.at_mut.result.now c.push.new.self within));
    }

pub returns-in_ok-push-in-Some-2 : goal.returns-in_ok-push-in-Some-2
returns-in_ok-push-in-Some-2 c =
    let found = is_named c.args.names.now c.args.name.now c.requires.distinct c.in-Some.number (ap (λ n. position (bytes_eq n) c.args.names.now) (sym c.as_slice.ensures) ∙ sym c.find.ensures ∙ c.in-Some.is) in
    let even = c.requires.ins in
    let within : c.in-Some.number < length c.args.self.now.ins = omega arith in record {
      ins = grows_at c.args.names.now c.args.name.now c.requires.distinct c.in-Some.number c.args.takes false c.args.end c.args.self.now.ins c.push-else-takes.new.self (ap (λ n. position (bytes_eq n) c.args.names.now) (sym c.as_slice.ensures) ∙ sym c.find.ensures ∙ c.in-Some.is) c.requires.ins (ap (λ b. bool_eq b false) c.if-takes.false)
          (c.in_ok-push-in-Some-2.ensures.ok ∙ ap (λ es. es ++ c.args.end ∷ []) (c.at_mut-else-takes.ensures.value ∙ get_or_default c.args.self.now.ins c.in-Some.number c.at_mut-else-takes.result.now c.push-else-takes.new.self within));
      outs = grows_other c.args.names.now c.args.name.now c.args.takes true c.args.end c.args.self.now.outs (ap (λ b. bool_eq b true) c.if-takes.false);
    }

pub returns-in-None : goal.returns-in-None
returns-in-None c =
    let none = ap (λ n. position (bytes_eq n) c.args.names.now) (sym c.as_slice.ensures) ∙ sym c.find.ensures ∙ c.in-None.is in
    record {
      ins = grows_nowhere c.args.names.now c.args.name.now c.requires.distinct c.args.takes false c.args.end c.args.self.now.ins none;
      outs = grows_nowhere c.args.names.now c.args.name.now c.requires.distinct c.args.takes true c.args.end c.args.self.now.outs none;
    }
