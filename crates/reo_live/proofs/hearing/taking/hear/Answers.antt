use Rattle.std.proofs.Common.{◌≡◌, ◌≤◌, ◌∙◌, ◌+◌, ◌^◌, Ok, refl, arith}
use Rattle.reo_live.specs.closings.Sources.{source_change, state_of}
use Rattle.reo_rounds.specs.Rules.{rules_of}
use Rattle.reo_live.proofs.hearing.HeardLemmas.{many_over}
use Rattle.reo_live.specs.declared.hearing.heard.Heard.TheVariants as heards
use Rattle.reo_live.proofs.hearing.TakeLemmas.{not_risen, far_none, goes_same}
use Rattle.reo_live.proofs.hearing.taking.hear.Goals as goal

pub hearing-init : goal.hearing-init
hearing-init g c =
    let r = rules_of g.P.Primitive.behaviour g.P.Primitive.settled g.P.Ported.port_state g.P.Ported.placed g.P.Ported.withdrawn in
    let live = c.args.live.now in
    let none : live.live.stand.lines ≡ 0 = (λ i. (c.requires.fresh i).stand.lines) in
    record {
      far = far_none r live.ports live.budget live.live.stand.circuit (g.S.Sink.told c.args.out.now) (state_of g.R.Source.told g.R.Source.given g.R.Source.ends g.R.Source.faults c.args.source.now) live.live c.requires.fresh;
      unspent = (λ i. (c.requires.fresh i).stand.over);
      lines = omega (arith, none);
      few = omega arith;
      ports = refl;
      budget = refl;
      no_miss = refl;
      no_break = refl;
    }

pub hearing-preserved : goal.hearing-preserved
hearing-preserved g c =
    let r = rules_of g.P.Primitive.behaviour g.P.Primitive.settled g.P.Ported.port_state g.P.Ported.placed g.P.Ported.withdrawn in
    let was = c.hearing.invariant in
    let change = source_change g.R.Source.told g.R.Source.given g.R.Source.ends g.R.Source.faults c.hearing.source c.hear_next.new.source in
    record {
      far = goes_same r c.args.live.now.ports c.args.live.now.budget c.hearing.live.ports c.hearing.live.budget (g.S.Sink.told c.hearing.out) (g.S.Sink.told c.hear_next.new.out) change
          c.hearing.live.live c.hear_next.new.live.live c.hearing.taken (Ok c.in-Ok.count) was.ports was.budget c.in-Ok.ensures.heard
          c.args.live.now.live.stand.circuit (g.S.Sink.told c.args.out.now) (state_of g.R.Source.told g.R.Source.given g.R.Source.ends g.R.Source.faults c.args.source.now) was.far;
      unspent = c.in-Ok.ensures.open;
      lines = c.in-Ok.ensures.lines;
      few = c.in-Ok.ensures.few;
      ports = c.hear_next.ensures.ports ∙ was.ports;
      budget = c.hear_next.ensures.budget ∙ was.budget;
      no_miss = not_risen (g.R.Source.faults c.hearing.source) (g.R.Source.faults c.hear_next.new.source) c.in-Ok.count heards.Missed c.in-Ok.ensures.missed_later c.in-Ok.ensures.missed_risen ∙ was.no_miss;
      no_break = not_risen (g.S.Sink.faults c.hearing.out) (g.S.Sink.faults c.hear_next.new.out) c.in-Ok.count heards.Broken c.in-Ok.ensures.later c.in-Ok.ensures.risen ∙ was.no_break;
    }

pub returns-clause-heard : goal.returns-clause-heard
returns-clause-heard g c =
    let r = rules_of g.P.Primitive.behaviour g.P.Primitive.settled g.P.Ported.port_state g.P.Ported.placed g.P.Ported.withdrawn in
    let was = c.hearing.invariant in
    let few : c.hearing.taken ≤ 2 ^ 32 + 1 = was.few in
    many_over r c.args.live.now.ports c.args.live.now.budget c.args.live.now.live.stand.circuit (g.S.Sink.told c.args.out.now) (g.S.Sink.told c.hearing.out)
    (state_of g.R.Source.told g.R.Source.given g.R.Source.ends g.R.Source.faults c.args.source.now) (state_of g.R.Source.told g.R.Source.given g.R.Source.ends g.R.Source.faults c.hearing.source) c.hearing.live.live c.hearing.taken was.unspent was.far (omega (arith, few))
