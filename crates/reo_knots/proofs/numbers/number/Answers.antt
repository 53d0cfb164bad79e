use Rattle.std.proofs.Common.{◌≡◌, length, arith}
use Rattle.reo_net_laws.proofs.KnotNumbers.{IsNumbered, next_number, more_numbered, more_known}
use Rattle.reo_knots.proofs.numbers.number.Goals as goal

pub loop-side-preserved : goal.loop-side-preserved
loop-side-preserved c =
    let numbered = c.loop-side.invariant.numbered in
    let is : IsNumbered c.args.labels.now c.loop-side.numbers c.loop-side.side c.loop-side.count c.number_of-number.result =
    rw c.number_of-number.ensures.number
    (next_number c.args.labels.now c.loop-side.numbers c.loop-side.side c.loop-side.count numbered c.loop-side.known.items c.requires (omega arith) c.loop-side.invariant.known) in
    record {
      numbered = rw (c.in_ok-push.ensures.ok, c.max-count.ensures) (more_numbered c.args.labels.now c.loop-side.numbers c.loop-side.side c.loop-side.count numbered c.number_of-number.result is);
      known = rw (c.in_ok-push.ensures.ok, c.number_of-number.ensures.known)
          (more_known c.args.labels.now c.loop-side.numbers c.loop-side.side c.loop-side.count numbered c.loop-side.known.items c.requires (omega arith) c.loop-side.invariant.known c.number_of-number.result
          c.number_of-number.ensures.number);
      few = omega (arith, c.max-count.ensures, is.at_most, c.loop-side.invariant.few);
    }

pub returns : goal.returns
returns c =
    let last : c.loop-side.side ≡ length c.args.labels.now = omega arith in
    rw (c.into_vec.ensures, ← last) c.loop-side.invariant.numbered
