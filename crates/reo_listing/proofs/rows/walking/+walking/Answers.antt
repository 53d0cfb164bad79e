use Rattle.std.proofs.Common.{arith, rules, ◌≡◌, ◌+◌, ◌<◌, ◌∷◌, [], ◌∙◌, ap, length}
use Rattle.std.proofs.lemmas.List.{length-append}
use Rattle.reo_net_base.specs.Net.{net_of}
use Rattle.reo_open.specs.Opens.{open_behaviour}
use Rattle.reo_listing.specs.laws.Searched.{IsSearched}
use Rattle.reo_listing.specs.rows.Lookups.{AreLookupsBeside}
use Rattle.reo_listing.proofs.rows.WalkingLemmas.{whole, none_here, short_by, fails_first, fails_second, last, gate_here, searched, said, failed, gate_again, back, looked, looked_back}
use Rattle.reo_listing.proofs.rows.walking.+walking.Goals as goal

pub extend-returns-then-len-ports-clause-rows : goal.extend-returns-then-len-ports-clause-rows
extend-returns-then-len-ports-clause-rows g t c =
    whole c.args.knots.now c.args.part c.args.budget c.args.ports.now c.args.circuit.now c.args.front.now c.requires.searched (omega (arith, c.len.ensures, c.if-len-ports.true)) c.requires.some c.args.rows.now
    c.add.new.rows c.as_slice.result.now c.as_slice.ensures c.add.result c.add.ensures.exact

pub extend-returns-in-Err-clause-rows : goal.extend-returns-in-Err-clause-rows
extend-returns-in-Err-clause-rows g t c =
    fails_first c.args.knots.now c.args.part c.args.budget c.args.ports.now c.args.circuit.now c.args.front.now c.requires.searched
    (short_by _ _ _ c.len.ensures c.if-len-ports.false c.requires.searched.held.within) c.args.rows.now c.in-Err.fault c.in-Err.ensures.rows

pub extend-returns-in-Err-say-clause-rows : goal.extend-returns-in-Err-say-clause-rows
extend-returns-in-Err-say-clause-rows g t c =
    fails_second c.args.knots.now c.args.part c.args.budget c.args.ports.now c.args.circuit.now c.args.front.now c.requires.searched
    (short_by _ _ _ c.len.ensures c.if-len-ports.false c.requires.searched.held.within) c.args.rows.now c.say.new.rows c.in-Ok.ensures.rows c.say.new.circuit c.say.new.front c.in-Ok.ensures.circuit
    c.in-Ok.ensures.front c.in-Err-say.fault c.in-Err-say.ensures.rows

pub extend-returns-in-Ok-say-clause-rows : goal.extend-returns-in-Ok-say-clause-rows
extend-returns-in-Ok-say-clause-rows g t c =
    last c.args.knots.now c.args.part c.args.budget c.args.ports.now c.args.circuit.now c.args.front.now c.requires.searched
    (short_by _ _ _ c.len.ensures c.if-len-ports.false c.requires.searched.held.within) c.args.rows.now c.say.new.rows c.in-Ok.ensures.rows c.say.new.circuit c.say.new.front c.in-Ok.ensures.circuit
    c.in-Ok.ensures.front c.say-in-Ok.new.rows c.in-Ok-say.ensures.rows c.say-in-Ok.new.circuit c.say-in-Ok.new.front c.in-Ok-say.ensures.circuit c.in-Ok-say.ensures.front c.say-in-Ok-say.new.rows
    c.say-in-Ok-say.result c.say-in-Ok-say.ensures.rows

pub follow-returns-else-branch-clause-rows : goal.follow-returns-else-branch-clause-rows
follow-returns-else-branch-clause-rows g t c =
    none_here c.args.knots.now c.args.part c.args.budget c.args.ports.now c.args.circuit.now c.args.front.now c.requires.searched (c.in_ok-meets.ensures.meeting.none c.if-branch.false) c.args.rows.now

pub say-allow-requires : goal.say-allow-requires
say-allow-requires g t c =
    gate_here c.args.knots.now c.args.part c.args.budget c.args.ports.now c.args.circuit.now c.args.front.now c.requires.searched c.requires.short c.args.mark c.requires.plain c.len-place.result
    c.len-place.ensures

pub say-follow-requires : goal.say-follow-requires
say-follow-requires g t c κs within =
    let next : IsSearched c.allow.new.circuit c.args.knots.now c.args.part c.args.budget c.args.ports.now c.push.new.self =
    searched c.args.knots.now c.args.part c.args.budget c.args.ports.now c.args.circuit.now c.args.front.now c.requires.searched c.requires.short c.args.mark c.requires.plain c.len-place.result
    c.len-place.ensures c.allowed_for.result c.allowed_for.ensures c.allow.new.circuit c.allow.ensures c.push.new.self c.in_ok-push.ensures.ok in
    let next_lookups : AreLookupsBeside (net_of open_behaviour c.allow.new.circuit) c.args.knots.now c.args.part c.args.lookups.now =
    looked c.args.knots.now c.args.part c.args.budget c.args.ports.now c.args.circuit.now c.args.front.now c.requires.searched c.requires.short c.args.mark c.requires.plain c.len-place.result
    c.len-place.ensures c.allowed_for.result c.allowed_for.ensures c.allow.new.circuit c.allow.ensures c.ends_stay.ensures c.args.lookups.now c.requires.lookups in
    let long : length c.push.new.self ≡ length c.args.front.now + 1 = ap length c.in_ok-push.ensures.ok ∙ length-append c.args.front.now (c.args.mark ∷ []) in
    let short : length c.args.front.now < length c.args.ports.now = c.requires.short in
    search rules

pub say-allow-requires-in-Ok : goal.say-allow-requires-in-Ok
say-allow-requires-in-Ok g t c =
    gate_again c.args.knots.now c.args.part c.args.budget c.args.ports.now c.args.circuit.now c.args.front.now c.requires.searched c.requires.short c.args.mark c.requires.plain c.len-place.result
    c.len-place.ensures c.allowed_for.result c.allowed_for.ensures c.allow.new.circuit c.allow.ensures c.follow.new.circuit c.in-Ok.ensures.circuit

pub say-returns-in-Err-clause-rows : goal.say-returns-in-Err-clause-rows
say-returns-in-Err-clause-rows g t c =
    failed c.args.knots.now c.args.part c.args.budget c.args.ports.now c.args.circuit.now c.args.front.now c.requires.searched c.requires.short c.args.mark c.requires.plain c.len-place.result
    c.len-place.ensures c.allowed_for.result c.allowed_for.ensures c.allow.new.circuit c.allow.ensures c.args.rows.now c.in-Err.fault c.in-Err.ensures.rows

pub say-returns-in-Ok-clause-circuit : goal.say-returns-in-Ok-clause-circuit
say-returns-in-Ok-clause-circuit g t c =
    back c.args.knots.now c.args.part c.args.budget c.args.ports.now c.args.circuit.now c.args.front.now c.requires.searched c.requires.short c.args.mark c.requires.plain c.len-place.result
    c.len-place.ensures c.allowed_for.result c.allowed_for.ensures c.allow.new.circuit c.allow.ensures c.follow.new.circuit c.in-Ok.ensures.circuit c.allow-in-Ok.new.circuit c.allow-in-Ok.ensures

pub say-returns-in-Ok-clause-rows : goal.say-returns-in-Ok-clause-rows
say-returns-in-Ok-clause-rows g t c =
    said c.args.knots.now c.args.part c.args.budget c.args.ports.now c.args.circuit.now c.args.front.now c.requires.searched c.requires.short c.args.mark c.requires.plain c.len-place.result
    c.len-place.ensures c.allowed_for.result c.allowed_for.ensures c.allow.new.circuit c.allow.ensures c.args.rows.now c.follow.new.rows c.in-Ok.ensures.rows

pub say-returns-in-Ok-clause-lookups : goal.say-returns-in-Ok-clause-lookups
say-returns-in-Ok-clause-lookups g t c =
    looked_back c.args.knots.now c.args.part c.args.budget c.args.ports.now c.args.circuit.now c.args.front.now c.requires.searched c.requires.short c.args.mark c.requires.plain c.len-place.result
    c.len-place.ensures c.allowed_for.result c.allowed_for.ensures c.allow.new.circuit c.allow.ensures c.ends_stay.ensures c.follow.new.lookups c.in-Ok.ensures.lookups
