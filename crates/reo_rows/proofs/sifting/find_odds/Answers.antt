use Rattle.std.proofs.Common.{◌≡◌, ◌<◌, ◌+◌, ℕ, List, [], ◌∷◌, ◌++◌, length, get_or, ap, sym, subst, arith, length-append}
use Rattle.reo_net_base.specs.Net.{Net, net_of}
use Rattle.reo_rows.specs.declared.groups.Odd.{Odd}
use Rattle.reo_rows.specs.Groups.{IsOdd}
use Rattle.reo_rows.specs.Sets.{family_of}
use Rattle.reo_rows.proofs.Pushing.{pushed_each}
use Rattle.reo_rows.proofs.sifting.find_odds.Goals as goal

pub loop-group-preserved : goal.loop-group-preserved
loop-group-preserved g c =
    let net : Net = net_of g.P.Primitive.behaviour c.args.basis.now.circuit.now in
    let new : c.push.new.self ≡ c.loop-group.odds ++ c.odd_where-odd.result ∷ [] = c.in_ok-push.ensures.ok in
    record {
      one_each = omega (arith, ap (λ (l : List Odd). length l) new, length-append c.loop-group.odds (c.odd_where-odd.result ∷ []), c.loop-group.invariant.one_each);
      odd = subst (λ (l : List Odd). (k : ℕ) (d : Odd) → k < c.loop-group.group + 1 → IsOdd net (family_of c.args.alive.now) c.args.side k (get_or l k d)) (sym new)
          (pushed_each Odd (λ k o. IsOdd net (family_of c.args.alive.now) c.args.side k o) c.loop-group.odds c.odd_where-odd.result c.loop-group.group c.loop-group.invariant.one_each c.loop-group.invariant.odd c.odd_where-odd.ensures);
    }
