use Rattle.std.proofs.Common.{◌≡◌, ◌∙◌, ℕ, true, Option, Some, None, refl, sym, subst}
use Rattle.std.proofs.lemmas.Bool.{both_ways}
use Rattle.reo_net_base.specs.Net.{Net, net_of, no_side}
use Rattle.reo_joint_values.specs.Values.{Family}
use Rattle.reo_side_tables.specs.Marks.{apart_in}
use Rattle.reo_rows.specs.Sets.{family_of}
use Rattle.reo_rows.specs.Groups.{Excuses}
use Rattle.reo_rows.specs.Stands.{StandsAtEnd}
use Rattle.reo_rows.proofs.Optional.{some_same}
use Rattle.reo_rows.proofs.Apart.{apart_at, excused, stands_apart}
use Rattle.reo_rows.proofs.standing.marks_stand.Goals as goal

pub returns-then-not-excuses : goal.returns-then-not-excuses
returns-then-not-excuses g c =
    let net : Net = net_of g.P.Primitive.behaviour c.args.basis.now.circuit.now in
    let family : Family = family_of c.args.alive.now in (
      λ h. absurd cc,
      λ stands.
          let excuse = excused net c.known.ensures.wired c.args.side family c.args.row c.requires.row c.args.odd c.requires.odd stands in
          let said : c.excuses.result ≡ true = c.excuses.ensures.1 (subst (λ (o : Option ℕ). Excuses c.args.odd o) (sym (c.apart-apart.ensures no_side)) excuse) in
          absurd (both_ways c.excuses.result c.if-not-excuses.true said),
    )

pub stands_at-requires-clause-end : goal.stands_at-requires-clause-end
stands_at-requires-clause-end g c =
    let net : Net = net_of g.P.Primitive.behaviour c.args.basis.now.circuit.now in
    apart_at net c.known.ensures.wired c.args.side c.requires.side c.args.row c.in-Some.end c.requires.row (sym (c.apart-apart.ensures no_side) ∙ c.in-Some.is)

pub returns-in-None : goal.returns-in-None
returns-in-None g c =
    let net : Net = net_of g.P.Primitive.behaviour c.args.basis.now.circuit.now in
    let family : Family = family_of c.args.alive.now in
    let is : apart_in net c.args.side c.args.row ≡ None = sym (c.apart-apart.ensures no_side) ∙ c.in-None.is in
    let excuse : Excuses c.args.odd (apart_in net c.args.side c.args.row) = subst (λ (o : Option ℕ). Excuses c.args.odd o) (c.apart-apart.ensures no_side) (c.excuses.ensures.0 c.if-not-excuses.false) in (
      λ h. stands_apart net c.known.ensures.wired c.args.side family c.args.row c.requires.row c.args.odd c.requires.odd excuse (λ end apart. let wrong : None ≡ Some end = sym is ∙ apart in absurd cc),
      λ stands. refl,
    )

pub returns-in-Some : goal.returns-in-Some
returns-in-Some g c =
    let net : Net = net_of g.P.Primitive.behaviour c.args.basis.now.circuit.now in
    let family : Family = family_of c.args.alive.now in
    let is : apart_in net c.args.side c.args.row ≡ Some c.in-Some.end = sym (c.apart-apart.ensures no_side) ∙ c.in-Some.is in
    let excuse : Excuses c.args.odd (apart_in net c.args.side c.args.row) = subst (λ (o : Option ℕ). Excuses c.args.odd o) (c.apart-apart.ensures no_side) (c.excuses.ensures.0 c.if-not-excuses.false) in (
      λ h. stands_apart net c.known.ensures.wired c.args.side family c.args.row c.requires.row c.args.odd c.requires.odd excuse
          (λ end apart. subst (λ (e : ℕ). StandsAtEnd net family c.args.side c.args.row e) (some_same c.in-Some.end end (sym is ∙ apart)) (c.stands_at.ensures.0 h)),
      λ stands. c.stands_at.ensures.1 (λ j of same. stands j of),
    )
