use Rattle.std.proofs.Common.{◌∙◌, ◌++◌, ◌∷◌, [], cond, ap, sym}
use Rattle.reo_expand.specs.tables.Firsts.{place_in}
use Rattle.reo_expand.proofs.tables.Placing.{same_places, more_places}
use Rattle.reo_expand.proofs.tables.first_places.FirstPlaces.note.Goals as goal

pub returns-then-there-clause-noted : goal.returns-then-there-clause-noted
returns-then-there-clause-noted c n =
    let names = c.args.self.now.names in
    let name = c.args.name.now in
    let has = sym c.in_ok-there.ensures.there ∙ c.if-there.true in
    let same = c.in_ok-there.ensures.names ∙ ap (λ b. cond b names (names ++ name ∷ [])) has in
    ap (λ ns. place_in ns c.args.self.now.places n) same ∙ same_places names c.args.self.now.places name c.args.place n has

pub returns-clause-noted : goal.returns-clause-noted
returns-clause-noted c n =
    let names = c.args.self.now.names in
    let places = c.args.self.now.places in
    let name = c.args.name.now in
    let has = sym c.in_ok-there.ensures.there ∙ c.if-there.false in
    let same = c.in_ok-there.ensures.names ∙ ap (λ b. cond b names (names ++ name ∷ [])) has in
    ap (λ ns. place_in ns c.push.new.self n) same
    ∙ ap (λ ps. place_in (names ++ name ∷ []) ps n) c.in_ok-push.ensures.ok
    ∙ more_places names places name c.args.place n c.requires
