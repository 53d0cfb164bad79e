-- By the declaration.
use Rattle.std.proofs.Common.{arith, ◌≡◌, ◌∙◌, ◌++◌, ◌∷◌, [], length, take, refl, sym, ap, subst}
use Rattle.std.proofs.lemmas.List.{length-take-le, length-map}
use Rattle.reo_rules.specs.Lists.{has_name}
use Rattle.reo_rules.specs.Types.{types_of}
use Rattle.reo_rules.specs.Twice.{twice_in}
use Rattle.reo_rules.proofs.Declared.{names_of-types}
use Rattle.reo_flat.specs.Unfolding.{Meaning, meanings_of}
use Rattle.reo_unfold.specs.declared.ground.Ground.{Ground}
use Rattle.reo_unfold.specs.Ground.{IsGround}
use Rattle.reo_unfold.proofs.ListLemmas.{each_none, take_next}
use Rattle.reo_unfold.proofs.GroundLemmas.{new_type, new_connector, ground_named, ground_made}
use Rattle.reo_unfold.proofs.ground.Ground.declare.Goals as goal

pub declare-requires : goal.declare-requires
declare-requires c =
    let before = take c.args.place c.args.declarations.now in
    let none = ap (twice_in before) (sym c.in-Named.is) ∙ each_none twice_in [] c.args.declarations.now c.args.place c.index-declarations-place.result c.requires.place c.index-declarations-place.is c.requires.once in
    ap (λ ns. has_name ns c.in-Named.name) (c.requires.ground.types.names ∙ names_of-types before) ∙ new_type before c.in-Named.line c.in-Named.name c.in-Named.term none

pub make-requires : goal.make-requires
make-requires c =
    let before = take c.args.place c.args.declarations.now in
    let none = ap (twice_in before) (sym c.in-Made.is) ∙ each_none twice_in [] c.args.declarations.now c.args.place c.index-declarations-place.result c.requires.place c.index-declarations-place.is c.requires.once in
    record {
      new = ap (λ ns. has_name ns c.in-Made.connector.name) c.requires.ground.names ∙ new_connector before c.in-Made.connector none;
      even = c.requires.ground.sizes.one_each ∙ sym (ap length c.requires.ground.sizes.names_are ∙ length-map (meanings_of before) (λ (m : Meaning). m.name));
    }

pub returns-in_ok-declare-in-Named : goal.returns-in_ok-declare-in-Named
returns-in_ok-declare-in-Named c =
    let before = take c.args.place c.args.declarations.now in
    let more = take_next c.args.declarations.now c.args.place c.index-declarations-place.result c.requires.place c.index-declarations-place.is ∙ ap (λ d. before ++ d ∷ []) c.in-Named.is in
    let made : Ground = record { types = c.declare.new.self; connectors = c.args.self.now.connectors; stands = c.args.self.now.stands; sizes = c.args.self.now.sizes } in
    subst (λ ds. IsGround ds made) (sym more)
    (ground_named before c.in-Named.line c.in-Named.name c.in-Named.term c.args.self.now made c.requires.ground (c.in_ok-declare-in-Named.ensures (types_of before) c.requires.ground.types) refl refl refl)

pub returns-in_ok-make-in-Made : goal.returns-in_ok-make-in-Made
returns-in_ok-make-in-Made c =
    let before = take c.args.place c.args.declarations.now in
    let more = take_next c.args.declarations.now c.args.place c.index-declarations-place.result c.requires.place c.index-declarations-place.is ∙ ap (λ d. before ++ d ∷ []) c.in-Made.is in
    let within = c.requires.place in
    let long : length before ≡ c.args.place = length-take-le c.args.place c.args.declarations.now (omega arith) in
    subst (λ ds. IsGround ds c.make.new.self) (sym more)
    (ground_made before c.in-Made.connector c.args.self.now c.make.new.self c.requires.ground c.in_ok-make-in-Made.ensures.types c.in_ok-make-in-Made.ensures.names
    (c.in_ok-make-in-Made.ensures.stands ∙ ap (λ n. c.args.self.now.stands ++ record { place = n; types = length c.args.self.now.types.kindreds } ∷ []) (sym long))
    (c.in_ok-make-in-Made.ensures.sizes (meanings_of before) c.requires.ground.sizes))
