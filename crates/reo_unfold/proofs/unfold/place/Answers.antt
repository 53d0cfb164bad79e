-- One channel more.
use Rattle.std.proofs.Common.{◌∙◌, ◌++◌, ◌∷◌, [], sym, ap, subst, take}
use Rattle.std.specs.List.{All}
use Rattle.reo_rules.specs.literals.Items.{HasFewNames}
use Rattle.std.specs.Option.{option_copied}
use Rattle.std.proofs.lemmas.List.{append-nil}
use Rattle.reo_rules.specs.Types.{types_of}
use Rattle.reo_rules.specs.Scopes.{node_names}
use Rattle.reo_flat.specs.ChannelKinds.{channel_kind}
use Rattle.reo_unfold.specs.Known.{shape_type}
use Rattle.reo_unfold.proofs.UnfoldLemmas.{few_kindreds}
use Rattle.reo_unfold.proofs.GroundLemmas.{types_before}
use Rattle.reo_unfold.proofs.unfold.place.Goals as goal

pub channel_kind-requires-clause-few : goal.channel_kind-requires-clause-few
channel_kind-requires-clause-few c =
    subst (All HasFewNames) (sym c.requires.frame.ground.types.kindreds) (few_kindreds (types_of c.args.frame.now.declarations.now) c.requires.frame.fit.types)

pub returns : goal.returns
returns c =
    let f = c.args.frame.now in
    let ps = f.connector.now.parameters in
    let rest = node_names f.connector.now.items in
    let front = types_of (take f.stand.place f.declarations.now) in
    let before = types_before f.declarations.now f.number f.connector.now f.stand c.requires.frame.stand in
    let first = c.in_ok-first_at.ensures ps rest c.requires.frame.local.names (sym c.len-parameters.ensures) in
    let second = c.in_ok-second_at.ensures ps rest c.requires.frame.local.names (sym c.len-parameters.ensures) in
    let of = c.shape_of-of.ensures.is front in
    let kind = c.in_ok-channel_kind.ensures (types_of f.declarations.now) c.requires.frame.ground.types
    ∙ (λ i. channel_kind (sym before i) (shape_type (sym before i) (option_copied c.shape_of-of.result)) c.args.channel.now)
    ∙ ap (λ k. channel_kind front k c.args.channel.now) of in
    record {
      nodes_are = sym (append-nil c.args.made.now.nodes);
      kinds_are = c.in_ok-push-2.ensures.ok ∙ ap (λ k. c.args.made.now.kinds ++ k ∷ []) kind;
      ends_are = c.in_ok-push.ensures.ok ∙ ap (λ ns. c.args.made.now.ends ++ ns ∷ []) (c.in_ok-two.ensures ∙ (λ i. first i ∷ second i ∷ []));
    }
