-- By the channel.
use Rattle.std.proofs.Common.{◌≡◌, ◌∙◌, IfOk, sym, ap, subst, take}
use Rattle.std.specs.Option.{option_copied}
use Rattle.reo_kinds.specs.declared.kind.Kind.{Kind}
use Rattle.reo_flat.specs.ChannelKinds.{filter_kind, map_kind, channel_kind}
use Rattle.reo_unfold.specs.Known.{shape_type}
use Rattle.reo_unfold.proofs.kinds.channel_kind.Goals as goal

pub returns-in_ok-node_type-in-Filter : goal.returns-in_ok-node_type-in-Filter
returns-in_ok-node_type-in-Filter c ts are =
    subst (λ v. IfOk c.filter.result (λ (k : Kind). k ≡ v))
    ((λ i. filter_kind (c.in_ok-node_type-in-Filter.ensures.is ts are i) ((sym c.in-Some.is ∙ c.in_ok-expr-in-Filter.ensures ts are) i))
    ∙ ap (channel_kind (take c.args.known ts) (shape_type (take c.args.known ts) (option_copied c.args.of))) (sym c.in-Filter.is))
    c.filter.ensures

pub returns-in_ok-node_type-in-Map : goal.returns-in_ok-node_type-in-Map
returns-in_ok-node_type-in-Map c ts are =
    subst (λ v. IfOk c.map.result (λ (k : Kind). k ≡ v))
    ((λ i. map_kind (c.in_ok-node_type-in-Map.ensures.is ts are i) ((sym c.in-Some-2.is ∙ c.in_ok-expr-in-Map.ensures ts are) i))
    ∙ ap (channel_kind (take c.args.known ts) (shape_type (take c.args.known ts) (option_copied c.args.of))) (sym c.in-Map.is))
    c.map.ensures
