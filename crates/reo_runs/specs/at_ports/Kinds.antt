-- What is known of the kinds.
use Rattle.reo_kinds.specs.declared.kind.Kind.{Kind}
use Rattle.reo_kinds.specs.Kinds.{behaviour_of, settled_kind, port_state_of, placed_kind, withdrawn_kind}
use Rattle.reo_rounds.specs.Rules.{Rules, rules_of}

abbrev pub kind_rules : Rules Kind
kind_rules = rules_of behaviour_of settled_kind port_state_of placed_kind withdrawn_kind
