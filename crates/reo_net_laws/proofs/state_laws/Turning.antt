-- Classes hang on flow, in every round.
use Rattle.std.proofs.Common.{inl, inr, sym, arith}
use Rattle.reo_net_base.specs.Behaviour.{FlowsWithin}
use Rattle.std.proofs.lemmas.Bool.{cases_lt}
use Rattle.reo_net_laws.proofs.Search.{flow_or}
use Rattle.reo_net_laws.specs.state_laws.Turns.{MoreFlowIsNoLater, OneClassStaysOne}

pub no_later : MoreFlowIsNoLater
no_later b lawful side row other turn plain within =
    elim (cases_lt (b.class side other turn) (b.class side row turn)) [
      | inr le ↦ le
      | inl lt ↦
          let both : FlowsWithin b side row other = λ end is flows. elim (flow_or (b.mark side other end)) [
            | inl there ↦ there
            | inr not_there ↦ let less = lawful.more_flow side other row turn plain.of_side plain.plain_other plain.plain_row within end is flows not_there in absurd (omega (arith, lt, less))
          ] in
          let same = lawful.same_class side row other turn plain.of_side plain.plain_row plain.plain_other both within in
          absurd (omega (arith, lt, same))
    ]

pub stays_one : OneClassStaysOne
stays_one b lawful side row other turn later plain same =
    lawful.same_class side row other later plain.of_side plain.plain_row plain.plain_other
    (lawful.same_flow side row other turn plain.of_side plain.plain_row plain.plain_other same)
    (lawful.same_flow side other row turn plain.of_side plain.plain_other plain.plain_row (sym same))
