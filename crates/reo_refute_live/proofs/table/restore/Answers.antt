use Rattle.std.proofs.Common.{◌≡◌, ◌∙◌, ◌||◌, List, get_or, ap}
use Rattle.std.proofs.lemmas.List.{get_or_default}
use Rattle.reo_joint_values.specs.Values.{value_eq}
use Rattle.reo_refute_live.specs.declared.support.live.LiveAt.{LiveAt}
use Rattle.reo_refute_live.specs.support.Families.{has, none_gone}
use Rattle.reo_refute_live.proofs.TableLemmas.{returned}
use Rattle.reo_refute_live.proofs.table.restore.Goals as goal

pub returns-clause-back : goal.returns-clause-back
returns-clause-back c =
    let table : List LiveAt = c.args.table.now in
    let is : c.at_mut.result.now ≡ get_or table c.args.joint none_gone = c.at_mut.ensures.value ∙ get_or_default table c.args.joint c.at_mut.result.now none_gone c.requires.joint in
    returned table c.args.joint c.requires.joint c.restore_at.new.live c.args.value
    (λ w. c.restore_at.ensures.back w ∙ ap (λ (e : LiveAt). has e w || value_eq w c.args.value) is)
