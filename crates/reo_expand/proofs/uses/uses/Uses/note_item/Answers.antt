use Rattle.std.proofs.Common.{◌∙◌, ap, sym}
use Rattle.std.specs.Prelude.{bytes_eq, ◌||◌}
use Rattle.reo_trees.specs.declared.items.ItemForm.{ItemForm}
use Rattle.reo_rules.specs.Lists.{has_name}
use Rattle.reo_expand.specs.base.Expansion.{is_use_of}
use Rattle.reo_expand.proofs.uses.Noting.{has-with}
use Rattle.reo_expand.proofs.uses.uses.Uses.note_item.Goals as goal

pub returns-in_ok-note-in-Used : goal.returns-in_ok-note-in-Used
returns-in_ok-note-in-Used c n =
    let names = c.args.self.now.names in
    ap (λ ns. has_name ns n) c.in_ok-note-in-Used.ensures.names
    ∙ has-with names c.as_slice.result.now n
    ∙ ap (λ b. has_name names n || bytes_eq n b) c.as_slice.ensures
    ∙ ap (λ (f : ItemForm). has_name names n || is_use_of n f) (sym c.in-Used.is)
