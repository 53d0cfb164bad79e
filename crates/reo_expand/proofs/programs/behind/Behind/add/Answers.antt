use Rattle.std.proofs.Common.{◌∙◌, ◌++◌, ap}
use Rattle.std.specs.Prelude.{◌||◌}
use Rattle.reo_rules.specs.Lists.{has_name}
use Rattle.reo_expand.specs.base.Expansion.{has_use, connectors_of}
use Rattle.reo_expand.specs.base.Steps.{IsUnexpanded}
use Rattle.reo_expand.proofs.base.Walking.{passed}
use Rattle.reo_expand.proofs.programs.OneMore.{walked_more, stopped_more, uses_more, made_more}
use Rattle.reo_expand.proofs.programs.behind.Behind.add.Goals as goal

pub returns-in_err-next : goal.returns-in_err-next
returns-in_err-next c =
    let ds = c.args.declarations.now in
    let d = c.in_err-next.field-0.0 in
    passed _ (IsUnexpanded (record { declarations = ds })) c.from_residual.result d c.from_residual.ensures
    (stopped_more ds c.args.place c.index-declarations-place.result c.requires.place c.index-declarations-place.is
    c.args.self.now.uses.names c.args.self.now.walk.count c.requires.behind.uses c.requires.behind.walked_to d c.in_err-next.ensures.walked)

pub returns : goal.returns
returns c =
    let ds = c.args.declarations.now in
    let p = c.args.place in
    let d = c.index-declarations-place.result in
    let is = c.index-declarations-place.is in
    let names = c.args.self.now.uses.names in
    let m = c.args.self.now.walk.count in
    let known = c.requires.behind.uses in
    let at = c.requires.behind.walked_to in
    let next = c.in_ok-next.next in
    let made = c.in_ok-next.ensures.made in
    record {
      walked_to = walked_more ds p d c.requires.place is names m known at c.declared.new.walk.count c.in_ok-next.ensures.walked;
      uses = λ n. uses_more ds p d c.requires.place is names m known at next n (has_name c.note.new.uses.names n) made
          (c.in_ok-note.ensures n ∙ ap (λ l. has_name names n || has_use (connectors_of l) n) c.as_slice.ensures);
      made = made_more ds p d c.requires.place is names m known at next c.args.self.now.made c.append.new.self made c.requires.behind.made
          (c.in_ok-append.ensures.ok ∙ ap (λ l. c.args.self.now.made ++ l) c.turned.ensures);
      small = c.declared.ensures.small;
    }
