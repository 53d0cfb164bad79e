use Rattle.std.proofs.Common.{◌≡◌, ◌∙◌, map, ap, sym, length, List, String, Global}
use Rattle.std.specs.String.{string_bytes}
use Rattle.std.specs.Vec.Iter.{into_iter_items, into_iter_len}
use Rattle.std.specs.Iterator.Adapters.{skip_source, skip_count}
use Rattle.std.proofs.lemmas.List.{map-id}
use Rattle.std.proofs.lemmas.Iterator.Adapters.{YieldsList-from_vec, YieldsList-from_skip}
use Rattle.std.proofs.lemmas.Iterator.Consumers.{YieldsList-end}
use Rattle.reo_command.proofs.outside.words_behind.Goals as goal

pub returns : goal.returns
returns c =
    let len : into_iter_len c.args.arguments ≡ length (into_iter_items c.args.arguments) = c.args.arguments.rest.ok.0 in
    let source : skip_source c.into_iter-word-iterator.result ≡ c.args.arguments = ap skip_source c.into_iter-word-iterator.ensures.into_iter_gives ∙ c.skip-word-items.ensures.source in
    let count : skip_count c.into_iter-word-iterator.result ≡ 1 = ap skip_count c.into_iter-word-iterator.ensures.into_iter_gives ∙ c.skip-word-items.ensures.count in
    let behind = YieldsList-from_skip {s = c.into_iter-word-iterator.result} 1 (YieldsList-from_vec (into_iter_items c.args.arguments) (ap into_iter_items source) (ap into_iter_len source ∙ len)) count in
    let all = YieldsList-end behind c.loop-word.yielded c.loop-word.word-iterator c.loop-word.yielded_by c.next.result c.next.new.self c.in-None.is c.next.ensures.steps in
    c.loop-word.invariant ∙ ap (λ (xs : List (String Global)). map string_bytes xs) (sym (map-id c.loop-word.yielded) ∙ all.0)
