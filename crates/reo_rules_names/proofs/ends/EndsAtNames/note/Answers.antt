-- The names of the end's way have one more, and the others stay.
use Rattle.std.proofs.Common.{[], ◌∷◌, ◌++◌, sym, subst}
use Rattle.reo_rules.specs.Touches.{touch}
use Rattle.reo_rules_names.specs.EndsAtNames.{AreEnds}
use Rattle.reo_rules_names.proofs.EndLemmas.{source_noted, sink_noted}
use Rattle.reo_rules_names.proofs.ends.EndsAtNames.note.Goals as goal

pub returns-in_ok-note : goal.returns-in_ok-note
returns-in_ok-note c touches are =
    let t = c.args.self.now in
    subst (λ way. AreEnds (touches ++ touch c.args.name.now way ∷ []) (record { sources = c.note.new.self; sinks = t.sinks })) (sym c.if-is_source.true)
    (source_noted t touches c.args.name.now c.note.new.self are c.in_ok-note.ensures.names)

pub returns-in_ok-note-2 : goal.returns-in_ok-note-2
returns-in_ok-note-2 c touches are =
    let t = c.args.self.now in
    let names = c.note-else-is_source.new.self in
    subst (λ way. AreEnds (touches ++ touch c.args.name.now way ∷ []) (record { sources = t.sources; sinks = names })) (sym c.if-is_source.false)
    (sink_noted t touches c.args.name.now names are c.in_ok-note-2.ensures.names)
