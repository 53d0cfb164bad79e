-- Buffers over several rounds running.
use Rattle.std.proofs.Common.{◌≡◌, ◌++◌, List, [], ◌∷◌, refl, sym, ap, ◌∙◌, append-nil, append_assoc}
use Rattle.reo_values.specs.declared.value.Value.{Value}
use Rattle.reo_buffers.specs.Stored.{Stored, IsBuffer}
use Rattle.reo_kinds.specs.declared.kind.Kind.{Kind}
use Rattle.reo_kinds_laws.specs.Runs.{Round, IsInOrder, after_all, FirstInFirstOut}
use Rattle.reo_kinds_laws.proofs.Keeping.{buffers_kept}

-- Two pieces in order are in order.
joined : (given rest last held came later middle : List Value) → given ++ middle ≡ held ++ came → rest ++ last ≡ middle ++ later
    → (given ++ rest) ++ last ≡ held ++ (came ++ later)
joined given rest last held came later middle first second =
    append_assoc given rest last ∙ ap (λ (l : List Value). given ++ l) second ∙ sym (append_assoc given middle later)
    ∙ ap (λ (l : List Value). l ++ later) first ∙ append_assoc held came later

in_order : (rounds : List Round) (buffer : Stored) → IsBuffer buffer → IsInOrder buffer rounds
in_order [] buffer b = record { later = buffer; is_left = refl; in_order = sym (append-nil buffer.items) }
in_order (round ∷ rounds) buffer b =
    let one = buffers_kept buffer round.0 round.1 b in
    let more = in_order rounds one.later one.is_buffer in
    record {
      later = more.later;
      is_left = ap (λ (k : Kind). after_all k rounds) one.is_left ∙ more.is_left;
      in_order = rw one.is_left (joined _ _ _ _ _ _ one.later.items one.in_order more.in_order);
    }

pub ran : FirstInFirstOut
ran buffer rounds b = in_order rounds buffer b
