-- The lines of a circuit, one more.
use Rattle.std.proofs.Common.{arith, ◌≡◌, ◌∙◌, ℕ, ◌+◌, ◌<◌, zero, suc, List, [], ◌∷◌, ◌++◌, length, get_or, take, sym, ap}
use Rattle.std.proofs.lemmas.List.{append-nil, append_assoc}
use Rattle.reo_values.proofs.Sequences.{any_default}
use Rattle.reo_net_base.specs.declared.joint.Joint.{Joint}
use Rattle.reo_kinds.specs.declared.kind.Kind.{Kind}
use Rattle.reo_top.specs.inventory.Ends.{AreHomes}
use Rattle.reo_top.specs.inventory.Parts.{line_of, name_of, lines_from}

pub lines_more : (joints : List Joint) (homes : List ℕ) (names : List (List ℕ)) (i n : ℕ) (kinds : List Kind) (kind : Kind) → n < length kinds → kind ≡ get_or kinds n kind
    → lines_from joints homes names i (take (suc n) kinds) ≡ lines_from joints homes names i (take n kinds) ++ line_of (i + n) kind (name_of joints homes names (i + n) 0) (name_of joints homes names (i + n) 1)
lines_more joints homes names i n [] kind below at = absurd (omega arith)
lines_more joints homes names i zero (k ∷ ks) kind below at =
    let same : i ≡ i + 0 = omega arith in
    append-nil (line_of i k (name_of joints homes names i 0) (name_of joints homes names i 1))
    ∙ ap (λ m. line_of m k (name_of joints homes names m 0) (name_of joints homes names m 1)) same ∙ ap (λ (c : Kind). line_of (i + 0) c (name_of joints homes names (i + 0) 0) (name_of joints homes names (i + 0) 1)) (sym at)
lines_more joints homes names i (suc n) (k ∷ ks) kind below at =
    let here = line_of i k (name_of joints homes names i 0) (name_of joints homes names i 1) in
    let same : suc i + n ≡ i + suc n = omega arith in
    ap (λ ls. here ++ ls) (lines_more joints homes names (suc i) n ks kind (omega arith) at)
    ∙ sym (append_assoc here (lines_from joints homes names (suc i) (take n ks)) _)
    ∙ ap (λ m. (here ++ lines_from joints homes names (suc i) (take n ks)) ++ line_of m kind (name_of joints homes names m 0) (name_of joints homes names m 1)) same

-- The name of the node that is any_default for an end.
name_read : (joints : List Joint) (homes : List ℕ) (names : List (List ℕ)) (count number : ℕ) (found : List ℕ) (n f : ℕ) (a : List ℕ) → AreHomes joints homes count number found → n < count
    → f ≡ get_or found n f → a ≡ get_or names f [] → a ≡ name_of joints homes names n number
name_read joints homes names count number found n f a are below is named =
    let long = are.one_each in
    named ∙ ap (λ h. get_or names h []) (is ∙ any_default found n f 0 (omega arith) ∙ are.home n below)

pub line_added : (joints : List Joint) (homes : List ℕ) (names : List (List ℕ)) (kinds : List Kind) (first second : List ℕ) (n f s : ℕ) (kind : Kind) (a b before after : List ℕ)
    → AreHomes joints homes (length kinds) 0 first → AreHomes joints homes (length kinds) 1 second → n < length kinds → kind ≡ get_or kinds n kind
    → f ≡ get_or first n f → s ≡ get_or second n s → a ≡ get_or names f [] → b ≡ get_or names s []
    → before ≡ lines_from joints homes names 0 (take n kinds) → after ≡ before ++ line_of n kind a b → after ≡ lines_from joints homes names 0 (take (n + 1) kinds)
line_added joints homes names kinds first second n f s kind a b before after one two below at first_is second_is first_named second_named so_far added =
    let x = name_read joints homes names (length kinds) 0 first n f a one below first_is first_named in
    let y = name_read joints homes names (length kinds) 1 second n s b two below second_is second_named in
    let more : suc n ≡ n + 1 = omega arith in
    let none : n ≡ 0 + n = omega arith in
    added ∙ (λ i. so_far i ++ line_of n kind (x i) (y i))
    ∙ ap (λ m. lines_from joints homes names 0 (take n kinds) ++ line_of m kind (name_of joints homes names m 0) (name_of joints homes names m 1)) none
    ∙ sym (lines_more joints homes names 0 n kinds kind below at) ∙ ap (λ m. lines_from joints homes names 0 (take m kinds)) more
