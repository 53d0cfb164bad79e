use Rattle.std.proofs.Common.{◌≡◌, ◌∙◌, ℕ, List, ◌++◌, Result, Ok, Err, OnOk, ap, append_assoc, codes}
use Rattle.std.specs.Fmt.{decimal}
use Rattle.reo_top.specs.inventory.Parts.{count_line}
use Rattle.reo_top.proofs.inventory.text.append_counts.Goals as goal

then : {A E : Type 0} (r : Result A E) (P Q : Type 0) → (P → Q) → OnOk r P → OnOk r Q
then (Ok x) P Q f h = f h
then (Err e) P Q f h = tt

five : (t a b c d e : List ℕ) → ((((t ++ a) ++ b) ++ c) ++ d) ++ e ≡ t ++ ((((a ++ b) ++ c) ++ d) ++ e)
five t a b c d e =
    ap (λ l. ((l ++ c) ++ d) ++ e) (append_assoc t a b) ∙ ap (λ l. (l ++ d) ++ e) (append_assoc t (a ++ b) c) ∙ ap (λ l. l ++ e) (append_assoc t ((a ++ b) ++ c) d)
    ∙ append_assoc t (((a ++ b) ++ c) ++ d) e

pub returns : goal.returns
unfolding count_line
returns c =
    let a = codes "accepted: " in
    let b = decimal c.args.primitives in
    let k = codes " primitives, " in
    let d = decimal c.args.joints in
    let e = codes " joints\n" in
    then c.append-3.result _ _ (λ last. last ∙ ap (λ t. t ++ e) c.in_ok-append_decimal-2.ensures.ok ∙ ap (λ t. (t ++ d) ++ e) c.in_ok-append-2.ensures.ok
    ∙ ap (λ t. ((t ++ k) ++ d) ++ e) c.in_ok-append_decimal.ensures.ok ∙ ap (λ t. (((t ++ b) ++ k) ++ d) ++ e) c.in_ok-append.ensures.ok ∙ five c.args.text.now a b k d e) c.append-3.ensures.ok
