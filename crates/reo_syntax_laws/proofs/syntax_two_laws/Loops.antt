-- Items, loops among them, are printed so that their text says them.
use Rattle.std.proofs.Common.{◌≡◌, ℕ, true, List, [], ◌∷◌, ◌++◌, map, refl, sym, ◌∙◌, ap, subst, append_assoc, codes}
use Rattle.std.proofs.lemmas.Bool.{and_parts, and_from}
use Rattle.std.specs.List.{list_all}
use Rattle.reo_grammar.specs.Tokens.{Lexeme}
use Rattle.reo_grammar.specs.Grammar.{line_of}
use Rattle.reo_grammar.specs.Grammar.Grammar.{rule}
use Rattle.reo_lexer.specs.Gaps.{is_space}
use Rattle.reo_trees.specs.declared.indexes.Index.{Index}
use Rattle.reo_trees.specs.declared.items_two.ItemTwo.{ItemTwo}
use Rattle.reo_trees.specs.declared.items_two.FormTwo.{FormTwo}
use Rattle.reo_trees.specs.declared.items_two.FormTwo.TheVariants as forms
use Rattle.reo_trees.specs.Forms.{FormOf}
use Rattle.reo_trees.specs.Forms.Rule.{looped_rule}
use Rattle.reo_trees.specs.ItemsTwo.{looped_items, loop_form, some_looped, looped_form, some_item_two, item_two, items_two}
use Rattle.reo_syntax_laws.proofs.Again.{Out, out-both, out-more, out-first, out-left, out-right, out-lined, out-nothing, out-rule, out-text, out-word, out-gap, out-behind}
use Rattle.reo_syntax.proofs.Cuts.{brace-cut}
use Rattle.reo_syntax_laws.proofs.Seen.{World, See, see-then, see-both, see-made, see-either, see-lined, see-rule, see-word, see-token, see-chain, see-nothing}
use Rattle.reo_syntax.proofs.Lists.{flat-snoc, map-snoc}
use Rattle.reo_syntax.proofs.Items.{apart-name}
use Rattle.reo_syntax.specs.two.IndexText.{index_text}
use Rattle.reo_syntax.specs.two.ItemText.{line_text, lines_text}
use Rattle.reo_syntax.proofs.two.Unfold.{text_loop}
use Rattle.reo_syntax_laws.specs.syntax_two_laws.Unlined.{bare_item}
use Rattle.reo_syntax_laws.proofs.syntax_two_laws.Starts.{out-named, see-named}
use Rattle.reo_syntax_laws.proofs.syntax_two_laws.Indexes.{see-index}
use Rattle.reo_syntax_laws.proofs.syntax_two_laws.Unfold.{bare-loop}
use Rattle.reo_syntax_laws.proofs.syntax_two_laws.Items.{SameForm, Printed, see-node, see-plain, see-fifo1, see-fifo, see-filter, see-map, see-use, see-shift, see-variable, see-quota}
use Rattle.reo_syntax_laws.proofs.syntax_two_laws.Claims.{SameItem, PrintedItem, ClaimTwo, FitTwo}

spaces-more : (indent : List ℕ) → list_all is_space indent ≡ true → list_all is_space (indent ++ codes "  ") ≡ true
spaces-more [] h = refl
spaces-more (b ∷ indent) h = and_from (is_space b) (list_all is_space (indent ++ codes "  ")) ((and_parts (is_space b) (list_all is_space indent) h).0)
    (spaces-more indent ((and_parts (is_space b) (list_all is_space indent) h).1))

abbrev pub SameItems : List ItemTwo → List ItemTwo → Type 0
SameItems x y = map bare_item x ≡ map bare_item y

-- Items on lines of their own, behind any indent.
abbrev pub PrintedLines : FormOf (List ItemTwo) → List Lexeme → List ItemTwo → Type 0
PrintedLines g ts xs = (indent : List ℕ) → list_all is_space indent ≡ true → (r : List ℕ) → Out g (lines_text indent xs) ts r (SameItems xs)

see-looped : {w : World} → FitTwo w → See w (rule looped_rule) (PrintedItem (rule looped_rule))
see-looped f = see-rule (λ a x h. subst (λ (P : List Lexeme → ItemTwo → Type 0). P a x) f.loops h)

see-looped-items : {w : World} → FitTwo w → See w looped_items (PrintedLines looped_items)
see-looped-items f = see-chain (see-nothing (λ indent s r. out-first (out-nothing [] r (SameItems []) refl))) (λ a xs p. see-then (see-looped f) (λ b x o indent s r.
    out-text (sym (flat-snoc (line_text indent) xs x)) (out-more (SameItems (xs ++ x ∷ [])) (p indent s (line_text indent x ++ r))
    (out-gap indent s (out-behind (codes "\n") refl (o indent s (codes "\n" ++ r) refl))) (λ ys y e i. map-snoc bare_item xs ys x y e i))))

-- A loop's text by the parts of its form.
pub loop-text : (a b c d e : List ℕ) → (a ++ (b ++ (c ++ d))) ++ e ≡ a ++ (b ++ (c ++ (d ++ e)))
loop-text a b c d e = append_assoc a (b ++ (c ++ d)) e ∙ ap (λ z. a ++ z) (append_assoc b (c ++ d) e ∙ ap (λ z. b ++ z) (append_assoc c d e))

same-loop : (v u : List ℕ) (low high l h : Index) (xs ys : List ItemTwo) → v ≡ u → low ≡ l → high ≡ h → SameItems xs ys → SameForm (forms.Loop v low high xs) (forms.Loop u l h ys)
same-loop v u low high l h xs ys e i j k =
    bare-loop v low high xs ∙ ap (λ n. forms.Loop n low high (map bare_item xs)) e ∙ ap (λ n. forms.Loop u n high (map bare_item xs)) i
    ∙ ap (λ n. forms.Loop u l n (map bare_item xs)) j ∙ ap (λ n. forms.Loop u l h n) k ∙ sym (bare-loop u l h ys)

abbrev SameIndex : Index → Index → Type 0
SameIndex x y = x ≡ y

see-loop : {w : World} → FitTwo w → See w loop_form (Printed loop_form)
see-loop f = see-both (see-named (λ t m q. see-both (see-both (see-made (see-token (λ u n p. see-word (λ c1 g1. see-both (see-both (see-then see-index (λ a1 low o1. see-word (λ c2 g2.
    see-both (see-both (see-then see-index (λ a2 high o2. see-word (λ c3 g3. see-both (see-then (see-looped-items f) (λ a3 xs o3. see-word (λ c4 g4 indent s r h.
    let S : FormTwo → Type 0 = SameForm (forms.Loop u.bytes low high xs) in
    let end_text : List ℕ = lines_text (indent ++ codes "  ") xs ++ (indent ++ codes "}") in
    out-text (sym (text_loop indent u.bytes low high xs ∙ loop-text (codes "for ") (u.bytes ++ codes " = ") (index_text low ++ codes " to ") (index_text high ++ codes " {\n") end_text))
    (out-both S (out-named (codes "for") (codes " ") t (((u.bytes ++ codes " = ") ++ ((index_text low ++ codes " to ") ++ ((index_text high ++ codes " {\n") ++ end_text))) ++ r) m q refl refl)
    (out-both S
    (out-both (λ y. u.bytes ≡ y) (apart-name u (codes " = " ++ (((index_text low ++ codes " to ") ++ ((index_text high ++ codes " {\n") ++ end_text)) ++ r)) n p refl)
    (out-gap (codes " ") refl (out-word (codes "=") (codes " ") c1 _ g1 refl refl)) (λ y z e i. e))
    (out-both (λ (g : List ℕ → FormTwo). (v : List ℕ) → u.bytes ≡ v → S (g v))
    (out-both (SameIndex low) (o1.out (codes " to " ++ (((index_text high ++ codes " {\n") ++ end_text) ++ r)) refl)
    (out-gap (codes " ") refl (out-word (codes "to") (codes " ") c2 _ g2 refl refl)) (λ y z e i. e))
    (out-both (λ (g : Index → List ℕ → FormTwo). (l : Index) (v : List ℕ) → low ≡ l → u.bytes ≡ v → S (g l v))
    (out-both (SameIndex high) (o2.out (codes " {\n" ++ (end_text ++ r)) refl) (out-gap (codes " ") refl (out-word (codes "{") (codes "\n") c3 _ g3 refl refl)) (λ y z e i. e))
    (out-both (SameItems xs) (o3 (indent ++ codes "  ") (spaces-more indent s) ((indent ++ codes "}") ++ r)) (out-gap indent s (out-word (codes "}") [] c4 r g4 refl (brace-cut r))) (λ y z e i. e))
    (λ y ys e i l v j k. same-loop u.bytes v low high l y xs ys k j e i))
    (λ l g e k v j. k l v e j)) (λ v g e k. k v e)) (λ y z e i. i))))))))))))))))))))

see-some : {w : World} → FitTwo w → See w some_looped (Printed some_looped)
see-some f =
    see-either (see-then see-plain (λ ts x o n s r h. out-left (o n s r h)))
    (see-either (see-then (see-fifo1 f.first.literals) (λ ts x o n s r h. out-right (out-left (o n s r h))))
    (see-either (see-then (see-fifo f.first.literals) (λ ts x o n s r h. out-right (out-right (out-left (o n s r h)))))
    (see-either (see-then (see-filter f.first.terms) (λ ts x o n s r h. out-right (out-right (out-right (out-left (o n s r h))))))
    (see-either (see-then (see-map f.first.terms) (λ ts x o n s r h. out-right (out-right (out-right (out-right (out-left (o n s r h)))))))
    (see-either (see-then see-use (λ ts x o n s r h. out-right (out-right (out-right (out-right (out-right (out-left (o n s r h))))))))
    (see-either (see-then (see-shift f.first.literals) (λ ts x o n s r h. out-right (out-right (out-right (out-right (out-right (out-right (out-left (o n s r h)))))))))
    (see-either (see-then (see-variable f.first.literals) (λ ts x o n s r h. out-right (out-right (out-right (out-right (out-right (out-right (out-right (out-left (o n s r h))))))))))
    (see-either (see-then see-quota (λ ts x o n s r h. out-right (out-right (out-right (out-right (out-right (out-right (out-right (out-right (out-left (o n s r h)))))))))))
    (see-then (see-loop f) (λ ts x o n s r h. out-right (out-right (out-right (out-right (out-right (out-right (out-right (out-right (out-right (o n s r h)))))))))))))))))))

-- The rule of what stands in loops.
pub see-looped-rule : {w : World} → FitTwo w → See w looped_form (ClaimTwo looped_rule)
see-looped-rule f = see-lined (see-then (see-some f) (λ ts x o n s r h.
    out-rule looped_rule (out-lined (SameItem (record { line = line_of ts; form = x })) (o n s r h) (λ l y e. ap (λ (z : FormTwo). record { line = 0; form = z }) e))))

see-some-item : {w : World} → FitTwo w → See w some_item_two (Printed some_item_two)
see-some-item f = see-either (see-then (see-node f.first.types) (λ ts x o n s r h. out-left (o n s r h))) (see-then (see-some f) (λ ts x o n s r h. out-right (o n s r h)))

see-item : {w : World} → FitTwo w → See w item_two (PrintedItem item_two)
see-item f = see-lined (see-then (see-some-item f) (λ ts x o n s r h.
    out-lined (SameItem (record { line = line_of ts; form = x })) (o n s r h) (λ l y e. ap (λ (z : FormTwo). record { line = 0; form = z }) e)))

pub see-items : {w : World} → FitTwo w → See w items_two (PrintedLines items_two)
see-items f = see-chain (see-nothing (λ indent s r. out-first (out-nothing [] r (SameItems []) refl))) (λ a xs p. see-then (see-item f) (λ b x o indent s r.
    out-text (sym (flat-snoc (line_text indent) xs x)) (out-more (SameItems (xs ++ x ∷ [])) (p indent s (line_text indent x ++ r))
    (out-gap indent s (out-behind (codes "\n") refl (o indent s (codes "\n" ++ r) refl))) (λ ys y e i. map-snoc bare_item xs ys x y e i))))
