-- Items that are no loops are printed so that their text says them.
use Rattle.std.proofs.Common.{◌≡◌, ℕ, true, Option, Some, None, List, [], ◌∷◌, ◌++◌, map, refl, sym, ◌∙◌, ap, append_assoc, append-nil, codes}
use Rattle.std.specs.List.{list_all}
use Rattle.std.specs.Fmt.{decimal}
use Rattle.reo_grammar.specs.declared.kind.TokenKind.TheVariants as kinds
use Rattle.reo_grammar.specs.Tokens.{Lexeme, matches, number_from}
use Rattle.reo_grammar.specs.Tokens.Class.{fixed}
use Rattle.reo_grammar.specs.Grammar.Grammar.{both, rule}
use Rattle.reo_lexer.specs.Gaps.{is_space}
use Rattle.reo_lexer.proofs.Cut.{is_cut}
use Rattle.reo_trees.specs.declared.literals.Literal.{Literal}
use Rattle.reo_trees.specs.declared.terms.Term.{Term}
use Rattle.reo_trees.specs.declared.terms.TermForm.{TermForm}
use Rattle.reo_trees.specs.declared.types.TypeTerm.{TypeTerm}
use Rattle.reo_trees.specs.declared.items.Channel.{Channel}
use Rattle.reo_trees.specs.declared.items.Channel.TheVariants as channels
use Rattle.reo_trees.specs.declared.indexes.Index.{Index}
use Rattle.reo_trees.specs.declared.indexes.Ref.{Ref}
use Rattle.reo_trees.specs.declared.items_two.FormTwo.{FormTwo}
use Rattle.reo_trees.specs.declared.items_two.FormTwo.TheVariants as forms
use Rattle.reo_trees.specs.Forms.{FormOf, word, named_word, ◌▸◌, ◌◂◌}
use Rattle.reo_trees.specs.Forms.Rule.{type_rule, literal_rule, term_rule}
use Rattle.reo_trees.specs.Channels.{plain_between, one_between, sized_between, fifo1_between, fifo_between, filter_between, map_between}
use Rattle.reo_trees.specs.Indexes.{most_place, ref_form}
use Rattle.reo_trees.specs.ItemsTwo.{join_two, size_form, node_two, number_two, arguments_two, use_two, shift_two, variable_two, quota_two}
use Rattle.reo_syntax.specs.Spread.{spread}
use Rattle.reo_syntax.specs.TypeText.{type_text}
use Rattle.reo_syntax.specs.TermText.{term_text}
use Rattle.reo_syntax.specs.ItemText.{channel_head, channel_tail, held_text}
use Rattle.reo_syntax.specs.Unlined.{bare_type, bare_literal, bare_term, bare_held, bare_channel}
use Rattle.reo_syntax.proofs.Row.{is_apart, apart-cut}
use Rattle.reo_syntax_laws.proofs.Again.{Out, out-both, out-left, out-right, out-made, out-nothing, out-text, out-word, out-word-as, out-name, out-gap, out-behind}
use Rattle.reo_syntax.proofs.Decimals.{out-number}
use Rattle.reo_syntax.proofs.Cuts.{open-cut, close-cut}
use Rattle.reo_syntax.proofs.Claims.{Again, SameType, SameTerm, Claim}
use Rattle.reo_syntax_laws.proofs.Seen.{World, See, see-then, see-both, see-made, see-either, see-word, see-word-as, see-token, see-nothing}
use Rattle.reo_syntax.proofs.Types.{see-type}
use Rattle.reo_syntax.proofs.Atoms.{see-term}
use Rattle.reo_syntax.proofs.Levels.{term-out}
use Rattle.reo_syntax.proofs.Items.{the-end, Plain, held_one, SameHeld, see-held, SameList, see-list}
use Rattle.reo_syntax.specs.two.IndexText.{index_text, ref_text}
use Rattle.reo_syntax.specs.two.ItemText.{size_text, number_text, form_text}
use Rattle.reo_syntax_laws.specs.syntax_two_laws.Unlined.{bare_form}
use Rattle.reo_syntax_laws.proofs.syntax_two_laws.Starts.{starts-append, less-cut, out-named, see-named}
use Rattle.reo_syntax_laws.proofs.syntax_two_laws.Indexes.{see-index, SameRef, see-ref, SameRefs, see-refs}

abbrev pub SameForm : FormTwo → FormTwo → Type 0
SameForm x y = bare_form x ≡ bare_form y

-- Behind any indent the text of an item is one of the form again, with the same item.
abbrev pub Printed : FormOf FormTwo → List Lexeme → FormTwo → Type 0
Printed g ts x = (indent : List ℕ) → list_all is_space indent ≡ true → Again g (form_text indent) SameForm ts x

abbrev SamePlace : Option Index → Option Index → Type 0
SamePlace x y = x ≡ y

see-size : {w : World} → See w size_form (Again size_form size_text SamePlace)
see-size = see-either (see-made (see-both (see-word (λ t m. see-both (see-word (λ u n. see-both (see-then see-index (λ a i o. see-word (λ c p r h.
    let S : Index → Type 0 = λ y. i ≡ y in
    out-left (out-made (SamePlace (Some i)) (out-both S (out-word (codes ".") [] t _ m refl refl) (out-both S (out-word (codes "(") [] u _ n refl (open-cut _))
    (out-both S (o.out (codes ")" ++ r) refl) (out-word (codes ")") [] c r p refl (close-cut r)) (λ y z e j. e)) (λ y z e j. j)) (λ y z e j. j)) (λ y e. ap Some e)))))))))))
    (see-nothing (λ r h. out-right (out-nothing None r (SamePlace None) refl)))

-- What stands behind a name, where an index may stand between them.
size-cut : (b : List ℕ) (s : Option Index) (l r : List ℕ) → is_cut kinds.Name b ((size_text s ++ codes ": ") ++ l ++ r) ≡ true
size-cut b None l r = refl
size-cut b (Some i) l r = refl

pub see-node : {w : World} → w.Holds type_rule ≡ Claim type_rule → See w node_two (Printed node_two)
see-node k = see-both (see-word (λ t m. see-both (see-made (see-token (λ u p q. see-both (see-both (see-then see-size (λ a s z. see-word (λ v n. see-both (see-then (see-type k) (λ b x o. see-word (λ d f indent j r h.
    let S : FormTwo → Type 0 = SameForm (forms.Node u.bytes s x) in
    out-both S (out-word (codes "node") (codes " ") t _ m refl refl)
    (out-both S (out-text (append-nil u.bytes) (out-name u [] _ p q refl (size-cut u.bytes s (type_text x ++ codes ";") r)))
    (out-both (λ (g : List ℕ → FormTwo). (l : List ℕ) → u.bytes ≡ l → S (g l))
    (out-both (SamePlace s) (z (codes ": " ++ ((type_text x ++ codes ";") ++ r)) refl) (out-word (codes ":") (codes " ") v _ n refl refl) (λ y z e i. e))
    (out-both (SameType x) (o (codes ";" ++ r) refl) (the-end d r f) (λ y z e i. e))
    (λ y z e i l c. ap (λ b. forms.Node b s (bare_type x)) c ∙ ap (λ (b : Option Index). forms.Node l b (bare_type x)) e ∙ ap (λ (b : TypeTerm). forms.Node l y b) i))
    (λ l g e c. c l e)) (λ y z e i. i)))))))))))))

see-number : {w : World} → See w number_two (Again number_two number_text SamePlace)
see-number = see-either (see-made (see-both (see-word (λ t m. see-both (see-then see-index (λ a i o. see-word (λ c p r h.
    let S : Index → Type 0 = λ y. i ≡ y in
    out-left (out-made (SamePlace (Some i)) (out-both S (out-word (codes "<") [] t _ m refl (less-cut (index_text i ++ codes ">") r (starts-append (index_text i) (codes ">") o.first)))
    (out-both S (o.out (codes ">" ++ r) refl) (out-word (codes ">") [] c r p refl (above-cut r h)) (λ y z e j. e)) (λ y z e j. j)) (λ y e. ap Some e)))))))))
    (see-nothing (λ r h. out-right (out-nothing None r (SamePlace None) refl)))
  where
    above-cut : (r : List ℕ) → is_apart r ≡ true → is_cut kinds.Sign (codes ">") r ≡ true
    above-cut r h = apart-cut kinds.Sign (codes ">") r refl h

see-arguments : {w : World} → See w arguments_two (Again arguments_two (spread ref_text) SameRefs)
see-arguments = see-either (see-then see-refs (λ ts xs o r h. out-left (o r h))) (see-nothing (λ r h. out-right (out-nothing [] r (SameRefs []) refl)))

number-cut : (b : List ℕ) (s : Option Index) (l r : List ℕ) → is_cut kinds.Name b ((number_text s ++ codes "(") ++ l ++ r) ≡ true
number-cut b None l r = refl
number-cut b (Some i) l r = refl

pub see-use : {w : World} → See w use_two (Printed use_two)
see-use = see-both (see-word (λ t m. see-both (see-made (see-token (λ u p q. see-both (see-both (see-then see-number (λ a s z. see-word (λ v n. see-both (see-both (see-then see-arguments (λ b xs o. see-word (λ c g. see-word (λ d f indent j r h.
    let S : FormTwo → Type 0 = SameForm (forms.Used u.bytes s xs) in
    out-both S (out-word (codes "use") (codes " ") t _ m refl refl)
    (out-both S (out-text (append-nil u.bytes) (out-name u [] _ p q refl (number-cut u.bytes s (spread ref_text xs ++ codes ");") r)))
    (out-both (λ (g : List ℕ → FormTwo). (l : List ℕ) → u.bytes ≡ l → S (g l))
    (out-both (SamePlace s) (z (codes "(" ++ ((spread ref_text xs ++ codes ");") ++ r)) refl) (out-word (codes "(") [] v _ n refl (open-cut _)) (λ y z e i. e))
    (out-text (append_assoc (spread ref_text xs) (codes ")") (codes ";"))
    (out-both (SameRefs xs)
    (out-both (SameRefs xs) (o (codes ")" ++ (codes ";" ++ r)) refl) (out-word (codes ")") [] c (codes ";" ++ r) g refl (close-cut (codes ";" ++ r))) (λ y z e i. e))
    (the-end d r f) (λ y z e i. e)))
    (λ y z e i l c. ap (λ b. forms.Used b s xs) c ∙ ap (λ (b : Option Index). forms.Used l b xs) e ∙ ap (λ (b : List Ref). forms.Used l y b) i))
    (λ l g e c. c l e)) (λ y z e i. i)))))))))))))))

-- Channels between the same nodes.
same-joined : (c d : Channel) (x y u v : Ref) → bare_channel c ≡ bare_channel d → x ≡ u → y ≡ v → SameForm (join_two c x y) (join_two d u v)
same-joined c d x y u v e i j =
    ap (λ (z : Channel). forms.Joined z x y) e ∙ ap (λ (z : Ref). forms.Joined (bare_channel d) z y) i ∙ ap (λ (z : Ref). forms.Joined (bare_channel d) u z) j

-- A node before a space.
spaced-ref : (a : List Lexeme) (x : Ref) → Again ref_form ref_text SameRef a x → (r : List ℕ) → Out ref_form (ref_text x ++ codes " ") a r (SameRef x)
spaced-ref a x o r = out-behind (codes " ") refl (o (codes " " ++ r) refl)

see-nodes : {w : World} (c : Channel) (t : Lexeme) → Plain c t
    → See w {A = Channel → FormTwo} (both (λ x y (c : Channel). join_two c x y) ref_form (ref_form ◂ word (codes ";"))) (λ b f. Printed (plain_between ref_form join_two) ((t ∷ []) ++ b) (f c))
see-nodes c t k = see-both (see-then see-ref (λ a x o. see-both (see-then see-ref (λ b y p. see-word (λ d f indent j r h.
    let S : FormTwo → Type 0 = SameForm (join_two c x y) in
    out-text (ap (λ l. channel_head c ++ ((ref_text x ++ codes " ") ++ (ref_text y ++ (l ++ codes ";")))) (sym k.tail))
    (out-both S (k.out (((ref_text x ++ codes " ") ++ (ref_text y ++ codes ";")) ++ r))
    (out-both (λ (g : Channel → FormTwo). (z : Channel) → c ≡ z → S (g z)) (spaced-ref a x o ((ref_text y ++ codes ";") ++ r))
    (out-both (SameRef y) (p (codes ";" ++ r) refl) (the-end d r f) (λ u v e i. e))
    (λ u v e i z l. same-joined c z x y u v (ap bare_channel l) e i))
    (λ z g e l. l z e)))))))

pub see-plain : {w : World} → See w (plain_between ref_form join_two) (Printed (plain_between ref_form join_two))
see-plain = see-both (see-either
    (see-word-as (λ t m. see-nodes channels.Sync t (record { out = λ r. out-left (out-word-as channels.Sync (codes "sync") (codes " ") t r m refl refl (λ d. channels.Sync ≡ d) refl); tail = refl }))) (see-either
    (see-word-as (λ t m. see-nodes channels.Lossy t (record { out = λ r. out-right (out-left (out-word-as channels.Lossy (codes "lossy") (codes " ") t r m refl refl (λ d. channels.Lossy ≡ d) refl)); tail = refl }))) (see-either
    (see-word-as (λ t m. see-nodes channels.SyncDrain t (record { out = λ r. out-right (out-right (out-left (out-word-as channels.SyncDrain (codes "syncdrain") (codes " ") t r m refl refl (λ d. channels.SyncDrain ≡ d) refl))); tail = refl })))
    (see-word-as (λ t m. see-nodes channels.AsyncDrain t (record { out = λ r. out-right (out-right (out-right (out-word-as channels.AsyncDrain (codes "asyncdrain") (codes " ") t r m refl refl (λ d. channels.AsyncDrain ≡ d) refl))); tail = refl }))))))

-- The first word of an item, with a space behind it.
record Leads (g : FormOf (Unit {0})) (b : List ℕ) (t : Lexeme) : Type 0 where
  pub out : (r : List ℕ) → Out g b (t ∷ []) r (λ x. Unit {0})

-- A channel that holds an item at first, or none.
record HoldsOne (b : List ℕ) (C : Option Literal → Channel) : Type 0 where
  pub head : (o : Option Literal) → channel_head (C o) ≡ b
  pub tail : (o : Option Literal) → channel_tail (C o) ≡ held_one o
  pub bare : (o : Option Literal) → bare_channel (C o) ≡ C (bare_held o)

see-one : {w : World} → w.Holds literal_rule ≡ Claim literal_rule → (g : FormOf (Unit {0})) (b : List ℕ) (t : Lexeme) (C : Option Literal → Channel) → Leads g b t → HoldsOne b C
    → See w (one_between ref_form (λ held x y. join_two (C held) x y)) (λ ts f. Printed (g ▸ one_between ref_form (λ held x y. join_two (C held) x y)) ((t ∷ []) ++ ts) f)
see-one k g b t C lead c = see-both (see-then see-ref (λ a1 x o. see-both (see-then see-ref (λ a2 y p. see-both (see-then (see-held k) (λ a3 l z. see-word (λ d f indent j r h.
    let S : FormTwo → Type 0 = SameForm (join_two (C l) x y) in
    out-text (ap (λ i. i ++ ((ref_text x ++ codes " ") ++ (ref_text y ++ (held_one l ++ codes ";")))) (sym (c.head l)) ∙ ap (λ i. channel_head (C l) ++ ((ref_text x ++ codes " ") ++ (ref_text y ++ (i ++ codes ";")))) (sym (c.tail l)))
    (out-both S (lead.out (((ref_text x ++ codes " ") ++ (ref_text y ++ (held_one l ++ codes ";"))) ++ r))
    (out-both S (spaced-ref a1 x o ((ref_text y ++ (held_one l ++ codes ";")) ++ r))
    (out-both (λ (g : Ref → FormTwo). (u : Ref) → x ≡ u → S (g u)) (p ((held_one l ++ codes ";") ++ r) (tail-apart l r))
    (out-both (SameHeld l) (z (codes ";" ++ r) refl) (the-end d r f) (λ v n e i. e))
    (λ v n e i u q. same-joined (C l) (C n) x y u v (c.bare l ∙ ap C i ∙ sym (c.bare n)) q e))
    (λ u g e q. q u e)) (λ u g e q. q)))))))))
  where
    tail-apart : (x : Option Literal) (r : List ℕ) → is_apart ((held_one x ++ codes ";") ++ r) ≡ true
    tail-apart None r = refl
    tail-apart (Some l) r = refl

pub see-fifo1 : {w : World} → w.Holds literal_rule ≡ Claim literal_rule → See w (fifo1_between ref_form join_two) (Printed (fifo1_between ref_form join_two))
see-fifo1 k = see-both (see-word (λ t m. see-one k (word (codes "fifo1")) (codes "fifo1 ") t (λ o. channels.Fifo1 o)
    (record { out = λ r. out-word (codes "fifo1") (codes " ") t r m refl refl }) (record { head = λ o. refl; tail = λ o. refl; bare = λ o. refl })))

variable-tail : (o : Option Literal) → channel_tail (channels.Variable o) ≡ held_one o
variable-tail None = refl
variable-tail (Some l) = refl

pub see-variable : {w : World} → w.Holds literal_rule ≡ Claim literal_rule → See w variable_two (Printed variable_two)
see-variable k = see-both (see-named (λ t m q. see-one k (named_word (codes "variable")) (codes "variable ") t (λ o. channels.Variable o)
    (record { out = λ r. out-named (codes "variable") (codes " ") t r m q refl refl }) (record { head = λ o. refl; tail = variable-tail; bare = λ o. refl })))

-- A channel of a size that holds items at first.
record HoldsList (b : List ℕ) (C : ℕ → List Literal → Channel) : Type 0 where
  pub head : (n : ℕ) (ls : List Literal) → channel_head (C n ls) ≡ b ++ (decimal n ++ codes " ")
  pub tail : (n : ℕ) (ls : List Literal) → channel_tail (C n ls) ≡ held_text ls
  pub bare : (n : ℕ) (ls : List Literal) → bare_channel (C n ls) ≡ C n (map bare_literal ls)

see-sized : {w : World} → w.Holds literal_rule ≡ Claim literal_rule → (g : FormOf (Unit {0})) (b : List ℕ) (t : Lexeme) (C : ℕ → List Literal → Channel) → Leads g b t → HoldsList b C
    → See w (sized_between ref_form (λ n held x y. join_two (C n held) x y)) (λ ts f. Printed (g ▸ sized_between ref_form (λ n held x y. join_two (C n held) x y)) ((t ∷ []) ++ ts) f)
see-sized k g b t C lead c = see-both (see-made (see-token (λ s n q. see-both (see-then see-ref (λ a1 x o. see-both (see-then see-ref (λ a2 y p. see-both (see-then (see-list k) (λ a3 l z. see-word (λ d f indent j r h.
    let size = number_from 0 s.bytes in
    let S : FormTwo → Type 0 = SameForm (join_two (C size l) x y) in
    let rest : List ℕ = (ref_text x ++ codes " ") ++ (ref_text y ++ (held_text l ++ codes ";")) in
    out-text (sym (append_assoc b (decimal size ++ codes " ") rest) ∙ ap (λ i. i ++ rest) (sym (c.head size l)) ∙ ap (λ i. channel_head (C size l) ++ ((ref_text x ++ codes " ") ++ (ref_text y ++ (i ++ codes ";")))) (sym (c.tail size l)))
    (out-both S (lead.out (((decimal size ++ codes " ") ++ rest) ++ r))
    (out-both S (out-number 1 1024 s (codes " ") (rest ++ r) n q refl refl)
    (out-both (λ (g : ℕ → FormTwo). (i : ℕ) → size ≡ i → S (g i)) (spaced-ref a1 x o ((ref_text y ++ (held_text l ++ codes ";")) ++ r))
    (out-both (λ (g : Ref → ℕ → FormTwo). (u : Ref) (i : ℕ) → x ≡ u → size ≡ i → S (g u i)) (p ((held_text l ++ codes ";") ++ r) (tail-apart l r))
    (out-both (SameList l) (z (codes ";" ++ r) refl) (the-end d r f) (λ v ls e i. e))
    (λ v ls e i u n2 w1 w2. same-joined (C size l) (C n2 ls) x y u v (c.bare size l ∙ ap (λ i. C i (map bare_literal l)) w2 ∙ ap (C n2) i ∙ sym (c.bare n2 ls)) w1 e))
    (λ u g e w i v. w u i e v)) (λ i g e w. w i e)) (λ i g e w. w))))))))))))
  where
    tail-apart : (x : List Literal) (r : List ℕ) → is_apart ((held_text x ++ codes ";") ++ r) ≡ true
    tail-apart [] r = refl
    tail-apart (l ∷ x) r = refl

pub see-fifo : {w : World} → w.Holds literal_rule ≡ Claim literal_rule → See w (fifo_between ref_form join_two) (Printed (fifo_between ref_form join_two))
see-fifo k = see-both (see-word (λ t m. see-sized k (word (codes "fifo")) (codes "fifo ") t (λ n o. channels.Fifo n o)
    (record { out = λ r. out-word (codes "fifo") (codes " ") t r m refl refl }) (record { head = λ n o. refl; tail = λ n o. refl; bare = λ n o. refl })))

pub see-shift : {w : World} → w.Holds literal_rule ≡ Claim literal_rule → See w shift_two (Printed shift_two)
see-shift k = see-both (see-named (λ t m q. see-sized k (named_word (codes "shift")) (codes "shift ") t (λ n o. channels.Shift n o)
    (record { out = λ r. out-named (codes "shift") (codes " ") t r m q refl refl }) (record { head = λ n o. refl; tail = λ n o. refl; bare = λ n o. refl })))

-- A channel with an expression behind this word.
record HasTerm (b s : List ℕ) (C : Term → Channel) : Type 0 where
  pub head : (t : Term) → channel_head (C t) ≡ b
  pub tail : (t : Term) → channel_tail (C t) ≡ (codes " " ++ (s ++ codes " ")) ++ term_text t
  pub bare : (t : Term) → bare_channel (C t) ≡ C (bare_term t)

see-told : {w : World} → w.Holds term_rule ≡ Claim term_rule → (g : FormOf (Unit {0})) (b s : List ℕ) (t : Lexeme) (C : Term → Channel) → Leads g b t → HasTerm b s C
    → ((v : Lexeme) → matches (fixed s) v ≡ true → (r : List ℕ) → Out (word s) (s ++ codes " ") (v ∷ []) r (λ x. Unit {0}))
    → See w (both (λ x (f : Ref → FormTwo). f x) ref_form (both (λ y t (x : Ref). join_two (C t) x y) (ref_form ◂ word s) (rule term_rule ◂ word (codes ";"))))
    (λ ts f. Printed (g ▸ both (λ x (f : Ref → FormTwo). f x) ref_form (both (λ y t (x : Ref). join_two (C t) x y) (ref_form ◂ word s) (rule term_rule ◂ word (codes ";")))) ((t ∷ []) ++ ts) f)
see-told k g b s t C lead c before = see-both (see-then see-ref (λ a1 x o. see-both (see-both (see-then see-ref (λ a2 y p. see-word (λ v n. see-both (see-then (see-term k) (λ a3 l z. see-word (λ d f indent j r h.
    let S : FormTwo → Type 0 = SameForm (join_two (C l) x y) in
    let word_text : List ℕ = codes " " ++ (s ++ codes " ") in
    let end_text : List ℕ = term_text l ++ codes ";" in
    out-text (ap (λ i. i ++ ((ref_text x ++ codes " ") ++ ((ref_text y ++ word_text) ++ end_text))) (sym (c.head l))
    ∙ ap (λ i. channel_head (C l) ++ ((ref_text x ++ codes " ") ++ i)) (append_assoc (ref_text y) word_text end_text ∙ ap (λ i. ref_text y ++ i) (sym (append_assoc word_text (term_text l) (codes ";")) ∙ ap (λ i. i ++ codes ";") (sym (c.tail l)))))
    (out-both S (lead.out (((ref_text x ++ codes " ") ++ ((ref_text y ++ word_text) ++ end_text)) ++ r))
    (out-both S (spaced-ref a1 x o (((ref_text y ++ word_text) ++ end_text) ++ r))
    (out-both (λ (g : Ref → FormTwo). (u : Ref) → x ≡ u → S (g u))
    (out-both (SameRef y) (p (word_text ++ (end_text ++ r)) refl) (out-gap (codes " ") refl (before v n (end_text ++ r))) (λ u v e i. e))
    (out-both (SameTerm l) (term-out a3 l z (codes ";" ++ r) refl) (the-end d r f) (λ u v e i. e))
    (λ v n e i u q. same-joined (C l) (C n) x y u v (c.bare l ∙ ap (λ (f : TermForm). C (record { line = 0; form = f })) i ∙ sym (c.bare n)) q e))
    (λ u g e q. q u e)) (λ u g e q. q)))))))))))

pub see-filter : {w : World} → w.Holds term_rule ≡ Claim term_rule → See w (filter_between ref_form join_two) (Printed (filter_between ref_form join_two))
see-filter k = see-both (see-word (λ t m. see-told k (word (codes "filter")) (codes "filter ") (codes "when") t (λ o. channels.Filter o)
    (record { out = λ r. out-word (codes "filter") (codes " ") t r m refl refl }) (record { head = λ o. refl; tail = λ o. refl; bare = λ o. refl })
    (λ v n r. out-word (codes "when") (codes " ") v r n refl refl)))

pub see-map : {w : World} → w.Holds term_rule ≡ Claim term_rule → See w (map_between ref_form join_two) (Printed (map_between ref_form join_two))
see-map k = see-both (see-word (λ t m. see-told k (word (codes "map")) (codes "map ") (codes "to") t (λ o. channels.Map o)
    (record { out = λ r. out-word (codes "map") (codes " ") t r m refl refl }) (record { head = λ o. refl; tail = λ o. refl; bare = λ o. refl })
    (λ v n r. out-word (codes "to") (codes " ") v r n refl refl)))

pub see-quota : {w : World} → See w quota_two (Printed quota_two)
see-quota = see-both (see-named (λ t m q. see-both (see-made (see-token (λ s n g. see-both (see-then see-ref (λ a1 x o. see-both (see-then see-ref (λ a2 y p. see-word (λ d f indent j r h.
    let size = number_from 0 s.bytes in
    let S : FormTwo → Type 0 = SameForm (join_two (channels.Quota size) x y) in
    let rest : List ℕ = (ref_text x ++ codes " ") ++ (ref_text y ++ codes ";") in
    out-both S (out-named (codes "quota") (codes " ") t (((decimal size ++ codes " ") ++ rest) ++ r) m q refl refl)
    (out-both S (out-number 0 most_place s (codes " ") (rest ++ r) n g refl refl)
    (out-both (λ (g : ℕ → FormTwo). (i : ℕ) → size ≡ i → S (g i)) (spaced-ref a1 x o ((ref_text y ++ codes ";") ++ r))
    (out-both (SameRef y) (p (codes ";" ++ r) refl) (the-end d r f) (λ u v e i. e))
    (λ u v e i n2 w. same-joined (channels.Quota size) (channels.Quota n2) x y u v (ap (λ i. channels.Quota i) w) e i))
    (λ i g e w. w i e)) (λ i g e w. w)))))))))))
