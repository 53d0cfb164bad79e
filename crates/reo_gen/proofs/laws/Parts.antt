-- How the parts of a circuit text are read.
use Rattle.std.proofs.Common.{◌≡◌, ℕ, Bool, true, false, ◌&&◌, Option, None, List, [], ◌∷◌, ◌++◌, refl, sym, ◌∙◌, ap, append-nil, codes, nat_le}
use Rattle.std.specs.List.{list_all}
use Rattle.reo_grammar.specs.declared.kind.TokenKind.TheVariants as kinds
use Rattle.reo_lexer.specs.Gaps.{is_space}
use Rattle.reo_lexer.proofs.Cut.{is_cut}
use Rattle.reo_syntax.proofs.Cuts.{end-cut, open-cut, close-cut}
use Rattle.reo_trees.specs.declared.literals.Literal.{Literal}
use Rattle.reo_trees.specs.declared.types.Shape.{Shape}
use Rattle.reo_trees.specs.declared.types.Shape.TheVariants as shapes
use Rattle.reo_trees.specs.declared.types.TypeTerm.{TypeTerm}
use Rattle.reo_trees.specs.declared.items.Item.{Item}
use Rattle.reo_trees.specs.declared.items.ItemForm.{ItemForm}
use Rattle.reo_trees.specs.declared.items.ItemForm.TheVariants as forms
use Rattle.reo_trees.specs.declared.items.Channel.{Channel}
use Rattle.reo_trees.specs.declared.items.Channel.TheVariants as channels
use Rattle.reo_trees.specs.declared.programs.Parameter.{Parameter}
use Rattle.reo_trees.specs.Forms.{word, name_form, ◌◂◌}
use Rattle.reo_trees.specs.Forms.Rule.{type_rule}
use Rattle.reo_trees.specs.Types.{names_form}
use Rattle.reo_trees.specs.Channels.{plain_channel}
use Rattle.reo_trees.specs.Items.{item_form}
use Rattle.reo_trees.specs.Programs.{way_form, parameter_form}
use Rattle.reo_trees.specs.Rules.{circuit_rules}
use Rattle.reo_trees.specs.Forms.{FormOf}
use Rattle.reo_gen.proofs.laws.Heights.{Height, height}
use Rattle.reo_gen.proofs.laws.Pieces.{Reads, is_fit, IsNamed, reads-both, reads-more, reads-first, reads-left, reads-right, reads-made, reads-lined, reads-rule, reads-nothing, reads-text, reads-word, reads-name}
use Rattle.reo_gen.proofs.laws.Written.{Lines, IsBy}
use Rattle.reo_gen.proofs.laws.Trees.{t_type, parameter_by, node_by, channel_by, use_by}
use Rattle.reo_grammar.specs.Grammar.Grammar.{both, rule}

-- What is read in a circuit text.
abbrev pub Circuit : {A : Type 0} → FormOf A → List ℕ → List ℕ → (A → Type 0) → Height → Height → Type 0
Circuit g a r S h k = Reads circuit_rules g a r S h k

-- So much may be open at a name.
abbrev pub is_open : Height → Bool
is_open h = nat_le h.parentheses 64 && nat_le h.braces 16

-- A name with nothing behind it.
pub bare-name : (b r : List ℕ) (h : Height) → IsNamed b → is_cut kinds.Name b r ≡ true → is_open h ≡ true → Circuit name_form b r (λ n. b ≡ n) h h
bare-name b r h n i low = reads-text (append-nil b) (reads-name b [] r h n refl i low)

named_t : IsNamed (codes "t")
named_t = record { spelled = refl; free = refl }

pub reads-t : (gap r : List ℕ) (h : Height) → list_all is_space gap ≡ true → is_cut kinds.Name (codes "t") (gap ++ r) ≡ true → is_open h ≡ true
    → Circuit (rule type_rule) (codes "t" ++ gap) r (λ t. (m : ℕ) × (t ≡ t_type m)) h h
reads-t gap r h s i low =
    reads-rule type_rule (reads-lined (λ (t : TypeTerm). (m : ℕ) × (t ≡ t_type m))
    (reads-right (reads-right (reads-right (reads-right (reads-right (reads-right
    (reads-made (λ (s : Shape). s ≡ shapes.Named (codes "t")) (reads-name (codes "t") gap r h named_t s i low) (λ n e. ap (λ l. shapes.Named l) (sym e)))))))))
    (λ l s e. (l, ap (λ (z : Shape). record { line = l; shape = z }) e)))

-- In the parentheses of a connector, and in its braces.
abbrev pub within_head : Height
within_head = height 1 0

abbrev pub within_body : Height
within_body = height 0 1

-- A parameter, whatever its way is written with.
reads-parameter : (inward : Bool) (head name r : List ℕ) → ((s : List ℕ) → Circuit way_form head s (λ y. inward ≡ y) within_head within_head) → IsNamed name → is_cut kinds.Name (codes "t") r ≡ true
    → Circuit parameter_form (head ++ ((name ++ codes ": ") ++ codes "t")) r (IsBy (parameter_by inward name)) within_head within_head
reads-parameter inward head name r way n i =
    reads-lined (IsBy (parameter_by inward name))
    (reads-both (λ (f : ℕ → Parameter). (m : ℕ) × ((l : ℕ) → f l ≡ parameter_by inward name (l, m))) (way (((name ++ codes ": ") ++ codes "t") ++ r))
    (reads-both (λ (f : Bool → ℕ → Parameter). (m : ℕ) × ((w : Bool) (l : ℕ) → f w l ≡ record { line = l; inward = w; name = name; term = t_type m }))
    (reads-both (λ y. name ≡ y) (bare-name name (codes ": " ++ (codes "t" ++ r)) within_head n refl refl) (reads-word (codes ":") (codes " ") (codes "t" ++ r) within_head refl refl) (λ y z e k. e))
    (reads-t [] r within_head refl i refl)
    (λ y t e k. (k.0, λ w l j. record { line = l; inward = w; name = sym e j; term = k.1 j })))
    (λ w f e k. (k.0, λ l. k.1 w l ∙ ap (λ (v : Bool). record { line = l; inward = v; name = name; term = t_type k.0 }) (sym e))))
    (λ l f k. ((l, k.0), k.1 l))

pub reads-in : (name r : List ℕ) → IsNamed name → is_cut kinds.Name (codes "t") r ≡ true → Circuit parameter_form (codes "in " ++ ((name ++ codes ": ") ++ codes "t")) r (IsBy (parameter_by true name)) within_head within_head
reads-in name r n i = reads-parameter true (codes "in ") name r (λ s. reads-left (reads-made (λ y. true ≡ y) (reads-word (codes "in") (codes " ") s within_head refl refl) (λ x e. refl))) n i

pub reads-out : (name r : List ℕ) → IsNamed name → is_cut kinds.Name (codes "t") r ≡ true → Circuit parameter_form (codes "out " ++ ((name ++ codes ": ") ++ codes "t")) r (IsBy (parameter_by false name)) within_head within_head
reads-out name r n i = reads-parameter false (codes "out ") name r (λ s. reads-right (reads-made (λ y. false ≡ y) (reads-word (codes "out") (codes " ") s within_head refl refl) (λ x e. refl))) n i

-- What ends an item: blanks behind a `;`.
abbrev pub is_end : List ℕ → Bool
is_end gap = is_fit within_body (codes ";") gap

the-end : (gap r : List ℕ) → is_end gap ≡ true → Circuit (word (codes ";")) (codes ";" ++ gap) r (λ x. Unit {0}) within_body within_body
the-end gap r f = reads-word (codes ";") gap r within_body f (end-cut (gap ++ r))

-- A form is an item with a line.
item-of : (form : ItemForm) (l : ℕ) (f : ItemForm) → f ≡ form → IsBy {X = Item} (λ (k : Lines). record { line = k.0; form = form }) (record { line = l; form = f })
item-of form l f e = ((l, 0), ap (λ (z : ItemForm). record { line = l; form = z }) e)

pub reads-node : (name gap r : List ℕ) → IsNamed name → is_end gap ≡ true → Circuit item_form (codes "node " ++ ((name ++ codes ": ") ++ (codes "t" ++ (codes ";" ++ gap)))) r (IsBy (node_by name)) within_body within_body
reads-node name gap r n f =
    reads-lined (IsBy (node_by name))
    (reads-left (reads-both (λ (x : ItemForm). (m : ℕ) × (x ≡ forms.Node name (t_type m))) (reads-word (codes "node") (codes " ") _ within_body refl refl)
    (reads-both (λ (x : ItemForm). (m : ℕ) × (x ≡ forms.Node name (t_type m)))
    (reads-both (λ y. name ≡ y) (bare-name name (codes ": " ++ ((codes "t" ++ (codes ";" ++ gap)) ++ r)) within_body n refl refl) (reads-word (codes ":") (codes " ") ((codes "t" ++ (codes ";" ++ gap)) ++ r) within_body refl refl) (λ y z e k. e))
    (reads-both (λ (t : TypeTerm). (m : ℕ) × (t ≡ t_type m)) (reads-t [] ((codes ";" ++ gap) ++ r) within_body refl refl refl) (the-end gap r f) (λ x y e k. e))
    (λ y t e k. (k.0, λ j. forms.Node (sym e j) (k.1 j))))
    (λ x y e k. k)))
    (λ l x k. ((l, k.0), ap (λ (z : ItemForm). record { line = l; form = z }) k.1))

-- The names of two nodes, and the end.
reads-nodes : (c : Channel) (x y gap r : List ℕ) → IsNamed x → IsNamed y → is_end gap ≡ true
    → Circuit {A = Channel → ItemForm} (both (λ x y (c : Channel). forms.Joined c x y) name_form (name_form ◂ word (codes ";"))) ((x ++ codes " ") ++ (y ++ (codes ";" ++ gap))) r
    (λ f. (d : Channel) → f d ≡ forms.Joined d x y) within_body within_body
reads-nodes c x y gap r n m f =
    reads-both (λ (f : Channel → ItemForm). (d : Channel) → f d ≡ forms.Joined d x y) (reads-name x (codes " ") ((y ++ (codes ";" ++ gap)) ++ r) within_body n refl refl refl)
    (reads-both (λ z. y ≡ z) (bare-name y ((codes ";" ++ gap) ++ r) within_body m refl refl) (the-end gap r f) (λ y z e k. e))
    (λ a b p q d i. forms.Joined d (sym p i) (sym q i))

reads-plain : (c : Channel) (head x y gap r : List ℕ) → ((s : List ℕ) → Circuit plain_channel head s (λ d. d ≡ c) within_body within_body) → IsNamed x → IsNamed y → is_end gap ≡ true
    → Circuit item_form (head ++ ((x ++ codes " ") ++ (y ++ (codes ";" ++ gap)))) r (IsBy (channel_by c x y)) within_body within_body
reads-plain c head x y gap r w n m f =
    reads-lined (IsBy (channel_by c x y))
    (reads-right (reads-left (reads-both (λ z. z ≡ forms.Joined c x y) (w _) (reads-nodes c x y gap r n m f) (λ d g e k. k d ∙ ap (λ (a : Channel). forms.Joined a x y) e))))
    (item-of (forms.Joined c x y))

pub reads-sync : (x y gap r : List ℕ) → IsNamed x → IsNamed y → is_end gap ≡ true → Circuit item_form (codes "sync " ++ ((x ++ codes " ") ++ (y ++ (codes ";" ++ gap)))) r (IsBy (channel_by channels.Sync x y)) within_body within_body
reads-sync x y gap r n m f =
    reads-plain channels.Sync (codes "sync ") x y gap r
    (λ s. reads-left (reads-made (λ (d : Channel). d ≡ channels.Sync) (reads-word (codes "sync") (codes " ") s within_body refl refl) (λ z e. refl))) n m f

pub reads-lossy : (x y gap r : List ℕ) → IsNamed x → IsNamed y → is_end gap ≡ true → Circuit item_form (codes "lossy " ++ ((x ++ codes " ") ++ (y ++ (codes ";" ++ gap)))) r (IsBy (channel_by channels.Lossy x y)) within_body within_body
reads-lossy x y gap r n m f =
    reads-plain channels.Lossy (codes "lossy ") x y gap r
    (λ s. reads-right (reads-left (reads-made (λ (d : Channel). d ≡ channels.Lossy) (reads-word (codes "lossy") (codes " ") s within_body refl refl) (λ z e. refl)))) n m f

pub reads-drain : (x y gap r : List ℕ) → IsNamed x → IsNamed y → is_end gap ≡ true → Circuit item_form (codes "syncdrain " ++ ((x ++ codes " ") ++ (y ++ (codes ";" ++ gap)))) r (IsBy (channel_by channels.SyncDrain x y)) within_body within_body
reads-drain x y gap r n m f =
    reads-plain channels.SyncDrain (codes "syncdrain ") x y gap r
    (λ s. reads-right (reads-right (reads-left (reads-made (λ (d : Channel). d ≡ channels.SyncDrain) (reads-word (codes "syncdrain") (codes " ") s within_body refl refl) (λ z e. refl))))) n m f

pub reads-buffer : (x y gap r : List ℕ) → IsNamed x → IsNamed y → is_end gap ≡ true → Circuit item_form (codes "fifo1 " ++ ((x ++ codes " ") ++ (y ++ (codes ";" ++ gap)))) r (IsBy (channel_by (channels.Fifo1 None) x y)) within_body within_body
reads-buffer x y gap r n m f =
    let Z : ItemForm = forms.Joined (channels.Fifo1 None) x y in
    reads-lined (IsBy (channel_by (channels.Fifo1 None) x y))
    (reads-right (reads-right (reads-left (reads-both (λ z. z ≡ Z) (reads-word (codes "fifo1") (codes " ") _ within_body refl refl)
    (reads-both (λ z. z ≡ Z) (reads-name x (codes " ") ((y ++ (codes ";" ++ gap)) ++ r) within_body n refl refl refl)
    (reads-both (λ (g : List ℕ → ItemForm). (a : List ℕ) → g a ≡ forms.Joined (channels.Fifo1 None) a y) (bare-name y ((codes ";" ++ gap) ++ r) within_body m refl refl)
    (reads-both (λ (o : Option Literal). o ≡ None) (reads-right (reads-nothing None _ (λ (o : Option Literal). o ≡ None) within_body refl)) (the-end gap r f) (λ o u e k. e))
    (λ b o e k a i. forms.Joined (channels.Fifo1 (k i)) a (sym e i)))
    (λ a g e k. k a ∙ ap (λ b. forms.Joined (channels.Fifo1 None) b y) (sym e)))
    (λ u z e k. k)))))
    (item-of Z)

-- In the parentheses of a use.
abbrev within_use : Height
within_use = height 1 1

-- Three names with commas between them.
three-names : (x y z r : List ℕ) → IsNamed x → IsNamed y → IsNamed z → is_cut kinds.Name z r ≡ true → Circuit names_form ((x ++ (codes ", " ++ y)) ++ (codes ", " ++ z)) r (λ l. l ≡ x ∷ y ∷ z ∷ []) within_use within_use
three-names x y z r n m k i =
    reads-more (λ l. l ≡ x ∷ y ∷ z ∷ [])
    (reads-more (λ l. l ≡ x ∷ y ∷ [])
    (reads-first (reads-made (λ l. l ≡ x ∷ []) (bare-name x ((codes ", " ++ y) ++ ((codes ", " ++ z) ++ r)) within_use n refl refl) (λ a e. ap (λ b. b ∷ []) (sym e))))
    (reads-both (λ b. y ≡ b) (reads-word (codes ",") (codes " ") _ within_use refl refl) (bare-name y ((codes ", " ++ z) ++ r) within_use m refl refl) (λ u b e q. q))
    (λ l b e q j. e j ++ sym q j ∷ []))
    (reads-both (λ b. z ≡ b) (reads-word (codes ",") (codes " ") _ within_use refl refl) (bare-name z r within_use k i refl) (λ u b e q. q))
    (λ l b e q j. e j ++ sym q j ∷ [])

named_stage : IsNamed (codes "stage")
named_stage = record { spelled = refl; free = refl }

pub reads-use : (x y z gap r : List ℕ) → IsNamed x → IsNamed y → IsNamed z → is_end gap ≡ true
    → Circuit item_form (codes "use " ++ ((codes "stage" ++ codes "(") ++ ((((x ++ (codes ", " ++ y)) ++ (codes ", " ++ z)) ++ codes ")") ++ (codes ";" ++ gap)))) r (IsBy (use_by x y z)) within_body within_body
reads-use x y z gap r n m k f =
    let U : ItemForm = forms.Used (codes "stage") (x ∷ y ∷ z ∷ []) in
    reads-lined (IsBy (use_by x y z))
    (reads-right (reads-right (reads-right (reads-right (reads-right (reads-right
    (reads-both (λ u. u ≡ U) (reads-word (codes "use") (codes " ") _ within_body refl refl)
    (reads-both (λ u. u ≡ U)
    (reads-both (λ a. codes "stage" ≡ a) (bare-name (codes "stage") _ within_body named_stage refl refl) (reads-word (codes "(") [] _ within_body refl (open-cut _)) (λ a b e q. e))
    (reads-both (λ l. l ≡ x ∷ y ∷ z ∷ [])
    (reads-both (λ l. l ≡ x ∷ y ∷ z ∷ []) (reads-left (three-names x y z (codes ")" ++ ((codes ";" ++ gap) ++ r)) n m k refl)) (reads-word (codes ")") [] ((codes ";" ++ gap) ++ r) within_use refl (close-cut ((codes ";" ++ gap) ++ r))) (λ a b e q. e))
    (the-end gap r f) (λ a b e q. e))
    (λ a l e q j. forms.Used (sym e j) (q j)))
    (λ u z e q. q))))))))
    (item-of U)
