-- Items of connectors in texts of version 2.
use Rattle.std.specs.Prelude.{ℕ, Option, Some, None, List, [], codes}
use Rattle.reo_grammar.specs.Tokens.Class.{fixed, name, named, other}
use Rattle.reo_grammar.specs.Grammar.Grammar.{nothing, both, made, either, chain, lined, rule}
use Rattle.reo_trees.specs.declared.items.Channel.{Channel}
use Rattle.reo_trees.specs.declared.items.Channel.TheVariants as channels
use Rattle.reo_trees.specs.declared.indexes.Index.{Index}
use Rattle.reo_trees.specs.declared.indexes.Ref.{Ref}
use Rattle.reo_trees.specs.declared.items_two.ItemTwo.{ItemTwo}
use Rattle.reo_trees.specs.declared.items_two.FormTwo.{FormTwo}
use Rattle.reo_trees.specs.declared.items_two.FormTwo.TheVariants as forms
use Rattle.reo_trees.specs.Forms.{FormOf, named_word, word, name_form, number_form, ◌▸◌, ◌◂◌, listed, comma_form}
use Rattle.reo_trees.specs.Forms.Rule.{type_rule, looped_rule}
use Rattle.reo_trees.specs.Channels.{plain_channels, plain_between, one_between, sized_between, fifo1_between, fifo_between, filter_between, map_between}
use Rattle.reo_trees.specs.Indexes.{most_place, index_form, ref_form}

abbrev pub join_two : Channel → Ref → Ref → FormTwo
join_two c x y = forms.Joined c x y

-- [ "." "(" index ")" ]
abbrev pub size_form : FormOf (Option Index)
size_form = either (fixed (codes ".")) (made (λ i. Some i) (word (codes ".") ▸ word (codes "(") ▸ index_form ◂ word (codes ")"))) (nothing None)

-- "node" NAME size ":" type ";"
abbrev pub node_two : FormOf FormTwo
node_two =
    word (codes "node") ▸ both (λ n (f : List ℕ → FormTwo). f n) name_form
    (both (λ s t (n : List ℕ). forms.Node n s t) (size_form ◂ word (codes ":")) (rule type_rule ◂ word (codes ";")))

-- [ "<" index ">" ]
abbrev pub number_two : FormOf (Option Index)
number_two = either (fixed (codes "<")) (made (λ i. Some i) (word (codes "<") ▸ index_form ◂ word (codes ">"))) (nothing None)

-- [ ref { "," ref } ]
abbrev pub arguments_two : FormOf (List Ref)
arguments_two = either name (comma_form ref_form) (nothing [])

-- "use" NAME number "(" arguments ")" ";"
abbrev pub use_two : FormOf FormTwo
use_two =
    word (codes "use") ▸ both (λ n (f : List ℕ → FormTwo). f n) name_form
    (both (λ k xs (n : List ℕ). forms.Used n k xs) (number_two ◂ word (codes "(")) (arguments_two ◂ word (codes ")") ◂ word (codes ";")))

-- "shift" NUMBER ref ref held ";", with a number from 1 to 1,024
abbrev pub shift_two : FormOf FormTwo
shift_two = named_word (codes "shift") ▸ sized_between ref_form (λ n held x y. join_two (channels.Shift n held) x y)

-- "variable" ref ref held ";"
abbrev pub variable_two : FormOf FormTwo
variable_two = named_word (codes "variable") ▸ one_between ref_form (λ held x y. join_two (channels.Variable held) x y)

-- "quota" NUMBER ref ref ";", with a number of at most 10^9
abbrev pub quota_two : FormOf FormTwo
quota_two =
    named_word (codes "quota") ▸ both (λ n (f : ℕ → FormTwo). f n) (number_form 0 most_place)
    (both (λ x y (n : ℕ). join_two (channels.Quota n) x y) ref_form (ref_form ◂ word (codes ";")))

-- The items of a loop.
abbrev pub looped_items : FormOf (List ItemTwo)
looped_items = chain listed (other (codes "}")) (nothing []) (rule looped_rule)

-- "for" NAME "=" index "to" index "{" { item } "}"
abbrev pub loop_form : FormOf FormTwo
loop_form =
    named_word (codes "for") ▸ both (λ v (f : List ℕ → FormTwo). f v) (name_form ◂ word (codes "="))
    (both (λ l (f : Index → List ℕ → FormTwo). f l) (index_form ◂ word (codes "to"))
    (both (λ h is (l : Index) (v : List ℕ). forms.Loop v l h is) (index_form ◂ word (codes "{")) (looped_items ◂ word (codes "}"))))

-- An item that may stand in a loop.
abbrev pub some_looped : FormOf FormTwo
some_looped =
    either plain_channels (plain_between ref_form join_two)
    (either (fixed (codes "fifo1")) (fifo1_between ref_form join_two)
    (either (fixed (codes "fifo")) (fifo_between ref_form join_two)
    (either (fixed (codes "filter")) (filter_between ref_form join_two)
    (either (fixed (codes "map")) (map_between ref_form join_two)
    (either (fixed (codes "use")) use_two
    (either (named (codes "shift")) shift_two
    (either (named (codes "variable")) variable_two
    (either (named (codes "quota")) quota_two loop_form))))))))

abbrev pub placed_item : ℕ → FormTwo → ItemTwo
placed_item l f = record { line = l; form = f }

abbrev pub looped_form : FormOf ItemTwo
looped_form = lined placed_item some_looped

-- An item that stands in no loop: a node too.
abbrev pub some_item_two : FormOf FormTwo
some_item_two = either (fixed (codes "node")) node_two some_looped

abbrev pub item_two : FormOf ItemTwo
item_two = lined placed_item some_item_two

-- { item }
abbrev pub items_two : FormOf (List ItemTwo)
items_two = chain listed (other (codes "}")) (nothing []) item_two
