-- The moves of a round line.
use Rattle.std.proofs.Common.{◌≡◌, ◌∙◌, ◌<◌, ℕ, Bool, true, false, Some, List, [], ◌∷◌, ◌++◌, inr, map, length, get_or, drop, ap, refl, sym, subst, append_assoc, arith}
use Rattle.std.specs.Prelude.{codes, slice_get, ◌&&◌, nat_le}
use Rattle.std.proofs.lemmas.Bool.{and_parts, leb-true}
use Rattle.std.specs.List.{All}
use Rattle.std.proofs.lemmas.List.{append_cancel_left, length-map, get_or-map}
use Rattle.std.proofs.lemmas.List.Elements.{All-nil, All-cons, All-head, All-get_or}
use Rattle.std.proofs.lemmas.Option.{slice_get_within, get_or_from_slice_get}
use Rattle.reo_values.specs.declared.value.Value.{Value}
use Rattle.reo_values.specs.ItemText.{text_of}
use Rattle.reo_values.specs.Kind.{IsIn}
use Rattle.reo_values.specs.Names.{IsName, IsNameByte}
use Rattle.reo_values.specs.Valid.{IsValid}
use Rattle.reo_net_base.specs.declared.colouring.Move.{Move}
use Rattle.reo_net_base.specs.declared.port.Port.{Port}
use Rattle.reo_net_base.specs.declared.port.Way.{Way}
use Rattle.reo_net_base.specs.declared.port.Way.TheVariants.{In, Out}
use Rattle.reo_trace.specs.RoundText.{sign_of, flow_text, move_text, moves_text}
use Rattle.reo_trace.specs.Spaced.{spaced}
use Rattle.reo_trace_reader.specs.texts.Lines.{AreTold, IsMove}
use Rattle.reo_values.proofs.decimals.Fronts.{heads_apart, NotFirst, front_unique}
use Rattle.reo_trace_reader.proofs.texts.ItemEnds.{Stops, item_unique}
use Rattle.reo_trace_reader.proofs.texts.Rows.{AreToldApart, row_head, row_unique}

-- all bytes of a name are bytes of names
pub bytes_of-name : (name : List ℕ) → IsName name → All IsNameByte name
bytes_of-name [] h = absurd h
bytes_of-name (byte ∷ bytes) h = All-cons IsNameByte byte bytes (inr h.0) h.1

-- a sign is none of them
pub sign_no-name : (way : Way) (r : List ℕ) → NotFirst IsNameByte (sign_of way ++ r)
sign_no-name In r = λ h. grind arith
sign_no-name Out r = λ h. grind arith

module _ (ports : List Port) (told : AreTold ports) where
  -- the text of a move at its port
  pub move_at : (m : Move) (p : Port) (r : List ℕ) → slice_get ports m.port ≡ Some p
      → move_text ports m ++ r ≡ p.name ++ (sign_of p.way ++ (text_of m.item p.kindred ++ r))
  unfolding move_text
  move_at m p r at =
      ap (λ o. flow_text o m.item ++ r) at
      ∙ append_assoc p.name (sign_of p.way ++ text_of m.item p.kindred) r
      ∙ ap (λ l. p.name ++ l) (append_assoc (sign_of p.way) (text_of m.item p.kindred) r)

  pub name_at : (i : ℕ) (p : Port) → slice_get ports i ≡ Some p → IsName p.name
  name_at i p at =
      subst (λ (q : Port). IsName q.name) (get_or_from_slice_get ports i p p at)
      (All-get_or (λ (q : Port). IsName q.name) ports i p (slice_get_within ports i p at) told.names)

  pub kindred_at : (i : ℕ) (p : Port) → slice_get ports i ≡ Some p → IsValid p.kindred
  kindred_at i p at =
      subst (λ (q : Port). IsValid q.kindred) (get_or_from_slice_get ports i p p at)
      (All-get_or (λ (q : Port). IsValid q.kindred) ports i p (slice_get_within ports i p at) told.types)

  -- the name at a number
  named : (i : ℕ) (p : Port) → slice_get ports i ≡ Some p → get_or (map (λ (q : Port). q.name) ports) i [] ≡ p.name
  named i p at = get_or-map (λ (q : Port). q.name) ports i p [] (slice_get_within ports i p at) ∙ ap (λ (q : Port). q.name) (get_or_from_slice_get ports i p p at)

  -- a port's name tells its number
  pub number_of : (i j : ℕ) (p q : Port) → slice_get ports i ≡ Some p → slice_get ports j ≡ Some q → p.name ≡ q.name → i ≡ j
  number_of i j p q at there e =
      let a : i < length (map (λ (x : Port). x.name) ports) = rw length-map (slice_get_within ports i p at) in
      let b : j < length (map (λ (x : Port). x.name) ports) = rw length-map (slice_get_within ports j q there) in
      told.distinct i j a b (named i p at ∙ e ∙ sym (named j q there))

  some_unique : (p q : Port) → Some p ≡ Some q → p ≡ q
  some_unique p q e = cc

  -- the item of a move at one port
  items : (p q : Port) (a b : Value) (r s : List ℕ) → p ≡ q → IsValid p.kindred → IsIn a p.kindred → IsIn b q.kindred → Stops r → Stops s
      → sign_of p.way ++ (text_of a p.kindred ++ r) ≡ sign_of q.way ++ (text_of b q.kindred ++ s) → (a ≡ b) × (r ≡ s)
  items p q a b r s same valid h g stop end e =
      item_unique p.kindred a b r s valid h (subst (λ (x : Port). IsIn b x.kindred) (sym same) g) stop end
      (append_cancel_left (sign_of p.way) _ _ (e ∙ sym (ap (λ (x : Port). sign_of x.way ++ (text_of b x.kindred ++ s)) same)))

  -- a move, and what comes after it
  pub move_unique : (m n : Move) (r s : List ℕ) → IsMove ports m → IsMove ports n → Stops r → Stops s → move_text ports m ++ r ≡ move_text ports n ++ s → (m ≡ n) × (r ≡ s)
  move_unique m n r s h g stop end e =
      let parts = front_unique IsNameByte h.0.name g.0.name (sign_of h.0.way ++ (text_of m.item h.0.kindred ++ r)) (sign_of g.0.way ++ (text_of n.item g.0.kindred ++ s))
      (bytes_of-name h.0.name (name_at m.port h.0 h.1)) (bytes_of-name g.0.name (name_at n.port g.0 g.1)) (sign_no-name h.0.way _) (sign_no-name g.0.way _)
      (sym (move_at m h.0 r h.1) ∙ e ∙ move_at n g.0 s g.1) in
      let number = number_of m.port n.port h.0 g.0 h.1 g.1 parts.0 in
      let port = some_unique h.0 g.0 (sym h.1 ∙ ap (λ i. slice_get ports i) number ∙ g.1) in
      let rest = items h.0 g.0 m.item n.item r s port (kindred_at m.port h.0 h.1) h.2 g.2 stop end parts.1 in
      ((λ i. record { port = number i; item = rest.0 i }), rest.1)

  -- no move begins with such a byte
  pub move_no-other : (m : Move) (byte : ℕ) (r s : List ℕ) → IsMove ports m → (IsNameByte byte → ⊥) → move_text ports m ++ r ≡ byte ∷ s → ⊥
  move_no-other m byte r s h other e =
      let parts = front_unique IsNameByte h.0.name [] (sign_of h.0.way ++ (text_of m.item h.0.kindred ++ r)) (byte ∷ s)
      (bytes_of-name h.0.name (name_at m.port h.0 h.1)) (All-nil IsNameByte) (sign_no-name h.0.way _) other
      (sym (move_at m h.0 r h.1) ∙ e) in
      subst IsName parts.0 (name_at m.port h.0 h.1)

  bar_no-name : IsNameByte 124 → ⊥
  bar_no-name h = grind arith

  no_bar : (m : Move) (r s : List ℕ) → IsMove ports m → 32 ∷ (move_text ports m ++ r) ≡ codes " | " ++ s → ⊥
  no_bar m r s h e = move_no-other m 124 r (32 ∷ s) h bar_no-name (ap (λ l. drop 1 l) e)

  -- moves are told in a row before the bar
  pub moves_apart : AreToldApart (move_text ports) (IsMove ports) Stops (codes " | ")
  moves_apart = record {
    unique = move_unique;
    after_space = λ r. refl;
    after_last = λ r. refl;
    more_no-last = λ m r s h stop e. no_bar m r s h e;
  }

  small : (byte : ℕ) → (nat_le 97 byte && nat_le byte 122) ≡ true → IsNameByte byte
  small byte h = let both = and_parts _ _ h in inr (inr (inr (leb-true 97 byte both.0, leb-true byte 122 both.1)))

  -- the text of moves where the round was idle begins as no move does
  idle_names : All IsNameByte (codes "idle")
  idle_names = All-cons IsNameByte 105 (codes "dle") (small 105 refl) (All-cons IsNameByte 100 (codes "le") (small 100 refl) (
      All-cons IsNameByte 108 (codes "e") (small 108 refl) (All-cons IsNameByte 101 [] (small 101 refl) (All-nil IsNameByte))))

  space_no-name : (r : List ℕ) → NotFirst IsNameByte (32 ∷ r)
  space_no-name r h = grind arith

  sign_no-space : (way : Way) (r s : List ℕ) → 32 ∷ r ≡ sign_of way ++ s → ⊥
  sign_no-space In r s e = heads_apart 32 33 r s refl e
  sign_no-space Out r s e = heads_apart 32 63 r s refl e

  pub move_no-idle : (m : Move) (r s : List ℕ) → IsMove ports m → codes "idle" ++ (32 ∷ r) ≡ move_text ports m ++ s → ⊥
  move_no-idle m r s h e =
      let parts = front_unique IsNameByte (codes "idle") h.0.name (32 ∷ r) (sign_of h.0.way ++ (text_of m.item h.0.kindred ++ s))
      idle_names (bytes_of-name h.0.name (name_at m.port h.0 h.1)) (space_no-name r) (sign_no-name h.0.way _) (e ∙ move_at m h.0 s h.1) in
      sign_no-space h.0.way r _ parts.1

  dash_no-name : IsNameByte 45 → ⊥
  dash_no-name h = grind arith

  -- what the moves of a line may be: none where the round was idle
  pub record AreMoves (idle : Bool) (moves : List Move) : Type 0 where
    pub each : All (IsMove ports) moves
    pub still : idle ≡ true → moves ≡ []

  row_no-idle : (m : Move) (ms : List Move) (r s : List ℕ) → IsMove ports m → codes "idle" ++ (codes " | " ++ r) ≡ spaced (move_text ports) (m ∷ ms) ++ (codes " | " ++ s) → ⊥
  row_no-idle m ms r s h e =
      let head = row_head (move_text ports) (IsMove ports) Stops (codes " | ") moves_apart m ms s in
      move_no-idle m _ head.0 h (e ∙ head.1)

  row_no-dash : (m : Move) (ms : List Move) (r s : List ℕ) → IsMove ports m → codes "-" ++ (codes " | " ++ r) ≡ spaced (move_text ports) (m ∷ ms) ++ (codes " | " ++ s) → ⊥
  row_no-dash m ms r s h e =
      let head = row_head (move_text ports) (IsMove ports) Stops (codes " | ") moves_apart m ms s in
      move_no-other m 45 head.0 _ h dash_no-name (sym (e ∙ head.1))

  pub moves_unique : (a b : Bool) (ms ns : List Move) (r s : List ℕ) → AreMoves a ms → AreMoves b ns
      → moves_text ports a ms ++ (codes " | " ++ r) ≡ moves_text ports b ns ++ (codes " | " ++ s) → (a ≡ b) × (ms ≡ ns) × (r ≡ s)
  moves_unique true true ms ns r s h g e = (refl, h.still refl ∙ sym (g.still refl), append_cancel_left (codes "idle | ") r s e)
  moves_unique true false ms [] r s h g e = absurd (heads_apart 105 45 _ _ refl e)
  moves_unique true false ms (n ∷ ns) r s h g e = absurd (row_no-idle n ns r s (All-head (IsMove ports) n ns g.each) e)
  moves_unique false true [] ns r s h g e = absurd (heads_apart 45 105 _ _ refl e)
  moves_unique false true (m ∷ ms) ns r s h g e = absurd (row_no-idle m ms s r (All-head (IsMove ports) m ms h.each) (sym e))
  moves_unique false false [] [] r s h g e = (refl, refl, append_cancel_left (codes "- | ") r s e)
  moves_unique false false [] (n ∷ ns) r s h g e = absurd (row_no-dash n ns r s (All-head (IsMove ports) n ns g.each) e)
  moves_unique false false (m ∷ ms) [] r s h g e = absurd (row_no-dash m ms s r (All-head (IsMove ports) m ms h.each) (sym e))
  moves_unique false false (m ∷ ms) (n ∷ ns) r s h g e =
      let parts = row_unique (move_text ports) (IsMove ports) Stops (codes " | ") moves_apart m n ms ns r s h.each g.each e in
      (refl, parts.0, append_cancel_left (codes " | ") r s parts.1)
