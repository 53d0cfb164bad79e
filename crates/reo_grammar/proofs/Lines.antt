-- What tokens say does not hang on their lines.
use Rattle.std.proofs.Common.{◌≡◌, ℕ, zero, suc, List, [], ◌∷◌, ◌++◌, inl, inr, refl, ◌∙◌, ap}
use Rattle.reo_grammar.specs.Tokens.{Lexeme, Class, matches, Alike}
use Rattle.reo_grammar.specs.Tokens.Class.{fixed, among, other, name, named, number, text}
use Rattle.reo_grammar.specs.Grammar.{Grammar, Derives, Links, Within, Says, line_of}
use Rattle.reo_grammar.specs.Grammar.Grammar.{nothing, token, both, made, either, chain, lined, rule}

-- A class goes by kind and bytes.
pub matches-alike : (c : Class) (t u : Lexeme) → t.kind ≡ u.kind → t.bytes ≡ u.bytes → matches c u ≡ matches c t
matches-alike (fixed b) t u k w = rw (k, w) refl
matches-alike (among bs) t u k w = rw (k, w) refl
matches-alike (other b) t u k w = rw (k, w) refl
matches-alike name t u k w = rw k refl
matches-alike (named b) t u k w = rw (k, w) refl
matches-alike (number l m) t u k w = rw (k, w) refl
matches-alike text t u k w = rw k refl

-- What is like two parts has two parts like these.
pub parts : (a b us : List Lexeme) → Alike (a ++ b) us → (c : List Lexeme) × (d : List Lexeme) × (us ≡ c ++ d) × Alike a c × Alike b d
parts [] b us h = ([], us, refl, tt, h)
parts (t ∷ a) b [] h = absurd h
parts (t ∷ a) b (u ∷ us) (k, w, h) = let (c, d, e, p, q) = parts a b us h in (u ∷ c, d, ap (λ l. u ∷ l) e, (k, w, p), q)

-- Like tokens are derived, of some other tree.
abbrev pub Follows : {A : Type 0} → (List Lexeme → A → Type 0) → Type 0
Follows {A = A} D = (ts us : List Lexeme) (x : A) → Alike ts us → D ts x → (y : A) × D us y

links-alike : {A B : Type 0} (f : A → B → A) (D : List Lexeme → A → Type 0) (H : List Lexeme → B → Type 0) → Follows D → Follows H
    → (n : ℕ) (ts us : List Lexeme) (x : A) → Alike ts us → Links f D H n ts x → (y : A) × Links f D H n us y
links-alike f D H p q zero ts us x a l = p ts us x a l
links-alike f D H p q (suc n) ts us x al (a, b, y, z, w, l, h, v) =
    let (c, d, e, i, j) = parts a b us (rw w at al) in
    let (y2, l2) = links-alike f D H p q n a c y i l in
    let (z2, h2) = q b d z j h in
    (f y2 z2, (c, d, y2, z2, e, l2, h2, refl))

pub derives-alike : {Ref : Type 0} {tree : Ref → Type 0} {A : Type 0} (R : (r : Ref) → List Lexeme → tree r → Type 0) → ((r : Ref) → Follows (R r)) → (g : Grammar Ref tree A) → Follows (Derives R g)
derives-alike R each (nothing x) [] [] y a (e, w) = (x, (refl, refl))
derives-alike R each (nothing x) [] (u ∷ us) y a (e, w) = absurd a
derives-alike R each (nothing x) (t ∷ ts) us y a (e, w) = absurd (cc)
derives-alike R each (token c) [] us y a (e, w) = absurd (cc)
derives-alike R each (token c) (t ∷ ts) [] y a (e, w) = absurd a
derives-alike R each (token c) (t ∷ []) (u ∷ []) y (k, b, a) (e, w) = let i : t ≡ y = cc in (u, (refl, matches-alike c t u k b ∙ (rw i w)))
derives-alike R each (token c) (t ∷ []) (u ∷ v ∷ us) y (k, b, a) (e, w) = absurd a
derives-alike R each (token c) (t ∷ s ∷ ts) (u ∷ us) y a (e, w) = absurd (cc)
derives-alike R each (both f g h) ts us z al (a, b, x, y, w, d1, d2, v) =
    let (c, d, e, i, j) = parts a b us (rw w at al) in
    let (x2, k1) = derives-alike R each g a c x i d1 in
    let (y2, k2) = derives-alike R each h b d y j d2 in
    (f x2 y2, (c, d, x2, y2, e, k1, k2, refl))
derives-alike R each (made f g) ts us z al (x, d, v) = let (y, e) = derives-alike R each g ts us x al d in (f y, (y, e, refl))
derives-alike R each (either c g h) ts us x al (inl d) = let (y, e) = derives-alike R each g ts us x al d in (y, inl e)
derives-alike R each (either c g h) ts us x al (inr d) = let (y, e) = derives-alike R each h ts us x al d in (y, inr e)
derives-alike R each (chain f c g h) ts us x al (n, l) =
    let (y, e) = links-alike f (Derives R g) (Derives R h) (derives-alike R each g) (derives-alike R each h) n ts us x al l in (y, (n, e))
derives-alike R each (lined f g) ts us z al (x, d, v) = let (y, e) = derives-alike R each g ts us x al d in (f (line_of us) y, (y, e, refl))
derives-alike R each (rule r) ts us x al d = each r ts us x al d

within-alike : {Ref : Type 0} {tree : Ref → Type 0} (rules : (r : Ref) → Grammar Ref tree (tree r)) (k : ℕ) (r : Ref) → Follows (Within rules k r)
within-alike rules zero r ts us x a d = absurd d
within-alike rules (suc k) r ts us x a d = derives-alike (Within rules k) (within-alike rules k) (rules r) ts us x a d

-- Like tokens say something too.
pub says-alike : {Ref : Type 0} {tree : Ref → Type 0} {A : Type 0} (rules : (r : Ref) → Grammar Ref tree (tree r)) (g : Grammar Ref tree A) (ts us : List Lexeme) (x : A)
    → Alike ts us → Says rules g ts x → (y : A) × Says rules g us y
says-alike rules g ts us x a (k, d) = let (y, e) = derives-alike (Within rules k) (within-alike rules k) g ts us x a d in (y, (k, e))
