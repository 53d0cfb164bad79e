-- Texts that are added one by one.
use Rattle.std.proofs.Common.{◌≡◌, ◌∙◌, ℕ, List, ◌++◌, ap, append_assoc}

pub three : (t u v w a b c : List ℕ) → u ≡ t ++ a → v ≡ u ++ b → w ≡ v ++ c → w ≡ t ++ (a ++ (b ++ c))
three t u v w a b c p q r = r ∙ ap (λ l. l ++ c) q ∙ append_assoc u b c ∙ ap (λ l. l ++ (b ++ c)) p ∙ append_assoc t a (b ++ c)

pub six : (t u v w x y z a b c d e f : List ℕ) → u ≡ t ++ a → v ≡ u ++ b → w ≡ v ++ c → x ≡ w ++ d → y ≡ x ++ e → z ≡ y ++ f
    → z ≡ t ++ (a ++ (b ++ (c ++ (d ++ (e ++ f)))))
six t u v w x y z a b c d e f p q r s g h =
    three w x y z d e f s g h ∙ ap (λ l. l ++ (d ++ (e ++ f))) (three t u v w a b c p q r) ∙ append_assoc t (a ++ (b ++ c)) (d ++ (e ++ f))
    ∙ ap (λ l. t ++ l) (append_assoc a (b ++ c) (d ++ (e ++ f)) ∙ ap (λ l. a ++ l) (append_assoc b c (d ++ (e ++ f))))
