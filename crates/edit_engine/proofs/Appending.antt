-- One text after another appended.
use Rattle.std.proofs.Common.{◌≡◌, ℕ, List, ◌++◌, append_assoc, ap, ◌∙◌}

pub appended_two : (a b c x y : List ℕ) → b ≡ a ++ x → c ≡ b ++ y → c ≡ a ++ (x ++ y)
appended_two a b c x y e f = f ∙ (ap (λ t. t ++ y) e ∙ append_assoc a x y)

pub appended_three : (a b c d x y z : List ℕ) → b ≡ a ++ x → c ≡ b ++ y → d ≡ c ++ z → d ≡ a ++ (x ++ y ++ z)
appended_three a b c d x y z e f g = appended_two a c d (x ++ y) z (appended_two a b c x y e f) g

pub appended_four : (a b c d e w x y z : List ℕ) → b ≡ a ++ w → c ≡ b ++ x → d ≡ c ++ y → e ≡ d ++ z → e ≡ a ++ (w ++ x ++ y ++ z)
appended_four a b c d e w x y z p q r s = appended_two a d e (w ++ x ++ y) z (appended_three a b c d w x y p q r) s
