-- The contents after each edit, and the place of a new leaf.
use Rattle.std.proofs.Common.{◌≡◌, ◌≢◌, ℕ, Option, Some, None, refl, ap, ◌∙◌}
use Rattle.std.specs.Option.{option_map}
use Rattle.dom_model.specs.Forest.{Forest, Seen, count_of, IsDistinct, seek, parent_of, content_of, with_leaf, link, unlink, CanPut, relinked, unlinked}
use Rattle.dom_model.proofs.Links.{seek-link, seek-unlink, seek-with_leaf_new, seek-with_leaf_other}

module _ {C : Type 0} where
  pub content_of-link : (f : Forest C) (p : ℕ) (b : Option ℕ) (n l : ℕ) → IsDistinct f → CanPut f p b n → content_of (link f p b n) l ≡ content_of f l
  content_of-link f p b n l once can = ap (option_map (λ (s : Seen C). s.content)) (seek-link f p b n once can l) ∙ by_seen (seek None f l)
    where
      by_seen : (o : Option (Seen C)) → option_map (λ (s : Seen C). s.content) (option_map (relinked p b n l) o) ≡ option_map (λ (s : Seen C). s.content) o
      by_seen None = refl
      by_seen (Some s) = refl

  pub content_of-unlink : (f : Forest C) (p n l : ℕ) → IsDistinct f → parent_of f n ≡ Some p → content_of (unlink f n) l ≡ content_of f l
  content_of-unlink f p n l once child = ap (option_map (λ (s : Seen C). s.content)) (seek-unlink f p n once child l) ∙ by_seen (seek None f l)
    where
      by_seen : (o : Option (Seen C)) → option_map (λ (s : Seen C). s.content) (option_map (unlinked p n l) o) ≡ option_map (λ (s : Seen C). s.content) o
      by_seen None = refl
      by_seen (Some s) = refl

  pub content_of-with_leaf_new : (f : Forest C) (m : ℕ) (c : C) → count_of f m ≡ 0 → content_of (with_leaf f m c) m ≡ Some c
  content_of-with_leaf_new f m c fresh = ap (option_map (λ (s : Seen C). s.content)) (seek-with_leaf_new f m c fresh)

  pub content_of-with_leaf_other : (f : Forest C) (m : ℕ) (c : C) (l : ℕ) → count_of f m ≡ 0 → m ≢ l → content_of (with_leaf f m c) l ≡ content_of f l
  content_of-with_leaf_other f m c l fresh off = ap (option_map (λ (s : Seen C). s.content)) (seek-with_leaf_other f m c fresh None f l off)
