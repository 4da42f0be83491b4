-- A page's tree against other limits.
use Rattle.std.proofs.Common.{◌≡◌, ℕ, suc, pred, ◌+◌, ◌<◌, ◌≤◌, ◌⊎◌, inl, inr, List, refl, arith}
use Rattle.std.specs.Bool.{MatchBool}
use Rattle.std.proofs.lemmas.Bool.{cases_Bool, cases_lt}
use Rattle.page_grammar.specs.Names.{is_void}
use Rattle.page_grammar.specs.Page.{Siblings, Nil, TextNode, CommentNode, ElementNode, size, depth, ReachesLabel, IsNil, Content, EndTag}
use Rattle.page_grammar.proofs.Complete.{match_p, match_q}
use Rattle.page_grammar.proofs.Sound.{match_true, match_false}

nil_depth : (k : Siblings) → IsNil k → depth k ≡ 0
nil_depth Nil h = refl
nil_depth k h = elim h [ ]

-- no node stands deeper than the limit
pub depth_fits : (d c n : ℕ) (f : Siblings) (s r : List ℕ) → Content d c n f s r → depth f ≤ d
depth_fits d c n Nil s r h = omega arith
depth_fits d c n (TextNode l t f) s r h = let ih = depth_fits d c (suc n) f h.0 r h.7 in let p = h.3 in omega arith
depth_fits d c n (CommentNode l t f) s r h = let ih = depth_fits d c (suc n) f h.1 r h.7 in let p = h.4 in omega arith
depth_fits d c n (ElementNode l w ts k f) s r h =
    let p = h.5 in
    let kids : suc (depth k) ≤ d = elim (cases_Bool (is_void w)) [
      | inl v ↦ let z = nil_depth k (match_p (is_void w) (IsNil k × (h.0 ≡ h.2)) (Content (pred d) c (suc n) k h.0 h.1 × EndTag w h.1 h.2) v h.7).0 in omega arith
      | inr v ↦ let z = depth_fits (pred d) c (suc n) k h.0 h.1 (match_q (is_void w) (IsNil k × (h.0 ≡ h.2)) (Content (pred d) c (suc n) k h.0 h.1 × EndTag w h.1 h.2) v h.7).0 in omega arith
    ] in
    let ih = depth_fits d c (suc n + size k) f h.2 r h.8 in
    omega arith

-- within d levels, or deeper than d
pub shallow : (e c d n : ℕ) (f : Siblings) (s r : List ℕ) → Content e c n f s r → Content d c n f s r ⊎ (d < depth f)
shallow e c d n Nil s r h = inl h
shallow e c d n (TextNode l t f) s r h =
    elim (cases_lt 0 d) [
      | inl p ↦ elim (shallow e c d (suc n) f h.0 r h.7) [
        | inl z ↦ inl (h.0, h.1, h.2, p, h.4, h.5, h.6, z)
        | inr z ↦ inr (omega arith)
      ]
      | inr p ↦ inr (omega arith)
    ]
shallow e c d n (CommentNode l t f) s r h =
    elim (cases_lt 0 d) [
      | inl p ↦ elim (shallow e c d (suc n) f h.1 r h.7) [
        | inl z ↦ inl (h.0, h.1, h.2, h.3, p, h.5, h.6, z)
        | inr z ↦ inr (omega arith)
      ]
      | inr p ↦ inr (omega arith)
    ]
shallow e c d n (ElementNode l w ts k f) s r h =
    let P = IsNil k × (h.0 ≡ h.2) in
    let Q = Content (pred e) c (suc n) k h.0 h.1 × EndTag w h.1 h.2 in
    let Q2 = Content (pred d) c (suc n) k h.0 h.1 × EndTag w h.1 h.2 in
    let kids : MatchBool (is_void w) P Q2 ⊎ (pred d < depth k) = elim (cases_Bool (is_void w)) [
      | inl v ↦ inl (match_true (is_void w) P Q2 v (match_p (is_void w) P Q v h.7))
      | inr v ↦ let y = match_q (is_void w) P Q v h.7 in
          elim (shallow (pred e) c (pred d) (suc n) k h.0 h.1 y.0) [
            | inl z ↦ inl (match_false (is_void w) P Q2 v (z, y.1))
            | inr z ↦ inr z
          ]
    ] in
    elim (cases_lt 0 d) [
      | inr p ↦ inr (omega arith)
      | inl p ↦ elim kids [
        | inr z ↦ inr (omega arith)
        | inl y ↦ elim (shallow e c d (suc n + size k) f h.2 r h.8) [
          | inl z ↦ inl (h.0, h.1, h.2, h.3, h.4, p, h.6, y, z)
          | inr z ↦ inr (omega arith)
        ]
      ]
    ]

-- all labels below c, or some not
pub labelled_below : (d e c n : ℕ) (f : Siblings) (s r : List ℕ) → Content d e n f s r → Content d c n f s r ⊎ ReachesLabel c f
labelled_below d e c n Nil s r h = inl h
labelled_below d e c n (TextNode l t f) s r h =
    elim (cases_lt n c) [
      | inl p ↦ elim (labelled_below d e c (suc n) f h.0 r h.7) [
        | inl z ↦ inl (h.0, h.1, p, h.3, h.4, h.5, h.6, z)
        | inr z ↦ inr (inr z)
      ]
      | inr p ↦ inr (inl (let q = h.1 in omega arith))
    ]
labelled_below d e c n (CommentNode l t f) s r h =
    elim (cases_lt n c) [
      | inl p ↦ elim (labelled_below d e c (suc n) f h.1 r h.7) [
        | inl z ↦ inl (h.0, h.1, h.2, p, h.4, h.5, h.6, z)
        | inr z ↦ inr (inr z)
      ]
      | inr p ↦ inr (inl (let q = h.2 in omega arith))
    ]
labelled_below d e c n (ElementNode l w ts k f) s r h =
    let P = IsNil k × (h.0 ≡ h.2) in
    let Q = Content (pred d) e (suc n) k h.0 h.1 × EndTag w h.1 h.2 in
    let Q2 = Content (pred d) c (suc n) k h.0 h.1 × EndTag w h.1 h.2 in
    let kids : MatchBool (is_void w) P Q2 ⊎ ReachesLabel c k = elim (cases_Bool (is_void w)) [
      | inl v ↦ inl (match_true (is_void w) P Q2 v (match_p (is_void w) P Q v h.7))
      | inr v ↦ let y = match_q (is_void w) P Q v h.7 in
          elim (labelled_below (pred d) e c (suc n) k h.0 h.1 y.0) [
            | inl z ↦ inl (match_false (is_void w) P Q2 v (z, y.1))
            | inr z ↦ inr z
          ]
    ] in
    elim (cases_lt n c) [
      | inr p ↦ inr (inl (let q = h.3 in omega arith))
      | inl p ↦ elim kids [
        | inr z ↦ inr (inr (inl z))
        | inl y ↦ elim (labelled_below d e c (suc n + size k) f h.2 r h.8) [
          | inl z ↦ inl (h.0, h.1, h.2, h.3, p, h.5, h.6, y, z)
          | inr z ↦ inr (inr (inr z))
        ]
      ]
    ]
