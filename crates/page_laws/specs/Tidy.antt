-- Trees as reading leaves them: texts are maximal runs, and labels are drawn in tree order. And any
-- tree made so.
use Rattle.std.specs.Prelude.{◌≡◌, ℕ, suc, ◌<◌, List, [], ◌∷◌, ◌++◌, length}
use Rattle.page_grammar.specs.DomModel.declared.Content.{Content}
use Rattle.page_grammar.specs.DomModel.declared.Content.TheVariants.{Document, Element, Words, Remark}
use Rattle.page_grammar.specs.DomModel.Forest.{Forest}
use Rattle.page_grammar.specs.DomModel.Forest.Forest.{Nil, Tree}

-- its first tree is no text
abbrev pub NotWords : Forest Content → Type 0
NotWords Nil = Unit {0}
NotWords (Tree l Document ks f) = Unit {0}
NotWords (Tree l (Element w list) ks f) = Unit {0}
NotWords (Tree l (Words t) ks f) = ⊥
NotWords (Tree l (Remark t) ks f) = Unit {0}

-- no text is empty, and no two texts stand side by side
abbrev pub IsTidy : Forest Content → Type 0
IsTidy Nil = Unit {0}
IsTidy (Tree l Document ks f) = IsTidy ks × IsTidy f
IsTidy (Tree l (Element w list) ks f) = IsTidy ks × IsTidy f
IsTidy (Tree l (Words t) ks f) = (0 < length t) × NotWords f × IsTidy f
IsTidy (Tree l (Remark t) ks f) = IsTidy f

-- the label after those of its nodes, where they are drawn from n on
abbrev pub label_after : ℕ → Forest Content → ℕ
label_after n Nil = n
label_after n (Tree l c ks f) = label_after (label_after (suc n) ks) f

-- its labels are those from n on, in tree order, and all below c
abbrev pub IsNumbered : (c n : ℕ) → Forest Content → Type 0
IsNumbered c n Nil = Unit {0}
IsNumbered c n (Tree l x ks f) =
    (l ≡ n) × (n < c) × IsNumbered c (suc n) ks × IsNumbered c (label_after (suc n) ks) f

-- a text before others: an empty one is left out, and one before a text is joined to it
abbrev pub words_before : ℕ → List ℕ → Forest Content → Forest Content
words_before l t Nil = Tree l (Words t) Nil Nil
words_before l t (Tree m Document ks f) = Tree l (Words t) Nil (Tree m Document ks f)
words_before l t (Tree m (Element w list) ks f) =
    Tree l (Words t) Nil (Tree m (Element w list) ks f)
words_before l t (Tree m (Words u) ks f) = Tree l (Words (t ++ u)) Nil f
words_before l t (Tree m (Remark u) ks f) = Tree l (Words t) Nil (Tree m (Remark u) ks f)

abbrev pub with_words : ℕ → List ℕ → Forest Content → Forest Content
with_words l [] f = f
with_words l (x ∷ xs) f = words_before l (x ∷ xs) f

-- with texts side by side joined, and empty ones gone
abbrev pub tidied : Forest Content → Forest Content
tidied Nil = Nil
tidied (Tree l Document ks f) = Tree l Document (tidied ks) (tidied f)
tidied (Tree l (Element w list) ks f) = Tree l (Element w list) (tidied ks) (tidied f)
tidied (Tree l (Words t) ks f) = with_words l t (tidied f)
tidied (Tree l (Remark t) ks f) = Tree l (Remark t) ks (tidied f)

-- with the labels from n on, in tree order
abbrev pub numbered : ℕ → Forest Content → Forest Content
numbered n Nil = Nil
numbered n (Tree l c ks f) =
    Tree n c (numbered (suc n) ks) (numbered (label_after (suc n) ks) f)
