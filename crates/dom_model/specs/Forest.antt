-- Labelled nested lists: their look-ups by label, and their edits.
use Rattle.std.specs.Prelude.{IfSome, ◌≡◌, ℕ, ◌+◌, ◌<◌, ◌≤◌, Bool, false, List, [], ◌∷◌, Option, Some, None, if◌then◌else◌, ◌==◌, nat_lt}
use Rattle.std.specs.Option.{option_map, option_map_or, option_and_then}

-- an ordered list of trees; each tree has a label, a content and a list of children
pub data Forest (C : Type 0) : Type 0 where
  Nil : Forest C
  Tree : (label : ℕ) (content : C) (children : Forest C) (rest : Forest C) → Forest C

-- what a search by label tells: the parent's label, if there is a parent, the content, and the
-- labels of the children in order
pub record Seen (C : Type 0) : Type 0 where
  pub parent : Option ℕ
  pub content : C
  pub children : List ℕ

-- ---- lists of labels

-- the first label
abbrev pub first_in : List ℕ → Option ℕ
first_in [] = None
first_in (x ∷ xs) = Some x

-- the last label
abbrev pub last_or : Option ℕ → List ℕ → Option ℕ
last_or o [] = o
last_or o (x ∷ xs) = last_or (Some x) xs

abbrev pub last_in : List ℕ → Option ℕ
last_in xs = last_or None xs

-- the label before l, where o stands before the list
abbrev pub before_from : Option ℕ → List ℕ → ℕ → Option ℕ
before_from o [] l = None
before_from o (x ∷ xs) l = if x == l then o else before_from (Some x) xs l

abbrev pub before_in : List ℕ → ℕ → Option ℕ
before_in xs l = before_from None xs l

-- the label after l
abbrev pub after_in : List ℕ → ℕ → Option ℕ
after_in [] l = None
after_in (x ∷ xs) l = if x == l then first_in xs else after_in xs l

-- the list with n before b, or at the end where b is None
abbrev pub is_label : Option ℕ → ℕ → Bool
is_label None l = false
is_label (Some m) l = m == l

abbrev pub put_in : List ℕ → Option ℕ → ℕ → List ℕ
put_in [] b n = n ∷ []
put_in (x ∷ xs) b n = if is_label b x then n ∷ x ∷ xs else x ∷ put_in xs b n

-- how often a label stands in a list
abbrev pub times : List ℕ → ℕ → ℕ
times [] l = 0
times (x ∷ xs) l = (if x == l then 1 else 0) + times xs l

-- the label before which a label put before b comes
abbrev pub prior_from : Option ℕ → List ℕ → Option ℕ → Option ℕ
prior_from o xs None = last_or o xs
prior_from o xs (Some m) = before_from o xs m

abbrev pub prior_in : List ℕ → Option ℕ → Option ℕ
prior_in xs b = prior_from None xs b

-- b, if there is one, stands in the list
abbrev pub HasIfSome : List ℕ → Option ℕ → Type 0
HasIfSome xs None = Unit {0}
HasIfSome xs (Some m) = 0 < times xs m

-- the list without n
abbrev pub taken_from : List ℕ → ℕ → List ℕ
taken_from [] n = []
taken_from (x ∷ xs) n = if x == n then xs else x ∷ taken_from xs n

-- the first of two that is there
abbrev pub either : {A : Type 0} → Option A → Option A → Option A
either None p = p
either (Some x) p = Some x

-- ---- forests

module _ {C : Type 0} where
  -- one forest after another
  abbrev pub join : Forest C → Forest C → Forest C
  join Nil g = g
  join (Tree l c ks rest) g = Tree l c ks (join rest g)

  -- the labels of the trees of a forest, in order
  abbrev pub tops : Forest C → List ℕ
  tops Nil = []
  tops (Tree l c ks rest) = l ∷ tops rest

  -- the sum of a number for each node
  abbrev pub total : (ℕ → C → ℕ) → Forest C → ℕ
  total w Nil = 0
  total w (Tree l c ks rest) = w l c + (total w ks + total w rest)

  -- how many nodes have a label
  abbrev pub count_of : Forest C → ℕ → ℕ
  count_of f l = total (λ m _. if m == l then 1 else 0) f

  -- no label stands twice
  abbrev pub IsDistinct : Forest C → Type 0
  IsDistinct f = (l : ℕ) → count_of f l ≤ 1

  -- what stands at a label, where the trees of the forest have this parent
  abbrev pub seek : Option ℕ → Forest C → ℕ → Option (Seen C)
  seek p Nil l = None
  seek p (Tree m c ks rest) l =
      if m == l then Some (record { parent = p; content = c; children = tops ks })
      else either (seek (Some m) ks l) (seek p rest l)

  -- the label of the parent of l
  abbrev pub parent_of : Forest C → ℕ → Option ℕ
  parent_of f l = option_and_then (λ s. s.parent) (seek None f l)

  -- the labels of the children of l
  abbrev pub children_of : Forest C → ℕ → List ℕ
  children_of f l = option_map_or (λ s. s.children) (seek None f l) []

  -- the content of l
  abbrev pub content_of : Forest C → ℕ → Option C
  content_of f l = option_map (λ s. s.content) (seek None f l)

  -- first and last child, and the neighbours
  abbrev pub first_of : Forest C → ℕ → Option ℕ
  first_of f l = first_in (children_of f l)

  abbrev pub last_of : Forest C → ℕ → Option ℕ
  last_of f l = last_in (children_of f l)

  abbrev pub prev_of : Forest C → ℕ → Option ℕ
  prev_of f l = option_and_then (λ p. before_in (children_of f p) l) (parent_of f l)

  abbrev pub next_of : Forest C → ℕ → Option ℕ
  next_of f l = option_and_then (λ p. after_in (children_of f p) l) (parent_of f l)

  -- the labels in tree order
  abbrev pub preorder_onto : Forest C → List ℕ → List ℕ
  preorder_onto Nil ls = ls
  preorder_onto (Tree l c ks rest) ls = l ∷ preorder_onto ks (preorder_onto rest ls)

  abbrev pub preorder : Forest C → List ℕ
  preorder f = preorder_onto f []

  -- the tree of a label, alone
  abbrev pub tree_of : Forest C → ℕ → Forest C
  tree_of Nil n = Nil
  tree_of (Tree m c ks rest) n =
      if m == n then Tree m c ks Nil else join (tree_of ks n) (tree_of rest n)

  -- the forest with the tree of a label taken out
  abbrev pub without : Forest C → ℕ → Forest C
  without Nil n = Nil
  without (Tree m c ks rest) n =
      if m == n then rest else Tree m c (without ks n) (without rest n)

  -- t before the tree of label b, or at the end where b is None
  abbrev pub put_before : Forest C → Option ℕ → Forest C → Forest C
  put_before Nil b t = t
  put_before (Tree m c ks rest) b t =
      if is_label b m then join t (Tree m c ks rest) else Tree m c ks (put_before rest b t)

  -- t among the children of p, before b or at the end
  abbrev pub put_under : Forest C → ℕ → Option ℕ → Forest C → Forest C
  put_under Nil p b t = Nil
  put_under (Tree m c ks rest) p b t =
      if m == p then Tree m c (put_before ks b t) rest
      else Tree m c (put_under ks p b t) (put_under rest p b t)

  -- t, whose label is l, among trees whose labels rise
  abbrev pub put_rising : Forest C → ℕ → Forest C → Forest C
  put_rising Nil l t = t
  put_rising (Tree m c ks rest) l t =
      if nat_lt l m then join t (Tree m c ks rest) else Tree m c ks (put_rising rest l t)

  -- the tree of n put under p, before b or at the end
  abbrev pub link : Forest C → ℕ → Option ℕ → ℕ → Forest C
  link f p b n = put_under (without f n) p b (tree_of f n)

  -- the tree of n made loose
  abbrev pub unlink : Forest C → ℕ → Forest C
  unlink f n = put_rising (without f n) n (tree_of f n)

  -- the labels of the trees rise, and are not below low
  abbrev pub RisesFrom : ℕ → Forest C → Type 0
  RisesFrom low Nil = Unit {0}
  RisesFrom low (Tree m c ks rest) = (low ≤ m) × RisesFrom (m + 1) rest

  -- n can be put under p, before b: p is there, n is a root of the forest other than the document
  -- (label 0), its tree doesn't hold p, and b, if there is one, is a child of p
  pub record CanPut (f : Forest C) (p : ℕ) (b : Option ℕ) (n : ℕ) : Type 0 where
    pub parent : 0 < count_of f p
    pub node : 0 < count_of f n
    pub inner : 0 < n
    pub loose : parent_of f n ≡ None
    pub apart : count_of (tree_of f n) p ≡ 0
    pub before : IfSome b (λ m. parent_of f m ≡ Some p)

  -- what stands at l after a link
  abbrev pub relinked : ℕ → Option ℕ → ℕ → ℕ → Seen C → Seen C
  relinked p b n l s = record {
    parent = if n == l then Some p else s.parent;
    content = s.content;
    children = if p == l then put_in s.children b n else s.children;
  }

  -- what stands at l after the tree of n, a child of p, is made loose
  abbrev pub unlinked : ℕ → ℕ → ℕ → Seen C → Seen C
  unlinked p n l s = record {
    parent = if n == l then None else s.parent;
    content = s.content;
    children = if p == l then taken_from s.children n else s.children;
  }

  -- a node of this label and content, without children, as the last tree
  abbrev pub with_leaf : Forest C → ℕ → C → Forest C
  with_leaf f l c = join f (Tree l c Nil Nil)

  -- l is n or stands below it
  abbrev pub IsWithin : Forest C → ℕ → ℕ → Type 0
  IsWithin f n l = 0 < count_of (tree_of f n) l

  -- how far l is below the root of its tree
  abbrev pub depth_from : ℕ → Forest C → ℕ → Option ℕ
  depth_from d Nil l = None
  depth_from d (Tree m c ks rest) l =
      if m == l then Some d else either (depth_from (d + 1) ks l) (depth_from d rest l)

  abbrev pub depth_of : Forest C → ℕ → ℕ
  depth_of f l = option_map_or (λ d. d) (depth_from 0 f l) 0
