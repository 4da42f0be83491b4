-- The two first words of the options, and that `order_of` decides the grammar.
use Rattle.std.proofs.Common.{◌≡◌, ◌↔◌, ℕ, ◌≤◌, Bool, true, false, cond, List, [], ◌∷◌, ◌++◌, length, take, drop, map, get_or, codes, Option, Some, None, nat_eq, refl, sym, ◌∙◌, ap, subst, inl, inr, arith}
use Rattle.std.specs.Bool.{Decides}
use Rattle.std.specs.List.{starts_with}
use Rattle.std.specs.Option.{option_map, option_and_then, option_map_or}
use Rattle.std.specs.Str.{bytes_eq}
use Rattle.std.proofs.lemmas.List.{take-append-drop}
use Rattle.std.proofs.lemmas.Slice.Eq.{bytes_eq-Decides}
use Rattle.edit_session.specs.declared.words.Setting.{Setting}
use Rattle.edit_session.specs.declared.words.Setting.TheVariants.{Cap, Undo, Deny}
use Rattle.edit_session.specs.Words.{Order, Run, Check, Replay, Bulk, Choice, Given, name_of, choice_of, is_given, with_choice, none_given, setting_named, setting_joined, setting_read, joined_read, options_read, run_of, order_of, plain_order, bulk_count_of, IsSetting, AreSettings, IsOrder}

-- ---- the two first words

pub named_first : {W : Type 0} (f : W → List ℕ) (o p : Given) (s : Setting) (words rest : List W) (word text : W) (w t : List ℕ)
    → 2 ≤ length words → word ≡ get_or words 0 word → text ≡ get_or words 1 text → rest ≡ drop 2 words → w ≡ f word → t ≡ f text
    → Some s ≡ setting_named w → Some p ≡ setting_read o s t → options_read p (map f rest) ≡ options_read o (map f words)
named_first f o p s [] rest word text w t some h0 h1 er ew et es ep = absurd (omega arith)
named_first f o p s (x ∷ []) rest word text w t some h0 h1 er ew et es ep = absurd (omega arith)
named_first f o p s (x ∷ (y ∷ ws)) rest word text w t some h0 h1 er ew et es ep =
    let a : f x ≡ w = ap f (sym h0) ∙ sym ew in
    let b : f y ≡ t = ap f (sym h1) ∙ sym et in
    rw (a, b, ← es) (rw (← ep, er) refl)

pub joined_first : {W : Type 0} (f : W → List ℕ) (o p : Given) (words rest : List W) (word : W) (w v : List ℕ)
    → 2 ≤ length words → word ≡ get_or words 0 word → rest ≡ drop 1 words → w ≡ f word → v ≡ f word
    → None ≡ setting_named w → Some p ≡ joined_read o v → options_read p (map f rest) ≡ options_read o (map f words)
joined_first f o p [] rest word w v some h0 er ew ev es ep = absurd (omega arith)
joined_first f o p (x ∷ []) rest word w v some h0 er ew ev es ep = absurd (omega arith)
joined_first f o p (x ∷ (y ∷ ws)) rest word w v some h0 er ew ev es ep =
    let a : f x ≡ w = ap f (sym h0) ∙ sym ew in
    let b : v ≡ w = ev ∙ sym ew in
    let e : Some p ≡ joined_read o w = subst (λ u. Some p ≡ joined_read o u) b ep in
    rw (a, ← es) (rw (← e, er) refl)

-- ---- settings

some-is : {A : Type 0} {a b : A} → Some a ≡ Some b → a ≡ b
some-is e = cc

pub record Both {A B : Type 0} (f : A → Option B) (o : Option A) (b : B) : Type 0 where
  pub first : A
  pub was : o ≡ Some first
  pub then_b : f first ≡ Some b

and_then-some : {A B : Type 0} (f : A → Option B) (o : Option A) (b : B) → option_and_then f o ≡ Some b → Both f o b
and_then-some f None b e = absurd (cc)
and_then-some f (Some a) b e = record { first = a; was = refl; then_b = e }

name-by : (w : List ℕ) (s : Setting) (a b d : Bool) → Decides a (w ≡ codes "--cap") → Decides b (w ≡ codes "--undo") → Decides d (w ≡ codes "--deny")
    → cond a (Some Cap) (cond b (Some Undo) (cond d (Some Deny) None)) ≡ Some s → w ≡ name_of s
name-by w s true b d da db dd e = da.0 refl ∙ ap name_of (some-is e)
name-by w s false true d da db dd e = db.0 refl ∙ ap name_of (some-is e)
name-by w s false false true da db dd e = dd.0 refl ∙ ap name_of (some-is e)
name-by w s false false false da db dd e = absurd (cc)

name-is : (w : List ℕ) (s : Setting) → setting_named w ≡ Some s → w ≡ name_of s
name-is w s e =
    name-by w s (bytes_eq w (codes "--cap")) (bytes_eq w (codes "--undo")) (bytes_eq w (codes "--deny"))
    (bytes_eq-Decides w (codes "--cap")) (bytes_eq-Decides w (codes "--undo")) (bytes_eq-Decides w (codes "--deny")) e

begins : (w name : List ℕ) → starts_with nat_eq w name ≡ true → w ≡ name ++ drop (length name) w
begins w name is =
    let e : name ≡ take (length name) w = (bytes_eq-Decides name (take (length name) w)).0 is in
    subst (λ h. w ≡ h ++ drop (length name) w) (sym e) (sym (take-append-drop (length name) w))

joined-by : (w : List ℕ) (q : Setting × List ℕ) (a b d : Bool) → (a ≡ true → w ≡ codes "--cap=" ++ drop 6 w) → (b ≡ true → w ≡ codes "--undo=" ++ drop 7 w) → (d ≡ true → w ≡ codes "--deny=" ++ drop 7 w)
    → cond a (Some (Cap, drop 6 w)) (cond b (Some (Undo, drop 7 w)) (cond d (Some (Deny, drop 7 w)) None)) ≡ Some q → w ≡ name_of q.0 ++ codes "=" ++ q.1
joined-by w q true b d da db dd e =
    let f : (Cap, drop 6 w) ≡ q = some-is e in
    subst (λ (q : Setting × List ℕ). w ≡ name_of q.0 ++ codes "=" ++ q.1) f (da refl)
joined-by w q false true d da db dd e =
    let f : (Undo, drop 7 w) ≡ q = some-is e in
    subst (λ (q : Setting × List ℕ). w ≡ name_of q.0 ++ codes "=" ++ q.1) f (db refl)
joined-by w q false false true da db dd e =
    let f : (Deny, drop 7 w) ≡ q = some-is e in
    subst (λ (q : Setting × List ℕ). w ≡ name_of q.0 ++ codes "=" ++ q.1) f (dd refl)
joined-by w q false false false da db dd e = absurd (cc)

joined-is : (w : List ℕ) (q : Setting × List ℕ) → setting_joined w ≡ Some q → w ≡ name_of q.0 ++ codes "=" ++ q.1
joined-is w q e =
    joined-by w q _ _ _ (begins w (codes "--cap=")) (begins w (codes "--undo=")) (begins w (codes "--deny=")) e

pub record Reads (o : Given) (s : Setting) (text : List ℕ) (p : Given) : Type 0 where
  pub choice : Choice
  pub is : choice_of s text ≡ Some choice
  pub new : is_given o s ≡ false
  pub then_p : with_choice o choice ≡ p

reads-by : (o : Given) (s : Setting) (text : List ℕ) (p : Given) (g : Bool) (a : Option Choice) → is_given o s ≡ g → choice_of s text ≡ a
    → cond g None (option_map (with_choice o) a) ≡ Some p → Reads o s text p
reads-by o s text p true a eg ea e = absurd (cc)
reads-by o s text p false None eg ea e = absurd (cc)
reads-by o s text p false (Some x) eg ea e = record { choice = x; is = ea; new = eg; then_p = some-is e }

reads-is : (o : Given) (s : Setting) (text : List ℕ) (p : Given) → setting_read o s text ≡ Some p → Reads o s text p
reads-is o s text p e = reads-by o s text p (is_given o s) (choice_of s text) refl refl e

reads-back : (o : Given) (s : Setting) (text : List ℕ) (x : Choice) → choice_of s text ≡ Some x → is_given o s ≡ false → setting_read o s text ≡ Some (with_choice o x)
reads-back o s text x amount new = rw (new, amount) refl

-- ---- the options

name-named : (s : Setting) → setting_named (name_of s) ≡ Some s
name-named Cap = refl
name-named Undo = refl
name-named Deny = refl

joined-not_named : (s : Setting) (text : List ℕ) → setting_named (name_of s ++ codes "=" ++ text) ≡ None
joined-not_named Cap text = refl
joined-not_named Undo text = refl
joined-not_named Deny text = refl

joined-joined : (s : Setting) (text : List ℕ) → setting_joined (name_of s ++ codes "=" ++ text) ≡ Some (s, text)
joined-joined Cap text = refl
joined-joined Undo text = refl
joined-joined Deny text = refl

joined-back : (o : Given) (s : Setting) (text : List ℕ) (x : Choice) → choice_of s text ≡ Some x → is_given o s ≡ false
    → joined_read o (name_of s ++ codes "=" ++ text) ≡ Some (with_choice o x)
joined-back o s text x amount new = rw (joined-joined s text) (reads-back o s text x amount new)

two-back : (o p : Given) (s : Setting) (text : List ℕ) (x : Choice) (rest : List (List ℕ)) → choice_of s text ≡ Some x → is_given o s ≡ false
    → options_read (with_choice o x) rest ≡ Some p → options_read o (name_of s ∷ (text ∷ rest)) ≡ Some p
two-back o p s text x rest amount new more = rw (name-named s) (rw (reads-back o s text x amount new) more)

one-back : (o p : Given) (s : Setting) (text : List ℕ) (x : Choice) (rest : List (List ℕ)) → choice_of s text ≡ Some x → is_given o s ≡ false
    → options_read (with_choice o x) rest ≡ Some p → options_read o ((name_of s ++ codes "=" ++ text) ∷ rest) ≡ Some p
one-back o p s text x [] amount new more = joined-back o s text x amount new ∙ more
one-back o p s text x (next ∷ rest) amount new more = rw (joined-not_named s text) (rw (joined-back o s text x amount new) more)

settings-read : (xs : List (Setting × Choice)) (words : List (List ℕ)) (o p : Given) → AreSettings xs words o p → options_read o words ≡ Some p
settings-read [] words o p are = rw are.0 (ap Some are.1)
settings-read (x ∷ xs) words o p (rest, is, new, more) =
    let tail = settings-read xs rest (with_choice o x.1) p more in
    elim is.2 [
      | inl e ↦ rw e (two-back o p x.0 is.0 x.1 rest is.1 new tail)
      | inr e ↦ rw e (one-back o p x.0 is.0 x.1 rest is.1 new tail)
    ]

pub record Settings (words : List (List ℕ)) (o p : Given) : Type 0 where
  pub list : List (Setting × Choice)
  pub are : AreSettings list words o p

settings-more : (o p : Given) (s : Setting) (x : Choice) (words rest : List (List ℕ)) → IsSetting s x words rest → is_given o s ≡ false
    → Settings rest (with_choice o x) p → Settings words o p
settings-more o p s x words rest is new more = record { list = (s, x) ∷ more.list; are = (rest, is, new, more.are) }

read-settings : (o p : Given) (words : List (List ℕ)) → options_read o words ≡ Some p → Settings words o p
read-settings o p [] e = record { list = []; are = (refl, some-is e) }
read-settings o p (word ∷ []) e =
    let j = and_then-some (λ q. setting_read o q.0 q.1) (setting_joined word) p e in
    let r = reads-is o j.first.0 j.first.1 p j.then_b in
    settings-more o p j.first.0 r.choice (word ∷ []) [] (j.first.1, r.is, inr (ap (λ w. w ∷ []) (joined-is word j.first j.was))) r.new
    (record { list = []; are = (refl, r.then_p) })
read-settings o p (word ∷ (text ∷ words)) e =
    elim (setting_named word) as (λ (n : Option Setting). setting_named word ≡ n
    → option_map_or (λ s. option_and_then (λ q. options_read q words) (setting_read o s text)) n (option_and_then (λ q. options_read q (text ∷ words)) (joined_read o word)) ≡ Some p
    → Settings (word ∷ (text ∷ words)) o p) [
      | Some s ↦ λ was e.
          let t = and_then-some (λ q. options_read q words) (setting_read o s text) p e in
          let r = reads-is o s text t.first t.was in
          settings-more o p s r.choice (word ∷ (text ∷ words)) words (text, r.is, inl (ap (λ w. w ∷ (text ∷ words)) (name-is word s was))) r.new
          (read-settings (with_choice o r.choice) p words (subst (λ (q : Given). options_read q words ≡ Some p) (sym r.then_p) t.then_b))
      | None ↦ λ was e.
          let t = and_then-some (λ q. options_read q (text ∷ words)) (joined_read o word) p e in
          let j = and_then-some (λ q. setting_read o q.0 q.1) (setting_joined word) t.first t.was in
          let r = reads-is o j.first.0 j.first.1 t.first j.then_b in
          settings-more o p j.first.0 r.choice (word ∷ (text ∷ words)) (text ∷ words) (j.first.1, r.is, inr (ap (λ w. w ∷ (text ∷ words)) (joined-is word j.first j.was))) r.new
          (read-settings (with_choice o r.choice) p (text ∷ words) (subst (λ (q : Given). options_read q (text ∷ words) ≡ Some p) (sym r.then_p) t.then_b))
    ] refl e

-- ---- the order

is_run : (word : List ℕ) (words : List (List ℕ)) (o : Order) (p : Given) → word ≡ codes "run" → options_read none_given words ≡ Some p → run_of p ≡ o
    → IsOrder (word ∷ words) o
is_run word words o p w r e =
    let s = read-settings none_given p words r in
    subst (λ (o : Order). IsOrder (word ∷ words) o) e (s.list, words, p, ap (λ x. x ∷ words) w, s.are, refl)

lone-by : (word : List ℕ) (o : Order) (a b : Bool) → Decides a (word ≡ codes "check") → Decides b (word ≡ codes "replay")
    → cond a (Some Check) (cond b (Some Replay) None) ≡ Some o → IsOrder (word ∷ []) o
lone-by word o true b da db e = subst (λ (o : Order). IsOrder (word ∷ []) o) (some-is e) (ap (λ x. x ∷ []) (da.0 refl))
lone-by word o false true da db e = subst (λ (o : Order). IsOrder (word ∷ []) o) (some-is e) (ap (λ x. x ∷ []) (db.0 refl))
lone-by word o false false da db e = absurd (cc)

bulk-by : (word text : List ℕ) (o : Order) (a : Bool) (n : Option ℕ) → Decides a (word ≡ codes "bulk") → bulk_count_of text ≡ n
    → cond a (option_map Bulk n) None ≡ Some o → IsOrder (word ∷ (text ∷ [])) o
bulk-by word text o true None da is e = absurd (cc)
bulk-by word text o true (Some n) da is e =
    subst (λ (o : Order). IsOrder (word ∷ (text ∷ [])) o) (some-is e) (text, ap (λ x. x ∷ (text ∷ [])) (da.0 refl), is)
bulk-by word text o false n da is e = absurd (cc)

plain-sound : (word : List ℕ) (words : List (List ℕ)) (o : Order) → plain_order word words ≡ Some o → IsOrder (word ∷ words) o
plain-sound word [] o e =
    lone-by word o (bytes_eq word (codes "check")) (bytes_eq word (codes "replay")) (bytes_eq-Decides word (codes "check")) (bytes_eq-Decides word (codes "replay")) e
plain-sound word (text ∷ []) o e =
    bulk-by word text o (bytes_eq word (codes "bulk")) (bulk_count_of text) (bytes_eq-Decides word (codes "bulk")) refl e
plain-sound word (text ∷ (more ∷ words)) o e = absurd (cc)

run-by : (word : List ℕ) (words : List (List ℕ)) (o : Order) (r : Option Given) → options_read none_given words ≡ r → word ≡ codes "run"
    → option_map run_of r ≡ Some o → IsOrder (word ∷ words) o
run-by word words o None er w e = absurd (cc)
run-by word words o (Some p) er w e = is_run word words o p w er (some-is e)

order-by : (word : List ℕ) (words : List (List ℕ)) (o : Order) (a : Bool) → Decides a (word ≡ codes "run")
    → cond a (option_map run_of (options_read none_given words)) (plain_order word words) ≡ Some o → IsOrder (word ∷ words) o
order-by word words o true da e = run-by word words o (options_read none_given words) refl (da.0 refl) e
order-by word words o false da e = plain-sound word words o e

order-sound : (words : List (List ℕ)) (o : Order) → order_of words ≡ Some o → IsOrder words o
order-sound [] o e = absurd (cc)
order-sound (word ∷ words) o e = order-by word words o (bytes_eq word (codes "run")) (bytes_eq-Decides word (codes "run")) e

order-complete : (words : List (List ℕ)) (o : Order) → IsOrder words o → order_of words ≡ Some o
order-complete words Check is = rw is refl
order-complete words Replay is = rw is refl
order-complete words (Bulk count) (text, e, is) = rw e (rw is refl)
order-complete words (Run limits) (xs, rest, options, e, are, l) =
    rw e (rw (settings-read xs rest none_given options are) (rw l refl))

pub grammar_of : (r : Option Order) (words : List (List ℕ)) → r ≡ order_of words → (o : Order) → (r ≡ Some o) ↔ IsOrder words o
grammar_of r words is o = ((λ e. order-sound words o (sym is ∙ e)), (λ in_it. is ∙ order-complete words o in_it))

pub one_order : (words : List (List ℕ)) (o p : Order) → IsOrder words o → IsOrder words p → o ≡ p
one_order words o p is also = some-is (sym (order-complete words o is) ∙ order-complete words p also)
