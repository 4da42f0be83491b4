-- The document that a session leaves is read back.
use Rattle.std.proofs.Common.{◌≡◌, ℕ, suc, ◌+◌, ◌≤◌, List, [], ◌∷◌, subst, sym, arith}
use Rattle.edit_model.specs.DomModel.declared.Content.{Content}
use Rattle.edit_model.specs.DomModel.declared.Content.TheVariants.{Document, Element, Words, Remark}
use Rattle.edit_model.specs.DomModel.ArenaState.{ArenaState as Arena}
use Rattle.edit_model.specs.DomModel.Forest.{Forest, total}
use Rattle.edit_model.specs.DomModel.Forest.Forest.{Nil, Tree}
use Rattle.edit_model.specs.DomModel.Places.{kids_in}
use Rattle.edit_model.proofs.DomModel.Few.{total-few}
use Rattle.edit_model.specs.Valid.{IsForest}
use Rattle.edit_model.proofs.Documents.{document_shape}
use Rattle.edit_engine.specs.Editing.{Editing}
use Rattle.page_laws.specs.Tidy.{label_after, words_before, with_words, tidied}
use Rattle.page_laws.proofs.ReadBack.{document_reading_back}
use Rattle.replay_laws.specs.ReadBack.{CallsReadBack, LabelsSuffice}
use Rattle.replay_laws.proofs.Calls.{IsPage, calls_tracked}
use Rattle.replay_laws.proofs.ProperCalls.{calls_proper}
use Rattle.replay_laws.proofs.Texts.{page_nodes}
use Rattle.replay_laws.proofs.WrittenNodes.{kids_written}

-- ---- labels

abbrev size : Forest Content → ℕ
size f = total (λ _ _. 1) f

after_all : (n : ℕ) (f : Forest Content) → label_after n f ≡ n + size f
after_all n Nil = omega arith
after_all n (Tree l c ks rest) = (let a = after_all (suc n) ks in let b = after_all (label_after (suc n) ks) rest in omega (arith, a, b))

before_few : (l : ℕ) (t : List ℕ) (f : Forest Content) → size (words_before l t f) ≤ size f + 1
before_few l t Nil = omega arith
before_few l t (Tree m Document ks rest) = omega arith
before_few l t (Tree m (Element name list) ks rest) = omega arith
before_few l t (Tree m (Words u) ks rest) = omega arith
before_few l t (Tree m (Remark u) ks rest) = omega arith

words_few : (l : ℕ) (t : List ℕ) (f : Forest Content) → size (with_words l t f) ≤ size f + 1
words_few l [] f = omega arith
words_few l (x ∷ xs) f = before_few l (x ∷ xs) f

tidied_few : (f : Forest Content) → size (tidied f) ≤ size f
tidied_few Nil = omega arith
tidied_few (Tree l Document ks rest) = omega (arith, tidied_few ks, tidied_few rest)
tidied_few (Tree l (Element name list) ks rest) = omega (arith, tidied_few ks, tidied_few rest)
tidied_few (Tree l (Words t) ks rest) = omega (arith, words_few l t (tidied rest), tidied_few rest)
tidied_few (Tree l (Remark t) ks rest) = omega (arith, tidied_few rest)

-- fewer than were drawn
labels_few : (f : Forest Content) (next : ℕ) → IsForest f next → label_after 1 (tidied (kids_in f)) ≤ next
labels_few f next is =
    let shape = document_shape f next is in
    let ks = shape.1 in
    let few = subst (λ (g : Forest Content). size g ≤ next) shape.3 (total-few f next is.distinct is.below) in
    let all = after_all 1 (tidied ks) in
    let less = tidied_few ks in
    subst (λ (g : Forest Content). label_after 1 (tidied (kids_in g)) ≤ next) (sym shape.3) (omega (arith, few, all, less))

pub labels_suffice : (page : Arena) (e : Editing) → IsPage page → LabelsSuffice page e
labels_suffice page e is s =
    let tr = calls_tracked page e is s in
    let few = labels_few e.state.trees e.state.next tr.valid.forest in
    let within = tr.within in
    omega (arith, few, within)

-- ---- the document

pub calls_read_back : (page : Arena) (e : Editing) → IsPage page → CallsReadBack page e
calls_read_back page e is bytes r s voids d c deep labels fits =
    let tr = calls_tracked page e is s in
    let proper = calls_proper page e is (page_nodes bytes page r) s in
    let f = e.state.trees in
    let back = document_reading_back d c f (kids_written d e.state.next f tr.valid.forest proper.state.nodes voids deep) labels fits in
    record { children = back.0; nodes = back.1; reading = back.2 }
