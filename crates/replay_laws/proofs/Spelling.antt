-- Entries that lead on, and change the characters of no comment, change those of texts alone.
use Rattle.std.proofs.Common.{◌≡◌, ◌⊎◌, ℕ, ◌+◌, ◌≤◌, Bool, true, false, true≢false, cond, eqb, List, [], ◌∷◌, ◌++◌, length, reverse, Option, Some, None, unwrap_or, refl, sym, ap, subst, ◌∙◌, inl, inr, arith}
use Rattle.std.specs.Option.{option_map, option_map_or}
use Rattle.std.proofs.lemmas.Bool.Decides.{eqb_tells, nat_tests}
use Rattle.std.proofs.lemmas.List.{reverse-append}
use Rattle.edit_model.specs.DomModel.declared.Content.{Content}
use Rattle.edit_model.specs.DomModel.declared.Content.TheVariants as content
use Rattle.edit_model.specs.DomModel.Contents.{has_chars, has_chars_at, with_chars, with_attributes}
use Rattle.edit_model.specs.DomModel.Forest.{Forest, Seen, either, count_of, content_of, parent_of, unlink, with_leaf}
use Rattle.edit_model.proofs.DomModel.Kept.{content_of-link, content_of-unlink, content_of-with_leaf_new, content_of-with_leaf_other}
use Rattle.edit_model.proofs.DomModel.Links.{total-with_leaf}
use Rattle.edit_model.proofs.DomModel.Stands.{seek_absent}
use Rattle.edit_model.specs.DomModel.declared.attributes.Attribute.{Attribute}
use Rattle.inline_value.specs.UndoLog.Turning.{FitsForth}
use Rattle.inline_value.specs.ForestChanges.Change.{Change, Remove, Insert, Move, SetText, Splice, SetAttributes, Fits, applied, spliced_at}
use Rattle.inline_value.specs.ForestChanges.Leaves.{IsBelow}
use Rattle.inline_value.specs.ForestChanges.Named.{Each}
use Rattle.inline_value.proofs.ForestChanges.BesideLeaf.{fresh}
use Rattle.inline_value.proofs.ForestChanges.ChangeLists.{each_first, each_rest, each_of}
use Rattle.inline_value.proofs.ForestChanges.Splices.{part_chars}
use Rattle.inline_value.proofs.ForestChanges.Twice.{IsForest-unlink, given_parent}
use Rattle.edit_model.specs.History.{Entry}
use Rattle.edit_laws.specs.Kinds.{Text, Comment, kind_in, kind_of}
use Rattle.edit_laws.proofs.StayingKinds.{kind_of-revised}
use Rattle.inline_value.specs.EditDoc.Logged.{content_made, content_in}
use Rattle.inline_value.specs.EditDoc.Onward.{with_made, RiseFrom, next_past, at_begin, LeadsOnward, LeadOnward, LeadFrom}
use Rattle.step_text.specs.Applying.{is_text}
use Rattle.edit_engine.specs.Editing.{Editing}
use Rattle.edit_engine.specs.Replaying.{ChangesText}
use Rattle.replay_laws.specs.Beginnings.{IsSpelled}
use Rattle.replay_laws.proofs.Entries.{SparesComments, IsKnown, each_weaker}
use Rattle.replay_laws.proofs.Leaving.{CanBeMade, IsFrom}
use Rattle.replay_laws.proofs.Tracking.{IsTracked}

-- ---- contents beside made nodes

abbrev IsNew : Forest Content → ℕ × Content → Type 0
IsNew f n = count_of f n.0 ≡ 0

either_none : (o : Option Content) → either o None ≡ o
either_none None = refl
either_none (Some c) = refl

rise_from : (a : ℕ) (ns : List (ℕ × Content)) → RiseFrom a ns → Each (IsFrom a) ns
rise_from a [] rise = tt
rise_from a (n ∷ ns) rise = (rise.0, each_weaker a (n.0 + 1) ns (let low = rise.0 in omega (arith, low)) (rise_from (n.0 + 1) ns rise.1))

apart : (a b : ℕ) → a + 1 ≤ b → eqb a b ≡ false
apart a b le = grind (arith, nat_tests)

still_new : (f : Forest Content) (n : ℕ × Content) (ns : List (ℕ × Content)) → IsNew f n → Each (IsNew f) ns → Each (IsFrom (n.0 + 1)) ns → Each (IsNew (with_leaf f n.0 n.1)) ns
still_new f n [] none new later = tt
still_new f n (m ∷ ns) none new later =
    let t = total-with_leaf f n.0 n.1 none (λ j _. cond (eqb j m.0) 1 0) in
    let off = apart n.0 m.0 later.0 in
    let u = rw off at t in
    let own = new.0 in
    (omega (arith, u, own), still_new f n ns none new.1 later.1)

at_new : (b : Bool) (x y m : Option Content) (c : Content) → b ≡ true → x ≡ Some c → y ≡ None → either x m ≡ either y (cond b (Some c) m)
at_new b x y m c t is none = rw (t, is, none) refl

at_other : (b : Bool) (x y m : Option Content) (c : Content) → b ≡ false → x ≡ y → either x m ≡ either y (cond b (Some c) m)
at_other b x y m c t same = rw (t, same) refl

one_with : (f : Forest Content) (n : ℕ × Content) (m : Option Content) (l : ℕ) → IsNew f n → either (content_of (with_leaf f n.0 n.1) l) m ≡ either (content_of f l) (cond (eqb n.0 l) (Some n.1) m)
one_with f n m l new = elim (eqb_tells n.0 l) [
  | inl (t, same) ↦ at_new (eqb n.0 l) (content_of (with_leaf f n.0 n.1) l) (content_of f l) m n.1 t
      (subst (λ (j : ℕ). content_of (with_leaf f n.0 n.1) j ≡ Some n.1) same (content_of-with_leaf_new f n.0 n.1 new))
      (subst (λ (j : ℕ). content_of f j ≡ None) same (ap (option_map (λ (s : Seen Content). s.content)) (seek_absent None f n.0 new)))
  | inr (t, off) ↦ at_other (eqb n.0 l) (content_of (with_leaf f n.0 n.1) l) (content_of f l) m n.1 t (content_of-with_leaf_other f n.0 n.1 l new off)
]

content_with : (ns : List (ℕ × Content)) (f : Forest Content) (a l : ℕ) → RiseFrom a ns → Each (IsNew f) ns → content_of (with_made f ns) l ≡ either (content_of f l) (content_made ns l)
content_with [] f a l rise new = sym (either_none (content_of f l))
content_with (n ∷ ns) f a l rise new =
    content_with ns (with_leaf f n.0 n.1) (n.0 + 1) l rise.1 (still_new f n ns new.0 new.1 (rise_from (n.0 + 1) ns rise.1)) ∙ one_with f n (content_made ns l) l new.0

-- ---- kinds

kind_chars : (words : List ℕ) (c : Content) → kind_in (with_chars words c) ≡ kind_in c
kind_chars words content.Document = refl
kind_chars words (content.Element name list) = refl
kind_chars words (content.Words chars) = refl
kind_chars words (content.Remark chars) = refl

kind_attributes : (list : List Attribute) (c : Content) → kind_in (with_attributes list c) ≡ kind_in c
kind_attributes list content.Document = refl
kind_attributes list (content.Element name own) = refl
kind_attributes list (content.Words chars) = refl
kind_attributes list (content.Remark chars) = refl

pub kind_applied : (x : Change) (f : Forest Content) → Fits x f → (l : ℕ) → kind_of (applied x f) l ≡ kind_of f l
unfolding applied
kind_applied (Remove n) f h l = ap (option_map kind_in) (content_of-unlink f (unwrap_or (parent_of f n) 0) n l h.forest.distinct (given_parent f n h.here))
kind_applied (Insert n p b) f h l = ap (option_map kind_in) (content_of-link f p b n l h.forest.distinct h.here.place)
kind_applied (Move n p b) f h l =
    let q = unwrap_or (parent_of f n) 0 in
    let child = given_parent f n h.here.0 in
    let g = IsForest-unlink f q n h.forest child in
    ap (option_map kind_in) (content_of-link (unlink f n) p b n l g.distinct h.here.1.place ∙ content_of-unlink f q n l h.forest.distinct child)
kind_applied (SetText n words) f h l = kind_of-revised f n l (with_chars words) (kind_chars words)
kind_applied (Splice n at rest taken put) f h l = (let words = spliced_at f n at (length taken) put in kind_of-revised f n l (with_chars words) (kind_chars words))
kind_applied (SetAttributes n list) f h l = kind_of-revised f n l (with_attributes list) (kind_attributes list)

chars_kind : (o : Option Content) → option_map_or has_chars o false ≡ true → (option_map kind_in o ≡ Some Text) ⊎ (option_map kind_in o ≡ Some Comment)
chars_kind None t = absurd (true≢false (sym t))
chars_kind (Some content.Document) t = absurd (true≢false (sym t))
chars_kind (Some (content.Element name list)) t = absurd (true≢false (sym t))
chars_kind (Some (content.Words chars)) t = inl refl
chars_kind (Some (content.Remark chars)) t = inr refl

kind_text : (o : Option Content) → option_map kind_in o ≡ Some Text → option_map_or is_text o false ≡ true
kind_text None e = absurd (let t : None ≡ Some Text = e in cc)
kind_text (Some content.Document) e = absurd (let t : Some (kind_in content.Document) ≡ Some Text = e in cc)
kind_text (Some (content.Element name list)) e = absurd (let t : Some (kind_in (content.Element name list)) ≡ Some Text = e in cc)
kind_text (Some (content.Words chars)) e = refl
kind_text (Some (content.Remark chars)) e = absurd (let t : Some Comment ≡ Some Text = e in cc)

-- ---- changes

-- a node is no comment, where each has the content that is told
abbrev IsNoComment : (ℕ → Option Content) → ℕ → Type 0
IsNoComment told n = option_map kind_in (told n) ≡ Some Comment → ⊥

-- a change of characters is one of no comment
abbrev NoComment : (ℕ → Option Content) → Change → Type 0
NoComment told (SetText n words) = IsNoComment told n
NoComment told (Splice n at rest taken put) = IsNoComment told n
NoComment told _ = Unit {0}

made_no_comment : (ns : List (ℕ × Content)) → Each CanBeMade ns → (l : ℕ) → IsNoComment (content_made ns) l
made_no_comment [] can l e = (let t : None ≡ Some Comment = e in cc)
made_no_comment (n ∷ ns) can l e = by_test (eqb n.0 l) (made_no_comment ns can.1 l) e
  where
    own : (c : Content) → CanBeMade (n.0, c) → Some (kind_in c) ≡ Some Comment → ⊥
    own content.Document t e = true≢false (sym t)
    own (content.Element name list) t e = (let u : Some (kind_in (content.Element name list)) ≡ Some Comment = e in cc)
    own (content.Words chars) t e = (let u : Some Text ≡ Some Comment = e in cc)
    own (content.Remark chars) t e = true≢false (sym t)

    by_test : (b : Bool) → (option_map kind_in (content_made ns l) ≡ Some Comment → ⊥) → option_map kind_in (cond b (Some n.1) (content_made ns l)) ≡ Some Comment → ⊥
    by_test true more e = own n.1 can.0 e
    by_test false more e = more e

told_no_comment : (f : Forest Content) (ns : List (ℕ × Content)) → Each CanBeMade ns → (n : ℕ) → (kind_of f n ≡ Some Comment → ⊥) → IsNoComment (λ l. either (content_of f l) (content_made ns l)) n
told_no_comment f ns can n spares e = by_content (content_of f n) refl e
  where
    by_content : (o : Option Content) → content_of f n ≡ o → option_map kind_in (either o (content_made ns n)) ≡ Some Comment → ⊥
    by_content None is e = made_no_comment ns can n e
    by_content (Some c) is e = spares (ap (option_map kind_in) is ∙ e)

no_comment : (f : Forest Content) (ns : List (ℕ × Content)) → Each CanBeMade ns → (x : Change) → SparesComments f x → NoComment (λ l. either (content_of f l) (content_made ns l)) x
no_comment f ns can (SetText n words) spares = told_no_comment f ns can n spares
no_comment f ns can (Splice n at rest taken put) spares = told_no_comment f ns can n spares
no_comment f ns can (Remove n) spares = tt
no_comment f ns can (Insert n p b) spares = tt
no_comment f ns can (Move n p b) spares = tt
no_comment f ns can (SetAttributes n list) spares = tt

abbrev pub AreKinds : (ℕ → Option Content) → Forest Content → Type 0
AreKinds told f = (l : ℕ) → option_map kind_in (told l) ≡ kind_of f l

text_at : (told : ℕ → Option Content) (n : ℕ) (f : Forest Content) → has_chars_at f n ≡ true → AreKinds told f → IsNoComment told n → option_map_or is_text (told n) false ≡ true
text_at told n f chars are spares = elim (chars_kind (content_of f n) chars) [
  | inl text ↦ kind_text (told n) (are n ∙ text)
  | inr comment ↦ absurd (spares (are n ∙ comment))
]

text_one : (told : ℕ → Option Content) (x : Change) (f : Forest Content) → Fits x f → AreKinds told f → NoComment told x → ChangesText told x
text_one told (SetText n words) f h are spares = text_at told n f h.here.0 are spares
text_one told (Splice n at rest taken put) f h are spares = text_at told n f (part_chars f n at rest taken put h.here) are spares
text_one told (Remove n) f h are spares = tt
text_one told (Insert n p b) f h are spares = tt
text_one told (Move n p b) f h are spares = tt
text_one told (SetAttributes n list) f h are spares = tt

texts_of : (told : ℕ → Option Content) (xs : List Change) (f : Forest Content) → FitsForth applied Fits xs f → AreKinds told f → Each (NoComment told) xs → Each (ChangesText told) xs
unfolding FitsForth
texts_of told [] f fits are spares = tt
texts_of told (x ∷ xs) f fits are spares =
    (text_one told x f fits.0 are spares.0, texts_of told xs (applied x f) fits.1 (λ l. are l ∙ sym (kind_applied x f fits.0 l)) spares.1)

-- ---- entries

-- what is told of the nodes before an entry has the kinds that they have with those that were made
pub told_kinds : (start next from : ℕ) (d : Forest Content) (x : Entry) → IsKnown start next x → LeadsOnward from d x → AreKinds (content_in x) (at_begin x)
told_kinds start next from d x k leads l =
    let f = x.before.document in
    let below : (n : ℕ × Content) → IsFrom k.first n → IsBelow f n.0 = λ n high. record { below = λ m here. (let lt = k.old m here in omega (arith, lt, high)) } in
    let new : Each (IsNew f) x.made = each_of (IsFrom k.first) (IsNew f) x.made (λ n high. fresh n.0 n.1 f (below n high)) k.drawn in
    sym (ap (option_map kind_in) (content_with x.made f from l leads.rise new))

spelled : (start next from : ℕ) (d : Forest Content) (x : Entry) → IsKnown start next x → LeadsOnward from d x → IsSpelled x
spelled start next from d x k leads = record {
  made = k.made;
  texts = texts_of (content_in x) x.edits (at_begin x) leads.fits (told_kinds start next from d x k leads)
      (each_of (SparesComments x.before.document) (NoComment (content_in x)) x.edits (no_comment x.before.document x.made k.made) k.texts);
}

pub record Leads (x : Entry) : Type 0 where
  pub from : ℕ
  pub document : Forest Content
  pub is : LeadsOnward from document x

pub each_leads : (es : List Entry) (next : ℕ) (d last : Forest Content) (end : ℕ) → LeadOnward next d es last end → Each Leads es
each_leads [] next d last end lead = tt
each_leads (x ∷ es) next d last end lead = (record { from = next; document = d; is = lead.0 }, each_leads es (next_past next x.made) x.after.document last end lead.1)

pub each_back : (P : Entry → Type 0) (es : List Entry) → Each P (reverse es) → Each P es
each_back P [] h = tt
each_back P (x ∷ es) h =
    let g : Each P (reverse es ++ x ∷ []) = subst (λ (w : List Entry). Each P w) (reverse-append (x ∷ []) es) h in
    ((each_rest P (reverse es) (x ∷ []) g).0, each_back P es (each_first P (reverse es) (x ∷ []) g))

pub each_both : {A : Type 0} (P Q R : A → Type 0) (xs : List A) → ((x : A) → P x → Q x → R x) → Each P xs → Each Q xs → Each R xs
each_both P Q R [] go p q = tt
each_both P Q R (x ∷ xs) go p q = (go x p.0 q.0, each_both P Q R xs go p.1 q.1)

pub entries_spelled : (page : Forest Content) (start cap : ℕ) (e : Editing) (d : Forest Content) (next : ℕ) → IsTracked page start cap e → LeadFrom d next (reverse e.history.undo) e.state.trees e.state.next → Each IsSpelled e.history.undo
entries_spelled page start cap e d next tr lead =
    each_both (IsKnown start e.state.next) Leads IsSpelled e.history.undo (λ x k l. spelled start e.state.next l.from l.document x k l.is) tr.undo
    (each_back Leads e.history.undo (each_leads (reverse e.history.undo) next d e.state.trees e.state.next lead.onward))
