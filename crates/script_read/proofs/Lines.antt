-- Whole lines: the act that is read is spelled, what is spelled is read, and which fault comes when.
use Rattle.std.proofs.Common.{◌≡◌, ◌⊎◌, ◌↔◌, inl, inr, ℕ, ◌<◌, ◌≤◌, true, false, cond, ltb, List, [], ◌∷◌, ◌++◌, length, codes, Option, Some, None, Result, Ok, Err, ◌==◌, refl, sym, ap, subst, ◌∙◌, arith}
use Rattle.std.specs.Prelude.{IfOk}
use Rattle.std.specs.List.{find}
use Rattle.std.specs.Str.{bytes_eq}
use Rattle.std.proofs.lemmas.Bool.{cases_lt}
use Rattle.std.proofs.lemmas.Bool.Decides.{nat_tests}
use Rattle.std.proofs.lemmas.Slice.Eq.{bytes_eq-Decides}
use Rattle.html_names.specs.declared.query.QueryKind.{QueryKind}
use Rattle.html_names.specs.declared.query.QueryKind.TheVariants as kinds
use Rattle.html_names.specs.Queries.{query_word, query_kind_of}
use Rattle.script_read.specs.declared.act.Act.{Act}
use Rattle.script_read.specs.declared.act.Act.TheVariants.{Select, Unselect, Mark, Unmark, Exec, Query, Undo, Redo, Probe, Html, Tree, Points, Stat, Log}
use Rattle.script_read.specs.declared.act.LineFault.{LineFault}
use Rattle.script_read.specs.declared.act.LineFault.TheVariants.{Syntax, UnknownAct, LongLine, Memory}
use Rattle.script_read.specs.declared.act.Place.{Place}
use Rattle.script_read.specs.declared.verb.Verb.{Verb}
use Rattle.script_read.specs.declared.verb.Verb.TheVariants as verbs
use Rattle.script_read.specs.Acts.{word_of, BeginsWith, IsName, IsNumber, IsPath, IsPoint, IsValue, Spells, IsUnknown, IsOutside}
use Rattle.script_read.specs.Reading.{◌>>=◌, cut, name_of, number_of, count_of, path_of, point_of, points_of, value_of, select_of, mark_of, unmark_of, exec_parts, exec_of, query_of, undo_of, redo_of, probe_of, word_act, arguments_act, all_verbs, verb_of, first_word, after_word, Line, Long, Unknown, Known, known_line, line_parts, line_of, IsLine}
use Rattle.script_read.specs.Answers.{Reads, GivesAct}
use Rattle.script_read.proofs.Tests.{some-is, chosen, differs, bound}
use Rattle.script_read.proofs.Cutting.{Avoids, cut-found, cut-none, cut-parts}
use Rattle.script_read.proofs.Numbers.{number_back, number_sound, name_back, name_sound, name_avoids_space}
use Rattle.script_read.proofs.Places.{path_back, path_sound, point_back, point_sound, point_avoids_space}
use Rattle.script_read.proofs.Values.{text_back, text_sound}

-- ---- what is in the grammar is read

abbrev Counts : List ℕ → ℕ → Type 0
Counts text n = IsNumber text n × (0 < n)

count_back : (text : List ℕ) (n : ℕ) → Counts text n → count_of text ≡ Some n
count_back text n (is, some) = let lacks = differs n 0 (λ e. omega (arith, e)) in rw (number_back text n is, lacks) refl

kind_back : (kind : QueryKind) → query_kind_of (query_word kind) ≡ Some kind
kind_back kinds.Enabled = refl
kind_back kinds.Indeterm = refl
kind_back kinds.State = refl
kind_back kinds.Supported = refl
kind_back kinds.Value = refl

kind_avoids_space : (kind : QueryKind) → Avoids 32 (query_word kind)
kind_avoids_space kinds.Enabled = (refl, (refl, (refl, (refl, (refl, (refl, (refl, tt)))))))
kind_avoids_space kinds.Indeterm = (refl, (refl, (refl, (refl, (refl, (refl, (refl, (refl, tt))))))))
kind_avoids_space kinds.State = (refl, (refl, (refl, (refl, (refl, tt)))))
kind_avoids_space kinds.Supported = (refl, (refl, (refl, (refl, (refl, (refl, (refl, (refl, (refl, tt)))))))))
kind_avoids_space kinds.Value = (refl, (refl, (refl, (refl, (refl, tt)))))

points_back : (a f : List ℕ) (anchor focus : Place) → IsPoint a anchor → IsPoint f focus
    → points_of (a ++ 32 ∷ f) ≡ Some (anchor, focus)
unfolding points_of
points_back a f anchor focus p q =
    rw (cut-found 32 a f (point_avoids_space a anchor p)) (rw (point_back a anchor p) (rw (point_back f focus q) refl))

select_back : (a f : List ℕ) (anchor focus : Place) → IsPoint a anchor → IsPoint f focus
    → select_of (a ++ 32 ∷ f) ≡ Some (Select anchor focus)
unfolding select_of
select_back a f anchor focus p q = rw (points_back a f anchor focus p q) refl

mark_back : (name a f : List ℕ) (anchor focus : Place) → IsName name → IsPoint a anchor → IsPoint f focus
    → mark_of (name ++ 32 ∷ (a ++ 32 ∷ f)) ≡ Some (Mark name anchor focus)
unfolding mark_of
mark_back name a f anchor focus n p q =
    rw (cut-found 32 name (a ++ 32 ∷ f) (name_avoids_space name n)) (rw (name_back name n) (rw (points_back a f anchor focus p q) refl))

unmark_back : (name : List ℕ) → IsName name → unmark_of name ≡ Some (Unmark name)
unfolding unmark_of
unmark_back name n = rw (name_back name n) refl

exec_back : (name : List ℕ) → IsName name → exec_of name ≡ Some (Exec name [])
unfolding exec_of
exec_back name n = rw (cut-none 32 name (name_avoids_space name n)) (rw (name_back name n) refl)

exec_with_back : (name bytes value : List ℕ) → IsName name → IsValue bytes value
    → exec_of (name ++ 32 ∷ bytes) ≡ Some (Exec name value)
unfolding exec_of
exec_with_back name bytes value n v =
    rw (cut-found 32 name bytes (name_avoids_space name n)) (rw (name_back name n) (rw (text_back false bytes value v) refl))

query_back : (kind : QueryKind) (name : List ℕ) → IsName name
    → query_of (query_word kind ++ 32 ∷ name) ≡ Some (Query kind name)
unfolding query_of
query_back kind name n =
    rw (cut-found 32 (query_word kind) name (kind_avoids_space kind)) (rw (kind_back kind) (rw (name_back name n) refl))

undo_back : (digits : List ℕ) (n : ℕ) → Counts digits n → undo_of digits ≡ Some (Undo n)
unfolding undo_of
undo_back digits n c = rw (count_back digits n c) refl

redo_back : (digits : List ℕ) (n : ℕ) → Counts digits n → redo_of digits ≡ Some (Redo n)
unfolding redo_of
redo_back digits n c = rw (count_back digits n c) refl

probe_back : (text path : List ℕ) → IsPath text path → probe_of text ≡ Some (Probe path)
unfolding probe_of
probe_back text path p = rw (path_back text path p) refl

-- ---- first words

word_back : (v : Verb) → verb_of (word_of v) ≡ Some v
word_back verbs.Select = refl
word_back verbs.Unselect = refl
word_back verbs.Mark = refl
word_back verbs.Unmark = refl
word_back verbs.Exec = refl
word_back verbs.Query = refl
word_back verbs.Undo = refl
word_back verbs.Redo = refl
word_back verbs.Probe = refl
word_back verbs.Html = refl
word_back verbs.Tree = refl
word_back verbs.Points = refl
word_back verbs.Stat = refl
word_back verbs.Log = refl

word_alone : (v : Verb) → cut 32 (word_of v) ≡ None
word_alone verbs.Select = refl
word_alone verbs.Unselect = refl
word_alone verbs.Mark = refl
word_alone verbs.Unmark = refl
word_alone verbs.Exec = refl
word_alone verbs.Query = refl
word_alone verbs.Undo = refl
word_alone verbs.Redo = refl
word_alone verbs.Probe = refl
word_alone verbs.Html = refl
word_alone verbs.Tree = refl
word_alone verbs.Points = refl
word_alone verbs.Stat = refl
word_alone verbs.Log = refl

word_cut : (v : Verb) (rest : List ℕ) → cut 32 (word_of v ++ 32 ∷ rest) ≡ Some (word_of v, rest)
word_cut verbs.Select rest = refl
word_cut verbs.Unselect rest = refl
word_cut verbs.Mark rest = refl
word_cut verbs.Unmark rest = refl
word_cut verbs.Exec rest = refl
word_cut verbs.Query rest = refl
word_cut verbs.Undo rest = refl
word_cut verbs.Redo rest = refl
word_cut verbs.Probe rest = refl
word_cut verbs.Html rest = refl
word_cut verbs.Tree rest = refl
word_cut verbs.Points rest = refl
word_cut verbs.Stat rest = refl
word_cut verbs.Log rest = refl

-- what is found by its word has that word
found : {A : Type 0} (word : A → List ℕ) (text : List ℕ) (xs : List A) (x : A)
    → find (λ x. bytes_eq (word x) text) xs ≡ Some x → text ≡ word x
found word text [] x e = absurd (cc)
found word text (y ∷ xs) x e =
    elim (chosen (bytes_eq (word y) text) (Some y) (find (λ x. bytes_eq (word x) text) xs) (Some x) e) [
      | inl h ↦ sym ((bytes_eq-Decides (word y) text).0 h.0) ∙ ap word (some-is h.1)
      | inr h ↦ found word text xs x h.1
    ]

verb_sound : (text : List ℕ) (v : Verb) → verb_of text ≡ Some v → text ≡ word_of v
verb_sound text v e = found word_of text all_verbs v e

line_of_word : (line : List ℕ) (v : Verb) → line ≡ word_of v → line_parts line (cut 32 line) ≡ Known (word_act v)
line_of_word line v e = rw e (rw (word_alone v) (rw (word_back v) refl))

line_of_parts : (line : List ℕ) (v : Verb) (text : List ℕ) → line ≡ word_of v ++ 32 ∷ text
    → line_parts line (cut 32 line) ≡ Known (arguments_act v text)
line_of_parts line v text e = rw e (rw (word_cut v text) (rw (word_back v) refl))

-- ---- a line with an act

with_text : (line : List ℕ) (v : Verb) (text : List ℕ) (act : Act) → line ≡ word_of v ++ 32 ∷ text
    → arguments_act v text ≡ Some act → line_parts line (cut 32 line) ≡ Known (Some act)
with_text line v text act e is = line_of_parts line v text e ∙ ap Known is

spelled_line : (line : List ℕ) (act : Act) → Spells line act → line_parts line (cut 32 line) ≡ Known (Some act)
spelled_line line (Select anchor focus) (a, f, e, p, q) = with_text line verbs.Select (a ++ 32 ∷ f) _ e (select_back a f anchor focus p q)
spelled_line line Unselect e = line_of_word line verbs.Unselect e
spelled_line line (Mark name anchor focus) (a, f, e, n, p, q) = with_text line verbs.Mark (name ++ 32 ∷ (a ++ 32 ∷ f)) _ e (mark_back name a f anchor focus n p q)
spelled_line line (Unmark name) (e, n) = with_text line verbs.Unmark name _ e (unmark_back name n)
spelled_line line (Exec name value) (n, inl (e, v)) =
    with_text line verbs.Exec name (Exec name value) e (exec_back name n ∙ ap (λ x. Some (Exec name x)) (sym v))
spelled_line line (Exec name value) (n, inr (bytes, e, v)) = with_text line verbs.Exec (name ++ 32 ∷ bytes) _ e (exec_with_back name bytes value n v)
spelled_line line (Query kind name) (e, n) = with_text line verbs.Query (query_word kind ++ 32 ∷ name) _ e (query_back kind name n)
spelled_line line (Undo count) (digits, e, n, some) = with_text line verbs.Undo digits _ e (undo_back digits count (n, some))
spelled_line line (Redo count) (digits, e, n, some) = with_text line verbs.Redo digits _ e (redo_back digits count (n, some))
spelled_line line (Probe path) (text, e, p) = with_text line verbs.Probe text _ e (probe_back text path p)
spelled_line line Html e = line_of_word line verbs.Html e
spelled_line line Tree e = line_of_word line verbs.Tree e
spelled_line line Points e = line_of_word line verbs.Points e
spelled_line line Stat e = line_of_word line verbs.Stat e
spelled_line line Log e = line_of_word line verbs.Log e

known-is : {a b : Option Act} → Known a ≡ Known b → a ≡ b
known-is e = cc

pub one_act : (line : List ℕ) (a b : Act) → Spells line a → Spells line b → a ≡ b
one_act line a b p q = some-is (known-is (sym (spelled_line line a p) ∙ spelled_line line b q))

-- ---- what is read is spelled

count_sound : (text : List ℕ) (n : ℕ) → count_of text ≡ Some n → Counts text n
count_sound text n e =
    let b = bound (number_of text) (λ n. cond (n == 0) None (Some n)) n e in
    elim (chosen (b.value == 0) None (Some b.value) (Some n) b.gives) [
      | inl h ↦ absurd (let f = h.1 in cc)
      | inr h ↦ subst (Counts text) (some-is h.1) (number_sound text b.value b.was, let lacks = h.0 in grind (arith, nat_tests))
    ]

kind_sound : (text : List ℕ) (k : QueryKind) → query_kind_of text ≡ Some k → text ≡ query_word k
kind_sound text k e = found query_word text (kinds.Enabled ∷ kinds.Indeterm ∷ kinds.State ∷ kinds.Supported ∷ kinds.Value ∷ []) k e

-- a word and what follows it
abbrev Follows : List ℕ → List ℕ → List ℕ → Type 0
Follows line word text = line ≡ word ++ 32 ∷ text

two_parts : (line word text : List ℕ) (p : List ℕ × List ℕ) → Follows line word text → cut 32 text ≡ Some p
    → line ≡ word ++ 32 ∷ (p.0 ++ 32 ∷ p.1)
two_parts line word text p e c = e ∙ ap (λ t. word ++ 32 ∷ t) (cut-parts 32 text p c)

points_sound : (text : List ℕ) (points : Place × Place) → points_of text ≡ Some points
    → (a f : List ℕ) × (text ≡ a ++ 32 ∷ f) × IsPoint a points.0 × IsPoint f points.1
unfolding points_of
points_sound text points e =
    let c = bound (cut 32 text) (λ parts. point_of parts.0 >>= λ anchor. point_of parts.1 >>= λ focus. Some (anchor, focus)) points e in
    let a = bound (point_of c.value.0) (λ anchor. point_of c.value.1 >>= λ focus. Some (anchor, focus)) points c.gives in
    let f = bound (point_of c.value.1) (λ focus. Some (a.value, focus)) points a.gives in
    subst (λ (p : Place × Place). (a f : List ℕ) × (text ≡ a ++ 32 ∷ f) × IsPoint a p.0 × IsPoint f p.1) (some-is f.gives)
    (c.value.0, c.value.1, cut-parts 32 text c.value c.was, point_sound c.value.0 a.value a.was, point_sound c.value.1 f.value f.was)

select_sound : (line text : List ℕ) (act : Act) → Follows line (codes "select") text → select_of text ≡ Some act
    → Spells line act
unfolding select_of
select_sound line text act follows e =
    let c = bound (points_of text) (λ points. Some (Select points.0 points.1)) act e in
    let p = points_sound text c.value c.was in
    subst (Spells line) (some-is c.gives) (p.0, p.1, follows ∙ ap (λ t. codes "select" ++ 32 ∷ t) p.2, p.3, p.4)

mark_sound : (line text : List ℕ) (act : Act) → Follows line (codes "mark") text → mark_of text ≡ Some act
    → Spells line act
unfolding mark_of
mark_sound line text act follows e =
    let c = bound (cut 32 text) (λ parts. name_of parts.0 >>= λ name. points_of parts.1 >>= λ points. Some (Mark name points.0 points.1)) act e in
    let n = bound (name_of c.value.0) (λ name. points_of c.value.1 >>= λ points. Some (Mark name points.0 points.1)) act c.gives in
    let b = bound (points_of c.value.1) (λ points. Some (Mark n.value points.0 points.1)) act n.gives in
    let name = name_sound c.value.0 n.value n.was in
    let p = points_sound c.value.1 b.value b.was in
    let parts : line ≡ codes "mark" ++ 32 ∷ (c.value.0 ++ 32 ∷ (p.0 ++ 32 ∷ p.1)) =
    two_parts line (codes "mark") text c.value follows c.was ∙ ap (λ t. codes "mark" ++ 32 ∷ (c.value.0 ++ 32 ∷ t)) p.2 in
    subst (Spells line) (ap (λ x. Mark x b.value.0 b.value.1) name.1 ∙ some-is b.gives)
    (p.0, p.1, parts, name.0, p.3, p.4)

unmark_sound : (line text : List ℕ) (act : Act) → Follows line (codes "unmark") text → unmark_of text ≡ Some act
    → Spells line act
unfolding unmark_of
unmark_sound line text act follows e =
    let n = bound (name_of text) (λ name. Some (Unmark name)) act e in
    let name = name_sound text n.value n.was in
    subst (Spells line) (ap Unmark name.1 ∙ some-is n.gives) (follows, name.0)

exec_by : (line text : List ℕ) (act : Act) (o : Option (List ℕ × List ℕ)) → Follows line (codes "exec") text
    → cut 32 text ≡ o → exec_parts text o ≡ Some act → Spells line act
exec_by line text act None follows c e =
    let n = bound (name_of text) (λ name. Some (Exec name [])) act e in
    let name = name_sound text n.value n.was in
    subst (Spells line) (ap (λ x. Exec x []) name.1 ∙ some-is n.gives) (name.0, inl (follows, refl))
exec_by line text act (Some p) follows c e =
    let n = bound (name_of p.0) (λ name. value_of p.1 >>= λ value. Some (Exec name value)) act e in
    let v = bound (value_of p.1) (λ value. Some (Exec n.value value)) act n.gives in
    let name = name_sound p.0 n.value n.was in
    subst (Spells line) (ap (λ x. Exec x v.value) name.1 ∙ some-is v.gives)
    (name.0, inr (p.1, two_parts line (codes "exec") text p follows c, text_sound false p.1 v.value v.was))

exec_sound : (line text : List ℕ) (act : Act) → Follows line (codes "exec") text → exec_of text ≡ Some act
    → Spells line act
unfolding exec_of
exec_sound line text act follows e = exec_by line text act (cut 32 text) follows refl e

query_sound : (line text : List ℕ) (act : Act) → Follows line (codes "query") text → query_of text ≡ Some act
    → Spells line act
unfolding query_of
query_sound line text act follows e =
    let c = bound (cut 32 text) (λ parts. query_kind_of parts.0 >>= λ kind. name_of parts.1 >>= λ name. Some (Query kind name)) act e in
    let k = bound (query_kind_of c.value.0) (λ kind. name_of c.value.1 >>= λ name. Some (Query kind name)) act c.gives in
    let n = bound (name_of c.value.1) (λ name. Some (Query k.value name)) act k.gives in
    let name = name_sound c.value.1 n.value n.was in
    let parts : line ≡ codes "query" ++ 32 ∷ (query_word k.value ++ 32 ∷ c.value.1) =
    two_parts line (codes "query") text c.value follows c.was ∙ ap (λ t. codes "query" ++ 32 ∷ (t ++ 32 ∷ c.value.1)) (kind_sound c.value.0 k.value k.was) in
    subst (Spells line) (ap (Query k.value) name.1 ∙ some-is n.gives) (parts, name.0)

undo_sound : (line text : List ℕ) (act : Act) → Follows line (codes "undo") text → undo_of text ≡ Some act
    → Spells line act
unfolding undo_of
undo_sound line text act follows e =
    let n = bound (count_of text) (λ count. Some (Undo count)) act e in
    let c = count_sound text n.value n.was in
    subst (Spells line) (some-is n.gives) (text, follows, c.0, c.1)

redo_sound : (line text : List ℕ) (act : Act) → Follows line (codes "redo") text → redo_of text ≡ Some act
    → Spells line act
unfolding redo_of
redo_sound line text act follows e =
    let n = bound (count_of text) (λ count. Some (Redo count)) act e in
    let c = count_sound text n.value n.was in
    subst (Spells line) (some-is n.gives) (text, follows, c.0, c.1)

probe_sound : (line text : List ℕ) (act : Act) → Follows line (codes "probe") text → probe_of text ≡ Some act
    → Spells line act
unfolding probe_of
probe_sound line text act follows e =
    let p = bound (path_of text) (λ path. Some (Probe path)) act e in
    subst (Spells line) (some-is p.gives) (text, follows, path_sound text p.value p.was)

word_sound : (line : List ℕ) (v : Verb) (act : Act) → line ≡ word_of v → word_act v ≡ Some act → Spells line act
word_sound line verbs.Select act is e = absurd (cc)
word_sound line verbs.Unselect act is e = subst (Spells line) (some-is e) is
word_sound line verbs.Mark act is e = absurd (cc)
word_sound line verbs.Unmark act is e = absurd (cc)
word_sound line verbs.Exec act is e = absurd (cc)
word_sound line verbs.Query act is e = absurd (cc)
word_sound line verbs.Undo act is e = absurd (cc)
word_sound line verbs.Redo act is e = absurd (cc)
word_sound line verbs.Probe act is e = absurd (cc)
word_sound line verbs.Html act is e = subst (Spells line) (some-is e) is
word_sound line verbs.Tree act is e = subst (Spells line) (some-is e) is
word_sound line verbs.Points act is e = subst (Spells line) (some-is e) is
word_sound line verbs.Stat act is e = subst (Spells line) (some-is e) is
word_sound line verbs.Log act is e = subst (Spells line) (some-is e) is

arguments_sound : (line : List ℕ) (v : Verb) (text : List ℕ) (act : Act) → Follows line (word_of v) text
    → arguments_act v text ≡ Some act → Spells line act
arguments_sound line verbs.Select text act is e = select_sound line text act is e
arguments_sound line verbs.Unselect text act is e = absurd (cc)
arguments_sound line verbs.Mark text act is e = mark_sound line text act is e
arguments_sound line verbs.Unmark text act is e = unmark_sound line text act is e
arguments_sound line verbs.Exec text act is e = exec_sound line text act is e
arguments_sound line verbs.Query text act is e = query_sound line text act is e
arguments_sound line verbs.Undo text act is e = undo_sound line text act is e
arguments_sound line verbs.Redo text act is e = redo_sound line text act is e
arguments_sound line verbs.Probe text act is e = probe_sound line text act is e
arguments_sound line verbs.Html text act is e = absurd (cc)
arguments_sound line verbs.Tree text act is e = absurd (cc)
arguments_sound line verbs.Points text act is e = absurd (cc)
arguments_sound line verbs.Stat text act is e = absurd (cc)
arguments_sound line verbs.Log text act is e = absurd (cc)

-- ---- what a line is

begins_known : (line : List ℕ) (v : Verb) → BeginsWith line v
    → (o : Option Act) × (line_parts line (cut 32 line) ≡ Known o)
begins_known line v (inl e) = (word_act v, line_of_word line v e)
begins_known line v (inr (text, e)) = (arguments_act v text, line_of_parts line v text e)

abbrev IsShort : List ℕ → Line → Type 0
IsShort line Long = ⊥
IsShort line Unknown = (verb : Verb) → ¬ (BeginsWith line verb)
IsShort line (Known None) = ((verb : Verb) × BeginsWith line verb) × ((act : Act) → ¬ (Spells line act))
IsShort line (Known (Some act)) = ((verb : Verb) × BeginsWith line verb) × Spells line act

no_act : (line : List ℕ) → line_parts line (cut 32 line) ≡ Known None → (act : Act) → ¬ (Spells line act)
no_act line e act spells = let f : Known None ≡ Known (Some act) = sym e ∙ spelled_line line act spells in absurd (cc)

no_word : (line : List ℕ) → line_parts line (cut 32 line) ≡ Unknown → (verb : Verb) → ¬ (BeginsWith line verb)
no_word line e verb begins = let b = begins_known line verb begins in let f : Unknown ≡ Known b.0 = sym e ∙ b.1 in absurd (cc)

known_short : (line : List ℕ) (v : Verb) (o : Option Act) → line_parts line (cut 32 line) ≡ Known o
    → BeginsWith line v → ((act : Act) → o ≡ Some act → Spells line act) → IsShort line (Known o)
known_short line v None e begins sound = ((v, begins), no_act line e)
known_short line v (Some act) e begins sound = ((v, begins), sound act refl)

short_by : (line : List ℕ) (o : Option (List ℕ × List ℕ)) (w : Option Verb) → cut 32 line ≡ o
    → verb_of (first_word line o) ≡ w → IsShort line (known_line (after_word o) w)
short_by line o None c e = no_word line (rw (c, e) refl)
short_by line None (Some v) c e =
    let is : line ≡ word_of v = verb_sound line v e in
    known_short line v (word_act v) (line_of_word line v is) (inl is) (λ act a. word_sound line v act is a)
short_by line (Some p) (Some v) c e =
    let is : line ≡ word_of v ++ 32 ∷ p.1 = cut-parts 32 line p c ∙ ap (λ t. t ++ 32 ∷ p.1) (verb_sound p.0 v e) in
    known_short line v (arguments_act v p.1) (line_of_parts line v p.1 is) (inr (p.1, is)) (λ act a. arguments_sound line v p.1 act is a)

-- long, or not long and so
abbrev LongOrShort : List ℕ → Line → Type 0
LongOrShort line l = ((l ≡ Long) × (8192 < length line)) ⊎ ((length line ≤ 8192) × IsShort line l)

long_or_short : (line : List ℕ) → LongOrShort line (line_of line)
unfolding line_of
long_or_short line =
    elim (cases_lt 8192 (length line)) [
      | inl lt ↦ inl (let e : ltb 8192 (length line) ≡ true = grind (arith, nat_tests, lt) in rw e refl, lt)
      | inr le ↦ inr (le, let e : ltb 8192 (length line) ≡ false = grind (arith, nat_tests, le) in rw e (short_by line (cut 32 line) (verb_of (first_word line (cut 32 line))) refl refl))
    ]

-- ---- what it means

means_by : (line : List ℕ) (l : Line) → LongOrShort line l → IsLine line l
means_by line l (inl long) = rw (long.0) long.1
means_by line Long (inr short) = absurd short.1
means_by line Unknown (inr short) = short
means_by line (Known None) (inr short) = (short.0, short.1.0, short.1.1)
means_by line (Known (Some act)) (inr short) = (short.0, short.1.1)

pub means : (line : List ℕ) → IsLine line (line_of line)
means line = means_by line (line_of line) (long_or_short line)

long_at : (line : List ℕ) (l : Line) → LongOrShort line l → 8192 < length line → l ≡ Long
long_at line l (inl long) lt = long.0
long_at line l (inr short) lt = absurd (omega (arith, short.0))

unknown_at : (line : List ℕ) (l : Line) → LongOrShort line l → IsUnknown line → l ≡ Unknown
unknown_at line l (inl long) lacks = absurd (omega (arith, long.1, lacks.0))
unknown_at line Long (inr short) lacks = absurd short.1
unknown_at line Unknown (inr short) lacks = refl
unknown_at line (Known None) (inr short) lacks = absurd (lacks.1 short.1.0.0 short.1.0.1)
unknown_at line (Known (Some act)) (inr short) lacks = absurd (lacks.1 short.1.0.0 short.1.0.1)

outside_at : (line : List ℕ) (l : Line) → LongOrShort line l → IsOutside line → l ≡ Known None
outside_at line l (inl long) lacks = absurd (omega (arith, long.1, lacks.0))
outside_at line Long (inr short) lacks = absurd short.1
outside_at line Unknown (inr short) lacks = absurd (short.1 lacks.1.0 lacks.1.1)
outside_at line (Known None) (inr short) lacks = refl
outside_at line (Known (Some act)) (inr short) lacks = absurd (lacks.2 act short.1.1)

spelled_at : (line : List ℕ) (act : Act) → length line ≤ 8192 → Spells line act → line_of line ≡ Known (Some act)
unfolding line_of
spelled_at line act le spells =
    let e : ltb 8192 (length line) ≡ false = grind (arith, nat_tests, le) in
    rw e (spelled_line line act spells)

pub one_meaning : (line : List ℕ) (l : Line) → IsLine line l → line_of line ≡ l
one_meaning line Long lt = long_at line (line_of line) (long_or_short line) lt
one_meaning line Unknown lacks = unknown_at line (line_of line) (long_or_short line) lacks
one_meaning line (Known None) lacks = outside_at line (line_of line) (long_or_short line) lacks
one_meaning line (Known (Some act)) is = spelled_at line act is.0 is.1

-- ---- what is answered

pub act_is : (line : List ℕ) (result : Result Act LineFault) (l : Line) → IsLine line l → GivesAct result l
    → IfOk result (λ act. (length line ≤ 8192) × Spells line act)
act_is line (Err fault) l is gives = tt
act_is line (Ok act) Long is gives = absurd (cc)
act_is line (Ok act) Unknown is gives = absurd (cc)
act_is line (Ok act) (Known None) is gives = absurd (cc)
act_is line (Ok act) (Known (Some read)) is gives = (is.0, subst (Spells line) (some-is gives) is.1)

pub spelled_is : (line : List ℕ) (result : Result Act LineFault) → GivesAct result (line_of line) → (act : Act)
    → length line ≤ 8192 → Spells line act → Reads result (Some act)
spelled_is line result gives act le spells = subst (GivesAct result) (spelled_at line act le spells) gives

is_long : (line : List ℕ) (result : Result Act LineFault) (l : Line) → IsLine line l → GivesAct result l
    → result ≡ Err LongLine → 8192 < length line
is_long line result Long is gives e = is
is_long line result Unknown is gives e = absurd (let f = sym gives ∙ e in cc)
is_long line result (Known o) is gives e = absurd (subst (λ (r : Result Act LineFault). Reads r o) e gives)

pub long_is : (line : List ℕ) (result : Result Act LineFault) → GivesAct result (line_of line)
    → (result ≡ Err LongLine) ↔ (8192 < length line)
long_is line result gives = (is_long line result (line_of line) (means line) gives, λ lt. subst (GivesAct result) (one_meaning line Long lt) gives)

is_unknown : (line : List ℕ) (result : Result Act LineFault) (l : Line) → IsLine line l → GivesAct result l
    → result ≡ Err UnknownAct → IsUnknown line
is_unknown line result Long is gives e = absurd (let f = sym gives ∙ e in cc)
is_unknown line result Unknown is gives e = is
is_unknown line result (Known o) is gives e = absurd (subst (λ (r : Result Act LineFault). Reads r o) e gives)

pub unknown_is : (line : List ℕ) (result : Result Act LineFault) → GivesAct result (line_of line)
    → (result ≡ Err UnknownAct) ↔ IsUnknown line
unknown_is line result gives = (is_unknown line result (line_of line) (means line) gives, λ lacks. subst (GivesAct result) (one_meaning line Unknown lacks) gives)

pub syntax_is : (line : List ℕ) (result : Result Act LineFault) (l : Line) → IsLine line l → GivesAct result l
    → result ≡ Err Syntax → IsOutside line
syntax_is line result Long is gives e = absurd (let f = sym gives ∙ e in cc)
syntax_is line result Unknown is gives e = absurd (let f = sym gives ∙ e in cc)
syntax_is line result (Known None) is gives e = is
syntax_is line result (Known (Some act)) is gives e = let f : Some act ≡ None = subst (λ (r : Result Act LineFault). Reads r (Some act)) e gives in absurd (cc)

none_read : (result : Result Act LineFault) → Reads result None → (result ≡ Err Syntax) ⊎ (result ≡ Err Memory)
none_read (Ok act) e = absurd (cc)
none_read (Err Syntax) e = inl refl
none_read (Err UnknownAct) e = absurd e
none_read (Err LongLine) e = absurd e
none_read (Err Memory) e = inr refl

pub outside_is : (line : List ℕ) (result : Result Act LineFault) → GivesAct result (line_of line) → IsOutside line
    → (result ≡ Err Syntax) ⊎ (result ≡ Err Memory)
outside_is line result gives lacks = none_read result (subst (GivesAct result) (one_meaning line (Known None) lacks) gives)
