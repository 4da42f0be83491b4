-- A new document.
use Rattle.std.proofs.Common.{◌≡◌, ℕ, ◌<◌, false, [], ◌∷◌, length, None, refl, sym, ap, subst, ◌∙◌, arith, zero, suc, eqb}
use Rattle.std.proofs.lemmas.Bool.Decides.{nat_tests}
use Rattle.edit_model.specs.DomModel.declared.Content.{Content}
use Rattle.edit_model.specs.DomModel.Forest.{Forest, tops, times}
use Rattle.edit_model.specs.DomModel.Forest.Forest.{Nil, Tree}
use Rattle.edit_model.specs.DomModel.ArenaState.{ArenaState as Arena, IsValid as IsArena}
use Rattle.edit_model.specs.LiveRange.LivePoints.{no_points}
use Rattle.edit_model.specs.declared.settings.Flags.{Flags}
use Rattle.edit_model.specs.Valid.{IsForest, IsPlacedPair}
use Rattle.std.proofs.lemmas.List.Elements.{All-nil}
use Rattle.edit_model.specs.History.{document_of}
use Rattle.edit_model.specs.Overrides.{no_overrides}
use Rattle.edit_model.proofs.Documents.{document_shape}
use Rattle.edit_doc.specs.declared.command.Command.{Command}
use Rattle.edit_doc.specs.Fields.{IsEnded}
use Rattle.edit_doc.specs.Whole.{HasNoLoose, first_doc, first_state}
use Rattle.edit_doc.specs.History.{whole_of}
use Rattle.edit_doc.specs.Sound.{IsSoundDoc, AreNeeded}
use Rattle.edit_doc.specs.Trail.{first_trail}
use Rattle.edit_doc.specs.Live.{live_of}
use Rattle.edit_doc.proofs.Rests.{AtRest, rest_sound, rest_whole, arena_forest}
use Rattle.edit_doc.proofs.Turnings.{unset_length}

alone_is : (f : Forest Content) (next : ℕ) → IsForest f next → tops f ≡ 0 ∷ [] → document_of f ≡ f
alone_is f next is h =
    let d = document_shape f next is in
    let e : tops (Tree 0 d.0 d.1 d.2) ≡ 0 ∷ [] = subst (λ g. tops g ≡ 0 ∷ []) d.3 h in
    subst (λ g. document_of g ≡ g) (sym d.3) (ap (Tree 0 d.0 d.1) (none d.2 (ap length e)))
  where
    none : (g : Forest Content) → length (0 ∷ tops g) ≡ 1 → Nil ≡ g
    none Nil e = refl
    none (Tree m c ks rest) e = absurd (omega (arith, e))

module _ (a : Arena) (law : IsArena a) (loose : HasNoLoose a) (depth : ℕ) (c : Command) (ended : IsEnded a.next c) where
  abbrev flags : Flags
  flags = record { css_styling = false; paragraphs = false }

  fresh : AtRest (live_of a no_points no_overrides flags) c (first_trail depth)
  fresh = record {
    law = law;
    closed = refl;
    idle = record {
      start = ended.start;
      host = ended.host;
      keeping = ended.keeping;
      named = ended.named;
      detached = ended.detached;
      detached_before = ended.detached_before;
      scratch = refl;
    };
    resumed = ended.resumed;
    placed = record { selection = tt; scratch = tt; marks = All-nil (λ m. IsPlacedPair a.trees m.1) };
    settings = unset_length;
    undo = tt;
    redo = tt;
  }

  none_needed : AreNeeded c.start a.trees [] []
  none_needed l inner old top u r = absurd (let top' = subst (λ ls. 0 < times ls l) loose top in alone l inner top')
    where
      alone : (n : ℕ) → 0 < n → 0 < times (0 ∷ []) n → ⊥
      alone zero h t = absurd (omega (arith, h))
      alone (suc n) h t = absurd (let e : eqb 0 (suc n) ≡ false = grind (arith, nat_tests) in let t' = rw e at t in omega (arith, t'))

  pub new_ok : IsSoundDoc (live_of a no_points no_overrides flags) c (first_trail depth)
  new_ok = rest_sound (live_of a no_points no_overrides flags) c (first_trail depth) fresh none_needed

  pub new_is : whole_of (live_of a no_points no_overrides flags) c (first_trail depth) ≡ first_doc a depth
  unfolding first_doc first_state
  new_is = rest_whole (live_of a no_points no_overrides flags) c (first_trail depth) fresh
      ∙ (λ i. record {
        state = record {
          trees = alone_is a.trees a.next (arena_forest a law) loose i;
          points = no_points;
          overrides = no_overrides;
          flags = flags;
          next = a.next;
          cap = a.cap;
          start = a.next;
          host = None;
          keeping = false;
          edits = [];
          made = [];
        };
        history = record { undo = []; redo = []; depth = depth; dropped = false };
        began = None;
        held = a.held;
      })
