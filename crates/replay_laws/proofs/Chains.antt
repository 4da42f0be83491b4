-- How the entries of a history follow each other: each leads on from its document, and its labels are above those of the entries before it.
use Rattle.std.proofs.Common.{◌≡◌, ℕ, zero, suc, ◌≤◌, List, [], ◌∷◌, ◌++◌, take, refl, sym, subst, ◌∙◌, arith}
use Rattle.edit_model.specs.DomModel.declared.Content.{Content}
use Rattle.edit_model.specs.DomModel.Forest.{Forest}
use Rattle.inline_value.specs.UndoLog.Turning.{forth, FitsForth}
use Rattle.inline_value.specs.ForestChanges.Change.{IsForest, Fits, applied}
use Rattle.inline_value.specs.ForestChanges.Leaves.{IsBelow}
use Rattle.edit_model.specs.State.{State}
use Rattle.edit_model.specs.History.{Entry, document_of, view_of, used, entry_of}
use Rattle.edit_model.specs.Valid.{IsValid}
use Rattle.inline_value.specs.EditDoc.Onward.{with_made, next_past, LeadsOnward}
use Rattle.inline_value.proofs.EditDoc.Onwards.{below_past}
use Rattle.replay_laws.proofs.EditsFit.{plain_forest}
use Rattle.replay_laws.proofs.EntriesLead.{UsedLead, used_lead, longer_rise, longer_made, longer_fits, longer_after, longer_past}
use Rattle.replay_laws.proofs.RunsFit.{LeadTo}

-- an entry leads on from its document, whose labels are below `low`, and the labels that it drew are from there on, below `high`
pub record IsLink (low high : ℕ) (x : Entry) : Type 0 where
  pub leads : LeadsOnward low x.before.document x
  pub past : next_past low x.made ≤ high
  pub old : IsBelow x.before.document low

-- the entries that undo would take, the last one first, and those that redo would take
abbrev pub ChainBack : ℕ → ℕ → List Entry → Type 0
ChainBack start mid [] = start ≤ mid
ChainBack start mid (x ∷ xs) = (low : ℕ) × IsLink low mid x × ChainBack start low xs

abbrev pub ChainOn : ℕ → ℕ → List Entry → Type 0
ChainOn mid next [] = mid ≤ next
ChainOn mid next (x ∷ xs) = (high : ℕ) × IsLink mid high x × ChainOn high next xs

-- ---- bounds

pub link_up : (low high : ℕ) (x : Entry) → IsLink low high x → low ≤ high
link_up low high x h = (let up = below_past x.made low h.leads.rise in let past = h.past in omega (arith, up, past))

pub back_low : (start mid : ℕ) (xs : List Entry) → ChainBack start mid xs → start ≤ mid
back_low start mid [] h = h
back_low start mid (x ∷ xs) h = (let low = back_low start h.0 xs h.2 in let up = link_up h.0 mid x h.1 in omega (arith, low, up))

pub on_low : (mid next : ℕ) (xs : List Entry) → ChainOn mid next xs → mid ≤ next
on_low mid next [] h = h
on_low mid next (x ∷ xs) h = (let low = on_low h.0 next xs h.2 in let up = link_up mid h.0 x h.1 in omega (arith, low, up))

pub link_higher : (low high higher : ℕ) (x : Entry) → high ≤ higher → IsLink low high x → IsLink low higher x
link_higher low high higher x le h = record { leads = h.leads; past = (let past = h.past in omega (arith, past, le)); old = h.old }

pub back_higher : (start mid higher : ℕ) (xs : List Entry) → mid ≤ higher → ChainBack start mid xs → ChainBack start higher xs
back_higher start mid higher [] le h = omega (arith, h, le)
back_higher start mid higher (x ∷ xs) le h = (h.0, link_higher h.0 mid higher x le h.1, h.2)

pub on_higher : (mid next later : ℕ) (xs : List Entry) → next ≤ later → ChainOn mid next xs → ChainOn mid later xs
on_higher mid next later [] le h = omega (arith, h, le)
on_higher mid next later (x ∷ xs) le h = (h.0, h.1, on_higher h.0 next later xs le h.2)

-- without the oldest
pub back_cut : (start mid n : ℕ) (xs : List Entry) → ChainBack start mid xs → ChainBack start mid (take n xs)
back_cut start mid zero xs h = back_low start mid xs h
back_cut start mid (suc n) [] h = h
back_cut start mid (suc n) (x ∷ xs) h = (h.0, h.1, back_cut start h.0 n xs h.2)

-- ---- the entry of a run

module _ (s t : State) (is : IsValid s) (alone : document_of s.trees ≡ s.trees) (lead : LeadTo s.trees s.next t.trees t.edits t.made t.next) where
  below : IsBelow s.trees s.next
  below = record { below = is.forest.below }

  own : UsedLead s.trees s.next t.edits t.made t.trees
  own = used_lead s.trees s.next (plain_forest s.trees s.next is.forest) below t.edits t.made t.trees t.next lead

  past_own : next_past s.next (used t.edits t.made) ≤ t.next
  past_own = (let less = own.past in let low = lead.past in omega (arith, less, low))

  pub own_link : IsLink s.next t.next (entry_of s t)
  unfolding view_of
  own_link = record {
    leads = record {
      before = refl;
      rise = own.rise;
      made = own.made;
      fits = subst (λ (w : Forest Content). FitsForth applied Fits t.edits (with_made w (used t.edits t.made))) (sym alone) own.fits;
      after = subst (λ (w : Forest Content). document_of (forth applied t.edits (with_made w (used t.edits t.made))) ≡ document_of t.trees) (sym alone) own.after;
    };
    past = past_own;
    old = subst (λ (w : Forest Content). IsBelow w s.next) (sym alone) below;
  }

  -- the last entry with more edits
  abbrev pub longer : Entry → Entry
  longer x = record { before = x.before; after = view_of t; edits = x.edits ++ t.edits; made = x.made ++ used t.edits t.made }

  pub longer_link : (low : ℕ) (x : Entry) → IsForest x.before.document → x.after.document ≡ s.trees → IsLink low s.next x → IsLink low t.next (longer x)
  unfolding view_of
  longer_link low x isd at h =
      let d = x.before.document in
      let k = h.leads in
      let there : document_of (forth applied x.edits (with_made d x.made)) ≡ s.trees = k.after ∙ at in
      record {
        leads = record {
          before = refl;
          rise = longer_rise d low isd h.old x.edits x.made k.rise k.made k.fits s.trees there s.next h.past t.edits t.made t.trees own;
          made = longer_made d low isd h.old x.edits x.made k.rise k.made k.fits s.trees there s.next h.past t.edits t.made t.trees own;
          fits = longer_fits d low isd h.old x.edits x.made k.rise k.made k.fits s.trees there s.next h.past t.edits t.made t.trees own;
          after = longer_after d low isd h.old x.edits x.made k.rise k.made k.fits s.trees there s.next h.past t.edits t.made t.trees own;
        };
        past = (let e = longer_past d low isd h.old x.edits x.made k.rise k.made k.fits s.trees there s.next h.past t.edits t.made t.trees own in let p = past_own in omega (arith, e, p));
        old = h.old;
      }
