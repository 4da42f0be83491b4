-- Entries that lead from one document to another.
use Rattle.std.proofs.Common.{◌≡◌, ℕ, ◌+◌, ◌<◌, ◌≤◌, List, [], ◌∷◌, ◌++◌, refl, sym, ◌∙◌, arith}
use Rattle.edit_model.specs.DomModel.declared.Content.{Content}
use Rattle.edit_model.specs.DomModel.Forest.{Forest}
use Rattle.step_edits.specs.ForestChanges.Named.{Each}
use Rattle.edit_model.specs.History.{Entry}
use Rattle.edit_doc.specs.Onward.{RiseFrom, next_past, LeadsOnward, LeadOnward}

-- ---- rising labels

pub below_past : (ns : List (ℕ × Content)) (next : ℕ) → RiseFrom next ns → next ≤ next_past next ns
below_past [] next rise = omega arith
below_past (n ∷ ns) next rise = (let first = rise.0 in let r = below_past ns (n.0 + 1) rise.1 in omega arith)

pub rise_weaker : (ns : List (ℕ × Content)) (a b : ℕ) → a ≤ b → RiseFrom b ns → RiseFrom a ns
rise_weaker [] a b le rise = tt
rise_weaker (n ∷ ns) a b le rise = (let first = rise.0 in omega arith, rise.1)

pub past_weaker : (ns : List (ℕ × Content)) (a b : ℕ) → a ≤ b → next_past a ns ≤ next_past b ns
past_weaker [] a b le = le
past_weaker (n ∷ ns) a b le = omega arith

pub past_low : (ns : List (ℕ × Content)) (next high : ℕ) → next ≤ high → Each (λ (n : ℕ × Content). n.0 < high) ns → next_past next ns ≤ high
past_low [] next high le each = le
past_low (n ∷ ns) next high le each = past_low ns (n.0 + 1) high (let lt = each.0 in omega arith) each.1

-- ---- entries

pub leads_lower : (e : Entry) (next from : ℕ) (c d : Forest Content) → next ≤ from → c ≡ d → LeadsOnward from d e → LeadsOnward next c e
leads_lower e next from c d le same h = record { before = h.before ∙ sym same; rise = rise_weaker e.made next from le h.rise; made = h.made; fits = h.fits; after = h.after }

pub lead_low : (es : List Entry) (next : ℕ) (d last : Forest Content) (end : ℕ) → LeadOnward next d es last end → next ≤ end
lead_low [] next d last end lead = lead.1
lead_low (e ∷ es) next d last end lead =
    let more = lead_low es (next_past next e.made) e.after.document last end lead.1 in
    let up = below_past e.made next lead.0.rise in
    omega (arith, more, up)

pub lead_longer : (es : List Entry) (next : ℕ) (d last : Forest Content) (end high : ℕ) → end ≤ high → LeadOnward next d es last end → LeadOnward next d es last high
lead_longer [] next d last end high le lead = (lead.0, (let low = lead.1 in omega arith))
lead_longer (e ∷ es) next d last end high le lead = (lead.0, lead_longer es (next_past next e.made) e.after.document last end high le lead.1)

-- one entry more
pub lead_more : (es : List Entry) (next : ℕ) (d mid : Forest Content) (end : ℕ) (e : Entry) (high : ℕ) → LeadOnward next d es mid end → LeadsOnward end mid e → next_past end e.made ≤ high → LeadOnward next d (es ++ e ∷ []) e.after.document high
lead_more [] next d mid end e high lead one low =
    (leads_lower e next end d mid lead.1 lead.0 one, (refl, (let past = past_weaker e.made next end lead.1 in omega (arith, past, low))))
lead_more (x ∷ xs) next d mid end e high lead one low = (lead.0, lead_more xs (next_past next x.made) x.after.document mid end e high lead.1 one low)
