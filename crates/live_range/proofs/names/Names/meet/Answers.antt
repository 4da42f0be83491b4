use Rattle.std.proofs.Common.{◌≡◌, ℕ, false, List, [], ◌∷◌, ◌++◌, length, position, Some, Result, Ok, Err, IfOk, OnOk, sym, ◌∙◌, ap, if◌then◌else◌, refl}
use Rattle.std.specs.List.{list_any}
use Rattle.std.specs.Str.{bytes_eq}
use Rattle.std.specs.declared.alloc.AllocError.{AllocError}
use Rattle.std.proofs.lemmas.Slice.Eq.{bytes_eq-Decides}
use Rattle.indexmap.specs.IndexSet.{insert_key}
use Rattle.live_range.proofs.Apart.{position-None, position-found, position-push}
use Rattle.live_range.proofs.names.Names.meet.Goals as goal

-- what a new name makes of the list
module _ (name : List ℕ) (old new : List (List ℕ)) (none : list_any (bytes_eq name) old ≡ false) where
  grown : new ≡ old ++ name ∷ [] → new ≡ insert_key bytes_eq old name
  grown e = e ∙ sym (ap (λ b. if b then old else old ++ name ∷ []) none)

  names : (r : Result ℕ AllocError) → IfOk r (λ i. new ≡ old ++ name ∷ []) → OnOk r (new ≡ insert_key bytes_eq old name)
  names (Ok i) e = grown e
  names (Err f) e = tt

  met : (r : Result ℕ AllocError) → IfOk r (λ i. new ≡ old ++ name ∷ []) → IfOk r (λ i. i ≡ length old) → IfOk r (λ i. position (bytes_eq name) new ≡ Some i)
  met (Ok i) e l =
      ap (position (bytes_eq name)) e ∙ position-push (bytes_eq name) old name none ((bytes_eq-Decides name name).1 refl) ∙ ap Some (sym l)
  met (Err f) e l = tt

pub add-requires : goal.add-requires
add-requires c = position-None (bytes_eq c.args.name.now) c.args.self.now (sym c.position.ensures ∙ c.in-None.is)

pub returns-in-Some-clause-names : goal.returns-in-Some-clause-names
returns-in-Some-clause-names c =
    sym (ap (λ b. if b then c.args.self.now else c.args.self.now ++ c.args.name.now ∷ []) (position-found (bytes_eq c.args.name.now) c.args.self.now _ (sym c.position.ensures ∙ c.in-Some.is)))

pub returns-in-None-clause-names : goal.returns-in-None-clause-names
returns-in-None-clause-names c =
    names c.args.name.now c.args.self.now c.add.new.self (position-None (bytes_eq c.args.name.now) c.args.self.now (sym c.position.ensures ∙ c.in-None.is)) c.add.result c.add.ensures.added

pub returns-in-None-clause-met : goal.returns-in-None-clause-met
returns-in-None-clause-met c =
    met c.args.name.now c.args.self.now c.add.new.self (position-None (bytes_eq c.args.name.now) c.args.self.now (sym c.position.ensures ∙ c.in-None.is)) c.add.result c.add.ensures.added c.add.ensures.last
