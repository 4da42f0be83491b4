-- What each step of a tail keeps that fits and is possible, all of them keep.
use Rattle.std.proofs.Common.{◌≡◌, ℕ, true, List, [], ◌∷◌, Option, Some}
use Rattle.std.proofs.lemmas.Bool.{and_parts}
use Rattle.point_order.specs.DomModel.declared.Content.{Content}
use Rattle.point_order.specs.DomModel.Forest.{parent_of, CanPut}
use Rattle.edit_model.specs.State.{State}
use Rattle.edit_model.specs.Edit.{Edit, Insert, Remove, Move, Replace, Set, Unset, is_made_edit}
use Rattle.edit_model.specs.Tail.{Step, Copy, Do}
use Rattle.edit_model.specs.Action.{made, applied, stepped, stepped_all}
use Rattle.edit_model.specs.Possible.{freed, are_possible}
use Rattle.edit_model.specs.Valid.{IsValid}
use Rattle.edit_model.proofs.Tests.{inserts, removes}
use Rattle.edit_model.proofs.ValidParts.{valid_applied, valid_copied}
use Rattle.edit_model.proofs.TailPlan.{AllOf, Fits, IsCopy}

module _ (K : Content → Type 0) (N D : ℕ → Type 0) (copies : (c : Content) → K c → IsCopy c) (P : State → Type 0) (copy : (c : Content) (s : State) → IsValid s → K c → P s → P (made c s)) (remove : (n o : ℕ) (s : State) → IsValid s → N n → parent_of s.trees n ≡ Some o → P s → P (applied (Remove n) s)) (insert : (p : ℕ) (b : Option ℕ) (n : ℕ) (s : State) → IsValid s → D p → N n → CanPut s.trees p b n → P s → P (applied (Insert p b n) s)) where
  fit_edit : (e : Edit) (s : State) → IsValid s → Fits K N D (Do e) → is_made_edit e (freed s) ≡ true → P s → P (applied e s)
  unfolding is_made_edit
  fit_edit (Insert p b n) s is fit may h = insert p b n s is fit.0 fit.1 (inserts (freed s) p b n may).can h
  fit_edit (Remove n) s is fit may h = let t = removes (freed s) n may in remove n t.from s is fit t.child h
  fit_edit (Move n p b) s is fit may h = absurd fit
  fit_edit (Replace n at count put) s is fit may h = absurd fit
  fit_edit (Set n name value) s is fit may h = absurd fit
  fit_edit (Unset n name) s is fit may h = absurd fit

  pub fit_steps : (xs : List Step) (s : State) → AllOf (Fits K N D) xs → are_possible xs s ≡ true → IsValid s → P s → P (stepped_all xs s)
  unfolding stepped_all stepped are_possible
  fit_steps [] s fit may is h = h
  fit_steps (Copy c ∷ xs) s fit may is h = fit_steps xs (made c s) fit.1 may (valid_copied c s (copies c fit.0) is) (copy c s is fit.0 h)
  fit_steps (Do e ∷ xs) s fit may is h =
      let parts = and_parts (is_made_edit e (freed s)) (are_possible xs (applied e s)) may in
      fit_steps xs (applied e s) fit.1 parts.1 (valid_applied e s is parts.0) (fit_edit e s is fit.0 parts.0 h)
