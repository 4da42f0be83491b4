use Rattle.std.proofs.Common.{◌≡◌, [], ◌∷◌, refl, sym, ap, ◌∙◌, arith}
use Rattle.forest_changes.specs.Change.{applied}
use Rattle.edit_steps.specs.Splice.{TextSplice, taken_of, put_of}
use Rattle.edit_steps.specs.Step.{step_applied, step_inverse}
use Rattle.edit_steps.specs.declared.splice.Exchange.{Exchange}
use Rattle.edit_steps.specs.declared.step.Step.TheVariants as step
use Rattle.edit_steps.proofs.splice.Splice.apply.Goals as goal
use Rattle.edit_steps.proofs.splice.Splice.apply.Goals.{in-Exchanged-1, in-Typed-1, in-Exchanged-2, in-Typed-2}

pub returns-in-Typed-clause-arena : goal.returns-in-Typed-clause-arena
unfolding step_applied applied
returns-in-Typed-clause-arena c =
    let s = c.self.inside in
    let is : c.args.self.now ≡ record { node = s.node; at = s.at; rest = s.rest; taken = []; put = c.in-Typed.typed ∷ [] } =
    sym c.self.view_is
    ∙ ap (λ t. record { node = s.node; at = s.at; rest = s.rest; taken = taken_of t; put = put_of t }) c.in-Typed.is in
    c.splice_words.ensures ∙ ap (λ (x : TextSplice). step_applied (step.Splice x) c.args.arena.now) (sym is)

pub returns-in-Typed-clause-step : goal.returns-in-Typed-clause-step
unfolding step_inverse
returns-in-Typed-clause-step c =
    let s = c.self.inside in
    let is : c.args.self.now ≡ record { node = s.node; at = s.at; rest = s.rest; taken = []; put = c.in-Typed.typed ∷ [] } =
    sym c.self.view_is
    ∙ ap (λ t. record { node = s.node; at = s.at; rest = s.rest; taken = taken_of t; put = put_of t }) c.in-Typed.is in
    elim c.match-self-2.branch [
      | in-Exchanged-1 w ↦ ap step.Splice w.self-is ∙ ap (λ (x : TextSplice). step_inverse (step.Splice x) c.args.arena.now) (sym is)
      | in-Typed-1 w ↦ ap step.Splice w.self-is ∙ ap (λ (x : TextSplice). step_inverse (step.Splice x) c.args.arena.now) (sym is)
    ]

pub returns-in-Gone-clause-arena : goal.returns-in-Gone-clause-arena
unfolding step_applied applied
returns-in-Gone-clause-arena c =
    let s = c.self.inside in
    let is : c.args.self.now ≡ record { node = s.node; at = s.at; rest = s.rest; taken = c.in-Gone.gone ∷ []; put = [] } =
    sym c.self.view_is
    ∙ ap (λ t. record { node = s.node; at = s.at; rest = s.rest; taken = taken_of t; put = put_of t }) c.in-Gone.is in
    c.splice_words-in-Gone.ensures ∙ ap (λ (x : TextSplice). step_applied (step.Splice x) c.args.arena.now) (sym is)

pub returns-in-Gone-clause-step : goal.returns-in-Gone-clause-step
unfolding step_inverse
returns-in-Gone-clause-step c =
    let s = c.self.inside in
    let is : c.args.self.now ≡ record { node = s.node; at = s.at; rest = s.rest; taken = c.in-Gone.gone ∷ []; put = [] } =
    sym c.self.view_is
    ∙ ap (λ t. record { node = s.node; at = s.at; rest = s.rest; taken = taken_of t; put = put_of t }) c.in-Gone.is in
    elim c.match-self-3.branch [
      | in-Exchanged-2 w ↦ ap step.Splice w.self-is ∙ ap (λ (x : TextSplice). step_inverse (step.Splice x) c.args.arena.now) (sym is)
      | in-Typed-2 w ↦ ap step.Splice w.self-is ∙ ap (λ (x : TextSplice). step_inverse (step.Splice x) c.args.arena.now) (sym is)
    ]

pub returns-in-Exchanged-clause-step : goal.returns-in-Exchanged-clause-step
unfolding step_inverse
returns-in-Exchanged-clause-step c =
    let s = c.self.inside in
    let is : c.args.self.now ≡ record { node = s.node; at = s.at; rest = s.rest; taken = c.in-Exchanged.exchange.value.taken.items; put = c.in-Exchanged.exchange.value.put.items } =
    sym c.self.view_is
    ∙ ap (λ t. record { node = s.node; at = s.at; rest = s.rest; taken = taken_of t; put = put_of t }) c.in-Exchanged.is in
    let taken = c.apply.ensures.taken ∙ ap (λ (x : Exchange). x.put.items) c.deref_mut.ensures.value in
    let put = c.apply.ensures.put ∙ ap (λ (x : Exchange). x.taken.items) c.deref_mut.ensures.value in
    (λ i. step.Splice (record { node = s.node; at = s.at; rest = s.rest; taken = taken i; put = put i }))
    ∙ ap (λ (x : TextSplice). step_inverse (step.Splice x) c.args.arena.now) (sym is)
