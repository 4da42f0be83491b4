use Rattle.std.proofs.Common.{◌≡◌, suc, ◌-◌, ◌∙◌, sym, ap, arith}
use Rattle.node_styles.specs.CssValue.declared.colours.Colour.{Colour}
use Rattle.command_value.specs.EffectiveValues.{background_at}
use Rattle.command_value.proofs.Grounds.{opaque, transparent_one, shows_here, top_shows, goes_up}
use Rattle.command_value.proofs.effective_values.background_value.Goals as goal

pub walk-init : goal.walk-init
walk-init g c = record { held = c.requires; same = c.turns-left.ensures }

pub returns-then-not-colour : goal.returns-then-not-colour
returns-then-not-colour g c =
    let shown = c.background_color-colour.ensures in
    shown
    ∙ shows_here (g.N.Nodes.trees c.args.nodes.now) c.walk.left c.walk.at.label (ap (λ (x : Colour). x.clear) (sym shown) ∙ opaque c.background_color-colour.result.clear c.if-not-colour.true)
    ∙ c.walk.invariant.same

pub returns-in-None : goal.returns-in-None
returns-in-None g c =
    c.background_color-colour.ensures
    ∙ top_shows (g.N.Nodes.trees c.args.nodes.now) c.walk.left c.walk.at.label (sym c.in-None.ensures.is)
    ∙ c.walk.invariant.same

pub walk-preserved : goal.walk-preserved
walk-preserved g c =
    let f = g.N.Nodes.trees c.args.nodes.now in
    let more : suc (c.walk.left - 1) ≡ c.walk.left = omega (arith, c.walk-test.true) in
    record {
      held = c.in-Some.ensures.held;
      same =
          sym (goes_up f (c.walk.left - 1) c.walk.at.label c.in-Some.parent.label (ap (λ (x : Colour). x.clear) (sym c.background_color-colour.ensures) ∙ transparent_one c.background_color-colour.result.clear c.if-not-colour.false) (sym c.in-Some.ensures.is))
          ∙ ap (λ n. background_at n f c.walk.at.label) more
          ∙ c.walk.invariant.same;
    }

pub returns : goal.returns
returns g c =
    let f = g.N.Nodes.trees c.args.nodes.now in
    let none : 0 ≡ c.walk.left = omega (arith, c.walk-test.false) in
    c.background_color.ensures
    ∙ ap (λ n. background_at n f c.walk.at.label) none
    ∙ c.walk.invariant.same
