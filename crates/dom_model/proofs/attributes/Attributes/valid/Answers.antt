use Rattle.std.proofs.Common.{sym, ap, subst, ◌∙◌}
use Rattle.dom_model.specs.AttributeList.{IsDistinctNames}
use Rattle.dom_model.specs.AttributeMap.{listed}
use Rattle.dom_model.proofs.AttributeLemmas.{distinct-nothing}
use Rattle.dom_model.proofs.attributes.Attributes.valid.Goals as goal

pub returns-in_default : goal.returns-in_default
returns-in_default c = subst IsDistinctNames (ap listed (sym c.in_default.is) ∙ c.self.view_is) distinct-nothing
