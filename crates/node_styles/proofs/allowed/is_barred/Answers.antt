use Rattle.std.proofs.Common.{◌≡◌, Bool, false, ◌||◌, ◌&&◌, sym, ap, ◌∙◌}
use Rattle.std.specs.Str.{bytes_eq}
use Rattle.node_styles.specs.Allowed.{is_barred}
use Rattle.node_styles.specs.Lineage.{has_in_lineage}
use Rattle.node_styles.specs.Traits.{has_trait}
use Rattle.node_styles.specs.declared.lineage.Trait.TheVariants.{Link, InlineContents, Heading}
use Rattle.node_styles.proofs.allowed.is_barred.Goals as goal

-- where the first two don't hold, the last decides
last : (a x u b y v p z w : Bool) → u ≡ (a && x) → u ≡ false → v ≡ (b && y) → v ≡ false → w ≡ (p && z) → w ≡ ((a && x) || (b && y) || (p && z))
last a x u b y v p z w is_u no_u is_v no_v is_w = rw (sym is_u ∙ no_u, sym is_v ∙ no_v) is_w

pub returns : goal.returns
unfolding is_barred
returns g c =
    let f = g.N.Nodes.trees c.args.nodes.now in
    let l = c.args.parent.label in
    let link = has_in_lineage (has_trait Link) f l in
    let inline = has_in_lineage (has_trait InlineContents) f l in
    let heading = has_in_lineage (has_trait Heading) f l in
    last _ link _ _ inline _ _ heading _
    (c.is_barred_below.ensures ∙ ap (λ t. t && link) (c.eq-is_link.ensures ∙ ap (bytes_eq c.args.child.now) c.as_slice.ensures))
    c.if-is_barred_below.false
    (c.is_barred_below-2.ensures ∙ ap (λ t. t && inline) c.is_prohibited_child.ensures)
    c.if-is_barred_below-2.false
    (c.is_barred_below-3.ensures ∙ ap (λ t. t && heading) c.is_heading.ensures)
