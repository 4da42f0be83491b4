-- What a walk makes of those to whom it shows trees.
use Rattle.std.proofs.Common.{◌≡◌, ℕ, List, ◌++◌, sym, ap, append_assoc, append-nil}
use Rattle.node_styles.specs.DomModel.declared.Content.{Content}
use Rattle.node_styles.specs.DomModel.Forest.{Forest}
use Rattle.node_styles.specs.DomModel.Forest.Forest.{Nil, Tree}
use Rattle.page_write.specs.Html.{opening, closing, html_of}
use Rattle.point_order.specs.LiveRange.declared.places.Point.{Point}
use Rattle.node_texts.specs.Occurrences.{occurrences, points_in}
use Rattle.node_texts.specs.Walk.{walked}

abbrev pub opened : List ℕ → ℕ → Content → List ℕ
opened bytes _ c = bytes ++ opening c

abbrev pub closed : List ℕ → ℕ → Content → List ℕ
closed bytes _ c = bytes ++ closing c

-- the HTML of the trees is appended
pub html_walked : (f : Forest Content) (bytes : List ℕ) → walked opened closed f bytes ≡ bytes ++ html_of f
html_walked Nil bytes = sym (append-nil bytes)
html_walked (Tree l c ks rest) bytes =
    rw (html_walked rest (closed (walked opened closed ks (opened bytes l c)) l c), html_walked ks (opened bytes l c)) (simp append_assoc)

abbrev pub noted : (List ℕ × List Point) → ℕ → Content → (List ℕ × List Point)
noted found l c = (found.0, found.1 ++ points_in found.0 l c)

abbrev pub kept : (List ℕ × List Point) → ℕ → Content → (List ℕ × List Point)
kept found _ _ = found

-- the occurrences in the trees are noted
pub found_walked : (f : Forest Content) (wanted : List ℕ) (points : List Point) → walked noted kept f (wanted, points) ≡ (wanted, points ++ occurrences wanted f)
found_walked Nil wanted points = ap (λ ps. (wanted, ps)) (sym (append-nil points))
found_walked (Tree l c ks rest) wanted points =
    rw (found_walked ks wanted (points ++ points_in wanted l c), found_walked rest wanted ((points ++ points_in wanted l c) ++ occurrences wanted ks)) (ap (λ ps. (wanted, ps)) (simp append_assoc))
