-- What one sees who looks on as steps are applied.
use Rattle.std.specs.Prelude.{◌≡◌, List, [], ◌∷◌, reverse}
use Rattle.undo_log.specs.Turning.{back, forth, inverses_back, inverses_forth}

module _ {T S W : Type 0} (applied : T → S → S) where
  module _ (seen : W → T → S → W → Type 0) where
    -- The steps are applied from the first to the last, from the state s on, and each is seen just
    -- before by a watcher, who is u before them and w after them. `seen` says what one of them makes
    -- of the watcher
    unfoldable pub Seen : List T → S → W → W → Type 0
    Seen [] s u w = w ≡ u
    Seen (x ∷ xs) s u w = (v : W) × seen u x s v × Seen xs (applied x s) v w

  module _ (inverse : T → S → T) (seen : W → T → S → W → Type 0) where
    -- how the state s came about: the edits that the steps take back, from the first on
    abbrev pub SeenMade : List T → S → W → W → Type 0
    SeenMade xs s u w = Seen seen (inverses_back applied inverse xs s) (back applied xs s) u w

    -- how the state s came about where the steps lead on from it: what takes them back, from the
    -- last on
    abbrev pub SeenUndone : List T → S → W → W → Type 0
    SeenUndone xs s u w =
        Seen seen (reverse (inverses_forth applied inverse xs s)) (forth applied xs s) u w
