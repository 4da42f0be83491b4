use Rattle.caret_laws.proofs.LineFeeds.{line_feed_kept}
use Rattle.caret_laws.proofs.typing.insert_line_feed_keeps.Goals as goal

pub returns : goal.returns
returns x = λ s h p is hosted inside room caret none spares.
    line_feed_kept s h (record { valid = is; hosted = hosted; inside = inside }) p room caret none spares
