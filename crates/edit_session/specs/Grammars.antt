-- What the definitions of a transcript rest on: each reading is what its grammar says.
use Rattle.std.specs.Prelude.{◌≡◌, ◌↔◌, ℕ, List, Some}
use Rattle.step_text.specs.PageGrammar.Reading.{Reading, page_reading, IsReading}
use Rattle.script_read.specs.Reading.{Line, line_of, IsLine}
use Rattle.step_text.specs.declared.line.StepLine.{StepLine}
use Rattle.step_text.specs.StepLine.{IsStepLine, line_text}
use Rattle.step_text.specs.StepReading.{step_in}
use Rattle.edit_session.specs.Words.{Order, order_of, IsOrder}
use Rattle.edit_session.specs.Block.{Block, block_in, IsBlock}
use Rattle.edit_session.specs.Transcript.{depth_limit}

pub record RestsOnGrammars : Type 0 where
  pub orders : (words : List (List ℕ)) (order : Order)
      → (order_of words ≡ Some order) ↔ IsOrder words order
  pub blocks : (lines : List (List ℕ)) (block : Block) → (block_in lines ≡ block)
      ↔ IsBlock lines block
  pub pages : (cap : ℕ) (bytes : List ℕ) (reading : Reading)
      → (page_reading depth_limit cap bytes ≡ reading) ↔ IsReading depth_limit cap bytes reading
  pub acts : (line : List ℕ) (meaning : Line) → (line_of line ≡ meaning) ↔ IsLine line meaning
  pub steps : (line : List ℕ) (step : StepLine) → (step_in line ≡ Some step)
      ↔ (IsStepLine step × (line_text step ≡ line))
