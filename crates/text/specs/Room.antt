-- What the text of an answer needs: a buffer for the longest text, and a report of no more lines than there can be.
use Rattle.std.specs.Prelude.{List, ℕ, ◌+◌, ◌*◌, ◌≤◌, Ok, Err}
use Rattle.model.specs.Outcomes.{Answer}
use Rattle.model.specs.Reading.{count_in}
use Rattle.model.specs.Limits.{most_lines}
use Rattle.text_lines.specs.Lines.{longest_line}

-- the line count (28 bytes), every line and the totals (72 bytes)
abbrev pub longest_text : ℕ
longest_text = 28 + longest_line * most_lines + 72

abbrev pub Room : Answer → List ℕ → Type 0
Room (Ok n) w = count_in w ≤ most_lines
Room (Err k) w = Unit
