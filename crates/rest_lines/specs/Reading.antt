-- What the inner functions of the chart reader ask of their callers, and what they answer.
use Rattle.std.specs.Prelude.{◌≡◌, List, ℕ, ◌≤◌, Option, Some, None, Result, Ok, Err, length, take}
use Rattle.paper.specs.Lists.{in_front}
use Rattle.paper.specs.Chart.{head_size}
use Rattle.pages.specs.Frames.{line_length}
use Rattle.pages.specs.Texts.{Lines, bad_line, bad_head, chart, dues_from, lines_from, text_most, chart_most}
use Rattle.dues.specs.declared.Counts.{Counts}
use Rattle.replies.specs.declared.Refusal.{Refusal}
use Rattle.replies.specs.declared.Refusal.TheVariants.{Sizes, Text}
use Rattle.dues.specs.Dues.{Few}

-- a head in range has been read, and there is room for a chart
pub record RestIn (text : List ℕ) (s : Counts) (old : List ℕ) : Type 0 where
  pub short : length text ≤ text_most
  pub first : line_length head_size ≤ length text
  pub room : chart_most ≤ length old
  pub few : Few s
  pub grades : 1 ≤ s.k
  pub states : 1 ≤ s.n
  pub letters : 1 ≤ s.m

-- what the lines behind the head come to
abbrev pub rest_lines : List ℕ → Counts → List ℕ → Lines
rest_lines text s old = lines_from (dues_from s.k s.n s.m 5 2) text 2 (line_length head_size) (take head_size old)

-- lines that came to a chart of so many bytes, which stand in front of the buffer
pub record ChartRead (lines : Lines) (old new : List ℕ) (size : ℕ) : Type 0 where
  pub bytes : List ℕ
  pub lines_are : lines ≡ chart bytes
  pub size_is : size ≡ length bytes
  pub headed : head_size ≤ size
  pub front : new ≡ in_front bytes old

-- why lines are refused that come to no chart
abbrev pub refused_by : Lines → Option Refusal
refused_by (bad_line line) = Some (Text line)
refused_by bad_head = Some Sizes
refused_by (chart bytes) = None

-- what an answer says of lines that were read, and of the buffer
abbrev pub LinesSay : Lines → List ℕ → List ℕ → Result ℕ Refusal → Type 0
LinesSay lines old new (Ok size) = ChartRead lines old new size
LinesSay lines old new (Err why) = refused_by lines ≡ Some why
