-- Worked examples: inputs of a device sheet and a property sheet, and the lines that tell their reports.
use Rattle.std.specs.Prelude.{◌≡◌, ℕ, true, List, [], ◌∷◌, ◌++◌, replicate, pos, is_ok, codes}
use Rattle.region_laws.specs.Examples.{WorkedExamples}
use Rattle.device_sheet.specs.Sheets.{read_device}
use Rattle.chart.specs.declared.rows.Row.{Row}
use Rattle.judge.specs.Reports.{report_of}
use Rattle.judge.specs.Lines.{report_line}

-- a row whose numbers are all 0, and a chart of 1,024 of them
abbrev pub blank_row : Row
blank_row = record { node = 0; line = 0; mark = 0; clocks = replicate 6 0; differences = replicate 15 (pos 0) }

abbrev pub chart_1024 : List Row
chart_1024 = replicate 1024 blank_row

-- the line that tells the report of an input on that chart
abbrev pub prints : List ℕ → List ℕ
prints input = report_line (report_of input chart_1024).report

-- a device sheet of so many nodes, start 0, without clocks, edges and conditions
abbrev pub bare_device : ℕ → List ℕ
bare_device n = 68 ∷ n ∷ 0 ∷ 0 ∷ 0 ∷ 2 ∷ 0 ∷ 0 ∷ 0 ∷ 16 ∷ 0 ∷ 0 ∷ 0 ∷ 16 ∷ 0 ∷ 0 ∷ []

-- a device sheet of two nodes, one clock, largest constant 1, start 0; one edge, from 0 to 1, of action 1, when
-- clock 0 > 0 and clock 0 < 1, without resets
abbrev pub window_device : List ℕ
window_device =
    68 ∷ 2 ∷ 1 ∷ 1 ∷ 0 ∷ 2 ∷ 0 ∷ 0 ∷ 0 ∷ 16 ∷ 0 ∷ 8 ∷ 0 ∷ 24 ∷ 0 ∷ 8 ∷
    0 ∷ 1 ∷ 1 ∷ 0 ∷ 0 ∷ 0 ∷ 2 ∷ 0 ∷
    0 ∷ 255 ∷ 4 ∷ 0 ∷
    0 ∷ 255 ∷ 0 ∷ 1 ∷ []

-- property sheets without clocks and conditions, largest constant 0: false
abbrev pub false_property : List ℕ
false_property =
    80 ∷ 0 ∷ 0 ∷ 0 ∷ 0 ∷ 2 ∷ 0 ∷ 0 ∷ 0 ∷ 16 ∷ 0 ∷ 4 ∷ 0 ∷ 20 ∷ 0 ∷ 0 ∷
    1 ∷ 0 ∷ 0 ∷ 0 ∷ []

-- after some delay line 0
abbrev pub self_property : List ℕ
self_property =
    80 ∷ 0 ∷ 0 ∷ 0 ∷ 0 ∷ 2 ∷ 0 ∷ 0 ∷ 0 ∷ 16 ∷ 0 ∷ 4 ∷ 0 ∷ 20 ∷ 0 ∷ 0 ∷
    4 ∷ 0 ∷ 0 ∷ 0 ∷ []

-- after some delay line 1; false
abbrev pub delay_property : List ℕ
delay_property =
    80 ∷ 0 ∷ 0 ∷ 0 ∷ 0 ∷ 2 ∷ 0 ∷ 0 ∷ 0 ∷ 16 ∷ 0 ∷ 8 ∷ 0 ∷ 24 ∷ 0 ∷ 0 ∷
    4 ∷ 1 ∷ 0 ∷ 0 ∷
    1 ∷ 0 ∷ 0 ∷ 0 ∷ []

-- after some delay line 1; after some action 1 line 2; true
abbrev pub window_property : List ℕ
window_property =
    80 ∷ 0 ∷ 0 ∷ 0 ∷ 0 ∷ 2 ∷ 0 ∷ 0 ∷ 0 ∷ 16 ∷ 0 ∷ 12 ∷ 0 ∷ 28 ∷ 0 ∷ 0 ∷
    4 ∷ 1 ∷ 0 ∷ 0 ∷
    6 ∷ 1 ∷ 2 ∷ 0 ∷
    0 ∷ 0 ∷ 0 ∷ 0 ∷ []

-- each line has the verdict, the rows, the strikes and the examinations
pub record WorkedTable : Type 0 where
  -- one node, and false: the only row is struck, and a second examination finds nothing more
  pub false_line : prints (0 ∷ 16 ∷ (bare_device 1 ++ false_property)) ≡ codes "no 1 1 2\n"
  -- a line that asks for itself after some delay: the only row names itself, and stands
  pub self_delay : prints (0 ∷ 16 ∷ (bare_device 1 ++ self_property)) ≡ codes "yes 1 0 1\n"
  -- false after some delay: the second row is struck first, then the first one
  pub delay_false : prints (0 ∷ 16 ∷ (bare_device 1 ++ delay_property)) ≡ codes "no 2 2 5\n"
  -- an edge that is open strictly between 0 and 1: of the four regions of the clock only the second has the action
  pub window : prints (0 ∷ 32 ∷ (window_device ++ window_property)) ≡ codes "yes 6 3 11\n"
  -- 65 nodes are too many
  pub too_many_nodes :
      prints (0 ∷ 16 ∷ (bare_device 65 ++ false_property)) ≡ codes "refused device 3 at 1 in sheet\n"
  -- 64 nodes are not: the sheet is read, and the line is that of one node
  pub sixty_four_nodes :
      (is_ok (read_device (bare_device 64)) ≡ true) ×
      (prints (0 ∷ 16 ∷ (bare_device 64 ++ false_property)) ≡ codes "no 1 1 2\n")
  -- regions and their successors
  pub regions : WorkedExamples
