-- What lines, clocks and a largest constant hold together, and which records can be read as lines.
use Rattle.std.specs.Prelude.{◌≡◌, ℕ, ◌<◌, ◌≤◌, List}
use Rattle.property_sheet.specs.declared.Line.{Line}
use Rattle.property_sheet.specs.Contents.{Content}
use Rattle.property_sheet.specs.Records.{kind_at, number_at}

abbrev pub content_with : List Line → ℕ → ℕ → Content
content_with ls c k = record { lines = ls; clocks = c; constant = k }

-- record k says a line: its kind is one of the ten, and its condition, if it has one, is among m
abbrev pub LineReadable : ℕ → List ℕ → ℕ → Type 0
LineReadable m ls k = (kind_at ls k ≤ 9) × (kind_at ls k ≡ 9 → number_at ls k < m)
