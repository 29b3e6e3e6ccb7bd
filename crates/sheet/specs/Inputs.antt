-- A program's input: two bytes of device length, the device sheet, then the property sheet.
use Rattle.std.specs.Prelude.{ℕ, ◌+◌, List, take, drop}
use Rattle.sheet.specs.Layout.{word_at}

-- each sheet is what came of it: if the input ends early, a part or nothing
abbrev pub device_part : List ℕ → List ℕ
device_part b = take (word_at b 0) (drop 2 b)

abbrev pub property_part : List ℕ → List ℕ
property_part b = drop (2 + word_at b 0) b
