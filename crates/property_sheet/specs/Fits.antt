-- The limits of a property sheet as named facts.
use Rattle.std.specs.Prelude.{◌≡◌, ℕ, ◌/◌, ◌%◌, ◌<◌, ◌≤◌, List, length}
use Rattle.sheet.specs.Layout.{byte_at, extent_of, section_of}
use Rattle.sheet.specs.Fits.{SheetFits}
use Rattle.property_sheet.specs.Records.{kind_at, first_at, second_at, reserved_at, number_at}

-- line k among n lines, over c clocks and m conditions; the kinds are 0 and 1 true and false, 2 and 3 both and either,
-- 4 and 5 delays, 6 and 7 actions, 8 reset, 9 a condition
pub record LineFits (n c m : ℕ) (ls : List ℕ) (k : ℕ) : Type 0 where
  pub kind : kind_at ls k ≤ 9
  pub first_unused : kind_at ls k < 2 → first_at ls k ≡ 0
  pub first_line : 2 ≤ kind_at ls k → kind_at ls k < 6 → first_at ls k < n
  pub action_low : 6 ≤ kind_at ls k → kind_at ls k < 8 → 1 ≤ first_at ls k
  pub action_high : 6 ≤ kind_at ls k → kind_at ls k < 8 → first_at ls k ≤ 16
  pub clock : kind_at ls k ≡ 8 → first_at ls k < c
  pub condition : kind_at ls k ≡ 9 → number_at ls k < m
  pub second_unused : kind_at ls k < 2 → second_at ls k ≡ 0
  pub second_line : 2 ≤ kind_at ls k → kind_at ls k < 4 → second_at ls k < n
  pub delay_unused : 4 ≤ kind_at ls k → kind_at ls k < 6 → second_at ls k ≡ 0
  pub then_line : 6 ≤ kind_at ls k → kind_at ls k < 9 → second_at ls k < n
  pub reserved : reserved_at ls k ≡ 0

pub record PropertyFits (b : List ℕ) : Type 0 where
  pub letter : byte_at b 0 ≡ 80
  pub reserved_1 : byte_at b 1 ≡ 0
  pub clocks : byte_at b 2 ≤ 2
  pub constant : byte_at b 3 ≤ 15
  pub reserved_4 : byte_at b 4 ≡ 0
  pub sheet : SheetFits b
  pub lines_whole : extent_of b 0 % 4 ≡ 0
  pub lines_least : 1 ≤ extent_of b 0 / 4
  pub lines_most : extent_of b 0 / 4 ≤ 200
  pub lines : (k : ℕ) → k < length (section_of b 0) / 4 → LineFits (length (section_of b 0) / 4) (byte_at b 2) (length (section_of b 1) / 4) (section_of b 0) k
