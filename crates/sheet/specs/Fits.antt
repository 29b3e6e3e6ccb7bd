-- The limits of a sheet as named facts: what both kinds share.
use Rattle.std.specs.Prelude.{◌≡◌, ℕ, ◌+◌, ◌*◌, ◌/◌, ◌%◌, ◌<◌, ◌≤◌, ◌⊎◌, List, length, pos, ◌≤ℤ◌, ◌≢◌}
use Rattle.device.specs.Terms.{lowest}
use Rattle.sheet.specs.Layout.{byte_at, offset_of, extent_of, section_of}
use Rattle.sheet.specs.Conditions.{term_at, constant_at}

-- record k of a section of conditions, over n clocks with constants up to c
pub record ConditionFits (n c : ℕ) (cs : List ℕ) (k : ℕ) : Type 0 where
  pub clock : byte_at cs (4 * k) < n
  pub second : (byte_at cs (4 * k + 1) ≡ 255) ⊎ ((byte_at cs (4 * k + 1) < n) × (byte_at cs (4 * k + 1) ≢ byte_at cs (4 * k)))
  pub relation : byte_at cs (4 * k + 2) ≤ 4
  pub constant_low : lowest c (term_at cs k) ≤ℤ constant_at cs k
  pub constant_high : constant_at cs k ≤ℤ pos c

-- size, edition and reserved bytes, two sections in their order, and whole conditions, at most 1,024, each within its limits
pub record SheetFits (b : List ℕ) : Type 0 where
  pub size_low : 16 ≤ length b
  pub size_high : length b ≤ 65535
  pub edition : byte_at b 5 ≡ 2
  pub reserved_6 : byte_at b 6 ≡ 0
  pub reserved_7 : byte_at b 7 ≡ 0
  pub records_start : 16 ≤ offset_of b 0
  pub records_end : offset_of b 0 + extent_of b 0 ≤ length b
  pub conditions_start : offset_of b 0 + extent_of b 0 ≤ offset_of b 1
  pub conditions_end : offset_of b 1 + extent_of b 1 ≤ length b
  pub conditions_whole : extent_of b 1 % 4 ≡ 0
  pub conditions_most : extent_of b 1 / 4 ≤ 1024
  pub conditions : (k : ℕ) → k < length (section_of b 1) / 4 → ConditionFits (byte_at b 2) (byte_at b 3) (section_of b 1) k
