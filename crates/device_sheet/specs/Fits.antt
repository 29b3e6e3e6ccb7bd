-- The limits of a device sheet as named facts.
use Rattle.std.specs.Prelude.{◌≡◌, ℕ, ◌+◌, ◌/◌, ◌%◌, ◌^◌, ◌<◌, ◌≤◌, List, length}
use Rattle.sheet.specs.Layout.{byte_at, extent_of, section_of}
use Rattle.sheet.specs.Fits.{SheetFits}
use Rattle.device_sheet.specs.Edges.{source_at, target_at, action_at, resets_at, first_at, count_at, reserved_at}

-- edge e over n nodes, c clocks and m conditions
pub record EdgeFits (n c m : ℕ) (es : List ℕ) (e : ℕ) : Type 0 where
  pub source : source_at es e < n
  pub target : target_at es e < n
  pub action_low : 1 ≤ action_at es e
  pub action_high : action_at es e ≤ 16
  pub resets : resets_at es e < 2 ^ c
  pub first : first_at es e ≤ m
  pub count : count_at es e ≤ 8
  pub last : first_at es e + count_at es e ≤ m
  pub reserved : reserved_at es e ≡ 0

pub record DeviceFits (b : List ℕ) : Type 0 where
  pub letter : byte_at b 0 ≡ 68
  pub nodes_low : 1 ≤ byte_at b 1
  pub nodes_high : byte_at b 1 ≤ 64
  pub clocks : byte_at b 2 ≤ 4
  pub constant : byte_at b 3 ≤ 15
  pub start : byte_at b 4 < byte_at b 1
  pub sheet : SheetFits b
  pub edges_whole : extent_of b 0 % 8 ≡ 0
  pub edges_most : extent_of b 0 / 8 ≤ 256
  pub edges : (e : ℕ) → e < length (section_of b 0) / 8 → EdgeFits (byte_at b 1) (byte_at b 2) (length (section_of b 1) / 4) (section_of b 0) e
