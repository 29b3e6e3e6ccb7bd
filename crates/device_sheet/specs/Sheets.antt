-- Reading a device sheet: its limits in the order of checking, and what it means if all are kept.
use Rattle.std.specs.Prelude.{ℕ, ◌/◌, cond, List, length, Some, None, Result, nat_lt}
use Rattle.device.specs.Meaning.{Meaning}
use Rattle.sheet.specs.declared.faults.RecordFault.{RecordFault}
use Rattle.sheet.specs.declared.faults.DirectoryFault.{DirectoryFault}
use Rattle.sheet.specs.declared.faults.SheetFault.{SheetFault}
use Rattle.sheet.specs.declared.kinds.SheetKind.TheVariants.{Device}
use Rattle.sheet.specs.Layout.{byte_at, offset_of, section_of}
use Rattle.sheet.specs.Limits.{Limit, of_each, checked, read_if}
use Rattle.sheet.specs.Sheets.{sections_limits as sections_limits_of, sheet_limits}
use Rattle.device_sheet.specs.Edges.{transition_at, edge_limits}

-- the limits of every edge
abbrev pub edges_limits : List ℕ → List (Limit RecordFault)
edges_limits b =
    of_each
    (edge_limits (byte_at b 1) (byte_at b 2) (length (section_of b 1) / 4) (section_of b 0) (offset_of b 0))
    0 (length (section_of b 0) / 8)

-- the directory with its records, and the whole sheet
abbrev pub sections_limits : List ℕ → List (Limit DirectoryFault)
sections_limits b = sections_limits_of Device edges_limits b

abbrev pub device_limits : List ℕ → List (Limit SheetFault)
device_limits b = sheet_limits Device edges_limits b

-- a device of n nodes that starts at s, with c clocks, constants up to k, and these edges and conditions;
-- every table tells 8 as its most conditions
abbrev pub table_meaning : ℕ → ℕ → ℕ → ℕ → List ℕ → List ℕ → Meaning
table_meaning n s c k es cs = record {
  nodes = n;
  start = s;
  clocks = c;
  constant = k;
  most = 8;
  edges = length es / 8;
  edge_at = λ e. cond (nat_lt e (length es / 8)) (Some (transition_at es cs e)) None;
}

abbrev pub sheet_meaning : List ℕ → Meaning
sheet_meaning b =
    table_meaning (byte_at b 1) (byte_at b 4) (byte_at b 2) (byte_at b 3) (section_of b 0) (section_of b 1)

-- a sheet is read as its meaning, or refused with the first limit that it breaks
abbrev pub read_device : List ℕ → Result Meaning SheetFault
read_device b = read_if (checked (device_limits b)) (sheet_meaning b)
