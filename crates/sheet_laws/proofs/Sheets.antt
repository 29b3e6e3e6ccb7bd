-- The limits of a sheet rise: 1 to 3 in its header, 4 and 5 in its directory, 6 in its conditions, and then 7 or 8.
use Rattle.std.proofs.Common.{◌≡◌, ℕ, ◌+◌, ◌*◌, ◌/◌, ◌≤◌, List, ◌++◌, length, Err, sym, ap, arith}
use Rattle.sheet.specs.declared.kinds.SheetKind.{SheetKind}
use Rattle.sheet.specs.declared.kinds.SheetKind.TheVariants.{Device, Property}
use Rattle.sheet.specs.declared.faults.RecordFault.{RecordFault}
use Rattle.sheet.specs.declared.faults.DirectoryFault.{DirectoryFault}
use Rattle.sheet.specs.declared.faults.DirectoryFault.TheVariants.{InRecord}
use Rattle.sheet.specs.declared.faults.SheetFault.{SheetFault}
use Rattle.sheet.specs.declared.faults.SheetFault.TheVariants.{InDirectory}
use Rattle.sheet.specs.Limits.{Limit, held_in, checked, read_if}
use Rattle.sheet.specs.Order.{ToldFirst}
use Rattle.sheet.specs.Layout.{byte_at, offset_of, section_of, header_limits, directory_limits}
use Rattle.sheet.specs.Conditions.{condition_limits, conditions_limits}
use Rattle.device_sheet.specs.Edges.{edge_limits}
use Rattle.device_sheet.specs.Sheets.{edges_limits, device_limits, sheet_meaning}
use Rattle.property_sheet.specs.Records.{line_limits}
use Rattle.property_sheet.specs.Sheets.{lines_limits, property_limits, sheet_content}
use Rattle.sheet_laws.specs.Refusals.{DeviceRefusedFirst, PropertyRefusedFirst}
use Rattle.sheet_laws.proofs.Rising.{Key, at, Rises, rises_before, rises_append, rises_each, rises_held}
use Rattle.sheet_laws.proofs.Faults.{key_of}
use Rattle.sheet_laws.proofs.First.{refused_first}

-- the keys that faults of the layers below have in a sheet
abbrev directory_key : DirectoryFault → Key
directory_key f = key_of (InDirectory f)

abbrev record_key : RecordFault → Key
record_key f = directory_key (InRecord f)

header_rises : (s : SheetKind) (b : List ℕ) → Rises key_of (at 1 0) (at 4 0) (header_limits s b)
header_rises Device b = omega arith
header_rises Property b = omega arith

directory_rises : (s : SheetKind) (b : List ℕ) → Rises directory_key (at 4 0) (at 6 0) (directory_limits s b)
directory_rises Device b = omega arith
directory_rises Property b = omega arith

-- one record of each kind, in a section that begins at byte o
condition_rises : (n c : ℕ) (cs : List ℕ) (o k : ℕ) → Rises record_key (at 6 (o + 4 * k)) (at 6 (o + 4 * (k + 1))) (condition_limits n c cs o k)
condition_rises n c cs o k = omega arith

edge_rises : (n c m : ℕ) (es : List ℕ) (o e : ℕ) → Rises record_key (at 7 (o + 8 * e)) (at 7 (o + 8 * (e + 1))) (edge_limits n c m es o e)
edge_rises n c m es o e = omega arith

line_rises : (n c m : ℕ) (ls : List ℕ) (o k : ℕ) → Rises record_key (at 8 (o + 4 * k)) (at 8 (o + 4 * (k + 1))) (line_limits n c m ls o k)
line_rises n c m ls o k = omega arith

-- a section of each kind
conditions_rise : (b : List ℕ) → Rises record_key (at 6 0) (at 7 0) (conditions_limits b)
conditions_rise b =
    rises_each record_key (condition_limits (byte_at b 2) (byte_at b 3) (section_of b 1) (offset_of b 1)) 6
    (λ k. offset_of b 1 + 4 * k) (condition_rises (byte_at b 2) (byte_at b 3) (section_of b 1) (offset_of b 1))
    (length (section_of b 1) / 4)

edges_rise : (b : List ℕ) → Rises record_key (at 7 0) (at 8 0) (edges_limits b)
edges_rise b =
    let m = length (section_of b 1) / 4 in
    rises_each record_key (edge_limits (byte_at b 1) (byte_at b 2) m (section_of b 0) (offset_of b 0)) 7
    (λ e. offset_of b 0 + 8 * e) (edge_rises (byte_at b 1) (byte_at b 2) m (section_of b 0) (offset_of b 0))
    (length (section_of b 0) / 8)

lines_rise : (b : List ℕ) → Rises record_key (at 8 0) (at 9 0) (lines_limits b)
lines_rise b =
    let n = length (section_of b 0) / 4 in
    let m = length (section_of b 1) / 4 in
    rises_each record_key (line_limits n (byte_at b 2) m (section_of b 0) (offset_of b 0)) 8
    (λ k. offset_of b 0 + 4 * k) (line_rises n (byte_at b 2) m (section_of b 0) (offset_of b 0)) n

-- a whole sheet, whose last records have the number n
module _ (s : SheetKind) (b : List ℕ) (rs : List (Limit RecordFault)) (n : ℕ) (h : 7 ≤ n) (last : Rises record_key (at n 0) (at (n + 1) 0) rs) where
  abbrev records : List (Limit RecordFault)
  records = conditions_limits b ++ rs

  abbrev sections : List (Limit DirectoryFault)
  sections = directory_limits s b ++ held_in InRecord records

  records_rise : Rises record_key (at 6 0) (at (n + 1) 0) records
  records_rise =
      rises_append record_key (at 6 0) (at 7 0) (at (n + 1) 0) (conditions_limits b) rs (conditions_rise b) (rises_before record_key (at 7 0) (at n 0) (at (n + 1) 0) rs (omega arith) last)

  sections_rise : Rises directory_key (at 4 0) (at (n + 1) 0) sections
  sections_rise =
      rises_append directory_key (at 4 0) (at 6 0) (at (n + 1) 0) (directory_limits s b) (held_in InRecord records) (directory_rises s b) (rises_held directory_key InRecord (at 6 0) (at (n + 1) 0) records records_rise)

  sheet_rises : Rises key_of (at 1 0) (at (n + 1) 0) (header_limits s b ++ held_in InDirectory sections)
  sheet_rises =
      rises_append key_of (at 1 0) (at 4 0) (at (n + 1) 0) (header_limits s b) (held_in InDirectory sections) (header_rises s b) (rises_held key_of InDirectory (at 4 0) (at (n + 1) 0) sections sections_rise)

pub device_refused_first : DeviceRefusedFirst
device_refused_first b f =
    refused_first (sheet_meaning b) (at 1 0) (at 8 0) (device_limits b) f (sheet_rises Device b (edges_limits b) 7 (omega arith) (edges_rise b))

pub property_refused_first : PropertyRefusedFirst
property_refused_first b f =
    refused_first (sheet_content b) (at 1 0) (at 9 0) (property_limits b) f (sheet_rises Property b (lines_limits b) 8 (omega arith) (lines_rise b))

-- the same from a check that told a fault
pub device_told : (b : List ℕ) (f : SheetFault) → Err f ≡ checked (device_limits b) → ToldFirst (device_limits b) f
device_told b f e = (device_refused_first b f).0 (ap (λ r. read_if r (sheet_meaning b)) (sym e))

pub property_told : (b : List ℕ) (f : SheetFault) → Err f ≡ checked (property_limits b) → ToldFirst (property_limits b) f
property_told b f e = (property_refused_first b f).0 (ap (λ r. read_if r (sheet_content b)) (sym e))
