-- Reading a property sheet: its limits in the order of checking, and what it holds if all are kept.
use Rattle.std.specs.Prelude.{ℕ, ◌/◌, List, length, Result}
use Rattle.sheet.specs.declared.faults.RecordFault.{RecordFault}
use Rattle.sheet.specs.declared.faults.DirectoryFault.{DirectoryFault}
use Rattle.sheet.specs.declared.faults.SheetFault.{SheetFault}
use Rattle.sheet.specs.declared.kinds.SheetKind.TheVariants.{Property}
use Rattle.sheet.specs.Layout.{byte_at, offset_of, section_of}
use Rattle.sheet.specs.Limits.{Limit, of_each, checked, read_if}
use Rattle.sheet.specs.Sheets.{sections_limits as sections_limits_of, sheet_limits}
use Rattle.property_sheet.specs.Contents.{Content}
use Rattle.property_sheet.specs.Records.{lines_from, line_limits}

-- the limits of every line
abbrev pub lines_limits : List ℕ → List (Limit RecordFault)
lines_limits b =
    of_each
    (line_limits (length (section_of b 0) / 4) (byte_at b 2) (length (section_of b 1) / 4) (section_of b 0) (offset_of b 0))
    0 (length (section_of b 0) / 4)

-- the directory with its records, and the whole sheet
abbrev pub sections_limits : List ℕ → List (Limit DirectoryFault)
sections_limits b = sections_limits_of Property lines_limits b

abbrev pub property_limits : List ℕ → List (Limit SheetFault)
property_limits b = sheet_limits Property lines_limits b

abbrev pub sheet_content : List ℕ → Content
sheet_content b = record {
  lines = lines_from (section_of b 0) (section_of b 1) 0 (length (section_of b 0) / 4);
  clocks = byte_at b 2;
  constant = byte_at b 3;
}

-- a sheet is read as its content, or refused with the first limit that it breaks
abbrev pub read_property : List ℕ → Result Content SheetFault
read_property b = read_if (checked (property_limits b)) (sheet_content b)
