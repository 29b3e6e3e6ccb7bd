-- The limits of a whole sheet of kind k, whose first section holds records with these limits.
use Rattle.std.specs.Prelude.{ℕ, List, ◌++◌}
use Rattle.sheet.specs.Kinds.{SheetKind}
use Rattle.sheet.specs.Faults.{RecordFault, DirectoryFault, InRecord, SheetFault, InDirectory}
use Rattle.sheet.specs.Limits.{Limit, held_in}
use Rattle.sheet.specs.Layout.{header_limits, directory_limits}
use Rattle.sheet.specs.Conditions.{conditions_limits}

-- the directory, then the conditions, then the records of the first section
abbrev pub sections_limits : SheetKind → (List ℕ → List (Limit RecordFault)) → List ℕ → List (Limit DirectoryFault)
sections_limits k records b = directory_limits k b ++ held_in InRecord (conditions_limits b ++ records b)

abbrev pub sheet_limits : SheetKind → (List ℕ → List (Limit RecordFault)) → List ℕ → List (Limit SheetFault)
sheet_limits k records b = header_limits k b ++ held_in InDirectory (sections_limits k records b)
