-- The two kinds of sheet, the sections that each has, and the sizes and counts of records.
use Rattle.std.specs.Prelude.{ℕ, List, [], ◌∷◌}
pub use Rattle.sheet.specs.declared.kinds.SheetKind.{SheetKind}
pub use Rattle.sheet.specs.declared.kinds.SheetKind.TheVariants.{Device, Property}
pub use Rattle.sheet.specs.declared.kinds.RecordKind.{RecordKind}
pub use Rattle.sheet.specs.declared.kinds.RecordKind.TheVariants.{Edges, Lines, Conditions}

-- the letters D and P
abbrev pub letter_of : SheetKind → ℕ
letter_of Device = 68
letter_of Property = 80

-- the sections of a sheet, in the order of its directory
abbrev pub sections_of : SheetKind → List RecordKind
sections_of Device = Edges ∷ Conditions ∷ []
sections_of Property = Lines ∷ Conditions ∷ []

-- the bytes of a record, and how many records a section has at least and at most
abbrev pub size_of : RecordKind → ℕ
size_of Edges = 8
size_of Lines = 4
size_of Conditions = 4

abbrev pub least_of : RecordKind → ℕ
least_of Edges = 0
least_of Lines = 1
least_of Conditions = 0

abbrev pub most_of : RecordKind → ℕ
most_of Edges = 256
most_of Lines = 200
most_of Conditions = 1024
