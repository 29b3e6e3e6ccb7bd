-- The eight refusals of a sheet with their numbers, and what a fault tells: its cause, its place and its layer.
use Rattle.std.specs.Prelude.{ℕ}
use Rattle.sheet.specs.Kinds.{RecordKind, Edges, Lines, Conditions}
pub use Rattle.sheet.specs.declared.faults.Layer.{Layer}
pub use Rattle.sheet.specs.declared.faults.Layer.TheVariants.{Sheet, Directory, Record}
pub use Rattle.sheet.specs.declared.faults.Refusal.{Refusal}
pub use Rattle.sheet.specs.declared.faults.Refusal.TheVariants.{BadSize, BadLetter, BadHeader, BadBounds, BadCount, BadCondition, BadEdge, BadLine}
pub use Rattle.sheet.specs.declared.faults.RecordFault.{RecordFault}
pub use Rattle.sheet.specs.declared.faults.DirectoryFault.{DirectoryFault}
pub use Rattle.sheet.specs.declared.faults.DirectoryFault.TheVariants.{Bounds, Count, InRecord}
pub use Rattle.sheet.specs.declared.faults.SheetFault.{SheetFault}
pub use Rattle.sheet.specs.declared.faults.SheetFault.TheVariants.{Size, Letter, Header, InDirectory}

-- the refusals, numbered in the order of checking
abbrev pub number_of : Refusal → ℕ
number_of BadSize = 1
number_of BadLetter = 2
number_of BadHeader = 3
number_of BadBounds = 4
number_of BadCount = 5
number_of BadCondition = 6
number_of BadEdge = 7
number_of BadLine = 8

abbrev pub record_refusal : RecordKind → Refusal
record_refusal Conditions = BadCondition
record_refusal Edges = BadEdge
record_refusal Lines = BadLine

-- a fault of a record: a field that begins at byte p
abbrev pub record_fault : RecordKind → ℕ → RecordFault
record_fault k p = record { kind = k; place = p }

abbrev pub refusal_of : SheetFault → Refusal
refusal_of Size = BadSize
refusal_of Letter = BadLetter
refusal_of (Header p) = BadHeader
refusal_of (InDirectory (Bounds p)) = BadBounds
refusal_of (InDirectory (Count p)) = BadCount
refusal_of (InDirectory (InRecord f)) = record_refusal f.kind

abbrev pub place_of : SheetFault → ℕ
place_of Size = 0
place_of Letter = 0
place_of (Header p) = p
place_of (InDirectory (Bounds p)) = p
place_of (InDirectory (Count p)) = p
place_of (InDirectory (InRecord f)) = f.place

abbrev pub layer_of : SheetFault → Layer
layer_of Size = Sheet
layer_of Letter = Sheet
layer_of (Header p) = Sheet
layer_of (InDirectory (Bounds p)) = Directory
layer_of (InDirectory (Count p)) = Directory
layer_of (InDirectory (InRecord f)) = Record
