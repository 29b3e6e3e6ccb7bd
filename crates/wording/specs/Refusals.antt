-- The line that tells a refused sheet: `refused device 3 at 1 in sheet`.
use Rattle.std.specs.Prelude.{ℕ, List, ◌++◌, codes, decimal}
use Rattle.sheet.specs.declared.kinds.SheetKind.{SheetKind}
use Rattle.sheet.specs.declared.kinds.SheetKind.TheVariants.{Device, Property}
use Rattle.sheet.specs.declared.faults.Layer.{Layer}
use Rattle.sheet.specs.declared.faults.Layer.TheVariants.{Sheet, Directory, Record}
use Rattle.sheet.specs.declared.faults.Refusal.{Refusal}
use Rattle.sheet.specs.declared.faults.Refusal.TheVariants.{BadSize, BadLetter, BadHeader, BadBounds, BadCount, BadCondition, BadEdge, BadLine}
use Rattle.sheet.specs.declared.faults.SheetFault.{SheetFault}
use Rattle.sheet.specs.Faults.{number_of, refusal_of, place_of, layer_of}

abbrev pub kind_text : SheetKind → List ℕ
kind_text Device = codes "device"
kind_text Property = codes "property"

abbrev pub layer_text : Layer → List ℕ
layer_text Sheet = codes "sheet"
layer_text Directory = codes "directory"
layer_text Record = codes "record"

abbrev pub refused_text : SheetKind → SheetFault → List ℕ
refused_text k f =
    codes "refused " ++ (kind_text k ++ (codes " " ++ (decimal (number_of (refusal_of f)) ++ (codes " at " ++ (decimal (place_of f) ++ (codes " in " ++ layer_text (layer_of f)))))))

-- what each refusal means
abbrev pub cause_text : Refusal → List ℕ
cause_text BadSize = codes "the sheet is shorter than 16 bytes or longer than 65535"
cause_text BadLetter = codes "the first byte is not the letter of this kind of sheet"
cause_text BadHeader = codes "a byte of the header breaks its limit"
cause_text BadBounds = codes "a section starts too early or ends past the sheet"
cause_text BadCount = codes "a section is no whole number of records, or has too few or too many"
cause_text BadCondition = codes "a field of a condition breaks its limit"
cause_text BadEdge = codes "a field of an edge breaks its limit"
cause_text BadLine = codes "a field of a line breaks its limit"

-- the line, then what it means
abbrev pub refusal_text : SheetKind → SheetFault → List ℕ
refusal_text k f = refused_text k f ++ (codes "\n" ++ (cause_text (refusal_of f) ++ codes "\n"))
