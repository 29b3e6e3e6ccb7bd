-- What the words for an input are: both sheets are read, the device's first.
use Rattle.std.specs.Prelude.{ℕ, zero, suc, ◌+◌, List, ◌++◌, length, Some, None, Ok, Err, codes, decimal, Option, Result}
use Rattle.device.specs.declared.Edge.{Edge}
use Rattle.device.specs.Meaning.{Meaning, edge_of}
use Rattle.sheet.specs.declared.kinds.SheetKind.TheVariants.{Device, Property}
use Rattle.sheet.specs.declared.faults.SheetFault.{SheetFault}
use Rattle.sheet.specs.Inputs.{device_part, property_part}
use Rattle.device_sheet.specs.Sheets.{read_device}
use Rattle.property_sheet.specs.Contents.{Content}
use Rattle.property_sheet.specs.Sheets.{read_property}
use Rattle.wording.specs.Devices.{device_text}
use Rattle.wording.specs.Lines.{property_text}
use Rattle.wording.specs.declared.Refused.{Refused}
use Rattle.wording.specs.Refusals.{refusal_text}

-- how many conditions the guards of n edges have, from edge e on
abbrev pub guard_length : Option Edge → ℕ
guard_length None = 0
guard_length (Some x) = x.conditions

unfoldable pub guard_lengths : Meaning → ℕ → ℕ → ℕ
guard_lengths m e zero = 0
guard_lengths m e (suc n) = guard_length (edge_of m e) + guard_lengths m (e + 1) n

-- how many edges, conditions of guards and lines were read
abbrev pub closing_text : ℕ → ℕ → ℕ → List ℕ
closing_text e c n =
    codes "read: edges " ++ (decimal e ++ (codes ", conditions " ++ (decimal c ++ (codes ", lines " ++ (decimal n ++ codes "\n")))))

abbrev pub whole_text : Meaning → Content → List ℕ
whole_text m s =
    device_text m ++ (property_text s ++ closing_text m.edges (guard_lengths m 0 m.edges) (length s.lines))

abbrev pub after_device : Meaning → Result Content SheetFault → List ℕ
after_device m (Ok s) = whole_text m s
after_device m (Err f) = refusal_text Property f

abbrev pub described : Result Meaning SheetFault → Result Content SheetFault → List ℕ
described (Ok m) p = after_device m p
described (Err f) p = refusal_text Device f

-- what is described once both sheets are loaded, or one is refused
abbrev pub outcome : Result (Unit {0}) Refused → Meaning → Content → List ℕ
outcome (Ok u) m s = whole_text m s
outcome (Err r) m s = refusal_text r.kind r.fault

abbrev pub description : List ℕ → List ℕ
description b = described (read_device (device_part b)) (read_property (property_part b))
