-- A sheet is refused with a fault exactly if the fault's limit is broken, no limit of a smaller number is,
-- and none of its number at a lower place.
use Rattle.std.specs.Prelude.{◌≡◌, ℕ, List, Err}
use Rattle.sheet.specs.declared.faults.SheetFault.{SheetFault}
use Rattle.sheet.specs.Order.{ToldFirst}
use Rattle.device_sheet.specs.Sheets.{device_limits, read_device}
use Rattle.property_sheet.specs.Sheets.{property_limits, read_property}

abbrev pub DeviceRefusedFirst : Type 0
DeviceRefusedFirst =
    (b : List ℕ) (f : SheetFault) → (read_device b ≡ Err f → ToldFirst (device_limits b) f) × (ToldFirst (device_limits b) f → read_device b ≡ Err f)

abbrev pub PropertyRefusedFirst : Type 0
PropertyRefusedFirst =
    (b : List ℕ) (f : SheetFault) → (read_property b ≡ Err f → ToldFirst (property_limits b) f) × (ToldFirst (property_limits b) f → read_property b ≡ Err f)
