-- A sheet is accepted exactly if every limit holds.
use Rattle.std.specs.Prelude.{◌≡◌, ℕ, true, List, is_ok, Ok}
use Rattle.device_sheet.specs.Sheets.{read_device, sheet_meaning}
use Rattle.device_sheet.specs.Fits.{DeviceFits}
use Rattle.property_sheet.specs.Sheets.{read_property, sheet_content}
use Rattle.property_sheet.specs.Fits.{PropertyFits}

abbrev pub DeviceAcceptedExactly : Type 0
DeviceAcceptedExactly =
    (b : List ℕ) → (is_ok (read_device b) ≡ true → DeviceFits b) × (DeviceFits b → read_device b ≡ Ok (sheet_meaning b))

abbrev pub PropertyAcceptedExactly : Type 0
PropertyAcceptedExactly =
    (b : List ℕ) → (is_ok (read_property b) ≡ true → PropertyFits b) × (PropertyFits b → read_property b ≡ Ok (sheet_content b))
