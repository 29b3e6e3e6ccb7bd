-- A reading succeeds exactly if its check passes, and that exactly if the named limits hold.
use Rattle.std.proofs.Common.{◌≡◌, true, is_ok, Ok, Err, Result, refl, ap}
use Rattle.sheet.specs.Limits.{checked, read_if}
use Rattle.device_sheet.specs.Sheets.{device_limits, sheet_meaning}
use Rattle.device_sheet.proofs.Fitting.{device_fits_from, device_passed}
use Rattle.property_sheet.specs.Sheets.{property_limits, sheet_content}
use Rattle.property_sheet.proofs.Fitting.{property_fits_from, property_passed}
use Rattle.sheet_laws.specs.Acceptance.{DeviceAcceptedExactly, PropertyAcceptedExactly}

passed_by : {V F : Type 0} (v : V) (r : Result (Unit {0}) F) → is_ok (read_if r v) ≡ true → r ≡ Ok tt
passed_by v (Ok u) e = refl
passed_by v (Err f) e = absurd (cc)

pub device_accepted_exactly : DeviceAcceptedExactly
device_accepted_exactly b =
    (λ e. device_fits_from b (passed_by (sheet_meaning b) (checked (device_limits b)) e), λ f. ap (λ r. read_if r (sheet_meaning b)) (device_passed b f))

pub property_accepted_exactly : PropertyAcceptedExactly
property_accepted_exactly b =
    (λ e. property_fits_from b (passed_by (sheet_content b) (checked (property_limits b)) e), λ f. ap (λ r. read_if r (sheet_content b)) (property_passed b f))
