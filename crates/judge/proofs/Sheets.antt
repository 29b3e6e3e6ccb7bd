-- The report of an input is that of its device and its property, or of the first sheet that is refused.
use Rattle.std.proofs.Common.{◌≡◌, ℕ, List, Ok, Err, Result, sym, ◌∙◌, arith}
use Rattle.device.specs.Meaning.{Meaning}
use Rattle.sheet.specs.declared.faults.SheetFault.{SheetFault}
use Rattle.sheet.specs.Inputs.{device_part, property_part}
use Rattle.device_sheet.specs.Sheets.{read_device}
use Rattle.property_sheet.specs.Contents.{Content}
use Rattle.property_sheet.specs.Sheets.{read_property}
use Rattle.chart.specs.declared.rows.Row.{Row}
use Rattle.judge.specs.declared.report.Report.{Report}
use Rattle.judge.specs.declared.report.Report.TheVariants.{DeviceRefused, PropertyRefused}
use Rattle.judge.specs.Reports.{reported, judged, with_device, both_sheets, report_of}
use Rattle.judge.specs.Verdicts.{WithDevice, InputRight}

first_refused : (m : Result Meaning SheetFault) (s : Result Content SheetFault) (r : Report) → ◌≡◌ {A = Result (Unit {0}) Report} (Err r) (both_sheets m s) → (chart : List Row) → (reported r chart ≡ with_device m s chart) × WithDevice m s chart r
first_refused (Ok m) (Ok s) r e chart = let z : ◌≡◌ {A = ℕ} 0 1 = cc in absurd (omega arith)
first_refused (Ok m) (Err f) r e chart = let same : r ≡ PropertyRefused f = cc in (λ i. reported (same i) chart, same)
first_refused (Err f) s r e chart = let same : r ≡ DeviceRefused f = cc in (λ i. reported (same i) chart, same)

module _ (input : List ℕ) (chart : List Row) where
  pub sheet_refused :
      (r : Report) → ◌≡◌ {A = Result (Unit {0}) Report} (Err r) (both_sheets (read_device (device_part input)) (read_property (property_part input))) →
      (reported r chart ≡ report_of input chart) × InputRight input chart r
  unfolding report_of
  sheet_refused r e = first_refused (read_device (device_part input)) (read_property (property_part input)) r e chart

  pub both_read :
      (m : Meaning) (s : Content) (r : Report) (after : List Row) → read_device (device_part input) ≡ Ok m → read_property (property_part input) ≡ Ok s →
      reported r after ≡ judged m s chart → reported r after ≡ report_of input chart
  unfolding report_of
  both_read m s r after em es e = e ∙ sym (λ i. with_device (em i) (es i) chart)
