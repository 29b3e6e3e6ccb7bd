-- What a report says of the device and the property.
use Rattle.std.specs.Prelude.{◌≡◌, ℕ, ◌<◌, ◌≤◌, false, ◌⊎◌, List, length, Ok, Err, Result}
use Rattle.device.specs.Meaning.{Meaning}
use Rattle.sheet.specs.declared.faults.SheetFault.{SheetFault}
use Rattle.sheet.specs.Inputs.{device_part, property_part}
use Rattle.device_sheet.specs.Sheets.{read_device}
use Rattle.property_sheet.specs.Contents.{Content}
use Rattle.property_sheet.specs.Sheets.{read_property}
use Rattle.semantics.specs.Frames.{line_of, Satisfied, Refuted}
use Rattle.semantics.specs.RationalTime.{rational_time, start_state}
use Rattle.chart.specs.declared.rows.Row.{Row}
use Rattle.chart.specs.declared.answers.Verdict.{Verdict}
use Rattle.chart.specs.declared.answers.Verdict.TheVariants.{Yes, No, NotYet}
use Rattle.chart.specs.declared.answers.RunRefusal.TheVariants.{BadChart, ChartFull}
use Rattle.chart.specs.Calls.{chart_fits}
use Rattle.chart.specs.Law.{Counts}
use Rattle.judge.specs.declared.report.Report.{Report}
use Rattle.judge.specs.declared.report.Report.TheVariants.{DeviceRefused, PropertyRefused, RunRefused, Judged}

-- yes: some satisfiability relation over rational time holds the start with line 0; no: none does, and it is refuted;
-- never not yet
abbrev pub VerdictRight : Meaning → Content → Verdict → Type 0
VerdictRight m s Yes = Satisfied (rational_time m) (line_of s) (start_state m) 0
VerdictRight m s No = Refuted (rational_time m) (line_of s) (start_state m) 0 × (Satisfied (rational_time m) (line_of s) (start_state m) 0 → ⊥)
VerdictRight m s NotYet = ⊥

-- N counts the claims that the start with line 0 leads to: the run is refused exactly if the chart has no rows or over
-- 65,535, or fewer than N; otherwise it has N rows and the verdict is right
abbrev pub RunRight : Meaning → Content → ℕ → List Row → Report → Type 0
RunRight m s N chart (RunRefused e) =
    ((e ≡ BadChart) × (chart_fits chart ≡ false)) ⊎ ((e ≡ ChartFull) × (length chart < N))
RunRight m s N chart (Judged j) = (N ≤ length chart) × (j.rows ≡ N) × VerdictRight m s j.verdict
RunRight m s N chart (DeviceRefused f) = ⊥
RunRight m s N chart (PropertyRefused f) = ⊥

pub record JudgedRight (m : Meaning) (s : Content) (chart : List Row) (r : Report) : Type 0 where
  pub N : ℕ
  pub counted : Counts m s N
  pub right : RunRight m s N chart r

-- the same of the device and the property of an input's bytes: the first sheet that is refused is told, the device's
-- before the property's
abbrev pub WithProperty : Meaning → Result Content SheetFault → List Row → Report → Type 0
WithProperty m (Ok s) chart r = JudgedRight m s chart r
WithProperty m (Err f) chart r = r ≡ PropertyRefused f

abbrev pub WithDevice : Result Meaning SheetFault → Result Content SheetFault → List Row → Report → Type 0
WithDevice (Ok m) p chart r = WithProperty m p chart r
WithDevice (Err f) p chart r = r ≡ DeviceRefused f

abbrev pub InputRight : List ℕ → List Row → Report → Type 0
InputRight input chart r = WithDevice (read_device (device_part input)) (read_property (property_part input)) chart r
