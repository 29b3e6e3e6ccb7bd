-- From the bytes of an input and a chart to the report: both sheets read, a run opened, grown, thinned and asked.
use Rattle.std.specs.Prelude.{ℕ, ◌+◌, ◌*◌, cond, List, length, Ok, Err, Result}
use Rattle.device.specs.Meaning.{Meaning}
use Rattle.sheet.specs.declared.faults.SheetFault.{SheetFault}
use Rattle.sheet.specs.Inputs.{device_part, property_part}
use Rattle.device_sheet.specs.Sheets.{read_device}
use Rattle.property_sheet.specs.Contents.{Content}
use Rattle.property_sheet.specs.Sheets.{read_property}
use Rattle.chart.specs.declared.rows.Row.{Row}
use Rattle.chart.specs.declared.progress.Progress.{Progress}
use Rattle.chart.specs.declared.answers.Verdict.{Verdict}
use Rattle.chart.specs.declared.answers.RunRefusal.{RunRefusal}
use Rattle.chart.specs.declared.answers.RunRefusal.TheVariants.{BadChart}
use Rattle.chart.specs.Steps.{Stepped}
use Rattle.chart.specs.Calls.{chart_fits, opened, opened_chart, numbers_of, grow, thin, ask}
use Rattle.judge.specs.declared.report.Judgement.{Judgement}
use Rattle.judge.specs.declared.report.Report.{Report}
use Rattle.judge.specs.declared.report.Report.TheVariants.{DeviceRefused, PropertyRefused, RunRefused, Judged}

-- the report, and the chart as it is left
pub record Reported : Type 0 where
  pub report : Report
  pub chart : List Row

abbrev pub reported : Report → List Row → Reported
reported r chart = record { report = r; chart = chart }

-- asked last: the verdict with the run's counts
abbrev pub asked : Progress → Result Verdict RunRefusal → Report
asked run (Ok v) = Judged (record { verdict = v; rows = run.rows; strikes = run.strikes; examinations = run.examinations })
asked run (Err e) = RunRefused e

-- a judgement, or the run's refusal
abbrev pub run_report : Result Judgement RunRefusal → Report
run_report (Ok j) = Judged j
run_report (Err e) = RunRefused e

abbrev pub after_thin_by : ℕ → Stepped → Result ℕ RunRefusal → Reported
after_thin_by size a (Ok n) = reported (asked a.run (ask size a.run a.chart)) a.chart
after_thin_by size a (Err e) = reported (RunRefused e) a.chart

abbrev pub after_thin : ℕ → Stepped → Reported
after_thin size a = after_thin_by size a a.outcome

-- thinned by C (C + 1), C being the chart's rows
abbrev pub after_grow_by : Meaning → Content → ℕ → Stepped → Result ℕ RunRefusal → Reported
after_grow_by m s size a (Ok n) = after_thin size (thin m s size (numbers_of m s) (size * (size + 1)) a.run a.chart)
after_grow_by m s size a (Err e) = reported (RunRefused e) a.chart

abbrev pub after_grow : Meaning → Content → ℕ → Stepped → Reported
after_grow m s size a = after_grow_by m s size a a.outcome

-- opened and grown by the chart's rows
unfoldable pub judged : Meaning → Content → List Row → Reported
judged m s chart =
    let size = length chart in
    let run = after_grow m s size (grow m s size (numbers_of m s) size opened (opened_chart m s chart)) in
    cond (chart_fits chart) run (reported (RunRefused BadChart) chart)

-- the device's sheet is read first
abbrev pub with_property : Meaning → Result Content SheetFault → List Row → Reported
with_property m (Ok s) chart = judged m s chart
with_property m (Err f) chart = reported (PropertyRefused f) chart

abbrev pub with_device : Result Meaning SheetFault → Result Content SheetFault → List Row → Reported
with_device (Ok m) p chart = with_property m p chart
with_device (Err f) p chart = reported (DeviceRefused f) chart

-- what is reported of two sheets before the judging
abbrev pub both_sheets : Result Meaning SheetFault → Result Content SheetFault → Result (Unit {0}) Report
both_sheets (Ok m) (Ok s) = Ok tt
both_sheets (Ok m) (Err f) = Err (PropertyRefused f)
both_sheets (Err f) p = Err (DeviceRefused f)

unfoldable pub report_of : List ℕ → List Row → Reported
report_of input chart = with_device (read_device (device_part input)) (read_property (property_part input)) chart
