-- The line that tells a report.
use Rattle.std.specs.Prelude.{ℕ, List, ◌++◌, codes, decimal}
use Rattle.sheet.specs.declared.kinds.SheetKind.TheVariants.{Device, Property}
use Rattle.wording.specs.Refusals.{refused_text}
use Rattle.chart.specs.Answers.{verdict_text, number_of}
use Rattle.judge.specs.declared.report.Judgement.{Judgement}
use Rattle.judge.specs.declared.report.Report.{Report}
use Rattle.judge.specs.declared.report.Report.TheVariants.{DeviceRefused, PropertyRefused, RunRefused, Judged}

-- verdict, rows, strikes, examinations
abbrev pub judgement_text : Judgement → List ℕ
judgement_text j =
    verdict_text j.verdict ++ (codes " " ++ (decimal j.rows ++ (codes " " ++ (decimal j.strikes ++ (codes " " ++ decimal j.examinations)))))

-- the sheet that is refused, the number of the run's refusal, or the judgement
abbrev pub report_text : Report → List ℕ
report_text (DeviceRefused f) = refused_text Device f
report_text (PropertyRefused f) = refused_text Property f
report_text (RunRefused e) = codes "refused " ++ decimal (number_of e)
report_text (Judged j) = judgement_text j

abbrev pub report_line : Report → List ℕ
report_line r = report_text r ++ codes "\n"
