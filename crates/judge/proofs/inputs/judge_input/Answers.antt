use Rattle.table.specs.Meanings.{meaning_of}
use Rattle.property.specs.Contents.{content_of}
use Rattle.judge.proofs.Sheets.{sheet_refused, both_read}
use Rattle.judge.proofs.inputs.judge_input.Goals as goal

pub returns-in-Err-clause-report : goal.returns-in-Err-clause-report
returns-in-Err-clause-report c = (sheet_refused c.args.input.now c.args.chart.now c.in-Err.refused c.in-Err.ensures.sheets).0

pub returns-in-Err-clause-right : goal.returns-in-Err-clause-right
returns-in-Err-clause-right c = (sheet_refused c.args.input.now c.args.chart.now c.in-Err.refused c.in-Err.ensures.sheets).1

pub returns-clause-report : goal.returns-clause-report
returns-clause-report c =
    both_read c.args.input.now c.args.chart.now (meaning_of c.load.new.device) (content_of c.load.new.property) c.judge_device.result c.judge_device.new.chart
    c.in_default.ensures.device c.in_default.ensures.property c.judge_device.ensures.report
