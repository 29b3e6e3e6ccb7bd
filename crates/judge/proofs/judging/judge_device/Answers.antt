use Rattle.std.proofs.Common.{rules}
use Rattle.property.specs.Contents.{content_of}
use Rattle.judge.proofs.Rightness.{report_right}
use Rattle.judge.proofs.judging.judge_device.Goals as goal

pub returns-clause-right : goal.returns-clause-right
returns-clause-right g c =
    report_right (g.D.Device.meaning c.args.instance.now.device.now) (content_of c.args.instance.now.property.now) (g.D.Device.lawful c.args.instance.now.device.now) c.keeps_limits.ensures
    c.args.chart.now c.map_or_else.result c.judgement.new.chart (search rules)
