use Rattle.std.proofs.Common.{length, Ok, Err, refl, ap, ◌∙◌, arith}
use Rattle.run.specs.declared.openings.Opening.{Opening}
use Rattle.judge.specs.declared.report.Report.TheVariants.{Judged}
use Rattle.judge.specs.Reports.{reported}
use Rattle.property.specs.Contents.{content_of}
use Rattle.judge.proofs.Rightness.{open_refused, grow_refused, thin_refused, ask_refused, all_told}
use Rattle.judge.proofs.judging.judgement.Goals as goal

pub returns-in_err-run : goal.returns-in_err-run
returns-in_err-run g c =
    open_refused (g.D.Device.meaning c.args.instance.now.device.now) (content_of c.args.instance.now.property.now) c.args.chart.now
    c.from_residual.result c.in_err-run.field-0.0 c.open.new.chart c.from_residual.ensures.1 c.in_err-run.ensures.opens

pub returns-in_err-grow : goal.returns-in_err-grow
returns-in_err-grow g c =
    let e = c.in_err-grow.field-0.0 in
    grow_refused (g.D.Device.meaning c.args.instance.now.device.now) (content_of c.args.instance.now.property.now) c.args.chart.now
    c.open.new.chart c.in_ok-run.run' c.in_ok-run.ensures.opens (length c.open.new.chart) (omega arith)
    c.grow.new.self.progress c.grow.new.chart (Err e) c.in_err-grow.ensures.done
    c.from_residual-in_err-grow.result e c.from_residual-in_err-grow.ensures.1 refl

pub returns-in_err-thin : goal.returns-in_err-thin
returns-in_err-thin g c =
    let e = c.in_err-thin.field-0.0 in
    thin_refused (g.D.Device.meaning c.args.instance.now.device.now) (content_of c.args.instance.now.property.now) c.args.chart.now
    c.open.new.chart c.in_ok-run.run' c.in_ok-run.ensures.opens (length c.open.new.chart) (omega arith)
    c.grow.new.self.progress c.grow.new.chart (Ok c.in_ok-grow.field-0) c.in_ok-grow.ensures.done
    c.in_ok-grow.field-0 refl c.grow.new.self.opening c.grow.ensures.same _ refl
    c.thin.new.self.progress c.thin.new.chart (Err e) c.in_err-thin.ensures.done
    c.from_residual-in_err-thin.result e c.from_residual-in_err-thin.ensures.1 refl

pub returns-in_err-verdict : goal.returns-in_err-verdict
returns-in_err-verdict g c =
    let e = c.in_err-verdict.field-0.0 in
    ask_refused (g.D.Device.meaning c.args.instance.now.device.now) (content_of c.args.instance.now.property.now) c.args.chart.now
    c.open.new.chart c.in_ok-run.run' c.in_ok-run.ensures.opens (length c.open.new.chart) (omega arith)
    c.grow.new.self.progress c.grow.new.chart (Ok c.in_ok-grow.field-0) c.in_ok-grow.ensures.done
    c.in_ok-grow.field-0 refl c.grow.new.self.opening c.grow.ensures.same _ refl
    c.thin.new.self.progress c.thin.new.chart (Ok c.in_ok-thin.field-0) c.in_ok-thin.ensures.done
    c.in_ok-thin.field-0 refl c.thin.new.self.opening.size (ap (λ (x : Opening). x.size) c.thin.ensures.same) (Err e) c.in_err-verdict.ensures
    c.from_residual-in_err-verdict.result e c.from_residual-in_err-verdict.ensures.1 refl

pub returns : goal.returns
returns g c =
    let told =
    all_told (g.D.Device.meaning c.args.instance.now.device.now) (content_of c.args.instance.now.property.now) c.args.chart.now
    c.open.new.chart c.in_ok-run.run' c.in_ok-run.ensures.opens (length c.open.new.chart) (omega arith)
    c.grow.new.self.progress c.grow.new.chart (Ok c.in_ok-grow.field-0) c.in_ok-grow.ensures.done
    c.in_ok-grow.field-0 refl c.grow.new.self.opening c.grow.ensures.same _ refl
    c.thin.new.self.progress c.thin.new.chart (Ok c.in_ok-thin.field-0) c.in_ok-thin.ensures.done
    c.in_ok-thin.field-0 refl c.thin.new.self.opening.size (ap (λ (x : Opening). x.size) c.thin.ensures.same) (Ok c.in_ok-verdict.verdict) c.in_ok-verdict.ensures
    c.in_ok-verdict.verdict refl in
    let rows = c.rows.ensures in
    let strikes = c.strikes.ensures in
    let examinations = c.examinations.ensures in
    (λ i. reported (Judged (record { verdict = c.in_ok-verdict.verdict; rows = rows i; strikes = strikes i; examinations = examinations i })) c.thin.new.chart) ∙ told
