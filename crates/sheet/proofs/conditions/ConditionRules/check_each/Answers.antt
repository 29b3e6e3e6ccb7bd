use Rattle.std.proofs.Common.{◌+◌, ◌*◌, ◌/◌, length, sym, ap, ◌∙◌, arith}
use Rattle.std.proofs.lemmas.Result.{err_from_is_err_and}
use Rattle.sheet.specs.Conditions.{condition_limits}
use Rattle.sheet.specs.Limits.{checked}
use Rattle.sheet.proofs.Checks.{goes_on, stops}
use Rattle.sheet.proofs.Chunks.{condition_limits_alone}
use Rattle.sheet.proofs.conditions.ConditionRules.check_each.Goals as goal

pub returns-in_err-check : goal.returns-in_err-check
returns-in_err-check c =
    let p = err_from_is_err_and c.from_residual.result c.from_residual.ensures.1 in
    let cs = c.args.section.now in
    let r = c.args.self in
    let k = c.loop-k.k in
    let alone = condition_limits_alone cs c.as_chunks.result.0.now c.as_chunks.ensures.front k (omega arith) r.clocks r.constant r.at (c.from.result + 4 * k) (omega arith) in
    rw (p.1, p.2)
    (sym (stops (condition_limits r.clocks r.constant cs r.at) (length cs / 4) k c.loop-k.invariant c.in_err-check.field-0.0 (omega arith) (sym (c.in_err-check.ensures ∙ ap checked alone))))

pub loop-k-preserved : goal.loop-k-preserved
loop-k-preserved c =
    let cs = c.args.section.now in
    let r = c.args.self in
    let k = c.loop-k.k in
    let alone = condition_limits_alone cs c.as_chunks.result.0.now c.as_chunks.ensures.front k (omega arith) r.clocks r.constant r.at (c.from.result + 4 * k) (omega arith) in
    goes_on (condition_limits r.clocks r.constant cs r.at) (length cs / 4) k c.loop-k.invariant (omega arith) (sym (c.in_ok-check.ensures ∙ ap checked alone))
