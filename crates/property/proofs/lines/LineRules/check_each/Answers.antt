use Rattle.std.proofs.Common.{◌+◌, ◌*◌, arith}
use Rattle.std.proofs.lemmas.Result.{err_from_is_err_and}
use Rattle.property.proofs.Cut.{line_kept, line_broken}
use Rattle.property.proofs.lines.LineRules.check_each.Goals as goal

pub returns-in_err-check_line : goal.returns-in_err-check_line
returns-in_err-check_line c =
    let p = err_from_is_err_and c.from_residual.result c.from_residual.ensures.1 in
    let r = c.args.self in
    let rs = c.line_records-bytes-items in
    rw (p.1, p.2)
    (line_broken c.args.section.now rs.result.now rs.ensures.value c.loop-k.k (omega arith) r.lines r.clocks r.conditions r.at c.loop-k.invariant (c.from.result + 4 * c.loop-k.k) (omega arith) c.in_err-check_line.field-0.0 c.in_err-check_line.ensures)

pub loop-k-preserved : goal.loop-k-preserved
loop-k-preserved c =
    let r = c.args.self in
    let rs = c.line_records-bytes-items in
    line_kept c.args.section.now rs.result.now rs.ensures.value c.loop-k.k (omega arith) r.lines r.clocks r.conditions r.at c.loop-k.invariant (c.from.result + 4 * c.loop-k.k) (omega arith) c.in_ok-check_line.ensures
