use Rattle.std.proofs.Common.{◌+◌, ◌*◌, arith}
use Rattle.std.proofs.lemmas.Result.{err_from_is_err_and}
use Rattle.table.proofs.Cut.{edge_kept, edge_broken}
use Rattle.table.proofs.edges.EdgeRules.check_each.Goals as goal

pub returns-in_err-check_edge : goal.returns-in_err-check_edge
returns-in_err-check_edge c =
    let p = err_from_is_err_and c.from_residual.result c.from_residual.ensures.1 in
    let r = c.args.self in
    let rs = c.edge_records-bytes-items in
    rw (p.1, p.2)
    (edge_broken c.args.section.now rs.result.now rs.ensures.value c.loop-e.e (omega arith) r.nodes r.clocks r.conditions r.at c.loop-e.invariant (c.from.result + 8 * c.loop-e.e) (omega arith) c.in_err-check_edge.field-0.0 c.in_err-check_edge.ensures)

pub loop-e-preserved : goal.loop-e-preserved
loop-e-preserved c =
    let r = c.args.self in
    let rs = c.edge_records-bytes-items in
    edge_kept c.args.section.now rs.result.now rs.ensures.value c.loop-e.e (omega arith) r.nodes r.clocks r.conditions r.at c.loop-e.invariant (c.from.result + 8 * c.loop-e.e) (omega arith) c.in_ok-check_edge.ensures
