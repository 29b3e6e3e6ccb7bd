use Rattle.std.proofs.Common.{[], ap, ◌∙◌, arith}
use Rattle.table.specs.Records.{record_at}
use Rattle.table.proofs.Cut.{record_found}
use Rattle.table.proofs.held.Table.record.Goals as goal

pub returns : goal.returns
returns c =
    let rs = c.edge_records in
    let found = c.in_ok-bytes.ensures.lookup in
    record_found c.args.self.now.edges.now rs.result.now rs.ensures.value c.args.number (omega arith) c.from.result (c.from.ensures ∙ ap (λ r. record_at r 0) (found.3.1 []))
