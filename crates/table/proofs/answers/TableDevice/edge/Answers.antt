use Rattle.table.proofs.Guards.{edge_mapped}
use Rattle.table.proofs.answers.TableDevice.edge.Goals as goal

pub returns : goal.returns
returns c =
    let t = c.args.self.now in
    edge_mapped t.nodes t.start t.clocks t.constant t.edges.now t.conditions.now c.args.number c.record.result c.map.result _ (λ r d made. made) c.map.ensures.cases c.record.ensures
