use Rattle.std.proofs.Common.{◌/◌, length}
use Rattle.device_sheet.specs.Edges.{edge_limits}
use Rattle.sheet.proofs.Checks.{LeftFrom}
use Rattle.table.proofs.edges.EdgeRules.check_each.Given as goal

abbrev pub invariant-loop-e : goal.invariant-loop-e
invariant-loop-e l =
    LeftFrom (edge_limits l.self.nodes l.self.clocks l.self.conditions l.section l.self.at) (length l.section / 8) l.e
