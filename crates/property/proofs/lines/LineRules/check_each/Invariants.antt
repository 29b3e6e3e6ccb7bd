use Rattle.std.proofs.Common.{◌/◌, length}
use Rattle.sheet.proofs.Checks.{LeftFrom}
use Rattle.property_sheet.specs.Records.{line_limits}
use Rattle.property.proofs.lines.LineRules.check_each.Given as goal

abbrev pub invariant-loop-k : goal.invariant-loop-k
invariant-loop-k l =
    LeftFrom (line_limits l.self.lines l.self.clocks l.self.conditions l.section l.self.at) (length l.section / 4) l.k
