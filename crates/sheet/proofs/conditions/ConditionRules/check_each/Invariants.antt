use Rattle.std.proofs.Common.{◌/◌, length}
use Rattle.sheet.specs.Conditions.{condition_limits}
use Rattle.sheet.proofs.Checks.{LeftFrom}
use Rattle.sheet.proofs.conditions.ConditionRules.check_each.Given as goal

abbrev pub invariant-loop-k : goal.invariant-loop-k
invariant-loop-k l =
    LeftFrom (condition_limits l.self.clocks l.self.constant l.section l.self.at) (length l.section / 4) l.k
