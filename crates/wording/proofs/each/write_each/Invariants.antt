use Rattle.std.proofs.Common.{◌≡◌, ℕ, List, Some, map}
use Rattle.std.specs.List.{concat}
use Rattle.std.specs.Fmt.{IsPlainFormatter, HasWritten}
use Rattle.wording.proofs.each.write_each.Given as goal

abbrev pub invariant-loop-item : goal.invariant-loop-item
invariant-loop-item g l =
    (text : _ → List ℕ) → ((x : _) → g.T.Display.output x ≡ Some (text x)) → IsPlainFormatter l.initial.f → HasWritten g.W.Write.write_str_gives l.initial.f (concat (map text l.yielded)) l.f
