-- What a table keeps of its numbers and of its two sections.
use Rattle.std.specs.Prelude.{ℕ, ◌/◌, ◌<◌, ◌≤◌, Bool, List, ◌++◌, length, is_ok}
use Rattle.sheet.specs.declared.faults.RecordFault.{RecordFault}
use Rattle.sheet.specs.Limits.{Limit, of_each, checked}
use Rattle.sheet.specs.Conditions.{condition_limits}
use Rattle.device_sheet.specs.Edges.{edge_limits}

-- nodes, start, clocks and largest constant
abbrev pub NumbersFit : ℕ → ℕ → ℕ → ℕ → Type 0
NumbersFit n s c k = (1 ≤ n) × (n ≤ 64) × (s < n) × (c ≤ 4) × (k ≤ 15)

-- every condition and every edge keeps its limits, wherever the sections stood
abbrev pub records_limits : ℕ → ℕ → ℕ → List ℕ → List ℕ → List (Limit RecordFault)
records_limits n c k es cs =
    of_each (condition_limits c k cs 0) 0 (length cs / 4) ++ of_each (edge_limits n c (length cs / 4) es 0) 0 (length es / 8)

abbrev pub records_fit : ℕ → ℕ → ℕ → List ℕ → List ℕ → Bool
records_fit n c k es cs = is_ok (checked (records_limits n c k es cs))
