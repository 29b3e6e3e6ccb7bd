-- What the records of a section of edges hold.
use Rattle.std.specs.Prelude.{ℕ, ◌/◌, cond, List, length, Some, None, Option, nat_lt}
use Rattle.device_sheet.specs.Edges.{source_at, target_at, action_at, resets_at, first_at, count_at, reserved_at}
use Rattle.table.specs.declared.edges.EdgeRecord.{EdgeRecord}

-- the fields of record e of a section
abbrev pub record_at : List ℕ → ℕ → EdgeRecord
record_at es e = record {
  source = source_at es e;
  target = target_at es e;
  action = action_at es e;
  resets = resets_at es e;
  first = first_at es e;
  count = count_at es e;
  reserved = reserved_at es e;
}

-- record e, if the section has so many
abbrev pub record_told : List ℕ → ℕ → Option EdgeRecord
record_told es e = cond (nat_lt e (length es / 8)) (Some (record_at es e)) None
