-- What a table means: what its sections do.
use Rattle.std.specs.Prelude.{ℕ, List}
use Rattle.device.specs.declared.Edge.{Edge}
use Rattle.device.specs.Meaning.{Meaning}
use Rattle.device_sheet.specs.Sheets.{table_meaning}
use Rattle.table.specs.declared.edges.EdgeRecord.{EdgeRecord}
use Rattle.table.specs.Records.{record_at}
use Rattle.table.specs.declared.held.Table.{Table}

abbrev pub meaning_of : Table → Meaning
meaning_of t =
    table_meaning t.nodes t.start t.clocks t.constant t.edges.now t.conditions.now

-- an edge as a table tells it, from what its record holds
abbrev pub edge_of_record : EdgeRecord → Edge
edge_of_record r = record {
  source = r.source;
  target = r.target;
  action = r.action;
  resets = record { bits = r.resets };
  conditions = r.count;
}

-- an edge record as a table tells it
abbrev pub edge_told : List ℕ → ℕ → Edge
edge_told es e = edge_of_record (record_at es e)
