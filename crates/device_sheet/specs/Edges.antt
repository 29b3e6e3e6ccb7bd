-- An edge record: from, to, action, resets as bits, first condition (two bytes), their count, 0.
use Rattle.std.specs.Prelude.{ℕ, ◌+◌, ◌*◌, ◌^◌, ◌&&◌, List, [], ◌∷◌, ◌==◌, nat_le, nat_lt}
use Rattle.device.specs.Meaning.{Transition}
use Rattle.sheet.specs.declared.faults.RecordFault.{RecordFault}
use Rattle.sheet.specs.declared.kinds.RecordKind.TheVariants.{Edges}
use Rattle.sheet.specs.Faults.{record_fault}
use Rattle.sheet.specs.Layout.{byte_at, word_at}
use Rattle.sheet.specs.Limits.{Limit, limit}
use Rattle.sheet.specs.Conditions.{conditions_from}

-- the fields of edge e in a section of edges
abbrev pub source_at : List ℕ → ℕ → ℕ
source_at es e = byte_at es (8 * e)

abbrev pub target_at : List ℕ → ℕ → ℕ
target_at es e = byte_at es (8 * e + 1)

abbrev pub action_at : List ℕ → ℕ → ℕ
action_at es e = byte_at es (8 * e + 2)

abbrev pub resets_at : List ℕ → ℕ → ℕ
resets_at es e = byte_at es (8 * e + 3)

abbrev pub first_at : List ℕ → ℕ → ℕ
first_at es e = word_at es (8 * e + 4)

abbrev pub count_at : List ℕ → ℕ → ℕ
count_at es e = byte_at es (8 * e + 6)

abbrev pub reserved_at : List ℕ → ℕ → ℕ
reserved_at es e = byte_at es (8 * e + 7)

-- what edge e means over a section of conditions
abbrev pub transition_at : List ℕ → List ℕ → ℕ → Transition
transition_at es cs e = record {
  source = source_at es e;
  target = target_at es e;
  action = action_at es e;
  resets = record { bits = resets_at es e };
  guard = conditions_from cs (first_at es e) (count_at es e);
}

abbrev pub edge_fault : ℕ → RecordFault
edge_fault p = record_fault Edges p

-- 7: the limits of edge e over n nodes, c clocks and m conditions, in a section that begins at byte `at`
abbrev pub edge_limits : ℕ → ℕ → ℕ → List ℕ → ℕ → ℕ → List (Limit RecordFault)
edge_limits n c m es at e =
    limit (nat_lt (source_at es e) n) (edge_fault (at + 8 * e)) ∷
    limit (nat_lt (target_at es e) n) (edge_fault (at + 8 * e + 1)) ∷
    limit (nat_le 1 (action_at es e) && nat_le (action_at es e) 16) (edge_fault (at + 8 * e + 2)) ∷
    limit (nat_lt (resets_at es e) (2 ^ c)) (edge_fault (at + 8 * e + 3)) ∷
    limit (nat_le (first_at es e) m) (edge_fault (at + 8 * e + 4)) ∷
    limit (nat_le (count_at es e) 8 && nat_le (first_at es e + count_at es e) m) (edge_fault (at + 8 * e + 6)) ∷
    limit (reserved_at es e == 0) (edge_fault (at + 8 * e + 7)) ∷ []
