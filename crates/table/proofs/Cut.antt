-- One record of a section of edges: what it holds, and its limits, as the section has them.
use Rattle.std.proofs.Common.{◌≡◌, ℕ, ◌+◌, ◌*◌, ◌/◌, ◌<◌, cond, List, [], length, get_or, Some, None, Ok, Err, sym, ap, ◌∙◌, add-zero, arith}
use Rattle.std.proofs.lemmas.Bool.{lt-ltb}
use Rattle.std.specs.Simd.{first_chunks}
use Rattle.sheet.specs.declared.faults.RecordFault.{RecordFault}
use Rattle.sheet.specs.Limits.{of_each, checked}
use Rattle.sheet.specs.Layout.{byte_at}
use Rattle.sheet.proofs.Checks.{LeftFrom, goes_on, stops}
use Rattle.sheet.proofs.Chunks.{record_byte, record_start}
use Rattle.device_sheet.specs.Edges.{edge_limits}
use Rattle.table.specs.declared.edges.EdgeRecord.{EdgeRecord}
use Rattle.table.specs.Records.{record_at, record_told}

module _ (es : List ℕ) (rs : List (List ℕ)) (cut : rs ≡ first_chunks 8 (length es / 8) es) (e : ℕ) (h : e < length es / 8) where
  abbrev r : List ℕ
  r = get_or rs e []

  byte : (i : ℕ) → i < 8 → byte_at r i ≡ byte_at es (8 * e + i)
  byte = record_byte 8 es rs cut e h

  -- its eight bytes, where the fields have them; byte 5 ends the number of its first condition
  bytes : (byte_at r 0 ≡ byte_at es (8 * e)) × (byte_at r 1 ≡ byte_at es (8 * e + 1)) × (byte_at r 2 ≡ byte_at es (8 * e + 2)) × (byte_at r 3 ≡ byte_at es (8 * e + 3)) × (byte_at r 4 ≡ byte_at es (8 * e + 4)) × (byte_at r 5 ≡ byte_at es (8 * e + 4 + 1)) × (byte_at r 6 ≡ byte_at es (8 * e + 6)) × (byte_at r 7 ≡ byte_at es (8 * e + 7))
  bytes =
      let same : 8 * e + 5 ≡ 8 * e + 4 + 1 = omega arith in (
        record_start 8 es rs cut e h (omega arith),
        byte 1 (omega arith),
        byte 2 (omega arith),
        byte 3 (omega arith),
        byte 4 (omega arith),
        byte 5 (omega arith) ∙ ap (byte_at es) same,
        byte 6 (omega arith),
        byte 7 (omega arith),
      )

  record_of_bytes : record_at r 0 ≡ record_at es e
  record_of_bytes =
      let b = bytes in simp (b.0, b.1, b.2, b.3, b.4, b.5, b.6, b.7)

  limits_of_bytes : (n c m at place : ℕ) → place ≡ at + 8 * e → edge_limits n c m r place 0 ≡ edge_limits n c m es at e
  limits_of_bytes n c m at place same =
      let b = bytes in simp (b.0, b.1, b.2, b.3, b.4, b.5, b.6, b.7, add-zero, same)

  -- the fields that were read of record e
  pub record_found : (x : EdgeRecord) → x ≡ record_at r 0 → Some x ≡ record_told es e
  record_found x read =
      ap Some (read ∙ record_of_bytes) ∙ sym (ap (λ t. cond t (Some (record_at es e)) None) (lt-ltb e (length es / 8) h))

  -- the loop over the records, at record e
  module _ (n c m at : ℕ) (left : LeftFrom (edge_limits n c m es at) (length es / 8) e) where
    pub edge_kept : (place : ℕ) → place ≡ at + 8 * e → Ok tt ≡ checked (edge_limits n c m r place 0) → LeftFrom (edge_limits n c m es at) (length es / 8) (e + 1)
    edge_kept place same made =
        goes_on (edge_limits n c m es at) (length es / 8) e left h (sym (made ∙ ap checked (limits_of_bytes n c m at place same)))

    pub edge_broken : (place : ℕ) → place ≡ at + 8 * e → (f : RecordFault) → Err f ≡ checked (edge_limits n c m r place 0) → Err f ≡ checked (of_each (edge_limits n c m es at) 0 (length es / 8))
    edge_broken place same f made =
        sym (stops (edge_limits n c m es at) (length es / 8) e left f h (sym (made ∙ ap checked (limits_of_bytes n c m at place same))))
