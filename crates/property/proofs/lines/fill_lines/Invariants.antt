use Rattle.std.proofs.Common.{◌≡◌, vec_items, vec_len, vec_capacity}
use Rattle.property_sheet.specs.Records.{lines_from}
use Rattle.property.proofs.lines.fill_lines.Given as goal

abbrev pub invariant-loop-bytes : goal.invariant-loop-bytes
invariant-loop-bytes l =
    (vec_items l.lines ≡ lines_from l.section l.conditions 0 l.bytes-index) × (vec_len l.lines ≡ l.bytes-index) × (vec_capacity l.lines ≡ vec_capacity l.initial.lines)
