-- One record of a section of lines: what it says, and its limits, as the section has them.
use Rattle.std.proofs.Common.{◌≡◌, ℕ, ◌+◌, ◌*◌, ◌/◌, ◌<◌, List, [], length, get_or, Ok, Err, sym, ap, ◌∙◌, add-zero, arith}
use Rattle.std.specs.Simd.{first_chunks}
use Rattle.sheet.specs.declared.faults.RecordFault.{RecordFault}
use Rattle.sheet.specs.Limits.{of_each, checked}
use Rattle.sheet.specs.Layout.{byte_at}
use Rattle.sheet.proofs.Checks.{LeftFrom, goes_on, stops}
use Rattle.sheet.proofs.Chunks.{record_byte, record_start}
use Rattle.property_sheet.specs.Records.{line_limits, line_at}
use Rattle.property.specs.Parts.{LineReadable}

module _ (ls : List ℕ) (rs : List (List ℕ)) (cut : rs ≡ first_chunks 4 (length ls / 4) ls) (k : ℕ) (h : k < length ls / 4) where
  abbrev r : List ℕ
  r = get_or rs k []

  byte : (i : ℕ) → i < 4 → byte_at r i ≡ byte_at ls (4 * k + i)
  byte = record_byte 4 ls rs cut k h

  -- its four bytes, where the fields have them; byte 2 is also the end of a condition's number
  bytes : (byte_at r 0 ≡ byte_at ls (4 * k)) × (byte_at r 1 ≡ byte_at ls (4 * k + 1)) × (byte_at r 2 ≡ byte_at ls (4 * k + 2)) × (byte_at r 3 ≡ byte_at ls (4 * k + 3)) × (byte_at ls (4 * k + 1 + 1) ≡ byte_at ls (4 * k + 2))
  bytes =
      let same : 4 * k + 1 + 1 ≡ 4 * k + 2 = omega arith in (
        record_start 4 ls rs cut k h (omega arith),
        byte 1 (omega arith),
        byte 2 (omega arith),
        byte 3 (omega arith),
        ap (byte_at ls) same,
      )

  limits_of_bytes : (n c m at place : ℕ) → place ≡ at + 4 * k → line_limits n c m r place 0 ≡ line_limits n c m ls at k
  limits_of_bytes n c m at place same =
      let b = bytes in simp (b.0, b.1, b.2, b.3, b.4, add-zero, same)

  -- what record k says
  pub line_of_bytes : (cs : List ℕ) → line_at r cs 0 ≡ line_at ls cs k
  line_of_bytes cs = let b = bytes in simp (b.0, b.1, b.2, b.4)

  pub readable_bytes : (m : ℕ) → LineReadable m ls k → LineReadable m r 0
  readable_bytes m f = let b = bytes in simp (b.0, b.1, b.2) (simp b.4 at f)

  -- the loop over the records, at record k
  module _ (n c m at : ℕ) (left : LeftFrom (line_limits n c m ls at) (length ls / 4) k) where
    pub line_kept : (place : ℕ) → place ≡ at + 4 * k → Ok tt ≡ checked (line_limits n c m r place 0) → LeftFrom (line_limits n c m ls at) (length ls / 4) (k + 1)
    line_kept place same made =
        goes_on (line_limits n c m ls at) (length ls / 4) k left h (sym (made ∙ ap checked (limits_of_bytes n c m at place same)))

    pub line_broken : (place : ℕ) → place ≡ at + 4 * k → (f : RecordFault) → Err f ≡ checked (line_limits n c m r place 0) → Err f ≡ checked (of_each (line_limits n c m ls at) 0 (length ls / 4))
    line_broken place same f made =
        sym (stops (line_limits n c m ls at) (length ls / 4) k left f h (sym (made ∙ ap checked (limits_of_bytes n c m at place same))))
