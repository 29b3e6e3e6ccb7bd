-- A line record: kind, two operands, 0. A condition's number takes both operand bytes.
use Rattle.std.specs.Prelude.{ℕ, zero, suc, ◌+◌, ◌*◌, Bool, true, cond, ◌&&◌, List, [], ◌∷◌, ◌==◌, nat_le, nat_lt}
use Rattle.device.specs.declared.Condition.{Condition}
use Rattle.sheet.specs.declared.faults.RecordFault.{RecordFault}
use Rattle.sheet.specs.declared.kinds.RecordKind.TheVariants.{Lines}
use Rattle.sheet.specs.Faults.{record_fault}
use Rattle.sheet.specs.Layout.{byte_at, word_at}
use Rattle.sheet.specs.Limits.{Limit, limit}
use Rattle.sheet.specs.Conditions.{condition_at}
use Rattle.property_sheet.specs.Contents.{Line, True, False, Both, Either, SomeDelay, EveryDelay, SomeAction, EveryAction, Reset, Holds}

-- the fields of line k in a section of lines
abbrev pub kind_at : List ℕ → ℕ → ℕ
kind_at ls k = byte_at ls (4 * k)

abbrev pub first_at : List ℕ → ℕ → ℕ
first_at ls k = byte_at ls (4 * k + 1)

abbrev pub second_at : List ℕ → ℕ → ℕ
second_at ls k = byte_at ls (4 * k + 2)

abbrev pub reserved_at : List ℕ → ℕ → ℕ
reserved_at ls k = byte_at ls (4 * k + 3)

-- the condition number of a line of kind 9
abbrev pub number_at : List ℕ → ℕ → ℕ
number_at ls k = word_at ls (4 * k + 1)

-- the ten kinds of line with their numbers, with these operands and this condition; sheets refuse kinds past 9
abbrev pub line_of : ℕ → ℕ → ℕ → Condition → Line
line_of kind p q t =
    cond (kind == 0) True
    (cond (kind == 1) False
    (cond (kind == 2) (Both p q)
    (cond (kind == 3) (Either p q)
    (cond (kind == 4) (SomeDelay p)
    (cond (kind == 5) (EveryDelay p)
    (cond (kind == 6) (SomeAction p q)
    (cond (kind == 7) (EveryAction p q)
    (cond (kind == 8) (Reset p q) (Holds t)))))))))

-- line k, over a section of conditions
abbrev pub line_at : List ℕ → List ℕ → ℕ → Line
line_at ls cs k = line_of (kind_at ls k) (first_at ls k) (second_at ls k) (condition_at cs (number_at ls k))

-- n lines from number k on
abbrev pub lines_from : List ℕ → List ℕ → ℕ → ℕ → List Line
lines_from ls cs k zero = []
lines_from ls cs k (suc n) = line_at ls cs k ∷ lines_from ls cs (k + 1) n

abbrev pub line_fault : ℕ → RecordFault
line_fault p = record_fault Lines p

-- the first operand: nothing, a line, an action, a clock, or a condition's number
abbrev pub first_fits : ℕ → ℕ → ℕ → ℕ → ℕ → ℕ → Bool
first_fits n c m kind p number =
    cond (nat_lt kind 2) (p == 0)
    (cond (nat_lt kind 6) (nat_lt p n)
    (cond (nat_lt kind 8) (nat_le 1 p && nat_le p 16)
    (cond (nat_lt kind 9) (nat_lt p c) (nat_lt number m))))

-- the second operand: nothing, a line, or the rest of a condition's number
abbrev pub second_fits : ℕ → ℕ → ℕ → Bool
second_fits n kind q =
    cond (nat_lt kind 2) (q == 0)
    (cond (nat_lt kind 4) (nat_lt q n)
    (cond (nat_lt kind 6) (q == 0)
    (cond (nat_lt kind 9) (nat_lt q n) true)))

-- 8: the limits of line k among n lines, over c clocks and m conditions, in a section that begins at byte `at`
abbrev pub line_limits : ℕ → ℕ → ℕ → List ℕ → ℕ → ℕ → List (Limit RecordFault)
line_limits n c m ls at k =
    limit (nat_le (kind_at ls k) 9) (line_fault (at + 4 * k)) ∷
    limit (first_fits n c m (kind_at ls k) (first_at ls k) (number_at ls k)) (line_fault (at + 4 * k + 1)) ∷
    limit (second_fits n (kind_at ls k) (second_at ls k)) (line_fault (at + 4 * k + 2)) ∷
    limit (reserved_at ls k == 0) (line_fault (at + 4 * k + 3)) ∷ []
