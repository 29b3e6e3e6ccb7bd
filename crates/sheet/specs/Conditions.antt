-- A condition record: clock, second clock or 255, relation, signed constant.
use Rattle.std.specs.Prelude.{ℕ, zero, suc, ◌+◌, ◌*◌, ◌/◌, Bool, cond, not, ◌&&◌, ◌||◌, List, [], ◌∷◌, length, ℤ, pos, Some, None, Option, ◌==◌, int_le, nat_le, nat_lt}
use Rattle.std.proofs.Common.{to_z}
use Rattle.std.specs.Int.{w8}
use Rattle.device.specs.declared.Condition.{Condition}
use Rattle.device.specs.declared.Term.{Term}
use Rattle.device.specs.declared.Term.TheVariants.{Clock, Difference}
use Rattle.device.specs.Terms.{relation_of, lowest}
use Rattle.sheet.specs.Kinds.{Conditions}
use Rattle.sheet.specs.Faults.{RecordFault, record_fault}
use Rattle.sheet.specs.Limits.{Limit, limit, of_each}
use Rattle.sheet.specs.Layout.{byte_at, offset_of, section_of}

-- 255 in the place of a second clock stands for none
abbrev pub term_of : ℕ → ℕ → Term
term_of a b = cond (b == 255) (Clock a) (Difference a b)

-- record k of a section of conditions
abbrev pub term_at : List ℕ → ℕ → Term
term_at cs k = term_of (byte_at cs (4 * k)) (byte_at cs (4 * k + 1))

abbrev pub constant_at : List ℕ → ℕ → ℤ
constant_at cs k = to_z w8 (byte_at cs (4 * k + 3))

abbrev pub condition_at : List ℕ → ℕ → Condition
condition_at cs k = record {
  term = term_at cs k;
  relation = relation_of (byte_at cs (4 * k + 2));
  constant = constant_at cs k;
}

-- record k, if the section has so many
abbrev pub condition_told : List ℕ → ℕ → Option Condition
condition_told cs k = cond (nat_lt k (length cs / 4)) (Some (condition_at cs k)) None

-- n conditions from number k on
abbrev pub conditions_from : List ℕ → ℕ → ℕ → List Condition
conditions_from cs k zero = []
conditions_from cs k (suc n) = condition_at cs k ∷ conditions_from cs (k + 1) n

abbrev pub condition_fault : ℕ → RecordFault
condition_fault p = record_fault Conditions p

-- 6: the limits of record k over n clocks with constants up to c, in a section that begins at byte `at`
abbrev pub second_fits : ℕ → ℕ → ℕ → Bool
second_fits n a b = b == 255 || (nat_lt b n && not (b == a))

abbrev pub constant_fits : ℕ → Term → ℤ → Bool
constant_fits c t m = int_le (lowest c t) m && int_le m (pos c)

abbrev pub condition_limits : ℕ → ℕ → List ℕ → ℕ → ℕ → List (Limit RecordFault)
condition_limits n c cs at k =
    limit (nat_lt (byte_at cs (4 * k)) n) (condition_fault (at + 4 * k)) ∷
    limit (second_fits n (byte_at cs (4 * k)) (byte_at cs (4 * k + 1))) (condition_fault (at + 4 * k + 1)) ∷
    limit (nat_le (byte_at cs (4 * k + 2)) 4) (condition_fault (at + 4 * k + 2)) ∷
    limit (constant_fits c (term_at cs k) (constant_at cs k)) (condition_fault (at + 4 * k + 3)) ∷ []

-- the limits of every condition of a sheet; its clocks stand in byte 2 and its largest constant in byte 3
abbrev pub conditions_limits : List ℕ → List (Limit RecordFault)
conditions_limits b =
    of_each
    (condition_limits (byte_at b 2) (byte_at b 3) (section_of b 1) (offset_of b 1))
    0 (length (section_of b 1) / 4)
