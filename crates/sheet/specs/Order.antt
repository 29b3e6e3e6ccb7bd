-- Which broken limit is told: the one with the least number, and of those the one at the lowest place.
use Rattle.std.specs.Prelude.{◌≡◌, ℕ, ◌<◌, ◌≤◌, false, ◌⊎◌, List, [], ◌∷◌}
use Rattle.sheet.specs.Faults.{SheetFault, number_of, refusal_of, place_of}
use Rattle.sheet.specs.Limits.{Limit}

abbrev pub fault_number : SheetFault → ℕ
fault_number f = number_of (refusal_of f)

-- some limit of the list is not kept, and this is its fault
abbrev pub Broken : List (Limit SheetFault) → SheetFault → Type 0
Broken [] f = ⊥
Broken (l ∷ ls) f = ((l.kept ≡ false) × (l.fault ≡ f)) ⊎ Broken ls f

-- a smaller number goes first, and of one number the lower place
abbrev pub NotAfter : SheetFault → SheetFault → Type 0
NotAfter f g = (fault_number f < fault_number g) ⊎ ((fault_number f ≡ fault_number g) × (place_of f ≤ place_of g))

-- the limit of f is broken, no limit of a smaller number is, and none of its number at a lower place
abbrev pub ToldFirst : List (Limit SheetFault) → SheetFault → Type 0
ToldFirst ls f = Broken ls f × ((g : SheetFault) → Broken ls g → NotAfter f g)
