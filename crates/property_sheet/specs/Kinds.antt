-- The ten kinds of line with their numbers in sheets.
use Rattle.std.specs.Prelude.{◌≡◌, ℕ, ◌<◌, Result, MatchResult}
use Rattle.property_sheet.specs.declared.LineKind.{LineKind}
use Rattle.property_sheet.specs.declared.LineKind.TheVariants.{True, False, Both, Either, SomeDelay, EveryDelay, SomeAction, EveryAction, Reset, Holds}
use Rattle.property_sheet.specs.declared.UnknownLineKind.{UnknownLineKind}

abbrev pub number_of : LineKind → ℕ
number_of True = 0
number_of False = 1
number_of Both = 2
number_of Either = 3
number_of SomeDelay = 4
number_of EveryDelay = 5
number_of SomeAction = 6
number_of EveryAction = 7
number_of Reset = 8
number_of Holds = 9

-- the result is the kind with this number, or an error with a number that no kind has
abbrev pub KindNumbered : ℕ → Result LineKind UnknownLineKind → Type 0
KindNumbered n r = MatchResult r (λ kind. number_of kind ≡ n) (λ e. (e.0 ≡ n) × (9 < n))
