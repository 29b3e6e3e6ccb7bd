-- What a property holds: its lines, its clocks and its largest constant; and the limits that they keep.
use Rattle.std.specs.Prelude.{◌≡◌, ℕ, ◌<◌, ◌≤◌, Bool, true, not, ◌&&◌, List, [], ◌∷◌, length, Some, ◌==◌, nat_le, nat_lt}
use Rattle.std.specs.List.{slice_get}
use Rattle.device.specs.declared.Term.{Term}
use Rattle.device.specs.declared.Term.TheVariants.{Clock, Difference}
use Rattle.device.specs.declared.Condition.{Condition}
use Rattle.device.specs.Terms.{ConditionLawful}
use Rattle.sheet.specs.Conditions.{constant_fits}
pub use Rattle.property_sheet.specs.declared.Line.{Line}
pub use Rattle.property_sheet.specs.declared.Line.TheVariants.{True, False, Both, Either, SomeDelay, EveryDelay, SomeAction, EveryAction, Reset, Holds}

pub record Content : Type 0 where
  pub lines : List Line
  pub clocks : ℕ
  pub constant : ℕ

-- a new property: the single line true
abbrev pub always : Content
always = record { lines = True ∷ []; clocks = 0; constant = 0 }

-- a line names lines, an action, a clock and a condition that there are: n lines, c clocks, constants up to k
abbrev pub LineLawful : ℕ → ℕ → ℕ → Line → Type 0
LineLawful n c k True = Unit {0}
LineLawful n c k False = Unit {0}
LineLawful n c k (Both p q) = (p < n) × (q < n)
LineLawful n c k (Either p q) = (p < n) × (q < n)
LineLawful n c k (SomeDelay p) = p < n
LineLawful n c k (EveryDelay p) = p < n
LineLawful n c k (SomeAction a p) = (1 ≤ a) × (a ≤ 16) × (p < n)
LineLawful n c k (EveryAction a p) = (1 ≤ a) × (a ≤ 16) × (p < n)
LineLawful n c k (Reset x p) = (x < c) × (p < n)
LineLawful n c k (Holds t) = ConditionLawful c k t

-- the limits of a property
pub record ContentLawful (s : Content) : Type 0 where
  pub lines_low : 1 ≤ length s.lines
  pub lines_high : length s.lines ≤ 200
  pub clocks : s.clocks ≤ 2
  pub constant : s.constant ≤ 15
  pub lines : (p : ℕ) (l : Line) → slice_get s.lines p ≡ Some l → LineLawful (length s.lines) s.clocks s.constant l

-- the same limits as tests
abbrev pub term_fits_test : ℕ → Term → Bool
term_fits_test n (Clock a) = nat_lt a n
term_fits_test n (Difference a b) = nat_lt a n && (nat_lt b n && not (a == b))

abbrev pub condition_fits_test : ℕ → ℕ → Condition → Bool
condition_fits_test n k t = term_fits_test n t.term && constant_fits k t.term t.constant

abbrev pub line_fits_test : ℕ → ℕ → ℕ → Line → Bool
line_fits_test n c k True = true
line_fits_test n c k False = true
line_fits_test n c k (Both p q) = nat_lt p n && nat_lt q n
line_fits_test n c k (Either p q) = nat_lt p n && nat_lt q n
line_fits_test n c k (SomeDelay p) = nat_lt p n
line_fits_test n c k (EveryDelay p) = nat_lt p n
line_fits_test n c k (SomeAction a p) = nat_le 1 a && (nat_le a 16 && nat_lt p n)
line_fits_test n c k (EveryAction a p) = nat_le 1 a && (nat_le a 16 && nat_lt p n)
line_fits_test n c k (Reset x p) = nat_lt x c && nat_lt p n
line_fits_test n c k (Holds t) = condition_fits_test c k t

-- every line of a list
abbrev pub lines_fit_test : ℕ → ℕ → ℕ → List Line → Bool
lines_fit_test n c k [] = true
lines_fit_test n c k (l ∷ ls) = line_fits_test n c k l && lines_fit_test n c k ls

unfoldable pub content_fits : Content → Bool
content_fits s =
    nat_le 1 (length s.lines) &&
    (nat_le (length s.lines) 200 &&
    (nat_le s.clocks 2 &&
    (nat_le s.constant 15 && lines_fit_test (length s.lines) s.clocks s.constant s.lines)))
