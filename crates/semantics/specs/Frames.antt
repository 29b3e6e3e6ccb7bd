-- The rules of the ten kinds of line, written once over any frame; satisfiability relations and refutations.
use Rattle.std.specs.Prelude.{◌≡◌, ℕ, Bool, true, false, ◌⊎◌, Some, None, Option}
use Rattle.std.specs.List.{slice_get}
use Rattle.device.specs.declared.Condition.{Condition}
use Rattle.property_sheet.specs.Contents.{Content}
use Rattle.property_sheet.specs.declared.Line.{Line}
use Rattle.property_sheet.specs.declared.Line.TheVariants.{True, False, Both, Either, SomeDelay, EveryDelay, SomeAction, EveryAction, Reset, Holds}

-- line p of a property; a line past the last is false, so that no relation holds it
abbrev pub line_or_false : Option Line → Line
line_or_false None = False
line_or_false (Some l) = l

abbrev pub line_of : Content → ℕ → Line
line_of s p = line_or_false (slice_get s.lines p)

-- what lines speak of: states, the delays between them, the open edges of an action between them, the reset of a
-- clock of the property, and the test of a condition of the property
pub record Frame : Type 1 where
  pub Point : Type 0
  pub Delay : Point → Point → Type 0
  pub Act : ℕ → Point → Point → Type 0
  pub reset : ℕ → Point → Point
  pub test : Condition → Point → Bool

-- the rule of a line at a state, by the pairs of a state and a line number that R holds
abbrev pub Meets : (F : Frame) → (F.Point → ℕ → Type 0) → F.Point → Line → Type 0
Meets F R x True = Unit {0}
Meets F R x False = ⊥
Meets F R x (Both p q) = R x p × R x q
Meets F R x (Either p q) = R x p ⊎ R x q
Meets F R x (SomeDelay p) = (y : F.Point) × F.Delay x y × R y p
Meets F R x (EveryDelay p) = (y : F.Point) → F.Delay x y → R y p
Meets F R x (SomeAction a p) = (y : F.Point) × F.Act a x y × R y p
Meets F R x (EveryAction a p) = (y : F.Point) → F.Act a x y → R y p
Meets F R x (Reset c p) = R (F.reset c x) p
Meets F R x (Holds c) = F.test c x ≡ true

-- a satisfiability relation: every pair in it meets its line's rule, with the pairs named also in it
abbrev pub Satisfiability : (F : Frame) → (ℕ → Line) → (F.Point → ℕ → Type 0) → Type 0
Satisfiability F line R = (x : F.Point) (p : ℕ) → R x p → Meets F R x (line p)

-- some satisfiability relation, told by its test, holds the state with the line
pub record Satisfied (F : Frame) (line : ℕ → Line) (x : F.Point) (p : ℕ) : Type 0 where
  pub relation : F.Point → ℕ → Bool
  pub closed : Satisfiability F line (λ y q. relation y q ≡ true)
  pub here : relation x p ≡ true

-- the state with the line is refuted: its rule fails whatever relation it is asked of
pub data Refuted (F : Frame) (line : ℕ → Line) : F.Point → ℕ → Type 0 where
  by_false : (x : F.Point) (l : ℕ) → line l ≡ False → Refuted F line x l
  by_first : (x : F.Point) (l p q : ℕ) → line l ≡ Both p q → Refuted F line x p → Refuted F line x l
  by_second : (x : F.Point) (l p q : ℕ) → line l ≡ Both p q → Refuted F line x q → Refuted F line x l
  by_neither : (x : F.Point) (l p q : ℕ) → line l ≡ Either p q → Refuted F line x p → Refuted F line x q → Refuted F line x l
  by_no_delay : (x : F.Point) (l p : ℕ) → line l ≡ SomeDelay p → ((y : F.Point) → F.Delay x y → Refuted F line y p) → Refuted F line x l
  by_a_delay : (x : F.Point) (l p : ℕ) → line l ≡ EveryDelay p → (y : F.Point) → F.Delay x y → Refuted F line y p → Refuted F line x l
  by_no_action : (x : F.Point) (l a p : ℕ) → line l ≡ SomeAction a p → ((y : F.Point) → F.Act a x y → Refuted F line y p) → Refuted F line x l
  by_an_action : (x : F.Point) (l a p : ℕ) → line l ≡ EveryAction a p → (y : F.Point) → F.Act a x y → Refuted F line y p → Refuted F line x l
  by_reset : (x : F.Point) (l c p : ℕ) → line l ≡ Reset c p → Refuted F line (F.reset c x) p → Refuted F line x l
  by_test : (x : F.Point) (l : ℕ) (c : Condition) → line l ≡ Holds c → F.test c x ≡ false → Refuted F line x l
