-- Texts one after the other.
use Rattle.std.specs.Prelude.{◌≡◌, ℕ, zero, suc, ◌+◌, List, [], ◌++◌, Option, Some, Result}
use Rattle.std.specs.List.{concat}
use Rattle.std.specs.Fmt.{WritesOnOk}
use Rattle.std.specs.Iterator.{AlwaysYields}
use Rattle.std.specs.declared.fmt.Error.{Error}
use Rattle.std.specs.declared.fmt.Formatter.{Formatter}

-- the n texts from number k on
unfoldable pub texts : (ℕ → List ℕ) → ℕ → ℕ → List ℕ
texts f k zero = []
texts f k (suc n) = f k ++ texts f (k + 1) n

-- if these are the texts of the items that come from s, and r is `Ok`, then the plain formatter f has become g by writing them in order
abbrev pub WritesEach : {W S A : Type 0} → (W → List ℕ → W → Type 0) → (A → Option (List ℕ)) → (S → Option A → S → Type 0) → S → Formatter W → Result (Unit {0}) Error → Formatter W → Type 0
WritesEach took output steps s f r g =
    (text : _ → List ℕ) (all : List (List ℕ)) → ((x : _) → output x ≡ Some (text x)) → AlwaysYields steps text s all → WritesOnOk took f r (concat all) g
