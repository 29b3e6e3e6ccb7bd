-- Limits in the order of checking, and the first that is broken.
use Rattle.std.specs.Prelude.{ℕ, zero, suc, ◌+◌, Bool, cond, List, [], ◌∷◌, ◌++◌, Ok, Err, Result}

-- whether a limit is kept, and the fault to tell if it is not
pub record Limit (F : Type 0) : Type 0 where
  pub kept : Bool
  pub fault : F

abbrev pub limit : {F : Type 0} → Bool → F → Limit F
limit b f = record { kept = b; fault = f }

-- a record's limits as limits of the directory above it, or a directory's as limits of the sheet
abbrev pub held_in : {F G : Type 0} → (F → G) → List (Limit F) → List (Limit G)
held_in g [] = []
held_in g (l ∷ ls) = limit l.kept (g l.fault) ∷ held_in g ls

-- the limits of n records, from number k on
abbrev pub of_each : {F : Type 0} → (ℕ → List (Limit F)) → ℕ → ℕ → List (Limit F)
of_each limits k zero = []
of_each limits k (suc n) = limits k ++ of_each limits (k + 1) n

-- a check goes through the limits in order, and stops at the first that is broken
abbrev pub checked : {F : Type 0} → List (Limit F) → Result (Unit {0}) F
checked [] = Ok tt
checked (l ∷ ls) = cond l.kept (checked ls) (Err l.fault)

-- what is read if a check passes
abbrev pub read_if : {V F : Type 0} → Result (Unit {0}) F → V → Result V F
read_if (Ok u) v = Ok v
read_if (Err f) v = Err f
