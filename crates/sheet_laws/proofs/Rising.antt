-- Lists of limits that rise: by the numbers of their faults, and of one number by their places.
use Rattle.std.proofs.Common.{◌≡◌, ℕ, zero, suc, ◌+◌, ◌≤◌, List, [], ◌∷◌, ◌++◌, arith}
use Rattle.sheet.specs.Limits.{Limit, held_in, of_each}

-- what faults are ordered by
pub record Key : Type 0 where
  pub number : ℕ
  pub place : ℕ

abbrev pub at : ℕ → ℕ → Key
at n p = record { number = n; place = p }

-- a smaller number goes first, and of one number the lower place; two keys may be the same
abbrev pub NotPast : Key → Key → Type 0
NotPast a b = (a.number ≤ b.number) × (a.number ≡ b.number → a.place ≤ b.place)

pub not_past_trans : (a b c : Key) → NotPast a b → NotPast b c → NotPast a c
not_past_trans a b c h k = omega arith

-- the limits rise from the key a to the key b
abbrev pub Rises : {F : Type 0} → (F → Key) → Key → Key → List (Limit F) → Type 0
Rises key a b [] = NotPast a b
Rises key a b (l ∷ ls) = NotPast a (key l.fault) × Rises key (key l.fault) b ls

module _ {F : Type 0} (key : F → Key) where
  -- from a key before
  pub rises_before : (a b c : Key) (ls : List (Limit F)) → NotPast a b → Rises key b c ls → Rises key a c ls
  rises_before a b c [] h r = not_past_trans a b c h r
  rises_before a b c (l ∷ ls) h r = (not_past_trans a b (key l.fault) h r.0, r.1)

  -- one list after another
  pub rises_append : (a b c : Key) (xs ys : List (Limit F)) → Rises key a b xs → Rises key b c ys → Rises key a c (xs ++ ys)
  rises_append a b c [] ys r s = rises_before a b c ys r s
  rises_append a b c (x ∷ xs) ys r s = (r.0, rises_append (key x.fault) b c xs ys r.1 s)

  -- the limits of records that have one number, where record k rises from its own start to the next one's
  module _ (limits : ℕ → List (Limit F)) (n : ℕ) (start : ℕ → ℕ) (each : (k : ℕ) → Rises key (at n (start k)) (at n (start (k + 1))) (limits k)) where
    rises_on : (k m : ℕ) → Rises key (at n (start k)) (at (n + 1) 0) (of_each limits k m)
    rises_on k zero = omega arith
    rises_on k (suc m) =
        rises_append (at n (start k)) (at n (start (k + 1))) (at (n + 1) 0) (limits k) (of_each limits (k + 1) m) (each k) (rises_on (k + 1) m)

    pub rises_each : (m : ℕ) → Rises key (at n 0) (at (n + 1) 0) (of_each limits 0 m)
    rises_each m =
        rises_before (at n 0) (at n (start 0)) (at (n + 1) 0) (of_each limits 0 m) (omega arith) (rises_on 0 m)

-- limits of the layer below
pub rises_held : {F G : Type 0} (key : G → Key) (g : F → G) (a b : Key) (ls : List (Limit F)) → Rises (λ f. key (g f)) a b ls → Rises key a b (held_in g ls)
rises_held key g a b [] r = r
rises_held key g a b (l ∷ ls) r = (r.0, rises_held key g (key (g l.fault)) b ls r.1)
