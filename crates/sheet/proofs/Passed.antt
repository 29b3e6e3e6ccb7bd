-- A check passes exactly if every limit is kept.
use Rattle.std.proofs.Common.{◌≡◌, ℕ, zero, suc, ◌+◌, ◌<◌, ◌≤◌, Bool, true, false, cond, List, [], ◌∷◌, ◌++◌, Ok, Err, Result, sym, refl, ap, ◌∙◌, subst, arith}
use Rattle.sheet.specs.Limits.{Limit, held_in, of_each, checked}
use Rattle.sheet.proofs.Checks.{and_then, lifted, checked_append, checked_held, after_ok, held_ok}

abbrev pub Passed : {F : Type 0} → List (Limit F) → Type 0
Passed ls = checked ls ≡ Ok tt

cond_parts : {F : Type 0} (b : Bool) (r : Result (Unit {0}) F) (f : F) → cond b r (Err f) ≡ Ok tt → (b ≡ true) × (r ≡ Ok tt)
cond_parts true r f e = (refl, e)
cond_parts false r f e = absurd (cc)

then_parts : {F : Type 0} (r s : Result (Unit {0}) F) → and_then r s ≡ Ok tt → (r ≡ Ok tt) × (s ≡ Ok tt)
then_parts (Ok u) s e = (refl, e)
then_parts (Err f) s e = absurd (cc)

lifted_parts : {F G : Type 0} (g : F → G) (r : Result (Unit {0}) F) → lifted g r ≡ Ok tt → r ≡ Ok tt
lifted_parts g (Ok u) e = refl
lifted_parts g (Err f) e = absurd (cc)

-- one limit more
pub passed_parts : {F : Type 0} (l : Limit F) (ls : List (Limit F)) → Passed (l ∷ ls) → (l.kept ≡ true) × Passed ls
passed_parts l ls e = cond_parts l.kept (checked ls) l.fault e

pub passed_more : {F : Type 0} (l : Limit F) (ls : List (Limit F)) → l.kept ≡ true → Passed ls → Passed (l ∷ ls)
passed_more l ls k e = ap (λ b. cond b (checked ls) (Err l.fault)) k ∙ e

-- two lists
pub passed_both : {F : Type 0} (xs ys : List (Limit F)) → Passed (xs ++ ys) → Passed xs × Passed ys
passed_both xs ys e = then_parts (checked xs) (checked ys) (sym (checked_append xs ys) ∙ e)

pub passed_append : {F : Type 0} (xs ys : List (Limit F)) → Passed xs → Passed ys → Passed (xs ++ ys)
passed_append xs ys p q = after_ok xs ys p ∙ q

-- the limits of the layer below
pub passed_below : {F G : Type 0} (g : F → G) (xs : List (Limit F)) → Passed (held_in g xs) → Passed xs
passed_below g xs e = lifted_parts g (checked xs) (sym (checked_held g xs) ∙ e)

pub passed_above : {F G : Type 0} (g : F → G) (xs : List (Limit F)) → Passed xs → Passed (held_in g xs)
passed_above g xs e = held_ok g xs e

-- every record
module _ {F : Type 0} (limits : ℕ → List (Limit F)) where
  passed_at : (n m i : ℕ) → Passed (of_each limits m n) → i < n → Passed (limits (m + i))
  passed_at zero m i e h = absurd (omega arith)
  passed_at (suc n) m zero e h =
      let same : m ≡ m + zero = omega arith in subst (λ j. Passed (limits j)) same (passed_both (limits m) (of_each limits (m + 1) n) e).0
  passed_at (suc n) m (suc i) e h =
      let same : m + 1 + i ≡ m + suc i = omega arith in
      subst (λ j. Passed (limits j)) same (passed_at n (m + 1) i (passed_both (limits m) (of_each limits (m + 1) n) e).1 (omega arith))

  pub passed_each : (n : ℕ) → Passed (of_each limits 0 n) → (k : ℕ) → k < n → Passed (limits k)
  passed_each n e k h =
      let same : 0 + k ≡ k = omega arith in subst (λ j. Passed (limits j)) same (passed_at n 0 k e h)

  pub passed_all : (n m : ℕ) → ((k : ℕ) → m ≤ k → k < m + n → Passed (limits k)) → Passed (of_each limits m n)
  passed_all zero m h = refl
  passed_all (suc n) m h =
      passed_append (limits m) (of_each limits (m + 1) n) (h m (omega arith) (omega arith)) (passed_all n (m + 1) (λ k lo hi. h k (omega arith) (omega arith)))

-- every limit of a list, one by one
abbrev pub AllKept : {F : Type 0} → List (Limit F) → Type 0
AllKept [] = Unit {0}
AllKept (l ∷ ls) = (l.kept ≡ true) × AllKept ls

pub kept_from : {F : Type 0} (ls : List (Limit F)) → Passed ls → AllKept ls
kept_from [] e = tt
kept_from (l ∷ ls) e = let p = passed_parts l ls e in (p.0, kept_from ls p.1)

pub passed_from : {F : Type 0} (ls : List (Limit F)) → AllKept ls → Passed ls
passed_from [] k = refl
passed_from (l ∷ ls) k = passed_more l ls k.0 (passed_from ls k.1)
