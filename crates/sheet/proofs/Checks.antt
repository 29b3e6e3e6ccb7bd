-- Laws of checks: one list of limits after another, and a loop over records.
use Rattle.std.proofs.Common.{◌≡◌, ℕ, suc, ◌+◌, ◌-◌, ◌<◌, Bool, true, false, cond, List, [], ◌∷◌, ◌++◌, Ok, Err, Result, refl, ap, ◌∙◌, arith}
use Rattle.sheet.specs.Limits.{Limit, held_in, of_each, checked}

-- the second check is made if the first passes
abbrev pub and_then : {F : Type 0} → Result (Unit {0}) F → Result (Unit {0}) F → Result (Unit {0}) F
and_then (Ok u) r = r
and_then (Err f) r = Err f

-- a fault held in one of the layer above
abbrev pub lifted : {F G : Type 0} → (F → G) → Result (Unit {0}) F → Result (Unit {0}) G
lifted g (Ok u) = Ok u
lifted g (Err f) = Err (g f)

cond_then : {F : Type 0} (b : Bool) (x y : Result (Unit {0}) F) (f : F) → cond b (and_then x y) (Err f) ≡ and_then (cond b x (Err f)) y
cond_then true x y f = refl
cond_then false x y f = refl

pub checked_append : {F : Type 0} (xs ys : List (Limit F)) → checked (xs ++ ys) ≡ and_then (checked xs) (checked ys)
checked_append [] ys = refl
checked_append (l ∷ ls) ys =
    ap (λ r. cond l.kept r (Err l.fault)) (checked_append ls ys) ∙ cond_then l.kept (checked ls) (checked ys) l.fault

cond_lifted : {F G : Type 0} (g : F → G) (b : Bool) (x : Result (Unit {0}) F) (f : F) → cond b (lifted g x) (Err (g f)) ≡ lifted g (cond b x (Err f))
cond_lifted g true x f = refl
cond_lifted g false x f = refl

pub checked_held : {F G : Type 0} (g : F → G) (xs : List (Limit F)) → checked (held_in g xs) ≡ lifted g (checked xs)
checked_held g [] = refl
checked_held g (l ∷ ls) =
    ap (λ r. cond l.kept r (Err (g l.fault))) (checked_held g ls) ∙ cond_lifted g l.kept (checked ls) l.fault

-- a loop over n records, at record k: what is left to check decides
abbrev pub LeftFrom : {F : Type 0} → (ℕ → List (Limit F)) → ℕ → ℕ → Type 0
LeftFrom limits n k = checked (of_each limits 0 n) ≡ checked (of_each limits k (n - k))

module _ {F : Type 0} (limits : ℕ → List (Limit F)) (n k : ℕ) (left : LeftFrom limits n k) where
  one_more : (m : ℕ) → n - k ≡ suc m → checked (of_each limits 0 n) ≡ and_then (checked (limits k)) (checked (of_each limits (k + 1) m))
  one_more m e =
      left ∙ (ap (λ j. checked (of_each limits k j)) e ∙ checked_append (limits k) (of_each limits (k + 1) m))

  pub goes_on : k < n → checked (limits k) ≡ Ok tt → LeftFrom limits n (k + 1)
  goes_on h passed =
      one_more (n - (k + 1)) (omega arith) ∙ ap (λ r. and_then r (checked (of_each limits (k + 1) (n - (k + 1))))) passed

  pub stops : (f : F) → k < n → checked (limits k) ≡ Err f → checked (of_each limits 0 n) ≡ Err f
  stops f h failed =
      one_more (n - (k + 1)) (omega arith) ∙ ap (λ r. and_then r (checked (of_each limits (k + 1) (n - (k + 1))))) failed

-- one list of limits after another, and a list of the layer below
module _ {F : Type 0} (xs ys : List (Limit F)) where
  pub after_ok : checked xs ≡ Ok tt → checked (xs ++ ys) ≡ checked ys
  after_ok e = checked_append xs ys ∙ ap (λ r. and_then r (checked ys)) e

  pub after_err : (f : F) → checked xs ≡ Err f → checked (xs ++ ys) ≡ Err f
  after_err f e = checked_append xs ys ∙ ap (λ r. and_then r (checked ys)) e

module _ {F G : Type 0} (g : F → G) (xs : List (Limit F)) where
  pub held_ok : checked xs ≡ Ok tt → checked (held_in g xs) ≡ Ok tt
  held_ok e = checked_held g xs ∙ ap (lifted g) e

  pub held_err : (f : F) → checked xs ≡ Err f → checked (held_in g xs) ≡ Err (g f)
  held_err f e = checked_held g xs ∙ ap (lifted g) e
