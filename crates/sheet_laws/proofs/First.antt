-- Of limits that rise, a check tells the fault that goes first among those of the broken limits.
use Rattle.std.proofs.Common.{◌≡◌, ◌<◌, ◌≤◌, Bool, true, false, cond, ◌⊎◌, List, [], ◌∷◌, Ok, Err, Result, refl, ap, subst, inl, inr, ⊎_elim, arith}
use Rattle.std.proofs.lemmas.Bool.{both_ways, cases_lt}
use Rattle.sheet.specs.declared.faults.SheetFault.{SheetFault}
use Rattle.sheet.specs.Limits.{Limit, checked, read_if}
use Rattle.sheet.specs.Order.{fault_number, Broken, NotAfter, ToldFirst}
use Rattle.sheet.proofs.Passed.{Passed, passed_parts}
use Rattle.sheet_laws.proofs.Rising.{Key, NotPast, not_past_trans, Rises}
use Rattle.sheet_laws.proofs.Faults.{key_of, same_fault}

module _ (f g : SheetFault) where
  not_after_by : NotPast (key_of f) (key_of g) → (fault_number f < fault_number g) ⊎ (fault_number g ≤ fault_number f) → NotAfter f g
  not_after_by h (inl less) = inl less
  not_after_by h (inr more) = inr (omega arith)

  -- the order of keys is that of faults
  not_after : NotPast (key_of f) (key_of g) → NotAfter f g
  not_after h = not_after_by h (cases_lt (fault_number f) (fault_number g))

  -- two faults of which neither goes after the other are one
  one_fault : NotAfter f g → NotAfter g f → f ≡ g
  one_fault h k = same_fault f g (omega arith) (omega arith)

-- no broken limit stands before the key that the limits rise from
broken_past : (a b : Key) (ls : List (Limit SheetFault)) (g : SheetFault) → Rises key_of a b ls → Broken ls g → NotPast a (key_of g)
broken_past a b [] g r h = absurd h
broken_past a b (l ∷ ls) g r (inl h) = subst (λ f. NotPast a (key_of f)) h.1 r.0
broken_past a b (l ∷ ls) g r (inr h) =
    not_past_trans a (key_of l.fault) (key_of g) r.0 (broken_past (key_of l.fault) b ls g r.1 h)

-- no limit is broken if the check passes
none_broken : (ls : List (Limit SheetFault)) (f : SheetFault) → Passed ls → Broken ls f → ⊥
none_broken [] f e h = h
none_broken (l ∷ ls) f e (inl h) = both_ways l.kept h.0 (passed_parts l ls e).0
none_broken (l ∷ ls) f e (inr h) = none_broken ls f (passed_parts l ls e).1 h

-- the check at one limit: it goes on, or it stops
module _ (l : Limit SheetFault) (ls : List (Limit SheetFault)) (f : SheetFault) where
  goes_on : l.kept ≡ true → ToldFirst ls f → ToldFirst (l ∷ ls) f
  goes_on k t = (inr t.0, λ g. ⊎_elim (λ h. absurd (both_ways l.kept h.0 k)) (t.1 g))

  stops : (b : Key) → Rises key_of (key_of l.fault) b ls → l.kept ≡ false → l.fault ≡ f → ToldFirst (l ∷ ls) f
  stops b r k same =
      (inl (k, same), λ g h. subst (λ e. NotAfter e g) same (not_after l.fault g (broken_past (key_of l.fault) b (l ∷ ls) g (omega arith, r) h)))

  at_limit : (b : Key) → Rises key_of (key_of l.fault) b ls → (t : Bool) → l.kept ≡ t → (checked ls ≡ Err f → ToldFirst ls f) → cond t (checked ls) (Err l.fault) ≡ Err f → ToldFirst (l ∷ ls) f
  at_limit b r true k next e = goes_on k (next e)
  at_limit b r false k next e = stops b r k (cc)

-- the fault that a check tells is that of a broken limit, and goes first
told_first : (a b : Key) (ls : List (Limit SheetFault)) (f : SheetFault) → Rises key_of a b ls → checked ls ≡ Err f → ToldFirst ls f
told_first a b [] f r e = absurd (cc)
told_first a b (l ∷ ls) f r e =
    at_limit l ls f b r.1 l.kept refl (told_first (key_of l.fault) b ls f r.1) e

-- and what goes first is told
module _ (a b : Key) (ls : List (Limit SheetFault)) (f : SheetFault) (rises : Rises key_of a b ls) where
  first_by : (r : Result (Unit {0}) SheetFault) → checked ls ≡ r → ToldFirst ls f → r ≡ Err f
  first_by (Ok u) e t = absurd (none_broken ls f e t.0)
  first_by (Err g) e t =
      let s = told_first a b ls g rises e in ap Err (one_fault g f (s.1 f t.0) (t.1 g s.0))

  first_told : ToldFirst ls f → checked ls ≡ Err f
  first_told t = first_by (checked ls) refl t

-- a reading is refused only as its check is
module _ {V F : Type 0} (v : V) (f : F) where
  refused_by : (r : Result (Unit {0}) F) → read_if r v ≡ Err f → r ≡ Err f
  refused_by (Ok u) e = absurd (cc)
  refused_by (Err g) e = ap Err (cc)

-- what is read if the check of rising limits passes is refused with the fault that goes first
pub refused_first : {V : Type 0} (v : V) (a b : Key) (ls : List (Limit SheetFault)) (f : SheetFault) → Rises key_of a b ls → (read_if (checked ls) v ≡ Err f → ToldFirst ls f) × (ToldFirst ls f → read_if (checked ls) v ≡ Err f)
refused_first v a b ls f r =
    (λ e. told_first a b ls f r (refused_by v f (checked ls) e), λ t. ap (λ s. read_if s v) (first_told a b ls f r t))
