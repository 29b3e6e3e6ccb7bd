-- A condition record that fits is a lawful condition.
use Rattle.std.proofs.Common.{◌≡◌, ℕ, zero, suc, ◌+◌, ◌*◌, ◌<◌, Bool, true, false, cond, eqb, List, length, Some, sym, refl, ap, subst, ⊎_elim, arith}
use Rattle.std.proofs.lemmas.Bool.{eqb-false}
use Rattle.std.specs.List.{slice_get}
use Rattle.device.specs.declared.Condition.{Condition}
use Rattle.device.specs.declared.Term.TheVariants.{Clock, Difference}
use Rattle.device.specs.Terms.{TermExists, ConditionLawful}
use Rattle.sheet.specs.Layout.{byte_at}
use Rattle.sheet.specs.Conditions.{condition_at, conditions_from}
use Rattle.sheet.specs.Fits.{ConditionFits}

module _ (n c : ℕ) (cs : List ℕ) where
  term_exists : (k : ℕ) → ConditionFits n c cs k → (t : Bool) → eqb (byte_at cs (4 * k + 1)) 255 ≡ t → TermExists n (cond t (Clock (byte_at cs (4 * k))) (Difference (byte_at cs (4 * k)) (byte_at cs (4 * k + 1))))
  term_exists k f true e = f.clock
  term_exists k f false e =
      ⊎_elim (λ x. absurd (eqb-false (byte_at cs (4 * k + 1)) 255 e x)) (λ y. (f.clock, y.0, λ same. y.1 (sym same))) f.second

  pub condition_lawful : (k : ℕ) → ConditionFits n c cs k → ConditionLawful n c (condition_at cs k)
  condition_lawful k f = record {
    term = term_exists k f (eqb (byte_at cs (4 * k + 1)) 255) refl;
    low = f.constant_low;
    high = f.constant_high;
  }

  -- some conditions of a section, in a row
  pub conditions_lawful : (k count i : ℕ) (x : Condition) → ((j : ℕ) → j < k + count → ConditionFits n c cs j) → slice_get (conditions_from cs k count) i ≡ Some x → ConditionLawful n c x
  conditions_lawful k zero i x all eq = absurd (cc)
  conditions_lawful k (suc count) zero x all eq =
      let same : condition_at cs k ≡ x = cc in subst (ConditionLawful n c) same (condition_lawful k (all k (omega arith)))
  conditions_lawful k (suc count) (suc i) x all eq = conditions_lawful (k + 1) count i x (λ j h. all j (omega arith)) eq

pub conditions_length : (cs : List ℕ) (k n : ℕ) → length (conditions_from cs k n) ≡ n
conditions_length cs k zero = refl
conditions_length cs k (suc n) = ap suc (conditions_length cs (k + 1) n)
