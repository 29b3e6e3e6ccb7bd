-- The tests of a guard.
use Rattle.std.proofs.Common.{◌≡◌, ℕ, suc, Bool, true, List, [], ◌∷◌, Some, sym, refl, ◌∙◌}
use Rattle.std.specs.List.{AllByRecursion, slice_get}
use Rattle.device.specs.declared.Condition.{Condition}

-- where two tests agree on a guard, it passes both or neither
pub guard_passes :
    (f g : Condition → Bool) (cs : List Condition) → ((i : ℕ) (c : Condition) → slice_get cs i ≡ Some c → f c ≡ g c) →
    AllByRecursion (λ c. f c ≡ true) cs → AllByRecursion (λ c. g c ≡ true) cs
guard_passes f g [] same h = tt
guard_passes f g (c ∷ cs) same h = (sym (same 0 c refl) ∙ h.0, guard_passes f g cs (λ i. same (suc i)) h.1)
