-- The lengths of guards, added up.
use Rattle.std.proofs.Common.{◌≡◌, ℕ, zero, suc, ◌+◌, ◌*◌, ◌≤◌, List, Option, None, Some, length, sum_by, ap, sym, ◌∙◌, refl, zero-add, arith}
use Rattle.std.specs.List.{filter_map, cons_option, range_with_len}
use Rattle.std.proofs.lemmas.List.Sums.{sum_by-cons}
use Rattle.device.specs.declared.Edge.{Edge}
use Rattle.device.specs.Meaning.{Meaning, Lawful, Transition, told, edge_of}
use Rattle.description.specs.Descriptions.{guard_length, guard_lengths}

one_added : (o : Option Edge) (es : List Edge) (n : ℕ) → sum_by (λ e. e.conditions) es ≡ n → sum_by (λ e. e.conditions) (cons_option o es) ≡ guard_length o + n
one_added None es n e = e ∙ sym (zero-add n)
one_added (Some x) es n e = sum_by-cons (λ e. e.conditions) x es ∙ ap (λ s. x.conditions + s) e

pub lengths_added : (m : Meaning) (k n : ℕ) → sum_by (λ e. e.conditions) (filter_map (edge_of m) (range_with_len k n)) ≡ guard_lengths m k n
unfolding guard_lengths
lengths_added m k zero = refl
lengths_added m k (suc n) = one_added (edge_of m k) _ _ (lengths_added m (k + 1) n)

one_fits : (o : Option Transition) → ((t : Transition) → o ≡ Some t → length t.guard ≤ 32) → guard_length (told o) ≤ 32
one_fits None h = omega arith
one_fits (Some t) h = h t refl

pub lengths_fit : (m : Meaning) → Lawful m → (k n : ℕ) → guard_lengths m k n ≤ 32 * n
unfolding guard_lengths
lengths_fit m lawful k zero = omega arith
lengths_fit m lawful k (suc n) =
    let one = one_fits (m.edge_at k) (λ t e. omega (arith, (lawful.transitions k t e).guard_length, lawful.most)) in
    omega (arith, one, lengths_fit m lawful (k + 1) n)
