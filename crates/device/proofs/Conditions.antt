-- Lawful conditions stay lawful over more clocks and larger constants, and over clocks numbered after others.
use Rattle.std.proofs.Common.{ℕ, ◌+◌, ◌≤◌, ℤ, ◌≤ℤ◌, arith}
use Rattle.std.proofs.lemmas.Int.{ints}
use Rattle.device.specs.declared.Term.{Term}
use Rattle.device.specs.declared.Term.TheVariants.{Clock, Difference}
use Rattle.device.specs.declared.Condition.{Condition}
use Rattle.device.specs.Terms.{TermExists, lowest, ConditionLawful, renumbered, renumbered_term}

more_clocks : (n o : ℕ) (t : Term) → n ≤ o → TermExists n t → TermExists o t
more_clocks n o (Clock a) h e = omega arith
more_clocks n o (Difference a b) h e = (omega arith, omega arith, e.2)

lower : (j k : ℕ) (t : Term) (c : ℤ) → j ≤ k → lowest j t ≤ℤ c → lowest k t ≤ℤ c
lower j k (Clock a) c h e = e
lower j k (Difference a b) c h e = omega (arith, ints)

pub lawful_more : (n o j k : ℕ) (c : Condition) → n ≤ o → j ≤ k → ConditionLawful n j c → ConditionLawful o k c
lawful_more n o j k c h g l = record {
  term = more_clocks n o c.term h l.term;
  low = lower j k c.term c.constant g l.low;
  high = omega (arith, ints, l.high);
}

later_clocks : (d n : ℕ) (t : Term) → TermExists n t → TermExists (d + n) (renumbered_term d t)
later_clocks d n (Clock a) e = omega arith
later_clocks d n (Difference a b) e = (omega arith, omega arith, λ s. e.2 (omega arith))

same_lowest : (d k : ℕ) (t : Term) (c : ℤ) → lowest k t ≤ℤ c → lowest k (renumbered_term d t) ≤ℤ c
same_lowest d k (Clock a) c e = e
same_lowest d k (Difference a b) c e = e

pub lawful_renumbered : (d n k : ℕ) (c : Condition) → ConditionLawful n k c → ConditionLawful (d + n) k (renumbered d c)
lawful_renumbered d n k c l = record {
  term = later_clocks d n c.term l.term;
  low = same_lowest d k c.term c.constant l.low;
  high = l.high;
}
