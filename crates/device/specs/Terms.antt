-- Relations, terms, conditions and sets of clocks: their numbers in sheets and their limits.
use Rattle.std.specs.Prelude.{ℕ, ◌+◌, ◌/◌, ◌%◌, ◌^◌, ◌<◌, Bool, false, cond, ◌&&◌, ℤ, pos, neg_ℤ, ◌≤ℤ◌, Ok, Err, Result, ◌==◌, ◌≢◌, nat_le, nat_lt}
pub use Rattle.device.specs.declared.Relation.{Relation}
pub use Rattle.device.specs.declared.Relation.TheVariants.{Less, AtMost, Equal, AtLeast, Greater}
pub use Rattle.device.specs.declared.UnknownRelation.{UnknownRelation}
pub use Rattle.device.specs.declared.Term.{Term}
pub use Rattle.device.specs.declared.Term.TheVariants.{Clock, Difference}
pub use Rattle.device.specs.declared.Condition.{Condition}
pub use Rattle.device.specs.declared.ClockSet.{ClockSet}

-- the five relations with their numbers in sheets: <, ≤, =, ≥ and >; sheets refuse numbers past 4
abbrev pub relation_of : ℕ → Relation
relation_of n =
    cond (n == 0) Less (cond (n == 1) AtMost (cond (n == 2) Equal (cond (n == 3) AtLeast Greater)))

-- the relation with a number, or an error with a number that no relation has
abbrev pub relation_numbered : ℕ → Result Relation UnknownRelation
relation_numbered n = cond (nat_le n 4) (Ok (relation_of n)) (Err (record { 0 = n }))

-- clock c is in the set: bit c is 1; sets have eight bits
abbrev pub has_clock : ℕ → ℕ → Bool
has_clock bits c = cond (nat_lt c 8) (bits / 2 ^ c % 2 == 1) false

-- the clocks that a term names exist among n clocks, and no clock is taken from itself
abbrev pub TermExists : ℕ → Term → Type 0
TermExists n (Clock a) = a < n
TermExists n (Difference a b) = (a < n) × (b < n) × (a ≢ b)

-- the least constant that a term is compared with: 0 for a clock, minus the largest for a difference
abbrev pub lowest : ℕ → Term → ℤ
lowest k (Clock a) = pos 0
lowest k (Difference a b) = neg_ℤ (pos k)

-- a condition over n clocks with constants up to k
pub record ConditionLawful (n k : ℕ) (c : Condition) : Type 0 where
  pub term : TermExists n c.term
  pub low : lowest k c.term ≤ℤ c.constant
  pub high : c.constant ≤ℤ pos k

-- the same over clocks that come after n others: n is added to the number of each clock
abbrev pub renumbered_term : ℕ → Term → Term
renumbered_term n (Clock a) = Clock (n + a)
renumbered_term n (Difference a b) = Difference (n + a) (n + b)

abbrev pub renumbered : ℕ → Condition → Condition
renumbered n c = record { term = renumbered_term n c.term; relation = c.relation; constant = c.constant }

-- the numbers of the clocks then fit a byte
abbrev pub numbers_fit : ℕ → Term → Bool
numbers_fit n (Clock a) = nat_lt (n + a) 256
numbers_fit n (Difference a b) = nat_lt (n + a) 256 && nat_lt (n + b) 256
