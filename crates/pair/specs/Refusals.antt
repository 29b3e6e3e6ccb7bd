-- The refusals of rows and pairs with their numbers.
use Rattle.std.specs.Prelude.{ℕ}
pub use Rattle.pair.specs.declared.refusals.PairRefusal.{PairRefusal}
pub use Rattle.pair.specs.declared.refusals.PairRefusal.TheVariants.{BadRow, ActionsTaken, SynchroniserFull, PairTooLarge}

abbrev pub number_of : PairRefusal → ℕ
number_of BadRow = 14
number_of ActionsTaken = 15
number_of SynchroniserFull = 16
number_of PairTooLarge = 17
