-- Relations, terms and conditions in words.
use Rattle.std.specs.Prelude.{ℕ, List, ◌++◌, codes, decimal}
use Rattle.std.specs.Fmt.{signed_decimal}
use Rattle.device.specs.declared.Relation.{Relation}
use Rattle.device.specs.declared.Relation.TheVariants.{Less, AtMost, Equal, AtLeast, Greater}
use Rattle.device.specs.declared.Term.{Term}
use Rattle.device.specs.declared.Term.TheVariants.{Clock, Difference}
use Rattle.device.specs.declared.Condition.{Condition}

abbrev pub relation_text : Relation → List ℕ
relation_text Less = codes "<"
relation_text AtMost = codes "<="
relation_text Equal = codes "="
relation_text AtLeast = codes ">="
relation_text Greater = codes ">"

abbrev pub clock_text : ℕ → List ℕ
clock_text a = codes "clock " ++ decimal a

abbrev pub term_text : Term → List ℕ
term_text (Clock a) = clock_text a
term_text (Difference a b) = clock_text a ++ (codes " - " ++ clock_text b)

abbrev pub condition_text : Condition → List ℕ
condition_text c = term_text c.term ++ (codes " " ++ (relation_text c.relation ++ (codes " " ++ signed_decimal c.constant)))
