use Rattle.std.proofs.Common.{Ok, Err, Result, MatchResult, rules}
use Rattle.description.proofs.load.Goals as goal

-- a result of which two things are known
by_both : {G E : Type 0} (r : Result (Unit {0}) E) (A B : Unit {0} → Type 0) (P Q : E → Type 0) → MatchResult r A P → MatchResult r B Q → ((u : Unit {0}) → A u → B u → G) → ((e : E) → P e → Q e → G) → G
by_both (Ok u) A B P Q a b ok err = ok u a b
by_both (Err e) A B P Q p q ok err = err e p q

pub returns-in_err-map_err-2 : goal.returns-in_err-map_err-2
returns-in_err-map_err-2 c =
    by_both c.load-2.result _ _ _ _ c.in_err-map_err-2.ensures.cases c.load-2.ensures.read (λ u a b. cc) (λ e p q. search rules)
