use Rattle.std.proofs.Common.{◌≡◌, ℕ, Bool, true, false, List, Ok, Option, None, Some, option_map, rules, refl}
use Rattle.std.specs.Bool.{then_some}
use Rattle.std.proofs.Output.{has_written_append, has_written_of_eq}
use Rattle.device.specs.declared.Condition.{Condition}
use Rattle.device.specs.Meaning.{condition_of}
use Rattle.device.specs.Terms.{has_clock}
use Rattle.wording.specs.Devices.{clause_text, reset_clause, reset_text}
use Rattle.wording.specs.declared.devices.Clause.{Clause}
use Rattle.wording.specs.declared.devices.Reset.{Reset}
use Rattle.wording.proofs.Texts.{told_text, told_written}
use Rattle.wording.proofs.devices.NumberedEdgeDisplay.fmt.Goals as goal

abbrev clause : Condition → Clause
clause t = record { 0 = t }

abbrev text_of_clause : Clause → List ℕ
text_of_clause t = clause_text (Some t.0)

clause_told : (o : Option Condition) → told_text text_of_clause (option_map clause o) ≡ clause_text o
clause_told None = refl
clause_told (Some t) = refl

abbrev reset : ℕ → Reset
reset k = record { 0 = k }

abbrev text_of_reset : Reset → List ℕ
text_of_reset r = reset_clause true r.0

reset_told : (b : Bool) (k : ℕ) → told_text text_of_reset (then_some b (reset k)) ≡ reset_clause b k
reset_told true k = refl
reset_told false k = refl

pub returns-clause-writes : goal.returns-clause-writes
returns-clause-writes g c =
    λ plain ok.
    let m = g.D.Device.meaning c.args.self.now.device.now in
    let e = c.args.self.now.number in
    let x = c.args.self.now.edge in
    let ends = c.in_ok-write.ensures.writes plain refl in
    let conditions = told_written _ _ _ text_of_clause (λ i. option_map clause (condition_of m e i)) (λ i. clause_text (condition_of m e i)) c.from.result _ _ (Ok c.in_ok-write_each.field-0) c.filter_map.ensures.source c.filter_map.ensures.closure (λ x r q k. search rules) (λ i. clause_told (condition_of m e i)) (λ x. refl) c.in_ok-write_each.ensures ends.plain refl in
    let resets = told_written _ _ _ text_of_reset (λ k. then_some (has_clock x.resets.bits k) (reset k)) (reset_text x.resets.bits) 8 _ _ (Ok c.in_ok-write_each-2.field-0) c.filter_map-2.ensures.source c.filter_map-2.ensures.closure (λ x r q k. search rules) (λ k. reset_told (has_clock x.resets.bits k) k) (λ x. refl) c.in_ok-write_each-2.ensures conditions.plain refl in
    let last = c.writeln.ensures.writes resets.plain ok in
    has_written_of_eq _ _ _ _ _ (cc) (has_written_append _ _ _ _ _ _ ends (has_written_append _ _ _ _ _ _ conditions (has_written_append _ _ _ _ _ _ resets last)))
