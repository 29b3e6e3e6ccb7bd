use Rattle.std.proofs.Common.{◌≡◌, ℕ, List, Option, None, Some, option_map, rules, refl}
use Rattle.std.specs.List.{slice_get}
use Rattle.std.proofs.Output.{has_written_append, has_written_of_eq}
use Rattle.property_sheet.specs.declared.Line.{Line}
use Rattle.property.specs.Contents.{content_of}
use Rattle.wording.specs.Lines.{numbered_text}
use Rattle.wording.specs.declared.properties.NumberedLine.{NumberedLine}
use Rattle.wording.proofs.Texts.{told_text, told_written}
use Rattle.wording.proofs.properties.WholePropertyDisplay.fmt.Goals as goal

abbrev with_number : ℕ → Line → NumberedLine
with_number p l = record { number = p; line = l }

abbrev text_of : NumberedLine → List ℕ
text_of l = numbered_text l.number (Some l.line)

line_told : (p : ℕ) (o : Option Line) → told_text text_of (option_map (with_number p) o) ≡ numbered_text p o
line_told p None = refl
line_told p (Some l) = refl

pub returns-clause-writes : goal.returns-clause-writes
returns-clause-writes g c =
    λ plain ok.
    let lines = (content_of c.args.self.now.0.now).lines in
    let head = c.in_ok-writeln.ensures.writes plain refl in
    let told = told_written _ _ _ text_of (λ p. option_map (with_number p) (slice_get lines p)) (λ p. numbered_text p (slice_get lines p)) c.line_count-lines.result _ _ _ c.filter_map.ensures.source c.filter_map.ensures.closure (λ x r q k. search rules) (λ x. line_told x (slice_get lines x)) (λ x. refl) c.write_each.ensures head.plain ok in
    has_written_of_eq _ _ _ _ _ (cc) (has_written_append _ _ _ _ _ _ head told)
