-- A sheet that passed its check can be read line by line, and what is read keeps the limits of a property.
use Rattle.std.proofs.Common.{◌≡◌, ℕ, ◌/◌, ◌<◌, ◌≤◌, true, List, [], ◌∷◌, ◌++◌, length, sym, ap, ◌∙◌, subst, arith}
use Rattle.sheet.specs.Layout.{byte_at, section_of}
use Rattle.sheet.proofs.Passed.{Passed}
use Rattle.property_sheet.specs.declared.Line.{Line}
use Rattle.property_sheet.specs.declared.Line.TheVariants.{True}
use Rattle.property_sheet.specs.Contents.{content_fits}
use Rattle.property_sheet.specs.Records.{lines_from}
use Rattle.property_sheet.specs.Sheets.{property_limits, sheet_content}
use Rattle.property_sheet.proofs.Fitting.{property_fits_from}
use Rattle.property_sheet.proofs.Contents.{always_fits, length_section, sheet_content_fits}
use Rattle.property.specs.Parts.{content_with, LineReadable}

-- the first line of a new property
pub always_held : (before after : List Line) → before ≡ [] → after ≡ before ++ True ∷ [] → content_fits (content_with after 0 0) ≡ true
always_held before after none pushed =
    ap (λ xs. content_fits (content_with xs 0 0)) (pushed ∙ ap (λ xs. xs ++ True ∷ []) none) ∙ always_fits

-- at most 200 lines, and each condition that a line names is there
pub record Readable (ls cs : List ℕ) : Type 0 where
  pub few : length ls / 4 ≤ 200
  pub each : (k : ℕ) → k < length ls / 4 → LineReadable (length cs / 4) ls k

module _ (b : List ℕ) (passed : Passed (property_limits b)) where
  sections_readable : Readable (section_of b 0) (section_of b 1)
  sections_readable =
      let f = property_fits_from b passed in
      record {
        few = omega (arith, f.lines_most, length_section b 0 f.sheet.records_end);
        each = λ k lt. ((f.lines k lt).kind, (f.lines k lt).condition);
      }

  module _ (ls cs : List ℕ) (records : ls ≡ section_of b 0) (conditions : cs ≡ section_of b 1) where
    pub readable : Readable ls cs
    readable =
        subst (λ xs. Readable xs cs) (sym records) (subst (λ ys. Readable (section_of b 0) ys) (sym conditions) sections_readable)

    module _ (items : List Line) (c k : ℕ) (read : items ≡ lines_from ls cs 0 (length ls / 4)) (clocks : c ≡ byte_at b 2) (constant : k ≡ byte_at b 3) where
      pub filled : content_with items c k ≡ sheet_content b
      filled = cc

      pub filled_fits : content_fits (content_with items c k) ≡ true
      filled_fits = ap content_fits filled ∙ sheet_content_fits b passed
