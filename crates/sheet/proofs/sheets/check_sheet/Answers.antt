use Rattle.std.proofs.Common.{Err, ap, ap₂, ◌∙◌}
use Rattle.std.proofs.lemmas.Result.{err_from_is_err_and}
use Rattle.sheet.specs.Limits.{checked}
use Rattle.sheet.specs.Sheets.{sheet_limits}
use Rattle.sheet.proofs.Layers.{sections_broken, sheet_kept}
use Rattle.sheet.proofs.sheets.check_sheet.Goals as goal

pub returns-in_err-check_sections : goal.returns-in_err-check_sections
returns-in_err-check_sections g c =
    let r = c.new-reader.result in
    let limits = g.R.SheetRecords.limits in
    let p = err_from_is_err_and c.from_residual-in_err-check_sections.result c.from_residual-in_err-check_sections.ensures.1 in
    p.1 ∙ (ap Err p.2 ∙ (sections_broken r.kind limits r.sheet.now c.in_ok-check_header.ensures c.in_err-check_sections.field-0.0 c.in_err-check_sections.ensures ∙ ap₂ (λ k b. checked (sheet_limits k limits b)) (c.new-reader.ensures.kind ∙ c.KIND.ensures) c.new-reader.ensures.bytes))

pub returns : goal.returns
returns g c =
    let r = c.new-reader.result in
    let limits = g.R.SheetRecords.limits in
    sheet_kept r.kind limits r.sheet.now c.in_ok-check_header.ensures c.in_ok-check_sections.ensures ∙ ap₂ (λ k b. checked (sheet_limits k limits b)) (c.new-reader.ensures.kind ∙ c.KIND.ensures) c.new-reader.ensures.bytes
