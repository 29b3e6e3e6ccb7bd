use Rattle.std.proofs.Common.{Err, ap, ◌∙◌}
use Rattle.std.proofs.lemmas.Result.{err_from_is_err_and}
use Rattle.sheet.proofs.Layers.{conditions_broken, records_broken, sections_kept}
use Rattle.sheet.proofs.sheets.check_sections.Goals as goal

pub returns-in_err-check_conditions : goal.returns-in_err-check_conditions
returns-in_err-check_conditions g c =
    let r = c.args.reader.now in
    let p = err_from_is_err_and c.from_residual-in_err-check_conditions.result c.from_residual-in_err-check_conditions.ensures.1 in
    p.1 ∙ (ap Err p.2 ∙ conditions_broken r.kind g.R.SheetRecords.limits r.sheet.now c.in_ok-check_directory.ensures c.in_err-check_conditions.field-0.0 c.in_err-check_conditions.ensures)

pub returns-in_err-check : goal.returns-in_err-check
returns-in_err-check g c =
    let r = c.args.reader.now in
    let p = err_from_is_err_and c.from_residual-in_err-check.result c.from_residual-in_err-check.ensures.1 in
    p.1 ∙ (ap Err p.2 ∙ records_broken r.kind g.R.SheetRecords.limits r.sheet.now c.in_ok-check_directory.ensures c.in_ok-check_conditions.ensures c.in_err-check.field-0.0 c.in_err-check.ensures)

pub returns : goal.returns
returns g c =
    let r = c.args.reader.now in
    sections_kept r.kind g.R.SheetRecords.limits r.sheet.now c.in_ok-check_directory.ensures c.in_ok-check_conditions.ensures c.in_ok-check.ensures
