use Rattle.std.proofs.Common.{sym}
use Rattle.std.proofs.lemmas.Result.{err_from_is_err_and}
use Rattle.property_sheet.proofs.Fitting.{property_fits_from}
use Rattle.sheet_laws.proofs.Sheets.{property_told}
use Rattle.property.proofs.held.Property.load.Goals as goal

pub returns-in_err-check_sheet-clause-limits : goal.returns-in_err-check_sheet-clause-limits
returns-in_err-check_sheet-clause-limits c =
    let p = err_from_is_err_and c.from_residual.result c.from_residual.ensures.1 in
    rw (p.1, p.2) (property_told c.args.sheet.now c.in_err-check_sheet.field-0.0 c.in_err-check_sheet.ensures)

pub returns-clause-limits : goal.returns-clause-limits
returns-clause-limits c = property_fits_from c.args.sheet.now (sym c.in_ok-check_sheet.ensures)
