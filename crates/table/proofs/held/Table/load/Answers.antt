use Rattle.std.proofs.Common.{sym, subst}
use Rattle.std.proofs.lemmas.Result.{err_from_is_err_and}
use Rattle.device_sheet.specs.Fits.{DeviceFits}
use Rattle.sheet_laws.proofs.Sheets.{device_told}
use Rattle.device_sheet.proofs.Fitting.{device_fits_from}
use Rattle.device_sheet.proofs.Lawfuls.{told_numbers, told_few, told_records}
use Rattle.table.proofs.held.Table.load.Goals as goal

-- the ghost fields of the new table
pub invariant_of-self : goal.invariant_of-self
invariant_of-self c =
    let b = c.new-reader.result.sheet.now in
    let f = subst DeviceFits (sym c.new-reader.ensures.bytes) (device_fits_from c.args.sheet.now (sym c.in_ok-check_sheet.ensures)) in
    let n = c.byte.result in
    let s = c.byte-2.result in
    let k = c.byte-3.result in
    let m = c.byte-4.result in
    let es = c.sections-sections.result.records.now in
    let cs = c.sections-sections.result.conditions.now in
    let ie = c.sections-sections.ensures.records in
    let ic = c.sections-sections.ensures.conditions in
    record {
      numbers = told_numbers b f n s k m es cs c.byte.ensures c.byte-2.ensures c.byte-3.ensures c.byte-4.ensures ie ic;
      few = told_few b f n s k m es cs c.byte.ensures c.byte-2.ensures c.byte-3.ensures c.byte-4.ensures ie ic;
      records = told_records b f n s k m es cs c.byte.ensures c.byte-2.ensures c.byte-3.ensures c.byte-4.ensures ie ic;
    }

pub returns-in_err-check_sheet-clause-limits : goal.returns-in_err-check_sheet-clause-limits
returns-in_err-check_sheet-clause-limits c =
    let p = err_from_is_err_and c.from_residual.result c.from_residual.ensures.1 in
    rw (p.1, p.2) (device_told c.args.sheet.now c.in_err-check_sheet.field-0.0 c.in_err-check_sheet.ensures)

pub returns-clause-limits : goal.returns-clause-limits
returns-clause-limits c = device_fits_from c.args.sheet.now (sym c.in_ok-check_sheet.ensures)
