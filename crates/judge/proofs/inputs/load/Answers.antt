use Rattle.std.proofs.Common.{◌≡◌, ℕ, Ok, Err, Result, sym, ap, ◌∙◌, subst, arith}
use Rattle.std.proofs.lemmas.Result.{err_from_is_err_and}
use Rattle.std.specs.Result.{MatchResult, IsErrAnd}
use Rattle.sheet.specs.declared.faults.SheetFault.{SheetFault}
use Rattle.device_sheet.specs.Sheets.{read_device}
use Rattle.property_sheet.specs.Sheets.{read_property}
use Rattle.judge.specs.declared.report.Report.{Report}
use Rattle.judge.specs.declared.report.Report.TheVariants.{PropertyRefused}
use Rattle.judge.specs.Reports.{both_sheets}
use Rattle.judge.proofs.inputs.load.Goals as goal

-- what is told of a loading holds after its error was mapped
module _ (out : Result (Unit {0}) Report) (how : SheetFault → Report → Type 0) (Yes : Unit {0} → Type 0) (No : SheetFault → Type 0) where
  went_on : (r : Result (Unit {0}) SheetFault) → MatchResult r (λ x. out ≡ Ok x) (λ f. IsErrAnd out (how f)) → (u : Unit {0}) → out ≡ Ok u → MatchResult r Yes No → (x : Unit {0}) × Yes x
  went_on (Ok x) cases u is told = (x, told)
  went_on (Err f) cases u is told = absurd (subst (λ o. IsErrAnd o (how f)) is cases)

  stopped : (r : Result (Unit {0}) SheetFault) → MatchResult r (λ x. out ≡ Ok x) (λ f. IsErrAnd out (how f)) → (e : Report) → out ≡ Err e → MatchResult r Yes No → (f : SheetFault) × how f e × No f
  stopped (Ok x) cases e is told = let z : ◌≡◌ {A = ℕ} 0 1 = cc in absurd (omega arith)
  stopped (Err f) cases e is told = (f, subst (λ o. IsErrAnd o (how f)) is cases, told)

pub returns-in_err-map_err-2-clause-sheets : goal.returns-in_err-map_err-2-clause-sheets
returns-in_err-map_err-2-clause-sheets c =
    let e = c.in_err-map_err-2.field-0.0 in
    let device = went_on c.map_err.result _ _ _ c.load.result c.map_err.ensures.cases c.in_ok-map_err.field-0 c.in_ok-map_err.was c.load.ensures.read in
    let property = stopped c.map_err-2.result _ _ _ c.load-2.result c.map_err-2.ensures.cases e c.in_err-map_err-2.was c.load-2.ensures.read in
    let refused : e ≡ PropertyRefused property.0 = property.1 in
    let told = err_from_is_err_and {Q = λ x. x ≡ e} c.from_residual-in_err-map_err-2.result c.from_residual-in_err-map_err-2.ensures.1 in
    let device-is = ap read_device (sym c.split-sheets.ensures.device) ∙ device.1 in
    let property-is = ap read_property (sym c.split-sheets.ensures.property) ∙ property.2.0 in
    told.1 ∙ ap Err (told.2 ∙ refused) ∙ sym (λ i. both_sheets (device-is i) (property-is i))
