use Rattle.sheet_laws.proofs.Sheets.{property_refused_first}
use Rattle.sheet_laws.proofs.property_refusals.Goals as goal

pub returns : goal.returns
returns c = property_refused_first
