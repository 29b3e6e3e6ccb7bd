use Rattle.sheet_laws.proofs.Sheets.{device_refused_first}
use Rattle.sheet_laws.proofs.device_refusals.Goals as goal

pub returns : goal.returns
returns c = device_refused_first
