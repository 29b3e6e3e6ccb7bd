use Rattle.sheet_laws.proofs.Accepted.{property_accepted_exactly}
use Rattle.sheet_laws.proofs.property_acceptance.Goals as goal

pub returns : goal.returns
returns c = property_accepted_exactly
