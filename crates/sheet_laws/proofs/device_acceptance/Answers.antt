use Rattle.sheet_laws.proofs.Accepted.{device_accepted_exactly}
use Rattle.sheet_laws.proofs.device_acceptance.Goals as goal

pub returns : goal.returns
returns c = device_accepted_exactly
