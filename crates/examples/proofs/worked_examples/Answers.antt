use Rattle.examples.proofs.Computed.{worked_table}
use Rattle.examples.proofs.worked_examples.Goals as goal

pub returns : goal.returns
returns c = worked_table
