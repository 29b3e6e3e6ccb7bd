use Rattle.semantics.proofs.Standing.{places_stand}
use Rattle.semantics.proofs.places_stand_for_states.Goals as goal

pub returns : goal.returns
returns c = places_stand
