use Rattle.semantics.proofs.Standing.{refutations_sound}
use Rattle.semantics.proofs.refutations_are_sound.Goals as goal

pub returns : goal.returns
returns c = refutations_sound
