use Rattle.naming.proofs.Sound.{time_held}
use Rattle.naming.proofs.relations.held_in_time.Goals as goal

pub returns : goal.returns
returns g c = time_held g.R.TimeRelation.device g.R.TimeRelation.property g.R.TimeRelation.holds g.R.TimeRelation.closed
