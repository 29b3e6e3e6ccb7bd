use Rattle.naming.proofs.Sound.{places_held}
use Rattle.naming.proofs.relations.held_at_places.Goals as goal

pub returns : goal.returns
returns g c = places_held g.R.PlaceRelation.device g.R.PlaceRelation.property g.R.PlaceRelation.holds g.R.PlaceRelation.closed
