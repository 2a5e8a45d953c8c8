use Rattle.kp_names_semantics.proofs.PlacesOfFaults.{places_mean_nothing}
use Rattle.kp_names_semantics.proofs.laws.places_mean_nothing.Goals as goal

pub returns : goal.returns
returns c = places_mean_nothing
