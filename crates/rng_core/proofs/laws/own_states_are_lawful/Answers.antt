use Rattle.rng_core.proofs.OwnStates as named
use Rattle.rng_core.proofs.laws.own_states_are_lawful.Goals as goal

pub returns : goal.returns
returns c = named.own_states_are_lawful
