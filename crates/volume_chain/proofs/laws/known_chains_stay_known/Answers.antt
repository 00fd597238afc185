use Rattle.volume_chain.proofs.Stays.{chain_down, chain_grown, chain_untouched}
use Rattle.volume_chain.proofs.laws.known_chains_stay_known.Goals as goal

pub returns-clause-untouched : goal.returns-clause-untouched
returns-clause-untouched c chain host d e same knows = chain_untouched chain host d e same knows

pub returns-clause-down : goal.returns-clause-down
returns-clause-down c chain host other d e apart alone down knows = chain_down chain host other d e apart alone down knows

pub returns-clause-grown : goal.returns-clause-grown
returns-clause-grown c chain host d e grown lengths knows = chain_grown chain host d e grown lengths knows
