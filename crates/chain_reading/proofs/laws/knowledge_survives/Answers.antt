use Rattle.chain_reading.proofs.Survives.{begun_image, image_below, image_down, image_grown, image_untouched, longer_image}
use Rattle.chain_reading.proofs.laws.knowledge_survives.Goals as goal

pub returns-clause-read : goal.returns-clause-read
returns-clause-read c p chain host x part d e k image = record { image = image; volume = k.volume; ends = k.ends; so_far = k.so_far }

pub returns-clause-longer : goal.returns-clause-longer
returns-clause-longer c chain v host x d e k knows settled longer = longer_image chain v host x d e k knows settled longer

pub returns-clause-begun : goal.returns-clause-begun
returns-clause-begun c chain v host d knows settled = begun_image chain v host d knows settled

pub returns-clause-below : goal.returns-clause-below
returns-clause-below c chain v w host x d below k = image_below chain v w host x d below k

pub returns-clause-untouched : goal.returns-clause-untouched
returns-clause-untouched c chain other v host x d e alike same k = image_untouched chain other v host x d e alike same k

pub returns-clause-down : goal.returns-clause-down
returns-clause-down c chain v host other x d e apart down k = image_down chain v host other x d e apart down k

pub returns-clause-grown : goal.returns-clause-grown
returns-clause-grown c chain v host x d e grown lengths k = image_grown chain v host x d e grown lengths k
