-- What a step hands back, by cases.
use Rattle.sd_names.specs.declared.refusal.Refusal.{Refusal}
use Rattle.sd_names.specs.declared.turn.Turn.{Turn}
use Rattle.sd_names.specs.declared.turn.Turn.TheVariants.{More, Done, Ended}

-- a fact for each way in which a step ends: with more to do, with the result, by a refusal
abbrev pub MatchTurn : {S T B : Type 0} → Turn S T B → (S → Type 0) → (T → Type 0) → (B → Refusal → Type 0) → Type 0
MatchTurn (More s) P Q R = P s
MatchTurn (Done t) P Q R = Q t
MatchTurn (Ended b r) P Q R = R b r
