-- What a settling is made of fits, whatever the disk tells.
use Rattle.std.specs.Prelude.{◌≡◌, ℕ, ◌<◌, ◌^◌, length, Some}
use Rattle.sd_names.specs.Turn.{MatchTurn}
use Rattle.sd_names.specs.declared.turn.Turn.{Turn}
use Rattle.volume_meta.specs.declared.record.VolumeRecord.{VolumeRecord}
use Rattle.volume_texts.specs.Write.{IsFor}
use Rattle.volume_texts.specs.declared.write.TextWrite.{TextWrite}
use Rattle.chain_gathering.specs.Kept as kept
use Rattle.chain_records.specs.Records.{files_of, ids_of}
use Rattle.volume_chain.specs.Chain.{open_in, path_in, records_kept, target_of}
use Rattle.volume_chain.specs.declared.chain.Chain.{Chain}
use Rattle.chain_settling.specs.Work.{record_at}
use Rattle.chain_settling.specs.declared.stages.Stage.{Stage}
use Rattle.chain_settling.specs.declared.stages.Stage.TheVariants.{Tidying, Lengths, Lengthening, Headers, Heading, Texts, Writing}

abbrev pub StageTurn : Type 0
StageTurn = Turn Stage Chain (Unit {0})

-- the chain of each stage
abbrev pub chain_in : Stage → Chain
chain_in (Tidying c t) = c
chain_in (Lengths c at) = c
chain_in (Lengthening c at l) = c
chain_in (Headers c at) = c
chain_in (Heading c at r) = c
chain_in (Texts c part i) = c
chain_in (Writing c part i w) = c

-- each record of a chain is valid, as all are of a chain that was opened
abbrev pub AreValid : Chain → Type 0
AreValid c = kept.AreValid (records_kept c)

-- the text that is written is that of the record at this place of the list
pub record IsOfRecord (c : Chain) (i : ℕ) (w : TextWrite) : Type 0 where
  pub inside : i < length (records_kept c)
  pub says : VolumeRecord
  pub is : record_at c i ≡ Some says
  pub for_it : IsFor says w

-- the places that are worked at are in their lists
abbrev pub IsInside : Stage → Type 0
IsInside (Lengthening c at l) = at < length (open_in c)
IsInside (Heading c at r) = at < length (open_in c)
IsInside (Writing c part i w) = IsOfRecord c i w
IsInside _ = Unit {0}

pub record IsFit (s : Stage) : Type 0 where
  pub valid : AreValid (chain_in s)
  pub few : length (open_in (chain_in s)) < 2 ^ 64
  pub short : length (records_kept (chain_in s)) < 2 ^ 64
  pub inside : IsInside s

-- a chain of the same image, with the same volumes and the same path
pub record IsSameChain (c next : Chain) : Type 0 where
  pub target : target_of next ≡ target_of c
  pub path : path_in next ≡ path_in c
  pub opened : length (open_in next) ≡ length (open_in c)
  pub ids : ids_of (records_kept next) ≡ ids_of (records_kept c)
  pub files : files_of (records_kept next) ≡ files_of (records_kept c)

-- so a step keeps it
abbrev pub KeepsFit : Stage → StageTurn → Type 0
KeepsFit s turn = MatchTurn turn
    (λ next. IsFit next × IsSameChain (chain_in s) (chain_in next))
    (λ c. AreValid c × IsSameChain (chain_in s) c)
    (λ _ _. Unit {0})
