-- How many steps a settling takes at the most.
use Rattle.std.specs.Prelude.{ℕ, ◌+◌, ◌-◌, ◌*◌, ◌<◌, ◌≤◌, length, Option, Some}
use Rattle.sd_names.specs.Turn.{MatchTurn}
use Rattle.sd_names.specs.declared.place.Dir.{Dir}
use Rattle.sd_names.specs.declared.place.Name.{Name}
use Rattle.sd_names.specs.declared.turn.Turn.TheVariants.{More}
use Rattle.shared_disk.specs.Content.{Content}
use Rattle.shared_disk.specs.NameCalls.{IsNameAbove, ShowsName}
use Rattle.layer_heading.specs.Rebasing.{rebasing_left}
use Rattle.settling_steps.specs.Leftovers as tidy
use Rattle.settling_steps.specs.Lengthening as long
use Rattle.settling_steps.specs.Names.{price}
use Rattle.volume_texts.specs.Write.{write_left}
use Rattle.volume_chain.specs.Chain.{open_in, records_kept}
use Rattle.volume_chain.specs.declared.chain.Chain.{Chain}
use Rattle.chain_settling.specs.Fit.{StageTurn}
use Rattle.chain_settling.specs.declared.stages.Part.{Part}
use Rattle.chain_settling.specs.declared.stages.Part.TheVariants.{Parents, Types}
use Rattle.chain_settling.specs.declared.stages.Stage.{Stage}
use Rattle.chain_settling.specs.declared.stages.Stage.TheVariants.{Tidying, Lengths, Lengthening, Headers, Heading, Texts, Writing}

-- the growth of the path's files, its headers, and the texts, from a place on
abbrev pub lengths_left : Chain → ℕ → ℕ
lengths_left c at = 3 * (length (open_in c) - at) + 1

abbrev pub headers_left : Chain → ℕ → ℕ
headers_left c at = 6 * (length (open_in c) - at) + 1

abbrev pub texts_left : Chain → ℕ → ℕ
texts_left c i = 6 * (length (records_kept c) - i) + 1

-- VOLTYPEs follow once all parents are rewritten
abbrev pub then_types : Chain → Part → ℕ
then_types c Parents = texts_left c 0
then_types c Types = 0

abbrev pub after_headers : Chain → ℕ
after_headers c = texts_left c 0 + texts_left c 0

abbrev pub after_lengths : Chain → ℕ
after_lengths c = headers_left c 0 + after_headers c

-- the steps that are left, `cost after` being what the names above `after` cost
abbrev pub left_of : (Option Name → ℕ) → Stage → ℕ
left_of cost (Tidying c t) = tidy.steps_left cost t + lengths_left c 0 + after_lengths c
left_of cost (Lengths c at) = lengths_left c at + after_lengths c
left_of cost (Lengthening c at l) = long.steps_left l + lengths_left c (at + 1) + after_lengths c
left_of cost (Headers c at) = headers_left c at + after_headers c
left_of cost (Heading c at r) = rebasing_left r + headers_left c (at + 1) + after_headers c
left_of cost (Texts c part i) = texts_left c i + then_types c part
left_of cost (Writing c part i w) = write_left w + texts_left c (i + 1) + then_types c part

-- what the names above each cost, where the folder shows these: a name and those above it cost no more than those above what it
-- is above
abbrev pub IsCost : Dir → Content → (Option Name → ℕ) → Type 0
IsCost dir d cost = (before : Option Name) (n : Name) → ShowsName d dir n → IsNameAbove before n → cost (Some n) + price n ≤ cost before

-- where a step lists a name, this holds of the name before it and of that one
abbrev pub MeetsAt : (Option Name → Option Name → Type 0) → Stage → StageTurn → Type 0
MeetsAt R (Tidying c t) (More (Tidying d u)) = tidy.Meets R t (More u)
MeetsAt R s turn = Unit {0}

-- Fewer steps are left, where the name that was listed is paid for.
abbrev pub FallsIn : Stage → StageTurn → Type 0
FallsIn s turn = (cost : Option Name → ℕ) → MeetsAt (tidy.IsPaid cost) s turn → MatchTurn turn
    (λ next. left_of cost next < left_of cost s)
    (λ _. 0 < left_of cost s)
    (λ _ _. 0 < left_of cost s)
