-- How a script ends, and what has happened by then.
use Rattle.std.specs.Prelude.{◌≡◌, ℕ, ◌+◌, ◌≤◌, All, List, [], ◌∷◌, ◌++◌, length, nat_eq, Option, if◌then◌else◌}
use Rattle.std.specs.List.{flat_map}
use Rattle.script_loop.specs.Lines.{Cut, ended, HasNoLf, all_lines}
use Rattle.script_loop.specs.Run.{RunsLine, Runs, refusals, shortages}
use Rattle.script_loop.specs.Stream.{Rose, Took, IsSpent, Gave, IsCut}
use Rattle.script_loop.specs.declared.runner.LineOutcome.{LineOutcome}
use Rattle.script_loop.specs.declared.status.Status.{Status}
use Rattle.script_loop.specs.declared.status.Status.TheVariants as status

-- the most bytes of which lines are run
abbrev pub most_input : ℕ
most_input = 67108864

-- the status behind so many refusals, of which so many for want of memory
abbrev pub status_of : ℕ → ℕ → Status
status_of refused short = if nat_eq short 0 then (if nat_eq refused 0 then status.Done else status.Refused) else status.Memory

-- the lines that an LF ended in these bytes have run, and their text was given
pub record RanEnded {M D : Type 0} (says : M → D → ℕ → List ℕ → LineOutcome → M → D → Type 0) (reply_of : M → List ℕ) (m : M) (d : D) (bytes : List ℕ) (given given' : Option (List ℕ)) (refused : ℕ) (m' : M) (d' : D) : Type 0 where
  pub lines : List (List ℕ)
  pub last : List ℕ
  pub outcomes : List LineOutcome
  pub text : List ℕ
  pub cut : Cut bytes lines last
  pub runs : Runs says reply_of 0 m d lines outcomes text m' d'
  pub gave : Gave given given' text
  pub tells : refused ≡ refusals outcomes

-- all lines of these bytes have run, and their text was given
pub record RanAll {M D : Type 0} (says : M → D → ℕ → List ℕ → LineOutcome → M → D → Type 0) (reply_of : M → List ℕ) (m : M) (d : D) (bytes : List ℕ) (given given' : Option (List ℕ)) (refused short : ℕ) (m' : M) (d' : D) : Type 0 where
  pub lines : List (List ℕ)
  pub last : List ℕ
  pub outcomes : List LineOutcome
  pub text : List ℕ
  pub cut : Cut bytes lines last
  pub runs : Runs says reply_of 0 m d (all_lines lines last) outcomes text m' d'
  pub gave : Gave given given' text
  pub tells : refused ≡ refusals outcomes
  pub tells_short : short ≡ shortages outcomes

-- what follows a line: its LF, or nothing
abbrev pub EndsLine : List ℕ → Type 0
EndsLine [] = Unit {0}
EndsLine (byte ∷ bytes) = byte ≡ 10

-- Some lines of these bytes have run and their text was given; then one more has run, behind which this follows, and a front of
-- its text was given that lacks at least one byte.
pub record IsBroken {M D : Type 0} (says : M → D → ℕ → List ℕ → LineOutcome → M → D → Type 0) (reply_of : M → List ℕ) (m : M) (d : D) (rest bytes : List ℕ) (given given' : Option (List ℕ)) (refused : ℕ) (m' : M) (d' : D) : Type 0 where
  pub lines : List (List ℕ)
  pub last : List ℕ
  pub outcomes : List LineOutcome
  pub outcome : LineOutcome
  pub text : List ℕ
  pub reply : List ℕ
  pub sent : Option (List ℕ)
  pub mid : M
  pub disk : D
  pub whole : bytes ≡ flat_map ended lines ++ (last ++ rest)
  pub ends : EndsLine rest
  pub each : All HasNoLf lines
  pub no_lf : HasNoLf last
  pub runs : Runs says reply_of 0 m d lines outcomes text mid disk
  pub gave : Gave given sent text
  pub runs_last : RunsLine says reply_of (length lines + 1) mid disk last outcome reply m' d'
  pub cut : IsCut sent given' reply
  pub tells : refused ≡ refusals (outcomes ++ outcome ∷ [])

-- The input has ended and all its lines have run.
pub record EndsAt {M D : Type 0} (says : M → D → ℕ → List ℕ → LineOutcome → M → D → Type 0) (reply_of : M → List ℕ) (ends : Status) (refused : ℕ) (m : M) (d : D) (left left' given given' : Option (List ℕ)) (m' : M) (d' : D) : Type 0 where
  pub taken : List ℕ
  pub short : ℕ
  pub took : Took left left' taken
  pub spent : IsSpent left left'
  pub bound : length taken ≤ most_input
  pub ran : RanAll says reply_of m d taken given given' refused short m' d'
  pub status : ends ≡ status_of refused short

-- A read has failed.
pub record FailsIn {M D : Type 0} (says : M → D → ℕ → List ℕ → LineOutcome → M → D → Type 0) (reply_of : M → List ℕ) (refused : ℕ) (m : M) (d : D) (left left' given given' : Option (List ℕ)) (m' : M) (d' : D) : Type 0 where
  pub taken : List ℕ
  pub took : Took left left' taken
  pub bound : length taken ≤ most_input
  pub ran : RanEnded says reply_of m d taken given given' refused m' d'

-- There is one byte more than a script may have.
pub record IsTooLong {M D : Type 0} (says : M → D → ℕ → List ℕ → LineOutcome → M → D → Type 0) (reply_of : M → List ℕ) (refused : ℕ) (m : M) (d : D) (left left' given given' : Option (List ℕ)) (m' : M) (d' : D) : Type 0 where
  pub taken : List ℕ
  pub byte : ℕ
  pub took : Took left left' (taken ++ byte ∷ [])
  pub bound : length taken ≡ most_input
  pub ran : RanEnded says reply_of m d taken given given' refused m' d'

-- A write has failed; at most one byte more was taken than lines are run of. Behind the line whose reply was cut its LF follows,
-- or the input has ended.
pub record FailsOut {M D : Type 0} (says : M → D → ℕ → List ℕ → LineOutcome → M → D → Type 0) (reply_of : M → List ℕ) (refused : ℕ) (m : M) (d : D) (left left' given given' : Option (List ℕ)) (m' : M) (d' : D) : Type 0 where
  pub taken : List ℕ
  pub more : List ℕ
  pub rest : List ℕ
  pub took : Took left left' (taken ++ more)
  pub bound : length taken ≤ most_input
  pub few : length taken + length more ≤ most_input + 1
  pub ran : IsBroken says reply_of m d rest taken given given' refused m' d'
  pub last : rest ≡ [] → (more ≡ []) × IsSpent left left'

-- What has happened by the status: `left` and `left'` are what the source has told before and tells behind the run, `given` and
-- `given'` the sink.
abbrev pub Ends : {M D : Type 0} → (M → D → ℕ → List ℕ → LineOutcome → M → D → Type 0) → (M → List ℕ) → Status → ℕ → M → D → Option (List ℕ) → Option (List ℕ) → Option (List ℕ) → Option (List ℕ) → M → D → Type 0
Ends says reply_of status.Done refused m d left left' given given' m' d' = EndsAt says reply_of status.Done refused m d left left' given given' m' d'
Ends says reply_of status.Refused refused m d left left' given given' m' d' = EndsAt says reply_of status.Refused refused m d left left' given given' m' d'
Ends says reply_of status.Memory refused m d left left' given given' m' d' = EndsAt says reply_of status.Memory refused m d left left' given given' m' d'
Ends says reply_of status.ReadFault refused m d left left' given given' m' d' = FailsIn says reply_of refused m d left left' given given' m' d'
Ends says reply_of status.TooLong refused m d left left' given given' m' d' = IsTooLong says reply_of refused m d left left' given given' m' d'
Ends says reply_of status.WriteFault refused m d left left' given given' m' d' = FailsOut says reply_of refused m d left left' given given' m' d'
Ends says reply_of status.Words refused m d left left' given given' m' d' = ⊥

-- how the last line of the input ends a script
abbrev pub Finishes : {M D : Type 0} → (M → D → ℕ → List ℕ → LineOutcome → M → D → Type 0) → (M → List ℕ) → Status → ℕ → M → D → List ℕ → Option (List ℕ) → Option (List ℕ) → M → D → Type 0
Finishes says reply_of status.WriteFault refused m d bytes given given' m' d' = IsBroken says reply_of m d [] bytes given given' refused m' d'
Finishes says reply_of ends refused m d bytes given given' m' d' = (short : ℕ) × RanAll says reply_of m d bytes given given' refused short m' d' × (ends ≡ status_of refused short)

-- the counts of faults by the status: each is as it was, but for the stream that has failed
abbrev pub SourceFaults : Status → ℕ → ℕ → Type 0
SourceFaults status.ReadFault before after = Rose before after
SourceFaults _ before after = after ≡ before

abbrev pub SinkFaults : Status → ℕ → ℕ → Type 0
SinkFaults status.WriteFault before after = Rose before after
SinkFaults _ before after = after ≡ before
