-- How far a script has come.
use Rattle.std.specs.Prelude.{◌≡◌, ℕ, ◌+◌, List, length, Option}
use Rattle.script_loop.specs.Line.{Holds}
use Rattle.script_loop.specs.Lines.{Cut}
use Rattle.script_loop.specs.Run.{Runs, refusals, shortages, refusal_in, shortage_in}
use Rattle.script_loop.specs.Stream.{Gave}
use Rattle.script_loop.specs.declared.line.Line.{Line}
use Rattle.script_loop.specs.declared.runner.LineOutcome.{LineOutcome}
use Rattle.script_loop.specs.declared.tally.Tally.{Tally}

-- so many lines were counted, with these outcomes
pub record Counted (tally : Tally) (count : ℕ) (outcomes : List LineOutcome) : Type 0 where
  pub lines : tally.lines ≡ count
  pub refused : tally.refused ≡ refusals outcomes
  pub short : tally.short ≡ shortages outcomes

-- one more line was counted
pub record CountsOne (tally : Tally) (outcome : LineOutcome) (tally' : Tally) : Type 0 where
  pub lines : tally'.lines ≡ tally.lines + 1
  pub refused : tally'.refused ≡ tally.refused + refusal_in outcome
  pub short : tally'.short ≡ tally.short + shortage_in outcome

-- Of these bytes the lines that an LF ended have run, and their text was given. What has come of the next line is kept.
pub record Progress {M D : Type 0} (says : M → D → ℕ → List ℕ → LineOutcome → M → D → Type 0) (reply_of : M → List ℕ) (m : M) (d : D) (bytes : List ℕ) (given given' : Option (List ℕ)) (kept : Line) (tally : Tally) (m' : M) (d' : D) : Type 0 where
  pub lines : List (List ℕ)
  pub last : List ℕ
  pub outcomes : List LineOutcome
  pub text : List ℕ
  pub cut : Cut bytes lines last
  pub holds : Holds kept last
  pub runs : Runs says reply_of 0 m d lines outcomes text m' d'
  pub counted : Counted tally (length lines) outcomes
  pub gave : Gave given given' text
