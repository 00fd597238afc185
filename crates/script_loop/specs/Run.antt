-- Runs over lines: chains of machines and disks, by what a line may come to.
use Rattle.std.specs.Prelude.{◌≡◌, ℕ, ◌+◌, List, [], ◌∷◌, ◌++◌, take}
use Rattle.script_loop.specs.declared.runner.LineOutcome.{LineOutcome}
use Rattle.script_loop.specs.declared.runner.LineOutcome.TheVariants as outcome

-- what is handed over of a line: its first 200,001 bytes, so that a longer one can be told from one of 200,000
abbrev pub handed : List ℕ → List ℕ
handed line = take 200001 line

-- what is given for a line
abbrev pub text_for : LineOutcome → List ℕ → List ℕ
text_for outcome.Silent reply = []
text_for outcome.Done reply = reply
text_for outcome.Refused reply = reply
text_for outcome.Memory reply = reply

-- the line of a number, from 1, comes to this outcome, and this text is given for it
abbrev pub RunsLine : {M D : Type 0} → (M → D → ℕ → List ℕ → LineOutcome → M → D → Type 0) → (M → List ℕ) → ℕ → M → D → List ℕ → LineOutcome → List ℕ → M → D → Type 0
RunsLine says reply_of number m d line outcome text m' d' = says m d number (handed line) outcome m' d' × (text ≡ text_for outcome (reply_of m'))

-- these lines, behind so many others, come to these outcomes one after the other, and this text is given for them
abbrev pub Runs : {M D : Type 0} → (M → D → ℕ → List ℕ → LineOutcome → M → D → Type 0) → (M → List ℕ) → ℕ → M → D → List (List ℕ) → List LineOutcome → List ℕ → M → D → Type 0
Runs says reply_of before m d [] outcomes text m' d' = (outcomes ≡ []) × (text ≡ []) × (m' ≡ m) × (d' ≡ d)
Runs {M} {D} says reply_of before m d (line ∷ lines) outcomes text m' d' =
    (first : LineOutcome) × (others : List LineOutcome) × (reply : List ℕ) × (rest : List ℕ) × (mid : M) × (disk : D)
    × RunsLine says reply_of (before + 1) m d line first reply mid disk
    × Runs says reply_of (before + 1) mid disk lines others rest m' d'
    × (outcomes ≡ first ∷ others) × (text ≡ reply ++ rest)

-- a sum over outcomes
abbrev pub sum_over : (LineOutcome → ℕ) → List LineOutcome → ℕ
sum_over weight [] = 0
sum_over weight (outcome ∷ outcomes) = weight outcome + sum_over weight outcomes

-- whether a line was refused, and whether for want of memory
abbrev pub refusal_in : LineOutcome → ℕ
refusal_in outcome.Silent = 0
refusal_in outcome.Done = 0
refusal_in outcome.Refused = 1
refusal_in outcome.Memory = 1

abbrev pub shortage_in : LineOutcome → ℕ
shortage_in outcome.Silent = 0
shortage_in outcome.Done = 0
shortage_in outcome.Refused = 0
shortage_in outcome.Memory = 1

-- how many lines were refused, and how many for want of memory
abbrev pub refusals : List LineOutcome → ℕ
refusals outcomes = sum_over refusal_in outcomes

abbrev pub shortages : List LineOutcome → ℕ
shortages outcomes = sum_over shortage_in outcomes
