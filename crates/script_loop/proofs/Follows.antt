-- What is so of each line is so of a whole script: where another machine follows each line, it follows the script.
use Rattle.std.proofs.Common.{◌≡◌, ℕ, ◌+◌, nat_eq, Bool, true, false, if◌then◌else◌, List, [], ◌∷◌, length, Option, refl, sym, ap, ◌∙◌, subst, arith}
use Rattle.script_loop.specs.Ends.{status_of, Ends, EndsAt, IsBroken, RanAll, RanEnded}
use Rattle.script_loop.specs.Lines.{all_lines}
use Rattle.script_loop.specs.Run.{Runs, RunsLine, text_for, shortage_in, shortages}
use Rattle.script_loop.specs.declared.runner.LineOutcome.{LineOutcome}
use Rattle.script_loop.specs.declared.runner.LineOutcome.TheVariants as outcome
use Rattle.script_loop.specs.declared.status.Status.{Status}
use Rattle.script_loop.specs.declared.status.Status.TheVariants.{Done, Refused, Words, ReadFault, WriteFault, TooLong, Memory}

is_not : (b : Bool) → Memory ≡ (if b then Done else Refused) → ⊥
is_not true e = cc
is_not false e = cc

is_not_short : (refused : ℕ) → Memory ≡ status_of refused 0 → ⊥
is_not_short refused e = is_not (nat_eq refused 0) e

module _ {M D N E : Type 0} (says : M → D → ℕ → List ℕ → LineOutcome → M → D → Type 0) (reply_of : M → List ℕ)
    (says' : N → E → ℕ → List ℕ → LineOutcome → N → E → Type 0) (reply_of' : N → List ℕ) (Stands : M → D → N → E → Type 0)
    (step : (m : M) (d : D) (n : N) (e : E) (number : ℕ) (text : List ℕ) (outcome : LineOutcome) (m' : M) (d' : D) → Stands m d n e → says m d number text outcome m' d'
    → (n' : N) × (e' : E) × says' n e number text outcome n' e' × Stands m' d' n' e')
    (same : (m : M) (d : D) (n : N) (e : E) → Stands m d n e → reply_of m ≡ reply_of' n) where
  line_follows : (number : ℕ) (m m' : M) (d d' : D) (n : N) (e : E) (line : List ℕ) (outcome : LineOutcome) (text : List ℕ) → Stands m d n e → RunsLine says reply_of number m d line outcome text m' d'
      → (n' : N) × (e' : E) × RunsLine says' reply_of' number n e line outcome text n' e' × Stands m' d' n' e'
  line_follows number m m' d d' n e line outcome text stands ran =
      let next = step m d n e number _ outcome m' d' stands ran.0 in
      (next.0, next.1, (next.2, ran.1 ∙ ap (text_for outcome) (same m' d' next.0 next.1 next.3)), next.3)

  runs_follow : (before : ℕ) (m m' : M) (d d' : D) (n : N) (e : E) (lines : List (List ℕ)) (outcomes : List LineOutcome) (text : List ℕ) → Stands m d n e → Runs says reply_of before m d lines outcomes text m' d'
      → (n' : N) × (e' : E) × Runs says' reply_of' before n e lines outcomes text n' e' × Stands m' d' n' e'
  runs_follow before m m' d d' n e [] outcomes text stands ran =
      (n, e, (ran.0, ran.1, refl, refl), subst (λ (x : D). Stands m' x n e) (sym ran.3) (subst (λ (x : M). Stands x d n e) (sym ran.2) stands))
  runs_follow before m m' d d' n e (line ∷ lines) outcomes text stands ran =
      let one = line_follows (before + 1) m ran.4 d ran.5 n e line ran.0 ran.2 stands ran.6 in
      let more = runs_follow (before + 1) ran.4 m' ran.5 d' one.0 one.1 lines ran.1 ran.3 one.3 ran.7 in
      (more.0, more.1, (ran.0, ran.1, ran.2, ran.3, one.0, one.1, one.2, more.2, ran.8, ran.9), more.3)

  module _ (m m' : M) (d d' : D) (n : N) (e : E) (stands : Stands m d n e) where
    all_follow : (bytes : List ℕ) (given given' : Option (List ℕ)) (refused short : ℕ) → RanAll says reply_of m d bytes given given' refused short m' d'
        → (n' : N) × (e' : E) × RanAll says' reply_of' n e bytes given given' refused short n' e' × Stands m' d' n' e'
    all_follow bytes given given' refused short ran =
        let next = runs_follow 0 m m' d d' n e (all_lines ran.lines ran.last) ran.outcomes ran.text stands ran.runs in (
          next.0,
          next.1,
          record { lines = ran.lines; last = ran.last; outcomes = ran.outcomes; text = ran.text; cut = ran.cut; runs = next.2; gave = ran.gave; tells = ran.tells; tells_short = ran.tells_short },
          next.3,
        )

    ended_follow : (bytes : List ℕ) (given given' : Option (List ℕ)) (refused : ℕ) → RanEnded says reply_of m d bytes given given' refused m' d'
        → (n' : N) × (e' : E) × RanEnded says' reply_of' n e bytes given given' refused n' e' × Stands m' d' n' e'
    ended_follow bytes given given' refused ran =
        let next = runs_follow 0 m m' d d' n e ran.lines ran.outcomes ran.text stands ran.runs in (
          next.0,
          next.1,
          record { lines = ran.lines; last = ran.last; outcomes = ran.outcomes; text = ran.text; cut = ran.cut; runs = next.2; gave = ran.gave; tells = ran.tells },
          next.3,
        )

    broken_follow : (rest bytes : List ℕ) (given given' : Option (List ℕ)) (refused : ℕ) → IsBroken says reply_of m d rest bytes given given' refused m' d'
        → (n' : N) × (e' : E) × IsBroken says' reply_of' n e rest bytes given given' refused n' e' × Stands m' d' n' e'
    broken_follow rest bytes given given' refused ran =
        let mid = runs_follow 0 m ran.mid d ran.disk n e ran.lines ran.outcomes ran.text stands ran.runs in
        let next = line_follows (length ran.lines + 1) ran.mid m' ran.disk d' mid.0 mid.1 ran.last ran.outcome ran.reply mid.3 ran.runs_last in (
          next.0,
          next.1,
          record {
            lines = ran.lines;
            last = ran.last;
            outcomes = ran.outcomes;
            outcome = ran.outcome;
            text = ran.text;
            reply = ran.reply;
            sent = ran.sent;
            mid = mid.0;
            disk = mid.1;
            whole = ran.whole;
            ends = ran.ends;
            each = ran.each;
            no_lf = ran.no_lf;
            runs = mid.2;
            gave = ran.gave;
            runs_last = next.2;
            cut = ran.cut;
            tells = ran.tells;
          },
          next.3,
        )

    module _ (refused : ℕ) (left left' given given' : Option (List ℕ)) where
      at_end : (status : Status) → EndsAt says reply_of status refused m d left left' given given' m' d'
          → (n' : N) × (e' : E) × EndsAt says' reply_of' status refused n e left left' given given' n' e' × Stands m' d' n' e'
      at_end status ends =
          let next = all_follow ends.taken given given' refused ends.short ends.ran in
          (next.0, next.1, record { taken = ends.taken; short = ends.short; took = ends.took; spent = ends.spent; bound = ends.bound; ran = next.2; status = ends.status }, next.3)

      -- a script follows
      pub ends_follow : (status : Status) → Ends says reply_of status refused m d left left' given given' m' d'
          → (n' : N) × (e' : E) × Ends says' reply_of' status refused n e left left' given given' n' e' × Stands m' d' n' e'
      ends_follow Done ends = at_end Done ends
      ends_follow Refused ends = at_end Refused ends
      ends_follow Memory ends = at_end Memory ends
      ends_follow ReadFault ends =
          let next = ended_follow ends.taken given given' refused ends.ran in
          (next.0, next.1, record { taken = ends.taken; took = ends.took; bound = ends.bound; ran = next.2 }, next.3)
      ends_follow TooLong ends =
          let next = ended_follow ends.taken given given' refused ends.ran in
          (next.0, next.1, record { taken = ends.taken; byte = ends.byte; took = ends.took; bound = ends.bound; ran = next.2 }, next.3)
      ends_follow WriteFault ends =
          let next = broken_follow ends.rest ends.taken given given' refused ends.ran in
          (next.0, next.1, record { taken = ends.taken; more = ends.more; rest = ends.rest; last = ends.last; took = ends.took; bound = ends.bound; few = ends.few; ran = next.2 }, next.3)
      ends_follow Words ends = absurd ends

module _ {M D : Type 0} (says : M → D → ℕ → List ℕ → LineOutcome → M → D → Type 0) (reply_of : M → List ℕ)
    (never : (m : M) (d : D) (number : ℕ) (text : List ℕ) (m' : M) (d' : D) → says m d number text outcome.Memory m' d' → ⊥) where
  one_not_short : (m : M) (d : D) (number : ℕ) (text : List ℕ) (outcome : LineOutcome) (m' : M) (d' : D) → says m d number text outcome m' d' → shortage_in outcome ≡ 0
  one_not_short m d number text outcome.Silent m' d' said = refl
  one_not_short m d number text outcome.Done m' d' said = refl
  one_not_short m d number text outcome.Refused m' d' said = refl
  one_not_short m d number text outcome.Memory m' d' said = absurd (never m d number text m' d' said)

  none_short : (before : ℕ) (m m' : M) (d d' : D) (lines : List (List ℕ)) (outcomes : List LineOutcome) (text : List ℕ) → Runs says reply_of before m d lines outcomes text m' d' → shortages outcomes ≡ 0
  none_short before m m' d d' [] outcomes text ran = ap shortages ran.0
  none_short before m m' d d' (line ∷ lines) outcomes text ran =
      let first = one_not_short m d (before + 1) _ ran.0 ran.4 ran.5 ran.6.0 in
      let more = none_short (before + 1) ran.4 m' ran.5 d' lines ran.1 ran.3 ran.7 in
      ap shortages ran.8 ∙ omega (arith, first, more)

  -- where no line is refused for want of memory, no script ends so
  pub never_ends_short : (refused : ℕ) (m m' : M) (d d' : D) (left left' given given' : Option (List ℕ)) → Ends says reply_of Memory refused m d left left' given given' m' d' → ⊥
  never_ends_short refused m m' d d' left left' given given' ends =
      let ran = ends.ran in
      let none = none_short 0 m m' d d' (all_lines ran.lines ran.last) ran.outcomes ran.text ran.runs in
      is_not_short refused (ends.status ∙ ap (status_of refused) (ran.tells_short ∙ none))
