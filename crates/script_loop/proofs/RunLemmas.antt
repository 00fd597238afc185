-- How far a script has come, line by line.
use Rattle.std.proofs.Common.{◌≡◌, ◌≢◌, ℕ, suc, ◌+◌, ◌<◌, ◌-◌, List, [], ◌∷◌, ◌++◌, length, take, drop, Option, Some, refl, sym, ap, ◌∙◌, subst, arith, append_assoc, length-append}
use Rattle.std.specs.List.{flat_map}
use Rattle.std.proofs.lemmas.List.{append-nil, take-append-drop, take_rest}
use Rattle.std.proofs.lemmas.List.Elements.{All-append, All-nil, All-cons}
use Rattle.std.proofs.lemmas.Grind.{flat_map-append}
use Rattle.script_loop.specs.Ends.{IsBroken, RanAll, RanEnded, EndsLine}
use Rattle.script_loop.specs.Line.{Holds}
use Rattle.script_loop.specs.Lines.{Cut, ended, HasNoLf, all_lines}
use Rattle.script_loop.specs.Progress.{Progress, Counted, CountsOne}
use Rattle.script_loop.specs.Run.{Runs, RunsLine, sum_over, refusal_in, shortage_in}
use Rattle.script_loop.specs.Stream.{Gave, IsCut}
use Rattle.script_loop.specs.declared.line.Line.{Line}
use Rattle.script_loop.specs.declared.runner.LineOutcome.{LineOutcome}
use Rattle.script_loop.specs.declared.tally.Tally.{Tally}

-- one text behind another
pub gave_more : (g h i : Option (List ℕ)) (a b : List ℕ) → Gave g h a → Gave h i b → Gave g i (a ++ b)
gave_more g h i a b first second before tells =
    second (before ++ a) (first before tells) ∙ ap (λ (xs : List ℕ). Some xs) (append_assoc before a b)

-- what a sink took of what is left, and the rest
pub rest_splits : (text front rest : List ℕ) (count : ℕ) → text ≡ front ++ rest → text ≡ (front ++ take count rest) ++ take (length rest - count) (drop count rest)
rest_splits text front rest count is =
    is ∙ ap (λ (xs : List ℕ). front ++ xs) (sym (take-append-drop count rest) ∙ ap (λ (xs : List ℕ). take count rest ++ xs) (sym (take_rest rest count)))
    ∙ sym (append_assoc front (take count rest) (take (length rest - count) (drop count rest)))

-- one more outcome
sum_then : (weight : LineOutcome → ℕ) (outcomes : List LineOutcome) (outcome : LineOutcome) → sum_over weight (outcomes ++ outcome ∷ []) ≡ sum_over weight outcomes + weight outcome
sum_then weight [] outcome = omega arith
sum_then weight (first ∷ outcomes) outcome = omega (arith, sum_then weight outcomes outcome)

counted_then : (tally tally' : Tally) (count : ℕ) (outcomes : List LineOutcome) (outcome : LineOutcome) → Counted tally count outcomes → CountsOne tally outcome tally' → Counted tally' (count + 1) (outcomes ++ outcome ∷ [])
counted_then tally tally' count outcomes outcome counted one = record {
  lines = omega (arith, counted.lines, one.lines);
  refused = omega (arith, counted.refused, one.refused, sum_then refusal_in outcomes outcome);
  short = omega (arith, counted.short, one.short, sum_then shortage_in outcomes outcome);
}

-- one more line and what follows it
flat_last : (lines : List (List ℕ)) (line rest : List ℕ) → flat_map ended (lines ++ line ∷ []) ++ rest ≡ flat_map ended lines ++ (line ++ 10 ∷ rest)
flat_last lines line rest =
    ap (λ (xs : List ℕ). xs ++ rest) (flat_map-append ended lines (line ∷ []))
    ∙ append_assoc (flat_map ended lines) (flat_map ended (line ∷ [])) rest
    ∙ ap (λ (xs : List ℕ). flat_map ended lines ++ (xs ++ rest)) (append-nil (line ++ 10 ∷ []))
    ∙ ap (λ (xs : List ℕ). flat_map ended lines ++ xs) (append_assoc line (10 ∷ []) rest)

-- what has come of a line, and what is behind it
open_more : (bytes flat last first rest : List ℕ) → bytes ≡ flat ++ last → bytes ++ (first ++ rest) ≡ flat ++ ((last ++ first) ++ rest)
open_more bytes flat last first rest is =
    ap (λ (xs : List ℕ). xs ++ (first ++ rest)) is ∙ append_assoc flat last (first ++ rest)
    ∙ ap (λ (xs : List ℕ). flat ++ xs) (sym (append_assoc last first rest))

-- one more line of a piece
pub line_of_piece : (piece front rest first next : List ℕ) → piece ≡ front ++ rest → rest ≡ first ++ 10 ∷ next → piece ≡ (front ++ (first ++ 10 ∷ [])) ++ next
line_of_piece piece front rest first next is split =
    is ∙ ap (λ (xs : List ℕ). front ++ xs) (split ∙ sym (append_assoc first (10 ∷ []) next)) ∙ sym (append_assoc front (first ++ 10 ∷ []) next)

-- the rest of a piece
pub rest_of_piece : (bytes piece front rest : List ℕ) → piece ≡ front ++ rest → (bytes ++ front) ++ rest ≡ bytes ++ piece
rest_of_piece bytes piece front rest is = append_assoc bytes front rest ∙ ap (λ (xs : List ℕ). bytes ++ xs) (sym is)

-- a last line that isn't empty counts
all_with : (lines : List (List ℕ)) (last : List ℕ) → 0 < length last → all_lines lines last ≡ lines ++ last ∷ []
all_with lines [] some = absurd (omega arith)
all_with lines (byte ∷ bytes) some = refl

module _ {M D : Type 0} (says : M → D → ℕ → List ℕ → LineOutcome → M → D → Type 0) (reply_of : M → List ℕ) where
  -- one more line behind those that have run
  pub runs_then : (n : ℕ) (m mid m' : M) (d disk d' : D) (lines : List (List ℕ)) (outcomes : List LineOutcome) (text line : List ℕ) (outcome : LineOutcome) (reply : List ℕ)
      → Runs says reply_of n m d lines outcomes text mid disk → RunsLine says reply_of (n + length lines + 1) mid disk line outcome reply m' d'
      → Runs says reply_of n m d (lines ++ line ∷ []) (outcomes ++ outcome ∷ []) (text ++ reply) m' d'
  runs_then n m mid m' d disk d' [] outcomes text line outcome reply ran one =
      let here : n + 0 + 1 ≡ n + 1 = omega arith in
      let at_number = subst (λ k. RunsLine says reply_of k mid disk line outcome reply m' d') here one in
      let at_machine = subst (λ (x : M). RunsLine says reply_of (n + 1) x disk line outcome reply m' d') ran.2 at_number in
      let at_disk = subst (λ (x : D). RunsLine says reply_of (n + 1) m x line outcome reply m' d') ran.3 at_machine in (
        outcome,
        [],
        reply,
        [],
        m',
        d',
        at_disk,
        (refl, refl, refl, refl),
        ap (λ (os : List LineOutcome). os ++ outcome ∷ []) ran.0,
        ap (λ (xs : List ℕ). xs ++ reply) ran.1 ∙ sym (append-nil reply),
      )
  runs_then n m mid m' d disk d' (first ∷ lines) outcomes text line outcome reply ran one =
      let further : n + suc (length lines) + 1 ≡ n + 1 + length lines + 1 = omega arith in (
        ran.0,
        ran.1 ++ outcome ∷ [],
        ran.2,
        ran.3 ++ reply,
        ran.4,
        ran.5,
        ran.6,
        runs_then (n + 1) ran.4 mid m' ran.5 disk d' lines ran.1 ran.3 line outcome reply ran.7 (subst (λ k. RunsLine says reply_of k mid disk line outcome reply m' d') further one),
        ap (λ (os : List LineOutcome). os ++ outcome ∷ []) ran.8,
        ap (λ (xs : List ℕ). xs ++ reply) ran.9 ∙ append_assoc ran.2 ran.3 reply,
      )

  -- nothing has run yet
  pub starts : (m : M) (d : D) (given : Option (List ℕ)) (kept : Line) (tally : Tally) → Holds kept [] → Counted tally 0 [] → Progress says reply_of m d [] given given kept tally m d
  starts m d given kept tally holds counted = record {
    lines = [];
    last = [];
    outcomes = [];
    text = [];
    cut = record { whole = refl; each = All-nil HasNoLf; rest = All-nil (λ byte. byte ≢ 10) };
    holds = holds;
    runs = (refl, refl, refl, refl);
    counted = counted;
    gave = λ before tells. tells ∙ ap (λ (xs : List ℕ). Some xs) (sym (append-nil before));
  }

  module _ (m mid : M) (d disk : D) (bytes : List ℕ) (given given' : Option (List ℕ)) (kept : Line) (tally : Tally) (came : Progress says reply_of m d bytes given given' kept tally mid disk) where
    -- more of the next line has come
    pub goes_on : (rest : List ℕ) (kept' : Line) → HasNoLf rest → Holds kept' (came.last ++ rest) → Progress says reply_of m d (bytes ++ rest) given given' kept' tally mid disk
    goes_on rest kept' no_lf holds = record {
      lines = came.lines;
      last = came.last ++ rest;
      outcomes = came.outcomes;
      text = came.text;
      cut = record {
        whole = ap (λ (xs : List ℕ). xs ++ rest) came.cut.whole ∙ append_assoc (flat_map ended came.lines) came.last rest;
        each = came.cut.each;
        rest = All-append (λ byte. byte ≢ 10) came.last rest came.cut.rest no_lf;
      };
      holds = holds;
      runs = came.runs;
      counted = came.counted;
      gave = came.gave;
    }

    module _ (first reply : List ℕ) (outcome : LineOutcome) (m' : M) (d' : D) (given'' : Option (List ℕ)) (tally' : Tally) (no_lf : HasNoLf first)
        (ran : RunsLine says reply_of (tally.lines + 1) mid disk (came.last ++ first) outcome reply m' d') (one : CountsOne tally outcome tally') where
      ran_next : RunsLine says reply_of (0 + length came.lines + 1) mid disk (came.last ++ first) outcome reply m' d'
      ran_next =
          let is : tally.lines + 1 ≡ 0 + length came.lines + 1 = omega (arith, came.counted.lines) in
          subst (λ k. RunsLine says reply_of k mid disk (came.last ++ first) outcome reply m' d') is ran

      whole_line : HasNoLf (came.last ++ first)
      whole_line = All-append (λ byte. byte ≢ 10) came.last first came.cut.rest no_lf

      -- an LF has ended a line, which has run
      pub line_ends : (kept' : Line) → Gave given' given'' reply → Holds kept' [] → Progress says reply_of m d (bytes ++ (first ++ 10 ∷ [])) given given'' kept' tally' m' d'
      line_ends kept' gave holds = record {
        lines = came.lines ++ (came.last ++ first) ∷ [];
        last = [];
        outcomes = came.outcomes ++ outcome ∷ [];
        text = came.text ++ reply;
        cut = record {
          whole = open_more bytes (flat_map ended came.lines) came.last first (10 ∷ []) came.cut.whole ∙ sym (flat_last came.lines (came.last ++ first) []);
          each = All-append HasNoLf came.lines ((came.last ++ first) ∷ []) came.cut.each (All-cons HasNoLf (came.last ++ first) [] whole_line (All-nil HasNoLf));
          rest = All-nil (λ byte. byte ≢ 10);
        };
        holds = holds;
        runs = runs_then 0 m mid m' d disk d' came.lines came.outcomes came.text (came.last ++ first) outcome reply came.runs ran_next;
        counted = (let count : length (came.lines ++ (came.last ++ first) ∷ []) ≡ length came.lines + 1 = omega (arith, length-append came.lines ((came.last ++ first) ∷ [])) in
            subst (λ k. Counted tally' k (came.outcomes ++ outcome ∷ [])) (sym count) (counted_then tally tally' (length came.lines) came.outcomes outcome came.counted one));
        gave = gave_more given given' given'' came.text reply came.gave gave;
      }

      -- the sink has failed in the reply to a line
      pub breaks : (rest : List ℕ) → EndsLine rest → IsCut given' given'' reply → IsBroken says reply_of m d rest (bytes ++ (first ++ rest)) given given'' tally'.refused m' d'
      breaks rest ends cut = record {
        lines = came.lines;
        last = came.last ++ first;
        outcomes = came.outcomes;
        outcome = outcome;
        text = came.text;
        reply = reply;
        sent = given';
        mid = mid;
        disk = disk;
        whole = open_more bytes (flat_map ended came.lines) came.last first rest came.cut.whole;
        ends = ends;
        each = came.cut.each;
        no_lf = whole_line;
        runs = came.runs;
        gave = came.gave;
        runs_last = (let is : tally.lines + 1 ≡ length came.lines + 1 = omega (arith, came.counted.lines) in
            subst (λ k. RunsLine says reply_of k mid disk (came.last ++ first) outcome reply m' d') is ran);
        cut = cut;
        tells = (counted_then tally tally' (length came.lines) came.outcomes outcome came.counted one).refused;
      }

    -- the lines that an LF ended have run
    pub ends_cut : RanEnded says reply_of m d bytes given given' tally.refused mid disk
    ends_cut = record {
      lines = came.lines;
      last = came.last;
      outcomes = came.outcomes;
      text = came.text;
      cut = came.cut;
      runs = came.runs;
      gave = came.gave;
      tells = came.counted.refused;
    }

    -- there is no line more
    pub ends_here : came.last ≡ [] → RanAll says reply_of m d bytes given given' tally.refused tally.short mid disk
    ends_here none = record {
      lines = came.lines;
      last = [];
      outcomes = came.outcomes;
      text = came.text;
      cut = subst (λ (xs : List ℕ). Cut bytes came.lines xs) none came.cut;
      runs = came.runs;
      gave = came.gave;
      tells = came.counted.refused;
      tells_short = came.counted.short;
    }

    -- the last line lacks its LF
    pub last_ends : (reply : List ℕ) (outcome : LineOutcome) (m' : M) (d' : D) (given'' : Option (List ℕ)) (tally' : Tally) → 0 < length came.last
        → RunsLine says reply_of (tally.lines + 1) mid disk came.last outcome reply m' d' → CountsOne tally outcome tally' → Gave given' given'' reply
        → RanAll says reply_of m d bytes given given'' tally'.refused tally'.short m' d'
    last_ends reply outcome m' d' given'' tally' some ran one gave =
        let is : tally.lines + 1 ≡ 0 + length came.lines + 1 = omega (arith, came.counted.lines) in
        let next = subst (λ k. RunsLine says reply_of k mid disk came.last outcome reply m' d') is ran in
        let counted = counted_then tally tally' (length came.lines) came.outcomes outcome came.counted one in
        record {
          lines = came.lines;
          last = came.last;
          outcomes = came.outcomes ++ outcome ∷ [];
          text = came.text ++ reply;
          cut = came.cut;
          runs = subst (λ (lines : List (List ℕ)). Runs says reply_of 0 m d lines (came.outcomes ++ outcome ∷ []) (came.text ++ reply) m' d') (sym (all_with came.lines came.last some))
              (runs_then 0 m mid m' d disk d' came.lines came.outcomes came.text came.last outcome reply came.runs next);
          gave = gave_more given given' given'' came.text reply came.gave gave;
          tells = counted.refused;
          tells_short = counted.short;
        }
