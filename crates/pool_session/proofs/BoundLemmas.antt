-- What is taken of the input is bounded.
use Rattle.std.proofs.Common.{◌≡◌, ℕ, ◌+◌, ◌≤◌, List, [], ◌∷◌, ◌++◌, length, length-append, Option, Some, refl, ◌∙◌, arith}
use Rattle.script_loop.specs.Ends.{Ends, most_input}
use Rattle.script_loop.specs.Stream.{Took}
use Rattle.script_loop.specs.declared.runner.LineOutcome.{LineOutcome}
use Rattle.script_loop.specs.declared.status.Status.{Status}
use Rattle.script_loop.specs.declared.status.Status.TheVariants as status
use Rattle.pool_session.specs.Program.{TakesAtMost}

-- nothing was taken
pub none_taken : (left left' : Option (List ℕ)) (input : List ℕ) → left' ≡ left → left ≡ Some input → TakesAtMost input left'
none_taken left left' input same tells = ([], input, same ∙ tells, refl, omega arith)

some_taken : (left left' : Option (List ℕ)) (bytes input : List ℕ) → Took left left' bytes → length bytes ≤ most_input + 1 → left ≡ Some input → TakesAtMost input left'
some_taken left left' bytes input took few tells =
    let after = took input tells in
    (bytes, after.0, after.1, after.2, few)

two_bounded : (xs ys : List ℕ) (n : ℕ) → length xs + length ys ≤ n → length (xs ++ ys) ≤ n
two_bounded xs ys n few = rw (length-append xs ys) few

-- by the way in which a script ends
pub ends_bounded : {M D : Type 0} (says : M → D → ℕ → List ℕ → LineOutcome → M → D → Type 0) (reply_of : M → List ℕ) (status : Status) (refused : ℕ) (m : M) (d : D) (left left' given given' : Option (List ℕ)) (m' : M) (d' : D)
    → Ends says reply_of status refused m d left left' given given' m' d' → (input : List ℕ) → left ≡ Some input → TakesAtMost input left'
ends_bounded says reply_of status.Done refused m d left left' given given' m' d' ends input tells =
    some_taken left left' ends.taken input ends.took (omega (arith, ends.bound)) tells
ends_bounded says reply_of status.Refused refused m d left left' given given' m' d' ends input tells =
    some_taken left left' ends.taken input ends.took (omega (arith, ends.bound)) tells
ends_bounded says reply_of status.Memory refused m d left left' given given' m' d' ends input tells =
    some_taken left left' ends.taken input ends.took (omega (arith, ends.bound)) tells
ends_bounded says reply_of status.ReadFault refused m d left left' given given' m' d' ends input tells =
    some_taken left left' ends.taken input ends.took (omega (arith, ends.bound)) tells
ends_bounded says reply_of status.TooLong refused m d left left' given given' m' d' ends input tells =
    some_taken left left' (ends.taken ++ ends.byte ∷ []) input ends.took (two_bounded ends.taken (ends.byte ∷ []) (most_input + 1) (omega (arith, ends.bound))) tells
ends_bounded says reply_of status.WriteFault refused m d left left' given given' m' d' ends input tells =
    some_taken left left' (ends.taken ++ ends.more) input ends.took (two_bounded ends.taken ends.more (most_input + 1) ends.few) tells
ends_bounded says reply_of status.Words refused m d left left' given given' m' d' ends input tells = absurd ends
