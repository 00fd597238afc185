-- Pieces of the input put together, and how a script ends.
use Rattle.std.proofs.Common.{◌≡◌, ℕ, suc, ◌+◌, ◌≤◌, nat_eq, Bool, true, false, if◌then◌else◌, List, [], ◌∷◌, ◌++◌, length, take, drop, length-take, length-drop, Option, refl, sym, ap, ◌∙◌, subst, arith, append_assoc}
use Rattle.std.proofs.lemmas.List.{append-nil, take-append-drop, take-append-le}
use Rattle.script_loop.specs.Ends.{Ends, EndsAt, Finishes, RanAll, status_of, most_input}
use Rattle.script_loop.specs.Stream.{Took, IsSpent}
use Rattle.script_loop.specs.declared.runner.LineOutcome.{LineOutcome}
use Rattle.script_loop.specs.declared.status.Status.{Status}
use Rattle.script_loop.specs.declared.status.Status.TheVariants.{Done, Refused, Words, ReadFault, WriteFault, TooLong, Memory}

-- bytes taken behind others
pub took_more : (l0 l l' : Option (List ℕ)) (a b : List ℕ) → Took l0 l a → Took l l' b → Took l0 l' (a ++ b)
took_more l0 l l' a b first second before tells =
    let one = first before tells in
    let two = second one.0 one.1 in
    (two.0, two.1, one.2 ∙ ap (λ (xs : List ℕ). a ++ xs) two.2 ∙ sym (append_assoc a b two.0))

pub took_as : (l0 l : Option (List ℕ)) (a b : List ℕ) → a ≡ b → Took l0 l a → Took l0 l b
took_as l0 l a b is took = subst (λ (xs : List ℕ). Took l0 l xs) is took

pub spent_since : (l0 l l' : Option (List ℕ)) (a : List ℕ) → Took l0 l a → IsSpent l l' → IsSpent l0 l'
spent_since l0 l l' a took spent before tells = let one = took before tells in spent one.0 one.1

-- nothing has no bytes
none_of : (xs : List ℕ) → length xs ≡ 0 → xs ≡ []
none_of [] e = refl
none_of (x ∷ xs) e = absurd (let bad : suc (length xs) ≡ 0 = e in omega arith)

-- one byte
pub one_of : (xs : List ℕ) → length xs ≡ 1 → (byte : ℕ) × (xs ≡ byte ∷ [])
one_of [] e = absurd (let bad : 0 ≡ 1 = e in omega arith)
one_of (x ∷ xs) e = (x, ap (λ (ys : List ℕ). x ∷ ys) (none_of xs (let is : suc (length xs) ≡ 1 = e in omega arith)))

-- there is no byte past the bound
pub took_whole : (l0 l : Option (List ℕ)) (bytes extra : List ℕ) → length extra ≡ 0 → Took l0 l (bytes ++ extra) → Took l0 l bytes
took_whole l0 l bytes extra none took = took_as l0 l (bytes ++ extra) bytes (ap (λ (xs : List ℕ). bytes ++ xs) (none_of extra none) ∙ append-nil bytes) took

-- nothing more was taken
pub took_still : (l0 l l' : Option (List ℕ)) (bytes extra : List ℕ) → length extra ≡ 0 → Took l0 l (bytes ++ extra) → Took l l' [] → Took l0 l' bytes
took_still l0 l l' bytes extra none took still =
    took_as l0 l' (bytes ++ []) bytes (append-nil bytes) (took_more l0 l l' bytes [] (took_whole l0 l bytes extra none took) still)

-- a piece is what is run of it and the rest
piece_splits : (piece : List ℕ) (count kept : ℕ) → kept ≤ count → count ≤ length piece → take count piece ≡ take kept piece ++ drop kept (take count piece)
piece_splits piece count kept some fits =
    let front : take kept piece ≡ take kept (take count piece) =
    ap (take kept) (sym (take-append-drop count piece)) ∙ take-append-le kept (take count piece) (drop count piece) (omega (arith, length-take count piece)) in
    sym (ap (λ (xs : List ℕ). xs ++ drop kept (take count piece)) front ∙ take-append-drop kept (take count piece))

-- one more piece was taken, and this is run of it
pub took_piece : (l0 l l' : Option (List ℕ)) (bytes extra piece front : List ℕ) (count kept : ℕ) → length extra ≡ 0 → Took l0 l (bytes ++ extra) → Took l l' (take count piece)
    → kept ≤ count → count ≤ length piece → front ≡ take kept piece → Took l0 l' ((bytes ++ front) ++ drop kept (take count piece))
took_piece l0 l l' bytes extra piece front count kept none took more some fits is =
    took_as l0 l' (bytes ++ take count piece) ((bytes ++ front) ++ drop kept (take count piece))
    (ap (λ (xs : List ℕ). bytes ++ xs) (piece_splits piece count kept some fits ∙ ap (λ (xs : List ℕ). xs ++ drop kept (take count piece)) (sym is))
    ∙ sym (append_assoc bytes front (drop kept (take count piece))))
    (took_more l0 l l' bytes (take count piece) (took_whole l0 l bytes extra none took) more)

-- how long what was taken past a piece is
pub extra_size : (piece : List ℕ) (count kept : ℕ) → kept ≤ count → count ≤ length piece → kept + length (drop kept (take count piece)) ≡ count
extra_size piece count kept some fits = omega (arith, length-drop kept (take count piece), length-take count piece)

-- the end of the input is no fault of the sink
no_fault : (a b : Bool) → WriteFault ≡ (if a then (if b then Done else Refused) else Memory) → ⊥
no_fault true true e = cc
no_fault true false e = cc
no_fault false true e = cc
no_fault false false e = cc

module _ {M D : Type 0} (says : M → D → ℕ → List ℕ → LineOutcome → M → D → Type 0) (reply_of : M → List ℕ) (m m' : M) (d d' : D) where
  -- what was told is the status and the number of refusals
  pub ends_told : (status told : Status) (refused many : ℕ) (left left' given given' : Option (List ℕ)) → told ≡ status → many ≡ refused
      → Ends says reply_of status refused m d left left' given given' m' d' → Ends says reply_of told many m d left left' given given' m' d'
  ends_told status told refused many left left' given given' is same ends =
      subst (λ (s : Status). Ends says reply_of s many m d left left' given given' m' d') (sym is)
      (subst (λ (k : ℕ). Ends says reply_of status k m d left left' given given' m' d') (sym same) ends)

  -- all lines have run
  finishes : (status : Status) (refused short : ℕ) (bytes : List ℕ) (given given' : Option (List ℕ)) → RanAll says reply_of m d bytes given given' refused short m' d' → status ≡ status_of refused short
      → Finishes says reply_of status refused m d bytes given given' m' d'
  finishes WriteFault refused short bytes given given' ran is = absurd (no_fault (nat_eq short 0) (nat_eq refused 0) is)
  finishes Done refused short bytes given given' ran is = (short, ran, is)
  finishes Refused refused short bytes given given' ran is = (short, ran, is)
  finishes Memory refused short bytes given given' ran is = (short, ran, is)
  finishes ReadFault refused short bytes given given' ran is = (short, ran, is)
  finishes TooLong refused short bytes given given' ran is = (short, ran, is)
  finishes Words refused short bytes given given' ran is = (short, ran, is)

  pub finishes_told : (status : Status) (refused many short : ℕ) (bytes : List ℕ) (given given' : Option (List ℕ)) → status ≡ status_of refused short → many ≡ refused
      → RanAll says reply_of m d bytes given given' refused short m' d' → Finishes says reply_of status many m d bytes given given' m' d'
  finishes_told status refused many short bytes given given' is same ran =
      subst (λ (k : ℕ). Finishes says reply_of status k m d bytes given given' m' d') (sym same) (finishes status refused short bytes given given' ran is)

  module _ (bytes : List ℕ) (left left' given given' : Option (List ℕ)) (took : Took left left' bytes) (bound : length bytes ≤ most_input) (spent : IsSpent left left') (refused : ℕ) where
    -- the input has ended
    at_end : (status : Status) (short : ℕ) → RanAll says reply_of m d bytes given given' refused short m' d' → status ≡ status_of refused short → EndsAt says reply_of status refused m d left left' given given' m' d'
    at_end status short ran is = record { taken = bytes; short = short; took = took; spent = spent; bound = bound; ran = ran; status = is }

    pub finish_ends : (status : Status) → (status ≡ ReadFault → ⊥) → (status ≡ TooLong → ⊥) → (status ≡ Words → ⊥)
        → Finishes says reply_of status refused m d bytes given given' m' d' → Ends says reply_of status refused m d left left' given given' m' d'
    finish_ends Done a b c fin = at_end Done fin.0 fin.1 fin.2
    finish_ends Refused a b c fin = at_end Refused fin.0 fin.1 fin.2
    finish_ends Memory a b c fin = at_end Memory fin.0 fin.1 fin.2
    finish_ends WriteFault a b c fin = record {
      taken = bytes;
      more = [];
      rest = [];
      took = took_as left left' bytes (bytes ++ []) (sym (append-nil bytes)) took;
      bound = bound;
      few = omega (arith, bound);
      ran = fin;
      last = λ e. (refl, spent);
    }
    finish_ends ReadFault a b c fin = absurd (a refl)
    finish_ends TooLong a b c fin = absurd (b refl)
    finish_ends Words a b c fin = absurd (c refl)
