-- The walk that looks for a backing format.
use Rattle.std.proofs.Common.{◌≡◌, ℕ, Bool, true, false, cond, eqb, List, ◌∷◌, Option, Some, None, Result, Ok, Err, refl, sym, ap, ◌∙◌}
use Rattle.std.specs.Prelude.{unwrap_or}
use Rattle.sd_names.specs.declared.fault.LayerFault.{LayerFault}
use Rattle.sd_names.specs.declared.kinds.Format.{Format}
use Rattle.qcow_format.specs.Numbers.{backing_format}
use Rattle.qcow_format.specs.Extension.{Placed, placed_at, end_of, data_of, is_extension, extensions_at, end_after}
use Rattle.qcow_format.specs.Format.{◌>>=◌, format_at, last_format, found_after, walked}
use Rattle.qcow_format.proofs.Walk.{extensions_at-none, extensions_at-some}

abbrev pub Found : Type 0
Found = Option (ℕ × Format)

-- what was found later, or else earlier
abbrev pub later_or : Found → Found → Found
later_or None earlier = earlier
later_or (Some f) earlier = Some f

abbrev pub with_earlier : Found → Result Found LayerFault → Result Found LayerFault
with_earlier earlier r = r >>= λ later. Ok (later_or later earlier)

pub with_earlier-none : (r : Result Found LayerFault) → with_earlier None r ≡ r
with_earlier-none (Ok None) = refl
with_earlier-none (Ok (Some f)) = refl
with_earlier-none (Err e) = refl

-- a format that is found and those that follow
met : (found : Found) (f : ℕ × Format) (rest : Result Found LayerFault)
    → with_earlier (Some f) rest ≡ with_earlier found (rest >>= λ later. Ok (Some (unwrap_or later f)))
met found f (Ok None) = refl
met found f (Ok (Some g)) = refl
met found f (Err e) = refl

-- one extension, and what is found after it
pub one_more : (head : List ℕ) (e : Placed) (es : List Placed) (found next : Found) → found_after found e.kind e.at (data_of head e) ≡ Ok next
    → with_earlier next (last_format head es) ≡ with_earlier found (last_format head (e ∷ es))
unfolding last_format found_after
one_more head e es found next h = go (eqb e.kind backing_format) (format_at e.at (data_of head e)) h
  where
    go : (b : Bool) (r : Result (ℕ × Format) LayerFault)
        → cond b (r >>= λ f. Ok (Some f)) (Ok found) ≡ Ok next
        → with_earlier next (last_format head es) ≡ with_earlier found (cond b (r >>= λ f. last_format head es >>= λ later. Ok (Some (unwrap_or later f))) (last_format head es))
    go true (Ok f) h = let is : next ≡ Some f = cc in rw is (met found f (last_format head es))
    go true (Err x) h = absurd cc
    go false r h = let is : next ≡ found = cc in rw is refl

pub fails : (head : List ℕ) (e : Placed) (es : List Placed) (found : Found) (x : LayerFault) → found_after found e.kind e.at (data_of head e) ≡ Err x
    → with_earlier found (last_format head (e ∷ es)) ≡ Err x
unfolding last_format found_after
fails head e es found x h = go (eqb e.kind backing_format) (format_at e.at (data_of head e)) h
  where
    go : (b : Bool) (r : Result (ℕ × Format) LayerFault)
        → cond b (r >>= λ f. Ok (Some f)) (Ok found) ≡ Err x
        → with_earlier found (cond b (r >>= λ f. last_format head es >>= λ later. Ok (Some (unwrap_or later f))) (last_format head es)) ≡ Err x
    go true (Ok f) h = absurd cc
    go true (Err y) h = let is : y ≡ x = cc in rw is refl
    go false r h = absurd cc

-- the walk stands at an extension
pub ends_more : (head : List ℕ) (at start : ℕ) → is_extension head at ≡ true
    → end_after at (extensions_at head at) ≡ end_after start (extensions_at head start)
    → end_after (end_of (placed_at head at)) (extensions_at head (end_of (placed_at head at))) ≡ end_after start (extensions_at head start)
ends_more head at start is so_far = sym (ap (end_after at) (extensions_at-some head at is)) ∙ so_far

pub finds_more : (head : List ℕ) (at start : ℕ) (found next : Found) → is_extension head at ≡ true
    → found_after found (placed_at head at).kind at (data_of head (placed_at head at)) ≡ Ok next
    → with_earlier found (last_format head (extensions_at head at)) ≡ last_format head (extensions_at head start)
    → with_earlier next (last_format head (extensions_at head (end_of (placed_at head at)))) ≡ last_format head (extensions_at head start)
finds_more head at start found next is h so_far =
    one_more head (placed_at head at) (extensions_at head (end_of (placed_at head at))) found next h
    ∙ sym (ap (λ (es : List Placed). with_earlier found (last_format head es)) (extensions_at-some head at is)) ∙ so_far

pub walk_fails : (head : List ℕ) (at start : ℕ) (found : Found) (x : LayerFault) → is_extension head at ≡ true
    → found_after found (placed_at head at).kind at (data_of head (placed_at head at)) ≡ Err x
    → with_earlier found (last_format head (extensions_at head at)) ≡ last_format head (extensions_at head start)
    → walked head start ≡ Err x
unfolding walked
walk_fails head at start found x is h so_far =
    let here = fails head (placed_at head at) (extensions_at head (end_of (placed_at head at))) found x h in
    let all : last_format head (extensions_at head start) ≡ Err x = sym so_far ∙ ap (λ (es : List Placed). with_earlier found (last_format head es)) (extensions_at-some head at is) ∙ here in
    rw all refl

pub walk_ends : (head : List ℕ) (at start : ℕ) (found : Found) → is_extension head at ≡ false
    → end_after at (extensions_at head at) ≡ end_after start (extensions_at head start)
    → with_earlier found (last_format head (extensions_at head at)) ≡ last_format head (extensions_at head start)
    → walked head start ≡ Ok (at, found)
unfolding walked last_format
walk_ends head at start found is ends finds =
    let none = extensions_at-none head at is in
    let all : last_format head (extensions_at head start) ≡ Ok found = sym finds ∙ ap (λ (es : List Placed). with_earlier found (last_format head es)) none in
    let end : end_after start (extensions_at head start) ≡ at = sym ends ∙ ap (end_after at) none in
    rw (all, end) refl
