-- The walk over extensions where the last backing format became another one.
use Rattle.std.proofs.Common.{◌≡◌, ℕ, zero, suc, ◌+◌, ◌%◌, ◌≤◌, Bool, true, false, cond, eqb, ltb, List, ◌∷◌, length, drop, Option, Some, None, Result, Ok, Err, refl, sym, ap, ◌∙◌, subst, arith, eqb-true}
use Rattle.std.specs.Prelude.{◌==◌, ◌&&◌, codes, not, nat_le, unwrap_or}
use Rattle.std.specs.Str.{bytes_eq}
use Rattle.std.proofs.lemmas.Bool.{le-ltb}
use Rattle.std.proofs.lemmas.Bool.Decides.{nat_tests}
use Rattle.std.proofs.lemmas.List.{length-drop, length-take}
use Rattle.std.proofs.lemmas.Slice.Eq.{bytes_eq-Decides}
use Rattle.sd_names.specs.declared.fault.LayerFault.{LayerFault}
use Rattle.sd_names.specs.declared.fault.LayerFault.TheVariants.{HeaderShape}
use Rattle.sd_names.specs.declared.kinds.Format.{Format}
use Rattle.sd_names.specs.declared.kinds.Format.TheVariants.{Raw, Cow}
use Rattle.qcow_format.specs.Bytes.{number}
use Rattle.qcow_format.specs.Numbers.{backing_format}
use Rattle.qcow_format.specs.Extension.{Placed, data_of, end_after, end_of, extensions_up_to, is_extension, placed_at}
use Rattle.qcow_format.specs.Format.{◌>>=◌, format_at, format_named, last_format}
use Rattle.qcow_format.proofs.Accepted.{bind_ok, formats_stand}
use Rattle.qcow_format.proofs.Walk.{extension_within, up_to-none}
use Rattle.layer_heading.proofs.Bytes.{Agree, narrower, number_agrees, part_agrees}
use Rattle.layer_heading.proofs.Walks.{end_behind, is_same, placed_same, up_to-some, walk_same, within}

-- ---- one backing format

abbrev pub text_of : Format → List ℕ
text_of Raw = codes "raw"
text_of Cow = codes "qcow2"

-- a head has this backing format at a place
pub record HasFormat (head : List ℕ) (at : ℕ) (f : Format) : Type 0 where
  pub kind : number 4 at head ≡ backing_format
  pub size : number 4 (at + 4) head ≡ length (text_of f)
  pub text : data_of head (placed_at head at) ≡ text_of f

named_size : (text : List ℕ) (f : Format) → format_named text ≡ Ok f → (1 ≤ length text) × (length text ≤ 8)
named_size text f e = go (bytes_eq text (codes "qcow2")) (bytes_eq text (codes "raw")) refl refl e
  where
    go : (a b : Bool) → bytes_eq text (codes "qcow2") ≡ a → bytes_eq text (codes "raw") ≡ b → cond a (Ok Cow) (cond b (Ok Raw) (Err HeaderShape)) ≡ Ok f → (1 ≤ length text) × (length text ≤ 8)
    go true b p q e = let is = (bytes_eq-Decides text (codes "qcow2")).0 p in rw is (omega arith, omega arith)
    go false true p q e = let is = (bytes_eq-Decides text (codes "raw")).0 q in rw is (omega arith, omega arith)
    go false false p q e = absurd cc

-- what is found at a place stands there, and its text is short
found_at : (at : ℕ) (text : List ℕ) (g : ℕ × Format) → format_at at text ≡ Ok g → (at ≡ g.0) × (1 ≤ length text) × (length text ≤ 8)
unfolding format_at
found_at at text g e = go (ltb 512 (at + 8 + length text)) e
  where
    go : (b : Bool) → cond b (Err HeaderShape) (format_named text >>= λ f. Ok (at, f)) ≡ Ok g → (at ≡ g.0) × (1 ≤ length text) × (length text ≤ 8)
    go true e = absurd cc
    go false e =
        let step = bind_ok (format_named text) (λ f. Ok (at, f)) g e in
        let is : (at, step.0) ≡ g = cc in
        let size = named_size text step.0 step.1 in
        (ap (λ (x : ℕ × Format). x.0) is, size.0, size.1)

new_format : (at : ℕ) (f : Format) → at + 16 ≤ 512 → format_at at (text_of f) ≡ Ok (at, f)
unfolding format_at
new_format at Raw fits = let low : ltb 512 (at + 8 + 3) ≡ false = le-ltb 512 (at + 8 + 3) (omega (arith, fits)) in rw low refl
new_format at Cow fits = let low : ltb 512 (at + 8 + 5) ≡ false = le-ltb 512 (at + 8 + 5) (omega (arith, fits)) in rw low refl

-- ---- the last one is the first extension's, or stands behind it

data Found (xs : List ℕ) (e : Placed) (es : List Placed) (g : ℕ × Format) : Type 0 where
  here : e.kind ≡ backing_format → format_at e.at (data_of xs e) ≡ Ok g → last_format xs es ≡ Ok None → Found xs e es g
  later : last_format xs es ≡ Ok (Some g)
      → ((ys : List ℕ) (fs : List Placed) (h : ℕ × Format) → data_of ys e ≡ data_of xs e → last_format ys fs ≡ Ok (Some h) → last_format ys (e ∷ fs) ≡ Ok (Some h))
      → Found xs e es g

find : (xs : List ℕ) (e : Placed) (es : List Placed) (g : ℕ × Format) → last_format xs (e ∷ es) ≡ Ok (Some g) → Found xs e es g
unfolding last_format
find xs e es g is = go (eqb e.kind backing_format) refl is
  where
    with_first : (x : ℕ × Format) → format_at e.at (data_of xs e) ≡ Ok x → (ys : List ℕ) (fs : List Placed) (h : ℕ × Format) → data_of ys e ≡ data_of xs e → last_format ys fs ≡ Ok (Some h)
        → (format_at e.at (data_of ys e) >>= λ f. last_format ys fs >>= λ later. Ok (Some (unwrap_or later f))) ≡ Ok (Some h)
    with_first x first ys fs h lent rest = ap (λ r. r >>= λ f. last_format ys fs >>= λ later. Ok (Some (unwrap_or later f))) (ap (format_at e.at) lent ∙ first) ∙ ap (λ r. r >>= λ later. Ok (Some (unwrap_or later x))) rest

    behind : (x : ℕ × Format) → e.kind ≡ backing_format → format_at e.at (data_of xs e) ≡ Ok x → (o : Option (ℕ × Format)) → last_format xs es ≡ Ok o
        → ◌≡◌ {A = Result (Option (ℕ × Format)) LayerFault} (Ok (Some (unwrap_or o x))) (Ok (Some g)) → Found xs e es g
    behind x kind first None rest e' = let same : x ≡ g = cc in here kind (first ∙ ap (λ (y : ℕ × Format). Ok y) same) rest
    behind x kind first (Some y) rest e' =
        let same : y ≡ g = cc in
        later (rest ∙ ap (λ (z : ℕ × Format). Ok (Some z)) same)
        (λ ys fs h lent next. ap (λ b. cond b (format_at e.at (data_of ys e) >>= λ f. last_format ys fs >>= λ l. Ok (Some (unwrap_or l f))) (last_format ys fs)) (kind_true kind) ∙ with_first x first ys fs h lent next)
      where
        kind_true : e.kind ≡ backing_format → eqb e.kind backing_format ≡ true
        kind_true k = grind (arith, nat_tests)

    go : (b : Bool) → eqb e.kind backing_format ≡ b
        → cond b (format_at e.at (data_of xs e) >>= λ f. last_format xs es >>= λ l. Ok (Some (unwrap_or l f))) (last_format xs es) ≡ Ok (Some g) → Found xs e es g
    go true kind is =
        let a = bind_ok (format_at e.at (data_of xs e)) (λ f. last_format xs es >>= λ l. Ok (Some (unwrap_or l f))) (Some g) is in
        let b = bind_ok (last_format xs es) (λ l. Ok (Some (unwrap_or l a.0))) (Some g) a.2 in
        behind a.0 (eqb-true e.kind backing_format kind) a.1 b.0 b.1 b.2
    go false kind is = later is (λ ys fs h lent next. ap (λ b. cond b (format_at e.at (data_of ys e) >>= λ f. last_format ys fs >>= λ l. Ok (Some (unwrap_or l f))) (last_format ys fs)) kind ∙ next)

-- ---- the walk

pub record Changed (n : ℕ) (xs ys : List ℕ) (at : ℕ) (g : ℕ × Format) : Type 0 where
  pub ends : end_after at (extensions_up_to n ys at) ≡ end_after at (extensions_up_to n xs at)
  pub formats : last_format ys (extensions_up_to n ys at) ≡ Ok (Some g)
  pub behind : g.0 + 16 ≤ end_after at (extensions_up_to n xs at)

none_found : (g : ℕ × Format) → ◌≡◌ {A = Result (Option (ℕ × Format)) LayerFault} (Ok None) (Ok (Some g)) → ⊥
none_found g e = absurd cc

-- the extension itself
new_first : (ys : List ℕ) (e : Placed) (es : List Placed) (f : Format) → e.kind ≡ backing_format → data_of ys e ≡ text_of f → e.at + 16 ≤ 512 → last_format ys es ≡ Ok None → last_format ys (e ∷ es) ≡ Ok (Some (e.at, f))
unfolding last_format
new_first ys e es f kind text fits rest =
    let is : eqb e.kind backing_format ≡ true = grind (arith, nat_tests) in
    ap (λ b. cond b (format_at e.at (data_of ys e) >>= λ f. last_format ys es >>= λ l. Ok (Some (unwrap_or l f))) (last_format ys es)) is
    ∙ ap (λ r. r >>= λ f. last_format ys es >>= λ l. Ok (Some (unwrap_or l f))) (ap (format_at e.at) text ∙ new_format e.at f fits)
    ∙ ap (λ r. r >>= λ l. Ok (Some (unwrap_or l (e.at, f)))) rest

short_text : (f : Format) → (1 ≤ length (text_of f)) × (length (text_of f) ≤ 8)
short_text Raw = (omega arith, omega arith)
short_text Cow = (omega arith, omega arith)

whole_text : (xs : List ℕ) (e : Placed) → end_of e ≤ length xs → length (data_of xs e) ≡ e.size
whole_text xs e fits = omega (arith, length-take e.size (drop (e.at + 8) xs), length-drop (e.at + 8) xs, fits, within e)

sixteen : (e : Placed) → 1 ≤ e.size → e.size ≤ 8 → end_of e ≡ e.at + 16
sixteen e low high = omega (arith, low, high)

module _ (xs ys : List ℕ) (long : length ys ≡ length xs) (fa : ℕ) (old new : Format) (fits : fa + 16 ≤ 512) (has : HasFormat ys fa new) where
  -- the changed one
  here_changed : (n at : ℕ) → is_extension xs at ≡ true → at ≡ fa → (placed_at xs at).kind ≡ backing_format → end_of (placed_at xs at) ≡ at + 16
      → last_format xs (extensions_up_to n xs (end_of (placed_at xs at))) ≡ Ok None
      → Agree xs ys (fa + 16) (end_after (end_of (placed_at xs at)) (extensions_up_to n xs (end_of (placed_at xs at))) + 8) → Changed (suc n) xs ys at (fa, new)
  here_changed n at is place kind end none agree =
      let e : Placed = placed_at xs at in
      let p : Placed = placed_at ys fa in
      let short = short_text new in
      let width : end_of p ≡ fa + 16 = sixteen p (omega (arith, has.size, short.0)) (omega (arith, has.size, short.1)) in
      let inside = extension_within xs at is in
      let rest = walk_same xs ys long n (end_of e) (narrower xs ys (fa + 16) (end_after (end_of e) (extensions_up_to n xs (end_of e)) + 8) (end_of e) (end_after (end_of e) (extensions_up_to n xs (end_of e)) + 8) agree (omega (arith, end, place)) (omega arith)) in
      let stands : is_extension ys fa ≡ true = extension ys fa (omega (arith, width, inside, end, place, long)) has.kind in
      let next : end_of p ≡ end_of e = width ∙ omega (arith, end, place) in
      let all : extensions_up_to (suc n) ys at ≡ p ∷ extensions_up_to n xs (end_of e) =
      ap (extensions_up_to (suc n) ys) place ∙ up_to-some n ys fa stands ∙ ap (λ k. p ∷ extensions_up_to n ys k) next ∙ ap (λ (es : List Placed). p ∷ es) rest.same in
      record {
        ends = ap (end_after at) all ∙ ap (λ k. end_after k (extensions_up_to n xs (end_of e))) next ∙ sym (ap (end_after at) (up_to-some n xs at is));
        formats = ap (last_format ys) all ∙ new_first ys p (extensions_up_to n xs (end_of e)) new has.kind has.text fits (rest.formats ∙ none);
        behind = omega (arith, end_behind n xs (end_of e), end, place, ap (end_after at) (up_to-some n xs at is));
      }
    where
      extension : (ys : List ℕ) (at : ℕ) → end_of (placed_at ys at) ≤ length ys → number 4 at ys ≡ backing_format → is_extension ys at ≡ true
      extension ys at inside kind =
          let some : not (number 4 at ys == 0) ≡ true = ap (λ k. not (k == 0)) kind in
          let le : nat_le (end_of (placed_at ys at)) (length ys) ≡ true = grind (arith, nat_tests) in
          ap (λ b. b && nat_le (end_of (placed_at ys at)) (length ys)) some ∙ le

  pub walk_changed : (n at : ℕ) → at % 8 ≡ 0 → last_format xs (extensions_up_to n xs at) ≡ Ok (Some (fa, old)) → Agree xs ys at fa
      → Agree xs ys (fa + 16) (end_after at (extensions_up_to n xs at) + 8) → Changed n xs ys at (fa, new)
  unfolding extensions_up_to last_format
  walk_changed zero at eight found front back = absurd (none_found (fa, old) found)
  walk_changed (suc n) at eight found front back = go (is_extension xs at) refl (walk_changed n (end_of (placed_at xs at)))
    where
      e : Placed
      e = placed_at xs at

      es : List Placed
      es = extensions_up_to n xs (end_of e)

      go : (b : Bool) → is_extension xs at ≡ b
          → (end_of e % 8 ≡ 0 → last_format xs es ≡ Ok (Some (fa, old)) → Agree xs ys (end_of e) fa → Agree xs ys (fa + 16) (end_after (end_of e) es + 8) → Changed n xs ys (end_of e) (fa, new))
          → Changed (suc n) xs ys at (fa, new)
      go false is rest = absurd (none_found (fa, old) (sym (ap (last_format xs) (up_to-none (suc n) xs at is)) ∙ found))
      go true is rest =
          let some = up_to-some n xs at is in
          let ends : end_after at (extensions_up_to (suc n) xs at) ≡ end_after (end_of e) es = ap (end_after at) some in
          let back' : Agree xs ys (fa + 16) (end_after (end_of e) es + 8) = subst (λ k. Agree xs ys (fa + 16) (k + 8)) ends back in
          which (find xs e es (fa, old) (sym (ap (last_format xs) some) ∙ found)) back'
        where
          which : Found xs e es (fa, old) → Agree xs ys (fa + 16) (end_after (end_of e) es + 8) → Changed (suc n) xs ys at (fa, new)
          which (here kind first none) back' =
              let f = found_at at (data_of xs e) (fa, old) first in
              let size = whole_text xs e (extension_within xs at is) in
              here_changed n at is f.0 kind (sixteen e (omega (arith, f.1, size)) (omega (arith, f.2, size))) none back'
          which (later behind more) back' =
              let eight' : end_of e % 8 ≡ 0 = omega (arith, eight) in
              let below : end_of e ≤ fa = (formats_stand n xs (end_of e) (fa, old) eight' behind).0 in
              let inside = within e in
              let kind = number_agrees xs ys at fa 4 at front (omega arith) (omega (arith, below, inside)) in
              let size = number_agrees xs ys at fa 4 (at + 4) front (omega arith) (omega (arith, below, inside)) in
              let same = placed_same xs ys at kind size in
              let stands = is_same xs ys at long kind size ∙ is in
              let lent = part_agrees xs ys at fa (e.at + 8) e.size long front (omega arith) (omega (arith, below, inside)) in
              let next = rest eight' behind (narrower xs ys at fa (end_of e) fa front (omega (arith, inside)) (omega arith)) back' in
              let all : extensions_up_to (suc n) ys at ≡ e ∷ extensions_up_to n ys (end_of e) = up_to-some n ys at stands ∙ ap (λ p. p ∷ extensions_up_to n ys (end_of p)) same in
              record {
                ends = ap (end_after at) all ∙ next.ends ∙ sym (ap (end_after at) (up_to-some n xs at is));
                formats = ap (last_format ys) all ∙ more ys (extensions_up_to n ys (end_of e)) (fa, new) lent next.formats;
                behind = omega (arith, next.behind, ap (end_after at) (up_to-some n xs at is));
              }
