-- What a step of a lengthening leaves.
use Rattle.std.proofs.Common.{◌≡◌, ◌≢◌, ◌⊎◌, ℕ, zero, suc, ◌+◌, ◌-◌, ◌*◌, ◌/◌, ◌%◌, ◌^◌, ◌<◌, ◌≤◌, Bool, true, false, Option, Some, None, Result, Ok, Err, refl, sym, ap, ◌∙◌, subst, inl, inr, arith, nat_lt, if◌then◌else◌}
use Rattle.std.proofs.Math.Nat.{div-add-mod, mod-lt}
use Rattle.std.specs.Option.{SomeIff}
use Rattle.std.proofs.lemmas.Bool.{cases_lt}
use Rattle.std.proofs.lemmas.Bool.Decides.{nat_tests}
use Rattle.std.proofs.lemmas.Nat.{mod-mul-add}
use Rattle.sd_names.specs.Turn.{MatchTurn}
use Rattle.sd_names.specs.declared.refusal.Refusal.TheVariants.{DiskFault}
use Rattle.sd_names.specs.declared.turn.Turn.TheVariants.{Done}
use Rattle.layer_laws.proofs.Numbers.{cluster_sectors}
use Rattle.shared_disk.specs.Calls.{HasLength, IsSame}
use Rattle.shared_disk.specs.Changes.{grown, raised}
use Rattle.shared_disk.specs.Content.{Content, File}
use Rattle.shared_disk.specs.SectorCalls.{Grows, IsGrown}
use Rattle.shared_disk.specs.Step.{TurnFollows}
use Rattle.shared_disk.specs.WellFormed.{IsWellFormed}
use Rattle.shared_disk.specs.declared.disk.DiskAnswer.{DiskAnswer}
use Rattle.shared_disk.specs.declared.disk.DiskAnswer.TheVariants.{NoFile, Exists, OutOfFile, NotEmpty, Failed}
use Rattle.shared_disk.proofs.AtPlace.{no_file, one_file}
use Rattle.qcow_layer.proofs.Knowing.{known_grown}
use Rattle.qcow_layer.specs.Knowing.{KnowsLayerOn}
use Rattle.qcow_layer.specs.Opening.{header_kept, place_kept}
use Rattle.qcow_layer.specs.declared.layer.Layer.{Layer}
use Rattle.settling_steps.specs.Lengthening.{AsksLength, GrowsFile, IsToGrow, IsWhole, IsWholeLength, Knows, KnowsLong, LengthTurn, Lengthens, TurnsBy, width_of}
use Rattle.settling_steps.specs.declared.lengthening.Lengthening.TheVariants.{Asking, Growing}

-- ---- the next multiple

-- what is missing to the next multiple
pub next_whole : (size length rest : ℕ) → 0 < size → length % size ≡ rest → (length + (size - rest)) % size ≡ 0
next_whole size length rest some is = go (length / size) (div-add-mod length size) (mod-lt length some)
  where
    go : (q : ℕ) → size * q + length % size ≡ length → length % size < size → (length + (size - rest)) % size ≡ 0
    go q split below =
        let at : length + (size - rest) ≡ (q + 1) * size + 0 = by q split below in
        ap (λ (n : ℕ). n % size) at ∙ mod-mul-add (q + 1) size 0 some
      where
        by : (q : ℕ) → size * q + length % size ≡ length → length % size < size → length + (size - rest) ≡ (q + 1) * size + 0
        by q split below =
            let e : size * q + rest ≡ length = ap (λ (r : ℕ). size * q + r) (sym is) ∙ split in
            let low : rest < size = subst (λ (r : ℕ). r < size) is below in
            let m : (q + 1) * size ≡ size * q + size = omega arith in
            omega (arith, e, low, m)

-- the next multiple where there is a rest, if 64 bits hold it
pub next_fits : (size length : ℕ) (o : Option ℕ) → 0 < size → length % size ≢ 0 → SomeIff o (length + (size - length % size) < 2 ^ 64) (length + (size - length % size)) → IsWholeLength size length o
next_fits size length None some rest is = go (length % size) rest (mod-lt length some) is
  where
    go : (r : ℕ) → r ≢ 0 → r < size → (length + (size - r) < 2 ^ 64 → ⊥) → 2 ^ 64 < length + size
    go r rest below is = over (cases_lt (length + (size - r)) (2 ^ 64))
      where
        over : (length + (size - r) < 2 ^ 64) ⊎ (2 ^ 64 ≤ length + (size - r)) → 2 ^ 64 < length + size
        over (inl fits) = absurd (is fits)
        over (inr long) = omega (arith, long, below, rest)
next_fits size length (Some n) some rest is = record {
  whole = ap (λ (m : ℕ). m % size) is.1 ∙ next_whole size length (length % size) some refl;
  above = go (length % size) is.1;
  least = below (length % size) rest (mod-lt length some) is.1;
}
  where
    go : (r : ℕ) → n ≡ length + (size - r) → length ≤ n
    go r e = omega (arith, e)

    below : (r : ℕ) → r ≢ 0 → r < size → n ≡ length + (size - r) → n < length + size
    below r rest less e = omega (arith, rest, less, e)

-- a whole length is the next multiple itself
pub whole_fits : (size length : ℕ) → 0 < size → length % size ≡ 0 → IsWholeLength size length (Some length)
whole_fits size length some is = record { whole = is; above = omega arith; least = omega (arith, some) }

-- a length of whole clusters is one of whole sectors
sectors_of : (bits length : ℕ) → 12 ≤ bits → length % 2 ^ bits ≡ 0 → 512 * (length / 512) ≡ length
sectors_of bits length low is = go (2 ^ bits) (2 ^ (bits - 9)) (length / 2 ^ bits) (cluster_sectors bits low) (div-add-mod length (2 ^ bits)) is
  where
    go : (size part q : ℕ) → size ≡ 512 * part → size * q + length % size ≡ length → length % size ≡ 0 → 512 * (length / 512) ≡ length
    go size part q e split is =
        let at : 512 * part * q + 0 ≡ length = ap (λ (s : ℕ). s * q + 0) (sym e) ∙ ap (λ (r : ℕ). size * q + r) (sym is) ∙ split in
        by (part * q) (omega (arith, at))
      where
        by : (n : ℕ) → 512 * n ≡ length → 512 * (length / 512) ≡ length
        by n whole = omega (arith, whole)

grown_size : (size : ℕ) (f : File) → f.size ≤ size → (grown size f).size ≡ size
grown_size size f low = go (nat_lt f.size size) refl
  where
    go : (b : Bool) → nat_lt f.size size ≡ b → (if b then raised size f else f).size ≡ size
    go true e = refl
    go false e = let same : f.size ≡ size = grind (arith, nat_tests, low, e) in same

-- ---- the length is asked

length_is : (layer : Layer) (host : ℕ) (d : Content) (n : ℕ) (f : File) → d.file (place_kept layer) ≡ Some f → n ≡ 512 * f.size → (k : KnowsLong layer host d) → n ≡ 512 * k.file.size
length_is layer host d n f there is k = is ∙ ap (λ (g : File). 512 * g.size) (one_file f k.file (d.file (place_kept layer)) there k.there)

too_long : (width n size : ℕ) → n ≡ 512 * size → 512 * size + width ≤ 2 ^ 64 → 2 ^ 64 < n + width → ⊥
too_long width n size is room long = omega (arith, is, room, long)

fit : (width n m size : ℕ) → n ≡ 512 * size → m < n + width → 512 * size + width ≤ 2 ^ 64 → m < 2 ^ 64
fit width n m size is least room = omega (arith, is, least, room)

asked : (layer : Layer) (host faults : ℕ) (turn : LengthTurn) (d : Content) (n : ℕ) (f : File) → d.file (place_kept layer) ≡ Some f → n ≡ 512 * f.size → (next : Option ℕ)
    → IsWholeLength (width_of layer) n next → TurnsBy n turn next → KnowsLong layer host d
    → MatchTurn turn (λ next. Knows next layer host d) (λ _. IsWhole layer host d) (λ _ refusal. refusal ≡ DiskFault faults)
asked layer host faults turn d n f there is None none same k = absurd (too_long (width_of layer) n k.file.size (length_is layer host d n f there is k) k.room none)
asked layer host faults turn d n f there is (Some m) whole (inl same) k =
    rw same.1 (record { file = k.file; there = k.there; knows = k.knows; whole = ap (λ (x : ℕ). x % width_of layer) (sym (same.0 ∙ length_is layer host d n f there is k)) ∙ whole.whole })
asked layer host faults turn d n f there is (Some m) whole (inr other) k =
    let size : n ≡ 512 * k.file.size = length_is layer host d n f there is k in
    rw other.1 (record { long = k; whole = whole.whole; above = omega (arith, size, whole.above); fits = fit (width_of layer) n m k.file.size size whole.least k.room })

same_length : (layer : Layer) (faults : ℕ) (turn : LengthTurn) (host : ℕ) (d e : Content) → IsSame d e
    → (KnowsLong layer host d → MatchTurn turn (λ next. Knows next layer host d) (λ _. IsWhole layer host d) (λ _ refusal. refusal ≡ DiskFault faults))
    → Lengthens Asking layer host faults turn d e
same_length layer faults turn host d e same after = record {
  dirs = λ q. ap (λ (c : Content). c.dir q) same;
  others = λ q _. ap (λ (c : Content). c.file q) same;
  here = λ f there. (f, ap (λ (c : Content). c.file (place_kept layer)) same ∙ there, inl refl);
  none = λ none. ap (λ (c : Content). c.file (place_kept layer)) same ∙ none;
  after = λ k. subst (λ (c : Content). MatchTurn turn (λ next. Knows next layer host c) (λ _. IsWhole layer host c) (λ _ refusal. refusal ≡ DiskFault faults)) (sym same) (after k);
}

pub ask_leaves : (layer : Layer) (host faults : ℕ) (turn : LengthTurn) (d e : Content) → AsksLength layer faults turn d e → Lengthens Asking layer host faults turn d e
ask_leaves layer host faults turn d e is = go is.0 is.1 is.2
  where
    go : (answer : Result ℕ DiskAnswer) → HasLength d (place_kept layer) answer e
        → TurnFollows answer faults turn (λ n. (next : Option ℕ) × IsWholeLength (width_of layer) n next × TurnsBy n turn next) → Lengthens Asking layer host faults turn d e
    go (Ok n) call follows = same_length layer faults turn host d e call.0 (λ k. asked layer host faults turn d n call.1 call.2 call.3 follows.0 follows.1 follows.2 k)
    go (Err Failed) call follows = same_length layer faults turn host d e call (λ k. rw follows refl)
    go (Err NoFile) call follows = same_length layer faults turn host d e call.0 (λ k. absurd (no_file k.file (d.file (place_kept layer)) call.1 k.there))
    go (Err Exists) call follows = absurd call
    go (Err OutOfFile) call follows = absurd call
    go (Err NotEmpty) call follows = absurd call

-- ---- the file is grown

grown_known : (layer : Layer) (host length : ℕ) (d e : Content) → IsWellFormed d → IsGrown d (place_kept layer) (length / 512) e → IsToGrow layer host length d → IsWhole layer host e
grown_known layer host length d e formed grows k =
    let on : KnowsLayerOn layer host d = record { file = k.long.file; there = k.long.there; knows = k.long.knows } in
    let whole : 512 * (length / 512) ≡ length = sectors_of (header_kept layer).cluster_bits length layer.work.low k.whole in
    let next : KnowsLayerOn layer host e = known_grown layer host (length / 512) d e formed (omega (arith, whole, k.fits)) grows on in
    let file : grows.0 ≡ k.long.file = one_file grows.0 k.long.file (d.file (place_kept layer)) grows.1 k.long.there in
    let is : grown (length / 512) k.long.file ≡ next.file =
    one_file (grown (length / 512) k.long.file) next.file (e.file (place_kept layer)) (grows.2.here ∙ ap (λ (f : File). Some (grown (length / 512) f)) file) next.there in
    let size : next.file.size ≡ length / 512 = ap (λ (f : File). f.size) (sym is) ∙ grown_size (length / 512) k.long.file (omega (arith, whole, k.above)) in
    record {
      file = next.file;
      there = next.there;
      knows = next.knows;
      whole = ap (λ (n : ℕ). 512 * n % width_of layer) size ∙ ap (λ (n : ℕ). n % width_of layer) whole ∙ k.whole;
    }

put_grown : (length : ℕ) (layer : Layer) (host faults : ℕ) (turn : LengthTurn) (d e : Content) → IsGrown d (place_kept layer) (length / 512) e
    → (IsToGrow layer host length d → MatchTurn turn (λ next. Knows next layer host e) (λ _. IsWhole layer host e) (λ _ refusal. refusal ≡ DiskFault faults))
    → Lengthens (Growing length) layer host faults turn d e
put_grown length layer host faults turn d e grows after = record {
  dirs = grows.2.dirs;
  others = grows.2.others;
  here = λ f there. (grown (length / 512) f, grows.2.here ∙ ap (λ (g : File). Some (grown (length / 512) g)) (one_file grows.0 f (d.file (place_kept layer)) grows.1 there), inr (length / 512, refl));
  none = λ none. absurd (no_file grows.0 (d.file (place_kept layer)) none grows.1);
  after = after;
}

same_file : (length : ℕ) (layer : Layer) (faults : ℕ) (turn : LengthTurn) (host : ℕ) (d e : Content) → IsSame d e
    → (IsToGrow layer host length d → MatchTurn turn (λ next. Knows next layer host e) (λ _. IsWhole layer host e) (λ _ refusal. refusal ≡ DiskFault faults))
    → Lengthens (Growing length) layer host faults turn d e
same_file length layer faults turn host d e same after = record {
  dirs = λ q. ap (λ (c : Content). c.dir q) same;
  others = λ q _. ap (λ (c : Content). c.file q) same;
  here = λ f there. (f, ap (λ (c : Content). c.file (place_kept layer)) same ∙ there, inl refl);
  none = λ none. ap (λ (c : Content). c.file (place_kept layer)) same ∙ none;
  after = after;
}

pub grow_leaves : (length : ℕ) (layer : Layer) (host faults : ℕ) (turn : LengthTurn) (d e : Content) → IsWellFormed d → GrowsFile length layer faults turn d e
    → Lengthens (Growing length) layer host faults turn d e
grow_leaves length layer host faults turn d e formed is = go is.0 is.1 is.2
  where
    go : (answer : Result (Unit {0}) DiskAnswer) → Grows d (place_kept layer) (length / 512) answer e → TurnFollows answer faults turn (λ _. turn ≡ Done tt) → Lengthens (Growing length) layer host faults turn d e
    go (Ok u) call follows = put_grown length layer host faults turn d e call (λ k. rw follows (grown_known layer host length d e formed call k))
    go (Err Failed) (inl same) follows = same_file length layer faults turn host d e same (λ k. rw follows refl)
    go (Err Failed) (inr grows) follows = put_grown length layer host faults turn d e grows (λ k. rw follows refl)
    go (Err NoFile) call follows = same_file length layer faults turn host d e call.0 (λ k. absurd (no_file k.long.file (d.file (place_kept layer)) call.1 k.long.there))
    go (Err Exists) call follows = absurd call
    go (Err OutOfFile) call follows = absurd call
    go (Err NotEmpty) call follows = absurd call
