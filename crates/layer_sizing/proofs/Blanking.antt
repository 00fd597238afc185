-- Zeros that are written over a part of a quiet file, and synced.
use Rattle.std.proofs.Common.{◌≡◌, ◌⊎◌, inl, inr, ℕ, ◌+◌, ◌-◌, ◌*◌, ◌<◌, ◌≤◌, Bool, true, List, length, get_or, Option, refl, sym, ap, ◌∙◌, subst, arith}
use Rattle.std.specs.Prelude.{not, unwrap_or}
use Rattle.std.proofs.lemmas.Bool.{cases_lt}
use Rattle.shared_disk.specs.Calls.{sectors_in, synced, wrote}
use Rattle.shared_disk.specs.Content.{File, Sees, sector_of, seen}
use Rattle.shared_disk.specs.Crash.{IsSettled, OnEach}
use Rattle.shared_disk.specs.WellFormed.{IsWellFormedFile}
use Rattle.shared_disk.proofs.NameOutcomes.{alone_sees}
use Rattle.shared_disk.proofs.Outcomes.{write_file}
use Rattle.shared_disk.proofs.OwnWrites.{own_outside, own_within}
use Rattle.qcow_format.specs.declared.header.Header.{Header}
use Rattle.image_model.specs.File as image
use Rattle.image_model.specs.File.{file_of}
use Rattle.qcow_layer.specs.Knowing.{KnowsNumbers}
use Rattle.qcow_layer.specs.Opening.{capacity_kept, header_kept}
use Rattle.qcow_layer.specs.declared.layer.Layer.{Layer}
use Rattle.layer_writing.specs.Holding.{ComesBy, on_medium}
use Rattle.layer_writing.specs.Writer.{IsLeft, IsSameFile}
use Rattle.layer_writing.proofs.Known.{anew}
use Rattle.layer_writing.proofs.Sectors.{LaysPiece, alone_synced, alone_writes, outcome_laid, outcome_lengths, seen_laid, seen_lengths}
use Rattle.layer_writing.proofs.Writes.{used_same}
use Rattle.layer_heading.specs.Writing.{IsQuiet}
use Rattle.layer_heading.proofs.Quiet as quiet
use Rattle.layer_sizing.specs.Blanks.{AreBlank, IsBlanked, IsBlanking}
use Rattle.layer_sizing.specs.Sized.{IsOldOrSized, IsZeroing}
use Rattle.layer_sizing.proofs.Ranges.{Law}

-- a byte of a sector that is written: it stands in the part and is 0, or before it, and is as in the quiet file
abbrev pub IsPieceByte : ℕ → ℕ → (ℕ → List ℕ) → ℕ → ℕ → ℕ → Type 0
IsPieceByte low high s k i byte = ((low ≤ 512 * k + i) × (512 * k + i < high) × (byte ≡ 0)) ⊎ ((512 * k + i < low) × (byte ≡ get_or (s k) i 0))

abbrev pub IsPieceOf : ℕ → ℕ → (ℕ → List ℕ) → ℕ → List ℕ → Type 0
IsPieceOf low high s at bytes = (j i : ℕ) → j < sectors_in bytes → i < 512 → IsPieceByte low high s (at + j) i (get_or (sector_of bytes j) i 0)

module _ (low high : ℕ) (base : ℕ → List ℕ) (at : ℕ) (bytes : List ℕ) (piece : IsPieceOf low high base at bytes) (s s' : ℕ → List ℕ) (was : IsBlanked low high base s) (laid : LaysPiece at bytes s s') where
  -- a sector of the piece
  of_piece : (k i : ℕ) → i < 512 → at ≤ k → k < at + sectors_in bytes → s' k ≡ sector_of bytes (k - at) → IsPieceByte low high base k i (get_or (s' k) i 0)
  of_piece k i small ge lt is =
      let back : at + (k - at) ≡ k = omega (arith, ge) in
      subst (λ (xs : List ℕ). IsPieceByte low high base k i (get_or xs i 0)) (sym is)
      (subst (λ m. IsPieceByte low high base m i (get_or (sector_of bytes (k - at)) i 0)) back (piece (k - at) i (omega (arith, ge, lt)) small))

  -- the quiet file is blanked as before
  pub still_blanked : IsBlanked low high base s'
  still_blanked k i small = go (laid.sectors k)
    where
      by : IsPieceByte low high base k i (get_or (s' k) i 0) → (get_or (s' k) i 0 ≡ get_or (base k) i 0) ⊎ ((low ≤ 512 * k + i) × (512 * k + i < high) × (get_or (s' k) i 0 ≡ 0))
      by (inl z) = inr z
      by (inr b) = inl b.1

      go : (s' k ≡ s k) ⊎ ((at ≤ k) × (k < at + sectors_in bytes) × (s' k ≡ sector_of bytes (k - at)))
          → (get_or (s' k) i 0 ≡ get_or (base k) i 0) ⊎ ((low ≤ 512 * k + i) × (512 * k + i < high) × (get_or (s' k) i 0 ≡ 0))
      go (inl e) = subst (λ (xs : List ℕ). (get_or xs i 0 ≡ get_or (base k) i 0) ⊎ ((low ≤ 512 * k + i) × (512 * k + i < high) × (get_or xs i 0 ≡ 0))) (sym e) (was k i small)
      go (inr p) = by (of_piece k i small p.0 p.1 p.2)

  -- and so is the file from before the piece
  pub newly_blanked : IsBlanked low high s s'
  newly_blanked k i small = go (laid.sectors k)
    where
      old : (get_or (s k) i 0 ≡ get_or (base k) i 0) ⊎ ((low ≤ 512 * k + i) × (512 * k + i < high) × (get_or (s k) i 0 ≡ 0)) → 512 * k + i < low → get_or (base k) i 0 ≡ get_or (s k) i 0
      old (inl e) lt = sym e
      old (inr z) lt = absurd (omega (arith, z.0, lt))

      by : IsPieceByte low high base k i (get_or (s' k) i 0) → (get_or (s' k) i 0 ≡ get_or (s k) i 0) ⊎ ((low ≤ 512 * k + i) × (512 * k + i < high) × (get_or (s' k) i 0 ≡ 0))
      by (inl z) = inr z
      by (inr b) = inl (b.1 ∙ old (was k i small) b.0)

      go : (s' k ≡ s k) ⊎ ((at ≤ k) × (k < at + sectors_in bytes) × (s' k ≡ sector_of bytes (k - at)))
          → (get_or (s' k) i 0 ≡ get_or (s k) i 0) ⊎ ((low ≤ 512 * k + i) × (512 * k + i < high) × (get_or (s' k) i 0 ≡ 0))
      go (inl e) = inl (ap (λ (xs : List ℕ). get_or xs i 0) e)
      go (inr p) = by (of_piece k i small p.0 p.1 p.2)

-- a sector as the host sees it
pub seen_long : (layer_ : Layer) (host low high : ℕ) (g f : File) → IsBlanking layer_ host low high g f → (k : ℕ) → length (seen host f k) ≡ 512
seen_long layer_ host low high g f b k = seen_lengths host f b.formed k

pub sees_own : (layer_ : Layer) (host low high : ℕ) (g f : File) → IsBlanking layer_ host low high g f → (k : ℕ) (bytes : List ℕ) → Sees host f k bytes → bytes ≡ seen host f k
sees_own layer_ host low high g f b k bytes sees = alone_sees host k f bytes b.alone.loose sees

module _ (layer_ : Layer) (larger host low high : ℕ) (g : File) (law : Law layer_ low high g) (f : File) (b : IsBlanking layer_ host low high g f) where
  abbrev h : Header
  h = header_kept layer_

  abbrev capacity : ℕ
  capacity = capacity_kept layer_

  numbers : KnowsNumbers layer_ (on_medium g)
  numbers = quiet.numbers layer_ host g b.quiet

  zeroing : (s : ℕ → List ℕ) → ((k : ℕ) → length (s k) ≡ 512) → IsBlanked low high g.stable s → IsZeroing h capacity (on_medium g) (file_of g.size s)
  zeroing s long zeros = law g.stable s (quiet.long layer_ host g b.quiet) long numbers.header numbers.sound (λ k. refl) zeros

  -- an outcome, as a file as long as the quiet one
  resize : (m : ℕ) (P : image.File → Type 0) (s : ℕ → List ℕ) → m ≡ g.size → P (file_of g.size s) → P (file_of m s)
  resize m P s same p = subst (λ x. P (file_of x s)) (sym same) p

  pub each_zeroing : OnEach f (λ o. IsZeroing h capacity (on_medium g) (on_medium o))
  each_zeroing o out = resize o.size (IsZeroing h capacity (on_medium g)) o.stable (out.size ∙ b.size) (zeroing o.stable (outcome_lengths f o b.formed out) (b.each o out))

  pub left : IsLeft layer_ host f
  left = record { alone = b.alone; made = b.made; sound = λ o out. (each_zeroing o out).sound }

  -- ---- a piece is written

  module _ (at : ℕ) (bytes : List ℕ) (piece : IsPieceOf low high g.stable at bytes) (did : ℕ → Bool) where
    pub blanking_written : IsWellFormedFile (wrote did host at bytes f) → IsBlanking layer_ host low high g (wrote did host at bytes f)
    blanking_written formed = record {
      quiet = b.quiet;
      size = b.size;
      alone = alone_writes did host at bytes f b.alone;
      made = b.made;
      formed = formed;
      sees = still_blanked low high g.stable at bytes piece (seen host f) (seen host (wrote did host at bytes f)) b.sees (seen_laid did host at bytes f);
      each = λ o out. let w = write_file did host at bytes f o out in still_blanked low high g.stable at bytes piece w.0.stable o.stable (b.each w.0 w.1) (outcome_laid did at bytes w.0 o w.2);
    }

    pub comes_written : IsWellFormedFile (wrote did host at bytes f) → ComesBy (IsOldOrSized h capacity larger) f (wrote did host at bytes f)
    comes_written formed o out =
        let w = write_file did host at bytes f o out in
        let old : File = w.0 in
        let long = outcome_lengths f old b.formed w.1 in
        let z = zeroing old.stable long (b.each old w.1) in
        let new : IsZeroing h capacity (file_of g.size old.stable) (file_of g.size o.stable) =
        law old.stable o.stable long (outcome_lengths (wrote did host at bytes f) o formed out) z.header z.sound z.entries
        (newly_blanked low high g.stable at bytes piece old.stable o.stable (b.each old w.1) (outcome_laid did at bytes old o w.2)) in (
          old,
          w.1,
          inr (inl (resize old.size (λ x. IsZeroing h capacity x (on_medium o)) old.stable (w.1.size ∙ b.size)
              (resize o.size (IsZeroing h capacity (file_of g.size old.stable)) o.stable (out.size ∙ b.size) new))),
        )

  -- the host sees what it wrote
  pub blank_written : (at : ℕ) (bytes : List ℕ) → IsPieceOf low high g.stable at bytes → (from to : ℕ) → AreBlank low from (seen host f) → 512 * at ≤ from → to ≤ 512 * (at + sectors_in bytes)
      → AreBlank low to (seen host (wrote (λ _. true) host at bytes f))
  blank_written at bytes piece from to blank le ge k i small above below = go (cases_lt k at)
    where
      f' : File
      f' = wrote (λ _. true) host at bytes f

      zero_by : IsPieceByte low high g.stable k i (get_or (seen host f' k) i 0) → get_or (seen host f' k) i 0 ≡ 0
      zero_by (inl z) = z.2
      zero_by (inr p) = absurd (omega (arith, p.0, above))

      inside : at ≤ k → get_or (seen host f' k) i 0 ≡ 0
      inside low' =
          let within : k < at + sectors_in bytes = omega (arith, below, ge) in
          let is : seen host f' k ≡ sector_of bytes (k - at) = ap (λ (o : Option (List ℕ)). unwrap_or o (f.stable k)) (own_within host at (sectors_in bytes) k bytes f.loose low' within) in
          let back : at + (k - at) ≡ k = omega (arith, low') in
          zero_by (subst (λ (xs : List ℕ). IsPieceByte low high g.stable k i (get_or xs i 0)) (sym is)
          (subst (λ m. IsPieceByte low high g.stable m i (get_or (sector_of bytes (k - at)) i 0)) back (piece (k - at) i (omega (arith, low', within)) small)))

      go : (k < at) ⊎ (at ≤ k) → get_or (seen host f' k) i 0 ≡ 0
      go (inl before) =
          let is : seen host f' k ≡ seen host f k = ap (λ (o : Option (List ℕ)). unwrap_or o (f.stable k)) (own_outside (λ _. true) host at (sectors_in bytes) k bytes f.loose (inl before)) in
          ap (λ (xs : List ℕ). get_or xs i 0) is ∙ blank k i small above (omega (arith, before, small, le))
      go (inr low') = inside low'

  -- ---- it is synced

  synced_zeroing : IsZeroing h capacity (on_medium g) (file_of g.size (seen host f))
  synced_zeroing = zeroing (seen host f) (seen_lengths host f b.formed) b.sees

  pub synced_same : IsZeroing h capacity (on_medium g) (on_medium (synced host f))
  synced_same = resize f.size (IsZeroing h capacity (on_medium g)) (seen host f) b.size synced_zeroing

  pub quiet_synced : IsWellFormedFile (synced host f) → IsQuiet layer_ host (synced host f)
  quiet_synced formed = record { writer = anew layer_ layer_ host g (synced host f) b.quiet.writer same b.size settled known; settled = settled; formed = formed }
    where
      settled : IsSettled (synced host f)
      settled = alone_synced host f b.alone

      same : IsSameFile layer_ layer_
      same = record { place = refl; greatest = refl; length = refl; mapped = refl; bits = refl }

      z : IsZeroing h capacity (on_medium g) (file_of g.size (seen host f))
      z = synced_zeroing

      seen_numbers : KnowsNumbers layer_ (file_of g.size (seen host f))
      seen_numbers = record {
        header = z.header;
        parent = numbers.parent ∙ sym z.parent;
        sound = z.sound;
        used = λ c lt. numbers.used c lt ∙ ap not (sym (used_same h capacity (on_medium g) (file_of g.size (seen host f)) z.counts z.blocks c));
      }

      known : KnowsNumbers layer_ (on_medium (synced host f))
      known = resize f.size (KnowsNumbers layer_) (seen host f) b.size seen_numbers
