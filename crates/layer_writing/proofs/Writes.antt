-- What stays known of a layer's file after a write of sectors.
use Rattle.std.proofs.Common.{◌≡◌, ◌≢◌, ◌⊎◌, inl, inr, ℕ, ◌+◌, ◌*◌, ◌/◌, ◌%◌, ◌^◌, ◌<◌, ◌≤◌, max, Bool, List, length, Option, None, Some, Ok, sym, ap, ◌∙◌, subst, arith, nat_lt}
use Rattle.std.specs.Prelude.{◌==◌, ◌&&◌, ◌||◌}
use Rattle.sd_names.specs.declared.id.Id.{Id}
use Rattle.shared_disk.specs.Calls.{sectors_in, wrote}
use Rattle.shared_disk.specs.Content.{File, seen}
use Rattle.shared_disk.specs.Crash.{IsAlone, IsFileOutcome, IsLaidOver, OnEach}
use Rattle.shared_disk.specs.WellFormed.{IsWellFormedFile}
use Rattle.shared_disk.proofs.Outcomes.{write_file}
use Rattle.qcow_format.specs.Name.{backing_id}
use Rattle.qcow_format.specs.declared.entry.Entry.TheVariants.{Data, Zero}
use Rattle.qcow_format.specs.declared.header.Header.{Header}
use Rattle.image_model.specs.File as image
use Rattle.image_model.specs.File.{file_of, sector_in}
use Rattle.image_model.specs.Layer.{Tables, block_place, block_span, count_of, entries, entry_at, is_used}
use Rattle.image_model.specs.Soundness.{IsSound, layer_header}
use Rattle.layer_laws.specs.Laws.{IsUnnamed, Overwritten, SameContent, SameOutside, entry_position, layer}
use Rattle.layer_laws.proofs.Frames.{frame, not_first as not_first_by, overwrite, refill}
use Rattle.layer_laws.proofs.Heads.{parent_kept}
use Rattle.layer_laws.proofs.Positions.{l2_late}
use Rattle.layer_laws.proofs.Sound.{clean_of, data_at, header_name, shape_of, zero_at}
use Rattle.layer_walk.specs.Marks.{map_size}
use Rattle.qcow_layer.specs.Knowing.{mapped}
use Rattle.qcow_layer.specs.Mapping.{IsSameButMap}
use Rattle.qcow_layer.specs.Stages.{roof}
use Rattle.qcow_layer.specs.declared.layer.Layer.{Layer}
use Rattle.layer_writing.specs.Holding.{ComesBy, HoldSame, IsKept, IsLike, as_seen, on_medium}
use Rattle.layer_writing.specs.Writer.{IsLeft, KnowsWriter, MapTells, seen_tables}
use Rattle.layer_writing.proofs.Likes.{kept_holds, like_back, like_itself, like_through}
use Rattle.layer_writing.proofs.Sectors.{LaysPiece, alone_writes, laid_outside, outcome_laid, outcome_lengths, seen_laid, seen_lengths}

-- all that a writer knows, but for the map
pub record Facts (h : Header) (capacity greatest size room : ℕ) (parent : Option Id) (host : ℕ) (f : File) : Type 0 where
  pub alone : IsAlone host f
  pub made : f.fresh ≡ None
  pub header : layer_header (as_seen host f) capacity ≡ Ok h
  pub parent_is : parent ≡ backing_id h (as_seen host f).head
  pub sound : IsSound (as_seen host f) capacity
  pub long : size ≤ 512 * f.size
  pub fits : 512 * f.size < 2 ^ 64
  pub map : room ≡ map_size (max size (roof greatest)) (2 ^ h.cluster_bits)
  pub whole : 512 * f.size % 2 ^ h.cluster_bits ≡ 0
  pub each : OnEach f (λ g. IsLike h capacity (as_seen host f) (on_medium g))

abbrev pub FactsOf : Layer → ℕ → File → Type 0
FactsOf l host f = Facts l.work.header l.target.capacity l.target.greatest l.work.marks.size (mapped l) l.work.parent host f

pub facts_of : (l : Layer) (host : ℕ) (f : File) → KnowsWriter l host f → FactsOf l host f
facts_of l host f knows = record {
  alone = knows.knows.alone;
  made = knows.knows.made;
  header = knows.knows.numbers.header;
  parent_is = knows.knows.numbers.parent;
  sound = knows.knows.numbers.sound;
  long = knows.knows.long;
  fits = knows.knows.fits;
  map = knows.knows.map;
  whole = knows.whole;
  each = knows.each;
}

pub knows_of : (l : Layer) (host : ℕ) (f : File) → FactsOf l host f → MapTells l (seen_tables l host f) → KnowsWriter l host f
knows_of l host f facts tells = record {
  knows = record {
    alone = facts.alone;
    made = facts.made;
    numbers = record { header = facts.header; parent = facts.parent_is; sound = facts.sound; used = tells };
    each = λ g out. (facts.each g out).same.sound;
    long = facts.long;
    fits = facts.fits;
    map = facts.map;
  };
  whole = facts.whole;
  each = facts.each;
}

-- the facts of a layer are those of one that differs in the map alone
pub facts_moved : (l m : Layer) (host : ℕ) (f : File) → IsSameButMap l m → FactsOf l host f → FactsOf m host f
facts_moved l m host f same facts =
    subst (λ (h : Header). Facts h m.target.capacity m.target.greatest m.work.marks.size (mapped m) m.work.parent host f) (sym same.header)
    (subst (λ t. Facts l.work.header t.capacity t.greatest m.work.marks.size (mapped m) m.work.parent host f) (sym same.target)
    (subst (λ n. Facts l.work.header l.target.capacity l.target.greatest n (mapped m) m.work.parent host f) (sym same.length)
    (subst (λ n. Facts l.work.header l.target.capacity l.target.greatest l.work.marks.size n m.work.parent host f) (sym same.mapped)
    (subst (λ (p : Option Id). Facts l.work.header l.target.capacity l.target.greatest l.work.marks.size (mapped l) p host f) (sym same.parent) facts))))

-- what is left after a fault
pub facts_left : (l : Layer) (host : ℕ) (f : File) → FactsOf l host f → IsLeft l host f
facts_left l host f facts = record { alone = facts.alone; made = facts.made; sound = λ g out. (facts.each g out).same.sound }

-- the position of an entry isn't the first, which names the header
behind_first : (t : Tables) (k : ℕ) → entry_position t k ≢ 0
behind_first t k e = omega (arith, e, l2_late t (k / entries t) (k % entries t))

-- ---- a write that keeps each file that is like the one that the host sees

module _ (h : Header) (capacity greatest size room : ℕ) (parent : Option Id) (host at : ℕ) (bytes : List ℕ) (f : File) (formed : IsWellFormedFile f)
    (facts : Facts h capacity greatest size room parent host f) where
  -- each file that is like the one that the host sees stays so, and this holds of it before and after
  abbrev pub KeepsBy : (image.File → image.File → Type 0) → Type 0
  KeepsBy R = (s s' : ℕ → List ℕ) → ((k : ℕ) → length (s k) ≡ 512) → IsLike h capacity (as_seen host f) (file_of f.size s) → LaysPiece at bytes s s'
      → IsLike h capacity (file_of f.size s) (file_of f.size s') × R (file_of f.size s) (file_of f.size s')

  abbrev pub Keeps : Type 0
  Keeps = (s s' : ℕ → List ℕ) → ((k : ℕ) → length (s k) ≡ 512) → IsLike h capacity (as_seen host f) (file_of f.size s) → LaysPiece at bytes s s' → IsKept h capacity (file_of f.size s) (file_of f.size s')

  like_seen : IsLike h capacity (as_seen host f) (as_seen host f)
  like_seen = like_itself h capacity (as_seen host f) facts.header facts.sound

  module _ (did : ℕ → Bool) (R : image.File → image.File → Type 0) (keeps : KeepsBy R) where
    abbrev f' : File
    f' = wrote did host at bytes f

    pub seen_by : IsLike h capacity (as_seen host f) (as_seen host f') × R (as_seen host f) (as_seen host f')
    seen_by = keeps (seen host f) (seen host f') (seen_lengths host f formed) like_seen (seen_laid did host at bytes f)

    -- an outcome comes from one from before, over which the piece is laid
    pub record From (g : File) : Type 0 where
      pub old : File
      pub outcome : IsFileOutcome f old
      pub laid : IsLaidOver did at bytes old g
      pub like : IsLike h capacity (as_seen host f) (on_medium old)
      pub kept : IsLike h capacity (on_medium old) (on_medium g) × R (on_medium old) (on_medium g)

    pub from : (g : File) → IsFileOutcome f' g → From g
    from g out =
        let w = write_file did host at bytes f g out in
        let o : File = w.0 in
        let like = facts.each o w.1 in
        let like' : IsLike h capacity (as_seen host f) (file_of f.size o.stable) = subst (λ n. IsLike h capacity (as_seen host f) (file_of n o.stable)) w.1.size like in
        let kept = keeps o.stable g.stable (outcome_lengths f o formed w.1) like' (outcome_laid did at bytes o g w.2) in
        record {
          old = o;
          outcome = w.1;
          laid = w.2;
          like = like;
          kept = subst (λ n. IsLike h capacity (file_of n o.stable) (on_medium g) × R (file_of n o.stable) (on_medium g)) (sym w.1.size)
              (subst (λ n. IsLike h capacity (file_of f.size o.stable) (file_of n g.stable) × R (file_of f.size o.stable) (file_of n g.stable)) (sym out.size) kept);
        }

    pub facts_by : Facts h capacity greatest size room parent host f'
    facts_by = record {
      alone = alone_writes did host at bytes f facts.alone;
      made = facts.made;
      header = seen_by.0.same.header;
      parent_is = facts.parent_is ∙ sym seen_by.0.parent;
      sound = seen_by.0.same.sound;
      long = facts.long;
      fits = facts.fits;
      map = facts.map;
      whole = facts.whole;
      each = λ g out. let w = from g out in
          like_through h capacity (as_seen host f') (as_seen host f) (on_medium g) (like_back h capacity (as_seen host f) (as_seen host f') facts.header facts.sound seen_by.0)
          (like_through h capacity (as_seen host f) (on_medium w.old) (on_medium g) w.like w.kept.0);
    }

  module _ (did : ℕ → Bool) (keeps : Keeps) where
    by : KeepsBy (IsKept h capacity)
    by s s' long like laid = let kept = keeps s s' long like laid in (kept.like, kept)

    pub facts_after : Facts h capacity greatest size room parent host (wrote did host at bytes f)
    facts_after = facts_by did (IsKept h capacity) by

    pub comes : ComesBy (HoldSame h capacity) f (wrote did host at bytes f)
    comes g out = let w = from did (IsKept h capacity) by g out in (w.old, w.outcome, kept_holds h capacity (on_medium w.old) (on_medium g) w.like.same.header w.kept.1)

  -- ---- the sectors of a cluster that nothing names

  module _ (p : ℕ) (begins : p % 2 ^ h.cluster_bits ≡ 0) (low : p ≤ 512 * at) (high : 512 * (at + sectors_in bytes) ≤ p + 2 ^ h.cluster_bits) where
    outside : (s s' : ℕ → List ℕ) → LaysPiece at bytes s s' → SameOutside p (2 ^ h.cluster_bits) s s'
    outside s s' laid k out = laid_outside at bytes s s' laid k (go (2 ^ h.cluster_bits) (sectors_in bytes) low high out)
      where
        go : (c n : ℕ) → p ≤ 512 * at → 512 * (at + n) ≤ p + c → (k < p / 512) ⊎ ((p + c) / 512 ≤ k) → (k < at) ⊎ (at + n ≤ k)
        go c n low high (inl lt) = inl (omega (arith, low, lt))
        go c n low high (inr le) = inr (omega (arith, high, le))

    module _ (unnamed : IsUnnamed (layer h (as_seen host f)) capacity p) where
      unnamed_content : (s s' : ℕ → List ℕ) → ((k : ℕ) → length (s k) ≡ 512) → IsLike h capacity (as_seen host f) (file_of f.size s) → LaysPiece at bytes s s' → SameContent h capacity (file_of f.size s) (file_of f.size s')
      unnamed_content s s' long like laid =
          frame f.size capacity p s s' h (λ k lt. long k) like.same.header like.same.sound begins (outside s s' laid) (λ m e. unnamed m (sym (like.same.named m) ∙ e))

      not_first : p ≢ 0
      not_first e =
          unnamed 0 (header_name h (as_seen host f) capacity (shape_of (as_seen host f) capacity h facts.header) (clean_of (as_seen host f) capacity h facts.header facts.sound) ∙ ap (λ (x : ℕ). Some x) (sym e))

      pub unnamed_keeps : Keeps
      unnamed_keeps s s' long like laid =
          let content = unnamed_content s s' long like laid in record {
            like = record { same = content.same; parent = parent_kept f.size p capacity s s' h (λ k lt. long k) like.same.header begins not_first (outside s s' laid) };
            bytes = content.bytes;
          }

      -- as the host sees it, nothing has changed but the bytes of that cluster
      pub unnamed_seen : (did : ℕ → Bool) → SameContent h capacity (as_seen host f) (as_seen host (wrote did host at bytes f))
      unnamed_seen did = unnamed_content (seen host f) (seen host (wrote did host at bytes f)) (seen_lengths host f formed) like_seen (seen_laid did host at bytes f)

    -- ---- the sectors of a cluster that an entry of zeros keeps, or that is data

    module _ (k : ℕ) where
      late : p ≢ 0 → (s s' : ℕ → List ℕ) → ((k : ℕ) → length (s k) ≡ 512) → IsLike h capacity (as_seen host f) (file_of f.size s) → LaysPiece at bytes s s'
          → backing_id h (file_of f.size s').head ≡ backing_id h (file_of f.size s).head
      late some s s' long like laid = parent_kept f.size p capacity s s' h (λ k lt. long k) like.same.header begins some (outside s s' laid)

      module _ (zero : entry_at (layer h (as_seen host f)) k ≡ Zero p) (some : p ≢ 0) where
        zero_content : (s s' : ℕ → List ℕ) → ((k : ℕ) → length (s k) ≡ 512) → IsLike h capacity (as_seen host f) (file_of f.size s) → LaysPiece at bytes s s'
            → SameContent h capacity (file_of f.size s) (file_of f.size s')
        zero_content s s' long like laid =
            let here = like.same.entries k ∙ zero in
            let is = zero_at h (file_of f.size s) capacity (shape_of (file_of f.size s) capacity h like.same.header) (clean_of (file_of f.size s) capacity h like.same.header like.same.sound) k p some here in
            refill f.size capacity p s s' h (λ i lt. long i) like.same.header like.same.sound begins (outside s s' laid) k is.name here

        pub zero_keeps : Keeps
        zero_keeps s s' long like laid = let content = zero_content s s' long like laid in record {
          like = record { same = content.same; parent = late some s s' long like laid };
          bytes = content.bytes;
        }

        pub zero_seen : (did : ℕ → Bool) → SameContent h capacity (as_seen host f) (as_seen host (wrote did host at bytes f))
        zero_seen did = zero_content (seen host f) (seen host (wrote did host at bytes f)) (seen_lengths host f formed) like_seen (seen_laid did host at bytes f)

      module _ (held : entry_at (layer h (as_seen host f)) k ≡ Data p) where
        pub data_keeps : KeepsBy (Overwritten h capacity k p)
        data_keeps s s' long like laid =
            let here = like.same.entries k ∙ held in
            let is = data_at h (file_of f.size s) capacity (shape_of (file_of f.size s) capacity h like.same.header) (clean_of (file_of f.size s) capacity h like.same.header like.same.sound) k p here in
            let over = overwrite f.size capacity p s s' h (λ i lt. long i) like.same.header like.same.sound begins (outside s s' laid) k is.name here in
            let some = not_first_by f.size capacity p s s' h (λ i lt. long i) like.same.header like.same.sound begins (outside s s' laid) (entry_position (layer h (file_of f.size s)) k) is.name
            (behind_first (layer h (file_of f.size s)) k) in
            (record { same = over.same; parent = late some s s' long like laid }, over)

-- ---- which clusters are used

pub used_same : (h : Header) (capacity : ℕ) (f g : image.File) → ((x : ℕ) → count_of (layer h g) x ≡ count_of (layer h f) x) → ((k : ℕ) → block_place (layer h g) k ≡ block_place (layer h f) k)
    → (c : ℕ) → is_used (layer h g) c ≡ is_used (layer h f) c
unfolding is_used
used_same h capacity f g counts blocks c =
    ap (λ (n : ℕ). nat_lt 0 n || (c % block_span (layer h f) == 0 && block_place (layer h g) (c / block_span (layer h f)) == 0)) (counts c)
    ∙ ap (λ (n : ℕ). nat_lt 0 (count_of (layer h f) c) || (c % block_span (layer h f) == 0 && n == 0)) (blocks (c / block_span (layer h f)))
