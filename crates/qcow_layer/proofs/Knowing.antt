-- What an opened layer knows of its file, where it was opened and whatever others do.
use Rattle.std.proofs.Common.{◌≡◌, ◌≢◌, ◌⊎◌, inl, inr, ℕ, ◌*◌, ◌^◌, max, ◌<◌, ◌≤◌, Bool, true, false, List, [], Contains, Option, Some, None, refl, sym, ap, ◌∙◌, subst, arith, nat_lt}
use Rattle.std.specs.Prelude.{not, if◌then◌else◌, unwrap_or}
use Rattle.std.proofs.lemmas.Bool.{cases_lt}
use Rattle.std.proofs.lemmas.Bool.Decides.{nat_tests}
use Rattle.sd_names.specs.declared.place.Place.{Place}
use Rattle.shared_disk.specs.Changes.{grown, raised}
use Rattle.shared_disk.specs.Content.{Content, File, Loose, own_of, seen, unless_by, without, zero_sector}
use Rattle.shared_disk.specs.Crash.{IsAlone, IsFileOutcome, IsOutcomeSector, IsSettled, IsSettledFor, DownLeaves}
use Rattle.shared_disk.specs.SectorCalls.{IsGrown}
use Rattle.shared_disk.specs.WellFormed.{IsWellFormed}
use Rattle.shared_disk.proofs.Changes.{raised_new, raised_old}
use Rattle.shared_disk.proofs.Others.{seen_after_raise}
use Rattle.shared_disk.proofs.Outcomes.{no_host, nothing_in, own_among, settled_file, without_keeps}
use Rattle.shared_disk.proofs.Toolkit.{down_leaves_file}
use Rattle.qcow_format.specs.Name.{backing_id}
use Rattle.image_model.specs.File.{file_of, sector_in}
use Rattle.image_model.specs.Soundness.{IsSound}
use Rattle.image_model.proofs.Longer.{longer_head, longer_header, longer_sound, longer_used}
use Rattle.qcow_layer.specs.Knowing.{KnowsLayer, KnowsLayerOn, KnowsNumbers}
use Rattle.qcow_layer.specs.Seen.{IsSeen}
use Rattle.layer_walk.specs.Marks.{map_size}
use Rattle.qcow_layer.specs.Stages.{IsOpened, roof}
use Rattle.qcow_layer.specs.declared.layer.Layer.{Layer}
use Rattle.layer_walk.proofs.Numbers.{past_end}
use Rattle.qcow_layer.proofs.Pieces.{same_file}
use Rattle.qcow_layer.proofs.Steps.{size_of}

pub in_file : (count k : ℕ) (sectors : ℕ → List ℕ) → k < count → sector_in count sectors k ≡ sectors k
in_file count k sectors lt = let e : nat_lt k count ≡ true = grind (arith, nat_tests) in rw e refl

-- the same numbers in a file that is as long, or longer
numbers_on : (layer : Layer) (n m : ℕ) (s r : ℕ → List ℕ) → n ≤ m → ((k : ℕ) → sector_in m r k ≡ sector_in n s k) → KnowsNumbers layer (file_of n s) → KnowsNumbers layer (file_of m r)
numbers_on layer n m s r le same knows = record {
  header = longer_header n m s r same layer.target.capacity layer.work.header le knows.header;
  parent = knows.parent ∙ ap (backing_id layer.work.header) (sym (longer_head n m s r same));
  sound = longer_sound n m s r same layer.target.capacity le knows.sound;
  used = λ c lt. knows.used c lt ∙ ap not (sym (longer_used n m s r same layer.work.header c));
}

-- ---- a layer that was opened

seen_settled : (host k : ℕ) (f : File) → IsSettled f → seen host f k ≡ f.stable k
seen_settled host k f settled = ap (λ (ls : List Loose). unwrap_or (own_of host k ls) (f.stable k)) settled.loose

pub settled_alone : (host : ℕ) (f : File) → IsSettled f → IsAlone host f
settled_alone host f settled = record { loose = ap (without host) settled.loose; fresh = ap (unless_by host) settled.fresh }

-- what the host sees of a file, by the sectors that it has, is what it saw when its length was asked
seen_still : (host count : ℕ) (place : Place) (sectors : ℕ → List ℕ) (d : Content) (s : IsSeen host place count sectors d) (k : ℕ) → sector_in s.file.size (seen host s.file) k ≡ sector_in count sectors k
seen_still host count place sectors d s k = go (cases_lt k s.file.size)
  where
    go : (k < s.file.size) ⊎ (s.file.size ≤ k) → sector_in s.file.size (seen host s.file) k ≡ sector_in count sectors k
    go (inl lt) = in_file s.file.size k (seen host s.file) lt ∙ s.same k lt
    go (inr le) = past_end s.file.size k (seen host s.file) le ∙ sym (past_end count k sectors (omega (arith, s.long, le)))

pub settled_seen : (host : ℕ) (f : File) → IsSettled f → seen host f ≡ f.stable
settled_seen host f settled = λ i k. seen_settled host k f settled i

-- a file with nothing unsynced is seen as it is
pub seen_whole : (host : ℕ) (place : Place) (f : File) (d : Content) → IsSettled f → d.file place ≡ Some f → IsSeen host place f.size f.stable d
seen_whole host place f d settled there = record {
  file = f;
  there = there;
  long = omega arith;
  alone = (settled_alone host f settled).loose;
  same = λ k lt. ap (λ (s : ℕ → List ℕ). s k) (settled_seen host f settled) ∙ sym (in_file f.size k f.stable lt);
}

pub opened_known : (layer : Layer) (host count : ℕ) (sectors : ℕ → List ℕ) (d : Content) → (s : IsSeen host layer.target.place count sectors d) → IsSettled s.file → 512 * s.file.size < 2 ^ 64
    → IsOpened layer.target (file_of count sectors) layer.work → KnowsLayerOn layer host d
opened_known layer host count sectors d s settled fits opened =
    let numbers = numbers_on layer count s.file.size sectors (seen host s.file) s.long (seen_still host count layer.target.place sectors d s)
    (record { header = opened.is_work.header.0; parent = opened.is_work.header.1; sound = opened.sound; used = opened.free }) in
    record {
      file = s.file;
      there = s.there;
      knows = record {
        alone = settled_alone host s.file settled;
        made = settled.fresh;
        numbers = numbers;
        each = λ g out.
            subst (λ (o : File). IsSound (file_of o.size o.stable) layer.target.capacity) (sym (settled_file s.file g settled out))
            (subst (λ r. IsSound (file_of s.file.size r) layer.target.capacity) (settled_seen host s.file settled) numbers.sound);
        long = omega (arith, opened.is_work.marks.size, size_of count sectors, s.long);
        fits = fits;
        map = opened.is_work.room ∙ ap (λ n. map_size (max n (roof layer.target.greatest)) (2 ^ layer.work.header.cluster_bits)) (sym opened.is_work.marks.size);
      };
    }

-- ---- what others do

pub known_untouched : (layer : Layer) (host : ℕ) (d e : Content) → e.file layer.target.place ≡ d.file layer.target.place → KnowsLayerOn layer host d → KnowsLayerOn layer host e
known_untouched layer host d e same knows = record { file = knows.file; there = same ∙ knows.there; knows = knows.knows }

-- another host has nothing unsynced in the file
pub others_settled : (host other : ℕ) (f : File) → host ≢ other → IsAlone host f → f.fresh ≡ None → IsSettledFor other f
others_settled host other f apart alone made = record {
  loose = λ l in_file is. nothing_in l (subst (λ ls. Contains ls l) alone.loose (without_keeps host f.loose l (λ e. apart (sym e ∙ is)) in_file));
  fresh = λ e. no_host other (sym made ∙ e);
}

pub known_down : (layer : Layer) (host other : ℕ) (d e : Content) → host ≢ other → DownLeaves d other e → KnowsLayerOn layer host d → KnowsLayerOn layer host e
known_down layer host other d e apart down knows = record {
  file = knows.file;
  there = down_leaves_file d e other layer.target.place knows.file down knows.there (others_settled host other knows.file apart knows.knows.alone knows.knows.made);
  knows = knows.knows;
}

-- ---- a longer file

none_past : (host k n : ℕ) (ls : List Loose) → ((l : Loose) → Contains ls l → l.sector < n) → n ≤ k → own_of host k ls ≡ None
none_past host k n ls within past = go (own_of host k ls) refl
  where
    go : (o : Option (List ℕ)) → own_of host k ls ≡ o → o ≡ None
    go None is = refl
    go (Some bytes) is = let w = own_among host k ls bytes is in absurd (omega (arith, within w.write w.among, w.at, past))

-- a sector at or past the old end is zeros
stable_past : (size k : ℕ) (f : File) → f.size ≤ k → (raised size f).stable k ≡ zero_sector
stable_past size k f le = let e : nat_lt k f.size ≡ false = grind (arith, nat_tests) in rw e refl

module _ (layer : Layer) (host size : ℕ) (f : File) (within : (l : Loose) → Contains f.loose l → l.sector < f.size) (longer : f.size < size) (fits : 512 * size < 2 ^ 64) (knows : KnowsLayer layer host f) where
  zeros : (k : ℕ) → f.size ≤ k → zero_sector ≡ sector_in f.size (seen host f) k
  unfolding zero_sector
  zeros k le = sym (past_end f.size k (seen host f) le)

  pub seen_raised : (k : ℕ) → sector_in size (seen host (raised size f)) k ≡ sector_in f.size (seen host f) k
  seen_raised k = go (cases_lt k f.size) (cases_lt k size)
    where
      go : (k < f.size) ⊎ (f.size ≤ k) → (k < size) ⊎ (size ≤ k) → sector_in size (seen host (raised size f)) k ≡ sector_in f.size (seen host f) k
      go (inl lt) inside = in_file size k (seen host (raised size f)) (omega (arith, lt, longer)) ∙ seen_after_raise host size k f lt ∙ sym (in_file f.size k (seen host f) lt)
      go (inr le) (inl lt) =
          in_file size k (seen host (raised size f)) lt
          ∙ ap (λ (o : Option (List ℕ)). unwrap_or o ((raised size f).stable k)) (none_past host k f.size f.loose within le)
          ∙ stable_past size k f le ∙ zeros k le
      go (inr le) (inr past) = past_end size k (seen host (raised size f)) past ∙ sym (past_end f.size k (seen host f) le)

  -- an outcome is one from before, with zeros behind it
  unfoldable pub before : File → File
  before g = record { size = f.size; stable = λ k. if nat_lt k f.size then g.stable k else f.stable k; loose = []; fresh = None }

  pub before_outcome : (g : File) → IsFileOutcome (raised size f) g → IsFileOutcome f (before g)
  unfolding before
  before_outcome g out = record {
    size = refl;
    sectors = λ k. go k (nat_lt k f.size) refl;
    settled = record { loose = refl; fresh = refl };
  }
    where
      below : (k : ℕ) → nat_lt k f.size ≡ true → k < f.size
      below k e = grind (arith, nat_tests)

      go : (k : ℕ) (b : Bool) → nat_lt k f.size ≡ b → IsOutcomeSector f k (if nat_lt k f.size then g.stable k else f.stable k)
      go k true e = subst (λ (b : Bool). IsOutcomeSector f k (if b then g.stable k else f.stable k)) (sym e) (raised_old size k f (g.stable k) (below k e) (out.sectors k))
      go k false e = subst (λ (b : Bool). IsOutcomeSector f k (if b then g.stable k else f.stable k)) (sym e) (inl refl)

  pub outcome_raised : (g : File) → IsFileOutcome (raised size f) g → (k : ℕ) → sector_in size g.stable k ≡ sector_in f.size (before g).stable k
  unfolding before zero_sector
  outcome_raised g out k = go (cases_lt k f.size) (cases_lt k size)
    where
      below : (k : ℕ) → k < f.size → nat_lt k f.size ≡ true
      below k lt = grind (arith, nat_tests)

      go : (k < f.size) ⊎ (f.size ≤ k) → (k < size) ⊎ (size ≤ k) → sector_in size g.stable k ≡ sector_in f.size (λ k. if nat_lt k f.size then g.stable k else f.stable k) k
      go (inl lt) inside =
          in_file size k g.stable (omega (arith, lt, longer))
          ∙ sym (in_file f.size k (λ k. if nat_lt k f.size then g.stable k else f.stable k) lt ∙ ap (λ (b : Bool). if b then g.stable k else f.stable k) (below k lt))
      go (inr le) (inl lt) =
          in_file size k g.stable lt ∙ raised_new size k f (g.stable k) le knows.made within (out.sectors k)
          ∙ sym (past_end f.size k (λ k. if nat_lt k f.size then g.stable k else f.stable k) le)
      go (inr le) (inr past) = past_end size k g.stable past ∙ sym (past_end f.size k (λ k. if nat_lt k f.size then g.stable k else f.stable k) le)

  pub raised_known : KnowsLayer layer host (raised size f)
  unfolding before
  raised_known = record {
    alone = record { loose = knows.alone.loose; fresh = knows.alone.fresh };
    made = knows.made;
    numbers = numbers_on layer f.size size (seen host f) (seen host (raised size f)) (omega (arith, longer)) seen_raised knows.numbers;
    each = λ g out.
        subst (λ n. IsSound (file_of n g.stable) layer.target.capacity) (sym out.size)
        (longer_sound f.size size (before g).stable g.stable (outcome_raised g out) layer.target.capacity (omega (arith, longer)) (knows.each (before g) (before_outcome g out)));
    long = omega (arith, knows.long, longer);
    fits = fits;
    map = knows.map;
  }

pub known_grown : (layer : Layer) (host size : ℕ) (d e : Content) → IsWellFormed d → 512 * size < 2 ^ 64 → IsGrown d layer.target.place size e → KnowsLayerOn layer host d → KnowsLayerOn layer host e
known_grown layer host size d e formed fits grows knows =
    let same : grows.0 ≡ knows.file = same_file d layer.target.place knows.file grows.0 knows.there grows.1 in
    record { file = grown size knows.file; there = grows.2.here ∙ ap (λ (f : File). Some (grown size f)) same; knows = go (nat_lt knows.file.size size) refl }
  where
    low : nat_lt knows.file.size size ≡ true → knows.file.size < size
    low e = grind (arith, nat_tests)

    within : (l : Loose) → Contains knows.file.loose l → l.sector < knows.file.size
    within l in_file = ((formed.files layer.target.place knows.file knows.there).loose l in_file).within

    go : (b : Bool) → nat_lt knows.file.size size ≡ b → KnowsLayer layer host (if b then raised size knows.file else knows.file)
    go true e = raised_known layer host size knows.file within (low e) fits knows.knows
    go false e = knows.knows

-- ---- looking clusters up

-- what the host sees of the file, in as many sectors as it has
pub known_seen : (layer : Layer) (host : ℕ) (d : Content) → (knows : KnowsLayerOn layer host d)
    → IsSeen host layer.target.place knows.file.size (seen host knows.file) d × (512 * knows.file.size < 2 ^ 64) × KnowsNumbers layer (file_of knows.file.size (seen host knows.file))
known_seen layer host d knows = (
  record {
    file = knows.file;
    there = knows.there;
    long = omega arith;
    alone = knows.knows.alone.loose;
    same = λ k lt. sym (in_file knows.file.size k (seen host knows.file) lt);
  },
  knows.knows.fits,
  knows.knows.numbers,
)
