-- What is known of a cluster while other things change.
use Rattle.std.proofs.Common.{◌≡◌, ◌≢◌, ℕ, ◌+◌, ◌<◌, ◌≤◌, Bool, true, false, nat_lt, List, Some, unwrap_or, refl, sym, ap, ◌∙◌, subst, inl, inr, arith}
use Rattle.std.specs.Prelude.{if◌then◌else◌}
use Rattle.std.proofs.lemmas.Bool.{lt-ltb}
use Rattle.sd_names.specs.declared.id.Id.{Id}
use Rattle.shared_disk.specs.Changes.{grown, raised}
use Rattle.shared_disk.specs.Content.{Content, File, own_of, seen, zero_sector}
use Rattle.shared_disk.specs.Crash.{DownLeaves, IsAlone}
use Rattle.shared_disk.proofs.AtPlace.{also_some}
use Rattle.chain_model.specs.Folder.{Volumes, folder_of}
use Rattle.chain_model.specs.Growth.{MayGrow, MayHaveGrown}
use Rattle.volume_chain.specs.Chain.{dir_in, place_in, target_of}
use Rattle.volume_chain.specs.Knowing.{HaveLengths}
use Rattle.volume_chain.specs.declared.chain.Chain.{Chain}
use Rattle.volume_chain.proofs.Stays.{alone_same, grow_longer}
use Rattle.chain_reading.specs.Reading.{IsAskedFrom}
use Rattle.chain_reading.proofs.Survives.{image_down, image_grown, image_untouched}
use Rattle.cluster_filling.specs.Cluster.{IsWanted}
use Rattle.cluster_filling.specs.Filling.{Knows, KnowsCluster, KnowsFile, KnowsPiece, KnowsSource, cluster_of, done_of, file_at, front}
use Rattle.cluster_filling.specs.declared.cluster.Cluster.{Cluster}
use Rattle.cluster_filling.specs.declared.filling.Filling.{Filling}
use Rattle.cluster_filling.specs.declared.filling.Stage.{Stage}
use Rattle.cluster_filling.specs.declared.filling.Stage.TheVariants.{Begun, Reading, Read}
use Rattle.cluster_filling.proofs.Steps.{one_file}

-- ---- a filling

piece_kept : (stage : Stage) (k : Cluster) (done : ℕ) (c : Chain) (host : ℕ) (x : Volumes) (part piece : List ℕ) (d e : Content) → KnowsCluster k c host x part done e → KnowsPiece stage k done c host x part piece d
    → KnowsPiece stage k done c host x part piece e
piece_kept Begun k done c host x part piece d e now was = tt
piece_kept (Reading read) k done c host x part piece d e now was =
    let r = was.knows in
    record {
      below = was.below;
      first = was.first;
      knows = record { image = (now.source read.volume was.below).image; volume = r.volume; ends = r.ends; so_far = r.so_far };
    }
piece_kept Read k done c host x part piece d e now was = was

pub filling_kept : (p : Filling) (c : Chain) (host : ℕ) (x : Volumes) (part room : List ℕ) (d e : Content) → Knows p c host x part room d → KnowsCluster (cluster_of p) c host x part (done_of p) e → Knows p c host x part room e
filling_kept p c host x part room d e was now = record { cluster = now; so_far = piece_kept p.stage p.cluster p.done c host x part (front p room) d e now was.so_far }

-- ---- other files change

pub cluster_untouched : (k : Cluster) (c : Chain) (host : ℕ) (x : Volumes) (part : List ℕ) (done : ℕ) (d e : Content) → e.file (file_at k c) ≡ d.file (file_at k c)
    → ((u w : Id) → k.below ≡ Some u → IsAskedFrom c u w → e.file (place_in (target_of c) w) ≡ d.file (place_in (target_of c) w)) → KnowsCluster k c host x part done d → KnowsCluster k c host x part done e
cluster_untouched k c host x part done d e same others was = record {
  source = λ u is.
      let s = was.source u is in
      record {
        image = image_untouched c c u host x d e (record { shape = s.image.shape; target = refl; path = refl; all = refl; opened = λ i from. refl }) (λ w at. others u w is at) s.image;
        volume = s.volume;
        apart = s.apart;
      };
  file = record { file = was.file.file; there = same ∙ was.file.there; alone = was.file.alone; inside = was.file.inside; filled = was.file.filled };
}

-- ---- another host goes down

source_down : (k : Cluster) (c : Chain) (host other : ℕ) (x : Volumes) (u : Id) (d e : Content) → host ≢ other → DownLeaves d other e → KnowsSource k c host x u d → KnowsSource k c host x u e
source_down k c host other x u d e apart down s = record { image = image_down c u host other x d e apart down s.image; volume = s.volume; apart = s.apart }

pub cluster_down : (k : Cluster) (c : Chain) (host other : ℕ) (x : Volumes) (part : List ℕ) (done : ℕ) (d e : Content) → host ≢ other → DownLeaves d other e → KnowsCluster k c host x part done d → KnowsCluster k c host x part done e
cluster_down k c host other x part done d e apart down was = record {
  source = λ u is. source_down k c host other x u d e apart down (was.source u is);
  file = record {
    file = was.file.file;
    there = alone_same (file_at k c) host other d e apart down alone ∙ was.file.there;
    alone = was.file.alone;
    inside = was.file.inside;
    filled = was.file.filled;
  };
}
  where
    alone : (f : File) → d.file (file_at k c) ≡ Some f → IsAlone host f
    alone f there = subst (λ (g : File). IsAlone host g) (one_file (d.file (file_at k c)) was.file.file f was.file.there there) was.file.alone

-- ---- files get longer

grown_alone : (host size : ℕ) (f : File) → IsAlone host f → IsAlone host (grown size f)
grown_alone host size f alone = go (nat_lt f.size size)
  where
    go : (b : Bool) → IsAlone host (if b then raised size f else f)
    go true = record { loose = alone.loose; fresh = alone.fresh }
    go false = alone

grown_seen : (host size n : ℕ) (f : File) → n < f.size → seen host (grown size f) n ≡ seen host f n
grown_seen host size n f less = go (nat_lt f.size size)
  where
    go : (b : Bool) → seen host (if b then raised size f else f) n ≡ seen host f n
    go true = ap (λ t. unwrap_or (own_of host n f.loose) (if t then f.stable n else zero_sector)) (lt-ltb n f.size less)
    go false = refl

alone_longer : (host : ℕ) (f g : File) → MayGrow f g → IsAlone host f → IsAlone host g
alone_longer host f g (inl same) alone = subst (λ (h : File). IsAlone host h) (sym same) alone
alone_longer host f g (inr grows) alone = subst (λ (h : File). IsAlone host h) (sym grows.3) (grown_alone host grows.0 f alone)

seen_longer : (host n : ℕ) (f g : File) → MayGrow f g → n < f.size → seen host g n ≡ seen host f n
seen_longer host n f g (inl same) less = ap (λ (h : File). seen host h n) same
seen_longer host n f g (inr grows) less = ap (λ (h : File). seen host h n) grows.3 ∙ grown_seen host grows.0 n f less

file_longer : (k : Cluster) (c : Chain) (host : ℕ) (x : Volumes) (part : List ℕ) (done : ℕ) (d e : Content) (g : File) → done ≤ k.count → (was : KnowsFile k c host x part done d) → e.file (file_at k c) ≡ Some g → MayGrow was.file g
    → KnowsFile k c host x part done e
file_longer k c host x part done d e g few was there grows = record {
  file = g;
  there = there;
  alone = alone_longer host was.file g grows was.alone;
  inside = let within = was.inside in let longer = (grow_longer was.file g grows).size in omega (arith, within, longer);
  filled = λ j less. subst (λ (s : List ℕ). IsWanted k c x part (k.first + j) s) (sym (seen_longer host (k.target + j) was.file g grows (let within = was.inside in omega (arith, within, less, few)))) (was.filled j less);
}

pub cluster_grown : (k : Cluster) (c : Chain) (host : ℕ) (x : Volumes) (part : List ℕ) (done : ℕ) (d e : Content) → done ≤ k.count → MayHaveGrown (folder_of (dir_in (target_of c)) d) (folder_of (dir_in (target_of c)) e)
    → HaveLengths (target_of c) e → KnowsCluster k c host x part done d → KnowsCluster k c host x part done e
cluster_grown k c host x part done d e few grown_to lengths was = record {
  source = λ u is. let s = was.source u is in record { image = image_grown c u host x d e grown_to lengths s.image; volume = s.volume; apart = s.apart };
  file =
      let g = also_some MayGrow (d.file (file_at k c)) (e.file (file_at k c)) was.file.file (grown_to.file k.volume) was.file.there in
      file_longer k c host x part done d e g.0 few was.file g.1 g.2;
}
