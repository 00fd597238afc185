-- What a chain that knows its image says of the volume that is asked, and what a look-up in it finds.
use Rattle.std.proofs.Common.{◌≡◌, ℕ, ◌*◌, ◌/◌, ◌%◌, ◌^◌, ◌<◌, ◌≤◌, List, slice_get, Option, Some, None, Ok, refl, sym, ap, ◌∙◌, subst, arith}
use Rattle.std.specs.Prelude.{max}
use Rattle.sd_names.specs.Turn.{MatchTurn}
use Rattle.sd_names.specs.declared.id.Id.{Id}
use Rattle.sd_names.specs.declared.kinds.Format.TheVariants as format
use Rattle.sd_names.specs.declared.place.Place.{Place}
use Rattle.sd_names.specs.declared.turn.Turn.{Turn}
use Rattle.sd_names.specs.declared.turn.Turn.TheVariants.{More, Done, Ended}
use Rattle.shared_disk.specs.Content.{Content, File, seen}
use Rattle.shared_disk.specs.Crash.{IsAlso, IsSettled}
use Rattle.qcow_format.specs.Bytes.{number as number_at}
use Rattle.qcow_format.specs.Entry.{table_in}
use Rattle.volume_meta.specs.declared.record.VolumeRecord.{VolumeRecord}
use Rattle.image_model.specs.File.{file_of, sector_in}
use Rattle.image_model.specs.Layer.{entries, entry_at, l1_at, l1_entry}
use Rattle.image_model.specs.Soundness.{layer_header}
use Rattle.qcow_layer.specs.Knowing.{KnowsLayerOn, KnowsNumbers}
use Rattle.qcow_layer.specs.Looking.{IsFault, IsLookedUp, KnowsTable, LooksOn, cluster_of, table_of}
use Rattle.qcow_layer.specs.Opening.{header_kept, target_kept, work_kept}
use Rattle.qcow_layer.specs.Seen.{IsSeen}
use Rattle.qcow_layer.specs.declared.layer.Layer.{Layer}
use Rattle.qcow_layer.specs.declared.looking.Looked.{Looked}
use Rattle.qcow_layer.specs.declared.looking.Looking.{Looking}
use Rattle.qcow_layer.specs.declared.stages.Target as layers
use Rattle.qcow_layer.proofs.Knowing.{seen_whole, settled_seen}
use Rattle.qcow_layer.proofs.Pieces.{same_file}
use Rattle.chain_model.specs.Folder.{Volumes}
use Rattle.chain_model.specs.Growth.{IsLonger}
use Rattle.chain_model.specs.Own.{header_in, own, own_by, sectors_of}
use Rattle.chain_model.proofs.LongerFiles.{own_grown}
use Rattle.volume_chain.specs.Chain.{IsOpenAs, layer_of, open_in, path_in, place_in, target_of}
use Rattle.volume_chain.specs.declared.chain.Chain.{Chain}
use Rattle.volume_chain.specs.declared.volumes.OpenVolume.{OpenVolume}
use Rattle.volume_chain.specs.declared.volumes.OpenVolume.TheVariants as volumes
use Rattle.chain_reading.specs.Asked.{cluster_sectors, sectors_by, sectors_in}
use Rattle.chain_reading.specs.Knowing.{IsLayerAsked, IsLow, KnowsEntry, IsReadable, KnowsImage, KnowsLooking, held_by, number, place_on, records_of, tables_in}
use Rattle.chain_reading.specs.declared.part.ReadPart.{ReadPart}
use Rattle.chain_reading.proofs.Numbers.{some_width, width}
use Rattle.chain_reading.proofs.Owning.{along_at, cow_held, cow_record, held_longer, low_entry, none_held, raw_held, raw_record}

-- ---- the file of a volume, as it is

pub record IsHere (c : Chain) (d : Content) (v : Id) (f : File) : Type 0 where
  pub file : File
  pub there : d.file (place_in (target_of c) v) ≡ Some file
  pub longer : IsLonger f file
  pub settled : IsSettled file

here_by : (c : Chain) (d : Content) (v : Id) (f : File) (a o : Option File) → ((g : File) → d.file (place_in (target_of c) v) ≡ Some g → IsSettled g) → d.file (place_in (target_of c) v) ≡ o → a ≡ Some f → IsAlso IsLonger a o → IsHere c d v f
here_by c d v f None o settled there is also = absurd cc
here_by c d v f (Some g) None settled there is also = absurd also
here_by c d v f (Some g) (Some h) settled there is also =
    let e : g ≡ f = cc in
    record { file = h; there = there; longer = subst (λ (z : File). IsLonger z h) e also; settled = settled h there }

pub here : (c : Chain) (host : ℕ) (x : Volumes) (d : Content) (v : Id) (o : OpenVolume) (f : File) → IsReadable c host x d v o → x.file v ≡ Some f → IsHere c d v f
here c host x d v o f k is = here_by c d v f (x.file v) (d.file (place_in (target_of c) v)) k.settled refl is k.longer

-- ---- sectors of the volume that is asked

pub none_asked : (c : Chain) (x : Volumes) (v : Id) (n : ℕ) → sectors_in c v ≤ n → own (records_of c) x v n ≡ None
none_asked c x v n le = none_held (records_of c v) (x.file v) n le

pub raw_asked : (c : Chain) (u : Id) (host : ℕ) (x : Volumes) (d : Content) (i : ℕ) (v : Id) (f : File) (length n : ℕ) → KnowsImage c u host x d → slice_get (path_in c) i ≡ Some v
    → slice_get (open_in c) i ≡ Some (volumes.Raw length) → x.file v ≡ Some f → n < sectors_in c v → own (records_of c) x v n ≡ Some (sector_in f.size f.stable n)
raw_asked c u host x d i v f length n k is opens there less =
    go (raw_record (target_of c) v length (records_of c v) (along_at (λ u o. IsOpenAs (target_of c) u (records_of c u) o) (path_in c) (open_in c) i v (volumes.Raw length) k.shape.each is opens))
  where
    go : (rec : VolumeRecord) × (records_of c v ≡ Some rec) × (rec.format ≡ format.Raw) → own (records_of c) x v n ≡ Some (sector_in f.size f.stable n)
    go says = raw_held (records_of c) x v says.0 f n says.1 there says.2 (subst (λ (q : Option VolumeRecord). n < sectors_by q) says.1 less)

-- ---- the layer that is asked

-- its record, its file as it is, and the layer's header, which is the one there
pub record IsLayerHere (c : Chain) (d : Content) (v : Id) (l : Layer) (f : File) : Type 0 where
  pub is : IsHere c d v f
  pub says : VolumeRecord
  pub recorded : records_of c v ≡ Some says
  pub cow : says.format ≡ format.Cow
  pub numbers : KnowsNumbers l (file_of is.file.size is.file.stable)
  pub fits : 512 * is.file.size < 2 ^ 64
  pub seen_there : (host : ℕ) → IsSeen host (target_kept l).place is.file.size is.file.stable d
  pub head : header_in says is.file ≡ Ok (header_kept l)

pub layer_here : (p : ReadPart) (c : Chain) (host : ℕ) (x : Volumes) (d : Content) (l : Layer) (f : File) → KnowsImage c p.volume host x d → place_on p.volume (path_in c) ≤ p.index → (a : IsLayerAsked p c x l f) → IsLayerHere c d a.volume l f
layer_here p c host x d l f k from a = go (cow_record (target_of c) a.volume l (records_of c a.volume) (along_at (λ u o. IsOpenAs (target_of c) u (records_of c u) o) (path_in c) (open_in c) p.index a.volume (volumes.Cow l) k.shape.each a.is.volume a.layer))
  where
    readable : IsReadable c host x d a.volume (volumes.Cow l)
    readable = k.each p.index a.volume (volumes.Cow l) (record { from = from; volume = a.is.volume; opened = a.layer })

    known : KnowsLayerOn l host d
    known = readable.known

    at : IsHere c d a.volume f
    at = here c host x d a.volume (volumes.Cow l) f readable a.is.file

    go : (rec : VolumeRecord) × (records_of c a.volume ≡ Some rec) × (rec.format ≡ format.Cow) × (target_kept l ≡ layer_of (target_of c) a.volume rec) → IsLayerHere c d a.volume l f
    go says =
        let place : (target_kept l).place ≡ place_in (target_of c) a.volume = ap (λ (t : layers.Target). t.place) says.3 in
        let there : d.file (target_kept l).place ≡ Some at.file = ap (λ (q : Place). d.file q) place ∙ at.there in
        let same : known.file ≡ at.file = same_file d (target_kept l).place at.file known.file there known.there in
        let sees : seen host known.file ≡ at.file.stable = ap (seen host) same ∙ settled_seen host at.file at.settled in
        let numbers : KnowsNumbers l (file_of at.file.size at.file.stable) =
        subst (λ (g : ℕ → List ℕ). KnowsNumbers l (file_of at.file.size g)) sees (subst (λ (g : File). KnowsNumbers l (file_of g.size (seen host known.file))) same known.knows.numbers) in
        let capacity : (target_kept l).capacity ≡ says.0.capacity = ap (λ (t : layers.Target). t.capacity) says.3 in
        record {
          is = at;
          says = says.0;
          recorded = says.1;
          cow = says.2;
          numbers = numbers;
          fits = subst (λ (g : File). 512 * g.size < 2 ^ 64) same known.knows.fits;
          seen_there = λ h. seen_whole h (target_kept l).place at.file d at.settled there;
          head = ap (λ (n : ℕ). layer_header (file_of at.file.size at.file.stable) n) (sym capacity) ∙ numbers.header;
        }

-- ---- the table of a cluster, in a file that got longer

entry_longer : (l : Layer) (f g : File) (i : ℕ) → IsLonger f g → l1_entry (tables_in l g) i ≡ l1_entry (tables_in l f) i
unfolding file_of
entry_longer l f g i longer = ap (λ (s : List ℕ). table_in (number_at 8 (l1_at (tables_in l f) i / 8 % 64 * 8) s) (l1_at (tables_in l f) i)) (longer.sectors (l1_at (tables_in l f) i / 8 / 64))

pub table_longer : (l : Layer) (f g : File) (n : ℕ) (table : Option ℕ) → IsLonger f g → KnowsTable (tables_in l f) n table → KnowsTable (tables_in l g) n table
table_longer l f g n None longer knows = tt
table_longer l f g n (Some table) longer knows = (knows.0, entry_longer l f g (n / entries (tables_in l f)) longer ∙ knows.1)

pub table_shorter : (l : Layer) (f g : File) (n : ℕ) (table : Option ℕ) → IsLonger f g → KnowsTable (tables_in l g) n table → KnowsTable (tables_in l f) n table
table_shorter l f g n None longer knows = tt
table_shorter l f g n (Some table) longer knows = (knows.0, sym (entry_longer l f g (n / entries (tables_in l f)) longer) ∙ knows.1)

-- ---- what an entry that was found says

pub entry_known : (p : ReadPart) (c : Chain) (host : ℕ) (x : Volumes) (d : Content) (l : Layer) (f : File) (k : KnowsImage c p.volume host x d) (from : place_on p.volume (path_in c) ≤ p.index) (a : IsLayerAsked p c x l f)
    (looked : Looked) → IsLookedUp (tables_in l (layer_here p c host x d l f k from a).is.file) (number p l) looked → KnowsEntry p c x looked.entry
entry_known p c host x d l f k from a looked finds = record {
  layer = l;
  file = f;
  asked = a;
  low = subst IsLow (sym finds.entry) (low_entry (tables_in l at.is.file) (number p l));
  held = λ n less same. held n less same;
}
  where
    at : IsLayerHere c d a.volume l f
    at = layer_here p c host x d l f k from a

    bits : 12 ≤ (header_kept l).cluster_bits
    bits = (work_kept l).low

    some : 0 < cluster_sectors l
    some = some_width (header_kept l).cluster_bits (omega (arith, bits))

    one : max (cluster_sectors l) 1 ≡ cluster_sectors l
    one = omega (arith, some)

    held : (n : ℕ) → n < sectors_in c a.volume → n / max (cluster_sectors l) 1 ≡ number p l → own (records_of c) x a.volume n ≡ held_by looked.entry f (n % max (cluster_sectors l) 1)
    held n less same =
        let low : n < sectors_of at.says = subst (λ (q : Option VolumeRecord). n < sectors_by q) at.recorded less in
        let now : own_by (records_of c a.volume) (Some at.is.file) n ≡ held_by (entry_at (tables_in l at.is.file) (n / cluster_sectors l)) at.is.file (n % cluster_sectors l) =
        cow_held (records_of c) (record { text = x.text; file = λ _. Some at.is.file }) a.volume at.says at.is.file (header_kept l) n (cluster_sectors l) at.recorded refl at.cow at.head low some (width (header_kept l).cluster_bits (omega (arith, bits))) in
        let entry : entry_at (tables_in l at.is.file) (n / cluster_sectors l) ≡ looked.entry =
        ap (λ m. entry_at (tables_in l at.is.file) (n / m)) (sym one) ∙ ap (entry_at (tables_in l at.is.file)) same ∙ sym finds.entry in
        ap (λ (q : Option File). own_by (records_of c a.volume) q n) a.is.file ∙ sym (own_grown (records_of c a.volume) (Some f) (Some at.is.file) n at.is.longer) ∙ now
        ∙ ap (λ e. held_by e at.is.file (n % cluster_sectors l)) entry ∙ held_longer looked.entry f at.is.file (n % cluster_sectors l) at.is.longer
        ∙ ap (λ m. held_by looked.entry f (n % m)) (sym one)

-- ---- a step of the look-up

pub looked_on : (p : ReadPart) (c : Chain) (host : ℕ) (x : Volumes) (d e : Content) (l : Looking) (turn : Turn Looking Looked (Unit {0})) → KnowsImage c p.volume host x d → place_on p.volume (path_in c) ≤ p.index
    → (k : KnowsLooking p c x l)
    → LooksOn l k.layer host turn d e → MatchTurn turn (λ next. KnowsLooking p c x next) (λ looked. KnowsEntry p c x looked.entry) (λ _ refusal. IsFault refusal)
looked_on p c host x d e l turn image from k looks = go turn (looks.after at.is.file.size at.is.file.stable (at.seen_there host) at.fits at.numbers table)
  where
    at : IsLayerHere c d k.asked.volume k.layer k.file
    at = layer_here p c host x d k.layer k.file image from k.asked

    table : KnowsTable (tables_in k.layer at.is.file) (cluster_of l) (table_of l)
    table = subst (λ n. KnowsTable (tables_in k.layer at.is.file) n (table_of l)) (sym k.cluster) (table_longer k.layer k.file at.is.file (number p k.layer) (table_of l) at.is.longer k.table)

    go : (t : Turn Looking Looked (Unit {0})) → MatchTurn t
        (λ next. (cluster_of next ≡ cluster_of l) × KnowsTable (tables_in k.layer at.is.file) (cluster_of l) (table_of next))
        (λ looked. IsLookedUp (tables_in k.layer at.is.file) (cluster_of l) looked)
        (λ _ refusal. IsFault refusal)
        → MatchTurn t (λ next. KnowsLooking p c x next) (λ looked. KnowsEntry p c x looked.entry) (λ _ refusal. IsFault refusal)
    go (More next) found = record {
      layer = k.layer;
      file = k.file;
      asked = k.asked;
      cluster = found.0 ∙ k.cluster;
      table = subst (λ n. KnowsTable (tables_in k.layer k.file) n (table_of next)) k.cluster (table_shorter k.layer k.file at.is.file (cluster_of l) (table_of next) at.is.longer found.1);
    }
    go (Done looked) found = entry_known p c host x d k.layer k.file image from k.asked looked (subst (λ n. IsLookedUp (tables_in k.layer at.is.file) n looked) k.cluster found)
    go (Ended b refusal) found = found
