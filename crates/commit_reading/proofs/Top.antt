-- What a look-up in the top finds.
use Rattle.std.proofs.Common.{◌≡◌, ◌⊎◌, ℕ, suc, ◌+◌, ◌-◌, ◌*◌, ◌/◌, ◌%◌, ◌^◌, ◌<◌, ◌≤◌, Bool, true, false, List, [], ◌∷◌, slice_get, Option, Some, None, refl, sym, ap, ◌∙◌, subst, inl, inr, arith}
use Rattle.std.specs.Prelude.{if◌then◌else◌}
use Rattle.std.specs.List.{Contains}
use Rattle.std.proofs.lemmas.Bool.{false≢true}
use Rattle.std.proofs.lemmas.Nat.{div-mul-add}
use Rattle.sd_names.specs.Turn.{MatchTurn}
use Rattle.sd_names.specs.declared.id.Id.{Id}
use Rattle.sd_names.specs.declared.place.Place.{Place}
use Rattle.sd_names.specs.declared.refusal.Refusal.{Refusal}
use Rattle.sd_names.specs.declared.turn.Turn.{Turn}
use Rattle.sd_names.specs.declared.turn.Turn.TheVariants.{More, Done, Ended}
use Rattle.shared_disk.specs.Content.{Content, File, seen}
use Rattle.shared_disk.specs.Crash.{IsAlso}
use Rattle.shared_disk.specs.Places.{id_is}
use Rattle.shared_disk.proofs.Outcomes.{cons_cases, nothing_in}
use Rattle.shared_disk.proofs.Places.{id_is-itself, id_is-same}
use Rattle.qcow_format.specs.declared.entry.Entry.{Entry}
use Rattle.qcow_format.specs.declared.entry.Entry.TheVariants.{Absent, Zero, Data}
use Rattle.volume_meta.specs.declared.record.VolumeRecord.{VolumeRecord}
use Rattle.sd_names.specs.declared.kinds.Format.TheVariants as format
use Rattle.image_model.specs.File.{file_of}
use Rattle.image_model.specs.Layer.{entry_at}
use Rattle.image_model.specs.Soundness.{layer_header}
use Rattle.qcow_layer.specs.Knowing.{KnowsLayerOn, KnowsNumbers}
use Rattle.qcow_layer.specs.Looking.{IsFault, IsLookedUp, KnowsTable, LooksOn, cluster_of, table_of}
use Rattle.qcow_layer.specs.Opening.{header_kept, target_kept, work_kept}
use Rattle.qcow_layer.specs.declared.layer.Layer.{Layer}
use Rattle.qcow_layer.specs.declared.looking.Looked.{Looked}
use Rattle.qcow_layer.specs.declared.looking.Looking.{Looking}
use Rattle.qcow_layer.specs.declared.stages.Target as layers
use Rattle.qcow_layer.proofs.Knowing.{seen_whole, settled_seen}
use Rattle.qcow_layer.proofs.Pieces.{same_file}
use Rattle.chain_model.specs.Folder.{Volumes}
use Rattle.chain_model.specs.Growth.{IsLonger}
use Rattle.chain_model.specs.Own.{own, own_by, sectors_of}
use Rattle.chain_model.proofs.LongerFiles.{own_grown}
use Rattle.volume_chain.specs.Chain.{IsOpenAs, layer_of, open_in, path_in, place_in, target_of}
use Rattle.volume_chain.specs.declared.chain.Chain.{Chain}
use Rattle.volume_chain.specs.declared.subchain.Subchain.{Subchain}
use Rattle.volume_chain.specs.declared.volumes.OpenVolume.TheVariants as volumes
use Rattle.chain_reading.specs.Asked.{cluster_sectors, sectors_by, sectors_in}
use Rattle.chain_reading.specs.Knowing.{IsReadable, KnowsImage, held_by, place_on, records_of, tables_in}
use Rattle.chain_reading.specs.Looking.{LooksAt}
use Rattle.chain_reading.proofs.Looks.{IsHere, IsLayerHere, here, table_longer, table_shorter}
use Rattle.chain_reading.proofs.Numbers.{some_width, width}
use Rattle.chain_reading.proofs.Owning.{along_at, cow_held, cow_record, held_longer}
use Rattle.commit_reading.specs.Knowing.{HoldsFrom, HoldsNone, KnowsLooking, KnowsTop}
use Rattle.commit_reading.specs.Pieces.{end_in, first_in, width_by, width_in}

-- ---- the top on the path

later : (v w : Id) (ws : List Id) → id_is w v ≡ false → (w ≡ v) ⊎ Contains ws v → Contains ws v
later v w ws e (inl same) = absurd (false≢true (sym e ∙ subst (λ (z : Id). id_is w z ≡ true) same (id_is-itself w)))
later v w ws e (inr c) = c

path_there_by : (v w : Id) (ws : List Id) → (Contains ws v → slice_get ws (place_on v ws) ≡ Some v) → (b : Bool) → id_is w v ≡ b → (w ≡ v) ⊎ Contains ws v → slice_get (w ∷ ws) (if b then 0 else suc (place_on v ws)) ≡ Some v
path_there_by v w ws rest true e h = ap (λ (z : Id). Some z) (id_is-same w v e)
path_there_by v w ws rest false e h = rest (later v w ws e h)

pub path_there : (v : Id) (ws : List Id) → Contains ws v → slice_get ws (place_on v ws) ≡ Some v
path_there v [] h = absurd (nothing_in v h)
path_there v (w ∷ ws) h = path_there_by v w ws (path_there v ws) (id_is w v) refl (cons_cases w v ws h)

some_file : (a o : Option File) (g : File) → IsAlso IsLonger a o → o ≡ Some g → (f : File) × (a ≡ Some f)
some_file None None g also e = absurd cc
some_file None (Some h) g also e = absurd also
some_file (Some f) o g also e = (f, refl)

div_here : (n s k : ℕ) → k * s ≤ n → n < k * s + s → n / s ≡ k
div_here n s k low high =
    let e : n ≡ k * s + (n - k * s) = omega (arith, low) in
    ap (λ m. m / s) e ∙ div-mul-add k s (n - k * s) (omega (arith, low, high))

-- ---- a layer of the path, with its file

module _ (c : Chain) (u : Id) (host : ℕ) (x : Volumes) (d : Content) (l : Layer) (k : KnowsImage c u host x d) (path : Contains (path_in c) u) (layer : slice_get (open_in c) (place_on u (path_in c)) ≡ Some (volumes.Cow l)) where
  at_path : slice_get (path_in c) (place_on u (path_in c)) ≡ Some u
  at_path = path_there u (path_in c) path

  readable : IsReadable c host x d u (volumes.Cow l)
  readable = k.each (place_on u (path_in c)) u (volumes.Cow l) (record { from = omega arith; volume = at_path; opened = layer })

  known : KnowsLayerOn l host d
  known = readable.known

  says : (rec : VolumeRecord) × (records_of c u ≡ Some rec) × (rec.format ≡ format.Cow) × (target_kept l ≡ layer_of (target_of c) u rec)
  says = cow_record (target_of c) u l (records_of c u) (along_at (λ v o. IsOpenAs (target_of c) v (records_of c v) o) (path_in c) (open_in c) (place_on u (path_in c)) u (volumes.Cow l) k.shape.each at_path layer)

  place : (target_kept l).place ≡ place_in (target_of c) u
  place = ap (λ (t : layers.Target). t.place) says.3

  pub file_there : (f : File) × (x.file u ≡ Some f)
  file_there = some_file (x.file u) (d.file (place_in (target_of c) u)) known.file readable.longer (sym (ap (λ (q : Place). d.file q) place) ∙ known.there)

  pub top_here : (f : File) → x.file u ≡ Some f → IsLayerHere c d u l f
  top_here f is =
      let at : IsHere c d u f = here c host x d u (volumes.Cow l) f readable is in
      let there : d.file (target_kept l).place ≡ Some at.file = ap (λ (q : Place). d.file q) place ∙ at.there in
      let same : known.file ≡ at.file = same_file d (target_kept l).place at.file known.file there known.there in
      let sees : seen host known.file ≡ at.file.stable = ap (seen host) same ∙ settled_seen host at.file at.settled in
      let numbers : KnowsNumbers l (file_of at.file.size at.file.stable) =
      subst (λ (g : ℕ → List ℕ). KnowsNumbers l (file_of at.file.size g)) sees (subst (λ (g : File). KnowsNumbers l (file_of g.size (seen host known.file))) same known.knows.numbers) in
      let capacity : (target_kept l).capacity ≡ says.0.capacity = ap (λ (t : layers.Target). t.capacity) says.3 in
      record {
        is = at;
        says = says.0;
        recorded = says.1;
        cow = says.2;
        numbers = numbers;
        fits = subst (λ (g : File). 512 * g.size < 2 ^ 64) same known.knows.fits;
        seen_there = λ h. seen_whole h (target_kept l).place at.file d at.settled there;
        head = ap (λ (n : ℕ). layer_header (file_of at.file.size at.file.stable) n) (sym capacity) ∙ numbers.header;
      }

  -- what the entry that was found says of each sector of its cluster
  pub top_held : (f : File) (is : x.file u ≡ Some f) (cluster : ℕ) (looked : Looked) → IsLookedUp (tables_in l (top_here f is).is.file) cluster looked → (n : ℕ) → n < sectors_in c u → n / cluster_sectors l ≡ cluster
      → own (records_of c) x u n ≡ held_by looked.entry f (n % cluster_sectors l)
  top_held f is cluster looked finds n less same =
      let at : IsLayerHere c d u l f = top_here f is in
      let bits : 12 ≤ (header_kept l).cluster_bits = (work_kept l).low in
      let some : 0 < cluster_sectors l = some_width (header_kept l).cluster_bits (omega (arith, bits)) in
      let low : n < sectors_of at.says = subst (λ (q : Option VolumeRecord). n < sectors_by q) at.recorded less in
      let now : own_by (records_of c u) (Some at.is.file) n ≡ held_by (entry_at (tables_in l at.is.file) (n / cluster_sectors l)) at.is.file (n % cluster_sectors l) =
      cow_held (records_of c) (record { text = x.text; file = λ _. Some at.is.file }) u at.says at.is.file (header_kept l) n (cluster_sectors l) at.recorded refl at.cow at.head low some (width (header_kept l).cluster_bits (omega (arith, bits))) in
      let entry : entry_at (tables_in l at.is.file) (n / cluster_sectors l) ≡ looked.entry = ap (entry_at (tables_in l at.is.file)) same ∙ sym finds.entry in
      ap (λ (q : Option File). own_by (records_of c u) q n) is ∙ sym (own_grown (records_of c u) (Some f) (Some at.is.file) n at.is.longer) ∙ now
      ∙ ap (λ e. held_by e at.is.file (n % cluster_sectors l)) entry ∙ held_longer looked.entry f at.is.file (n % cluster_sectors l) at.is.longer

  -- what a step of the look-up finds in the file as it is
  pub found_there : (e : Content) (f : File) (is : x.file u ≡ Some f) (looking : Looking) (cluster : ℕ) (turn : Turn Looking Looked (Unit {0})) → cluster_of looking ≡ cluster → KnowsTable (tables_in l f) cluster (table_of looking)
      → LooksOn looking l host turn d e
      → MatchTurn turn
      (λ next. (cluster_of next ≡ cluster_of looking) × KnowsTable (tables_in l (top_here f is).is.file) (cluster_of looking) (table_of next))
      (λ looked. IsLookedUp (tables_in l (top_here f is).is.file) (cluster_of looking) looked)
      (λ _ refusal. IsFault refusal)
  found_there e f is looking cluster turn number table looks =
      let at : IsLayerHere c d u l f = top_here f is in
      looks.after at.is.file.size at.is.file.stable (at.seen_there host) at.fits at.numbers
      (subst (λ n. KnowsTable (tables_in l at.is.file) n (table_of looking)) (sym number) (table_longer l f at.is.file cluster (table_of looking) at.is.longer table))

-- ---- a step of the look-up in the top

module _ (c : Chain) (sub : Subchain) (cluster host : ℕ) (x : Volumes) (d e : Content) (looking : Looking) (top : KnowsTop c sub host x d) (knows : KnowsLooking c sub cluster x looking) where
  pub look_more : (further : Looking) → LooksAt c (place_on sub.top (path_in c)) looking host (More further) d e → KnowsLooking c sub cluster x further
  look_more further at =
      let l : Layer = top.layer.0 in
      let there = file_there c sub.top host x d l top.image top.path top.layer.1 in (
        (found_there c sub.top host x d l top.image top.path top.layer.1 e there.0 there.1 looking cluster (More further) knows.0 (knows.1 l there.0 top.layer.1 there.1) (at.looks l top.layer.1)).0 ∙ knows.0,
        λ m f layer is.
            let found = found_there c sub.top host x d m top.image top.path layer e f is looking cluster (More further) knows.0 (knows.1 m f layer is) (at.looks m layer) in
            let here_is = (top_here c sub.top host x d m top.image top.path layer f is).is in
            table_shorter m f here_is.file cluster (table_of further) here_is.longer (subst (λ n. KnowsTable (tables_in m here_is.file) n (table_of further)) knows.0 found.1),
      )

  -- each sector of the cluster is held as the entry says
  pub look_done : (looked : Looked) → LooksAt c (place_on sub.top (path_in c)) looking host (Done looked) d e → (n : ℕ) → first_in c sub cluster ≤ n → n < end_in c sub cluster
      → (f : File) × (m : ℕ) × (own (records_of c) x sub.top n ≡ held_by looked.entry f m)
  look_done looked at n low high =
      let l : Layer = top.layer.0 in
      let there = file_there c sub.top host x d l top.image top.path top.layer.1 in
      let found = found_there c sub.top host x d l top.image top.path top.layer.1 e there.0 there.1 looking cluster (Done looked) knows.0 (knows.1 l there.0 top.layer.1 there.1) (at.looks l top.layer.1) in
      let finds : IsLookedUp (tables_in l (top_here c sub.top host x d l top.image top.path top.layer.1 there.0 there.1).is.file) cluster looked =
      subst (λ m. IsLookedUp (tables_in l (top_here c sub.top host x d l top.image top.path top.layer.1 there.0 there.1).is.file) m looked) knows.0 found in
      let wide : width_in c sub.top ≡ cluster_sectors l = ap width_by top.layer.1 in
      let from : cluster * width_in c sub.top ≤ n = omega (arith, low, high) in
      let to : n < cluster * width_in c sub.top + width_in c sub.top = omega (arith, high) in
      let less : n < sectors_in c sub.top = omega (arith, high) in
      let number : n / cluster_sectors l ≡ cluster = subst (λ s. n / s ≡ cluster) wide (div_here n (width_in c sub.top) cluster from to) in
      (there.0, n % cluster_sectors l, top_held c sub.top host x d l top.image top.path top.layer.1 there.0 there.1 cluster looked finds n less number)

  pub look_ended : (b : Unit {0}) (refusal : Refusal) → LooksAt c (place_on sub.top (path_in c)) looking host (Ended b refusal) d e → IsFault refusal
  look_ended b refusal at =
      let l : Layer = top.layer.0 in
      let there = file_there c sub.top host x d l top.image top.path top.layer.1 in
      found_there c sub.top host x d l top.image top.path top.layer.1 e there.0 there.1 looking cluster (Ended b refusal) knows.0 (knows.1 l there.0 top.layer.1 there.1) (at.looks l top.layer.1)

  pub look_none : (looked : Looked) → looked.entry ≡ Absent → LooksAt c (place_on sub.top (path_in c)) looking host (Done looked) d e → HoldsNone c sub cluster x
  look_none looked is at n low high =
      let held = look_done looked at n low high in
      held.2 ∙ ap (λ (y : Entry). held_by y held.0 held.1) is

  pub look_zero : (looked : Looked) (place' : ℕ) → looked.entry ≡ Zero place' → LooksAt c (place_on sub.top (path_in c)) looking host (Done looked) d e → HoldsFrom c sub x (first_in c sub cluster) (end_in c sub cluster)
  look_zero looked place' is at n low high =
      let held = look_done looked at n low high in
      (_, held.2 ∙ ap (λ (y : Entry). held_by y held.0 held.1) is)

  pub look_data : (looked : Looked) (place' : ℕ) → looked.entry ≡ Data place' → LooksAt c (place_on sub.top (path_in c)) looking host (Done looked) d e → HoldsFrom c sub x (first_in c sub cluster) (end_in c sub cluster)
  look_data looked place' is at n low high =
      let held = look_done looked at n low high in
      (_, held.2 ∙ ap (λ (y : Entry). held_by y held.0 held.1) is)
