-- The volumes of a path below one of it, and what a volume reads where it holds nothing itself.
use Rattle.std.proofs.Common.{◌≡◌, ℕ, zero, suc, ◌+◌, ◌<◌, Bool, true, false, List, [], ◌∷◌, drop, slice_get, Option, Some, None, unwrap_or, refl, sym, ap, ◌∙◌, subst, arith}
use Rattle.std.specs.Prelude.{if◌then◌else◌}
use Rattle.std.specs.List.{Contains}
use Rattle.sd_names.specs.declared.id.Id.{Id}
use Rattle.shared_disk.specs.Calls.{sectors_in}
use Rattle.shared_disk.specs.Content.{Content, zero_sector}
use Rattle.shared_disk.specs.Places.{id_is}
use Rattle.shared_disk.proofs.Outcomes.{contains_here}
use Rattle.shared_disk.proofs.Places.{id_is-itself, id_is-same}
use Rattle.qcow_format.specs.declared.entry.Entry.{Entry}
use Rattle.qcow_format.specs.declared.entry.Entry.TheVariants.{Absent, Zero, Data}
use Rattle.chain_model.specs.Chain.{IsBelow, counting, path_of}
use Rattle.chain_model.specs.Flat.{first_of, flat}
use Rattle.chain_model.specs.Folder.{Volumes}
use Rattle.chain_model.specs.Own.{own}
use Rattle.chain_model.specs.Records.{Records}
use Rattle.chain_model.proofs.Chains.{below_one}
use Rattle.chain_records.specs.Paths.{IsReadingPath}
use Rattle.chain_records.proofs.Settled.{counted}
use Rattle.volume_chain.specs.Chain.{IsShaped, path_in}
use Rattle.volume_chain.specs.declared.chain.Chain.{Chain}
use Rattle.volume_chain.proofs.Along.{next_among, next_begins}
use Rattle.volume_chain.proofs.Apart.{AreApart, path_apart}
use Rattle.chain_reading.specs.Knowing.{KnowsImage, place_on, records_of}
use Rattle.chain_reading.proofs.Paths.{path_from}
use Rattle.cluster_filling.specs.Cluster.{IsIn, IsWanted, ReadsBelow, source_on}
use Rattle.cluster_filling.specs.Filled.{HoldsNoData}
use Rattle.cluster_filling.specs.Filling.{KnowsSource}
use Rattle.cluster_filling.specs.declared.cluster.Cluster.{Cluster}

-- a volume stands at one index alone
pub place_is : (path : List Id) (n : ℕ) (v : Id) → AreApart path → slice_get path n ≡ Some v → place_on v path ≡ n
place_is [] n v apart at = absurd cc
place_is (w ∷ ws) zero v apart at =
    let same : w ≡ v = cc in
    ap (λ b. if b then 0 else suc (place_on v ws)) (subst (λ (u : Id). id_is w u ≡ true) same (id_is-itself w))
place_is (w ∷ ws) (suc n) v apart at = go (id_is w v) refl (place_is ws n v apart.1 at)
  where
    go : (b : Bool) → id_is w v ≡ b → place_on v ws ≡ n → (if b then 0 else suc (place_on v ws)) ≡ suc n
    go true e rest = absurd (apart.0 (subst (λ (u : Id). Contains ws u) (sym (id_is-same w v e)) (next_among ws n v at)))
    go false e rest = ap suc rest

source_next : (path : List Id) (i : ℕ) (entry : Entry) (u : Id) → source_on path i entry ≡ Some u → slice_get path (i + 1) ≡ Some u
source_next path i Absent u e = e
source_next path i (Zero place) u e = absurd cc
source_next path i (Data place) u e = absurd cc

pub source_known : (k : Cluster) (c : Chain) (host : ℕ) (x : Volumes) (i : ℕ) (entry : Entry) (u : Id) (d : Content) → slice_get (path_in c) i ≡ Some k.volume → source_on (path_in c) i entry ≡ Some u → KnowsImage c u host x d
    → KnowsSource k c host x u d
source_known k c host x i entry u d at is image = record {
  image = image;
  volume = next_among (path_in c) (i + 1) u next;
  apart = λ w asked same.
      let here : place_on w (path_in c) ≡ asked.0 = place_is (path_in c) asked.0 w apart asked.2 in
      let there : place_on k.volume (path_in c) ≡ i = place_is (path_in c) i k.volume apart at in
      let one : place_on w (path_in c) ≡ place_on k.volume (path_in c) = ap (λ (v : Id). place_on v (path_in c)) same in
      let below : place_on u (path_in c) ≡ i + 1 = place_is (path_in c) (i + 1) u apart next in
      let from = asked.1 in
      absurd (omega (arith, here, there, one, below, from));
}
  where
    next : slice_get (path_in c) (i + 1) ≡ Some u
    next = source_next (path_in c) i entry u is

    apart : AreApart (path_in c)
    apart = path_apart (records_of c) (path_in c) image.shape.reading

-- ---- what the volume reads

-- the path from one of its volumes on
from_here : (r : Records) (path : List Id) (i : ℕ) (v : Id) (vs : List Id) → IsReadingPath r path → slice_get path i ≡ Some v → IsBelow r v vs → drop i path ≡ path_of r v vs
from_here r path i v vs reading at below =
    let same : path ≡ path_of r reading.0 reading.1 = reading.3 in
    let there : Contains (path_of r reading.0 reading.1) v = subst (λ (ws : List Id). Contains ws v) same (next_among path i v at) in
    let place : place_on v path ≡ i = place_is path i v (path_apart r path reading) at in
    ap (λ n. drop n path) (sym place)
    ∙ ap (λ (ws : List Id). drop (place_on v ws) ws) same
    ∙ path_from r v reading.0 reading.1 vs reading.2.below there below

tail_same : (v : Id) (vs ws : List Id) → v ∷ vs ≡ v ∷ ws → vs ≡ ws
tail_same v vs ws e = cc

-- those behind it are those that count below it
behind : (r : Records) (path : List Id) (i : ℕ) (v : Id) (vs : List Id) → IsReadingPath r path → slice_get path i ≡ Some v → IsBelow r v vs → drop (i + 1) path ≡ counting r vs
behind r path i v vs reading at below = tail_same v (drop (i + 1) path) (counting r vs) (sym (next_begins path i v at) ∙ from_here r path i v vs reading at below)

none_behind : (path : List Id) (n : ℕ) → slice_get path n ≡ None → drop n path ≡ []
none_behind [] zero e = refl
none_behind [] (suc n) e = refl
none_behind (w ∷ ws) zero e = absurd cc
none_behind (w ∷ ws) (suc n) e = none_behind ws n e

reads_behind : (r : Records) (x : Volumes) (path : List Id) (i n : ℕ) (v : Id) (vs : List Id) (s : List ℕ) (o : Option Id) → IsReadingPath r path → slice_get path i ≡ Some v → IsBelow r v vs → slice_get path (i + 1) ≡ o
    → ((u : Id) (us : List Id) → o ≡ Some u → IsBelow r u us → s ≡ flat r x u us n) → (o ≡ None → s ≡ zero_sector) → s ≡ first_of r x (counting r vs) n
reads_behind r x path i n v vs s None reading at below is some none =
    none refl ∙ ap (λ (ws : List Id). first_of r x ws n) (sym (none_behind path (i + 1) is) ∙ behind r path i v vs reading at below)
reads_behind r x path i n v vs s (Some u) reading at below is some none =
    let rest : drop (i + 1) path ≡ counting r vs = behind r path i v vs reading at below in
    let among : Contains (counting r vs) u = subst (λ (ws : List Id). Contains ws u) (sym (next_begins path (i + 1) u is) ∙ rest) (contains_here u (drop (i + 1 + 1) path)) in
    let us = below_one r v u vs below (counted r u vs among).0 in
    some u us.0 refl us.1 ∙ ap (λ (ws : List Id). first_of r x ws n) (sym (from_here r path (i + 1) u us.0 reading is us.1) ∙ rest)

below_none : (c : Chain) (x : Volumes) (o : Option Id) (n : ℕ) (s : List ℕ) → ReadsBelow c x o n s → o ≡ None → s ≡ zero_sector
below_none c x None n s reads e = reads
below_none c x (Some u) n s reads e = absurd cc

below_some : (c : Chain) (x : Volumes) (o : Option Id) (n : ℕ) (s : List ℕ) (u : Id) (us : List Id) → ReadsBelow c x o n s → o ≡ Some u → IsBelow (records_of c) u us → s ≡ flat (records_of c) x u us n
below_some c x None n s u us reads e at = absurd cc
below_some c x (Some w) n s u us reads e at = let same : w ≡ u = cc in subst (λ (v : Id). ReadsBelow c x (Some v) n s) same reads us at

reads_own : (c : Chain) (x : Volumes) (i n : ℕ) (entry : Entry) (v : Id) (vs : List Id) (s : List ℕ) (o : Option Id) → IsReadingPath (records_of c) (path_in c) → slice_get (path_in c) i ≡ Some v → o ≡ source_on (path_in c) i entry
    → HoldsNoData entry (own (records_of c) x v n) → IsBelow (records_of c) v vs → ReadsBelow c x o n s → s ≡ flat (records_of c) x v vs n
reads_own c x i n Absent v vs s o reading at is held below reads =
    reads_behind (records_of c) x (path_in c) i n v vs s o reading at below (sym is) (λ u us e b. below_some c x o n s u us reads e b) (λ e. below_none c x o n s reads e)
    ∙ sym (ap (λ q. unwrap_or q (first_of (records_of c) x (counting (records_of c) vs) n)) held)
reads_own c x i n (Zero place) v vs s o reading at is held below reads =
    below_none c x o n s reads is ∙ sym (ap (λ q. unwrap_or q (first_of (records_of c) x (counting (records_of c) vs) n)) held)
reads_own c x i n (Data place) v vs s o reading at is held below reads = absurd held

pub filled_alike : (k : Cluster) (c : Chain) (x : Volumes) (i : ℕ) (entry : Entry) (vs : List Id) (part : List ℕ) (n : ℕ) (s : List ℕ) → IsShaped c → slice_get (path_in c) i ≡ Some k.volume → k.below ≡ source_on (path_in c) i entry
    → HoldsNoData entry (own (records_of c) x k.volume n) → IsBelow (records_of c) k.volume vs → n < k.capacity → (IsIn k (sectors_in part) n → ⊥) → IsWanted k c x part n s → s ≡ flat (records_of c) x k.volume vs n
filled_alike k c x i entry vs part n s shape at is held below low out wanted = reads_own c x i n entry k.volume vs s k.below shape.reading at is held below (wanted.below out low)
