-- An image has one first refusal at most.
use Rattle.std.proofs.Common.{◌≡◌, ◌⊎◌, ℕ, length, arith, List, [], ◌∷◌, Option, Some, None, Result, Ok, Err, refl, sym, ap, ◌∙◌, subst, inl, inr}
use Rattle.std.specs.Cmp.{IsTotalOrder}
use Rattle.std.specs.List.{Contains}
use Rattle.std.specs.List.Sorted.{IsStrictlySortedBy}
use Rattle.std.specs.declared.cmp.Ordering.TheVariants.{Less}
use Rattle.std.proofs.lemmas.Cmp.{nat_list_cmp_total, on_total, tied_itself}
use Rattle.std.proofs.lemmas.List.Elements.{All-contains, All-from_recursion}
use Rattle.std.proofs.lemmas.Map.Keys.{sorted_head, sorted_tail}
use Rattle.sd_names.specs.declared.fault.VolumeFault.{VolumeFault}
use Rattle.sd_names.specs.declared.id.Id.{Id}
use Rattle.sd_names.specs.Refusal.{refusal_number}
use Rattle.sd_names.specs.declared.fault.Key.TheVariants as key
use Rattle.sd_names.specs.declared.fault.VolumeFault.TheVariants.{BadValue}
use Rattle.sd_names.specs.declared.refusal.Refusal.{Refusal}
use Rattle.sd_names.specs.declared.refusal.Refusal.TheVariants.{ChainTooLong, LayerRefused, MetaCorrupt, NoReadingVolume, NoVolume, WrongParent}
use Rattle.shared_disk.specs.Content.{File}
use Rattle.shared_disk.proofs.Outcomes.{contains_here, contains_more, nothing_in, cons_cases}
use Rattle.volume_meta.specs.declared.record.VolumeRecord.{VolumeRecord}
use Rattle.image_model.specs.File.{file_of}
use Rattle.image_model.specs.Soundness.{HasFault}
use Rattle.image_model.proofs.Faults.{one_at_most}
use Rattle.chain_model.specs.Folder.{Volumes}
use Rattle.chain_model.specs.Records.{Image, Records, parent, records_of, text_of}
use Rattle.chain_model.specs.Chain.{IsBelow, path_of}
use Rattle.chain_model.specs.Opening.{AreVolumes, Check, FirstRefusal, IsBadLayer, IsBadText, IsOpenPath, IsStray, OpenFault, Refuses, capacity, checks, count, format, header, id_cmp, layer, named_by_header, opening_numbers, parents, reading, ring, text, there}
use Rattle.chain_model.proofs.Chains.{cons_same, one_below, one_reading, same_id}

-- ---- the volumes of an image are one list

id_cmp-total : IsTotalOrder id_cmp
id_cmp-total = on_total (λ (v : Id). v.0) nat_list_cmp_total

not_below_itself : (v : Id) → id_cmp v v ≡ Less → ⊥
not_below_itself v e = let tied = tied_itself id_cmp-total v in absurd cc

not_both_below : (v w : Id) → id_cmp v w ≡ Less → id_cmp w v ≡ Less → ⊥
not_both_below v w e f = not_below_itself v (id_cmp-total.trans v w v e f)

above : (v u : Id) (vs : List Id) → IsStrictlySortedBy id_cmp (v ∷ vs) → Contains vs u → id_cmp v u ≡ Less
above v u vs s h = All-contains (λ y. id_cmp v y ≡ Less) vs u (All-from_recursion (λ y. id_cmp v y ≡ Less) vs (sorted_head id_cmp v vs s)) h

heads : (v w : Id) (vs ws : List Id) → IsStrictlySortedBy id_cmp (v ∷ vs) → IsStrictlySortedBy id_cmp (w ∷ ws) → Contains (w ∷ ws) v → Contains (v ∷ vs) w → v ≡ w
heads v w vs ws s t h g = go (cons_cases w v ws h) (cons_cases v w vs g)
  where
    go : (w ≡ v) ⊎ Contains ws v → (v ≡ w) ⊎ Contains vs w → v ≡ w
    go (inl e) other = sym e
    go (inr a) (inl e) = e
    go (inr a) (inr b) = absurd (not_both_below v w (above v w vs s b) (above w v ws t a))

-- an element behind the head of one list is behind the head of the other
behind : (v w u : Id) (vs ws : List Id) → v ≡ w → IsStrictlySortedBy id_cmp (v ∷ vs) → Contains (w ∷ ws) u → Contains vs u → Contains ws u
behind v w u vs ws same s h g = go (cons_cases w u ws h)
  where
    go : (w ≡ u) ⊎ Contains ws u → Contains ws u
    go (inr a) = a
    go (inl e) = absurd (not_below_itself v (subst (λ (x : Id). id_cmp v x ≡ Less) (sym (same ∙ e)) (above v u vs s g)))

same_rising : (vs ws : List Id) → IsStrictlySortedBy id_cmp vs → IsStrictlySortedBy id_cmp ws → ((u : Id) → Contains vs u → Contains ws u) → ((u : Id) → Contains ws u → Contains vs u) → vs ≡ ws
same_rising [] [] s t to from = refl
same_rising [] (w ∷ ws) s t to from = absurd (nothing_in w (from w (contains_here w ws)))
same_rising (v ∷ vs) [] s t to from = absurd (nothing_in v (to v (contains_here v vs)))
same_rising (v ∷ vs) (w ∷ ws) s t to from =
    let same = heads v w vs ws s t (to v (contains_here v vs)) (from w (contains_here w ws)) in
    cons_same v w vs ws same (
    same_rising vs ws (sorted_tail id_cmp v vs s) (sorted_tail id_cmp w ws t)
    (λ u h. behind v w u vs ws same s (to u (contains_more v u vs h)) h)
    (λ u h. behind w v u ws vs (sym same) t (from u (contains_more w u ws h)) h))

pub one_list : (x : Volumes) (vs ws : List Id) → AreVolumes x vs → AreVolumes x ws → vs ≡ ws
one_list x vs ws a b = same_rising vs ws a.rising b.rising (λ u h. b.all u (a.each u h)) (λ u h. a.all u (b.each u h))

-- ---- and one path is opened

pub one_path : (r : Records) (ps qs : List Id) → IsOpenPath r ps → IsOpenPath r qs → ps ≡ qs
one_path r ps qs (inl a) (inl b) =
    let same = one_reading r a.0 b.0 a.1 b.1 a.2 b.2 in
    let below = one_below r b.0 a.1 b.1 (subst (λ (v : Id). IsBelow r v a.1) same a.2.below) b.2.below in
    a.3 ∙ ap (λ (v : Id). path_of r v a.1) same ∙ ap (λ (vs : List Id). path_of r b.0 vs) below ∙ sym b.3
one_path r ps qs (inl a) (inr b) = absurd (b.0 a.0 a.1 a.2)
one_path r ps qs (inr a) (inl b) = absurd (a.0 b.0 b.1 b.2)
one_path r ps qs (inr a) (inr b) = a.1 ∙ sym b.1

-- ---- a check refuses with one refusal

same_record : (o : Option VolumeRecord) (a b : VolumeRecord) → o ≡ Some a → o ≡ Some b → a ≡ b
same_record o a b e f = cc

same_file : (o : Option File) (a b : File) → o ≡ Some a → o ≡ Some b → a ≡ b
same_file o a b e f = cc

one_text : (v : Id) (o : Option (Result VolumeRecord VolumeFault)) (a b : Refusal) → IsBadText v o a → IsBadText v o b → a ≡ b
one_text v None a b p q = absurd p
one_text v (Some (Ok x)) a b p q = absurd p
one_text v (Some (Err fault)) a b p q = p ∙ sym q

one_stray : (x : Volumes) (r : Records) (v : Id) (a b : Refusal) → IsStray x r v a → IsStray x r v b → a ≡ b
one_stray x r v a b p q = let same = same_id (parent r v) p.0 q.0 p.1 q.1 in let e = p.3 in let f = q.3 in cc

one_layer : (x : Volumes) (r : Records) (v : Id) (a b : Refusal) → IsBadLayer x r v a → IsBadLayer x r v b → a ≡ b
one_layer x r v a b p q =
    let capacity = ap (λ (y : VolumeRecord). y.capacity) (same_record (r v) q.0 p.0 q.1 p.1) in
    let file = ap (λ (f : File). file_of f.size f.stable) (same_file (x.file v) q.3 p.3 q.4 p.4) in
    let theirs = subst (λ n. HasFault (file_of p.3.size p.3.stable) n q.5) capacity (subst (λ g. HasFault g q.0.capacity q.5) file q.6) in
    let same = one_at_most (file_of p.3.size p.3.stable) p.0.capacity p.5 q.5 p.6 theirs in
    let e = p.7 in let f = q.7 in cc

one_refusal : (i : Image) (x : Volumes) (vs : List Id) (c : Check) (a b : Refusal) → Refuses i x vs c a → Refuses i x vs c b → a ≡ b
one_refusal i x vs count a b p q = p.1 ∙ sym q.1
one_refusal i x vs (text v) a b p q = one_text v (text_of i x v) a b p q
one_refusal i x vs (there v) a b p q = p.1 ∙ sym q.1
one_refusal i x vs (parents v) a b p q = one_stray x (records_of i x) v a b p q
one_refusal i x vs ring a b p q = p.1 ∙ sym q.1
one_refusal i x vs (format v) a b p q = p.4 ∙ sym q.4
one_refusal i x vs (capacity v) a b p q = p.10 ∙ sym q.10
one_refusal i x vs reading a b p q = p.1 ∙ sym q.1
one_refusal i x vs (layer v) a b p q = one_layer x (records_of i x) v a b p q
one_refusal i x vs (header v) a b p q = p.7 ∙ sym q.7

one_first : (i : Image) (x : Volumes) (vs : List Id) (cs : List Check) (a b : Refusal) → FirstRefusal i x vs cs a → FirstRefusal i x vs cs b → a ≡ b
one_first i x vs [] a b p q = absurd p
one_first i x vs (c ∷ cs) a b (inl p) (inl q) = one_refusal i x vs c a b p q
one_first i x vs (c ∷ cs) a b (inl p) (inr q) = absurd (q.0 a p)
one_first i x vs (c ∷ cs) a b (inr p) (inl q) = absurd (p.0 b q)
one_first i x vs (c ∷ cs) a b (inr p) (inr q) = one_first i x vs cs a b p.1 q.1

pub one_fault : (i : Image) (x : Volumes) (a b : Refusal) → OpenFault i x a → OpenFault i x b → a ≡ b
one_fault i x a b p q =
    let volumes = one_list x q.volumes p.volumes q.are p.are in
    let path = one_path (records_of i x) q.path p.path q.opened p.opened in
    let first = subst (λ (ps : List Id). FirstRefusal i x p.volumes (checks p.volumes ps) b) path (subst (λ (vs : List Id). FirstRefusal i x vs (checks vs q.path) b) volumes q.first) in
    one_first i x p.volumes (checks p.volumes p.path) a b p.first first

-- ---- with these numbers

same_number : (a b : Refusal) (n : ℕ) → a ≡ b → refusal_number b ≡ n → Contains opening_numbers n → Contains opening_numbers (refusal_number a)
same_number a b n e f h = subst (λ (m : ℕ). Contains opening_numbers m) (sym (ap refusal_number e ∙ f)) h

text_number : (v : Id) (o : Option (Result VolumeRecord VolumeFault)) (e : Refusal) → IsBadText v o e → Contains opening_numbers (refusal_number e)
text_number v None e p = absurd p
text_number v (Some (Ok x)) e p = absurd p
text_number v (Some (Err fault)) e p = same_number e (MetaCorrupt v fault) 65 p refl (2, omega arith, refl)

check_number : (i : Image) (x : Volumes) (vs : List Id) (c : Check) (e : Refusal) → Refuses i x vs c e → Contains opening_numbers (refusal_number e)
check_number i x vs count e p = same_number e (ChainTooLong (length vs)) 68 p.1 refl (4, omega arith, refl)
check_number i x vs (text v) e p = text_number v (text_of i x v) e p
check_number i x vs (there v) e p = same_number e (NoVolume v) 60 p.1 refl (1, omega arith, refl)
check_number i x vs (parents v) e p = same_number e (WrongParent v p.0) 67 p.3 refl (3, omega arith, refl)
check_number i x vs ring e p = same_number e (ChainTooLong 0) 68 p.1 refl (4, omega arith, refl)
check_number i x vs (format v) e p = same_number e (MetaCorrupt v (BadValue key.Format)) 65 p.4 refl (2, omega arith, refl)
check_number i x vs (capacity v) e p = same_number e (MetaCorrupt v (BadValue key.Cap)) 65 p.10 refl (2, omega arith, refl)
check_number i x vs reading e p = same_number e NoReadingVolume 57 p.1 refl (0, omega arith, refl)
check_number i x vs (layer v) e p = same_number e (LayerRefused v p.5) 80 p.7 refl (5, omega arith, refl)
check_number i x vs (header v) e p = same_number e (WrongParent v (named_by_header x (records_of i x) v)) 67 p.7 refl (3, omega arith, refl)

first_number : (i : Image) (x : Volumes) (vs : List Id) (cs : List Check) (e : Refusal) → FirstRefusal i x vs cs e → Contains opening_numbers (refusal_number e)
first_number i x vs [] e f = absurd f
first_number i x vs (c ∷ cs) e (inl p) = check_number i x vs c e p
first_number i x vs (c ∷ cs) e (inr rest) = first_number i x vs cs e rest.1

pub fault_number : (i : Image) (x : Volumes) (e : Refusal) → OpenFault i x e → Contains opening_numbers (refusal_number e)
fault_number i x e f = first_number i x f.volumes (checks f.volumes f.path) e f.first
