-- A layer that was opened is neither refused by itself nor by its header's name, or just by that.
use Rattle.std.proofs.Common.{◌≡◌, ◌⊎◌, ℕ, List, Option, Some, Result, Ok, Err, MatchResult, refl, sym, ap, ◌∙◌, subst, inl, inr}
use Rattle.std.specs.Prelude.{unwrap_or}
use Rattle.sd_names.specs.Id.{zero_id}
use Rattle.sd_names.specs.declared.fault.LayerFault.{LayerFault}
use Rattle.sd_names.specs.declared.id.Id.{Id}
use Rattle.sd_names.specs.declared.kinds.Format.TheVariants as format
use Rattle.sd_names.specs.declared.refusal.Refusal.{Refusal}
use Rattle.sd_names.specs.declared.refusal.Refusal.TheVariants.{WrongParent}
use Rattle.shared_disk.specs.Content.{File}
use Rattle.volume_meta.specs.declared.record.VolumeRecord.{VolumeRecord}
use Rattle.qcow_format.specs.Name.{backing_id}
use Rattle.qcow_format.specs.declared.header.Header.{Header}
use Rattle.image_model.specs.File.{file_of}
use Rattle.image_model.specs.File as image
use Rattle.image_model.specs.Soundness.{FirstFault, HasFault, IsClean, IsSound, layer_header}
use Rattle.image_model.proofs.Faults.{clean_without_fault}
use Rattle.chain_model.specs.Chain.{IsBelow}
use Rattle.chain_model.specs.Folder.{Volumes}
use Rattle.chain_model.specs.Headers.{backing_by_record}
use Rattle.chain_model.specs.Opening.{IsBadLayer, IsBadName, named_by_header}
use Rattle.chain_model.specs.Own.{header_in}
use Rattle.chain_model.specs.Records.{Records}
use Rattle.chain_model.specs.Up.{up_of}
use Rattle.chain_model.proofs.Chains.{one_below}
use Rattle.volume_chain.specs.Chain.{IsExpected}

no_fault : (f : image.File) (capacity : ℕ) (fault : LayerFault) → IsSound f capacity → HasFault f capacity fault → ⊥
no_fault f capacity fault = go (layer_header f capacity)
  where
    go : (r : Result Header LayerFault) → MatchResult r (λ h. (n : ℕ) → IsClean (record { header = h; file = f }) capacity n) (λ e. ⊥)
        → MatchResult r (λ h. FirstFault (record { header = h; file = f }) capacity fault) (λ e. e ≡ fault) → ⊥
    go (Ok h) clean first = clean_without_fault (record { header = h; file = f }) capacity first.at fault (clean first.at) first.here
    go (Err e) clean first = clean

same_record : (y z : VolumeRecord) (o : Option VolumeRecord) → o ≡ Some y → o ≡ Some z → y ≡ z
same_record y z o a b = cc

same_file : (f g : File) (o : Option File) → o ≡ Some f → o ≡ Some g → f ≡ g
same_file f g o a b = cc

pub sound_passes : (x : Volumes) (r : Records) (v : Id) (y : VolumeRecord) (f : File) → r v ≡ Some y → x.file v ≡ Some f → IsSound (file_of f.size f.stable) y.capacity
    → (e : Refusal) → IsBadLayer x r v e → ⊥
sound_passes x r v y f is there sound e bad =
    let z : VolumeRecord = bad.0 in
    let g : File = bad.3 in
    no_fault (file_of g.size g.stable) z.capacity bad.5
    (subst (λ (h : File). IsSound (file_of h.size h.stable) z.capacity) (same_file f g (x.file v) there bad.4)
    (subst (λ (w : VolumeRecord). IsSound (file_of f.size f.stable) w.capacity) (same_record y z (r v) is bad.1) sound))
    bad.6

backing_is : (o : Option VolumeRecord) (q : Option File) (y : VolumeRecord) (f : File) (h : Header) → o ≡ Some y → q ≡ Some f → y.format ≡ format.Cow → header_in y f ≡ Ok h
    → backing_by_record o q ≡ backing_id h (file_of f.size f.stable).head
backing_is o q y f h is there cow head = rw is (rw there (rw cow (rw head refl)))

-- what the header of an opened layer names
pub named_is : (x : Volumes) (r : Records) (v : Id) (y : VolumeRecord) (f : File) (h : Header) (p : Option Id) → r v ≡ Some y → x.file v ≡ Some f → y.format ≡ format.Cow
    → layer_header (file_of f.size f.stable) y.capacity ≡ Ok h → p ≡ backing_id h (file_of f.size f.stable).head → named_by_header x r v ≡ unwrap_or p zero_id
named_is x r v y f h p is there cow head parent = ap (λ (o : Option Id). unwrap_or o zero_id) (backing_is (r v) (x.file v) y f h is there cow head ∙ sym parent)

pub expected_passes : (x : Volumes) (r : Records) (v : Id) (vs : List Id) (named : Id) → IsBelow r v vs → named_by_header x r v ≡ named → IsExpected r v vs named
    → (e : Refusal) → IsBadName x r v e → ⊥
expected_passes x r v vs named below same expected e bad =
    let z : VolumeRecord = bad.0 in
    let ws : List Id = bad.3 in
    let one : vs ≡ ws = one_below r v vs ws below bad.4 in
    go z ws one (same_record expected.0 z (r v) expected.1 bad.1) bad.5 bad.6 expected.2
  where
    go : (z : VolumeRecord) (ws : List Id) → vs ≡ ws → expected.0 ≡ z → (named_by_header x r v ≡ z.parent → ⊥) → (named_by_header x r v ≡ unwrap_or (up_of r ws) zero_id → ⊥)
        → (named ≡ expected.0.parent) ⊎ (named ≡ unwrap_or (up_of r vs) zero_id) → ⊥
    go z ws one is no_parent no_up (inl a) = no_parent (same ∙ a ∙ ap (λ (w : VolumeRecord). w.parent) is)
    go z ws one is no_parent no_up (inr b) = no_up (same ∙ b ∙ ap (λ (us : List Id). unwrap_or (up_of r us) zero_id) one)

pub unexpected_refuses : (x : Volumes) (r : Records) (v : Id) (y : VolumeRecord) (vs : List Id) (named : Id) → r v ≡ Some y → y.format ≡ format.Cow → IsBelow r v vs → named_by_header x r v ≡ named
    → (IsExpected r v vs named → ⊥) → IsBadName x r v (WrongParent v named)
unexpected_refuses x r v y vs named is cow below same other =
    (y, is, cow, vs, below, λ a. other (y, is, inl (sym same ∙ a)), λ b. other (y, is, inr (sym same ∙ b)), ap (λ (u : Id). WrongParent v u) (sym same))
