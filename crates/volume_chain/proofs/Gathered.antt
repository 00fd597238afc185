-- What was gathered, and the checks of its records.
use Rattle.std.proofs.Common.{◌≡◌, List, ◌∷◌, ◌++◌, map, Option, Some, None, refl, sym, subst, arith, append_assoc}
use Rattle.sd_names.specs.declared.id.Id.{Id}
use Rattle.sd_names.specs.declared.refusal.Refusal.{Refusal}
use Rattle.shared_disk.specs.Content.{File}
use Rattle.shared_disk.specs.Crash.{IsAlso}
use Rattle.chain_model.specs.Folder.{Volumes}
use Rattle.chain_model.specs.Growth.{AreLonger, IsLonger}
use Rattle.chain_model.specs.Opening.{Check, FirstRefusal, OpenFault, both, capacity, checks, count, format, header, layer, parents, reading, ring, text, there}
use Rattle.chain_model.specs.Records.{Image, records_of}
use Rattle.chain_model.proofs.Opened.{open_path, text_there}
use Rattle.chain_gathering.specs.Knowing.{IsFirst}

regrouped : (f a b c d : List Check) → (((f ++ a) ++ b) ++ c) ++ d ≡ f ++ (((a ++ b) ++ c) ++ d)
regrouped f a b c d = simp append_assoc

abbrev pub rest_of : List Id → List Id → List Check
rest_of vs path = ((map there vs ++ map parents vs) ++ (ring ∷ both format capacity vs)) ++ (reading ∷ both layer header path)

-- the checks of an opening begin with those of the count and of the texts
pub checks_begin : (vs path : List Id) → checks vs path ≡ (count ∷ map text vs) ++ rest_of vs path
checks_begin vs path = regrouped (count ∷ map text vs) (map there vs) (map parents vs) (ring ∷ both format capacity vs) (reading ∷ both layer header path)

-- so a refusal of those is the image's first
pub first_opens : (i : Image) (x : Volumes) (e : Refusal) → IsFirst i x e → OpenFault i x e
first_opens i x e is =
    let opened = open_path (records_of i x) is.0 (λ v y r. is.1.all v (text_there _ (x.text v) y r)) in
    record {
      volumes = is.0;
      path = opened.0;
      are = is.1;
      opened = opened.1;
      first = subst (λ (cs : List Check). FirstRefusal i x is.0 cs e) (sym (checks_begin is.0 opened.0)) (is.2 (rest_of is.0 opened.0));
    }

-- each image is as long as it is
also_itself : (o : Option File) → IsAlso IsLonger o o
also_itself None = tt
also_itself (Some f) = record { size = omega arith; sectors = λ k. refl }

pub longer_itself : (x : Volumes) → AreLonger x x
longer_itself x = record { text = λ v. refl; file = λ v. also_itself (x.file v) }
