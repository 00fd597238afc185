-- Which volumes of a chain may be merged into which, and why others may not.
use Rattle.std.specs.Prelude.{◌≡◌, ◌≢◌, List, false, true, None, Some, Result, Ok, Err, unwrap_or}
use Rattle.sd_names.specs.Id.{zero_id}
use Rattle.sd_names.specs.declared.id.Id.{Id}
use Rattle.sd_names.specs.declared.refusal.Refusal.{Refusal}
use Rattle.sd_names.specs.declared.refusal.Refusal.TheVariants.{NoVolume, VolumeIllegal, WrongParent}
use Rattle.volume_meta.specs.declared.record.VolumeRecord.{VolumeRecord}
use Rattle.chain_model.specs.Chain.{ComesToRing, IsBelow}
use Rattle.chain_model.specs.Records.{Records, is_legal}
use Rattle.chain_model.specs.Up.{up_of}
use Rattle.chain_records.specs.Records.{records_in}
use Rattle.chain_records.specs.Settling.{IsOver}
use Rattle.chain_records.specs.declared.volume.Volume.{Volume}
use Rattle.volume_chain.specs.declared.subchain.Subchain.{Subchain}

-- The base may take the top, or the refusal is the first of: the base isn't there; the top isn't; the parent of the top that
-- counts isn't the base, zeros standing for none; the top is ILLEGAL.
pub record IsSubchainBy (r : Records) (base top : Id) (result : Result Subchain Refusal) : Type 0 where
  pub no_base : r base ≡ None → result ≡ Err (NoVolume base)
  pub no_top : (x : VolumeRecord) → r base ≡ Some x → r top ≡ None → result ≡ Err (NoVolume top)
  pub other : (x y : VolumeRecord) (vs : List Id) → r base ≡ Some x → r top ≡ Some y → IsBelow r top vs → up_of r vs ≢ Some base
      → result ≡ Err (WrongParent top (unwrap_or (up_of r vs) zero_id))
  pub ringed : (x y : VolumeRecord) → r base ≡ Some x → r top ≡ Some y → ComesToRing r top → result ≡ Err (WrongParent top zero_id)
  pub illegal : (x : VolumeRecord) → r base ≡ Some x → IsOver r top base → is_legal r top ≡ false → result ≡ Err (VolumeIllegal top)
  pub may : (x : VolumeRecord) → r base ≡ Some x → IsOver r top base → is_legal r top ≡ true → result ≡ Ok (record { base = base; top = top })

abbrev pub IsSubchain : List Volume → Id → Id → Result Subchain Refusal → Type 0
IsSubchain xs base top result = IsSubchainBy (records_in xs) base top result
