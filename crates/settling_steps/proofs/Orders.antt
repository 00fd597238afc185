-- The names that a listing has come to, and those that are left above them.
use Rattle.std.proofs.Common.{◌≡◌, ◌≢◌, ◌⊎◌, Option, Some, None, refl, sym, ap, inl, inr}
use Rattle.std.specs.declared.cmp.Ordering.{Ordering}
use Rattle.std.specs.declared.cmp.Ordering.TheVariants.{Less, Equal, Greater}
use Rattle.sd_names.specs.Place.{NameHasIds, name_cmp}
use Rattle.sd_names.specs.declared.place.Name.{Name}
use Rattle.sd_names.specs.declared.place.Name.TheVariants as name
use Rattle.sd_names.proofs.PlaceLemmas.{name_cmp-equal}
use Rattle.settling_steps.specs.Names.{name_of, temporary_name}
use Rattle.settling_steps.specs.declared.names.Temporary.{Temporary}
use Rattle.settling_steps.specs.declared.names.Temporary.TheVariants.{New, Volatile}

pub named_back : (o : Temporary) → temporary_name (name_of o) ≡ Some o
named_back (New v) = refl
named_back (Volatile v) = refl

-- the name of which a text is temporary
pub name_is : (n : Name) (o : Temporary) → temporary_name n ≡ Some o → name_of o ≡ n
name_is (name.MetaNew v) (New w) e = cc
name_is (name.MetaNew v) (Volatile w) e = absurd cc
name_is (name.MetaVolatile v) (New w) e = absurd cc
name_is (name.MetaVolatile v) (Volatile w) e = cc
name_is (name.Metadata) o e = absurd cc
name_is (name.MetadataNew) o e = absurd cc
name_is (name.Leases) o e = absurd cc
name_is (name.Inbox) o e = absurd cc
name_is (name.Outbox) o e = absurd cc
name_is (name.Volume v) o e = absurd cc
name_is (name.Meta v) o e = absurd cc
name_is (name.VolumeLease v) o e = absurd cc
name_is (name.Task v) o e = absurd cc
name_is (name.TaskNew v) o e = absurd cc

-- a name that isn't below another one is that or above it
pub same_or_above : (n m : Name) → NameHasIds n → NameHasIds m → name_cmp n m ≢ Greater → (m ≡ n) ⊎ (name_cmp n m ≡ Less)
same_or_above n m is_n is_m low = go (name_cmp n m) refl
  where
    go : (o : Ordering) → name_cmp n m ≡ o → (m ≡ n) ⊎ (name_cmp n m ≡ Less)
    go Less e = inr e
    go Equal e = inl (sym (name_cmp-equal n m is_n is_m e))
    go Greater e = absurd (low e)
