-- Why an image is refused by its records alone, once there are few enough volumes, each with a text that reads and a file.
use Rattle.std.specs.Prelude.{◌≡◌, ◌⊎◌, List, [], ◌∷◌, ◌++◌, map, Option, Some, None}
use Rattle.sd_names.specs.declared.id.Id.{Id}
use Rattle.sd_names.specs.declared.refusal.Refusal.{Refusal}
use Rattle.sd_names.specs.declared.refusal.Refusal.TheVariants.{WrongParent}
use Rattle.chain_model.specs.Records.{Records, parent}
use Rattle.chain_model.specs.Opening.{Check, both, capacity, count, format, header, IsRawAbove, IsRinged, IsTooSmall, IsWithoutReading, layer, parents, reading, ring, text, there}

-- a parent of which there is no record
abbrev pub IsUnknownParent : Records → Id → Id → Type 0
IsUnknownParent r v p = (parent r v ≡ Some p) × (r p ≡ None)

abbrev pub IsUnknown : Records → Id → Refusal → Type 0
IsUnknown r v e = (p : Id) × IsUnknownParent r v p × (e ≡ WrongParent v p)

-- what each check of records looks for; the others need files and texts
abbrev pub RefusesBy : Records → Check → Refusal → Type 0
RefusesBy r count e = ⊥
RefusesBy r (text v) e = ⊥
RefusesBy r (there v) e = ⊥
RefusesBy r (parents v) e = IsUnknown r v e
RefusesBy r ring e = IsRinged r e
RefusesBy r (format v) e = IsRawAbove r v e
RefusesBy r (capacity v) e = IsTooSmall r v e
RefusesBy r reading e = IsWithoutReading r e
RefusesBy r (layer v) e = ⊥
RefusesBy r (header v) e = ⊥

-- the first of some checks that refuses, and with what, or none
abbrev pub FirstIs : Records → List Check → Option Refusal → Type 0
FirstIs r [] o = o ≡ None
FirstIs r (c ∷ cs) o =
    ((e : Refusal) × RefusesBy r c e × (o ≡ Some e)) ⊎ (((e : Refusal) → RefusesBy r c e → ⊥) × FirstIs r cs o)

-- the checks of an opening that go by the records, in its order
abbrev pub record_checks : List Id → List Check
record_checks vs = map parents vs ++ ring ∷ both format capacity vs ++ reading ∷ []
