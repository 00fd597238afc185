-- Folders that are made one after the other.
use Rattle.std.proofs.Math.Seq.{drop-cons}
use Rattle.std.proofs.Common.{ℕ, ◌+◌, ◌<◌, length, drop, get_or, add-one, ◌≡◌, ◌⊎◌, List, [], ◌∷◌, Bool, true, false, Err, ap, refl, sym, subst, ◌∙◌, inl, inr}
use Rattle.std.proofs.lemmas.Bool.{false≢true}
use Rattle.sd_names.specs.declared.place.Dir.{Dir}
use Rattle.sd_names.specs.declared.place.Dir.TheVariants.{Root}
use Rattle.shared_disk.specs.Content.{Content, IsEmpty}
use Rattle.sd_names.specs.Place.{parent_of}
use Rattle.shared_disk.specs.Calls.{IsDirMade, MakesDir}
use Rattle.shared_disk.specs.declared.disk.DiskAnswer.{DiskAnswer}
use Rattle.shared_disk.specs.declared.disk.DiskAnswer.TheVariants.{NoFile, Exists, OutOfFile, NotEmpty, Failed}
use Rattle.pool_session.specs.Folders.{HasJust, HasSome, IsAmong}

there_after : (dirs : List Dir) (dir : Dir) (d e : Content) → HasJust dirs d → (IsAmong dirs dir → ⊥) → IsDirMade d dir e
    → (q : Dir) → (q ≡ dir) ⊎ IsAmong dirs q → e.dir q ≡ true
there_after dirs dir d e has new made q (inl is) = rw is made.put.here
there_after dirs dir d e has new made q (inr among) = made.put.others q (λ is. new (rw is at among)) ∙ has.folders.there q among

-- one more folder is there
pub just_made : (dirs : List Dir) (dir : Dir) (d e : Content) → HasJust dirs d → (IsAmong dirs dir → ⊥) → IsDirMade d dir e → HasJust (dir ∷ dirs) e
just_made dirs dir d e has new made = record {
  folders = record {
    there = there_after dirs dir d e has new made;
    only = λ q not. made.put.others q (λ is. not (inl is)) ∙ has.folders.only q (λ among. not (inr among));
  };
  files = λ q. made.put.files q ∙ has.files q;
}

-- A call that is refused, though the folder above is there and this one isn't, has failed, and made the folder or not.
pub dir_failed : (dirs : List Dir) (dir : Dir) (d e : Content) (answer : DiskAnswer) → HasJust dirs d → IsAmong dirs (parent_of dir) → (IsAmong dirs dir → ⊥)
    → MakesDir d dir (Err answer) e → (answer ≡ Failed) × HasSome dirs (dir ∷ []) e
dir_failed dirs dir d e Failed has above new (inl same) = (refl, inl (subst (HasJust dirs) (sym same) has))
dir_failed dirs dir d e Failed has above new (inr made) = (refl, inr (just_made dirs dir d e has new made))
dir_failed dirs dir d e NoFile has above new call = absurd (false≢true (sym call.1 ∙ has.folders.there (parent_of dir) above))
dir_failed dirs dir d e Exists has above new call = absurd (false≢true (sym (has.folders.only dir new) ∙ call.2))
dir_failed dirs dir d e OutOfFile has above new call = absurd call
dir_failed dirs dir d e NotEmpty has above new call = absurd call

-- a folder that isn't there wasn't there before another was made
pub not_gone : (d e : Content) (dir q : Dir) (b : Bool) → d.dir q ≡ b → IsDirMade d dir e → e.dir q ≡ false → d.dir q ≡ false
not_gone d e dir q false was made absent = was
not_gone d e dir q true was made absent = absurd (false≢true (sym absent ∙ made.put.others q (λ is. false≢true (sym made.free ∙ ap d.dir (sym is) ∙ was)) ∙ was))

-- the folder that was made wasn't there at first, nor were those behind it
pub among_rest : (first d e : Content) (dir : Dir) (dirs : List Dir) (q : Dir) → IsDirMade d dir e → ((p : Dir) → d.dir p ≡ false → first.dir p ≡ false)
    → ((p : Dir) → IsAmong dirs p → first.dir p ≡ false) → IsAmong (dir ∷ dirs) q → first.dir q ≡ false
among_rest first d e dir dirs q made back rest (inl is) = back q (ap d.dir is ∙ made.free)
among_rest first d e dir dirs q made back rest (inr among) = rest q among

-- none of the others was made
pub some_none : (known dirs : List Dir) (d : Content) → HasJust known d → HasSome known dirs d
some_none known [] d has = has
some_none known (dir ∷ dirs) d has = inl has

-- one of the others was made or not
pub some_one : (known : List Dir) (dir : Dir) (dirs : List Dir) (d : Content) → HasSome known (dir ∷ []) d → HasSome known (dir ∷ dirs) d
some_one known dir dirs d (inl has) = inl has
some_one known dir dirs d (inr has) = inr (some_none (dir ∷ known) dirs d has)

-- an empty folder has Root alone
pub just_root : (d : Content) → IsEmpty d → HasJust (Root ∷ []) d
just_root d empty = record {
  folders = record { there = λ q among. root_there d empty q among; only = λ q not. empty.dirs q (λ is. not (inl is)) };
  files = empty.files;
}
  where
    root_there : (d : Content) → IsEmpty d → (q : Dir) → (q ≡ Root) ⊎ ⊥ → d.dir q ≡ true
    root_there d empty q (inl is) = rw is empty.root
    root_there d empty q (inr none) = absurd none

-- what is left to be made, from a place on: the folder there, and then the rest
pub left_at : (dirs : List Dir) (k : ℕ) → k < length dirs → drop k dirs ≡ get_or dirs k Root ∷ drop (k + 1) dirs
left_at dirs k within = rw add-one (drop-cons dirs k Root within)
