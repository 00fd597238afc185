-- What the calls answer and leave that work on names: renames, removals, moves of folders, and listings.
use Rattle.std.specs.Prelude.{◌≡◌, ◌≢◌, ◌⊎◌, true, false, Option, Some, None, Result, Ok, Err}
use Rattle.std.specs.declared.cmp.Ordering.TheVariants.{Less, Greater}
use Rattle.sd_names.specs.Place.{dir_cmp, name_cmp}
use Rattle.sd_names.specs.declared.place.Dir.{Dir}
use Rattle.sd_names.specs.declared.place.Dir.TheVariants.{Root, Image, Removed}
use Rattle.sd_names.specs.declared.place.Name.{Name}
use Rattle.sd_names.specs.declared.place.Place.{Place}
use Rattle.shared_disk.specs.declared.disk.DiskAnswer.{DiskAnswer}
use Rattle.shared_disk.specs.declared.disk.DiskAnswer.TheVariants.{NoFile, Exists, OutOfFile, NotEmpty, Failed}
use Rattle.sd_names.specs.Place.{parent_of}
use Rattle.shared_disk.specs.Calls.{IsPut, IsDirPut, IsSame}
use Rattle.shared_disk.specs.Content.{Content, File}

-- the place of a name in a folder
abbrev pub place_in : Dir → Name → Place
place_in dir name = record { dir = dir; name = name }

-- the file stands at the second place, whatever stood there, with its unsynced writes, and no longer at the first
pub record IsRenamed (d : Content) (from to : Place) (e : Content) : Type 0 where
  pub file : (f : File) × (d.file from ≡ Some f) × (e.file to ≡ Some f)
  pub gone : e.file from ≡ None
  pub dirs : (q : Dir) → e.dir q ≡ d.dir q
  pub others : (q : Place) → q ≢ from → q ≢ to → e.file q ≡ d.file q

-- A file gets another name in its folder. Where it fails, it was renamed or not.
abbrev pub Renames : Content → Place → Name → Result (Unit {0}) DiskAnswer → Content → Type 0
Renames d from to (Ok _) e = IsRenamed d from (place_in from.dir to) e
Renames d from to (Err Failed) e = IsSame d e ⊎ IsRenamed d from (place_in from.dir to) e
Renames d from to (Err NoFile) e = IsSame d e × (d.file from ≡ None)
Renames d from to (Err Exists) e = ⊥
Renames d from to (Err OutOfFile) e = ⊥
Renames d from to (Err NotEmpty) e = ⊥

-- the file is gone
abbrev pub IsRemoved : Content → Place → Content → Type 0
IsRemoved d place e = (f : File) × (d.file place ≡ Some f) × IsPut d place None e

-- A file is removed, with its unsynced writes. Where it fails, it was removed or not.
abbrev pub Removes : Content → Place → Result (Unit {0}) DiskAnswer → Content → Type 0
Removes d place (Ok _) e = IsRemoved d place e
Removes d place (Err Failed) e = IsSame d e ⊎ IsRemoved d place e
Removes d place (Err NoFile) e = IsSame d e × (d.file place ≡ None)
Removes d place (Err Exists) e = ⊥
Removes d place (Err OutOfFile) e = ⊥
Removes d place (Err NotEmpty) e = ⊥

-- the folder shows this name
abbrev pub ShowsName : Content → Dir → Name → Type 0
ShowsName d dir name = (f : File) × (d.file (place_in dir name) ≡ Some f)

-- the folder shows this folder
pub record ShowsDir (d : Content) (dir q : Dir) : Type 0 where
  pub other : q ≢ Root
  pub inside : parent_of q ≡ dir
  pub there : d.dir q ≡ true

-- the folder shows a name or a folder
abbrev pub HasEntry : Content → Dir → Type 0
HasEntry d dir = ((name : Name) × ShowsName d dir name) ⊎ ((q : Dir) × ShowsDir d dir q)

-- the folder was there, showed nothing, and is gone
pub record IsDirRemoved (d : Content) (dir : Dir) (e : Content) : Type 0 where
  pub there : d.dir dir ≡ true
  pub empty : HasEntry d dir → ⊥
  pub put : IsDirPut d dir false e

-- A folder is removed. Where it fails, it was removed or not.
abbrev pub RemovesDir : Content → Dir → Result (Unit {0}) DiskAnswer → Content → Type 0
RemovesDir d dir (Ok _) e = IsDirRemoved d dir e
RemovesDir d dir (Err Failed) e = IsSame d e ⊎ IsDirRemoved d dir e
RemovesDir d dir (Err NoFile) e = IsSame d e × (d.dir dir ≡ false)
RemovesDir d dir (Err NotEmpty) e = IsSame d e × (d.dir dir ≡ true) × HasEntry d dir
RemovesDir d dir (Err Exists) e = ⊥
RemovesDir d dir (Err OutOfFile) e = ⊥

-- Two folders of images of one domain. Such folders hold no folders.
abbrev pub AreImageDirs : Dir → Dir → Type 0
AreImageDirs (Image sd _) (Image other _) = sd ≡ other
AreImageDirs (Image sd _) (Removed other _) = sd ≡ other
AreImageDirs (Removed sd _) (Image other _) = sd ≡ other
AreImageDirs (Removed sd _) (Removed other _) = sd ≡ other
AreImageDirs _ _ = ⊥

-- the folder's files, with their unsynced writes, stand in the second folder, and the first is gone
pub record IsDirMoved (d : Content) (from to : Dir) (e : Content) : Type 0 where
  pub there : d.dir from ≡ true
  pub free : d.dir to ≡ false
  pub gone : e.dir from ≡ false
  pub made : e.dir to ≡ true
  pub dirs : (q : Dir) → q ≢ from → q ≢ to → e.dir q ≡ d.dir q
  pub files : (name : Name) → e.file (place_in to name) ≡ d.file (place_in from name)
  pub left : (name : Name) → e.file (place_in from name) ≡ None
  pub others : (q : Place) → q.dir ≢ from → q.dir ≢ to → e.file q ≡ d.file q

-- A folder is moved. Where it fails, it was moved or not.
abbrev pub MovesDir : Content → Dir → Dir → Result (Unit {0}) DiskAnswer → Content → Type 0
MovesDir d from to (Ok _) e = IsDirMoved d from to e
MovesDir d from to (Err Failed) e = IsSame d e ⊎ IsDirMoved d from to e
MovesDir d from to (Err NoFile) e = IsSame d e × (d.dir from ≡ false)
MovesDir d from to (Err Exists) e = IsSame d e × (d.dir from ≡ true) × (d.dir to ≡ true)
MovesDir d from to (Err OutOfFile) e = ⊥
MovesDir d from to (Err NotEmpty) e = ⊥

-- the name, or the folder, is above this one, where there is one
abbrev pub IsNameAbove : Option Name → Name → Type 0
IsNameAbove None name = Unit {0}
IsNameAbove (Some after) name = name_cmp after name ≡ Less

abbrev pub IsDirAbove : Option Dir → Dir → Type 0
IsDirAbove None dir = Unit {0}
IsDirAbove (Some after) dir = dir_cmp after dir ≡ Less

-- what a listing answers is above what it was asked
abbrev pub AnswersNameAbove : Option Name → Option Name → Type 0
AnswersNameAbove after None = Unit {0}
AnswersNameAbove after (Some name) = IsNameAbove after name

abbrev pub AnswersDirAbove : Option Dir → Option Dir → Type 0
AnswersDirAbove after None = Unit {0}
AnswersDirAbove after (Some dir) = IsDirAbove after dir

-- the least name above `after` that the folder shows, or that there is none
abbrev pub IsNextName : Content → Dir → Option Name → Option Name → Type 0
IsNextName d dir after None = (name : Name) → ShowsName d dir name → IsNameAbove after name → ⊥
IsNextName d dir after (Some next) =
    ShowsName d dir next × IsNameAbove after next × ((name : Name) → ShowsName d dir name → IsNameAbove after name → name_cmp next name ≢ Greater)

-- the least folder above `after` that the folder shows, or that there is none
abbrev pub IsNextDir : Content → Dir → Option Dir → Option Dir → Type 0
IsNextDir d dir after None = (q : Dir) → ShowsDir d dir q → IsDirAbove after q → ⊥
IsNextDir d dir after (Some next) =
    ShowsDir d dir next × IsDirAbove after next × ((q : Dir) → ShowsDir d dir q → IsDirAbove after q → dir_cmp next q ≢ Greater)

-- A listing of names, one at a time.
abbrev pub NextName : Content → Dir → Option Name → Result (Option Name) DiskAnswer → Content → Type 0
NextName d dir after (Ok next) e = IsSame d e × (d.dir dir ≡ true) × IsNextName d dir after next
NextName d dir after (Err Failed) e = IsSame d e
NextName d dir after (Err NoFile) e = IsSame d e × (d.dir dir ≡ false)
NextName d dir after (Err Exists) e = ⊥
NextName d dir after (Err OutOfFile) e = ⊥
NextName d dir after (Err NotEmpty) e = ⊥

-- A listing of folders, one at a time.
abbrev pub NextDir : Content → Dir → Option Dir → Result (Option Dir) DiskAnswer → Content → Type 0
NextDir d dir after (Ok next) e = IsSame d e × (d.dir dir ≡ true) × IsNextDir d dir after next
NextDir d dir after (Err Failed) e = IsSame d e
NextDir d dir after (Err NoFile) e = IsSame d e × (d.dir dir ≡ false)
NextDir d dir after (Err Exists) e = ⊥
NextDir d dir after (Err OutOfFile) e = ⊥
NextDir d dir after (Err NotEmpty) e = ⊥
