-- Where a file or folder of the store stands in the file system.
use Rattle.std.specs.Prelude.{ℕ, List, [], ◌∷◌, ◌++◌, ◌==◌, length, if◌then◌else◌}

-- the path of the shared folder, and behind a slash the path below it, which is empty for the shared folder itself
abbrev pub path_below : List ℕ → List ℕ → List ℕ
path_below root below = if length below == 0 then root else root ++ 47 ∷ below

-- the path of the folder that is asked for by a path; an empty one asks for the current folder
abbrev pub folder_named : List ℕ → List ℕ
folder_named root = if length root == 0 then 46 ∷ [] else root
