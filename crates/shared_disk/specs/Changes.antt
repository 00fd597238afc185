-- A file after an exchange of a sector, and after its length was raised.
use Rattle.std.specs.Prelude.{◌≡◌, ◌≢◌, ℕ, ◌==◌, nat_lt, if◌then◌else◌, List, [], ◌∷◌}
use Rattle.shared_disk.specs.Content.{File, Loose, zero_sector}

-- the unsynced writes of all other sectors
abbrev pub apart_from : ℕ → List Loose → List Loose
apart_from sector [] = []
apart_from sector (l ∷ ls) = if l.sector == sector then apart_from sector ls else l ∷ apart_from sector ls

-- a file after an exchange of a sector: it is on the medium, and no write of it waits
abbrev pub exchanged : ℕ → List ℕ → File → File
exchanged sector next f = record {
  size = f.size;
  stable = λ k. if k == sector then next else f.stable k;
  loose = apart_from sector f.loose;
  fresh = f.fresh;
}

-- a file that is raised to so many sectors, with zeros behind those that it had
abbrev pub raised : ℕ → File → File
raised size f = record {
  size = size;
  stable = λ k. if nat_lt k f.size then f.stable k else zero_sector;
  loose = f.loose;
  fresh = f.fresh;
}

-- a file that has at least so many sectors: raised where it had fewer
abbrev pub grown : ℕ → File → File
grown size f = if nat_lt f.size size then raised size f else f

-- the second file is the first with this sector in place of one
pub record IsChangedAt (sector : ℕ) (next : List ℕ) (f g : File) : Type 0 where
  pub size : g.size ≡ f.size
  pub here : g.stable sector ≡ next
  pub others : (k : ℕ) → k ≢ sector → g.stable k ≡ f.stable k
