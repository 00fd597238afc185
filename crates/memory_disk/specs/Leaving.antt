-- Unsynced writes that leave the log together.
use Rattle.std.specs.Prelude.{ℕ, ◌==◌, ◌&&◌, Bool, not, filter, List}
use Rattle.memory_disk.specs.declared.entry.Write.{Write}
use Rattle.memory_disk.specs.declared.log.Leaving.{Leaving}
use Rattle.memory_disk.specs.declared.log.Leaving.TheVariants.{ByHost, ByHostInFile, InFile, OfSector}

-- whether those of a host, a file and a sector do
abbrev pub is_leaving : Leaving → ℕ × ℕ × ℕ → Bool
is_leaving (ByHostInFile host n) key = key.0 == host && key.1 == n
is_leaving (InFile n) key = key.1 == n
is_leaving (OfSector n sector) key = key.1 == n && key.2 == sector
is_leaving (ByHost host) key = key.0 == host

-- a write's host, file and sector
abbrev pub key_of : Write → ℕ × ℕ × ℕ
key_of w = (w.host, w.file, w.sector)

-- the writes but those that leave
abbrev pub left_of : Leaving → List Write → List Write
left_of leaving log = filter (λ w. not (is_leaving leaving (key_of w))) log
