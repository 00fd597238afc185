-- The numbers by which a qcow2 file is known (qcow2 specification, "Header" and "Header extensions").
use Rattle.std.specs.Prelude.{ℕ}

-- the first four bytes of a file, 51 46 49 fb: `QFI` and 0xfb
abbrev pub magic : ℕ
magic = 1363560955

-- the type of the extension that names the backing file's format: e2 79 2a ca
abbrev pub backing_format : ℕ
backing_format = 3799591626
