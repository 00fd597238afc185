-- Heads that are written.
use Rattle.std.specs.Prelude.{◌≡◌}
use Rattle.std.specs.Option.{is_some}
use Rattle.qcow_format.specs.declared.header.Header.{Header}

-- The second header has the extensions of the first, in the same place, and the same tables. It may differ in the backing
-- file, the size, the length of the L1 table and the features that a writer clears.
pub record HasSameShape (h next : Header) : Type 0 where
  pub version : next.version ≡ h.version
  pub bits : next.cluster_bits ≡ h.cluster_bits
  pub length : next.header_length ≡ h.header_length
  pub l1 : next.l1_table_offset ≡ h.l1_table_offset
  pub table : next.refcount_table_offset ≡ h.refcount_table_offset
  pub format_at : next.format_at ≡ h.format_at
  pub format : is_some next.format ≡ is_some h.format
