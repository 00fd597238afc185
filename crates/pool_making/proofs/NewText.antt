-- The record of a new master is valid, so its text reads as it; and what a new domain's leases hold.
use Rattle.std.proofs.Common.{◌≡◌, ℕ, ◌<◌, ◌≤◌, ◌^◌, List, [], length, replicate, Ok, refl, arith}
use Rattle.std.proofs.lemmas.List.Elements.{All-cons, All-nil}
use Rattle.kv_text.specs.Text.{IsOneLine}
use Rattle.sd_names.specs.Id.{IsIdBytes}
use Rattle.sd_names.specs.declared.id.Id.{Id}
use Rattle.shared_disk.specs.Content.{Content, zero_sector}
use Rattle.domain_meta.proofs.Back.{reads_back}
use Rattle.domain_meta.specs.Read.{read_domain}
use Rattle.domain_meta.specs.Text.{domain_text}
use Rattle.domain_meta.specs.Valid.{IsValid}
use Rattle.lease_area.specs.Hold.{Stands}
use Rattle.pool_making.specs.Layout.{zeros}
use Rattle.pool_making.specs.Pool.{IsDomain}
use Rattle.pool_making.specs.Writing.{only_master}
use Rattle.pool_making.specs.declared.layout.Area.TheVariants.{Leases}

is_valid : (pool sd : Id) (version : ℕ) (text : List ℕ) → IsIdBytes pool.0 → IsIdBytes sd.0 → version < 2 ^ 64 → length text ≤ 4096 → IsOneLine text → IsValid (only_master pool sd version text)
is_valid pool sd version text first second fits short one = record {
  version = fits;
  master_version = refl;
  lists = (omega arith, omega arith, refl);
  domains = All-cons (λ (id : Id). IsIdBytes id.0) sd [] second (All-nil (λ (id : Id). IsIdBytes id.0));
  sduuid = second;
  pool = first;
  description = short;
  one_line = one;
}

pub new_text_reads : (pool sd : Id) (version : ℕ) (text : List ℕ) → IsIdBytes pool.0 → IsIdBytes sd.0 → version < 2 ^ 64 → length text ≤ 4096 → IsOneLine text
    → read_domain sd (domain_text (only_master pool sd version text)) ≡ Ok (only_master pool sd version text)
new_text_reads pool sd version text first second fits short one = reads_back (only_master pool sd version text) (is_valid pool sd version text first second fits short one)

pub new_leases : (sd : Id) (text : List ℕ) (d : Content) (slot : ℕ) → slot < 1024 → IsDomain sd text d → Stands d sd slot (replicate 512 0)
unfolding zero_sector
new_leases sd text d slot within is = record {
  file = zeros 1024;
  there = is.files Leases (omega arith);
  within = within;
  settled = record { loose = refl; fresh = refl };
  bytes_are = refl;
}
