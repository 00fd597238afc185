-- Sectors and clusters: a cluster is made of whole sectors.
use Rattle.std.proofs.Common.{◌≡◌, ℕ, ◌+◌, ◌-◌, ◌*◌, ◌/◌, ◌%◌, ◌^◌, ◌<◌, ◌≤◌, sym, ap, ap₂, ◌∙◌, subst, arith}
use Rattle.std.proofs.lemmas.Nat.{div-add-mod', div-mul-add, mod-mul-add, mod_below, pow-add, pow_pos}
use Rattle.shared_disk.specs.Content.{File}
use Rattle.qcow_format.specs.declared.header.Header.{Header}
use Rattle.qcow_format.proofs.Kept.{cluster_range, read_without_fault}
use Rattle.volume_meta.specs.declared.record.VolumeRecord.{VolumeRecord}
use Rattle.std.specs.Prelude.{Ok}
use Rattle.image_model.specs.File.{file_of}
use Rattle.chain_model.specs.Own.{header_in}
use Rattle.chain_model.proofs.LongerFiles.{header_behind}

-- a cluster has so many sectors
pub record IsWide (bits : ℕ) : Type 0 where
  pub sectors : ℕ
  pub some : 0 < sectors
  pub size : 2 ^ bits ≡ 512 * sectors

wide_bits : (bits : ℕ) → 9 ≤ bits → IsWide bits
wide_bits bits low = let parts : bits ≡ 9 + (bits - 9) = omega arith in record { sectors = 2 ^ (bits - 9); some = pow_pos (bits - 9); size = ap (λ n. 2 ^ n) parts ∙ pow-add 2 9 (bits - 9) }

pub wide : (x : VolumeRecord) (f : File) (h : Header) → header_in x f ≡ Ok h → IsWide h.cluster_bits
wide x f h e =
    let read = (header_behind (file_of f.size f.stable) x.capacity h e).1 in
    let range = (cluster_range h (read_without_fault (file_of f.size f.stable).head h read)).0 in
    wide_bits h.cluster_bits (omega (arith, range))

-- where byte i of a disk stands, whose sector is k, in clusters of c sectors
pub record IsSplit (c i k w : ℕ) : Type 0 where
  pub cluster : 512 * k / w ≡ i / w
  pub offset : i % w ≡ 512 * k % w + i % 512
  pub sector : 512 * k % w % 512 ≡ 0
  pub parts : k ≡ 512 * k / w * c + 512 * k % w / 512
  pub inside : 512 * k % w + 512 ≤ w

split_sector : (c i : ℕ) → 0 < c → IsSplit c i (i / 512) (512 * c)
split_sector c i some =
    let k = i / 512 in
    let q = k / c in
    let m = k % c in
    let w = 512 * c in
    let parts : q * c + m ≡ k = div-add-mod' k c in
    let low : m < c = mod_below k c some in
    let start : 512 * k ≡ q * w + 512 * m = omega (arith, parts) in
    let byte : i ≡ q * w + (512 * m + i % 512) = omega (arith, start) in
    let inside : 512 * m < w = omega (arith, low) in
    let within : 512 * m + i % 512 < w = omega (arith, low) in
    let quotient : 512 * k / w ≡ q = ap (λ n. n / w) start ∙ div-mul-add q w (512 * m) inside in
    let offset : 512 * k % w ≡ 512 * m = ap (λ n. n % w) start ∙ mod-mul-add q w (512 * m) inside in
    record {
      cluster = quotient ∙ sym (ap (λ n. n / w) byte ∙ div-mul-add q w (512 * m + i % 512) within);
      offset = ap (λ n. n % w) byte ∙ mod-mul-add q w (512 * m + i % 512) within ∙ ap (λ n. n + i % 512) (sym offset);
      sector = ap (λ n. n % 512) offset ∙ omega arith;
      parts = sym parts ∙ ap₂ (λ a b. a * c + b) (sym quotient) (sym (ap (λ n. n / 512) offset ∙ omega arith));
      inside = omega (arith, offset, low);
    }

pub split : (c i k w : ℕ) → 0 < c → i / 512 ≡ k → w ≡ 512 * c → IsSplit c i k w
split c i k w some is size = subst (λ v. IsSplit c i k v) (sym size) (subst (λ j. IsSplit c i j (512 * c)) is (split_sector c i some))

-- what begins a cluster begins a sector
pub whole_place : (c place w : ℕ) → 0 < c → w ≡ 512 * c → place % w ≡ 0 → place % 512 ≡ 0
whole_place c place w some size begins =
    let at : place % (512 * c) ≡ 0 = subst (λ v. place % v ≡ 0) size begins in
    let parts : place / (512 * c) * (512 * c) + place % (512 * c) ≡ place = div-add-mod' place (512 * c) in
    let q = place / (512 * c) * c in
    let is : q * 512 ≡ place / (512 * c) * (512 * c) = omega arith in
    omega (arith, at, parts, is)
