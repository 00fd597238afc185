-- The read of a run gives the sectors of its file.
use Rattle.std.proofs.Common.{◌≡◌, ◌⊎◌, ℕ, ◌+◌, ◌-◌, ◌*◌, ◌<◌, ◌≤◌, List, ◌++◌, length, replicate, Some, sym, ap, ◌∙◌, subst, inl, inr, arith}
use Rattle.std.specs.Prelude.{if◌then◌else◌}
use Rattle.std.specs.List.{Contains}
use Rattle.std.proofs.lemmas.Bool.{cases_lt, le-ltb, lt-ltb}
use Rattle.sd_names.specs.declared.place.Place.{Place}
use Rattle.shared_disk.specs.Content.{Content, File, Loose, Sees, sector_of, zero_sector}
use Rattle.shared_disk.specs.Crash.{IsSettled}
use Rattle.shared_disk.proofs.Outcomes.{nothing_in}
use Rattle.shared_disk.proofs.Sectors.{sector_front}
use Rattle.image_model.specs.File.{sector_in}
use Rattle.raw_layer.specs.Raw.{ReadsFile, ReadsSector}
use Rattle.qcow_layer.proofs.Knowing.{settled_seen}
use Rattle.chain_reading.specs.Running.{HasSectors}
use Rattle.chain_reading.specs.declared.running.Run.{Run}

same_file : (d : Content) (place : Place) (f g : File) → d.file place ≡ Some f → d.file place ≡ Some g → g ≡ f
same_file d place f g e h = cc

-- nothing is unsynced, so that the host sees what is on the medium
stable_seen : (host k : ℕ) (f : File) (bytes : List ℕ) → IsSettled f → Sees host f k bytes → bytes ≡ f.stable k
stable_seen host k f bytes settled (inl e) = e ∙ ap (λ (s : ℕ → List ℕ). s k) (settled_seen host f settled)
stable_seen host k f bytes settled (inr h) = absurd (nothing_in h.1.0 (subst (λ (ls : List Loose). Contains ls h.1.0) settled.loose h.1.1))

sector_read : (host k : ℕ) (f : File) (bytes : List ℕ) → IsSettled f → ReadsSector host f k bytes → bytes ≡ sector_in f.size f.stable k
unfolding zero_sector
sector_read host k f bytes settled reads = go (cases_lt k f.size)
  where
    go : (k < f.size) ⊎ (f.size ≤ k) → bytes ≡ sector_in f.size f.stable k
    go (inl less) = stable_seen host k f bytes settled (reads.0 less) ∙ sym (ap (λ b. if b then f.stable k else replicate 512 0) (lt-ltb k f.size less))
    go (inr le) = reads.1 le ∙ sym (ap (λ b. if b then f.stable k else replicate 512 0) (le-ltb k f.size le))

pub run_read : (r : Run) (place : Place) (host at : ℕ) (part rest : List ℕ) (d : Content) (f : File) → at ≡ r.sector → 512 * (r.to - r.from) ≤ length part → ReadsFile d host place at part
    → d.file place ≡ Some f → IsSettled f → HasSectors r f (part ++ rest)
run_read r place host at part rest d f is long reads there settled j less =
    let same : reads.0 ≡ f = same_file d place f reads.0 there reads.1 in
    let sector = subst (λ (g : File). ReadsSector host g (at + j) (sector_of part j)) same (reads.2 j (omega (arith, long, less))) in
    sector_front part rest j (omega (arith, long, less))
    ∙ sector_read host (at + j) f (sector_of part j) settled sector
    ∙ ap (λ n. sector_in f.size f.stable (n + j)) is
