-- What a step that writes, syncs or reads one sector of a quiet file leaves, from what its call left.
use Rattle.std.proofs.Common.{◌≡◌, ◌⊎◌, inl, inr, ℕ, ◌+◌, ◌*◌, ◌<◌, ◌≤◌, List, length, replicate, Some, Ok, Err, refl, sym, ap, ◌∙◌, subst, arith}
use Rattle.std.proofs.lemmas.List.{length-replicate, take_all}
use Rattle.sd_names.specs.Turn.{MatchTurn}
use Rattle.sd_names.specs.declared.refusal.Refusal.TheVariants.{DiskFault}
use Rattle.sd_names.specs.declared.turn.Turn.TheVariants.{More, Ended}
use Rattle.shared_disk.specs.Content.{Content, File, Sees, sector_of}
use Rattle.shared_disk.specs.Calls.{IsSame, synced}
use Rattle.shared_disk.specs.Crash.{IsSettled}
use Rattle.shared_disk.specs.WellFormed.{IsWellFormedFile}
use Rattle.shared_disk.specs.declared.disk.DiskAnswer.TheVariants.{NoFile, Exists, OutOfFile, NotEmpty, Failed}
use Rattle.shared_disk.proofs.AtPlace.{no_file, one_file}
use Rattle.shared_disk.proofs.Toolkit.{sees_settled}
use Rattle.image_model.specs.File as image
use Rattle.image_model.specs.File.{file_of}
use Rattle.image_model.specs.Soundness.{IsSound}
use Rattle.qcow_layer.specs.Opening.{capacity_kept, place_kept}
use Rattle.qcow_layer.specs.declared.layer.Layer.{Layer}
use Rattle.layer_writing.specs.Holding.{on_medium, with_sector}
use Rattle.layer_writing.specs.Writer.{IsLeft, KnowsWriter}
use Rattle.layer_writing.proofs.Known.{between_synced}
use Rattle.layer_heading.specs.Writing.{IsQuiet, IsWriting, Leaves, ReadsThen, SyncsThen, Turned, WritesThen}
use Rattle.layer_heading.proofs.Frames.{Wrote, wrote_one}
use Rattle.layer_heading.proofs.Outcomes.{comes_same, comes_synced, comes_written, quiet_left, sound_on_each}
use Rattle.layer_heading.proofs.Quiet as quiet

module _ {S : Type 0} (R : image.File → image.File → Type 0) (same : (x : image.File) → R x x) (Knows : S → File → Type 0)
    (layer after : Layer) (host faults : ℕ) (turn : Turned S) (d e : Content) (f : File) (there : d.file (place_kept layer) ≡ Some f)
    (formed : (f' : File) → e.file (place_kept layer) ≡ Some f' → IsWellFormedFile f') where
  -- what stands at the place afterwards
  abbrev pub Here : Type 0
  Here = (f' : File) × (e.file (place_kept layer) ≡ Some f') × Leaves R Knows layer after host faults turn f f'

  abbrev pub Next : Turned S → File → Type 0
  Next t f' = MatchTurn t (λ next. Knows next f') (λ _. KnowsWriter after host f' × IsSettled f') (λ _ refusal. (refusal ≡ DiskFault faults) × IsLeft layer host f')

  -- with other sectors the file is what a step may make of it, and sound
  abbrev pub Becomes : File → (ℕ → List ℕ) → Type 0
  Becomes g s = R (on_medium g) (file_of g.size s) × IsSound (file_of g.size s) (capacity_kept layer)

  pub next_by : (t : Turned S) (f' : File) → turn ≡ t → Next t f' → Next turn f'
  next_by t f' is known = subst (λ (x : Turned S). Next x f') (sym is) known

  pub fault_by : (f' : File) → turn ≡ Ended tt (DiskFault faults) → IsLeft layer host f' → Next turn f'
  fault_by f' is left = next_by (Ended tt (DiskFault faults)) f' is (refl, left)

  pub unchanged : IsSame d e → Next turn f → Here
  unchanged is next = (f, ap (λ (c : Content). c.file (place_kept layer)) is ∙ there, record { size = refl; comes = comes_same R same f; next = next })

  -- a sector of a quiet file is written
  pub written_here : (p : ℕ) (sector : List ℕ) (next : S) → (q : IsQuiet layer host f) → length sector ≡ 512 → p < f.size
      → Becomes f (with_sector p sector f.stable)
      → ((f' : File) → IsWriting host p sector f f' → Knows next f')
      → WritesThen layer host p sector faults (More next) turn d e → Here
  written_here p sector next q sized inside becomes knows (answer, is, by) =
      let w = wrote_one (place_kept layer) host p sector faults (More next) turn f d e there q.settled sized inside answer is by in (
        w.file,
        w.there,
        record {
          size = w.size;
          comes = comes_written R same p sector f q.settled becomes.0 w.file w.size w.each;
          next = go w w.ends;
        },
      )
    where
      go : (w : Wrote (place_kept layer) host p sector faults (More next) turn f e) → ((turn ≡ More next) × IsWriting host p sector f w.file) ⊎ (turn ≡ Ended tt (DiskFault faults))
          → Next turn w.file
      go w (inl done) = next_by (More next) w.file done.0 (knows w.file done.1)
      go w (inr failed) = fault_by w.file failed (record { alone = w.alone; made = w.made; sound = sound_on_each (capacity_kept layer) p sector f w.file w.size w.each (quiet.numbers layer host f q).sound becomes.1 })

  -- it is synced
  pub synced_here : (p : ℕ) (sector : List ℕ) (t : Turned S) (g : File) → (q : IsQuiet layer host g) → IsWriting host p sector g f
      → Becomes g (with_sector p sector g.stable)
      → ((f' : File) → f'.size ≡ g.size → IsSettled f' → f'.stable ≡ with_sector p sector g.stable → IsWellFormedFile f' → turn ≡ t → Next t f')
      → SyncsThen layer host faults t turn d e → Here
  synced_here p sector t g q w becomes knows (Ok u, is, by) =
      let one : is.0 ≡ f = one_file is.0 f (d.file (place_kept layer)) is.1 there in
      let here : e.file (place_kept layer) ≡ Some (synced host f) = is.2.here ∙ ap (λ (x : File). Some (synced host x)) one in
      let done = between_synced host g.stable (with_sector p sector g.stable) f w.between in (
        synced host f,
        here,
        record {
          size = refl;
          comes = comes_synced R same host f;
          next = next_by t (synced host f) by (knows (synced host f) w.size done.0 done.1 (formed (synced host f) here) by);
        },
      )
  synced_here p sector t g q w becomes knows (Err Failed, kept, by) =
      unchanged kept (fault_by f by (record {
        alone = w.between.alone;
        made = w.between.made;
        sound = sound_on_each (capacity_kept layer) p sector g f w.size w.between.each (quiet.numbers layer host g q).sound becomes.1;
      }))
  synced_here p sector t g q w becomes knows (Err NoFile, is, by) = absurd (no_file f (d.file (place_kept layer)) is.1 there)
  synced_here p sector t g q w becomes knows (Err Exists, is, by) = absurd is
  synced_here p sector t g q w becomes knows (Err OutOfFile, is, by) = absurd is
  synced_here p sector t g q w becomes knows (Err NotEmpty, is, by) = absurd is

  -- the first sector is read
  pub read_here : (next : List ℕ → Turned S) → IsQuiet layer host f → (next (f.stable 0) ≡ turn → Next turn f) → ReadsThen layer host faults next turn d e → Here
  read_here next q knows (Ok count, first, sized, is, by) =
      let one : is.1 ≡ f = one_file is.1 f (d.file (place_kept layer)) is.2 there in
      let some = quiet.some layer host f q in
      let width : length (replicate {A = ℕ} 512 0) ≡ 512 = length-replicate {A = ℕ} 512 0 in
      let enough : 512 * (0 + 1) ≤ count = omega (arith, is.3, width, some, ap (λ (x : File). x.size) one) in
      let sees = is.4.sectors 0 enough in
      let found : first ≡ f.stable 0 =
      sym (take_all 512 first (omega (arith, sized))) ∙ sees_settled host 0 f (sector_of first 0) q.settled (subst (λ (x : File). Sees host x 0 (sector_of first 0)) one sees) in
      unchanged is.0 (knows (sym (by ∙ ap next found)))
  read_here next q knows (Err Failed, first, sized, kept, by) = unchanged kept (fault_by f by (quiet_left layer host f q))
  read_here next q knows (Err NoFile, first, sized, is, by) = absurd (no_file f (d.file (place_kept layer)) is.1 there)
  read_here next q knows (Err Exists, first, sized, is, by) = absurd is
  read_here next q knows (Err OutOfFile, first, sized, is, by) = absurd is
  read_here next q knows (Err NotEmpty, first, sized, is, by) = absurd is
