-- What a step of a write to a raw volume leaves.
use Rattle.std.proofs.Common.{◌≡◌, ℕ, ◌+◌, ◌-◌, ◌*◌, ◌/◌, ◌<◌, ◌≤◌, Bool, true, false, List, length, Option, Some, Ok, Err, refl, sym, ap, ◌∙◌, subst, inl, inr, arith}
use Rattle.std.specs.Prelude.{MatchBool, Result, nat_le, unwrap_or}
use Rattle.std.proofs.lemmas.Bool.Decides.{nat_tests}
use Rattle.sd_names.specs.declared.id.Id.{Id}
use Rattle.sd_names.specs.declared.kinds.Format.TheVariants as format
use Rattle.sd_names.specs.declared.place.Place.{Place}
use Rattle.sd_names.specs.declared.refusal.Refusal.{Refusal}
use Rattle.sd_names.specs.declared.refusal.Refusal.TheVariants.{DiskFault, NoRoom}
use Rattle.sd_names.specs.declared.turn.Turn.{Turn}
use Rattle.sd_names.specs.declared.turn.Turn.TheVariants.{More, Done, Ended}
use Rattle.shared_disk.specs.Calls.{HasLength, IsPiece, IsPut, IsSame, Syncs, WriteAt, sectors_in, synced, wrote}
use Rattle.shared_disk.specs.Content.{Content, File, own_of, sector_of}
use Rattle.shared_disk.specs.Crash.{IsAlone, IsSettled, OnEach}
use Rattle.shared_disk.specs.Refusal.{refusal_of}
use Rattle.shared_disk.specs.Step.{GoesOn}
use Rattle.shared_disk.specs.declared.disk.DiskAnswer.{DiskAnswer}
use Rattle.shared_disk.specs.declared.disk.DiskAnswer.TheVariants.{NoFile, Exists, OutOfFile, NotEmpty, Failed}
use Rattle.shared_disk.proofs.AtPlace.{no_file, one_file}
use Rattle.shared_disk.proofs.Outcomes.{settled_file, synced_file}
use Rattle.raw_layer.specs.Part.{SeesPart}
use Rattle.raw_layer.specs.Place as raw_place
use Rattle.raw_layer.specs.Raw.{AsksLength, IsAt, SyncsFile, WriteSteps, WritesPart, stage_of, write_from, write_place}
use Rattle.raw_layer.specs.declared.write.RawWrite.{RawWrite}
use Rattle.raw_layer.specs.declared.write.Stage.{Stage}
use Rattle.raw_layer.specs.declared.write.Stage.TheVariants.{Begun, Fits, Written}
use Rattle.raw_writing.proofs.Seen.{written_seen}
use Rattle.volume_meta.specs.declared.record.VolumeRecord.{VolumeRecord}
use Rattle.qcow_layer.proofs.Knowing.{settled_alone}
use Rattle.layer_writing.proofs.Sectors.{alone_writes}
use Rattle.chain_model.specs.Folder.{Folder, folder_of}
use Rattle.chain_model.specs.Own.{own_in, sectors_of}
use Rattle.chain_model.specs.Records.{Records}
use Rattle.chain_laws.specs.Laid.{IsInPart, Laying, sector_in_part}
use Rattle.chain_laws.specs.Written.{ComesWritten, FileWritten}
use Rattle.chain_laws.proofs.Outcomes.{changed_comes, comes_itself, comes_through}
use Rattle.part_laws.specs.Steps.{HoldsIn}
use Rattle.part_laws.proofs.Files.{raw_part_held, raw_written}
use Rattle.part_laws.proofs.Held.{alike_written, part_everywhere}
use Rattle.chain_records.specs.Records.{records_in}
use Rattle.chain_gathering.specs.Knowing.{AreSettled}
use Rattle.chain_gathering.specs.declared.names.VolumeName.TheVariants.{Data}
use Rattle.volume_chain.specs.Chain.{IsOpenAs, dir_in, place_in}
use Rattle.volume_chain.specs.Knowing.{IsKnown, KnowsChain}
use Rattle.volume_chain.specs.declared.chain.Chain.{Chain}
use Rattle.volume_chain.specs.declared.volumes.OpenVolume.{OpenVolume}
use Rattle.volume_chain.specs.declared.volumes.OpenVolume.TheVariants.{Raw, Cow}
use Rattle.raw_writing.specs.Image.{AreSettledBut, IsPartOf, OnlyChanges}
use Rattle.raw_writing.specs.Writing.{IsBegun, Knows, KnowsRawFile, Writes, WritingTurn}
use Rattle.raw_writing.specs.declared.writing.RawWriting.{RawWriting}
use Rattle.raw_writing.proofs.Image.{all_settled, chain_kept, changed_at, path_file, rest_kept, settled_but}

abbrev pub RawTurn : Type 0
RawTurn = Turn RawWrite (Unit {0}) (Unit {0})

-- the same turn, of the volume's write
abbrev pub turn_of : RawWriting → RawTurn → WritingTurn
turn_of w (More next) = More (record { volume = w.volume; write = next })
turn_of w (Done b) = Done b
turn_of w (Ended b refusal) = Ended b refusal

-- whole sectors
whole_part : (bytes : List ℕ) → IsPiece (length bytes) → length bytes ≡ 512 * sectors_in bytes
whole_part bytes piece = let whole = piece.0 in omega (arith, whole)

only_put : (d e : Content) (p : Place) (g : File) → IsPut d p (Some g) e → OnlyChanges p d e
only_put d e p g put = record { dirs = put.dirs; files = put.others }

only_same : (d : Content) (p : Place) → OnlyChanges p d d
only_same d p = record { dirs = λ q. refl; files = λ q other. refl }

raw_not_cow : format.Raw ≡ format.Cow → ⊥
raw_not_cow same = let h : format.Raw ≡ format.Cow = same in absurd cc

module _ (w : RawWriting) (c : Chain) (l : Laying) (x : VolumeRecord) (host faults : ℕ) (start : Folder) (d e : Content) (k : Knows w c l x host start d) where
  abbrev P : Place
  P = place_in c.target l.volume

  abbrev F : Content → Folder
  F z = folder_of (dir_in c.target) z

  abbrev Leaves : RawTurn → Content → Type 0
  Leaves turn z = Writes w c l x host faults start (turn_of w turn) d z

  says : records_in c.records l.volume ≡ Some x
  says = ap (λ (r : Records). r l.volume) (sym k.of.records) ∙ k.of.says

  -- ---- a change of the volume's file

  known_here : (g : File) → e.file P ≡ Some g → g.size ≡ k.file.size → (o : OpenVolume) → IsOpenAs c.target l.volume (records_in c.records l.volume) o
      → IsKnown c.target host d l.volume o → IsKnown c.target host e l.volume o
  known_here g now size (Raw n) open_as known =
      let same : known.0.size ≡ k.file.size = ap (λ (f : File). f.size) (one_file known.0 k.file (d.file P) known.1 k.there) in
      let long = known.2 in
      (g, now, omega (arith, same, size, long))
  known_here g now size (Cow m) open_as known =
      let is = subst (λ (q : Option VolumeRecord). IsOpenAs c.target l.volume q (Cow m)) says open_as in
      absurd (raw_not_cow (sym k.raw ∙ is.0))

  module _ (g : File) (put : IsPut d P (Some g) e) (size : g.size ≡ k.file.size) (written : FileWritten l k.file g) where
    only : OnlyChanges P d e
    only = only_put d e P g put

    chain_now : KnowsChain c host e
    chain_now = chain_kept c l.volume host d e only k.file g k.there put.here (known_here g put.here size) k.chain

    comes_now : ComesWritten l start (F e)
    comes_now = comes_through l start (F d) (F e) k.comes (changed_comes l k.file g (F d) (F e) (changed_at c l.volume host d e only k.file g k.there put.here) written)

    rest_now : AreSettledBut (dir_in c.target) l.volume e
    rest_now = rest_kept c l.volume host d e only k.rest

    goes_on : (next : RawWrite) (s : Stage) → IsAt w.write s next → KnowsRawFile s host l.part g → Leaves (More next) e
    goes_on next s at file = record {
      only = only;
      chain = chain_now;
      comes = comes_now;
      after = record {
        of = k.of;
        raw = k.raw;
        volume = k.volume;
        place = at.same.place ∙ k.place;
        from = at.same.from ∙ k.from;
        chain = chain_now;
        rest = rest_now;
        comes = comes_now;
        file = g;
        there = put.here;
        stage = subst (λ (t : Stage). KnowsRawFile t host l.part g) (sym at.now_in) file;
      };
    }

    faulted : Leaves (Ended tt (DiskFault faults)) e
    faulted = record { only = only; chain = chain_now; comes = comes_now; after = inl refl }

  -- ---- nothing changed

  same_fault : IsSame d e → Leaves (Ended tt (DiskFault faults)) e
  same_fault same = subst (λ (z : Content). Leaves (Ended tt (DiskFault faults)) z) (sym same) (record { only = only_same d P; chain = k.chain; comes = k.comes; after = inl refl })

  same_next : (next : RawWrite) (s : Stage) → IsSame d e → IsAt w.write s next → KnowsRawFile s host l.part k.file → Leaves (More next) e
  same_next next s same at file = subst (λ (z : Content). Leaves (More next) z) (sym same) (record {
    only = only_same d P;
    chain = k.chain;
    comes = k.comes;
    after = record {
      of = k.of;
      raw = k.raw;
      volume = k.volume;
      place = at.same.place ∙ k.place;
      from = at.same.from ∙ k.from;
      chain = k.chain;
      rest = k.rest;
      comes = k.comes;
      file = k.file;
      there = k.there;
      stage = subst (λ (t : Stage). KnowsRawFile t host l.part k.file) (sym at.now_in) file;
    };
  })

  lacking : (refusal : Refusal) → IsSame d e → k.file.size < l.part.at + sectors_in l.part.bytes → refusal ≡ NoRoom l.volume (512 * k.file.size) (512 * l.part.at + length l.part.bytes)
      → Leaves (Ended tt refusal) e
  lacking refusal same short is = subst (λ (z : Content). Leaves (Ended tt refusal) z) (sym same) (record {
    only = only_same d P;
    chain = k.chain;
    comes = k.comes;
    after = inr (record { file = k.file; there = k.there; short = short; says = is; same = refl });
  })

  -- ---- the write

  did_write : (turn : RawTurn) (f : File) → d.file P ≡ Some f → IsSettled k.file → l.part.at + sectors_in l.part.bytes ≤ k.file.size → IsPut d P (Some (wrote (λ _. true) host l.part.at l.part.bytes f)) e
      → GoesOn (IsAt w.write Written) turn → Leaves turn e
  did_write (More next) f there settled fits put at =
      let is : f ≡ k.file = one_file f k.file (d.file P) there k.there in
      goes_on (wrote (λ _. true) host l.part.at l.part.bytes k.file) (subst (λ (h : File). IsPut d P (Some (wrote (λ _. true) host l.part.at l.part.bytes h)) e) is put) refl
      (raw_written l x (λ _. true) host k.file k.of.says k.raw fits) next Written at
      (alone_writes (λ _. true) host l.part.at l.part.bytes k.file (settled_alone host k.file settled), written_seen host l.part.at l.part.bytes k.file fits)
  did_write (Done b) f there settled fits put at = absurd at
  did_write (Ended b refusal) f there settled fits put at = absurd at

  failed_write : (a : DiskAnswer) → l.part.at + sectors_in l.part.bytes ≤ k.file.size → WriteAt d host P l.part.at l.part.bytes (Err a) e → Leaves (Ended tt (refusal_of a faults)) e
  failed_write Failed fits (inl same) = same_fault same
  failed_write Failed fits (inr part) =
      let is : part.0 ≡ k.file = one_file part.0 k.file (d.file P) part.1 k.there in
      faulted (wrote part.3 host l.part.at l.part.bytes k.file) (subst (λ (h : File). IsPut d P (Some (wrote part.3 host l.part.at l.part.bytes h)) e) is part.4) refl
      (raw_written l x part.3 host k.file k.of.says k.raw fits)
  failed_write NoFile fits call = absurd (no_file k.file (d.file P) call.1 k.there)
  failed_write OutOfFile fits call =
      let is : call.1.size ≡ k.file.size = ap (λ (h : File). h.size) (one_file call.1 k.file (d.file P) call.2 k.there) in
      let less = call.3 in
      absurd (omega (arith, is, less, fits))
  failed_write Exists fits call = absurd call
  failed_write NotEmpty fits call = absurd call

  at_file : (host : ℕ) (part : List ℕ) (answer : Result (Unit {0}) DiskAnswer) → l.part.bytes ≡ part → WriteAt d host (write_place w.write) (write_from w.write / 512) part answer e → WriteAt d host P l.part.at l.part.bytes answer e
  at_file host part answer same call =
      let from : write_from w.write ≡ 512 * l.part.at = k.from in
      let at : write_from w.write / 512 ≡ l.part.at = omega (arith, from) in
      subst (λ (p : Place). WriteAt d host p l.part.at l.part.bytes answer e) k.place
      (subst (λ n. WriteAt d host (write_place w.write) n l.part.bytes answer e) at (subst (λ (b : List ℕ). WriteAt d host (write_place w.write) (write_from w.write / 512) b answer e) (sym same) call))

  writes_part : (turn : RawTurn) (part : List ℕ) → l.part.bytes ≡ part → IsSettled k.file → l.part.at + sectors_in l.part.bytes ≤ k.file.size → WritesPart w.write host faults part turn d e → Leaves turn e
  writes_part turn part same settled fits (Ok t, call, follows) =
      let done = at_file host part (Ok t) same call in
      did_write turn done.0 done.1 settled fits done.3 follows
  writes_part turn part same settled fits (Err a, call, follows) =
      subst (λ (t : RawTurn). Leaves t e) (sym follows) (failed_write a fits (at_file host part (Err a) same call))

  -- ---- the length

  failed_length : (a : DiskAnswer) → HasLength d P (Err a) e → Leaves (Ended tt (refusal_of a faults)) e
  failed_length Failed call = same_fault call
  failed_length NoFile call = absurd (no_file k.file (d.file P) call.1 k.there)
  failed_length Exists call = absurd call
  failed_length OutOfFile call = absurd call
  failed_length NotEmpty call = absurd call

  long_enough : (turn : RawTurn) → IsSame d e → IsSettled k.file → l.part.at + sectors_in l.part.bytes ≤ k.file.size → GoesOn (IsAt w.write Fits) turn → Leaves turn e
  long_enough (More next) same settled fits at = same_next next Fits same at (settled, fits)
  long_enough (Done b) same settled fits at = absurd at
  long_enough (Ended b refusal) same settled fits at = absurd at

  decides : (turn : RawTurn) (count n : ℕ) (b : Bool) → nat_le (write_from w.write + count) n ≡ b → count ≡ length l.part.bytes → length l.part.bytes ≡ 512 * sectors_in l.part.bytes
      → n ≡ 512 * k.file.size → IsSame d e → IsSettled k.file
      → MatchBool b (GoesOn (IsAt w.write Fits) turn) (turn ≡ Ended tt (NoRoom (raw_place.volume_of (write_place w.write).name) n (write_from w.write + count))) → Leaves turn e
  decides turn count n true t many whole is same settled follows =
      let from : write_from w.write ≡ 512 * l.part.at = k.from in
      let low : write_from w.write + count ≤ n = grind (arith, nat_tests) in
      let fits : l.part.at + sectors_in l.part.bytes ≤ k.file.size = omega (arith, low, from, many, whole, is) in
      long_enough turn same settled fits follows
  decides turn count n false t many whole is same settled follows =
      let from : write_from w.write ≡ 512 * l.part.at = k.from in
      let high : n < write_from w.write + count = grind (arith, nat_tests) in
      let short : k.file.size < l.part.at + sectors_in l.part.bytes = omega (arith, high, from, many, whole, is) in
      let volume : raw_place.volume_of (write_place w.write).name ≡ l.volume = ap (λ (p : Place). raw_place.volume_of p.name) k.place in
      let end : write_from w.write + count ≡ 512 * l.part.at + length l.part.bytes = omega (arith, from, many) in
      let says_so : NoRoom (raw_place.volume_of (write_place w.write).name) n (write_from w.write + count) ≡ NoRoom l.volume (512 * k.file.size) (512 * l.part.at + length l.part.bytes) =
      ap (λ (v : Id). NoRoom v n (write_from w.write + count)) volume ∙ ap (λ m. NoRoom l.volume m (write_from w.write + count)) is ∙ ap (λ m. NoRoom l.volume (512 * k.file.size) m) end in
      subst (λ (u : RawTurn). Leaves u e) (sym follows) (lacking (NoRoom (raw_place.volume_of (write_place w.write).name) n (write_from w.write + count)) same short says_so)

  asks_length : (turn : RawTurn) (count : ℕ) → count ≡ length l.part.bytes → length l.part.bytes ≡ 512 * sectors_in l.part.bytes → IsSettled k.file → AsksLength w.write faults count turn d e → Leaves turn e
  asks_length turn count many whole settled (Ok n, call, follows) =
      let asked = subst (λ (p : Place). HasLength d p (Ok n) e) k.place call in
      let is : n ≡ 512 * k.file.size = asked.3 ∙ ap (λ (h : File). 512 * h.size) (one_file asked.1 k.file (d.file P) asked.2 k.there) in
      decides turn count n (nat_le (write_from w.write + count) n) refl many whole is asked.0 settled follows
  asks_length turn count many whole settled (Err a, call, follows) =
      subst (λ (t : RawTurn). Leaves t e) (sym follows) (failed_length a (subst (λ (p : Place). HasLength d p (Err a) e) k.place call))

  -- ---- the sync

  module _ (alone : IsAlone host k.file) (sees : SeesPart host l.part.at l.part.bytes k.file) where
    abbrev g : File
    g = synced host k.file

    settled_now : IsSettled g
    settled_now = record { loose = alone.loose; fresh = alone.fresh }

    part_there : (j : ℕ) → IsInPart l.part j → g.stable j ≡ sector_in_part l.part j
    part_there j (low, high) =
        let at : l.part.at + (j - l.part.at) ≡ j = omega (arith, low) in
        let within : j - l.part.at < sectors_in l.part.bytes = omega (arith, low, high) in
        subst (λ n. unwrap_or (own_of host n k.file.loose) (k.file.stable n) ≡ sector_of l.part.bytes (j - l.part.at)) at (sees.sectors (j - l.part.at) within)

    holds : OnEach g (HoldsIn l x (λ _. true))
    holds o out = subst (λ (h : File). HoldsIn l x (λ _. true) h) (sym (settled_file g o settled_now out)) (λ j among inside low. one j inside low)
      where
        one : (j : ℕ) → IsInPart l.part j → j < sectors_of x → own_in x g j ≡ Some (sector_in_part l.part j)
        one j (from, to) low = let fits = sees.fits in raw_part_held l x g j k.raw low (omega (arith, to, fits)) (part_there j (from, to))

    syncs_well : IsPut d P (Some g) e → Leaves (Done tt) e
    syncs_well put =
        let written : FileWritten l k.file g = alike_written l x k.file g k.of.says (λ o out. (o, synced_file host k.file o out, λ j. refl)) in
        record {
          only = only g put refl written;
          chain = chain_now g put refl written;
          comes = comes_now g put refl written;
          after = record {
            chain = chain_now g put refl written;
            settled = all_settled c l.volume e g (rest_now g put refl written) put.here settled_now;
            holds = part_everywhere l x (λ _. true) g (F e) k.of.says put.here (λ j inside. refl) holds;
          };
        }

    did_sync : (f : File) → d.file P ≡ Some f → IsPut d P (Some (synced host f)) e → Leaves (Done tt) e
    did_sync f there put = syncs_well (subst (λ (h : File). IsPut d P (Some (synced host h)) e) (one_file f k.file (d.file P) there k.there) put)

  failed_sync : (a : DiskAnswer) → Syncs d host P (Err a) e → Leaves (Ended tt (refusal_of a faults)) e
  failed_sync Failed call = same_fault call
  failed_sync NoFile call = absurd (no_file k.file (d.file P) call.1 k.there)
  failed_sync Exists call = absurd call
  failed_sync OutOfFile call = absurd call
  failed_sync NotEmpty call = absurd call

  syncs_file : (turn : RawTurn) → IsAlone host k.file → SeesPart host l.part.at l.part.bytes k.file → SyncsFile w.write host faults turn d e → Leaves turn e
  syncs_file turn alone sees (Ok t, call, follows) =
      let done = subst (λ (p : Place). Syncs d host p (Ok t) e) k.place call in
      subst (λ (u : RawTurn). Leaves u e) (sym follows) (did_sync alone sees done.0 done.1 done.2)
  syncs_file turn alone sees (Err a, call, follows) =
      subst (λ (u : RawTurn). Leaves u e) (sym follows) (failed_sync a (subst (λ (p : Place). Syncs d host p (Err a) e) k.place call))

  -- ---- by the stage

  module _ (turn : RawTurn) (part : List ℕ) (same : l.part.bytes ≡ part) (piece : IsPiece (length part)) where
    whole : length l.part.bytes ≡ 512 * sectors_in l.part.bytes
    whole = whole_part l.part.bytes (subst (λ (b : List ℕ). IsPiece (length b)) (sym same) piece)

    begun : (known : ℕ) (b : Bool) → nat_le (write_from w.write + length part) known ≡ b → IsSettled k.file → known ≤ 512 * k.file.size
        → MatchBool b (WritesPart w.write host faults part turn d e) (AsksLength w.write faults (length part) turn d e) → Leaves turn e
    begun known true t settled long steps =
        let from : write_from w.write ≡ 512 * l.part.at = k.from in
        let whole_now = whole in
        let many : length part ≡ length l.part.bytes = ap length (sym same) in
        let low : write_from w.write + length part ≤ known = grind (arith, nat_tests) in
        writes_part turn part same settled (omega (arith, low, from, many, whole_now, long)) steps
    begun known false t settled long steps = asks_length turn (length part) (ap length (sym same)) whole settled steps

    by_stage : (s : Stage) → KnowsRawFile s host l.part k.file → WriteSteps s w.write host faults part turn d e → Leaves turn e
    by_stage (Begun known) file steps = begun known (nat_le (write_from w.write + length part) known) refl file.0 file.1 steps
    by_stage Fits file steps = writes_part turn part same file.0 file.1 steps
    by_stage Written file steps = syncs_file turn file.0 file.1 steps

    pub leaves : WriteSteps (stage_of w.write) w.write host faults part turn d e → Leaves turn e
    leaves steps = by_stage (stage_of w.write) k.stage steps

-- a write that was begun
pub begins : (w : RawWriting) (c : Chain) (l : Laying) (x : VolumeRecord) (host : ℕ) (d : Content) → IsBegun c l.volume (512 * l.part.at) w → IsPartOf l c x → x.format ≡ format.Raw
    → KnowsChain c host d → AreSettled (dir_in c.target) d → Knows w c l x host (folder_of (dir_in c.target) d) d
begins w c l x host d begun of raw knows settled =
    let has = path_file c l.volume host d knows of.path in
    record {
      of = of;
      raw = raw;
      volume = begun.volume;
      place = begun.place;
      from = begun.from;
      chain = knows;
      rest = settled_but c l.volume d settled;
      comes = comes_itself l (folder_of (dir_in c.target) d);
      file = has.0;
      there = has.1;
      stage = file_begins (stage_of w.write) has.0 begun.stage (here has.0 has.1);
    }
  where
    here : (f : File) → d.file (place_in c.target l.volume) ≡ Some f → IsSettled f
    here f there = settled (Data l.volume) f there

    file_begins : (s : Stage) (f : File) → s ≡ Begun 0 → IsSettled f → KnowsRawFile s host l.part f
    file_begins s f is settled_f = subst (λ (t : Stage). KnowsRawFile t host l.part f) (sym is) (settled_f, omega arith)
