-- What the steps leave that look the last cluster up, write zeros and sync them.
use Rattle.std.proofs.Common.{◌≡◌, ◌≢◌, ◌⊎◌, inl, inr, ℕ, ◌+◌, ◌-◌, ◌*◌, ◌/◌, ◌%◌, ◌^◌, ◌<◌, ◌≤◌, true, List, length, get_or, take, drop, replicate, Some, Ok, Err, refl, sym, ap, ◌∙◌, subst, arith}
use Rattle.std.proofs.lemmas.Bool.{cases_lt}
use Rattle.std.proofs.lemmas.List.{get_or-drop, get_or-take, get_or_append_left, length-append, length-replicate, length-take, take_all}
use Rattle.std.proofs.Math.Seq.{get_or-append_right}
use Rattle.sd_names.specs.Turn.{MatchTurn}
use Rattle.sd_names.specs.declared.refusal.Refusal.{Refusal}
use Rattle.sd_names.specs.declared.refusal.Refusal.TheVariants.{DiskFault}
use Rattle.sd_names.specs.declared.turn.Turn.{Turn}
use Rattle.sd_names.specs.declared.turn.Turn.TheVariants.{More, Done, Ended}
use Rattle.shared_disk.specs.Content.{Content, File, Sees, sector_of, seen}
use Rattle.shared_disk.specs.Calls.{IsSame, sectors_in, synced, wrote}
use Rattle.shared_disk.specs.Refusal.{IsRisen}
use Rattle.shared_disk.specs.Step.{TurnFaults}
use Rattle.shared_disk.specs.WellFormed.{IsWellFormedFile}
use Rattle.shared_disk.specs.declared.disk.DiskAnswer.TheVariants.{NoFile, Exists, OutOfFile, NotEmpty, Failed}
use Rattle.shared_disk.proofs.AtPlace.{no_file, one_file}
use Rattle.qcow_format.specs.declared.entry.Entry.{Entry}
use Rattle.qcow_format.specs.declared.entry.Entry.TheVariants.{Absent, Zero, Data}
use Rattle.qcow_format.specs.declared.header.Header.{Header}
use Rattle.image_model.specs.File as image
use Rattle.image_model.specs.Layer.{entry_at}
use Rattle.qcow_layer.specs.Looking.{IsFault, IsLookedUp, KnowsTable, cluster_of, table_of}
use Rattle.qcow_layer.specs.Opening.{capacity_kept, header_kept, place_kept}
use Rattle.qcow_layer.specs.declared.layer.Layer.{Layer}
use Rattle.qcow_layer.specs.declared.looking.Looked.{Looked}
use Rattle.qcow_layer.specs.declared.looking.Looking.{Looking}
use Rattle.qcow_layer.proofs.Knowing.{seen_whole}
use Rattle.layer_writing.specs.Writer.{IsLeft}
use Rattle.layer_heading.specs.Writing.{IsQuiet, Turned, WritesThen}
use Rattle.layer_heading.proofs.Frames.{Elsewhere, at_same, read_elsewhere, sync_elsewhere, write_elsewhere}
use Rattle.layer_heading.proofs.Outcomes.{comes_synced, quiet_left}
use Rattle.layer_heading.proofs.Quiet as quiet
use Rattle.layer_heading.proofs.Writing as writing
use Rattle.layer_sizing.specs.Blanks.{IsBlanking}
use Rattle.layer_sizing.specs.Sized.{IsOldOrSized}
use Rattle.layer_sizing.specs.Sizing.{IsRangeOf, KnowsIn, KnowsRange, KnowsSizing, LooksOn, ReadsEdge, SyncsZeros, WritesEdge, WritesZeros, Zeroes, looked_turn, tables_on, whole}
use Rattle.layer_sizing.specs.Stages.{after_looking, after_zeros, asked_of, going, last_cluster, moved, piece, zeros_from}
use Rattle.layer_sizing.specs.declared.raising.Part.{Part}
use Rattle.layer_sizing.specs.declared.raising.Part.TheVariants.{Tables as InTables, Rest as InRest}
use Rattle.layer_sizing.specs.declared.raising.Range.{Range}
use Rattle.layer_sizing.specs.declared.raising.Raising.{Raising}
use Rattle.layer_sizing.specs.declared.raising.Stage.TheVariants.{Seeking, Zeroing, Edge}
use Rattle.layer_sizing.specs.declared.sizing.Sizing.{Sizing}
use Rattle.layer_sizing.proofs.Blanking as blanking
use Rattle.layer_sizing.proofs.Blanking.{IsPieceByte, IsPieceOf}
use Rattle.layer_sizing.proofs.Behind.{free_behind, still_empty, rest_empty}
use Rattle.layer_sizing.proofs.Ranges as ranges
use Rattle.layer_sizing.proofs.Spans.{zero_at}

-- the refusal of a look that was a fault has the count
fault_is : (before faults : ℕ) (refusal : Refusal) → IsFault refusal → IsRisen before faults refusal → refusal ≡ DiskFault faults
fault_is before faults (DiskFault n) fault risen = ap (λ m. DiskFault m) risen.1
fault_is before faults _ fault risen = absurd fault

-- ---- what is written

-- whole sectors of zeros
zeros_piece : (range : Range) (low : ℕ) (s : ℕ → List ℕ) → range.at < range.end → range.at % 512 ≡ 0 → low ≤ range.at → IsPieceOf low (whole range.end) s (range.at / 512) (replicate (piece range) 0)
zeros_piece range low s some even ge j i lt small =
    let sized = length-replicate {A = ℕ} (piece range) 0 in
    inl (
      omega (arith, even, ge),
      omega (arith, lt, sized, small, even, some),
      get_or-take 512 (drop (512 * j) (replicate (piece range) 0)) i 0 small ∙ get_or-drop (512 * j) (replicate (piece range) 0) i 0 ∙ zero_at (piece range) (512 * j + i),
    )

-- a sector with zeros from the range's first byte on
edge_length : (from : ℕ) (sector : List ℕ) → from ≤ 512 → length sector ≡ 512 → length (zeros_from from sector) ≡ 512
edge_length from sector le sized = omega (arith, length-append (take from sector) (replicate (512 - from) 0), length-take from sector, length-replicate {A = ℕ} (512 - from) 0, le, sized)

edge_piece : (range : Range) (low : ℕ) (s : ℕ → List ℕ) (old : List ℕ) → range.at < range.end → range.at ≡ low → length old ≡ 512
    → ((i : ℕ) → i < 512 → 512 * (range.at / 512) + i < low → get_or old i 0 ≡ get_or (s (range.at / 512)) i 0)
    → IsPieceOf low (whole range.end) s (range.at / 512) (zeros_from (range.at % 512) old)
edge_piece range low s old some begins sized same j i lt small =
    let from : ℕ = range.at % 512 in
    let long = edge_length from old (omega arith) sized in
    let first : 0 ≡ j = omega (arith, lt, long) in
    subst (λ m. IsPieceByte low (whole range.end) s (range.at / 512 + m) i (get_or (sector_of (zeros_from from old) m) i 0)) first
    (subst (λ m. IsPieceByte low (whole range.end) s m i (get_or (sector_of (zeros_from from old) 0) i 0)) (plus_zero (range.at / 512))
    (subst (λ (xs : List ℕ). IsPieceByte low (whole range.end) s (range.at / 512) i (get_or xs i 0)) (sym (take_all 512 (zeros_from from old) (omega (arith, long)))) (go (cases_lt i from))))
  where
    plus_zero : (a : ℕ) → a ≡ a + 0
    plus_zero a = omega arith

    go : (i < range.at % 512) ⊎ (range.at % 512 ≤ i) → IsPieceByte low (whole range.end) s (range.at / 512) i (get_or (zeros_from (range.at % 512) old) i 0)
    go (inl before) = inr (
      omega (arith, before, begins),
      get_or_append_left (take (range.at % 512) old) (replicate (512 - range.at % 512) 0) 0 i (omega (arith, before, length-take (range.at % 512) old, sized))
          ∙ get_or-take (range.at % 512) old i 0 before ∙ same i small (omega (arith, before, begins)),
    )
    go (inr behind) = inl (
      omega (arith, behind, begins),
      omega (arith, some, small),
      get_or-append_right (take (range.at % 512) old) (replicate (512 - range.at % 512) 0) i 0 (omega (arith, behind, length-take (range.at % 512) old, sized))
          ∙ zero_at (512 - range.at % 512) (i - length (take (range.at % 512) old)),
    )

-- ---- the steps

module _ (r : Raising) (layer after : Layer) (host before faults : ℕ) (turn : Turned Sizing) (d e : Content) (f : File) (there : d.file (place_kept layer) ≡ Some f)
    (formed : (f' : File) → e.file (place_kept layer) ≡ Some f' → IsWellFormedFile f') where
  abbrev larger : ℕ
  larger = asked_of r

  abbrev h : Header
  h = header_kept layer

  abbrev capacity : ℕ
  capacity = capacity_kept layer

  abbrev R : image.File → image.File → Type 0
  R = IsOldOrSized h capacity larger

  pub same : (x : image.File) → R x x
  same x = inl refl

  abbrev pub Here : Type 0
  Here = writing.Here R same (KnowsSizing layer host) layer after host faults turn d e f there formed

  next_by : (t : Turned Sizing) (f' : File) → turn ≡ t → writing.Next R same (KnowsSizing layer host) layer after host faults turn d e f there formed t f'
      → writing.Next R same (KnowsSizing layer host) layer after host faults turn d e f there formed turn f'
  next_by = writing.next_by R same (KnowsSizing layer host) layer after host faults turn d e f there formed

  unchanged : IsSame d e → writing.Next R same (KnowsSizing layer host) layer after host faults turn d e f there formed turn f → Here
  unchanged = writing.unchanged R same (KnowsSizing layer host) layer after host faults turn d e f there formed

  -- ---- the last cluster is looked up

  pub look_here : (at : Looking) → KnowsIn (Seeking at) larger layer host f → TurnFaults before faults turn → LooksOn r at layer host turn d e → Here
  look_here at (q, may, cluster, table) counts (looked, on, is) =
      unchanged on.same (next_by (looked_turn r layer looked) f is (by looked is
      (on.after f.size f.stable (seen_whole host (place_kept layer) f d q.settled there) q.writer.knows.fits (quiet.numbers layer host f q) (subst (λ k. KnowsTable (tables_on layer f) k (table_of at)) (sym cluster) table))))
    where
      Found : Turn Looking Looked (Unit {0}) → Type 0
      Found t = MatchTurn t
          (λ next. (cluster_of next ≡ cluster_of at) × KnowsTable (tables_on layer f) (cluster_of at) (table_of next))
          (λ looked. IsLookedUp (tables_on layer f) (cluster_of at) looked)
          (λ _ refusal. IsFault refusal)

      known : (entry : Entry) → entry ≡ entry_at (tables_on layer f) (last_cluster layer) → KnowsIn (after_looking layer larger entry) larger layer host f
      known (Data place) e = ranges.rest_begins layer larger host f q may place (sym e)
      known (Zero place) e =
          ranges.tables_begin layer larger host f q may
          (ranges.empty_by f.size capacity f.stable h (quiet.numbers layer host f q).header (quiet.numbers layer host f q).sound (λ p held. not_zero place p (e ∙ held)))
        where
          not_zero : (place p : ℕ) → Zero place ≡ Data p → ⊥
          not_zero place p e = cc
      known Absent e =
          ranges.tables_begin layer larger host f q may
          (ranges.empty_by f.size capacity f.stable h (quiet.numbers layer host f q).header (quiet.numbers layer host f q).sound (λ p held. not_absent p (e ∙ held)))
        where
          not_absent : (p : ℕ) → Absent ≡ Data p → ⊥
          not_absent p e = cc

      by : (t : Turn Looking Looked (Unit {0})) → turn ≡ looked_turn r layer t → Found t → writing.Next R same (KnowsSizing layer host) layer after host faults turn d e f there formed (looked_turn r layer t) f
      by (More next) is found = (q, may, found.0 ∙ cluster, subst (λ k. KnowsTable (tables_on layer f) k (table_of next)) cluster found.1)
      by (Done looked) is found = known looked.entry (found.entry ∙ ap (entry_at (tables_on layer f)) cluster)
      by (Ended back refusal) is fault = (fault_is before faults refusal fault (subst (λ (t : Turned Sizing). TurnFaults before faults t) is counts), quiet_left layer host f q)

  -- ---- a range

  module _ (range : Range) (k : KnowsRange range layer larger host f) where
    abbrev g : File
    g = k.quiet

    abbrev low : ℕ
    low = k.low

    abbrev high : ℕ
    high = whole range.end

    lies : ranges.Law layer low high g × (high ≤ 512 * g.size)
    lies = ranges.range_law layer larger host g k.blanking.quiet k.may range.part low range.end k.of

    fits : 512 * g.size < 2 ^ 64
    fits = k.blanking.quiet.writer.knows.fits

    left : (f' : File) → IsBlanking layer host low high g f' → IsLeft layer host f'
    left f' b = blanking.left layer larger host low high g lies.0 f' b

    -- behind a piece that was written
    wrote_here : (at by : ℕ) (bytes : List ℕ) → IsPieceOf low high g.stable at bytes → 512 * at ≤ range.at → range.at + by ≡ 512 * (at + sectors_in bytes) → 512 * (at + sectors_in bytes) ≤ high
        → WritesThen layer host at bytes faults (going r (Zeroing (moved range by))) turn d e → Here
    wrote_here at by bytes piece ge next top (Ok u, is, told) =
        let one : is.0 ≡ f = one_file is.0 f (d.file (place_kept layer)) is.1 there in
        let f' : File = wrote (λ _. true) host at bytes f in
        let here : e.file (place_kept layer) ≡ Some f' = is.3.here ∙ ap (λ (x : File). Some (wrote (λ _. true) host at bytes x)) one in
        let b = blanking.blanking_written layer larger host low high g lies.0 f k.blanking at bytes piece (λ _. true) (formed f' here) in
        let near : (moved range by).at ≡ 512 * (at + sectors_in bytes) = omega (arith, next, top, lies.1, fits) in (
          f',
          here,
          record {
            size = refl;
            comes = blanking.comes_written layer larger host low high g lies.0 f k.blanking at bytes piece (λ _. true) (formed f' here);
            next = next_by (going r (Zeroing (moved range by))) f' told (record {
              quiet = g;
              low = low;
              may = k.may;
              of = k.of;
              some = k.some;
              blanking = b;
              at = inr (omega (arith, near), omega (arith, near, next, began));
              blank = blanking.blank_written layer larger host low high g lies.0 f k.blanking at bytes piece range.at (moved range by).at k.blank ge (omega (arith, near));
            });
          },
        )
      where
        began : low ≤ range.at
        began = from k.at
          where
            from : (range.at ≡ low) ⊎ ((range.at % 512 ≡ 0) × (low ≤ range.at)) → low ≤ range.at
            from (inl e) = omega (arith, e)
            from (inr p) = p.1
    wrote_here at by bytes piece ge next top (Err Failed, inl kept, told) = unchanged kept (writing.fault_by R same (KnowsSizing layer host) layer after host faults turn d e f there formed f told (left f k.blanking))
    wrote_here at by bytes piece ge next top (Err Failed, inr is, told) =
        let one : is.0 ≡ f = one_file is.0 f (d.file (place_kept layer)) is.1 there in
        let f' : File = wrote is.3 host at bytes f in
        let here : e.file (place_kept layer) ≡ Some f' = is.4.here ∙ ap (λ (x : File). Some (wrote is.3 host at bytes x)) one in
        let b = blanking.blanking_written layer larger host low high g lies.0 f k.blanking at bytes piece is.3 (formed f' here) in (
          f',
          here,
          record {
            size = refl;
            comes = blanking.comes_written layer larger host low high g lies.0 f k.blanking at bytes piece is.3 (formed f' here);
            next = writing.fault_by R same (KnowsSizing layer host) layer after host faults turn d e f there formed f' told (left f' b);
          },
        )
    wrote_here at by bytes piece ge next top (Err OutOfFile, is, told) =
        let size : is.1.size ≡ f.size = ap (λ (x : File). x.size) (one_file is.1 f (d.file (place_kept layer)) is.2 there) in
        absurd (omega (arith, size, is.3, k.blanking.size, top, lies.1))
    wrote_here at by bytes piece ge next top (Err NoFile, is, told) = absurd (no_file f (d.file (place_kept layer)) is.1 there)
    wrote_here at by bytes piece ge next top (Err Exists, is, told) = absurd is
    wrote_here at by bytes piece ge next top (Err NotEmpty, is, told) = absurd is

    from_low : low ≤ range.at
    from_low = from k.at
      where
        from : (range.at ≡ low) ⊎ ((range.at % 512 ≡ 0) × (low ≤ range.at)) → low ≤ range.at
        from (inl e) = omega (arith, e)
        from (inr p) = p.1

    -- whole sectors of zeros
    pub zeros_here : range.at < range.end → range.at % 512 ≡ 0 → WritesZeros r range layer host faults turn d e → Here
    zeros_here some even call =
        let sized = length-replicate {A = ℕ} (piece range) 0 in
        wrote_here (range.at / 512) (piece range) (replicate (piece range) 0) (zeros_piece range low g.stable some even from_low) (omega arith) (omega (arith, sized, even)) (omega (arith, sized, even, some)) call

    -- the edge
    pub edge_here : (sector : List ℕ) → range.at < range.end → range.at % 512 ≢ 0 → sector ≡ zeros_from (range.at % 512) (seen host f (range.at / 512)) → WritesEdge r range sector layer host faults turn d e → Here
    edge_here sector some within is call =
        let old : List ℕ = seen host f (range.at / 512) in
        let sized : length old ≡ 512 = blanking.seen_long layer host low high g f k.blanking (range.at / 512) in
        let long = edge_length (range.at % 512) old (omega arith) sized in
        wrote_here (range.at / 512) (512 - range.at % 512) (zeros_from (range.at % 512) old) (edge_piece range low g.stable old some begins sized (λ i small lt. kept i lt (k.blanking.sees (range.at / 512) i small)))
        (omega arith) (omega (arith, long)) (omega (arith, long, some))
        (subst (λ (xs : List ℕ). WritesEdge r range xs layer host faults turn d e) is call)
      where
        begins : range.at ≡ low
        begins = from k.at
          where
            from : (range.at ≡ low) ⊎ ((range.at % 512 ≡ 0) × (low ≤ range.at)) → range.at ≡ low
            from (inl e) = e
            from (inr p) = absurd (within p.0)

        kept : (i : ℕ) → 512 * (range.at / 512) + i < low
            → (get_or (seen host f (range.at / 512)) i 0 ≡ get_or (g.stable (range.at / 512)) i 0)
            ⊎ ((low ≤ 512 * (range.at / 512) + i) × (512 * (range.at / 512) + i < high) × (get_or (seen host f (range.at / 512)) i 0 ≡ 0))
            → get_or (seen host f (range.at / 512)) i 0 ≡ get_or (g.stable (range.at / 512)) i 0
        kept i lt (inl e) = e
        kept i lt (inr z) = absurd (omega (arith, z.0, lt))

    -- it is read
    pub edge_read_here : range.at < range.end → range.at % 512 ≢ 0 → ReadsEdge r range layer host faults turn d e → Here
    edge_read_here some within (Ok count, sector, sized, is, told) =
        let one : is.1 ≡ f = one_file is.1 f (d.file (place_kept layer)) is.2 there in
        let width : length (replicate {A = ℕ} 512 0) ≡ 512 = length-replicate {A = ℕ} 512 0 in
        let size = ap (λ (x : File). x.size) one in
        let enough : 512 * (0 + 1) ≤ count = omega (arith, is.3, width, size, k.blanking.size, lies.1, some) in
        let sees = is.4.sectors 0 enough in
        let found : sector ≡ seen host f (range.at / 512) =
        sym (take_all 512 sector (omega (arith, sized)))
        ∙ blanking.sees_own layer host low high g f k.blanking (range.at / 512) (sector_of sector 0) (subst (λ m. Sees host f m (sector_of sector 0)) (plus_zero (range.at / 512)) (subst (λ (x : File). Sees host x (range.at / 512 + 0) (sector_of sector 0)) one sees)) in
        unchanged is.0 (next_by (going r (Edge range (zeros_from (range.at % 512) sector))) f told (k, some, within, ap (zeros_from (range.at % 512)) found))
      where
        plus_zero : (a : ℕ) → a + 0 ≡ a
        plus_zero a = omega arith
    edge_read_here some within (Err Failed, sector, sized, kept, told) = unchanged kept (writing.fault_by R same (KnowsSizing layer host) layer after host faults turn d e f there formed f told (left f k.blanking))
    edge_read_here some within (Err NoFile, sector, sized, is, told) = absurd (no_file f (d.file (place_kept layer)) is.1 there)
    edge_read_here some within (Err Exists, sector, sized, is, told) = absurd is
    edge_read_here some within (Err OutOfFile, sector, sized, is, told) = absurd is
    edge_read_here some within (Err NotEmpty, sector, sized, is, told) = absurd is

    -- all zeros of the range are synced
    behind_known : (part : Part) → IsRangeOf part low range.end layer larger g → range.end ≤ range.at → IsQuiet layer host (synced host f) → KnowsIn (after_zeros h larger part) larger layer host (synced host f)
    behind_known InRest (place, held, l, end) over q =
        ranges.tables_begin layer larger host (synced host f) q k.may
        (rest_empty layer larger host g k.blanking.quiet k.may low range.end (synced host f) place held l end
        (blanking.synced_same layer larger host low high g lies.0 f k.blanking) (λ j i small ge lt. k.blank j i small ge (omega (arith, lt, over))))
    behind_known InTables (l, end, empty) over q = record {
      quiet = q;
      may = k.may;
      tables = free_behind layer larger host g k.blanking.quiet k.may low range.end (synced host f) l end (λ j i small ge lt. k.blank j i small ge (omega (arith, lt, over)));
      rest = still_empty layer g (synced host f) empty (blanking.synced_same layer larger host low high g lies.0 f k.blanking);
    }

    pub synced_here : range.end ≤ range.at → SyncsZeros r range layer host faults turn d e → Here
    synced_here over (Ok u, is, told) =
        let one : is.0 ≡ f = one_file is.0 f (d.file (place_kept layer)) is.1 there in
        let here : e.file (place_kept layer) ≡ Some (synced host f) = is.2.here ∙ ap (λ (x : File). Some (synced host x)) one in
        let q = blanking.quiet_synced layer larger host low high g lies.0 f k.blanking (formed (synced host f) here) in (
          synced host f,
          here,
          record {
            size = refl;
            comes = comes_synced R same host f;
            next = next_by (going r (after_zeros h larger range.part)) (synced host f) told (behind_known range.part k.of over q);
          },
        )
    synced_here over (Err Failed, kept, told) = unchanged kept (writing.fault_by R same (KnowsSizing layer host) layer after host faults turn d e f there formed f told (left f k.blanking))
    synced_here over (Err NoFile, is, told) = absurd (no_file f (d.file (place_kept layer)) is.1 there)
    synced_here over (Err Exists, is, told) = absurd is
    synced_here over (Err OutOfFile, is, told) = absurd is
    synced_here over (Err NotEmpty, is, told) = absurd is

    pub zeroes_here : Zeroes r range layer host faults turn d e → Here
    zeroes_here (inl (over, call)) = synced_here over call
    zeroes_here (inr (inl (some, within, call))) = edge_read_here some within call
    zeroes_here (inr (inr (some, even, call))) = zeros_here some even call

-- all other files, and the folders
pub zeroes_elsewhere : (r : Raising) (range : Range) (layer : Layer) (host faults : ℕ) (turn : Turned Sizing) (d e : Content) → Zeroes r range layer host faults turn d e → Elsewhere (place_kept layer) d e
zeroes_elsewhere r range layer host faults turn d e (inl (over, call)) = sync_elsewhere d e host (place_kept layer) call.0 call.1
zeroes_elsewhere r range layer host faults turn d e (inr (inl (some, within, call))) =
    at_same (place_kept layer) d e (read_elsewhere d e host (range.at / 512) (place_kept layer) (replicate 512 0) call.1 call.0 call.3)
zeroes_elsewhere r range layer host faults turn d e (inr (inr (some, even, call))) = write_elsewhere d e host (range.at / 512) (place_kept layer) (replicate (piece range) 0) call.0 call.1
