-- What the last steps of a sizing leave: the header is read, written and synced.
use Rattle.std.proofs.Common.{◌≡◌, inl, inr, ℕ, ◌<◌, List, length, Some, Ok, refl, sym, ap, ◌∙◌, subst, arith}
use Rattle.std.specs.Prelude.{not}
use Rattle.sd_names.specs.Turn.{MatchTurn}
use Rattle.sd_names.specs.declared.turn.Turn.TheVariants.{Done}
use Rattle.shared_disk.specs.Content.{Content, File}
use Rattle.shared_disk.specs.WellFormed.{IsWellFormedFile}
use Rattle.qcow_format.specs.declared.header.Header.{Header}
use Rattle.qcow_format.specs.Name.{backing_id}
use Rattle.image_model.specs.File as image
use Rattle.image_model.specs.File.{file_of}
use Rattle.image_model.specs.Layer.{is_used}
use Rattle.image_model.specs.Soundness.{IsSound, layer_header}
use Rattle.layer_laws.specs.Laws as laws
use Rattle.layer_walk.specs.Bits.{has, room_of}
use Rattle.qcow_layer.specs.Knowing.{KnowsNumbers}
use Rattle.qcow_layer.specs.Opening.{capacity_kept, header_kept, place_kept}
use Rattle.qcow_layer.specs.declared.layer.Layer.{Layer}
use Rattle.layer_writing.specs.Holding.{on_medium, with_sector}
use Rattle.layer_writing.specs.Writer.{IsSameFile}
use Rattle.layer_writing.proofs.Known.{anew}
use Rattle.layer_heading.specs.Writing.{IsWriting, SyncsThen, Turned, WritesThen}
use Rattle.layer_heading.proofs.Layers as layers
use Rattle.layer_heading.proofs.Quiet as quiet
use Rattle.layer_heading.proofs.Writing as writing
use Rattle.layer_sizing.specs.Sized.{IsOldOrSized, IsSized, sized, sized_sector}
use Rattle.layer_sizing.specs.Sizing.{IsReady, KnowsSizing, LaysHeader, header_sector}
use Rattle.layer_sizing.specs.Stages.{IsResized, asked_of, at_stage, going}
use Rattle.layer_sizing.specs.declared.raising.Raising.{Raising}
use Rattle.layer_sizing.specs.declared.raising.Stage.TheVariants.{Laid, Headed}
use Rattle.layer_sizing.specs.declared.sizing.Sizing.{Sizing}
use Rattle.layer_sizing.specs.declared.sizing.Sizing.TheVariants.{Going}
use Rattle.layer_sizing.proofs.Files as files

-- when the header is synced the layer has it
abbrev pub Resizes : Raising → Layer → Layer → Turned Sizing → Type 0
Resizes r layer after turn = MatchTurn turn (λ _. after ≡ layer) (λ _. IsResized layer (asked_of r) after) (λ _ _. after ≡ layer)

-- ---- a quiet file in which all zeros are on the medium, with the new header

module _ (layer_ : Layer) (larger host : ℕ) (f : File) (k : IsReady layer_ larger host f) where
  abbrev h : Header
  h = header_kept layer_

  abbrev capacity : ℕ
  capacity = capacity_kept layer_

  abbrev headed : ℕ → List ℕ
  headed = with_sector 0 (header_sector layer_ larger f) f.stable

  numbers : KnowsNumbers layer_ (on_medium f)
  numbers = quiet.numbers layer_ host f k.quiet

  pub sector_long : length (header_sector layer_ larger f) ≡ 512
  sector_long =
      files.first_long f.size capacity larger f.stable h (quiet.long layer_ host f k.quiet) (quiet.fits layer_ host f k.quiet) numbers.header numbers.sound (quiet.inside layer_ host f k.quiet)
      (let lt = k.may.0 in omega (arith, lt)) k.may.1 k.tables k.rest

  pub next_sized : IsSized h capacity larger (on_medium f) (file_of f.size headed)
  next_sized =
      files.is_sized f.size capacity larger f.stable h (quiet.long layer_ host f k.quiet) (quiet.fits layer_ host f k.quiet) numbers.header numbers.sound (quiet.inside layer_ host f k.quiet)
      (let lt = k.may.0 in omega (arith, lt)) k.may.1 k.tables k.rest

  pub next_same : laws.Rebased h (sized h larger) capacity (on_medium f) (file_of f.size headed)
  next_same =
      files.same f.size capacity larger f.stable h (quiet.long layer_ host f k.quiet) (quiet.fits layer_ host f k.quiet) numbers.header numbers.sound (quiet.inside layer_ host f k.quiet)
      (let lt = k.may.0 in omega (arith, lt)) k.may.1 k.tables k.rest

  pub next_numbers : (after : Layer) → IsResized layer_ larger after → KnowsNumbers after (file_of f.size headed)
  next_numbers after w =
      let cap : after.target.capacity ≡ larger = ap (λ t. t.capacity) w.target ∙ (let lt = k.may.0 in omega (arith, lt)) in
      let g : image.File = file_of f.size headed in
      record {
        header = ap (layer_header g) cap ∙ next_sized.header ∙ ap (λ (x : Header). Ok x) (sym w.header);
        parent = w.parent ∙ numbers.parent ∙ sym next_sized.parent ∙ ap (λ (x : Header). backing_id x g.head) (sym w.header);
        sound = subst (λ (c : ℕ). IsSound g c) (sym cap) next_sized.sound;
        used = λ c lt.
            ap (λ m. has m.free c) w.marks ∙ numbers.used c (subst (λ (b : ℕ). c < b) (ap (λ m. room_of m.free) w.marks) lt)
            ∙ ap not (sym (ap (λ (x : Header). is_used (laws.layer x g) c) w.header ∙ layers.used_same h (sized h larger) capacity (on_medium f) g c refl next_same));
      }

  pub same_file : (after : Layer) → IsResized layer_ larger after → IsSameFile layer_ after
  same_file after w = record {
    place = ap (λ t. t.place) w.target;
    greatest = ap (λ t. t.greatest) w.target;
    length = ap (λ m. m.size) w.marks;
    mapped = ap (λ m. room_of m.free) w.marks;
    bits = ap (λ (x : Header). x.cluster_bits) w.header;
  }

-- ---- the steps

module _ (r : Raising) (layer after : Layer) (host faults : ℕ) (turn : Turned Sizing) (d e : Content) (f : File) (there : d.file (place_kept layer) ≡ Some f)
    (formed : (f' : File) → e.file (place_kept layer) ≡ Some f' → IsWellFormedFile f') where
  abbrev larger : ℕ
  larger = asked_of r

  abbrev R : image.File → image.File → Type 0
  R = IsOldOrSized (header_kept layer) (capacity_kept layer) larger

  pub same : (x : image.File) → R x x
  same x = inl refl

  abbrev pub Here : Type 0
  Here = writing.Here R same (KnowsSizing layer host) layer after host faults turn d e f there formed

  pub ready_here : IsReady layer larger host f → LaysHeader r layer host faults turn d e → Here
  ready_here k call =
      writing.read_here R same (KnowsSizing layer host) layer after host faults turn d e f there formed (λ first. going r (Laid (sized_sector (header_kept layer) larger first))) k.quiet
      (λ by. writing.next_by R same (KnowsSizing layer host) layer after host faults turn d e f there formed (going r (Laid (header_sector layer larger f))) f (sym by) (k, refl)) call

  pub laid_here : (sector : List ℕ) → IsReady layer larger host f → sector ≡ header_sector layer larger f → WritesThen layer host 0 sector faults (going r Headed) turn d e → Here
  laid_here sector k is call =
      writing.written_here R same (KnowsSizing layer host) layer after host faults turn d e f there formed 0 (header_sector layer larger f) (Going (at_stage r Headed)) k.quiet (sector_long layer larger host f k)
      (quiet.some layer host f k.quiet) (inr (inr (next_sized layer larger host f k)), (next_same layer larger host f k).sound)
      (λ f' w. (f, k, w)) (subst (λ (s : List ℕ). WritesThen layer host 0 s faults (going r Headed) turn d e) is call)

  pub headed_here : (g : File) → IsReady layer larger host g → IsWriting host 0 (header_sector layer larger g) g f → Resizes r layer after turn → SyncsThen layer host faults (Done tt) turn d e → Here
  headed_here g k w keeps call =
      writing.synced_here R same (KnowsSizing layer host) layer after host faults turn d e f there formed 0 (header_sector layer larger g) (Done tt) g k.quiet w
      (inr (inr (next_sized layer larger host g k)), (next_same layer larger host g k).sound)
      (λ f' size settled stable formed' by.
      let resized : IsResized layer larger after = subst (λ (t : Turned Sizing). Resizes r layer after t) by keeps in (
        anew layer after host g f' k.quiet.writer (same_file layer larger host g k after resized) size settled
            (subst (λ (x : image.File). KnowsNumbers after x) (λ i. file_of (sym size i) (sym stable i)) (next_numbers layer larger host g k after resized)),
        settled,
      )) call
