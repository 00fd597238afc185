-- What each step of a clearing leaves, from what its call left.
use Rattle.std.proofs.Common.{◌≡◌, inl, inr, ℕ, List, length, Some, refl, sym, ◌∙◌, subst}
use Rattle.sd_names.specs.declared.turn.Turn.TheVariants.{More, Done}
use Rattle.shared_disk.specs.Content.{Content, File}
use Rattle.shared_disk.specs.WellFormed.{IsWellFormedFile}
use Rattle.qcow_format.specs.declared.header.Header.{Header}
use Rattle.image_model.specs.File as image
use Rattle.image_model.specs.File.{file_of}
use Rattle.qcow_layer.specs.Knowing.{KnowsNumbers}
use Rattle.qcow_layer.specs.Mapping.{IsWithHeader}
use Rattle.qcow_layer.specs.Opening.{capacity_kept, header_kept, parent_kept, place_kept}
use Rattle.qcow_layer.specs.declared.layer.Layer.{Layer}
use Rattle.layer_writing.specs.Holding.{on_medium, with_sector}
use Rattle.layer_writing.proofs.Known.{anew}
use Rattle.layer_heading.specs.Cleared.{IsCleared, IsOldOrCleared, cleared, cleared_sector}
use Rattle.layer_heading.specs.Clearing.{HasFeatures, KeepsCleared, KnowsStage, laid_next}
use Rattle.layer_heading.specs.Writing.{IsQuiet, IsWriting, ReadsThen, SyncsThen, Turned, WritesThen}
use Rattle.layer_heading.specs.declared.clearing_stage.ClearingStage.{ClearingStage}
use Rattle.layer_heading.specs.declared.clearing_stage.ClearingStage.TheVariants.{Headed}
use Rattle.layer_heading.proofs.ClearedFiles as cleared_files
use Rattle.layer_heading.proofs.Quiet as quiet
use Rattle.layer_heading.proofs.Writing as writing

abbrev headed : File → ℕ → List ℕ
headed f = with_sector 0 (cleared_sector (f.stable 0)) f.stable

-- a quiet file with the cleared sector
is_cleared : (layer : Layer) (host : ℕ) (f : File) → IsQuiet layer host f → HasFeatures layer → IsCleared (header_kept layer) (capacity_kept layer) (on_medium f) (file_of f.size (headed f))
is_cleared layer host f q some =
    let k = quiet.numbers layer host f q in
    cleared_files.is_cleared f.size (capacity_kept layer) f.stable (header_kept layer) some (quiet.long layer host f q) k.header k.sound (quiet.inside layer host f q)

sector_long : (layer : Layer) (host : ℕ) (f : File) → IsQuiet layer host f → HasFeatures layer → length (cleared_sector (f.stable 0)) ≡ 512
sector_long layer host f q some =
    let k = quiet.numbers layer host f q in
    cleared_files.first_long f.size (capacity_kept layer) f.stable (header_kept layer) some (quiet.long layer host f q) k.header k.sound (quiet.inside layer host f q)

module _ (layer after : Layer) (host faults : ℕ) (turn : Turned ClearingStage) (d e : Content) (f : File) (there : d.file (place_kept layer) ≡ Some f)
    (formed : (f' : File) → e.file (place_kept layer) ≡ Some f' → IsWellFormedFile f') where
  abbrev h : Header
  h = header_kept layer

  abbrev R : image.File → image.File → Type 0
  R = IsOldOrCleared h (capacity_kept layer)

  pub same : (x : image.File) → R x x
  same x = inl refl

  abbrev pub Here : Type 0
  Here = writing.Here R same (KnowsStage layer host) layer after host faults turn d e f there formed

  pub read_here : IsQuiet layer host f → HasFeatures layer → ReadsThen layer host faults laid_next turn d e → Here
  read_here q some call =
      writing.read_here R same (KnowsStage layer host) layer after host faults turn d e f there formed laid_next q
      (λ by. writing.next_by R same (KnowsStage layer host) layer after host faults turn d e f there formed (laid_next (f.stable 0)) f (sym by) (q, some, refl)) call

  pub laid_here : (sector : List ℕ) → IsQuiet layer host f → HasFeatures layer → sector ≡ cleared_sector (f.stable 0) → WritesThen layer host 0 sector faults (More Headed) turn d e → Here
  laid_here sector q some is call =
      let c = is_cleared layer host f q some in
      writing.written_here R same (KnowsStage layer host) layer after host faults turn d e f there formed 0 (cleared_sector (f.stable 0)) Headed q (sector_long layer host f q some)
      (quiet.some layer host f q) (inr c, c.rest.sound)
      (λ f' w. (f, q, some, w)) (subst (λ (s : List ℕ). WritesThen layer host 0 s faults (More Headed) turn d e) is call)

  pub headed_here : (g : File) → IsQuiet layer host g → HasFeatures layer → IsWriting host 0 (cleared_sector (g.stable 0)) g f → KeepsCleared layer after turn → SyncsThen layer host faults (Done tt) turn d e → Here
  headed_here g q some w keeps call =
      let c = is_cleared layer host g q some in
      writing.synced_here R same (KnowsStage layer host) layer after host faults turn d e f there formed 0 (cleared_sector (g.stable 0)) (Done tt) g q w (inr c, c.rest.sound)
      (λ f' size settled stable formed' by.
      let with_header : IsWithHeader layer (cleared h) (parent_kept layer) after = subst (λ (t : Turned ClearingStage). KeepsCleared layer after t) by keeps in
      let numbers : KnowsNumbers after (file_of g.size (headed g)) =
      quiet.numbers_with layer host g q (cleared h) (parent_kept layer) after with_header (file_of g.size (headed g)) c.header ((quiet.numbers layer host g q).parent ∙ sym c.parent) refl c.rest in (
        anew layer after host g f' q.writer (quiet.same_file layer host g q (cleared h) (parent_kept layer) after with_header refl) size settled
            (subst (λ (x : image.File). KnowsNumbers after x) (λ i. file_of (sym size i) (sym stable i)) numbers),
        settled,
      )) call
