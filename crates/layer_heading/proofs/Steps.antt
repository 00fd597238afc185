-- What each step of a rebasing leaves, from what its call left.
use Rattle.std.proofs.Common.{◌≡◌, inl, ℕ, ◌+◌, ◌≤◌, true, List, Option, Some, None, refl, sym, ap, ◌∙◌, subst}
use Rattle.std.specs.Prelude.{IfSome, if◌then◌else◌}
use Rattle.std.proofs.lemmas.Bool.{le-leb}
use Rattle.sd_names.specs.declared.turn.Turn.TheVariants.{More, Done}
use Rattle.shared_disk.specs.Content.{Content, File}
use Rattle.shared_disk.specs.WellFormed.{IsWellFormedFile}
use Rattle.qcow_format.specs.declared.header.Header.{Header}
use Rattle.qcow_format.specs.Written.{IsHeader, written}
use Rattle.image_model.specs.File as image
use Rattle.image_model.specs.File.{file_of}
use Rattle.layer_creating.specs.New.{name_sector}
use Rattle.layer_creating.specs.declared.backing.Backing.{Backing}
use Rattle.layer_creating.proofs.Lengths.{name_long}
use Rattle.qcow_layer.specs.Knowing.{KnowsNumbers}
use Rattle.qcow_layer.specs.Mapping.{IsWithHeader}
use Rattle.qcow_layer.specs.Opening.{capacity_kept, header_kept, place_kept}
use Rattle.qcow_layer.specs.declared.layer.Layer.{Layer}
use Rattle.layer_writing.specs.Writer.{IsSameFile}
use Rattle.layer_writing.proofs.Known.{anew}
use Rattle.layer_heading.specs.Rebased.{IsOldOrOver, has_room, laid, rebased}
use Rattle.layer_heading.specs.Rebasing.{HasName, KeepsLayer, KnowsFile, LaysHeader, at_stage, backing_of, header_sector, laid_turn, name_at}
use Rattle.layer_heading.specs.Writing.{IsQuiet, IsWriting, SyncsThen, Turned, WritesThen}
use Rattle.layer_heading.specs.declared.rebasing.Rebasing.{Rebasing}
use Rattle.layer_heading.specs.declared.rebasing.Stage.TheVariants.{Named, Synced, Laid, Headed}
use Rattle.layer_heading.proofs.Files as files
use Rattle.layer_heading.proofs.Quiet as quiet
use Rattle.layer_heading.proofs.Writing as writing

abbrev pub Rebases : Type 0
Rebases = Turned Rebasing

pub itself : (layer : Layer) → IsSameFile layer layer
itself layer = record { place = refl; greatest = refl; length = refl; mapped = refl; bits = refl }

room_of_header : (h : Header) → IsHeader h → has_room h.format_at ≡ true
room_of_header h is = go h.format_at is.room
  where
    go : (o : Option ℕ) → IfSome o (λ at. (h.header_length ≤ at) × (at + 16 ≤ 512)) → has_room o ≡ true
    go None r = refl
    go (Some at) r = le-leb (at + 16) 512 r.1

module _ (r : Rebasing) (layer after : Layer) (host faults : ℕ) (turn : Rebases) (d e : Content) (f : File) (there : d.file (place_kept layer) ≡ Some f)
    (formed : (f' : File) → e.file (place_kept layer) ≡ Some f' → IsWellFormedFile f') where
  abbrev h : Header
  h = header_kept layer

  abbrev b : Backing
  b = backing_of r

  abbrev R : image.File → image.File → Type 0
  R = IsOldOrOver h b (capacity_kept layer)

  pub same : (x : image.File) → R x x
  same x = inl refl

  abbrev Knows : Rebasing → File → Type 0
  Knows next g = KnowsFile next layer host g

  abbrev pub Here : Type 0
  Here = writing.Here R same Knows layer after host faults turn d e f there formed

  pub begun_here : IsQuiet layer host f → WritesThen layer host (name_at layer) (name_sector (Some b)) faults (More (at_stage r Named)) turn d e → Here
  begun_here q call =
      writing.written_here R same Knows layer after host faults turn d e f there formed (name_at layer) (name_sector (Some b)) (at_stage r Named) q (name_long b) (quiet.name_inside layer host f q) (quiet.named_becomes layer host f q b, quiet.named_sound layer host f q b)
      (λ f' w. (f, q, w)) call

  pub named_here : (g : File) → IsQuiet layer host g → IsWriting host (name_at layer) (name_sector (Some b)) g f → SyncsThen layer host faults (More (at_stage r Synced)) turn d e → Here
  named_here g q w call =
      writing.synced_here R same Knows layer after host faults turn d e f there formed (name_at layer) (name_sector (Some b)) (More (at_stage r Synced)) g q w (quiet.named_becomes layer host g q b, quiet.named_sound layer host g q b)
      (λ f' size settled stable formed' by. record {
        quiet = record {
          writer = anew layer layer host g f' q.writer (itself layer) size settled
              (subst (λ (x : image.File). KnowsNumbers layer x) (λ i. file_of (sym size i) (sym stable i)) (quiet.named_numbers layer host g q b));
          settled = settled;
          formed = formed';
        };
        name = ap (λ (s : ℕ → List ℕ). s (name_at layer)) stable ∙ files.here g.size (name_at layer) (name_sector (Some b)) g.stable (name_long b) (quiet.long layer host g q);
      }) call

  pub laid_here : (sector : List ℕ) → HasName b layer host f → sector ≡ header_sector b layer f → WritesThen layer host 0 sector faults (More (at_stage r Headed)) turn d e → Here
  laid_here sector k is call =
      writing.written_here R same Knows layer after host faults turn d e f there formed 0 (header_sector b layer f) (at_stage r Headed) k.quiet (quiet.next_long layer host f k.quiet b r.bytes k.name) (quiet.some layer host f k.quiet)
      (quiet.headed_becomes layer host f k.quiet b r.bytes k.name, quiet.headed_sound layer host f k.quiet b r.bytes k.name)
      (λ f' w. (f, k, w)) (subst (λ (s : List ℕ). WritesThen layer host 0 s faults (More (at_stage r Headed)) turn d e) is call)

  pub headed_here : (g : File) → HasName b layer host g → IsWriting host 0 (header_sector b layer g) g f → KeepsLayer r layer after turn → SyncsThen layer host faults (Done tt) turn d e → Here
  headed_here g k w keeps call =
      writing.synced_here R same Knows layer after host faults turn d e f there formed 0 (header_sector b layer g) (Done tt) g k.quiet w
      (quiet.headed_becomes layer host g k.quiet b r.bytes k.name, quiet.headed_sound layer host g k.quiet b r.bytes k.name)
      (λ f' size settled stable formed' by.
      let with_header : IsWithHeader layer (rebased h b) (Some b.parent) after = subst (λ (t : Rebases). KeepsLayer r layer after t) by keeps in (
        anew layer after host g f' k.quiet.writer (quiet.same_file layer host g k.quiet (rebased h b) (Some b.parent) after with_header refl) size settled
            (subst (λ (x : image.File). KnowsNumbers after x) (λ i. file_of (sym size i) (sym stable i)) (quiet.headed_numbers layer host g k.quiet b r.bytes k.name after with_header)),
        settled,
      )) call

  pub read_here : HasName b layer host f → LaysHeader r layer host faults turn d e → Here
  read_here k call =
      let fine = room_of_header (rebased h b) (quiet.next_header layer host f k.quiet b r.bytes k.name) in
      let told : laid (rebased h b) (f.stable 0) ≡ Some (header_sector b layer f) = ap (λ t. if t then Some (written (rebased h b) (f.stable 0)) else None) fine in
      writing.read_here R same Knows layer after host faults turn d e f there formed (λ first. laid_turn r (laid (rebased h b) first)) k.quiet
      (λ by. writing.next_by R same Knows layer after host faults turn d e f there formed (More (at_stage r (Laid (header_sector b layer f)))) f (sym by ∙ ap (laid_turn r) told) (k, refl)) call
