-- What a step of the rewriting of a text leaves.
use Rattle.std.proofs.Common.{◌≡◌, ◌≢◌, ◌⊎◌, ℕ, ◌+◌, Option, Some, None, refl, sym, ap, ◌∙◌, subst, inl, inr}
use Rattle.std.specs.Prelude.{slice_get}
use Rattle.std.specs.Option.{option_map}
use Rattle.std.proofs.lemmas.Option.{none-some, same_Some, slice_get-map}
use Rattle.sd_names.specs.Turn.{MatchTurn}
use Rattle.sd_names.specs.declared.id.Id.{Id}
use Rattle.sd_names.specs.declared.place.Dir.{Dir}
use Rattle.sd_names.specs.declared.place.Name.{Name}
use Rattle.sd_names.specs.declared.place.Name.TheVariants as name
use Rattle.sd_names.specs.declared.place.Place.{Place}
use Rattle.sd_names.specs.declared.turn.Turn.{Turn}
use Rattle.sd_names.specs.declared.turn.Turn.TheVariants.{More, Done, Ended}
use Rattle.shared_disk.specs.Content.{Content}
use Rattle.shared_disk.specs.Crash.{IsAlso}
use Rattle.shared_disk.specs.NameCalls.{place_in}
use Rattle.qcow_layer.specs.Opening.{place_kept, volume_kept}
use Rattle.qcow_layer.specs.declared.layer.Layer.{Layer}
use Rattle.settling_steps.specs.Leftovers.{temporary_in}
use Rattle.settling_steps.specs.Names.{name_of}
use Rattle.settling_steps.specs.declared.names.Temporary.{Temporary}
use Rattle.settling_steps.specs.declared.names.Temporary.TheVariants.{New, Volatile}
use Rattle.volume_meta.specs.declared.record.VolumeRecord.{VolumeRecord}
use Rattle.volume_texts.specs.Legible.{HasRecord}
use Rattle.volume_texts.specs.Write.{IsSameWrite, Knows, WriteSteps, file_of, new_place, version_of as write_version, volatile_of}
use Rattle.volume_texts.specs.declared.write.TextWrite.{TextWrite}
use Rattle.chain_model.specs.Folder.{Volumes}
use Rattle.chain_model.specs.Records.{Records}
use Rattle.chain_records.specs.Records.{ids_of, records_in}
use Rattle.chain_records.specs.Settling.{IsRewritten}
use Rattle.chain_records.specs.declared.volume.Volume.{Volume}
use Rattle.volume_chain.specs.Chain.{records_kept}
use Rattle.volume_chain.specs.declared.chain.Chain.{Chain}
use Rattle.chain_settling.specs.Alike.{AreSaidBut, HasTypeOf, IsSaid, KnowsImage, ReadsAlike}
use Rattle.chain_settling.specs.Reopening.{OpensAlike}
use Rattle.chain_settling.specs.Was.{file_in, folder_in, image_kept, text_in}
use Rattle.chain_settling.specs.Fit.{StageTurn}
use Rattle.chain_settling.specs.Knowing.{KnowsTexts, KnowsWriting}
use Rattle.chain_settling.specs.Steps.{IsLayerStep, IsOther, KnowsStage, Settles}
use Rattle.chain_settling.specs.Work.{IsLayerAt, IsRight, record_at}
use Rattle.chain_settling.specs.declared.stages.Part.{Part}
use Rattle.chain_settling.specs.declared.stages.Stage.TheVariants.{Texts, Writing}
use Rattle.chain_settling.proofs.Kept.{layers_stay, rest_on}
use Rattle.chain_settling.proofs.OpensAlike.{opens_kept}
use Rattle.chain_settling.proofs.UpNames.{opens_written}
use Rattle.chain_settling.proofs.Alike.{IsWritten, alike_kept, alike_written, alone_kept, no_step, said_record, said_same, same_or_not}

-- ---- the volume at a place of the list

pub record_there : (c : Chain) (i : ℕ) (v : Id) → slice_get (ids_of (records_kept c)) i ≡ Some v → record_at c i ≡ records_in (records_kept c) v
record_there c i v at = go (slice_get (records_kept c) i) refl
  where
    go : (o : Option Volume) → slice_get (records_kept c) i ≡ o → record_at c i ≡ records_in (records_kept c) v
    go None e = absurd (none-some v (ap (λ (o : Option Volume). option_map (λ (y : Volume). y.id) o) (sym e) ∙ sym (slice_get-map (λ (y : Volume). y.id) (records_kept c) i) ∙ at))
    go (Some z) e =
        let id : z.id ≡ v = same_Some z.id v (ap (λ (o : Option Volume). option_map (λ (y : Volume). y.id) o) (sym e) ∙ sym (slice_get-map (λ (y : Volume). y.id) (records_kept c) i) ∙ at) in
        rw e (ap (λ (u : Id). records_in (records_kept c) u) id)

-- ---- what a step changes

text_not_text : (dir : Dir) (u v : Id) → u ≢ v → text_in dir u ≡ text_in dir v → ⊥
text_not_text dir u v other same = let h : name.Meta u ≡ name.Meta v = ap (λ (p : Place). p.name) same in other cc

text_not_new : (dir : Dir) (u v : Id) → text_in dir u ≡ new_place dir v → ⊥
text_not_new dir u v same = let h : name.Meta u ≡ name.MetaNew v = ap (λ (p : Place). p.name) same in absurd cc

file_not_text : (dir : Dir) (u v : Id) → file_in dir u ≡ text_in dir v → ⊥
file_not_text dir u v same = let h : name.Volume u ≡ name.Meta v = ap (λ (p : Place). p.name) same in absurd cc

file_not_new : (dir : Dir) (u v : Id) → file_in dir u ≡ new_place dir v → ⊥
file_not_new dir u v same = let h : name.Volume u ≡ name.MetaNew v = ap (λ (p : Place). p.name) same in absurd cc

temporary_not_text : (dir : Dir) (o : Temporary) (v : Id) → temporary_in dir o ≡ text_in dir v → ⊥
temporary_not_text dir (New u) v same = let h : name.MetaNew u ≡ name.Meta v = ap (λ (p : Place). p.name) same in absurd cc
temporary_not_text dir (Volatile u) v same = let h : name.MetaVolatile u ≡ name.Meta v = ap (λ (p : Place). p.name) same in absurd cc

-- whether a temporary text is the one beside a volume's text
new_or_not : (o : Temporary) (v : Id) → (name_of o ≡ name.MetaNew v) ⊎ (name_of o ≡ name.MetaNew v → ⊥)
new_or_not (New u) v = go (same_or_not u v)
  where
    go : (u ≡ v) ⊎ (u ≢ v) → (name.MetaNew u ≡ name.MetaNew v) ⊎ (name.MetaNew u ≡ name.MetaNew v → ⊥)
    go (inl same) = inl (ap (λ (w : Id). name.MetaNew w) same)
    go (inr other) = inr (λ e. other cc)
new_or_not (Volatile u) v = inr (λ e. absurd cc)

abbrev TextTurn : Type 0
TextTurn = Turn TextWrite (Unit {0}) (Unit {0})

module _ (c : Chain) (p : Part) (i : ℕ) (w : TextWrite) (host faults : ℕ) (r : Records) (x : Volumes) (turn : TextTurn) (d e : Content) (k : KnowsWriting c p i w host r x d) (steps : WriteSteps w host faults k.says turn d e) where
  abbrev dir : Dir
  dir = folder_in c

  elsewhere : (q : Place) → (q ≡ text_in dir k.volume → ⊥) → (q ≡ new_place dir k.volume → ⊥) → e.file q ≡ d.file q
  elsewhere q a b = steps.apart.files q (λ same. a (same ∙ k.file)) (λ same. b (same ∙ k.volatile))

  files_same : (u : Id) → e.file (file_in dir u) ≡ d.file (file_in dir u)
  files_same u = elsewhere (file_in dir u) (file_not_text dir u k.volume) (file_not_new dir u k.volume)

  texts_same : (u : Id) → u ≢ k.volume → e.file (text_in dir u) ≡ d.file (text_in dir u)
  texts_same u other = elsewhere (text_in dir u) (text_not_text dir u k.volume other) (text_not_new dir u k.volume)

  pub right : (v : Id) → IsRight r v → e.file (text_in dir v) ≡ d.file (text_in dir v)
  right v ok = texts_same v (λ same. k.wrong (subst (λ (u : Id). IsRight r u) same ok))

  pub outside : (q : Place) → q.dir ≢ dir → e.file q ≡ d.file q
  outside q other = elsewhere q (λ same. other (ap (λ (z : Place). z.dir) same)) (λ same. other (ap (λ (z : Place). z.dir) same))

  pub kept_others : (q : Place) → IsOther c q → e.file q ≡ d.file q
  kept_others q other = elsewhere q (other.text k.volume) (other.temporary (New k.volume))

  pub each_step : (b : ℕ) (l : Layer) → IsLayerAt c b l → IsAlso (IsLayerStep r l) (d.file (place_kept l)) (e.file (place_kept l))
  each_step b l is =
      no_step r l (d.file (place_kept l)) (e.file (place_kept l))
      (subst (λ (q : Place). e.file q ≡ d.file q) (sym (k.rest.layers.each b l is).place) (files_same (volume_kept l)))

  has_here : HasRecord (write_version w) (file_of w) k.says e → HasRecord (image_kept c).version (text_in dir k.volume) k.says e
  has_here has =
      subst (λ (n : ℕ). HasRecord n (text_in dir k.volume) k.says e) k.version (subst (λ (q : Place). HasRecord (write_version w) q k.says e) k.file has)

  written : HasRecord (write_version w) (file_of w) k.says e → IsWritten (image_kept c) dir k.volume k.says d e
  written has = record { has = has_here has; others = texts_same; files = files_same }

  is_partly : (Some k.says ≡ r k.volume) ⊎ IsRewritten r k.volume (r k.volume) (Some k.says)
  is_partly = subst (λ (o : Option VolumeRecord). (o ≡ r k.volume) ⊎ IsRewritten r k.volume (r k.volume) o) k.is (k.image.partly k.volume)

  is_typed : HasTypeOf r k.volume (Some k.says)
  is_typed = subst (HasTypeOf r k.volume) k.is (k.image.types k.volume)

  -- no text has changed
  text_kept : e.file (file_of w) ≡ d.file (file_of w) → (u : Id) → e.file (text_in dir u) ≡ d.file (text_in dir u)
  text_kept same u = at (same_or_not u k.volume)
    where
      at : (u ≡ k.volume) ⊎ (u ≢ k.volume) → e.file (text_in dir u) ≡ d.file (text_in dir u)
      at (inl here) = subst (λ (v : Id). e.file (text_in dir v) ≡ d.file (text_in dir v)) (sym here) (subst (λ (q : Place). e.file q ≡ d.file q) k.file same)
      at (inr other) = texts_same u other

  pub alike : ReadsAlike (image_kept c) dir r x e
  alike = go (steps.text (k.image.legible k.volume k.says k.is).legible)
    where
      go : (e.file (file_of w) ≡ d.file (file_of w)) ⊎ HasRecord (write_version w) (file_of w) k.says e → ReadsAlike (image_kept c) dir r x e
      go (inl same) = alike_kept (image_kept c) dir r x d e (record { texts = text_kept same; files = files_same }) k.image.alike
      go (inr has) =
          let text = k.image.kept k.volume k.says k.is in
          alike_written (image_kept c) dir r x k.volume k.says d e (k.image.legible k.volume k.says k.is) text.0 text.1 is_partly is_typed (written has) k.image.alike

  pub opens : OpensAlike (image_kept c) dir r x e
  opens = go (steps.text (k.image.legible k.volume k.says k.is).legible)
    where
      go : (e.file (file_of w) ≡ d.file (file_of w)) ⊎ HasRecord (write_version w) (file_of w) k.says e → OpensAlike (image_kept c) dir r x e
      go (inl same) = opens_kept (image_kept c) dir r x d e (record { texts = text_kept same; files = files_same }) k.image.opens
      go (inr has) =
          opens_written c r x host d e k.volume k.says k.image k.rest k.told
          (said_record (image_kept c) dir k.volume k.says e (k.image.legible k.volume k.says k.is) (has_here has)) is_partly texts_same files_same

  image : KnowsImage c r x e
  image = record {
    folder = steps.apart.dirs dir ∙ k.image.folder;
    chains = k.image.chains;
    alike = alike;
    opens = opens;
    partly = k.image.partly;
    types = k.image.types;
    kept = k.image.kept;
    legible = k.image.legible;
    cows = k.image.cows;
    was = k.image.was;
    alone = alone_kept c x d e (λ v off. files_same v) k.image.alone;
  }

  said_but : AreSaidBut c k.volume e
  said_but u other = said_same (image_kept c) dir u d e (texts_same u other) ∙ k.said u other

  tidy_but : (o : Temporary) → (name_of o ≡ name.MetaNew k.volume → ⊥) → e.file (temporary_in dir o) ≡ None
  tidy_but o other = elsewhere (temporary_in dir o) (temporary_not_text dir o k.volume) (λ same. other (ap (λ (q : Place). q.name) same)) ∙ k.tidy o other

  -- there is more to write
  pub goes_on : (next : TextWrite) → IsSameWrite w next → Knows next host k.says e → KnowsWriting c p i next host r x e
  goes_on next same write = record {
    image = image;
    volume = k.volume;
    at = k.at;
    says = k.says;
    is = k.is;
    wrong = k.wrong;
    file = same.replace.target ∙ k.file;
    volatile = same.replace.volatile ∙ k.volatile;
    version = same.version ∙ k.version;
    said = said_but;
    tidy = tidy_but;
    rest = rest_on c host d e (layers_stay c d e files_same) k.rest;
    told = k.told;
    done = k.done;
    write = write;
  }

  -- the text is written
  pub ends : HasRecord (write_version w) (file_of w) k.says e → e.file (volatile_of w) ≡ None → KnowsTexts c p (i + 1) host r x e
  ends has gone = record {
    image = image;
    said = λ u. at u (same_or_not u k.volume);
    tidy = λ o. left o (new_or_not o k.volume);
    rest = rest_on c host d e (layers_stay c d e files_same) k.rest;
    told = k.told;
    done = k.done;
  }
    where
      at : (u : Id) → (u ≡ k.volume) ⊎ (u ≢ k.volume) → IsSaid c e u
      at u (inl here) = subst (λ (v : Id). IsSaid c e v) (sym here) (said_record (image_kept c) dir k.volume k.says e (k.image.legible k.volume k.says k.is) (has_here has) ∙ sym k.is)
      at u (inr other) = said_but u other

      left : (o : Temporary) → (name_of o ≡ name.MetaNew k.volume) ⊎ (name_of o ≡ name.MetaNew k.volume → ⊥) → e.file (temporary_in dir o) ≡ None
      left o (inl same) = ap (λ (n : Name). e.file (place_in dir n)) same ∙ ap (λ (q : Place). e.file q) (sym k.volatile) ∙ gone
      left o (inr other) = tidy_but o other

-- the turn of a write, as one of its stage
abbrev pub written_turn : Chain → Part → ℕ → TextTurn → StageTurn
written_turn c p i (More next) = More (Writing c p i next)
written_turn c p i (Done u) = More (Texts c p (i + 1))
written_turn c p i (Ended u refusal) = Ended tt refusal

abbrev pub IsSameIn : TextWrite → TextTurn → Type 0
IsSameIn w turn = MatchTurn turn (IsSameWrite w) (λ _. Unit {0}) (λ _ _. Unit {0})

pub writing_settles : (c : Chain) (p : Part) (i : ℕ) (w : TextWrite) (host faults : ℕ) (turn : TextTurn) (d e : Content) → IsSameIn w turn
    → ((y : VolumeRecord) → record_at c i ≡ Some y → Knows w host y d → WriteSteps w host faults y turn d e) → (r : Records) (x : Volumes)
    → KnowsStage (Writing c p i w) host r x d → Settles (Writing c p i w) host faults r x (written_turn c p i turn) d e
writing_settles c p i w host faults turn d e same writes r x k = go turn same (writes k.says (record_there c i k.volume k.at ∙ k.is) k.write)
  where
    go : (turn : TextTurn) → IsSameIn w turn → WriteSteps w host faults k.says turn d e → Settles (Writing c p i w) host faults r x (written_turn c p i turn) d e
    go (More next) same steps = record {
      shows = tt;
      dirs = steps.apart.dirs;
      others = outside c p i w host faults r x (More next) d e k steps;
      kept = kept_others c p i w host faults r x (More next) d e k steps;
      layers = each_step c p i w host faults r x (More next) d e k steps;
      alike = alike c p i w host faults r x (More next) d e k steps;
      opens = opens c p i w host faults r x (More next) d e k steps;
      right = right c p i w host faults r x (More next) d e k steps;
      after = goes_on c p i w host faults r x (More next) d e k steps next same steps.after;
    }
    go (Done u) same steps = record {
      shows = tt;
      dirs = steps.apart.dirs;
      others = outside c p i w host faults r x (Done u) d e k steps;
      kept = kept_others c p i w host faults r x (Done u) d e k steps;
      layers = each_step c p i w host faults r x (Done u) d e k steps;
      alike = alike c p i w host faults r x (Done u) d e k steps;
      opens = opens c p i w host faults r x (Done u) d e k steps;
      right = right c p i w host faults r x (Done u) d e k steps;
      after = ends c p i w host faults r x (Done u) d e k steps (steps.after.0 (k.image.legible k.volume k.says k.is).legible) steps.after.1;
    }
    go (Ended u refusal) same steps = record {
      shows = tt;
      dirs = steps.apart.dirs;
      others = outside c p i w host faults r x (Ended u refusal) d e k steps;
      kept = kept_others c p i w host faults r x (Ended u refusal) d e k steps;
      layers = each_step c p i w host faults r x (Ended u refusal) d e k steps;
      alike = alike c p i w host faults r x (Ended u refusal) d e k steps;
      opens = opens c p i w host faults r x (Ended u refusal) d e k steps;
      right = right c p i w host faults r x (Ended u refusal) d e k steps;
      after = steps.after.0;
    }
