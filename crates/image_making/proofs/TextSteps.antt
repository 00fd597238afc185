-- What the steps leave that write the volume's text.
use Rattle.std.proofs.Common.{◌≡◌, ◌≢◌, ◌⊎◌, ℕ, ◌==◌, Bool, true, false, List, Option, Some, None, Result, Ok, Err, refl, sym, ap, subst, ◌∙◌, inl, inr}
use Rattle.std.specs.Prelude.{MatchBool}
use Rattle.std.proofs.lemmas.Bool.{false≢true}
use Rattle.std.proofs.lemmas.Option.{same_Some}
use Rattle.sd_names.specs.declared.place.Name.{Name}
use Rattle.sd_names.specs.declared.place.Name.TheVariants as name
use Rattle.sd_names.specs.declared.place.Place.{Place}
use Rattle.sd_names.specs.declared.refusal.Refusal.{Refusal}
use Rattle.sd_names.specs.declared.turn.Turn.{Turn}
use Rattle.sd_names.specs.declared.turn.Turn.TheVariants.{More, Done, Ended}
use Rattle.shared_disk.specs.Calls.{Creates, IsSame, Syncs, WriteAt}
use Rattle.shared_disk.specs.Content.{Content}
use Rattle.shared_disk.specs.NameCalls.{IsRenamed, Removes, Renames, place_in}
use Rattle.shared_disk.specs.Places.{name_is}
use Rattle.shared_disk.specs.Step.{TurnFollows}
use Rattle.shared_disk.specs.declared.disk.DiskAnswer.{DiskAnswer}
use Rattle.shared_disk.specs.declared.disk.DiskAnswer.TheVariants.{NoFile, Exists, OutOfFile, NotEmpty, Failed}
use Rattle.shared_disk.proofs.AtPlace.{no_file}
use Rattle.shared_disk.proofs.Places.{name_is-itself, name_is-same}
use Rattle.whole_file.specs.Replace.{CallOf as ReplaceCall, IsApart as IsReplaceApart, IsOldOrNew, Knows as KnowsReplace, Steps as ReplaceSteps, SyncsText, Writes, length_of, stage_of as replace_stage, target_of, volatile_of}
use Rattle.whole_file.specs.Text.{HasText}
use Rattle.whole_file.specs.declared.replace.Replace.{Replace}
use Rattle.whole_file.specs.declared.replace.Stage.{Stage as ReplaceStage}
use Rattle.whole_file.specs.declared.replace.Stage.TheVariants as replacing
use Rattle.image_making.specs.Making.{image_of, text_of}
use Rattle.image_making.specs.NewImage.{HasNewFile, IsImage, IsNoneOrWhole, folder_of, text_in, text_place, volume_place}
use Rattle.image_making.specs.Steps.{After, IsSameText, IsWriting, IsWritten, MakeSteps, MakeTurn, StepsText, WritesText}
use Rattle.image_making.specs.declared.making.ImageMaking.{ImageMaking}
use Rattle.image_making.specs.declared.making.NewImage.{NewImage}
use Rattle.image_making.specs.declared.making.Stage.TheVariants.{Writing}
use Rattle.image_making.proofs.Parts.{apart_text, on_each, places_apart, text_not_file, volatile_not_file, volatile_not_text}
use Rattle.image_making.proofs.Turns.{after_fault, after_more}

-- ---- the bytes that were written as the volume's text

pub writes : (m : ImageMaking) (r : Replace) (host faults : ℕ) (text : List ℕ) (step : Turn Replace (Unit {0}) (Unit {0})) (turn : MakeTurn) (d e : Content) → text ≡ text_of m
    → ReplaceCall (replace_stage r) r host faults text step d e → IsWritten m step turn → WritesText m r host faults turn d e
writes m r host faults text step turn d e is call follows =
    (step, subst (λ (xs : List ℕ). ReplaceCall (replace_stage r) r host faults xs step d e) is call, follows)

pub steps : (m : ImageMaking) (r : Replace) (host faults : ℕ) (text : List ℕ) (step : Turn Replace (Unit {0}) (Unit {0})) (turn : MakeTurn) (d e f : Content) (told : Option Content) → text ≡ text_of m
    → (KnowsReplace r host text d → ReplaceSteps r host faults text step d e) → told ≡ Some e → ReplaceCall (replace_stage r) r host faults text step d f → told ≡ Some f
    → IsSameText r step → IsWritten m step turn → KnowsReplace r host (text_of m) d → StepsText m r host faults turn d e
steps m r host faults text step turn d e f told is leaves first call second same follows knows =
    let one : f ≡ e = same_Some f e (sym second ∙ first) in
    let here = subst (λ (c : Content). ReplaceCall (replace_stage r) r host faults text step d c) one call in (
      step,
      subst (λ (xs : List ℕ). ReplaceSteps r host faults xs step d e) is (leaves (subst (λ (xs : List ℕ). KnowsReplace r host xs d) (sym is) knows)),
      subst (λ (xs : List ℕ). ReplaceCall (replace_stage r) r host faults xs step d e) is here,
      same,
      follows,
    )

-- ---- which file a call of the replacement changes: the volatile one, but for the last call

same_at : (p : Place) (d e : Content) → IsSame d e → e.file p ≡ d.file p
same_at p d e same = ap (λ (c : Content). c.file p) same

beside_removal : (p v : Place) (d e : Content) → p ≢ v → (answer : Result (Unit {0}) DiskAnswer) → Removes d v answer e → e.file p ≡ d.file p
beside_removal p v d e apart (Ok u) is = is.2.others p apart
beside_removal p v d e apart (Err NoFile) is = same_at p d e is.0
beside_removal p v d e apart (Err Failed) (inl same) = same_at p d e same
beside_removal p v d e apart (Err Failed) (inr is) = is.2.others p apart
beside_removal p v d e apart (Err Exists) is = absurd is
beside_removal p v d e apart (Err OutOfFile) is = absurd is
beside_removal p v d e apart (Err NotEmpty) is = absurd is

beside_creation : (p v : Place) (host size : ℕ) (d e : Content) → p ≢ v → (answer : Result (Unit {0}) DiskAnswer) → Creates d host v size answer e → e.file p ≡ d.file p
beside_creation p v host size d e apart (Ok u) is = is.put.others p apart
beside_creation p v host size d e apart (Err NoFile) is = same_at p d e is.0
beside_creation p v host size d e apart (Err Exists) is = same_at p d e is.0
beside_creation p v host size d e apart (Err Failed) (inl same) = same_at p d e same
beside_creation p v host size d e apart (Err Failed) (inr is) = is.put.others p apart
beside_creation p v host size d e apart (Err OutOfFile) is = absurd is
beside_creation p v host size d e apart (Err NotEmpty) is = absurd is

beside_write : (p v : Place) (host : ℕ) (bytes : List ℕ) (d e : Content) → p ≢ v → (answer : Result (Unit {0}) DiskAnswer) → WriteAt d host v 0 bytes answer e → e.file p ≡ d.file p
beside_write p v host bytes d e apart (Ok u) is = is.3.others p apart
beside_write p v host bytes d e apart (Err NoFile) is = same_at p d e is.0
beside_write p v host bytes d e apart (Err OutOfFile) is = same_at p d e is.0
beside_write p v host bytes d e apart (Err Failed) (inl same) = same_at p d e same
beside_write p v host bytes d e apart (Err Failed) (inr is) = is.4.others p apart
beside_write p v host bytes d e apart (Err Exists) is = absurd is
beside_write p v host bytes d e apart (Err NotEmpty) is = absurd is

beside_sync : (p v : Place) (host : ℕ) (d e : Content) → p ≢ v → (answer : Result (Unit {0}) DiskAnswer) → Syncs d host v answer e → e.file p ≡ d.file p
beside_sync p v host d e apart (Ok u) is = is.2.others p apart
beside_sync p v host d e apart (Err NoFile) is = same_at p d e is.0
beside_sync p v host d e apart (Err Failed) same = same_at p d e same
beside_sync p v host d e apart (Err Exists) is = absurd is
beside_sync p v host d e apart (Err OutOfFile) is = absurd is
beside_sync p v host d e apart (Err NotEmpty) is = absurd is

goes_on : Turn Replace (Unit {0}) (Unit {0}) → Bool
goes_on (More r) = true
goes_on (Done u) = false
goes_on (Ended u refusal) = false

-- the target is as it was, or the volatile file has its name, and this step was the last one
abbrev IsKeptOrNamed : Replace → Turn Replace (Unit {0}) (Unit {0}) → Content → Content → Type 0
IsKeptOrNamed r turn d e = (e.file (target_of r) ≡ d.file (target_of r)) ⊎ (IsRenamed d (volatile_of r) (target_of r) e × (goes_on turn ≡ false))

named : (r : Replace) (faults : ℕ) (turn : Turn Replace (Unit {0}) (Unit {0})) (d e : Content) → (answer : Result (Unit {0}) DiskAnswer) → Renames d (volatile_of r) (target_of r).name answer e
    → TurnFollows answer faults turn (λ _. turn ≡ Done tt) → IsKeptOrNamed r turn d e
unfolding goes_on
named r faults turn d e (Ok u) is by = inr (is, ap goes_on by)
named r faults turn d e (Err NoFile) is by = inl (same_at (target_of r) d e is.0)
named r faults turn d e (Err Failed) (inl same) by = inl (same_at (target_of r) d e same)
named r faults turn d e (Err Failed) (inr is) by = inr (is, ap goes_on by)
named r faults turn d e (Err Exists) is by = absurd is
named r faults turn d e (Err OutOfFile) is by = absurd is
named r faults turn d e (Err NotEmpty) is by = absurd is

either_call : (b : Bool) (A B C : Type 0) → (A → C) → (B → C) → MatchBool b A B → C
either_call true A B C f g is = f is
either_call false A B C f g is = g is

kept_or_named : (stage : ReplaceStage) (r : Replace) (host faults : ℕ) (text : List ℕ) (turn : Turn Replace (Unit {0}) (Unit {0})) (d e : Content) → target_of r ≢ volatile_of r
    → ReplaceCall stage r host faults text turn d e → IsKeptOrNamed r turn d e
kept_or_named replacing.Begun r host faults text turn d e apart call = inl (beside_removal (target_of r) (volatile_of r) d e apart call.0 call.1)
kept_or_named replacing.Cleared r host faults text turn d e apart call = inl (beside_creation (target_of r) (volatile_of r) host _ d e apart call.0 call.1)
kept_or_named replacing.Created r host faults text turn d e apart call =
    inl (either_call (length_of r == 0) (SyncsText r host faults turn d e) (Writes r host faults text turn d e) (e.file (target_of r) ≡ d.file (target_of r))
    (λ is. beside_sync (target_of r) (volatile_of r) host d e apart is.0 is.1)
    (λ is. beside_write (target_of r) (volatile_of r) host _ d e apart is.0 is.1)
    call)
kept_or_named replacing.Written r host faults text turn d e apart call = inl (beside_sync (target_of r) (volatile_of r) host d e apart call.0 call.1)
kept_or_named replacing.Synced r host faults text turn d e apart call = named r faults turn d e call.0 call.1 call.2

-- ---- what a step leaves of the image

module _ (x : NewImage) (host : ℕ) (r : Replace) (d e : Content) (known : IsWriting x host r d) (apart : IsReplaceApart (target_of r) (volatile_of r) d e) where
  folder_left : e.dir (folder_of x) ≡ true
  folder_left = apart.dirs (folder_of x) ∙ known.folder

  not_target : (n : Name) → n ≢ name.Meta x.volume → place_in (folder_of x) n ≢ target_of r
  not_target n other same = places_apart (folder_of x) n (name.Meta x.volume) other (same ∙ known.target)

  not_volatile : (n : Name) → n ≢ name.MetaVolatile x.volume → place_in (folder_of x) n ≢ volatile_of r
  not_volatile n other same = places_apart (folder_of x) n (name.MetaVolatile x.volume) other (same ∙ known.volatile)

  file_left : HasNewFile x e
  file_left = (
    known.file.0,
    apart.files (volume_place x) (not_target (name.Volume x.volume) (λ same. text_not_file x (sym same))) (not_volatile (name.Volume x.volume) (λ same. volatile_not_file x (sym same))) ∙ known.file.1,
    known.file.2,
  )

  others_left : (n : Name) → n ≢ name.Volume x.volume → n ≢ name.MetaVolatile x.volume → n ≢ name.Meta x.volume → e.file (place_in (folder_of x) n) ≡ None
  others_left n file volatile text = apart.files (place_in (folder_of x) n) (not_target n text) (not_volatile n volatile) ∙ known.others n file volatile

  -- the text is there, and nothing under the volatile name
  whole : HasText e (target_of r) (text_in x) → e.file (volatile_of r) ≡ None → IsImage x e
  whole has gone = record {
    folder = folder_left;
    file = file_left;
    text = subst (λ (p : Place). HasText e p (text_in x)) known.target has;
    only = λ n file text. go n file text (name_is n (name.MetaVolatile x.volume)) refl;
  }
    where
      go : (n : Name) → n ≢ name.Volume x.volume → n ≢ name.Meta x.volume → (t : Bool) → name_is n (name.MetaVolatile x.volume) ≡ t → e.file (place_in (folder_of x) n) ≡ None
      go n file text true is =
          ap (λ (m : Name). e.file (place_in (folder_of x) m)) (name_is-same n (name.MetaVolatile x.volume) is) ∙ ap (λ (p : Place). e.file p) (sym known.volatile) ∙ gone
      go n file text false is =
          others_left n file (λ same. false≢true (sym is ∙ ap (λ (m : Name). name_is m (name.MetaVolatile x.volume)) same ∙ name_is-itself (name.MetaVolatile x.volume))) text

  textless : e.file (target_of r) ≡ d.file (target_of r) → e.file (text_place x) ≡ None
  textless same =
      ap (λ (p : Place). e.file p) (sym known.target) ∙ same ∙ ap (λ (p : Place). d.file p) known.target
      ∙ known.others (name.Meta x.volume) (text_not_file x) (λ is. volatile_not_text x (sym is))

  none_or_whole : (turn : Turn Replace (Unit {0}) (Unit {0})) → IsOldOrNew (target_of r) (text_in x) d e → IsKeptOrNamed r turn d e → IsNoneOrWhole x e
  none_or_whole turn old (inl same) = inl (textless same)
  none_or_whole turn (inr has) (inr is) = inr (whole has is.0.gone)
  none_or_whole turn (inl same) (inr is) = absurd (no_file is.0.file.0 (e.file (text_place x)) (textless same) (ap (λ (p : Place). e.file p) (sym known.target) ∙ is.0.file.2))

targets_apart : (x : NewImage) (host : ℕ) (r : Replace) (d : Content) → IsWriting x host r d → target_of r ≢ volatile_of r
targets_apart x host r d known same =
    places_apart (folder_of x) (name.MetaVolatile x.volume) (name.Meta x.volume) (volatile_not_text x) (sym known.volatile ∙ sym same ∙ known.target)

text_after : (m : ImageMaking) (host faults : ℕ) (r : Replace) (step : Turn Replace (Unit {0}) (Unit {0})) (turn : MakeTurn) (d e : Content) → IsWriting (image_of m) host r d
    → ReplaceSteps r host faults (text_of m) step d e → IsKeptOrNamed r step d e → IsSameText r step → IsWritten m step turn → After turn m host faults e
unfolding goes_on
text_after m host faults r (More next) turn d e known leaves (inr is) same by = absurd (false≢true (sym is.1))
text_after m host faults r (More next) turn d e known leaves (inl kept) same by =
    after_more m (Writing next) host faults turn e by (record {
      folder = folder_left (image_of m) host r d e known leaves.apart;
      file = file_left (image_of m) host r d e known leaves.apart;
      others = λ n file volatile. go n file volatile (name_is n (name.Meta (image_of m).volume)) refl;
      target = same.target ∙ known.target;
      volatile = same.volatile ∙ known.volatile;
      replace = leaves.after;
    })
  where
    go : (n : Name) → n ≢ name.Volume (image_of m).volume → n ≢ name.MetaVolatile (image_of m).volume → (t : Bool) → name_is n (name.Meta (image_of m).volume) ≡ t
        → e.file (place_in (folder_of (image_of m)) n) ≡ None
    go n file volatile true is =
        ap (λ (k : Name). e.file (place_in (folder_of (image_of m)) k)) (name_is-same n (name.Meta (image_of m).volume) is) ∙ textless (image_of m) host r d e known leaves.apart kept
    go n file volatile false is =
        others_left (image_of m) host r d e known leaves.apart n file volatile
        (λ same. false≢true (sym is ∙ ap (λ (k : Name). name_is k (name.Meta (image_of m).volume)) same ∙ name_is-itself (name.Meta (image_of m).volume)))
text_after m host faults r (Done u) turn d e known leaves kept same by =
    subst (λ (t : MakeTurn). After t m host faults e) (sym by) (whole (image_of m) host r d e known leaves.apart leaves.after.0 leaves.after.1)
text_after m host faults r (Ended u refusal) turn d e known leaves kept same by = after_fault m host faults turn e (by ∙ ap (λ (x : Refusal). Ended tt x) leaves.after.0)

pub write_step : (r : Replace) (m : ImageMaking) (host faults : ℕ) (turn : MakeTurn) (d e : Content) → IsWriting (image_of m) host r d → StepsText m r host faults turn d e → MakeSteps m host faults turn d e
write_step r m host faults turn d e known by =
    let kept = kept_or_named (replace_stage r) r host faults (text_of m) by.0 d e (targets_apart (image_of m) host r d known) by.2 in
    record {
      apart = apart_text (image_of m) d e by.1.apart.dirs (λ q text volatile. by.1.apart.files q (λ same. text (same ∙ known.target)) (λ same. volatile (same ∙ known.volatile)));
      stands = on_each (image_of m) e (none_or_whole (image_of m) host r d e known by.1.apart by.0 by.1.target kept);
      after = text_after m host faults r by.0 turn d e known by.1 kept by.3 by.4;
    }
