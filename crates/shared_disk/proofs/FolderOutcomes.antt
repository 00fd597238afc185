-- What the calls on folders leave on the outcomes of a folder, in terms of its outcomes from before.
use Rattle.std.proofs.Common.{◌≡◌, ◌≢◌, ◌⊎◌, Bool, true, false, if◌then◌else◌, Option, Ok, Err, refl, sym, ap, subst, ◌∙◌, inl, inr}
use Rattle.std.proofs.lemmas.Bool.{false≢true}
use Rattle.sd_names.specs.declared.place.Dir.{Dir}
use Rattle.sd_names.specs.declared.place.Place.{Place}
use Rattle.shared_disk.specs.Calls.{IsDirPut, MakesDir}
use Rattle.shared_disk.specs.Content.{Content, File}
use Rattle.shared_disk.specs.Crash.{IsAlso, IsFileOutcome, IsOutcome, stable_folder}
use Rattle.shared_disk.specs.NameCalls.{IsDirMoved, MovesDir, RemovesDir, place_in}
use Rattle.shared_disk.specs.Places.{dir_is}
use Rattle.shared_disk.specs.declared.disk.DiskAnswer.TheVariants.{Failed}
use Rattle.shared_disk.proofs.AtPlace.{also_none}
use Rattle.shared_disk.proofs.Outcomes.{stable_folder_outcome}
use Rattle.shared_disk.proofs.Places.{dir_is-apart, dir_is-itself, dir_is-same}
use Rattle.shared_disk.proofs.Toolkit.{same_on_each}

-- An outcome is one from before but for a folder, which is there, or not.
pub record IsDirPutBefore (d : Content) (dir : Dir) (there : Bool) (o : Content) : Type 0 where
  pub before : Content
  pub outcome : IsOutcome d before
  pub put : IsDirPut before dir there o

-- a folder that isn't this one
apart : (q dir : Dir) → dir_is q dir ≡ false → q ≢ dir
apart q dir t u = false≢true (sym t ∙ subst (λ (r : Dir). dir_is q r ≡ true) u (dir_is-itself q))

dir_at : (d e o : Content) (dir q : Dir) (there t : Bool) → dir_is q dir ≡ t → IsDirPut d dir there e → IsOutcome e o → (if dir_is q dir then d.dir dir else o.dir q) ≡ d.dir q
dir_at d e o dir q there true t put out = rw t (ap (λ (r : Dir). d.dir r) (sym (dir_is-same q dir t)))
dir_at d e o dir q there false t put out = rw t (out.dirs q ∙ put.others q (apart q dir t))

pub dir_put_on_each : (d e o : Content) (dir : Dir) (there : Bool) → IsDirPut d dir there e → IsOutcome e o → IsDirPutBefore d dir there o
dir_put_on_each d e o dir there put out = record {
  before = record { dir = λ q. if dir_is q dir then d.dir dir else o.dir q; file = o.file };
  outcome = record {
    dirs = λ q. dir_at d e o dir q there (dir_is q dir) refl put out;
    files = λ p. subst (λ (x : Option File). IsAlso IsFileOutcome x (o.file p)) (put.files p) (out.files p);
  };
  put = record { files = λ q. refl; here = out.dirs dir ∙ put.here; others = λ q h. rw (dir_is-apart q dir h) refl };
}

-- make_dir and remove_dir
pub make_dir_on_each : (d e o : Content) (dir : Dir) → MakesDir d dir (Ok tt) e → IsOutcome e o → IsDirPutBefore d dir true o
make_dir_on_each d e o dir made out = dir_put_on_each d e o dir true made.put out

pub failed_make_dir_on_each : (d e o : Content) (dir : Dir) → MakesDir d dir (Err Failed) e → IsOutcome e o → IsOutcome d o ⊎ IsDirPutBefore d dir true o
failed_make_dir_on_each d e o dir (inl same) out = inl (same_on_each d e o same out)
failed_make_dir_on_each d e o dir (inr made) out = inr (dir_put_on_each d e o dir true made.put out)

pub remove_dir_on_each : (d e o : Content) (dir : Dir) → RemovesDir d dir (Ok tt) e → IsOutcome e o → IsDirPutBefore d dir false o
remove_dir_on_each d e o dir removed out = dir_put_on_each d e o dir false removed.put out

pub failed_remove_dir_on_each : (d e o : Content) (dir : Dir) → RemovesDir d dir (Err Failed) e → IsOutcome e o → IsOutcome d o ⊎ IsDirPutBefore d dir false o
failed_remove_dir_on_each d e o dir (inl same) out = inl (same_on_each d e o same out)
failed_remove_dir_on_each d e o dir (inr removed) out = inr (dir_put_on_each d e o dir false removed.put out)

-- the folder before a move: the files at their old places, and what was to go at the new ones
abbrev moved_back : Dir → Dir → Content → Content → Content
moved_back from to d o = record {
  dir = λ q. if dir_is q from then true else (if dir_is q to then false else o.dir q);
  file = λ p. if dir_is p.dir from then o.file (place_in to p.name) else (if dir_is p.dir to then (stable_folder d).file p else o.file p);
}

moved_dirs : (d e o : Content) (from to q : Dir) (a b : Bool) → dir_is q from ≡ a → dir_is q to ≡ b → IsDirMoved d from to e → IsOutcome e o → (moved_back from to d o).dir q ≡ d.dir q
moved_dirs d e o from to q true b s t moved out = rw s (sym (ap (λ (r : Dir). d.dir r) (dir_is-same q from s) ∙ moved.there))
moved_dirs d e o from to q false true s t moved out = rw (s, t) (sym (ap (λ (r : Dir). d.dir r) (dir_is-same q to t) ∙ moved.free))
moved_dirs d e o from to q false false s t moved out = rw (s, t) (out.dirs q ∙ moved.dirs q (apart q from s) (apart q to t))

moved_files : (d e o : Content) (from to : Dir) (p : Place) (a b : Bool) → dir_is p.dir from ≡ a → dir_is p.dir to ≡ b → IsDirMoved d from to e → IsOutcome e o
    → IsAlso IsFileOutcome (d.file p) ((moved_back from to d o).file p)
moved_files d e o from to p true b s t moved out =
    let same = dir_is-same p.dir from s in
    let was : e.file (place_in to p.name) ≡ d.file p = moved.files p.name ∙ sym (ap (λ (r : Dir). d.file (place_in r p.name)) same) in
    rw s (subst (λ (x : Option File). IsAlso IsFileOutcome x (o.file (place_in to p.name))) was (out.files (place_in to p.name)))
moved_files d e o from to p false true s t moved out = rw (s, t) ((stable_folder_outcome d).files p)
moved_files d e o from to p false false s t moved out =
    rw (s, t) (subst (λ (x : Option File). IsAlso IsFileOutcome x (o.file p)) (moved.others p (apart p.dir from s) (apart p.dir to t)) (out.files p))

-- move_dir: the files of an outcome from before stand in the second folder
pub moved_on_each : (d e o : Content) (from to : Dir) → IsDirMoved d from to e → IsOutcome e o → (b : Content) × IsOutcome d b × IsDirMoved b from to o
moved_on_each d e o from to moved out =
    let two : to ≢ from = λ u. false≢true (sym moved.free ∙ ap (λ (r : Dir). d.dir r) u ∙ moved.there) in
    let s : dir_is from from ≡ true = dir_is-itself from in
    let t : dir_is to to ≡ true = dir_is-itself to in
    let u : dir_is to from ≡ false = dir_is-apart to from two in (
      moved_back from to d o,
      record {
        dirs = λ q. moved_dirs d e o from to q (dir_is q from) (dir_is q to) refl refl moved out;
        files = λ p. moved_files d e o from to p (dir_is p.dir from) (dir_is p.dir to) refl refl moved out;
      },
      record {
        there = rw s refl;
        free = rw (u, t) refl;
        gone = out.dirs from ∙ moved.gone;
        made = out.dirs to ∙ moved.made;
        dirs = λ q h k. (let v : dir_is q from ≡ false = dir_is-apart q from h in let w : dir_is q to ≡ false = dir_is-apart q to k in rw (v, w) refl);
        files = λ name. rw s refl;
        left = λ name. also_none IsFileOutcome (e.file (place_in from name)) (o.file (place_in from name)) (out.files (place_in from name)) (moved.left name);
        others = λ q h k. (let v : dir_is q.dir from ≡ false = dir_is-apart q.dir from h in let w : dir_is q.dir to ≡ false = dir_is-apart q.dir to k in rw (v, w) refl);
      },
    )

pub move_dir_on_each : (d e o : Content) (from to : Dir) → MovesDir d from to (Ok tt) e → IsOutcome e o → (b : Content) × IsOutcome d b × IsDirMoved b from to o
move_dir_on_each d e o from to moved out = moved_on_each d e o from to moved out

pub failed_move_dir_on_each : (d e o : Content) (from to : Dir) → MovesDir d from to (Err Failed) e → IsOutcome e o → IsOutcome d o ⊎ ((b : Content) × IsOutcome d b × IsDirMoved b from to o)
failed_move_dir_on_each d e o from to (inl same) out = inl (same_on_each d e o same out)
failed_move_dir_on_each d e o from to (inr moved) out = inr (moved_on_each d e o from to moved out)
