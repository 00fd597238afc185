-- The first steps of an opening.
use Rattle.std.proofs.Common.{◌≡◌, inl, inr, ℕ, ◌*◌, ◌<◌, ◌≤◌, max, Bool, true, false, List, Option, Some, ◌^◌, Result, Ok, Err, refl, sym, ap, ◌∙◌, subst, arith, nat_lt}
use Rattle.std.specs.Prelude.{MatchResult, if◌then◌else◌}
use Rattle.std.proofs.lemmas.Bool.Decides.{nat_tests}
use Rattle.sd_names.specs.declared.fault.LayerFault.{LayerFault}
use Rattle.sd_names.specs.declared.fault.LayerFault.TheVariants.{Short, Size}
use Rattle.sd_names.specs.declared.refusal.Refusal.TheVariants.{LayerRefused, OutOfMemory}
use Rattle.sd_names.specs.declared.turn.Turn.TheVariants.{More, Ended}
use Rattle.shared_disk.specs.Content.{Content, File}
use Rattle.shared_disk.specs.Calls.{IsSame, HasLength}
use Rattle.shared_disk.specs.Refusal.{refusal_of}
use Rattle.shared_disk.specs.declared.disk.DiskAnswer.{DiskAnswer}
use Rattle.shared_disk.specs.declared.disk.DiskAnswer.TheVariants.{NoFile, Exists, OutOfFile, NotEmpty, Failed}
use Rattle.qcow_format.specs.declared.header.Header.{Header}
use Rattle.qcow_format.specs.Header.{header_of}
use Rattle.qcow_format.specs.Name.{backing_id}
use Rattle.sd_names.specs.declared.id.Id.{Id}
use Rattle.image_model.specs.File.{file_of}
use Rattle.image_model.specs.File as image
use Rattle.sd_names.specs.declared.refusal.Refusal.{Refusal}
use Rattle.image_model.specs.Soundness.{HasFault, FirstFault, layer_header, layer_header_of}
use Rattle.layer_walk.specs.Items.{layer_of}
use Rattle.layer_walk.specs.Known.{Keeps, Leads}
use Rattle.layer_walk.specs.Walking.{StartKnown}
use Rattle.layer_walk.specs.Left.{Below, Fits, begin_left, walk_left}
use Rattle.layer_walk.specs.Marks.{IsNew, map_size}
use Rattle.layer_walk.specs.declared.walk.Passed.{Passed}
use Rattle.layer_walk.specs.declared.walk.Passed.TheVariants as passed
use Rattle.layer_walk.specs.declared.work.Work.{Work}
use Rattle.qcow_layer.specs.Stages.{BeginsWork, Knows, Steps, roof, turn_of}
use Rattle.qcow_layer.specs.Left.{Falls}
use Rattle.qcow_layer.specs.Seen.{IsSeen, IsReadRefusal, head_of}
use Rattle.qcow_layer.specs.declared.stages.Target.{Target}
use Rattle.qcow_layer.specs.declared.stages.Stage.TheVariants.{Begun, Sized}
use Rattle.qcow_layer.proofs.Pieces.{same_file}
use Rattle.qcow_layer.proofs.Steps.{read_refused, size_of, turned}

short_header : (count capacity : ℕ) (sectors : ℕ → List ℕ) → 512 * count < 512 → layer_header (file_of count sectors) capacity ≡ Err Short
unfolding layer_header file_of
short_header count capacity sectors lt =
    ap (λ (b : Bool). if b then Err Short else layer_header_of capacity (header_of (file_of count sectors).head)) (low (512 * count) lt)
  where
    low : (n : ℕ) → n < 512 → nat_lt n 512 ≡ true
    low n lt = grind (arith, nat_tests)

header_fault : (file : image.File) (capacity : ℕ) (fault : LayerFault) → layer_header file capacity ≡ Err fault → HasFault file capacity fault
header_fault file capacity fault e = subst (λ (r : Result Header LayerFault). MatchResult r (λ h. FirstFault (layer_of h file) capacity fault) (λ f. f ≡ fault)) (sym e) refl

length_of : (target : Target) (host n : ℕ) (d : Content) (f : File) → d.file target.place ≡ Some f → n ≡ 512 * f.size
    → (count : ℕ) (sectors : ℕ → List ℕ) → Knows target host count sectors Begun d → n ≡ 512 * count
length_of target host n d f there is count sectors knows =
    let e : knows.seen.file ≡ f = same_file d target.place f knows.seen.file there knows.seen.there in
    is ∙ ap (λ (g : File). 512 * g.size) (sym e) ∙ ap (λ k. 512 * k) (sym knows.holds)

pub begun_short : (target : Target) (host n : ℕ) (d e : Content) → HasLength d target.place (Ok n) e → n < 512
    → Steps target host Begun (Ended tt (LayerRefused target.volume Short)) d e
begun_short target host n d e length lt = record {
  same = length.0;
  gone = tt;
  after = λ count sectors knows.
      (refl, header_fault (file_of count sectors) target.capacity Short (short_header count target.capacity sectors (subst (λ k. k < 512) (length_of target host n d length.1 length.2 length.3 count sectors knows) lt)));
}

pub begun_sized : (target : Target) (host n : ℕ) (d e : Content) → HasLength d target.place (Ok n) e → 512 ≤ n → Steps target host Begun (More (Sized n)) d e
begun_sized target host n d e length le = record {
  same = length.0;
  gone = tt;
  after = λ count sectors knows. subst (λ x. Knows target host count sectors (Sized n) x) (sym length.0) (record {
    seen = knows.seen;
    holds = (length_of target host n d length.1 length.2 length.3 count sectors knows, le);
  });
}

length_refused : (target : Target) (faults : ℕ) (answer : DiskAnswer) (d e : Content) → HasLength d target.place (Err answer) e → IsSame d e × IsReadRefusal target.place faults (refusal_of answer faults) d
length_refused target faults NoFile d e length = (length.0, inr (refl, length.1))
length_refused target faults Failed d e length = (length, inl refl)
length_refused target faults Exists d e length = absurd length
length_refused target faults OutOfFile d e length = absurd length
length_refused target faults NotEmpty d e length = absurd length

pub begun_refused : (target : Target) (host faults : ℕ) (answer : DiskAnswer) (refusal : Refusal) (d e : Content) → refusal ≡ refusal_of answer faults → HasLength d target.place (Err answer) e
    → Steps target host Begun (Ended tt refusal) d e
begun_refused target host faults answer refusal d e is length =
    let both = length_refused target faults answer d e length in
    subst (λ r. Steps target host Begun (Ended tt r) d e) (sym is) (read_refused target host faults Begun (refusal_of answer faults) d e both.0 both.1)

-- ---- the header is known

header_by : (count capacity : ℕ) (sectors : ℕ → List ℕ) (r : Result Header LayerFault) → 512 ≤ 512 * count → header_of (head_of count sectors) ≡ r
    → layer_header (file_of count sectors) capacity ≡ layer_header_of capacity r
unfolding layer_header file_of head_of
header_by count capacity sectors r long e =
    ap (λ (b : Bool). if b then Err Short else layer_header_of capacity (header_of (file_of count sectors).head)) (high (512 * count) long)
    ∙ ap (layer_header_of capacity) e
  where
    high : (n : ℕ) → 512 ≤ n → nat_lt n 512 ≡ false
    high n le = grind (arith, nat_tests)

header_is : (count capacity : ℕ) (sectors : ℕ → List ℕ) (header : Header) → 512 ≤ 512 * count → header_of (head_of count sectors) ≡ Ok header
    → layer_header (file_of count sectors) capacity ≡ layer_header_of capacity (Ok header)
header_is count capacity sectors header long e = header_by count capacity sectors (Ok header) long e

pub sized_faulted : (target : Target) (host length : ℕ) (head : List ℕ) (fault : LayerFault) (d e : Content) → IsSame d e
    → ((count : ℕ) (sectors : ℕ → List ℕ) → IsSeen host target.place count sectors d → head ≡ head_of count sectors) → Err fault ≡ header_of head
    → Steps target host (Sized length) (Ended tt (LayerRefused target.volume fault)) d e
sized_faulted target host length head fault d e same read bad = record {
  same = same;
  gone = tt;
  after = λ count sectors knows. (
    refl,
    header_fault (file_of count sectors) target.capacity fault
        (header_by count target.capacity sectors (Err fault) (subst (λ n. 512 ≤ n) knows.holds.0 knows.holds.1) (ap header_of (sym (read count sectors knows.seen)) ∙ sym bad)),
  );
}

head_is : (count : ℕ) (sectors : ℕ → List ℕ) → (file_of count sectors).head ≡ head_of count sectors
unfolding file_of head_of
head_is count sectors = refl

less_test : (a b : ℕ) → a < b → nat_lt a b ≡ true
less_test a b lt = grind (arith, nat_tests)

more_test : (a b : ℕ) → b ≤ a → nat_lt a b ≡ false
more_test a b le = grind (arith, nat_tests)

pub header_small : (target : Target) (length : ℕ) (header : Header) → header.size < target.capacity
    → (parent : Option Id) → BeginsWork target length header parent (Ended tt (LayerRefused target.volume (Size header.size)))
header_small target length header lt parent host count sectors d seen is long e named = (
  refl,
  header_fault (file_of count sectors) target.capacity (Size header.size)
      (header_is count target.capacity sectors header (subst (λ n. 512 ≤ n) is long) e ∙ ap (λ (b : Bool). if b then Err (Size header.size) else Ok header) (less_test header.size target.capacity lt)),
)

pub no_memory : (target : Target) (length : ℕ) (header : Header) → target.capacity ≤ header.size → (parent : Option Id) → BeginsWork target length header parent (Ended tt OutOfMemory)
no_memory target length header fits parent host count sectors d seen is long e named = (
  header,
  header_is count target.capacity sectors header (subst (λ n. 512 ≤ n) is long) e ∙ ap (λ (b : Bool). if b then Err (Size header.size) else Ok header) (more_test header.size target.capacity fits),
)

-- the walk begins
pub header_fine : (target : Target) (length : ℕ) (work : Work) (p : Passed) → target.capacity ≤ work.header.size → IsNew length (2 ^ work.header.cluster_bits) (roof target.greatest) work.marks
    → Keeps work p → Leads work (λ t capacity. StartKnown work.marks) p → BeginsWork target length work.header work.parent (turn_of target p)
header_fine target length work p fits new keeps leads host count sectors d seen is long e named =
    let size : work.marks.size ≡ (file_of count sectors).size = new.size ∙ is ∙ sym (size_of count sectors) in
    turned target host count sectors work p d seen
    (record {
      header = (
        header_is count target.capacity sectors work.header (subst (λ n. 512 ≤ n) is long) e ∙ ap (λ (b : Bool). if b then Err (Size work.header.size) else Ok work.header) (more_test work.header.size target.capacity fits),
        named ∙ ap (backing_id work.header) (sym (head_is count sectors)),
      );
      marks = record { size = size; cluster = new.cluster };
      room = new.room ∙ ap (λ n. map_size (max n (roof target.greatest)) (2 ^ work.header.cluster_bits)) (is ∙ sym (size_of count sectors));
    })
    keeps
    (leads target.capacity count sectors (record { size = size; cluster = new.cluster }) (record { naming = new.noted; free = new.free }))

pub begin_falls : (target : Target) (length : ℕ) (work : Work) (p : Passed) → Keeps work p → Below work (λ h tables. begin_left h tables) p → Falls (Sized length) (turn_of target p)
begin_falls target length work (passed.More next) keeps below = λ h tables anti is. (
  tt,
  let same : work.header ≡ h = sym keeps.header ∙ is.0 in
      let lt : walk_left h tables next < begin_left h tables = subst (λ x. walk_left x tables next < begin_left x tables) same (below tables anti (subst (λ x. Fits x tables next) (sym same) is.1)) in
      omega (arith, lt),
)
begin_falls target length work (passed.Sound done) keeps below = tt
begin_falls target length work (passed.Fault fault) keeps below = tt
