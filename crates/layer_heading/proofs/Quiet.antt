-- A quiet layer's file with the next name, and with the next header.
use Rattle.std.proofs.Common.{◌≡◌, ◌⊎◌, inl, inr, ℕ, ◌*◌, ◌/◌, ◌%◌, ◌^◌, ◌<◌, ◌≤◌, Bool, true, false, List, length, get_or, Option, Some, Ok, Err, refl, sym, ap, ◌∙◌, subst, arith, nat_lt}
use Rattle.std.specs.Prelude.{not, if◌then◌else◌}
use Rattle.std.proofs.Math.Nat.{mul-le-mul_right}
use Rattle.std.proofs.lemmas.Bool.{cases_lt}
use Rattle.std.proofs.lemmas.Bool.Decides.{nat_tests}
use Rattle.std.proofs.lemmas.List.{get_or_past}
use Rattle.sd_names.specs.Id.{IsIdBytes}
use Rattle.sd_names.specs.declared.id.Id.{Id}
use Rattle.sd_names.specs.declared.fault.LayerFault.TheVariants.{Short}
use Rattle.shared_disk.specs.Content.{File}
use Rattle.qcow_format.specs.declared.header.Header.{Header}
use Rattle.qcow_format.specs.Header.{header_of}
use Rattle.qcow_format.specs.Name.{backing_id}
use Rattle.qcow_format.specs.Written.{IsHeader, written}
use Rattle.image_model.specs.File as image
use Rattle.image_model.specs.File.{file_of}
use Rattle.image_model.specs.Layer.{is_used}
use Rattle.image_model.specs.Soundness.{IsSound, layer_header, layer_header_of}
use Rattle.layer_laws.specs.Laws.{Rebased, layer}
use Rattle.layer_laws.proofs.Numbers.{whole_place}
use Rattle.layer_creating.specs.New.{name_sector}
use Rattle.layer_creating.specs.declared.backing.Backing.{Backing}
use Rattle.qcow_layer.specs.Knowing.{KnowsNumbers}
use Rattle.qcow_layer.specs.Mapping.{IsWithHeader}
use Rattle.qcow_layer.specs.Opening.{capacity_kept, header_kept}
use Rattle.qcow_layer.specs.declared.layer.Layer.{Layer}
use Rattle.layer_walk.specs.Bits.{has, room_of}
use Rattle.layer_writing.specs.Holding.{on_medium, with_sector}
use Rattle.layer_writing.specs.Writer.{IsSameFile}
use Rattle.layer_writing.proofs.Known.{settled_medium}
use Rattle.layer_heading.specs.Rebased.{IsOldOrOver, IsOver, IsStill, name_place, rebased}
use Rattle.layer_heading.specs.Writing.{IsQuiet}
use Rattle.layer_heading.proofs.Layers as layers

-- a file with a header isn't empty
some_file : (n capacity : ℕ) (s : ℕ → List ℕ) (h : Header) → layer_header (file_of n s) capacity ≡ Ok h → 0 < n
unfolding layer_header file_of
some_file n capacity s h is = go (nat_lt (512 * n) 512) refl is
  where
    go : (b : Bool) → nat_lt (512 * n) 512 ≡ b → (if b then Err Short else layer_header_of capacity (header_of (file_of n s).head)) ≡ Ok h → 0 < n
    go true t e = absurd cc
    go false t e = grind (arith, nat_tests)

one_cluster : (n c : ℕ) → n % c ≡ 0 → 0 < n → c ≤ n
one_cluster n c even some =
    let at = whole_place n c even in
    let rows : 1 * c ≤ n / c * c = mul-le-mul_right c (positive (n / c) (λ z. zero_not (at ∙ ap (λ k. k * c) z))) in
    omega (arith, rows, at)
  where
    positive : (k : ℕ) → (k ≡ 0 → ⊥) → 1 ≤ k
    positive k other = omega (arith, other)

    zero_not : n ≡ 0 * c → ⊥
    zero_not e = omega (arith, e, some)

module _ (layer_ : Layer) (host : ℕ) (f : File) (q : IsQuiet layer_ host f) where
  abbrev h : Header
  h = header_kept layer_

  abbrev capacity : ℕ
  capacity = capacity_kept layer_

  abbrev n : ℕ
  n = f.size

  pub numbers : KnowsNumbers layer_ (on_medium f)
  numbers = subst (λ (x : image.File). KnowsNumbers layer_ x) (settled_medium host f q.settled) q.writer.knows.numbers

  pub long : (k : ℕ) → length (f.stable k) ≡ 512
  long k = (q.formed.stable k).len

  pub fits : (k i : ℕ) → get_or (f.stable k) i 0 < 256
  fits k i = go (cases_lt i (length (f.stable k)))
    where
      go : (i < length (f.stable k)) ⊎ (length (f.stable k) ≤ i) → get_or (f.stable k) i 0 < 256
      go (inl lt) = (q.formed.stable k).fits i 0 lt
      go (inr le) = let e = get_or_past (f.stable k) i 0 le in omega (arith, e)

  pub some : 0 < n
  some = some_file n capacity f.stable h numbers.header

  pub inside : 2 ^ h.cluster_bits ≤ 512 * n
  inside = one_cluster (512 * n) (2 ^ h.cluster_bits) q.writer.whole (let s = some in omega (arith, s))

  heads_are : layers.Heads h
  heads_are = layers.heads h layer_.work.low

  place_is : layers.Place h
  place_is = layers.place_of h heads_are

  pub name_inside : name_place h / 512 < n
  name_inside = omega (arith, place_is.0, place_is.2, heads_are.inside, inside)

  -- ---- a layer with another header and parent

  module _ (next : Header) (parent : Option Id) (after : Layer) (w : IsWithHeader layer_ next parent after) where
    pub numbers_with : (g : image.File) → layer_header g capacity ≡ Ok next → parent ≡ backing_id next g.head → next.cluster_bits ≡ h.cluster_bits → Rebased h next capacity (on_medium f) g → KnowsNumbers after g
    numbers_with g header parent_is bits rest =
        let cap : after.target.capacity ≡ capacity = ap (λ t. t.capacity) w.target in
        record {
          header = ap (layer_header g) cap ∙ header ∙ ap (λ (x : Header). Ok x) (sym w.header_is);
          parent = w.parent_is ∙ parent_is ∙ ap (λ (x : Header). backing_id x g.head) (sym w.header_is);
          sound = subst (λ (k : ℕ). IsSound g k) (sym cap) rest.sound;
          used = λ c lt.
              ap (λ m. has m.free c) w.marks ∙ numbers.used c (subst (λ (k : ℕ). c < k) (ap (λ m. room_of m.free) w.marks) lt)
              ∙ ap not (sym (ap (λ (x : Header). is_used (layer x g) c) w.header_is ∙ layers.used_same h next capacity (on_medium f) g c bits rest));
        }

    pub same_file : next.cluster_bits ≡ h.cluster_bits → IsSameFile layer_ after
    same_file bits = record {
      place = ap (λ t. t.place) w.target;
      greatest = ap (λ t. t.greatest) w.target;
      length = ap (λ m. m.size) w.marks;
      mapped = ap (λ m. room_of m.free) w.marks;
      bits = ap (λ (x : Header). x.cluster_bits) w.header_is ∙ bits;
    }

  -- ---- the next name

  module _ (backing : Backing) where
    abbrev named : ℕ → List ℕ
    named = with_sector (name_place h / 512) (name_sector (Some backing)) f.stable

    still : IsStill h capacity (on_medium f) (file_of n named)
    still = record {
      header = layers.named_header n capacity f.stable h backing long numbers.header numbers.sound;
      parent = layers.named_parent n capacity f.stable h backing long numbers.header numbers.sound;
      rest = layers.named_same n capacity f.stable h backing long numbers.header numbers.sound;
    }

    pub named_becomes : IsOldOrOver h backing capacity (on_medium f) (file_of n named)
    named_becomes = inr (inl still)

    pub named_sound : IsSound (file_of n named) capacity
    named_sound = still.rest.sound

    pub named_numbers : KnowsNumbers layer_ (file_of n named)
    named_numbers = record {
      header = still.header;
      parent = numbers.parent ∙ sym still.parent;
      sound = still.rest.sound;
      used = λ c lt. numbers.used c lt ∙ ap not (sym (layers.used_same h h capacity (on_medium f) (file_of n named) c refl still.rest));
    }

  -- ---- the next header

  module _ (backing : Backing) (bytes : IsIdBytes backing.parent.0) (name : f.stable (name_place h / 512) ≡ name_sector (Some backing)) where
    abbrev headed : ℕ → List ℕ
    headed = with_sector 0 (written (rebased h backing) (f.stable 0)) f.stable

    over : IsOver h backing capacity (on_medium f) (file_of n headed)
    over = layers.is_over n capacity f.stable h backing bytes long fits numbers.header numbers.sound inside name

    pub next_header : IsHeader (rebased h backing)
    next_header = layers.next_is n capacity f.stable h backing bytes long fits numbers.header numbers.sound inside name

    pub next_long : length (written (rebased h backing) (f.stable 0)) ≡ 512
    next_long = layers.first_long n capacity f.stable h backing bytes long fits numbers.header numbers.sound inside name

    pub headed_becomes : IsOldOrOver h backing capacity (on_medium f) (file_of n headed)
    headed_becomes = inr (inr over)

    pub headed_sound : IsSound (file_of n headed) capacity
    headed_sound = over.rest.sound

    pub headed_numbers : (after : Layer) → IsWithHeader layer_ (rebased h backing) (Some backing.parent) after → KnowsNumbers after (file_of n headed)
    headed_numbers after w = numbers_with (rebased h backing) (Some backing.parent) after w (file_of n headed) over.header (sym over.parent) refl over.rest
