-- Layers that are the same: of themselves, the other way round, and one after the other.
use Rattle.std.proofs.Common.{◌≡◌, ℕ, Ok, refl, sym, ◌∙◌}
use Rattle.qcow_format.specs.declared.header.Header.{Header}
use Rattle.image_model.specs.File.{File}
use Rattle.image_model.specs.Soundness.{IsSound, layer_header}
use Rattle.layer_writing.specs.Holding.{HoldSame, IsKept, IsLike}

module _ (h : Header) (capacity : ℕ) where
  pub like_itself : (f : File) → layer_header f capacity ≡ Ok h → IsSound f capacity → IsLike h capacity f f
  like_itself f is sound = record {
    same = record { header = is; sound = sound; named = λ m. refl; entries = λ k. refl; tables = λ i lt. refl; blocks = λ k. refl };
    parent = refl;
  }

  pub like_back : (f g : File) → layer_header f capacity ≡ Ok h → IsSound f capacity → IsLike h capacity f g → IsLike h capacity g f
  like_back f g is sound like = record {
    same = record {
      header = is;
      sound = sound;
      named = λ m. sym (like.same.named m);
      entries = λ k. sym (like.same.entries k);
      tables = λ i lt. sym (like.same.tables i lt);
      blocks = λ k. sym (like.same.blocks k);
    };
    parent = sym like.parent;
  }

  pub like_through : (f g k : File) → IsLike h capacity f g → IsLike h capacity g k → IsLike h capacity f k
  like_through f g k a b = record {
    same = record {
      header = b.same.header;
      sound = b.same.sound;
      named = λ m. b.same.named m ∙ a.same.named m;
      entries = λ i. b.same.entries i ∙ a.same.entries i;
      tables = λ i lt. b.same.tables i lt ∙ a.same.tables i lt;
      blocks = λ i. b.same.blocks i ∙ a.same.blocks i;
    };
    parent = b.parent ∙ a.parent;
  }

  pub holds_itself : (f : File) → HoldSame h capacity f f
  holds_itself f = record { header = refl; parent = refl; entries = λ k. refl; bytes = λ i. refl }

  pub holds_through : (f g k : File) → HoldSame h capacity f g → HoldSame h capacity g k → HoldSame h capacity f k
  holds_through f g k a b = record {
    header = b.header ∙ a.header;
    parent = b.parent ∙ a.parent;
    entries = λ i. b.entries i ∙ a.entries i;
    bytes = λ i. b.bytes i ∙ a.bytes i;
  }

  pub kept_holds : (f g : File) → layer_header f capacity ≡ Ok h → IsKept h capacity f g → HoldSame h capacity f g
  kept_holds f g is kept = record {
    header = kept.like.same.header ∙ sym is;
    parent = kept.like.parent;
    entries = kept.like.same.entries;
    bytes = kept.bytes;
  }
