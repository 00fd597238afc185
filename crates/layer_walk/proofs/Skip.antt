-- Positions at which nothing stands.
use Rattle.std.proofs.Common.{◌≡◌, ℕ, ◌*◌, ◌/◌, ◌%◌, ◌<◌, ◌≤◌, ◌⊎◌, inl, inr, Bool, true, Option, Some, None, ap, arith}
use Rattle.std.proofs.lemmas.Bool.{cases_lt}
use Rattle.image_model.specs.Layer.{Tables, cluster_size, count_of}
use Rattle.image_model.specs.Soundness.{Item, nothing, item, names, own_fault, NamedBefore, IsClean}
use Rattle.layer_walk.specs.Checked.{Checked, Finding, IsOnce}
use Rattle.layer_walk.specs.Marks.{free_by, used_by}
use Rattle.layer_walk.specs.Positions.{Holds, HoldsBy}
use Rattle.layer_walk.specs.declared.marks.Marks.{Marks}

no_name : (t : Tables) (capacity n place : ℕ) → item t capacity n ≡ nothing → names t capacity n ≡ Some place → ⊥
no_name t capacity n place e is = let f : names t capacity n ≡ None = ap (λ (x : Item). x.name) e in cc

pub clean_nothing : (t : Tables) (capacity n : ℕ) → item t capacity n ≡ nothing → IsClean t capacity n
clean_nothing t capacity n e = record {
  fine = ap (own_fault t.file.size) e;
  once = λ place is b. no_name t capacity n place e is;
  counted = λ place is. absurd (no_name t capacity n place e is);
}

once_nothing : (t : Tables) (capacity n : ℕ) → item t capacity n ≡ nothing → IsOnce t capacity n
once_nothing t capacity n e = let c = clean_nothing t capacity n e in record { fine = c.fine; once = c.once }

skipped_first : (t : Tables) (capacity n n' : ℕ) (used : ℕ → Bool) → Checked t capacity n used → n ≤ n'
    → ((m : ℕ) → n ≤ m → m < n' → item t capacity m ≡ nothing) → Checked t capacity n' used
skipped_first t capacity n n' used known le empty = record {
  once = λ m lt. by_once m lt (cases_lt m n);
  aligned = λ m place lt is. by_aligned m place lt is (cases_lt m n);
  marked = λ c e. later c (known.marked c e);
  unmarked = λ c b. by_named c b (cases_lt b.0 n);
}
  where
    by_once : (m : ℕ) → m < n' → (m < n) ⊎ (n ≤ m) → IsOnce t capacity m
    by_once m lt (inl below) = known.once m below
    by_once m lt (inr above) = once_nothing t capacity m (empty m above lt)

    by_aligned : (m place : ℕ) → m < n' → names t capacity m ≡ Some place → (m < n) ⊎ (n ≤ m) → place % cluster_size t ≡ 0
    by_aligned m place lt is (inl below) = known.aligned m place below is
    by_aligned m place lt is (inr above) = absurd (no_name t capacity m place (empty m above lt) is)

    later : (c : ℕ) → NamedBefore t capacity n (c * cluster_size t) → NamedBefore t capacity n' (c * cluster_size t)
    later c b = (b.0, omega (arith, b.1), b.2)

    by_named : (c : ℕ) → (b : NamedBefore t capacity n' (c * cluster_size t)) → (b.0 < n) ⊎ (n ≤ b.0) → used c ≡ true
    by_named c b (inl below) = known.unmarked c (b.0, below, b.2)
    by_named c b (inr above) = absurd (no_name t capacity b.0 (c * cluster_size t) (empty b.0 above b.1) b.2)

skipped_second : (t : Tables) (capacity n n' : ℕ) (free : ℕ → Bool) → Finding t capacity n free
    → ((m : ℕ) → n ≤ m → m < n' → item t capacity m ≡ nothing) → Finding t capacity n' free
skipped_second t capacity n n' free known empty = record {
  stop = known.stop;
  once = known.once;
  high = known.high;
  low = known.low;
  at = known.at;
  before = known.before;
  place = known.place;
  name = known.name;
  none = known.none;
  counted = λ m place lt is. by_count m place lt is (cases_lt m n);
}
  where
    by_count : (m place : ℕ) → m < n' → names t capacity m ≡ Some place → (m < n) ⊎ (n ≤ m) → 0 < count_of t (place / cluster_size t)
    by_count m place lt is (inl below) = known.counted m place below is
    by_count m place lt is (inr above) = absurd (no_name t capacity m place (empty m above lt) is)

skipped_by : (o : Option ℕ) (t : Tables) (capacity n n' : ℕ) (m : Marks) → HoldsBy o t capacity n m → n ≤ n'
    → ((k : ℕ) → n ≤ k → k < n' → item t capacity k ≡ nothing) → HoldsBy o t capacity n' m
skipped_by None t capacity n n' m known le empty = skipped_first t capacity n n' (used_by m) known le empty
skipped_by (Some noted) t capacity n n' m known le empty = skipped_second t capacity n n' (free_by m) known empty

pub skipped : (t : Tables) (capacity n n' : ℕ) (m : Marks) → Holds t capacity n m → n ≤ n'
    → ((k : ℕ) → n ≤ k → k < n' → item t capacity k ≡ nothing) → Holds t capacity n' m
skipped t capacity n n' m known le empty = skipped_by m.noted t capacity n n' m known le empty
