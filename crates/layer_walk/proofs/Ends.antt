-- What comes behind the walk over the tables: the counts, and a second walk where one was noted.
use Rattle.std.proofs.Common.{◌≡◌, ◌⊎◌, inl, inr, ℕ, ◌+◌, ◌*◌, ◌/◌, ◌^◌, ◌<◌, ◌≤◌, Bool, true, false, Option, Some, None, refl, sym, ap, ◌∙◌, subst, arith, nat_lt, eqb-true}
use Rattle.std.specs.Prelude.{◌==◌, ◌&&◌, not}
use Rattle.std.proofs.Math.Nat.{mul-div_cancel}
use Rattle.std.proofs.lemmas.Bool.{cases_lt}
use Rattle.std.proofs.lemmas.Bool.Decides.{nat_tests}
use Rattle.std.proofs.lemmas.Nat.{pow_pos}
use Rattle.sd_names.specs.declared.fault.LayerFault.{LayerFault}
use Rattle.qcow_format.specs.declared.header.Header.{Header}
use Rattle.image_model.specs.File.{File}
use Rattle.image_model.specs.Layer.{Tables, block_span, cluster_size, count_of}
use Rattle.image_model.specs.Soundness.{FirstFault, IsClean, Item, NamedBefore, before_mapping, item, names, nothing}
use Rattle.layer_walk.specs.Bits.{room_of}
use Rattle.layer_walk.specs.Checked.{Checked, Finding}
use Rattle.layer_walk.specs.Counting.{Counted, IsCounting, MapsFile, Turns, counted_bit}
use Rattle.layer_walk.specs.Items.{layer_of}
use Rattle.layer_walk.specs.Known.{CountsKnown, EndKnown, IsComplete, TablesKnown, tables_of}
use Rattle.layer_walk.specs.Marks.{MarksFile, free_by, used_by}
use Rattle.layer_walk.specs.Positions as position
use Rattle.layer_walk.specs.Positions.{Holds, HoldsBy, PassesHead, StopsBy, head_count, head_end, l1_position}
use Rattle.layer_walk.specs.declared.count.Count.{Count}
use Rattle.layer_walk.specs.declared.marks.Marks.{Marks}
use Rattle.layer_walk.specs.declared.work.Work.{Work}
use Rattle.layer_walk.proofs.Admit.{inside, whole}
use Rattle.layer_walk.proofs.Moves.{has_bit}
use Rattle.layer_walk.proofs.Skip.{clean_nothing}

-- ---- the second walk

pub small_file : (work : Work) (file : File) → MarksFile work.marks (tables_of work file) → file.size < 2 ^ 64
small_file work file fits = subst (λ n. n < 2 ^ 64) fits.size work.marks.fits

-- it ends before all is passed
module _ (t : Tables) (capacity n : ℕ) (free : ℕ → Bool) (known : Finding t capacity n free) where
  pub still : n ≤ known.at
  still = go (cases_lt known.at n)
    where
      go : (known.at < n) ⊎ (n ≤ known.at) → n ≤ known.at
      go (inl lt) = let some = known.counted known.at known.place lt known.name in absurd (omega (arith, some, known.none))
      go (inr le) = le

  pub finding_ends : ((m : ℕ) → n ≤ m → item t capacity m ≡ nothing) → ⊥
  finding_ends rest = let e : names t capacity known.at ≡ None = ap (λ (x : Item). x.name) (rest known.at still) in let f = known.name in cc

  -- behind the header come the blocks, which have counts
  finding_on : n ≡ head_end t → position.Counted t capacity (before_mapping t) → Finding t capacity (before_mapping t) free
  finding_on start blocks = record {
    stop = known.stop;
    once = known.once;
    high = known.high;
    low = known.low;
    at = known.at;
    before = known.before;
    place = known.place;
    name = known.name;
    none = known.none;
    counted = λ m place lt is. go m place lt is (cases_lt m n);
  }
    where
      go : (m place : ℕ) → m < before_mapping t → names t capacity m ≡ Some place → (m < n) ⊎ (n ≤ m) → 0 < count_of t (place / cluster_size t)
      go m place lt is (inl less) = known.counted m place less is
      go m place lt is (inr more) = blocks m place (omega (arith, start, more)) lt is

to_finding : (t : Tables) (capacity n place : ℕ) (m : Marks) → m.noted ≡ Some place → Holds t capacity n m → Finding t capacity n (free_by m)
to_finding t capacity n place m mode known = subst (λ o. HoldsBy o t capacity n m) mode known

of_finding : (t : Tables) (capacity n place : ℕ) (m : Marks) → m.noted ≡ Some place → Finding t capacity n (free_by m) → Holds t capacity n m
of_finding t capacity n place m mode known = subst (λ o. HoldsBy o t capacity n m) (sym mode) known

pub second_begins : (work : Work) (file : File) (capacity place : ℕ) (after : Marks) → work.marks.noted ≡ Some place → PassesHead work.header (head_count work.header) work.marks after None
    → MarksFile work.marks (tables_of work file) → TablesKnown (tables_of work file) capacity work.marks 0 → TablesKnown (tables_of work file) capacity after (l1_position (tables_of work file) 0)
second_begins work file capacity place after mode passes fits known =
    let t : Tables = tables_of work file in
    let later : after.noted ≡ Some place = passes.keeps.noted ∙ mode in
    let here = passes.reaches file capacity (omega arith) work.l1_aligned work.table_aligned (small_file work file fits) fits known.holds in
    record {
      holds = of_finding t capacity (l1_position t 0) place after later
          (subst (λ n. Finding t capacity n (free_by after)) (first (before_mapping t) (1 + 2 ^ work.header.cluster_bits / 8))
          (finding_on t capacity (head_end t) (free_by after) (to_finding t capacity (head_end t) place after later here) refl known.blocks));
      blocks = known.blocks;
    }
  where
    first : (n w : ℕ) → n ≡ n + 0 * w
    first n w = omega arith

pub tables_end : (t : Tables) (capacity n place : ℕ) (m : Marks) → m.noted ≡ Some place → TablesKnown t capacity m n → ((k : ℕ) → n ≤ k → item t capacity k ≡ nothing) → ⊥
tables_end t capacity n place m mode known rest = finding_ends t capacity n (free_by m) (to_finding t capacity n place m mode known.holds) rest

-- ---- the counts

-- the cluster of a name below the end of the walk was named, and has a bit
module _ (t : Tables) (capacity at : ℕ) (m : Marks) (named : ℕ → Bool) (known : Checked t capacity at named) (fits : MarksFile m t) where
  name_bit : (n place : ℕ) → n < at → names t capacity n ≡ Some place → (named (place / cluster_size t) ≡ true) × (place / cluster_size t < room_of m.free)
  name_bit n place lt is = (
    known.unmarked (place / cluster_size t) (subst (NamedBefore t capacity at) (sym (whole (cluster_size t) place (known.aligned n place lt is))) (n, lt, is)),
    has_bit t m place fits (inside t.file.size (item t capacity n) place (known.once n lt).fine is),
  )

  named_inside : (c : ℕ) → named c ≡ true → c * cluster_size t < t.file.size
  named_inside c e = let b = known.marked c e in inside t.file.size (item t capacity b.0) (c * cluster_size t) (known.once b.0 b.1).fine b.2

some_count : (n : ℕ) → (n == 0) ≡ false → 0 < n
some_count n e = grind (arith, nat_tests)

high_bit : (a b : Bool) → not (a && b) ≡ true → a ≡ true → b ≡ false
high_bit true false e f = refl
high_bit true true e f = absurd cc
high_bit false b e f = absurd cc

low_bit : (a b : Bool) → not (a && b) ≡ false → b ≡ true
low_bit true true e = refl
low_bit true false e = absurd cc
low_bit false b e = absurd cc

module _ (t : Tables) (capacity : ℕ) (m : Marks) (fault : Option LayerFault) (known : CountsKnown t capacity m fault None) (fits : MarksFile m t) where
  bit : (o : Option ℕ) → m.noted ≡ o → (n place : ℕ) → n < known.at → names t capacity n ≡ Some place
      → (free_by m (place / cluster_size t) ≡ counted_bit t known.named o (place / cluster_size t)) × (known.named (place / cluster_size t) ≡ true)
  bit o mode n place lt is =
      let here = name_bit t capacity known.at m known.named known.walked.checked fits n place lt is in
      (known.counting.bits.below (place / cluster_size t) here.1 here.1 ∙ ap (λ q. counted_bit t known.named q (place / cluster_size t)) mode, here.0)

  -- a cluster was noted
  pub counts_noted : (noted : ℕ) → m.noted ≡ Some noted → TablesKnown t capacity m 0
  counts_noted noted mode =
      let low = known.counting.note.some noted mode in
      let b = known.walked.checked.marked low.cluster low.is_named in
      record {
        holds = of_finding t capacity 0 noted m mode (record {
          stop = known.at;
          once = known.walked.checked.once;
          high = λ n place lt is e. let here = bit (Some noted) mode n place lt is in some_count _ (high_bit _ _ (sym here.0 ∙ e) here.1);
          low = λ n place lt is e. let here = bit (Some noted) mode n place lt is in eqb-true _ 0 (low_bit _ _ (sym here.0 ∙ e));
          at = b.0;
          before = b.1;
          place = low.cluster * cluster_size t;
          name = b.2;
          none = ap (count_of t) (mul-div_cancel low.cluster (pow_pos t.header.cluster_bits)) ∙ low.none;
          counted = λ n place lt is. absurd (omega (arith, lt));
        });
        blocks = known.walked.blocks;
      }

  -- none was
  counts_clean : m.noted ≡ None → (n : ℕ) → n < known.at → IsClean t capacity n
  counts_clean mode n lt = record {
    fine = (known.walked.checked.once n lt).fine;
    once = (known.walked.checked.once n lt).once;
    counted = λ place is.
        let here = name_bit t capacity known.at m known.named known.walked.checked fits n place lt is in
        known.counting.note.fine mode (place / cluster_size t) here.1 here.1 here.0;
  }

pub counts_fault : (t : Tables) (capacity : ℕ) (m : Marks) (fault : LayerFault) → CountsKnown t capacity m (Some fault) None → MarksFile m t → m.noted ≡ None → FirstFault t capacity fault
counts_fault t capacity m fault known fits mode = record { at = known.at; here = known.walked.end; before = counts_clean t capacity m (Some fault) known fits mode }

pub counts_sound : (t : Tables) (capacity : ℕ) (m : Marks) → CountsKnown t capacity m None None → MarksFile m t → m.noted ≡ None → IsComplete t capacity m
counts_sound t capacity m known fits mode = record {
  sound = λ n. go n (cases_lt n known.at);
  free = λ c lt. known.counting.bits.below c lt lt ∙ ap (λ q. counted_bit t known.named q c) mode;
}
  where
    go : (n : ℕ) → (n < known.at) ⊎ (known.at ≤ n) → IsClean t capacity n
    go n (inl lt) = counts_clean t capacity m None known fits mode n lt
    go n (inr le) = clean_nothing t capacity n (known.walked.end n le)

-- ---- they begin

none_counted : (t : Tables) (m : Marks) → m.noted ≡ None → Counted t (room_of m.free) (used_by m) m (0 * block_span t)
none_counted t m none = record {
  bits = record { below = λ c lt w. absurd (omega (arith, lt)); above = λ c le w. sym (free_again (nat_lt c (room_of m.free)) (free_by m c) (below c w)) };
  note = record { fine = λ e c lt w is. absurd (omega (arith, lt)); some = λ place e. absurd cc };
}
  where
    below : (c : ℕ) → c < room_of m.free → nat_lt c (room_of m.free) ≡ true
    below c w = grind (arith, nat_tests)

    free_again : (a b : Bool) → a ≡ true → not (a && not b) ≡ b
    free_again true true e = refl
    free_again true false e = refl
    free_again false b e = absurd cc

pub counts_begin : (header : Header) (file : File) (capacity : ℕ) (m after : Marks) (fault : Option LayerFault) (count : Option Count) → EndKnown (layer_of header file) capacity m fault
    → MarksFile m (layer_of header file) → Turns header 0 m after count → CountsKnown (layer_of header file) capacity after fault count
counts_begin header file capacity m after fault count known fits turns =
    let t : Tables = layer_of header file in
    let maps : MapsFile t (room_of m.free) (used_by m) m = record {
      size = fits.size;
      cluster = fits.cluster;
      many = refl;
      whole = m.whole;
      inside = named_inside t capacity known.at m (used_by m) known.walked.checked fits;
    } in
    record {
      at = known.at;
      named = used_by m;
      walked = known.walked;
      maps = record { size = turns.keeps.size ∙ maps.size; cluster = turns.keeps.cluster ∙ maps.cluster; many = refl; whole = after.whole; inside = maps.inside };
      counting = subst (λ room. IsCounting t room (used_by m) after count) (sym turns.keeps.room) (turns.counts file (room_of m.free) (used_by m) maps (λ lt w. refl) (none_counted t m known.naming));
    }
