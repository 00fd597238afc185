-- What the reads of a linking find.
use Rattle.std.proofs.Common.{◌≡◌, ◌≢◌, ◌⊎◌, inl, inr, ℕ, ◌+◌, ◌*◌, ◌/◌, ◌%◌, ◌^◌, ◌<◌, ◌≤◌, Bool, List, length, replicate, Option, Some, None, Ok, Err, refl, sym, ap, ◌∙◌, subst, arith}
use Rattle.std.proofs.lemmas.Bool.{cases_lt, eq-eqb, ne_eqb}
use Rattle.std.proofs.lemmas.List.{length-replicate}
use Rattle.layer_laws.proofs.Positions.{same_or_not}
use Rattle.std.specs.Prelude.{if◌then◌else◌}
use Rattle.sd_names.specs.declared.refusal.Refusal.{Refusal}
use Rattle.sd_names.specs.declared.turn.Turn.{Turn}
use Rattle.sd_names.specs.declared.turn.Turn.TheVariants.{Ended}
use Rattle.shared_disk.specs.Content.{Content, File}
use Rattle.shared_disk.specs.Calls.{IsSame}
use Rattle.shared_disk.specs.Crash.{IsSettled}
use Rattle.qcow_format.specs.Bytes.{bytes_of, number, put}
use Rattle.qcow_format.specs.Entry.{table_in}
use Rattle.image_model.specs.File.{file_of, sector_in}
use Rattle.image_model.specs.Layer.{Tables, l1_at, l1_entry}
use Rattle.image_model.specs.Soundness.{names}
use Rattle.layer_laws.specs.Laws as laws
use Rattle.layer_laws.specs.Laws.{AreSectors, OnlyWord, l1_position}
use Rattle.layer_laws.proofs.Sound.{table_name}
use Rattle.link_laws.specs.Links.{IsNewTable, Linked, l1_word, laid, no_table, one_table, row_of, sector_at}
use Rattle.link_laws.proofs.Many as many
use Rattle.link_laws.proofs.Made as made
use Rattle.link_laws.proofs.Words.{length_laid, length_lay, word_laid_now, word_lay}
use Rattle.layer_writing.specs.Holding.{on_medium, with_sector}
use Rattle.qcow_layer.proofs.Entries.{word_of_sector}
use Rattle.qcow_layer.specs.Seen.{IsReadRefusal, IsSeen}
use Rattle.qcow_layer.specs.declared.layer.Layer.{Layer}
use Rattle.qcow_layer.proofs.Knowing.{in_file, seen_whole}
use Rattle.layer_linking.specs.Calls.{FindsTable, LaysEntries, LaysTable, at_stage, entries_sector, group_of, l1_place, table_of, table_turn, to_of}
use Rattle.layer_linking.specs.Linking.{HasFilled, HasLaid, IsAsBefore, IsLeftSo, IsLinkable, IsLinked, LinksOn, HasTable, tables_to}
use Rattle.layer_linking.specs.declared.linking.Linking.{Linking}
use Rattle.layer_linking.specs.declared.linking.Stage.TheVariants.{Found, Laid}
use Rattle.layer_linking.proofs.Moved.{sector_back}
use Rattle.layer_linking.proofs.Sizes.{nought}
use Rattle.layer_linking.proofs.Begins as begins
use Rattle.layer_linking.proofs.Outcomes as outcomes

-- a read that was refused, of a file that is there, met a fault
refused : (layer : Layer) (l : Linking) (host n : ℕ) (start f : File) (d e : Content) (turn : Turn Linking (Unit {0}) (Unit {0})) (refusal : Refusal) → d.file layer.target.place ≡ Some f
    → IsReadRefusal layer.target.place n refusal d → turn ≡ Ended tt refusal → IsLeftSo layer l host start e → LinksOn l layer host start turn e
refused layer l host n start f d e turn refusal there (inl fault) is left = outcomes.faults l layer host n start e turn (is ∙ ap (λ (r : Refusal). Ended tt r) fault) left
refused layer l host n start f d e turn refusal there (inr gone) is left = absurd (outcomes.no_file f (d.file layer.target.place) gone.1 there)

-- a sector of a file with nothing unsynced
read_of : (layer : Layer) (host k k' : ℕ) (f : File) (d : Content) (sector : List ℕ) → IsSettled f → d.file layer.target.place ≡ Some f → k ≡ k' → k' < f.size
    → ((count : ℕ) (sectors : ℕ → List ℕ) → IsSeen host layer.target.place count sectors d → sector ≡ sector_in count sectors k) → sector ≡ f.stable k'
read_of layer host k k' f d sector settled there same lt read =
    read f.size f.stable (seen_whole host layer.target.place f d settled there) ∙ ap (sector_in f.size f.stable) same ∙ in_file f.size k' f.stable lt

pub with_here : (k k' : ℕ) (bytes : List ℕ) (s : ℕ → List ℕ) → k' ≡ k → with_sector k bytes s k' ≡ bytes
with_here k k' bytes s same = ap (λ (b : Bool). if b then bytes else s k') (eq-eqb k' k same)

pub with_other : (k k' : ℕ) (bytes : List ℕ) (s : ℕ → List ℕ) → k' ≢ k → with_sector k bytes s k' ≡ s k'
with_other k k' bytes s ne = ap (λ (b : Bool). if b then bytes else s k') (ne_eqb k' k ne)

back : (k : ℕ) → 512 * k / 512 ≡ k
back k = omega arith

-- the word of an L1 entry in its sector
word_sector : (at : ℕ) → at / 8 / 64 ≡ at / 512
word_sector at = omega arith

word_column : (at : ℕ) → at % 8 ≡ 0 → at / 8 % 64 ≡ at % 512 / 8
word_column at even = omega (arith, even)

column_lt : (at : ℕ) → at % 512 / 8 < 64
column_lt at = omega arith

module _ (layer : Layer) (l : Linking) (host n : ℕ) (start : File) (d e : Content) (turn : Turn Linking (Unit {0}) (Unit {0})) (b : IsLinkable layer l host start) where
  abbrev T : Tables
  T = laws.layer layer.work.header (file_of start.size start.stable)

  abbrev i : ℕ
  i = row_of (laws.layer layer.work.header (file_of start.size start.stable)) (group_of l)

  left_as : (f : File) → IsSame d e → d.file layer.target.place ≡ Some f → IsSettled f → f.size ≡ start.size → IsAsBefore layer (on_medium start) (on_medium f) → IsLeftSo layer l host start e
  left_as f same there settled size old = outcomes.settled_left layer l host start b f e (ap (λ (x : Content). x.file layer.target.place) same ∙ there) settled size old

  start_left : IsSame d e → d.file layer.target.place ≡ Some start → IsLeftSo layer l host start e
  start_left same there = left_as start same there b.settled refl (outcomes.itself layer l host start b)

  -- ---- the table's place

  pub find_step : table_of l ≡ None → d.file layer.target.place ≡ Some start → FindsTable l layer host n turn d e → LinksOn l layer host start turn e
  find_step none there (Err refusal, (same, why), is) = refused layer l host n start start d e turn refusal there why is (start_left same there)
  find_step none there (Ok sector, (same, read), is) =
      let has : (place : ℕ) × (l1_entry T i ≡ Ok (Some place)) = subst (λ (o : Option ℕ). HasTable T layer.target.capacity (group_of l) (to_of l) o) none b.table in
      let at : ℕ = l1_place layer.work.header (group_of l) in
      let at_is : at ≡ l1_at T i = begins.l1_is layer l host start b in
      let seen = read start.size start.stable (seen_whole host layer.target.place start d b.settled there) in
      let word = word_of_sector start.size start.stable (l1_at T i) at sector (begins.l1_even layer l host start b) at_is (seen ∙ ap (sector_in start.size start.stable) (sym (sector_back at))) in
      let found : table_in (number 8 (8 * (at % 512 / 8)) sector) at ≡ Ok (Some has.0) =
      ap (λ (x : ℕ). table_in x at) (sym word) ∙ ap (table_in ((file_of start.size start.stable).word (l1_at T i / 8))) at_is ∙ has.1 in
      outcomes.goes_on l layer host start e turn (Found has.0) b (is ∙ ap (table_turn l) found) (none, ap (λ (x : Content). x.file layer.target.place) same ∙ there, has.1) (start_left same there)

  -- ---- the sector of the entries

  pub lay_step : (table : ℕ) → table_of l ≡ None → d.file layer.target.place ≡ Some start → l1_entry T i ≡ Ok (Some table) → LaysEntries l table layer host n turn d e → LinksOn l layer host start turn e
  lay_step table none there l1 (Err refusal, (same, why), is) = refused layer l host n start start d e turn refusal there why is (start_left same there)
  lay_step table none there l1 (Ok sector, (same, read), is) = outcomes.goes_on l layer host start e turn (Laid (512 * es) (laid (to_of l) (64 * group_of l) 64 sector)) b is now (start_left same there)
    where
      es : ℕ
      es = entries_sector layer.work.header (group_of l) table

      sec : ℕ
      sec = sector_at T table (group_of l)

      named : (names T layer.target.capacity (l1_position T i) ≡ Some table) × (table % 2 ^ layer.work.header.cluster_bits ≡ 0)
      named = table_name layer.work.header (file_of start.size start.stable) layer.target.capacity (begins.shape layer l host start b) (begins.clean layer l host start b) i table b.row l1

      at : (es ≡ sec) × (sec < start.size)
      at = begins.entries_at layer l host start b table (begins.named_whole layer l host start b (l1_position T i) table named.0 named.1) named.1

      sector_is : sector ≡ start.stable sec
      sector_is = read_of layer host es sec start d sector b.settled there at.0 at.1 read

      laid_now : List ℕ
      laid_now = laid (to_of l) (64 * group_of l) 64 sector

      place_is : sec ≡ 512 * es / 512
      place_is = sym at.0 ∙ sym (back es)

      linked : Linked layer.work.header layer.target.capacity (to_of l) no_table (file_of start.size start.stable) (file_of start.size (with_sector (512 * es / 512) laid_now start.stable))
      linked = many.linked start.size layer.target.capacity (group_of l) table (to_of l) start.stable (with_sector (512 * es / 512) laid_now start.stable) layer.work.header
          (begins.are layer l host start b) (begins.numbers layer l host start b).header (begins.numbers layer l host start b).sound b.knows.whole b.row l1 b.links (record {
            here = with_here (512 * es / 512) sec laid_now start.stable place_is ∙ ap (laid (to_of l) (64 * group_of l) 64) sector_is;
            others = λ k ne. with_other (512 * es / 512) k laid_now start.stable (λ e. ne (e ∙ sym place_is));
          })

      now : HasLaid layer (at_stage l (Laid (512 * es) laid_now)) (512 * es) laid_now start e
      now = record {
        file = start;
        there = ap (λ (x : Content). x.file layer.target.place) same ∙ there;
        settled = b.settled;
        old = outcomes.itself layer l host start b;
        inside = subst (λ (x : ℕ). x < start.size) place_is at.1;
        long = length_laid (to_of l) (64 * group_of l) 64 sector (ap length sector_is ∙ begins.are layer l host start b sec at.1) (omega arith);
        new = subst (λ (o : Option ℕ). Linked layer.work.header layer.target.capacity (to_of l) (tables_to o (64 * group_of l / (2 ^ layer.work.header.cluster_bits / 8))) (file_of start.size start.stable)
            (file_of start.size (with_sector (512 * es / 512) laid_now start.stable))) (sym none) linked;
      }

  -- ---- the sector of the L1 entry

  module _ (table : ℕ) (has : HasFilled layer l table host start d) where
    fresh : (l1_entry T i ≡ Ok None) × IsNewTable T layer.target.capacity (to_of l) table
    fresh = subst (λ (o : Option ℕ). HasTable T layer.target.capacity (group_of l) (to_of l) o) has.given b.table

    old : IsAsBefore layer (on_medium start) (on_medium has.file)
    old = outcomes.old_medium layer l host start b table fresh.1 has.file has.size has.outside

    are_t : AreSectors start.size has.file.stable
    are_t k lt = go (cases_lt k (table / 512)) (cases_lt k ((table + 2 ^ layer.work.header.cluster_bits) / 512)) (same_or_not k (sector_at T table (group_of l)))
      where
        outside : (k < table / 512) ⊎ ((table + 2 ^ layer.work.header.cluster_bits) / 512 ≤ k) → length (has.file.stable k) ≡ 512
        outside out = ap length (has.outside k out) ∙ begins.are layer l host start b k lt

        zeros : length (replicate 512 nought) ≡ 512
        zeros = length-replicate 512 nought

        go : (k < table / 512) ⊎ (table / 512 ≤ k) → (k < (table + 2 ^ layer.work.header.cluster_bits) / 512) ⊎ ((table + 2 ^ layer.work.header.cluster_bits) / 512 ≤ k)
            → (k ≡ sector_at T table (group_of l)) ⊎ (k ≢ sector_at T table (group_of l)) → length (has.file.stable k) ≡ 512
        go (inl lt) rest other = outside (inl lt)
        go (inr le) (inr high) other = outside (inr high)
        go (inr le) (inl lt) (inl is) = ap (λ (x : ℕ). length (has.file.stable x)) is ∙ ap length has.full.here ∙ length_laid (to_of l) (64 * group_of l) 64 (replicate 512 nought) zeros (omega arith)
        go (inr le) (inl lt) (inr ne) = ap length (has.full.others k le lt ne) ∙ zeros

    module _ (sector : List ℕ) (same : IsSame d e)
        (read : (count : ℕ) (sectors : ℕ → List ℕ) → IsSeen host layer.target.place count sectors d → sector ≡ sector_in count sectors (l1_place layer.work.header (group_of l) / 512)) where
      abbrev at : ℕ
      at = l1_place layer.work.header (group_of l)

      abbrev w : ℕ
      w = l1_at T i / 8

      abbrev named_in : List ℕ
      named_in = put (l1_place layer.work.header (group_of l) % 512 / 8 * 8) (bytes_of 8 (l1_word table)) sector

      abbrev after : ℕ → List ℕ
      after = with_sector (512 * (l1_place layer.work.header (group_of l) / 512) / 512) named_in has.file.stable

      at_is : at ≡ l1_at T i
      at_is = begins.l1_is layer l host start b

      low : at / 512 < start.size
      low = subst (λ (x : ℕ). x / 512 < start.size) (sym at_is) (begins.l1_sector layer l host start b)

      sector_is : sector ≡ has.file.stable (at / 512)
      sector_is = read_of layer host (at / 512) (at / 512) has.file d sector has.settled has.there refl (subst (λ (x : ℕ). at / 512 < x) (sym has.size) low) read

      len : length sector ≡ 512
      len = ap length sector_is ∙ are_t (at / 512) low

      here : w / 64 ≡ 512 * (at / 512) / 512
      here = word_sector (l1_at T i) ∙ ap (λ (x : ℕ). x / 512) (sym at_is) ∙ sym (back (at / 512))

      column : w % 64 ≡ at % 512 / 8
      column = word_column (l1_at T i) (begins.l1_even layer l host start b) ∙ ap (λ (x : ℕ). x % 512 / 8) (sym at_is)

      after_here : after (w / 64) ≡ named_in
      after_here = with_here (512 * (at / 512) / 512) (w / 64) named_in has.file.stable here

      only : OnlyWord w has.file.stable after
      only = record {
        others = λ k ne. with_other (512 * (at / 512) / 512) k named_in has.file.stable (λ is. ne (is ∙ sym here));
        rest = λ m lt ne.
            ap (number 8 (m * 8)) after_here ∙ word_lay (Some table) (at % 512 / 8) m sector len (column_lt at) (λ is. ne (is ∙ sym column))
            ∙ ap (number 8 (m * 8)) (sector_is ∙ ap has.file.stable (sym (here ∙ back (at / 512))));
      }

      word : (file_of start.size after).word w ≡ l1_word table
      word =
          many.word_in start.size w after (subst (λ (x : ℕ). x < start.size) (sym (here ∙ back (at / 512))) low)
          ∙ ap (λ (x : ℕ). number 8 (x * 8) (after (w / 64))) column ∙ ap (number 8 (at % 512 / 8 * 8)) after_here
          ∙ word_laid_now table (at % 512 / 8) sector len (column_lt at)

      long : length named_in ≡ 512
      long = length_lay (Some table) (at % 512 / 8) sector len (column_lt at)

      are_after : AreSectors start.size after
      are_after k lt = go (same_or_not k (512 * (at / 512) / 512))
        where
          go : (k ≡ 512 * (at / 512) / 512) ⊎ (k ≢ 512 * (at / 512) / 512) → length (after k) ≡ 512
          go (inl is) = ap length (with_here (512 * (at / 512) / 512) k named_in has.file.stable is) ∙ long
          go (inr ne) = ap length (with_other (512 * (at / 512) / 512) k named_in has.file.stable ne) ∙ are_t k lt

      linked : Linked layer.work.header layer.target.capacity (to_of l) (one_table i table) (file_of start.size start.stable) (file_of start.size after)
      linked = made.linked start.size layer.target.capacity (group_of l) table (to_of l) start.stable has.file.stable after layer.work.header
          (begins.are layer l host start b) are_t are_after (begins.numbers layer l host start b).header (begins.numbers layer l host start b).sound b.knows.whole b.row
          fresh.0 b.links fresh.1 has.outside has.full only word

      name_now : HasLaid layer (at_stage l (Laid (512 * (at / 512)) named_in)) (512 * (at / 512)) named_in start e
      name_now = record {
        file = has.file;
        there = ap (λ (x : Content). x.file layer.target.place) same ∙ has.there;
        settled = has.settled;
        old = old;
        inside = subst (λ (x : ℕ). x < has.file.size) (sym (back (at / 512))) (subst (λ (x : ℕ). at / 512 < x) (sym has.size) low);
        long = long;
        new = subst (λ (m : ℕ). IsLinked layer (at_stage l (Laid (512 * (at / 512)) named_in)) (on_medium start) (file_of m after)) (sym has.size)
            (subst (λ (o : Option ℕ). Linked layer.work.header layer.target.capacity (to_of l) (tables_to o (64 * group_of l / (2 ^ layer.work.header.cluster_bits / 8))) (file_of start.size start.stable)
            (file_of start.size after)) (sym has.given) linked);
      }

    pub name_step : LaysTable l table layer host n turn d e → LinksOn l layer host start turn e
    name_step (Err refusal, (same, why), is) = refused layer l host n start has.file d e turn refusal has.there why is (left_as has.file same has.there has.settled has.size old)
    name_step (Ok sector, (same, read), is) =
        outcomes.goes_on l layer host start e turn (Laid (512 * (at sector same read / 512)) (named_in sector same read)) b is (name_now sector same read)
        (left_as has.file same has.there has.settled has.size old)
