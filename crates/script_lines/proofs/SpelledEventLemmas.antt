-- The line that spells an event, and what it reads as.
use Rattle.std.proofs.Common.{◌≡◌, ℕ, ◌<◌, ◌≤◌, ◌^◌, ◌==◌, ◌&&◌, Bool, true, false, List, [], ◌∷◌, length, refl, ◌∙◌, ap, arith, Some, Ok, ltb, leb, slice_index, length-append}
use Rattle.std.specs.Prelude.{decimal, codes}
use Rattle.std.specs.List.{list_all, join_with_byte}
use Rattle.std.proofs.lemmas.Bool.{and_parts, ltb-true, leb-true, le-ltb, ne_eqb}
use Rattle.std.proofs.lemmas.Bool.Decides.{nat_tests}
use Rattle.script_lines.specs.Words.{words}
use Rattle.script_lines.specs.Argument.{number, number_value}
use Rattle.script_lines.specs.VerbWord.{pool_verb, volume_verb, guest_verb, merge_verb, verb_of}
use Rattle.script_lines.specs.Verbs.{verb_text, kinds_of}
use Rattle.script_lines.specs.Said.{Event, silent, refused, boot, down, step, end, begin, whole, Call, calling, stepped, told, told_by, words_said, is_printable, spoken}
use Rattle.script_lines.specs.Event.{called, settled, event_of}
use Rattle.script_lines.specs.Spelled.{values_words, call_words, event_text, is_graphic, IsCall, IsHost, IsEvent}
use Rattle.script_lines.specs.declared.verb_names.VerbWord.{VerbWord}
use Rattle.script_lines.specs.declared.verb_names.VerbWord.TheVariants.{MakePool, SpmStart, SpmStop, AddDomain, Create, Snapshot, DeleteVolume, DeleteImage, Copy, Extend, Describe, Open, Close, Read, Write, PrepareMerge, Merge, FinalizeMerge, LiveStart, LiveFill, LiveSync, LivePivot, BoxPost, BoxServe, BoxCollect, Tasks, ClearTask, Recover}
use Rattle.script_lines.proofs.IdentifierLemmas.{passes_at}
use Rattle.script_lines.proofs.JoinedLemmas.{Each, Each-more, Lacks, lacks, passes_more, words_joined, joined_passes, size, length-joined}
use Rattle.script_lines.proofs.PrintedAgainLemmas.{is_figure, decimal_figures}
use Rattle.script_lines.proofs.SpelledLemmas.{IsWord, number_word, number_short, number_reads, fits, total, values_read, values_are_words}

-- a line that has events
line_spoken : (line : List ℕ) → 0 < length line → (slice_index line 0 == 35) ≡ false → length line ≤ 200000 → list_all is_printable line ≡ true
    → spoken line ≡ words_said (words line)
unfolding spoken
line_spoken line some first short printable =
    let not_empty : (length line == 0) ≡ false = ne_eqb (length line) 0 (λ e. omega arith) in
    let not_long : ltb 200000 (length line) ≡ false = le-ltb 200000 (length line) short in
    rw (not_empty, first, not_long, printable) refl

-- the first byte of a line is its first word's
joined_first : (w : List ℕ) (ws : List (List ℕ)) → 0 < length w → slice_index (join_with_byte 32 (w ∷ ws)) 0 ≡ slice_index w 0
joined_first [] ws some = absurd (omega arith)
joined_first (b ∷ bs) [] some = refl
joined_first (b ∷ bs) (v ∷ vs) some = refl

joined_some : (w : List ℕ) (ws : List (List ℕ)) → 0 < length w → 0 < length (join_with_byte 32 (w ∷ ws))
joined_some w [] some = some
joined_some w (v ∷ vs) some = omega (arith, length-append w (32 ∷ join_with_byte 32 (v ∷ vs)))

graphic_no_space : (b : ℕ) → is_graphic b ≡ true → (b == 32) ≡ false
graphic_no_space b e = grind (arith, nat_tests)

graphic_printable : (b : ℕ) → is_graphic b ≡ true → is_printable b ≡ true
graphic_printable b e = grind (arith, nat_tests)

-- words, with one space between each two
words_spoken : (w : List ℕ) (ws : List (List ℕ)) → Each IsWord (w ∷ ws) → (slice_index w 0 == 35) ≡ false → size (w ∷ ws) ≤ 200000
    → spoken (join_with_byte 32 (w ∷ ws)) ≡ words_said (w ∷ ws)
words_spoken w ws are first short =
    let lack = Each-more IsWord (Lacks 32) (λ v is. lacks 32 is_graphic graphic_no_space v is.1) (w ∷ ws) are in
    let some = Each-more IsWord (λ v. 0 < length v) (λ v is. is.0) (w ∷ ws) are in
    let print = Each-more IsWord (λ v. list_all is_printable v ≡ true) (λ v is. passes_more is_graphic is_printable graphic_printable v is.1) (w ∷ ws) are in
    line_spoken (join_with_byte 32 (w ∷ ws)) (joined_some w ws are.0.0) (ap (λ b. b == 35) (joined_first w ws are.0.0) ∙ first)
    (omega (arith, length-joined 32 (w ∷ ws))) (joined_passes is_printable 32 refl (w ∷ ws) print)
    ∙ ap words_said (words_joined w ws lack some)

-- a host and what it is told
figure_no_remark : (b : ℕ) → is_figure b ≡ true → (b == 35) ≡ false
figure_no_remark b e = grind (arith, nat_tests)

host_told : (host : ℕ) (word : List ℕ) (args : List (List ℕ)) → IsHost host → Each IsWord (word ∷ args) → size (word ∷ args) ≤ 199000
    → spoken (join_with_byte 32 (decimal host ∷ word ∷ args)) ≡ told host word args
unfolding words_said
host_told host word args is are short =
    let small : host < 2 ^ 64 = omega (arith, is.1) in
    let digit = passes_at is_figure (decimal host) 0 ((number_word host small).0) (decimal_figures host small) in
    words_spoken (decimal host) (word ∷ args) (number_word host small, are) (figure_no_remark (slice_index (decimal host) 0) digit)
    (omega (arith, number_short host small))
    ∙ ap (λ o. told_by o word args) (number_reads 1 250 host is.0 is.1 small)

-- what is known of each verb: its arguments' numbers fit, their words are no longer than a line may be, and its word
-- is one
abbrev is_plain : VerbWord → Bool
is_plain v =
    list_all fits (kinds_of v) && leb (total (kinds_of v)) 132000 && (ltb 0 (length (verb_text v))
    && list_all is_graphic (verb_text v) && leb (length (verb_text v)) 20)

verb_plain : (v : VerbWord) → is_plain v ≡ true
verb_plain MakePool = refl
verb_plain SpmStart = refl
verb_plain SpmStop = refl
verb_plain AddDomain = refl
verb_plain Create = refl
verb_plain Snapshot = refl
verb_plain DeleteVolume = refl
verb_plain DeleteImage = refl
verb_plain Copy = refl
verb_plain Extend = refl
verb_plain Describe = refl
verb_plain Open = refl
verb_plain Close = refl
verb_plain Read = refl
verb_plain Write = refl
verb_plain PrepareMerge = refl
verb_plain Merge = refl
verb_plain FinalizeMerge = refl
verb_plain LiveStart = refl
verb_plain LiveFill = refl
verb_plain LiveSync = refl
verb_plain LivePivot = refl
verb_plain BoxPost = refl
verb_plain BoxServe = refl
verb_plain BoxCollect = refl
verb_plain Tasks = refl
verb_plain ClearTask = refl
verb_plain Recover = refl

record Plain (v : VerbWord) : Type 0 where
  fit : list_all fits (kinds_of v) ≡ true
  short : total (kinds_of v) ≤ 132000
  word : IsWord (verb_text v)
  word_short : length (verb_text v) ≤ 20

plain : (v : VerbWord) → Plain v
plain v =
    let a = list_all fits (kinds_of v) in
    let b = leb (total (kinds_of v)) 132000 in
    let c = ltb 0 (length (verb_text v)) in
    let d = list_all is_graphic (verb_text v) in
    let e = leb (length (verb_text v)) 20 in
    let outer = and_parts (a && b) (c && d && e) (verb_plain v) in
    let front = and_parts a b outer.0 in
    let back = and_parts (c && d) e outer.1 in
    let word = and_parts c d back.0 in
    record {
      fit = front.0;
      short = leb-true _ _ front.1;
      word = (ltb-true _ _ word.0, word.1);
      word_short = leb-true _ _ back.1;
    }

-- the text of a verb is that verb's, and no other word's
verb_told : (v : VerbWord) (host : ℕ) (args : List (List ℕ)) → told host (verb_text v) args ≡ calling true host (Some v) args
unfolding told pool_verb volume_verb guest_verb merge_verb
verb_told MakePool host args = refl
verb_told SpmStart host args = refl
verb_told SpmStop host args = refl
verb_told AddDomain host args = refl
verb_told Create host args = refl
verb_told Snapshot host args = refl
verb_told DeleteVolume host args = refl
verb_told DeleteImage host args = refl
verb_told Copy host args = refl
verb_told Extend host args = refl
verb_told Describe host args = refl
verb_told Open host args = refl
verb_told Close host args = refl
verb_told Read host args = refl
verb_told Write host args = refl
verb_told PrepareMerge host args = refl
verb_told Merge host args = refl
verb_told FinalizeMerge host args = refl
verb_told LiveStart host args = refl
verb_told LiveFill host args = refl
verb_told LiveSync host args = refl
verb_told LivePivot host args = refl
verb_told BoxPost host args = refl
verb_told BoxServe host args = refl
verb_told BoxCollect host args = refl
verb_told Tasks host args = refl
verb_told ClearTask host args = refl
verb_told Recover host args = refl

verb_begun : (v : VerbWord) → verb_of (verb_text v) ≡ Some v
unfolding pool_verb volume_verb guest_verb merge_verb
verb_begun MakePool = refl
verb_begun SpmStart = refl
verb_begun SpmStop = refl
verb_begun AddDomain = refl
verb_begun Create = refl
verb_begun Snapshot = refl
verb_begun DeleteVolume = refl
verb_begun DeleteImage = refl
verb_begun Copy = refl
verb_begun Extend = refl
verb_begun Describe = refl
verb_begun Open = refl
verb_begun Close = refl
verb_begun Read = refl
verb_begun Write = refl
verb_begun PrepareMerge = refl
verb_begun Merge = refl
verb_begun FinalizeMerge = refl
verb_begun LiveStart = refl
verb_begun LiveFill = refl
verb_begun LiveSync = refl
verb_begun LivePivot = refl
verb_begun BoxPost = refl
verb_begun BoxServe = refl
verb_begun BoxCollect = refl
verb_begun Tasks = refl
verb_begun ClearTask = refl
verb_begun Recover = refl

-- the words of a verb and its arguments
call_is_words : (is_built : VerbWord → Bool) (c : Call) → IsCall is_built c → Each IsWord (call_words c) × (size (call_words c) ≤ 132021)
call_is_words is_built c is =
    let known = plain c.verb in
    let args = values_are_words (kinds_of c.verb) c.values known.fit is.values in
    ((known.word, args.0), omega (arith, known.short, known.word_short, args.1))

call_reads : (is_whole : Bool) (host : ℕ) (is_built : VerbWord → Bool) (c : Call) → IsCall is_built c
    → settled is_built (calling is_whole host (Some c.verb) (values_words (kinds_of c.verb) c.values)) ≡ called is_whole host c.verb (Ok c.values)
call_reads is_whole host is_built c is =
    rw (values_read (kinds_of c.verb) c.values 1 (plain c.verb).fit is.values, is.built) refl

pub event_reads : (is_built : VerbWord → Bool) (e : Event) → IsEvent is_built e → event_of is_built (event_text e) ≡ e
unfolding event_text told spoken
event_reads is_built silent is = refl
event_reads is_built (refused refusal) is = absurd is
event_reads is_built (boot host) is =
    ap (settled is_built) (host_told host (codes "boot") [] is ((omega arith, refl), tt) (omega arith))
event_reads is_built (down host) is =
    ap (settled is_built) (host_told host (codes "down") [] is ((omega arith, refl), tt) (omega arith))
event_reads is_built (end host) is =
    ap (settled is_built) (host_told host (codes "end") [] is ((omega arith, refl), tt) (omega arith))
event_reads is_built (step host count) is =
    let small : count < 2 ^ 64 = omega (arith, is.2) in
    ap (settled is_built) (host_told host (codes "step") (decimal count ∷ []) is.0 ((omega arith, refl), (number_word count small, tt)) (omega (arith, number_short count small)))
    ∙ ap (λ r. stepped host r) (values_read (number 1 1000000 ∷ []) (number_value count ∷ []) 1 refl ((is.1, is.2), tt))
event_reads is_built (begin host c) is =
    let known = call_is_words is_built c is.1 in
    ap (settled is_built) (host_told host (codes "begin") (call_words c) is.0 ((omega arith, refl), known.0) (omega (arith, known.1)))
    ∙ ap (λ v. settled is_built (calling false host v (values_words (kinds_of c.verb) c.values))) (verb_begun c.verb)
    ∙ call_reads false host is_built c is.1
event_reads is_built (whole host c) is =
    let known = call_is_words is_built c is.1 in
    ap (settled is_built) (host_told host (verb_text c.verb) (values_words (kinds_of c.verb) c.values) is.0 known.0 (omega (arith, known.1))
    ∙ verb_told c.verb host (values_words (kinds_of c.verb) c.values))
    ∙ call_reads true host is_built c is.1
