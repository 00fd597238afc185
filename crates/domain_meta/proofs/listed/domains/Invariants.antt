use Rattle.std.proofs.Common.{◌≡◌, ◌++◌, length, option_map, All}
use Rattle.std.specs.List.{slice_split}
use Rattle.sd_names.specs.Id.{IsIdBytes}
use Rattle.domain_meta.specs.Values.{is_comma, domains_of_words}
use Rattle.domain_meta.proofs.listed.domains.Given as goal

abbrev pub invariant-loop : goal.invariant-loop
invariant-loop l =
    record {
      count : length l.ids ≡ l.counter;
      ids : All (λ id. IsIdBytes id.0) l.ids;
      words : domains_of_words (slice_split is_comma l.value) ≡ option_map (λ more. l.ids ++ more) (domains_of_words (slice_split is_comma l.rest));
    }
