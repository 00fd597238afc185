use Rattle.std.proofs.Common.{◌≡◌, ◌≤◌, ◌*◌, length, take}
use Rattle.domain_meta.specs.Text.{domains_text}
use Rattle.domain_meta.proofs.writing.domains_text.Given as goal

abbrev pub invariant-loop-id : goal.invariant-loop-id
invariant-loop-id l =
    record {
      written : l.text.items ≡ domains_text (take l.id-index l.ids);
      short : length l.text.items ≤ 44 * l.id-index;
    }
