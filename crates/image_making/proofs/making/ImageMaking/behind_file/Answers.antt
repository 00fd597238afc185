use Rattle.std.proofs.Common.{sym, ap, ◌∙◌}
use Rattle.sd_names.specs.declared.place.Dir.{Dir}
use Rattle.sd_names.specs.declared.place.Name.TheVariants as name
use Rattle.shared_disk.specs.NameCalls.{place_in}
use Rattle.image_making.proofs.making.ImageMaking.behind_file.Goals as goal

pub returns-clause-file : goal.returns-clause-file
returns-clause-file c = (
  c.at.ensures.same,
  (
    c.begin-replace.result,
    c.at.ensures.now_in,
    record {
      target = c.begin-replace.ensures.target ∙ ap (λ (q : Dir). place_in q (name.Meta c.args.self.image.volume)) c.folder.ensures;
      volatile = c.begin-replace.ensures.volatile ∙ ap (λ (q : Dir). place_in q (name.MetaVolatile c.args.self.image.volume)) c.folder.ensures;
      length = sym (c.begin-replace.ensures.length ∙ c.write_into-length.ensures.len);
      stage = c.begin-replace.ensures.stage;
    },
  ),
)
