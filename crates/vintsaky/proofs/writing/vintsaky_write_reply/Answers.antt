use Rattle.std.proofs.Common.{rules}
use Rattle.std.proofs.lemmas.Int.{to_z-of_z}
use Rattle.vintsaky.proofs.writing.vintsaky_write_reply.Goals as goal

pub returns : goal.returns
returns c = record {
  call = record {
    made = c.write_reply.result;
    number_is = c.code_of.ensures;
    call = record {
      written = search rules;
      kept = c.write_reply.ensures.kept;
      why = (let fits = c.ranges.id in simp to_z-of_z at c.write_reply.ensures.why);
    };
  };
}
