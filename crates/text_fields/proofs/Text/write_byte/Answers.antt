use Rattle.std.proofs.Common.{refl, arith}
use Rattle.numbers.specs.Put.{put_one}
use Rattle.text_fields.proofs.Text.write_byte.Goals as goal

pub returns : goal.returns
returns c = let t = c.args.self.now in record { same = refl; end = refl; bytes = put_one t.out.now t.len c.args.b (omega arith) }
