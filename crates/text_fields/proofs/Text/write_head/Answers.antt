use Rattle.std.proofs.Common.{refl, arith}
use Rattle.numbers.specs.Put.{put_copied}
use Rattle.text_fields.proofs.Text.write_head.Goals as goal

pub returns : goal.returns
returns c =
    let t = c.args.self.now in
    record { same = refl; end = refl; bytes = put_copied t.len _ c.args.head.now t.out.now _ c.copy_from_slice.ensures.after (omega arith) }
