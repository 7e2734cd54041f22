use Rattle.std.proofs.Common.{rules, refl, ℕ, ◌+◌}
use Rattle.numbers.specs.Finding.{any_in}
use Rattle.classes.specs.Tables.{entry}
use Rattle.positions.specs.Books.{book_number}
use Rattle.presence.specs.Presence.{held_at}
use Rattle.presence.proofs.BookTables.any_held.Goals as goal

pub returns : goal.returns
returns c =
    any_in _ (λ (i : ℕ). held_at (entry c.args.self.now.nets.now) (entry c.args.self.now.dvps.now) (book_number c.args.self.now.book) (c.args.a + i)) c.any.ensures.ran (λ x v q k. search rules) refl
