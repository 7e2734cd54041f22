use Rattle.std.proofs.Common.{◌≡◌}
use Rattle.classes.specs.Tables.{entry}
use Rattle.positions.specs.Books.{book_number}
use Rattle.presence.specs.Presence.{groups_to}
use Rattle.presence.proofs.groups_held.Given as goal

abbrev pub invariant-loop-c : goal.invariant-loop-c
invariant-loop-c l = l.present ≡ groups_to l.day.words.now (entry l.fn.of.nets.now) (entry l.fn.of.dvps.now) (book_number l.fn.of.book) l.c
