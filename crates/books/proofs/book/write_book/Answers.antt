use Rattle.holdings.specs.Seen.{day_of, net_of, dvp_of}
use Rattle.holdings.specs.Facts.{day_accepted, budget, book_below}
use Rattle.positions.specs.Books.{book_number}
use Rattle.std.proofs.lemmas.Nat.{ones-le}
use Rattle.std.proofs.Common.{◌≡◌, ◌≤◌, ◌<◌, length, ℕ, arith, ap, length-append, sym, ◌∙◌}
use Rattle.std.specs.Int.Count.{ones}
use Rattle.numbers.specs.Put.{put, put-length, put-none, put-put}
use Rattle.numbers.specs.Sums.{sum_where, sum_where-zero}
use Rattle.model.specs.Report.{book_lines, line_words}
use Rattle.model.specs.Steps.Lines.{has_line, total}
use Rattle.model.specs.Steps.Margin.{margin}
use Rattle.classes.specs.Tables.{entry}
use Rattle.books.specs.Book.{one_line, below_all, below_more, below_room, lines_below}
use Rattle.model.specs.Limits.{group_count}
use Rattle.books.proofs.book.write_book.Goals as goal
use Rattle.model.proofs.Bounds.{total_small}
use Rattle.model.proofs.Read.{map_small}
use Rattle.numbers.specs.Abs.{back}
use Rattle.numbers.specs.Maps.{blocks-none}

pub loop-g-init : goal.loop-g-init
loop-g-init c =
    let t = has_line (day_of c.args.of.now.after.now) (entry c.args.of.now.nets.now) (dvp_of c.args.of.now.after.now) (book_number c.args.book) in
    rw (blocks-none t (line_words (day_of c.args.of.now.after.now) (net_of c.args.of.now.after.now) (dvp_of c.args.of.now.after.now) (book_number c.args.book)))
    (record { at = omega arith; total = sym (sum_where-zero t (margin (day_of c.args.of.now.after.now) (net_of c.args.of.now.after.now) (dvp_of c.args.of.now.after.now) (book_number c.args.book))); memory = sym (put-none c.args.at c.args.memory.now) })

pub write_group-p-requires : goal.write_group-p-requires
write_group-p-requires c =
    let d = (day_of c.args.of.now.after.now) in
    let n = entry c.args.of.now.nets.now in
    let u = net_of c.args.of.now.after.now in
    let v = dvp_of c.args.of.now.after.now in
    let k = (book_number c.args.book) in
    let few : ones c.args.map ≤ group_count = ones-le group_count c.args.map (omega (arith, c.requires.map_value, map_small d n v k)) in
    let m = c.args.memory.now in
    let long : length c.loop-g.memory ≡ length m = ap length c.loop-g.invariant.memory ∙ put-length c.args.at (lines_below d n u v k c.loop-g.g) m (omega (arith, below_all d n u v k c.loop-g.g c.args.map (omega arith) c.requires.map_value, c.requires.at_bound.1)) in
    let h : c.loop-g.g < group_count = omega (arith, c.loop-g-test.true) in record { g_bound = h; map_value = c.requires.map_value; at_bound = (omega (arith, c.loop-g.invariant.at, few, below_all (d) (n) (u) (v) (k) c.loop-g.g c.args.map (omega arith) c.requires.map_value, c.requires.at_bound.0), omega (arith, c.loop-g.invariant.at, long, below_room (d) (n) (u) (v) (k) c.loop-g.g c.args.map (omega arith) c.requires.map_value, c.requires.at_bound.1)); total_value = c.loop-g.invariant.total }

pub loop-g-preserved : goal.loop-g-preserved
loop-g-preserved c =
    let d = (day_of c.args.of.now.after.now) in
    let n = entry c.args.of.now.nets.now in
    let u = net_of c.args.of.now.after.now in
    let v = dvp_of c.args.of.now.after.now in
    let k = (book_number c.args.book) in
    let m = c.args.memory.now in
    let g = c.loop-g.g in
    let h : g < group_count = omega (arith, c.loop-g-test.true) in
    let b = lines_below (d) (n) (u) (v) (k) g in
    let o = one_line (d) (n) (u) (v) (k) g in
    rw (below_more (d) (n) (u) (v) (k) g) record {
      at = omega (arith, c.write_group-p.ensures.at_value, c.loop-g.invariant.at, length-append b o);
      total = c.write_group-p.ensures.total_value_2;
      memory = c.write_group-p.ensures.memory_after ∙ ap (put c.loop-g.p.at o) c.loop-g.invariant.memory
          ∙ put-put c.args.at b o (m) c.loop-g.p.at c.loop-g.invariant.at
          (omega (arith, c.loop-g.invariant.at, below_room (d) (n) (u) (v) (k) g c.args.map (omega arith) c.requires.map_value, c.requires.at_bound.1));
    }

pub returns : goal.returns
unfolding total book_lines
returns c =
    let d = (day_of c.args.of.now.after.now) in
    let n = entry c.args.of.now.nets.now in
    let u = net_of c.args.of.now.after.now in
    let v = dvp_of c.args.of.now.after.now in
    let k = (book_number c.args.book) in
    let m = c.args.memory.now in
    let e : c.loop-g.g ≡ group_count = omega arith in
    let q = c.loop-g.invariant.total ∙ ap (λ (j : ℕ). sum_where j (has_line (d) (n) (v) (k)) (margin (d) (u) (v) (k))) e in record { value = back q (total_small (d) (u) (v) (day_accepted c.args.of.now.after.now).rows (budget c.args.of.now.after.now) (n) (k) (book_below c.args.book)); memory_after = c.loop-g.invariant.memory ∙ ap (λ (j : ℕ). put c.args.at (lines_below (d) (n) (u) (v) (k) j) (m)) e }
