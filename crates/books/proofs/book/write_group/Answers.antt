use Rattle.holdings.specs.Seen.{day_of, net_of, dvp_of}
use Rattle.holdings.specs.Facts.{day_accepted, budget, book_below}
use Rattle.positions.specs.Books.{book_number}
use Rattle.std.proofs.Common.{◌≡◌, ◌+◌, ◌*◌, length, ℕ, Bool, true, List, [], ◌∷◌, ◌+ℤ◌, ◌<◌, ◌^◌, nat_abs, arith, ◌∙◌, sym, ap, cond, refl}
use Rattle.numbers.specs.Put.{put, put-none}
use Rattle.numbers.specs.Sums.{sum_where, sum_where_no, sum_where_yes}
use Rattle.model.specs.Steps.Lines.{has_line}
use Rattle.model.specs.Steps.Margin.{margin, line_amounts}
use Rattle.classes.specs.Tables.{entry}
use Rattle.books.specs.Book.{one_line, bit-set, bit_clear, fifth, line_small, six_back}
use Rattle.books.proofs.book.write_group.Goals as goal
use Rattle.books.proofs.book.write_group.Goals.{After-group_line-line}
use Rattle.numbers.specs.Machine.{i64_of}
use Rattle.line_words.specs.Amounts.{Small}
use Rattle.model.proofs.Bounds.{margin_small, total_so_far}
use Rattle.model.proofs.Read.{line-length}
use Rattle.model.specs.Report.{line_words, words_of_amounts}
use Rattle.model.specs.Words.{word}
use Rattle.numbers.specs.Abs.{back, fits_by}

pub returns-then-map-g-ne1 : goal.returns-then-map-g-ne1
returns-then-map-g-ne1 c =
    let d = (day_of c.args.of.now.after.now) in
    let n = entry c.args.of.now.nets.now in
    let u = net_of c.args.of.now.after.now in
    let v = dvp_of c.args.of.now.after.now in
    let k = (book_number c.args.book) in
    let g = c.args.g in
    let t = has_line d n v k in
    let z = bit_clear (d) (n) (v) (k) (g) c.args.map c.requires.g_bound c.requires.map_value c.if-map-g-ne1.true in
    rw z record { at_value = omega arith; total_value_2 = c.requires.total_value ∙ sym (sum_where_no (g) (t) (margin (d) (u) (v) (k)) z); memory_after = sym (put-none c.args.p.at c.args.memory.now) }

-- the group has a line
held : (c : After-group_line-line) → has_line (day_of c.args.of.now.after.now) (entry c.args.of.now.nets.now) (dvp_of c.args.of.now.after.now) (book_number c.args.book) c.args.g ≡ true
held c = bit-set (day_of c.args.of.now.after.now) (entry c.args.of.now.nets.now) (dvp_of c.args.of.now.after.now) (book_number c.args.book) c.args.g c.args.map c.requires.g_bound c.requires.map_value c.if-map-g-ne1.false

one : (c : After-group_line-line) → one_line (day_of c.args.of.now.after.now) (entry c.args.of.now.nets.now) (net_of c.args.of.now.after.now) (dvp_of c.args.of.now.after.now) (book_number c.args.book) c.args.g ≡ line_words (day_of c.args.of.now.after.now) (net_of c.args.of.now.after.now) (dvp_of c.args.of.now.after.now) (book_number c.args.book) c.args.g
one c = ap (λ (b : Bool). cond b (line_words (day_of c.args.of.now.after.now) (net_of c.args.of.now.after.now) (dvp_of c.args.of.now.after.now) (book_number c.args.book) c.args.g) []) (held c)

-- its amounts, small, are the line's
small : (c : After-group_line-line) → Small (line_amounts (day_of c.args.of.now.after.now) (net_of c.args.of.now.after.now) (dvp_of c.args.of.now.after.now) (book_number c.args.book) c.args.g)
small c = line_small (day_of c.args.of.now.after.now) (net_of c.args.of.now.after.now) (dvp_of c.args.of.now.after.now) (book_number c.args.book) c.args.g (day_accepted c.args.of.now.after.now).rows (budget c.args.of.now.after.now) (book_below c.args.book) c.requires.g_bound

six : (c : After-group_line-line) → (i64_of c.group_line-line.result.spread ∷ i64_of c.group_line-line.result.mtm ∷ i64_of c.group_line-line.result.premium ∷ i64_of c.group_line-line.result.requirement ∷ i64_of c.group_line-line.result.margin ∷ i64_of c.group_line-line.result.residual ∷ []) ≡ line_amounts (day_of c.args.of.now.after.now) (net_of c.args.of.now.after.now) (dvp_of c.args.of.now.after.now) (book_number c.args.book) c.args.g
six c = six_back _ _ _ _ _ _ (line_amounts (day_of c.args.of.now.after.now) (net_of c.args.of.now.after.now) (dvp_of c.args.of.now.after.now) (book_number c.args.book) c.args.g) c.group_line-line.ensures (small c)

-- the margins so far with its own, and that they fit
sum : (c : After-group_line-line) → i64_of c.args.p.total +ℤ i64_of c.group_line-line.result.margin ≡ sum_where (c.args.g + 1) (has_line (day_of c.args.of.now.after.now) (entry c.args.of.now.nets.now) (dvp_of c.args.of.now.after.now) (book_number c.args.book)) (margin (day_of c.args.of.now.after.now) (net_of c.args.of.now.after.now) (dvp_of c.args.of.now.after.now) (book_number c.args.book))
sum c =
    let rows = (day_accepted c.args.of.now.after.now).rows in
    let w = budget c.args.of.now.after.now in
    let b = book_below c.args.book in
    let own = fifth (day_of c.args.of.now.after.now) (net_of c.args.of.now.after.now) (dvp_of c.args.of.now.after.now) (book_number c.args.book) c.args.g _ _ _ _ _ _ c.group_line-line.ensures in
    (λ i. back c.requires.total_value (total_so_far (day_of c.args.of.now.after.now) (net_of c.args.of.now.after.now) (dvp_of c.args.of.now.after.now) rows w (entry c.args.of.now.nets.now) (book_number c.args.book) c.args.g b (omega (arith, c.requires.g_bound))) i
    +ℤ back own (margin_small (day_of c.args.of.now.after.now) (net_of c.args.of.now.after.now) (dvp_of c.args.of.now.after.now) rows w (book_number c.args.book) c.args.g b c.requires.g_bound) i)
    ∙ sym (sum_where_yes c.args.g (has_line (day_of c.args.of.now.after.now) (entry c.args.of.now.nets.now) (dvp_of c.args.of.now.after.now) (book_number c.args.book)) (margin (day_of c.args.of.now.after.now) (net_of c.args.of.now.after.now) (dvp_of c.args.of.now.after.now) (book_number c.args.book)) (held c))

fits : (c : After-group_line-line) → nat_abs (sum_where (c.args.g + 1) (has_line (day_of c.args.of.now.after.now) (entry c.args.of.now.nets.now) (dvp_of c.args.of.now.after.now) (book_number c.args.book)) (margin (day_of c.args.of.now.after.now) (net_of c.args.of.now.after.now) (dvp_of c.args.of.now.after.now) (book_number c.args.book))) < 2 ^ 63
fits c = total_so_far (day_of c.args.of.now.after.now) (net_of c.args.of.now.after.now) (dvp_of c.args.of.now.after.now) (day_accepted c.args.of.now.after.now).rows (budget c.args.of.now.after.now) (entry c.args.of.now.nets.now) (book_number c.args.book) (c.args.g + 1) (book_below c.args.book) (omega (arith, c.requires.g_bound))

pub overflow_add-result-2 : goal.overflow_add-result-2
overflow_add-result-2 c = let l = (goal.at.overflow_add-result-2 c).After-group_line-line in fits_by (sum l) (fits l)

pub write_headed_at-requires : goal.write_headed_at-requires
write_headed_at-requires c =
    let l = (goal.at.write_headed_at-requires c).After-group_line-line in
    record {
      payload_bound = omega (arith, book_below c.args.book, c.number.ensures, c.requires.g_bound);
      amounts_in_bounds = (omega (arith, ap length (one l), line-length (day_of c.args.of.now.after.now) (net_of c.args.of.now.after.now) (dvp_of c.args.of.now.after.now) (book_number c.args.book) c.args.g, c.requires.at_bound.1), rw (six l) (small l));
    }

pub returns : goal.returns
unfolding line_words
returns c =
    let l = (goal.at.returns c).After-group_line-line in
    let line_is : word 2 (c.args.g + 32 * (book_number c.args.book)) ∷ words_of_amounts (line_amounts (day_of c.args.of.now.after.now) (net_of c.args.of.now.after.now) (dvp_of c.args.of.now.after.now) (book_number c.args.book) c.args.g) ≡ line_words (day_of c.args.of.now.after.now) (net_of c.args.of.now.after.now) (dvp_of c.args.of.now.after.now) (book_number c.args.book) c.args.g = refl in
    rw (one l) record {
      at_value = omega (arith, line-length (day_of c.args.of.now.after.now) (net_of c.args.of.now.after.now) (dvp_of c.args.of.now.after.now) (book_number c.args.book) c.args.g);
      total_value_2 = back (sum l) (fits l);
      memory_after = c.write_headed_at.ensures ∙ (λ i. put c.args.p.at (word 2 (c.args.g + 32 * c.number.ensures i) ∷ words_of_amounts (six l i)) c.args.memory.now) ∙ ap (λ (w : List ℕ). put c.args.p.at w c.args.memory.now) line_is;
    }
