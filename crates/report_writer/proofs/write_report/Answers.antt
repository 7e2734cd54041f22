use Rattle.holdings.specs.Seen.{day_of, net_of, dvp_of}
use Rattle.holdings.specs.Facts.{day_accepted, budget}
use Rattle.line_words.specs.Amounts.{Small, words_length}
use Rattle.report_writer.specs.Whole.{totals_small, ends, lines_length, report_parts, three-totals, three}
use Rattle.std.proofs.lemmas.Nat.{ones-le}
use Rattle.std.proofs.Common.{nat_abs, ◌≡◌, ◌+◌, ◌*◌, ◌≤◌, ◌<◌, length, ℕ, List, [], ◌∷◌, ◌++◌, ◌+ℤ◌, ◌^◌, arith, ◌∙◌, ap, length-append, subst, sym}
use Rattle.std.specs.Int.Count.{ones}
use Rattle.numbers.specs.Put.{put, put-put}
use Rattle.model.specs.Report.{words_for, book_lines, totals, words_a_line, words_of_amounts}
use Rattle.classes.specs.Tables.{entry}
use Rattle.report_writer.proofs.write_report.Goals as goal
use Rattle.report_writer.proofs.write_report.Goals.{After-write_book-fail_total}
use Rattle.numbers.specs.Machine.{i64_of}
use Rattle.model.proofs.Bounds.{account_small, total_small}
use Rattle.model.specs.Limits.{group_count, most_lines}
use Rattle.model.specs.Steps.Lines.{total}
use Rattle.model.specs.Words.{word}
use Rattle.numbers.specs.Abs.{back, fits_by}

pub write_maps-requires : goal.write_maps-requires
write_maps-requires c =
    let maps = c.args.maps in
    let count_small : c.args.count ≤ most_lines = omega (arith, c.requires.count_value.0, ones-le group_count maps.ordinary maps.small.0, ones-le group_count maps.fail maps.small.1) in
    (omega (arith, c.requires.count_value.1), omega (arith, count_small))

-- the totals that the code took, and that their sum fits
ordinary_is : (c : After-write_book-fail_total) → i64_of c.write_book-ordinary_total.result ≡ total (day_of c.args.of.now.after.now) (entry c.args.of.now.nets.now) (net_of c.args.of.now.after.now) (dvp_of c.args.of.now.after.now) 0
ordinary_is c =
    let h = c.args.of.now.after.now in
    back c.write_book-ordinary_total.ensures.value (total_small (day_of h) (net_of h) (dvp_of h) (day_accepted h).rows (budget h) (entry c.args.of.now.nets.now) 0 (omega arith))

fail_is : (c : After-write_book-fail_total) → i64_of c.write_book-fail_total.result ≡ total (day_of c.args.of.now.after.now) (entry c.args.of.now.nets.now) (net_of c.args.of.now.after.now) (dvp_of c.args.of.now.after.now) 1
fail_is c =
    let h = c.args.of.now.after.now in
    back c.write_book-fail_total.ensures.value (total_small (day_of h) (net_of h) (dvp_of h) (day_accepted h).rows (budget h) (entry c.args.of.now.nets.now) 1 (omega arith))

both_small : (c : After-write_book-fail_total) → nat_abs (total (day_of c.args.of.now.after.now) (entry c.args.of.now.nets.now) (net_of c.args.of.now.after.now) (dvp_of c.args.of.now.after.now) 0 +ℤ total (day_of c.args.of.now.after.now) (entry c.args.of.now.nets.now) (net_of c.args.of.now.after.now) (dvp_of c.args.of.now.after.now) 1) < 2 ^ 63
both_small c =
    let h = c.args.of.now.after.now in
    account_small (day_of h) (net_of h) (dvp_of h) (day_accepted h).rows (budget h) (entry c.args.of.now.nets.now)

totals_are : (c : After-write_book-fail_total) → (i64_of c.write_book-ordinary_total.result ∷ i64_of c.write_book-fail_total.result ∷ i64_of (i64_of c.write_book-ordinary_total.result +ℤ i64_of c.write_book-fail_total.result) ∷ []) ≡ totals (day_of c.args.of.now.after.now) (entry c.args.of.now.nets.now) (net_of c.args.of.now.after.now) (dvp_of c.args.of.now.after.now)
unfolding totals
totals_are c =
    let e = back (λ i. ordinary_is c i +ℤ fail_is c i) (both_small c) in
    λ i. ordinary_is c i ∷ fail_is c i ∷ e i ∷ []

pub overflow_add-totals : goal.overflow_add-totals
overflow_add-totals c =
    let w = (goal.at.overflow_add-totals c).After-write_book-fail_total in
    fits_by (λ i. ordinary_is w i +ℤ fail_is w i) (both_small w)

pub returns : goal.returns
returns c =
    let d = day_of c.args.of.now.after.now in
    let n = entry c.args.of.now.nets.now in
    let u = net_of c.args.of.now.after.now in
    let v = dvp_of c.args.of.now.after.now in
    let m = c.args.memory.now in
    let first = three c.args.count c.args.maps.ordinary c.args.maps.fail in
    let lines = (first ++ book_lines d n u v 0) ++ book_lines d n u v 1 in
    let ordinary_lines : length (book_lines d n u v 0) ≡ words_a_line * ones c.args.maps.ordinary = lines_length d n u v 0 c.args.maps.ordinary c.requires.ordinary_value in
    let fail_lines : length (book_lines d n u v 1) ≡ words_a_line * ones c.args.maps.fail = lines_length d n u v 1 c.args.maps.fail c.requires.fail_value in
    let room : words_for (ones c.args.maps.ordinary + ones c.args.maps.fail) ≤ length m = omega (arith, c.requires.count_value.0, c.requires.count_value.1) in
    let ordinary_put : c.write_book-ordinary_total.new.memory ≡ put 0 (first ++ book_lines d n u v 0) m = c.write_book-ordinary_total.ensures.memory_after ∙ ap (put 3 (book_lines d n u v 0)) c.write_maps.ensures ∙ put-put 0 first (book_lines d n u v 0) m 3 (omega arith) (omega (arith, ordinary_lines, room)) in
    let both_put : c.write_book-fail_total.new.memory ≡ put 0 lines m = c.write_book-fail_total.ensures.memory_after ∙ ap (put (3 + words_a_line * ones c.args.maps.ordinary) (book_lines d n u v 1)) ordinary_put ∙ put-put 0 (first ++ book_lines d n u v 0) (book_lines d n u v 1) m (3 + words_a_line * ones c.args.maps.ordinary) (omega (arith, ordinary_lines, length-append first (book_lines d n u v 0))) (omega (arith, fail_lines, room)) in
    let lines_long : length lines ≡ 3 + words_a_line * c.args.count = omega (arith, length-append (first ++ book_lines d n u v 0) (book_lines d n u v 1), length-append first (book_lines d n u v 0), ordinary_lines, fail_lines, c.requires.count_value.0) in
    let w = (goal.at.returns c).After-write_book-fail_total in
    let a = 3 + words_a_line * c.args.count in
    let e : a ≡ length lines = omega (arith, lines_long) in
    let l = ends d n u v in
    let nine : length (totals d n u v) ≡ 3 = three-totals d n u v in
    c.write_headed_at.ensures
    ∙ (λ i. put a (word 7 0 ∷ words_of_amounts (totals_are w i)) (both_put i))
    ∙ put-put 0 lines l m a (omega (arith, e))
    (omega (arith, e, lines_long, words_length (totals d n u v), c.requires.count_value.1))
    ∙ ap (λ (x : List ℕ). put 0 x m)
    (report_parts d n u v c.args.count c.args.maps.ordinary c.args.maps.fail c.requires.count_value.0 c.requires.ordinary_value c.requires.fail_value)

pub write_headed_at-requires : goal.write_headed_at-requires
write_headed_at-requires c =
    let m = c.args.memory.now in
    let ordinary_kept : length c.write_book-ordinary_total.new.memory ≡ length m = c.write_book-ordinary_total.auto.memory ∙ c.write_maps.auto.memory in
    let both_kept : length c.write_book-fail_total.new.memory ≡ length m = c.write_book-fail_total.auto.memory ∙ ordinary_kept in
    let d = day_of c.args.of.now.after.now in
    let n = entry c.args.of.now.nets.now in
    let u = net_of c.args.of.now.after.now in
    let v = dvp_of c.args.of.now.after.now in
    let small : Small (totals d n u v) = totals_small d n u v (day_accepted c.args.of.now.after.now).rows (budget c.args.of.now.after.now) in
    record { payload_bound = omega arith; amounts_in_bounds = (omega (arith, both_kept, c.requires.count_value.1), subst Small (sym (totals_are (goal.at.write_headed_at-requires c).After-write_book-fail_total)) small) }
