-- To compute with the model: a declaration that says `unfolding everything` sees through every definition of it.
use Rattle.std.specs.Int.Count.{ones, ones_in}
use Rattle.numbers.specs.Scan.{first_bad}
use Rattle.numbers.specs.Sums.{sum_to}
use Rattle.numbers.specs.Budget.{sum_n}
use Rattle.numbers.specs.Extremes.{largest}
use Rattle.numbers.specs.Maps.{map_below, blocks}
use Rattle.numbers.specs.Put.{put}
use Rattle.numbers.specs.Definitions.{tabulate, joined, chosen, highest, earliest}
use Rattle.model.specs.Rows.{tried}
use Rattle.model.specs.DayFile.{class_place, found_class, series_class, series_group}
use Rattle.model.specs.DayChecks.{row10, row11, bad_class_word, bad_series_word, bad_class, bad_series, row12, row13, offsets_differ, row14, projected_falls, row18, row15, row16, row17, class_check, series_check, record_check, day_check}
use Rattle.model.specs.BatchChecks.{row20, row21, dvp_out_of_range, dvp_minus_zero, wrong_kind, out_of_range, minus_zero, at_word, row22, row27, row28, row23, row24, row25, row26, word_check, batch_form, position_check, batch_check}
use Rattle.model.specs.Netting.{net, dvp, row30, netting_check}
use Rattle.model.specs.Deposits.{shares_of}
use Rattle.model.specs.DepositChecks.{odd_words, row50, unlike, row51, deposit_check}
use Rattle.model.specs.Steps.{contracts_covered, goes_before, cover_before, series_covered, covered, left_over, after_offset, minimum_rate, total_short, total_long, held_future, spot_size, spot_spread, non_spot_spread, spread, short_before, long_before, non_spread, mtm, premium, short_price, open_price, counted_net, class_point, type_net, minimum, over_classes, group_point, additional, group_spread, group_mtm, group_premium, group_minimum, requirement, group_sum, margin, residual, line_amounts, held_in, has_line, total}
use Rattle.model.specs.Report.{words_of_amounts, book_map, line_words, book_lines, line_count, totals, report_words, words_needed}
use Rattle.model.specs.Calls.{verdict, answer, memory_after}
use Rattle.model.specs.Rewriting.{held_records, rewritten, added}
use Rattle.model.specs.RewritingChecks.{row31, row32, dvp_check, space_check, rewriting_check, rewrite_check, added_row21, add_check}
use Rattle.model.specs.RewritingCalls.{rewrite_answer, rewrite_after, add_answer, add_after}
use Rattle.model.specs.WorstMoment.{row62, worst_check, account_after, applies, moment, worst_answer}
use Rattle.model.specs.Cents.{with_amounts}
use Rattle.model.specs.CentsChecks.{row33, row34, to_cents_check, from_cents_check}
use Rattle.model.specs.CentsCalls.{to_cents_answer, to_cents_after, from_cents_answer, from_cents_after}
use Rattle.model.specs.ManyAccounts.{words_before, row60, row61, accounts_check, report_start, results_to, memory_to, reports_answer, results_after, reports_after}
use Rattle.model.specs.Printed.{digits, amount_fields, line_text, lines_text, count_text, totals_text, report_text, refusal_text, files_check, program_text}
use Rattle.model.specs.Bytes.{words_of, bytes_of, row1, row2, bytes_check, byte_answer, bytes_after}
use Rattle.model.specs.TextReading.{digits_read, field_read, amount_read, line_bytes, lines_bytes, place_read, refusal_read, account_read, fail_read, totals_read, last_read, lines_read, count_read, report_read, text_says}

unfoldable pub everything : Unit {0}
unfolding first_bad sum_to sum_n largest map_below blocks put tabulate joined chosen highest earliest ones ones_in tried class_place found_class series_class series_group row10 row11 bad_class_word bad_series_word bad_class bad_series row12 row13 offsets_differ row14 projected_falls row18 row15 row16 row17 class_check series_check record_check day_check row20 row21 dvp_out_of_range dvp_minus_zero wrong_kind out_of_range minus_zero at_word row22 row27 row28 row23 row24 row25 row26 word_check batch_form position_check batch_check net dvp row30 netting_check shares_of odd_words row50 unlike row51 deposit_check contracts_covered goes_before cover_before series_covered covered left_over after_offset minimum_rate total_short total_long held_future spot_size spot_spread non_spot_spread spread short_before long_before non_spread mtm premium short_price open_price counted_net class_point type_net minimum over_classes group_point additional group_spread group_mtm group_premium group_minimum requirement group_sum margin residual line_amounts held_in has_line total words_of_amounts book_map line_words book_lines line_count totals report_words words_needed verdict answer memory_after held_records rewritten added row31 row32 dvp_check space_check rewriting_check rewrite_check added_row21 add_check rewrite_answer rewrite_after add_answer add_after row62 worst_check account_after applies moment worst_answer with_amounts row33 row34 to_cents_check from_cents_check to_cents_answer to_cents_after from_cents_answer from_cents_after words_before row60 row61 accounts_check report_start results_to memory_to reports_answer results_after reports_after words_of bytes_of row1 row2 bytes_check byte_answer bytes_after digits amount_fields line_text lines_text count_text totals_text report_text refusal_text files_check program_text digits_read field_read amount_read line_bytes lines_bytes place_read refusal_read account_read fail_read totals_read last_read lines_read count_read report_read text_says
everything = tt
