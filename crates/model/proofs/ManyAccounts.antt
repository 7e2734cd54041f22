-- U1 as the code's proofs meet it: rows 60 and 61 passed, where batches and reports stand and that they fit, and one account more.
use Rattle.std.specs.Prelude.{Ok, Err}
use mathlib.Core.Path.{◌≡◌, refl, ◌∙◌}
use mathlib.Core.Bool.{not}
use mathlib.Core.List.{List, [], ◌++◌}
use Prim.Native.Nat.{ℕ, zero, suc, ◌+◌, ◌-◌, ◌*◌, ◌≤◌}
use native.Mathlib.Decide.{le_ind}
use native.Mathlib.Numerals.{add-one}
use native.Mathlib.Omega.{arith}
use borrow.Author.Tests.{eqb-true, not-false, ltb-false}
use lib.Dec.{eqb, ltb}
use lib.ListN.{length, take, drop, get_or, length-append, length-drop}
use lib.Seq.{length-take-le}
use Rattle.numbers.specs.Put.{put, put-length}
use Rattle.numbers.specs.Tests.{or_left, or_right}
use Rattle.model.specs.declared.Check.{Check}
use Rattle.model.specs.declared.Check.TheVariants.{Accounts}
use Rattle.model.specs.declared.AccountsFault.TheVariants.{BadLengths, ShortResults}
use Rattle.model.specs.Limits.{most_accounts}
use Rattle.model.specs.Report.{longest_report}
use Rattle.model.specs.Calls.{answer, memory_after}
use Rattle.model.specs.ManyAccounts.{words_before, batch_of, result_numbers, row60, row61, accounts_check, words_in, pair_of, report_start, answer_for, results_to, memory_to, reports_answer, results_after, reports_after}
use Rattle.model.proofs.Verdicts.{tried-passed}
use Rattle.model.proofs.Accepted.{plain_clear}
use Rattle.model.proofs.Outcome.{answer_by, needed_most, length_kept}

-- ---- rows 60 and 61

pub record AccountsRows (bs ns : List ℕ) (entries : ℕ) : Type 0 where
  pub few : length ns ≤ most_accounts
  pub sum : words_before ns (length ns) ≡ length bs
  pub list : result_numbers * length ns ≤ entries

pub accounts_checked : (bs ns : List ℕ) (entries : ℕ) → accounts_check bs ns entries ≡ Ok tt → AccountsRows bs ns entries
unfolding accounts_check row60 row61
accounts_checked bs ns entries e =
    let rows = tried-passed _ e in
    let at60 = plain_clear (Accounts BadLengths) _ rows.0 in
    let s = words_before ns (length ns) in
    record {
      few = ltb-false most_accounts (length ns) (or_left (ltb most_accounts (length ns)) (not (eqb s (length bs))) at60);
      sum = eqb-true s (length bs) (not-false (eqb s (length bs)) (or_right (ltb most_accounts (length ns)) (not (eqb s (length bs))) at60));
      list = ltb-false entries (result_numbers * length ns) (plain_clear (Accounts ShortResults) _ rows.1.0);
    }

-- ---- where batches start

pub before_mono : (ns : List ℕ) (i n : ℕ) → i ≤ n → words_before ns i ≤ words_before ns n
unfolding words_before
before_mono ns i n h = le_ind (λ (m : ℕ). words_before ns i ≤ words_before ns m) (omega arith) (λ m l p. omega (arith, p)) n h

pub before-none : (ns : List ℕ) → words_before ns 0 ≡ 0
unfolding words_before
before-none ns = refl

pub before_more : (ns : List ℕ) (i : ℕ) → words_before ns (i + 1) ≡ words_before ns i + get_or ns i 0
unfolding words_before
before_more ns i = rw add-one

-- ---- one call

-- it writes no more words than there are, and at most the longest report
pub words_fit : (d b x : List ℕ) (room : ℕ) → (words_in (answer d b x room) ≤ room) × (words_in (answer d b x room) ≤ longest_report)
words_fit d b x room =
    answer_by d b x room (λ a. (words_in a ≤ room) × (words_in a ≤ longest_report)) (λ h. (h, needed_most d b)) (λ c. (omega arith, omega arith))

-- ---- the calls in turn

module _ (d : List ℕ) (b : ℕ → List ℕ) (room : ℕ) where
  pub start_fits : (i : ℕ) → report_start d b room i ≤ room
  unfolding report_start
  start_fits zero = omega arith
  start_fits (suc i) = omega (arith, start_fits i, (words_fit d (b i) [] (room - report_start d b room i)).0)

  pub start_most : (i : ℕ) → report_start d b room i ≤ longest_report * i
  unfolding report_start
  start_most zero = omega arith
  start_most (suc i) = omega (arith, start_most i, (words_fit d (b i) [] (room - report_start d b room i)).1)

  pub results_long : (rs : List ℕ) (i : ℕ) → result_numbers * i ≤ length rs → length (results_to d b room rs i) ≡ length rs
  unfolding results_to
  results_long rs zero h = refl
  results_long rs (suc i) h =
      let e = results_long rs i (omega arith) in
      put-length (result_numbers * i) (pair_of (answer_for d b room i)) (results_to d b room rs i) (omega (arith, e)) ∙ e

  -- none, and one more
  pub start_none : report_start d b room 0 ≡ 0
  unfolding report_start
  start_none = refl

  pub start_more : (i : ℕ) → report_start d b room (i + 1) ≡ report_start d b room i + words_in (answer_for d b room i)
  unfolding report_start
  start_more i = rw add-one

  pub results_none : (rs : List ℕ) → results_to d b room rs 0 ≡ rs
  unfolding results_to
  results_none rs = refl

  pub results_more : (rs : List ℕ) (i : ℕ) → results_to d b room rs (i + 1) ≡ put (result_numbers * i) (pair_of (answer_for d b room i)) (results_to d b room rs i)
  unfolding results_to
  results_more rs i = rw add-one

module _ (d : List ℕ) (b : ℕ → List ℕ) (m : List ℕ) where
  pub memory-long : (i : ℕ) → length (memory_to d b m i) ≡ length m
  unfolding memory_to
  memory-long zero = refl
  memory-long (suc i) =
      let s = report_start d b (length m) i in
      let l = memory_to d b m i in
      omega (
        arith,
        memory-long i,
        start_fits d b (length m) i,
        length-append (take s l) (memory_after d (b i) [] (drop s l)),
        length-take-le s l (omega (arith, memory-long i, start_fits d b (length m) i)),
        length_kept d (b i) [] (drop s l),
        length-drop s l,
      )

  pub memory-none : memory_to d b m 0 ≡ m
  unfolding memory_to
  memory-none = refl

  pub memory_more : (i : ℕ) → memory_to d b m (i + 1) ≡ take (report_start d b (length m) i) (memory_to d b m i) ++ memory_after d (b i) [] (drop (report_start d b (length m) i) (memory_to d b m i))
  unfolding memory_to
  memory_more i = rw add-one

-- ---- the outcome: refused by row 60 or 61, or past them

module _ (d bs ns : List ℕ) where
  pub all_refused : (rs m : List ℕ) (k : Check) → accounts_check bs ns (length rs) ≡ Err k
      → (Err k ≡ reports_answer d bs ns (length rs) (length m)) × ((rs ≡ results_after d bs ns rs (length m)) × (m ≡ reports_after d bs ns (length rs) m))
  unfolding reports_answer results_after reports_after
  all_refused rs m k e = (rw e, (rw e, rw e))

  pub answer_past : (entries room : ℕ) → accounts_check bs ns entries ≡ Ok tt → reports_answer d bs ns entries room ≡ Ok (report_start d (batch_of bs ns) room (length ns))
  unfolding reports_answer
  answer_past entries room e = rw e

  pub results_past : (rs : List ℕ) (room : ℕ) → accounts_check bs ns (length rs) ≡ Ok tt → results_after d bs ns rs room ≡ results_to d (batch_of bs ns) room rs (length ns)
  unfolding results_after
  results_past rs room e = rw e

  pub memory_past : (entries : ℕ) (m : List ℕ) → accounts_check bs ns entries ≡ Ok tt → reports_after d bs ns entries m ≡ memory_to d (batch_of bs ns) m (length ns)
  unfolding reports_after
  memory_past entries m e = rw e
