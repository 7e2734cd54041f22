-- Single calls in turn (U1): the reports stand end to end and the words behind them remain; each account's two numbers stand at its place and the entries behind them remain; a refused account writes nothing.
use Rattle.std.specs.Prelude.{◌≡◌, Bool, true, length, drop, Ok, Err}
use Rattle.std.proofs.Math.Path.{refl, sym, ap}
use Rattle.std.proofs.Common.{◌∙◌, arith, length-drop, drop_at, drop-drop}
use mathlib.Core.List.{List, [], ◌++◌, append_assoc}
use Prim.Native.Nat.{ℕ, zero, suc, ◌+◌, ◌-◌, ◌*◌, ◌≤◌, ◌<◌}
use Rattle.std.proofs.Math.ListN.{take, length-append}
use Rattle.std.proofs.Math.Seq.{take_at}
use Rattle.numbers.specs.Maps.{blocks, block_read}
use Rattle.numbers.specs.Put.{put, put-none, put_front, put-put}
use Rattle.model.specs.Outcomes.{Answer}
use Rattle.model.specs.declared.Check.{Check}
use Rattle.model.specs.Netting.{net, dvp}
use Rattle.model.specs.Calls.{answer, report, memory_after, written, net_after}
use Rattle.model.specs.ManyAccounts.{result_numbers, words_in, pair_of, report_start, answer_for, memory_to, results_to}
use Rattle.model.proofs.Length.{report-length}
use Rattle.model.proofs.Outcome.{answer_by}

-- ---- one call

-- what an answer writes of a report's words
abbrev pub wrote : Answer → List ℕ → List ℕ
wrote (Ok n) w = w
wrote (Err k) w = []

wrote-long : (d b x : List ℕ) (room : ℕ) → length (wrote (answer d b x room) (report d b x)) ≡ words_in (answer d b x room)
wrote-long d b x room =
    answer_by d b x room (λ a. length (wrote a (report d b x)) ≡ words_in a) (λ h. report-length d (net b) (net_after d b x) (dvp b)) (λ c. refl)

-- the memory after it: what it wrote, then the words that were behind
wrote_is : (a : Answer) (w m : List ℕ) → written a w m ≡ wrote a w ++ drop (words_in a) m
wrote_is (Ok n) w m = refl
wrote_is (Err k) w m = refl

after_is : (d b x m : List ℕ) (room : ℕ) → length m ≡ room → memory_after d b x m ≡ wrote (answer d b x room) (report d b x) ++ drop (words_in (answer d b x room)) m
unfolding memory_after
after_is d b x m room e = ap (λ (r : ℕ). written (answer d b x r) (report d b x) m) e ∙ wrote_is (answer d b x room) (report d b x) m

-- ---- the calls in turn

-- every account
abbrev each : ℕ → Bool
each i = true

module _ (d : List ℕ) (b : ℕ → List ℕ) (m : List ℕ) where
  -- the words that account i writes
  abbrev pub words_for : ℕ → List ℕ
  words_for i = wrote (answer_for d b (length m) i) (report d (b i) [])

  words_long : (i : ℕ) → length (words_for i) ≡ words_in (answer_for d b (length m) i)
  words_long i = wrote-long d (b i) [] (length m - report_start d b (length m) i)

  -- the reports of the accounts below i, end to end, are as long as the place where the next starts
  reports-long : (i : ℕ) → length (blocks each words_for i) ≡ report_start d b (length m) i
  unfolding blocks report_start
  reports-long zero = refl
  reports-long (suc i) = length-append (blocks each words_for i) (words_for i) ∙ (λ j. reports-long i j + words_long i j)

  -- they are the memory's front, and the words behind them are the old ones
  memory_is : (i : ℕ) → memory_to d b m i ≡ blocks each words_for i ++ drop (report_start d b (length m) i) m
  unfolding blocks report_start memory_to
  memory_is zero = refl
  memory_is (suc i) =
      let s = report_start d b (length m) i in
      let r = blocks each words_for i in
      let a = answer_for d b (length m) i in
      ap (λ (x : List ℕ). take s x ++ memory_after d (b i) [] (drop s x)) (memory_is i)
      ∙ (λ j. take_at r (drop s m) s (reports-long i) j ++ memory_after d (b i) [] (drop_at r (drop s m) s (reports-long i) j))
      ∙ ap (λ (x : List ℕ). r ++ x) (after_is d (b i) [] (drop s m) (length m - s) (length-drop s m) ∙ ap (λ (x : List ℕ). words_for i ++ x) (drop-drop (words_in a) s m))
      ∙ sym (append_assoc r (words_for i) (drop (s + words_in a) m))

  -- the words of account k, read from the memory after n calls
  pub words_read : (k n : ℕ) → k < n → take (words_in (answer_for d b (length m) k)) (drop (report_start d b (length m) k) (memory_to d b m n)) ≡ words_for k
  words_read k n h =
      let s = report_start d b (length m) k in
      ap (λ (x : ℕ). take x (drop s (memory_to d b m n))) (sym (words_long k))
      ∙ ap (λ (x : List ℕ). take (length (words_for k)) (drop s x)) (memory_is n)
      ∙ block_read each words_for k n s (drop (report_start d b (length m) n) m) h refl (reports-long k)

  -- the words behind the reports remain
  pub memory-behind : (n : ℕ) → drop (report_start d b (length m) n) (memory_to d b m n) ≡ drop (report_start d b (length m) n) m
  memory-behind n =
      let s = report_start d b (length m) n in
      ap (drop s) (memory_is n) ∙ drop_at (blocks each words_for n) (drop s m) s (reports-long n)

module _ (d : List ℕ) (b : ℕ → List ℕ) (room : ℕ) where
  -- a refused account writes nothing, and the next starts where it did
  pub refused_start : (i : ℕ) (k : Check) → answer_for d b room i ≡ Err k → report_start d b room (suc i) ≡ report_start d b room i
  unfolding report_start
  refused_start i k e = let z = ap words_in e in omega (arith, z)

  -- ---- the result list

  abbrev pub pair_for : ℕ → List ℕ
  pair_for i = pair_of (answer_for d b room i)

  pairs_long : (i : ℕ) → length (blocks each pair_for i) ≡ result_numbers * i
  unfolding blocks
  pairs_long zero = refl
  pairs_long (suc i) = omega (arith, length-append (blocks each pair_for i) (pair_for i), pairs_long i)

  module _ (rs : List ℕ) where
    results_is : (i : ℕ) → result_numbers * i ≤ length rs → results_to d b room rs i ≡ put 0 (blocks each pair_for i) rs
    unfolding blocks results_to
    results_is zero h = sym (put-none 0 rs)
    results_is (suc i) h =
        ap (put (result_numbers * i) (pair_for i)) (results_is i (omega arith))
        ∙ put-put 0 (blocks each pair_for i) (pair_for i) rs (result_numbers * i) (omega (arith, pairs_long i)) (omega arith)

    results_front : (i : ℕ) → result_numbers * i ≤ length rs → results_to d b room rs i ≡ blocks each pair_for i ++ drop (result_numbers * i) rs
    results_front i h = results_is i h ∙ put_front (blocks each pair_for i) rs ∙ ap (λ (x : ℕ). blocks each pair_for i ++ drop x rs) (pairs_long i)

    -- the two numbers of account k
    pub pair_read : (k n : ℕ) → k < n → result_numbers * n ≤ length rs → take result_numbers (drop (result_numbers * k) (results_to d b room rs n)) ≡ pair_for k
    pair_read k n h l =
        ap (λ (x : List ℕ). take result_numbers (drop (result_numbers * k) x)) (results_front n l)
        ∙ block_read each pair_for k n (result_numbers * k) (drop (result_numbers * n) rs) h refl (pairs_long k)

    -- entries past two an account remain
    pub results_behind : (n : ℕ) → result_numbers * n ≤ length rs → drop (result_numbers * n) (results_to d b room rs n) ≡ drop (result_numbers * n) rs
    results_behind n l =
        ap (drop (result_numbers * n)) (results_front n l) ∙ drop_at (blocks each pair_for n) (drop (result_numbers * n) rs) (result_numbers * n) (pairs_long n)
