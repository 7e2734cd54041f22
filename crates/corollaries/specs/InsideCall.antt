-- Demand 3 for each account inside the call for many accounts (U1), from demand 3 itself.
use Rattle.std.specs.Prelude.{◌≡◌, ◌≢◌, length, drop, Ok}
use Rattle.std.proofs.Math.Path.{refl, ap}
use Rattle.std.proofs.Common.{sym, ◌∙◌, subst, le_of_eq, arith, length-set, drop_of_length-le}
use mathlib.Core.List.{List, [], ◌++◌, append-nil}
use Prim.Native.Nat.{ℕ, zero, suc, ◌+◌, ◌-◌, ◌*◌, ◌≤◌, ◌<◌}
use Rattle.std.proofs.Math.Decide.{dec_lt}
use Rattle.std.proofs.Math.ListN.{take}
use Rattle.numbers.specs.Put.{put}
use Rattle.model.specs.Limits.{group_count}
use Rattle.model.specs.Netting.{net, dvp}
use Rattle.model.specs.Calls.{Accepted, net_after, answer, needed, report, memory_after}
use Rattle.model.specs.ManyAccounts.{batch_of, result_numbers, accounts_check, words_in, pair_of, report_start, answer_for, memory_to, results_to}
use Rattle.model.specs.OtherAccounts.{report_at, Enough, edited_batches, edited_lengths, SameOutcome, Inside}
use Rattle.model.specs.Locality.{Edit, LocalChange, Reordered}
use Rattle.model.proofs.Length.{report-length}
use Rattle.model.proofs.Outcome.{memory_is}
use Rattle.model.proofs.Demand.{same_none, edit_none, demand3}
use Rattle.model.proofs.ManyAccounts.{accounts_checked, answer_past, results_past, memory_past}
use Rattle.corollaries.specs.AccountEdits.{edit_rows, edit_at, edit_other}
use Rattle.corollaries.specs.OtherAccounts.{rows_pass, whole}

-- ---- of the reports by themselves

memory-alone : (d b : List ℕ) → Accepted d b [] → memory_after d b [] (report d b []) ≡ report d b []
memory-alone d b a =
    let e = report-length d (net b) (net_after d b []) (dvp b) in
    memory_is d b [] (report d b []) a (omega (arith, e))
    ∙ ap (λ (x : List ℕ). report d b [] ++ x) (drop_of_length-le (report d b []) (le_of_eq e))
    ∙ append-nil (report d b [])

local_reports : (d b₁ b₂ : List ℕ) (g k : ℕ) → g < group_count → k < 2 → Accepted d b₁ [] → Accepted d b₂ [] → Edit d g k b₁ b₂ → LocalChange (report d b₁ []) (report d b₂ []) g k
local_reports d b₁ b₂ g k hg hk a₁ a₂ e =
    let long : (b : List ℕ) → needed d b ≤ length (report d b []) = λ b. omega (arith, report-length d (net b) (net_after d b []) (dvp b)) in
    subst (λ (w : List ℕ). LocalChange w (report d b₂ []) g k) (memory-alone d b₁ a₁)
    (subst (λ (w : List ℕ). LocalChange (memory_after d b₁ [] (report d b₁ [])) w g k) (memory-alone d b₂ a₂)
    (demand3.edits.local d b₁ b₂ [] [] (report d b₁ []) (report d b₂ []) g k hg hk a₁ a₂ e (edit_none d g k) (long b₁) (long b₂)))

-- families of batches that single calls answer alike
module _ (d : List ℕ) (b c : ℕ → List ℕ) (h : (i room : ℕ) → answer d (b i) [] room ≡ answer d (c i) [] room) where
  answer_step : (room i : ℕ) → report_start d b room i ≡ report_start d c room i → answer_for d b room i ≡ answer_for d c room i
  answer_step room i e = h i (room - report_start d b room i) ∙ ap (λ (s : ℕ). answer d (c i) [] (room - s)) e

  start_same : (room i : ℕ) → report_start d b room i ≡ report_start d c room i
  unfolding report_start
  start_same room zero = refl
  start_same room (suc i) = λ t. start_same room i t + words_in (answer_step room i (start_same room i) t)

  results_same : (room : ℕ) (rs : List ℕ) (i : ℕ) → results_to d b room rs i ≡ results_to d c room rs i
  unfolding results_to
  results_same room rs zero = refl
  results_same room rs (suc i) = λ t. put (result_numbers * i) (pair_of (answer_step room i (start_same room i) t)) (results_same room rs i t)

  memory_same : ((i : ℕ) (m : List ℕ) → memory_after d (b i) [] m ≡ memory_after d (c i) [] m) → (m : List ℕ) (i : ℕ) → memory_to d b m i ≡ memory_to d c m i
  unfolding memory_to
  memory_same q m zero = refl
  memory_same q m (suc i) =
      (λ t. take (start_same (length m) i t) (memory_same q m i t) ++ memory_after d (b i) [] (drop (start_same (length m) i t) (memory_same q m i t)))
      ∙ ap (λ (x : List ℕ). take (report_start d c (length m) i) (memory_to d c m i) ++ x) (q i (drop (report_start d c (length m) i) (memory_to d c m i)))

-- ---- of an account in the call

module _ (d bs ns x rs m : List ℕ) (j : ℕ) (l : j < length ns) (e : accounts_check bs ns (length rs) ≡ Ok tt) (a : Accepted d (batch_of bs ns j) []) (r : Reordered (batch_of bs ns j) x) where
  abbrev bs' : List ℕ
  bs' = edited_batches bs ns j x

  abbrev ns' : List ℕ
  ns' = edited_lengths ns j x

  abbrev b : ℕ → List ℕ
  b = batch_of bs ns

  abbrev b' : ℕ → List ℕ
  b' = batch_of bs' ns'

  -- what holds of account j's batches and of equal ones holds of every account's
  each : (P : List ℕ → List ℕ → Type 0) → ((y : List ℕ) → P y y) → P (b j) x → (k : ℕ) → P (b k) (b' k)
  each P same one k = by (dec_lt k j) (dec_lt j k)
    where
      other : k ≢ j → P (b k) (b' k)
      other q = subst (P (b k)) (sym (edit_other bs ns x (length rs) j l (accounts_checked bs ns (length rs) e) k q)) (same (b k))

      by : Dec (k < j) → Dec (j < k) → P (b k) (b' k)
      by (yes p) q = other (λ z. absurd (omega arith))
      by (no p) (yes q) = other (λ z. absurd (omega arith))
      by (no p) (no q) =
          let z : j ≡ k = omega arith in
          subst (λ (i : ℕ). P (b i) (b' i)) z (subst (P (b j)) (sym (edit_at bs ns x (length rs) j l (accounts_checked bs ns (length rs) e))) one)

  answers : (k room : ℕ) → answer d (b k) [] room ≡ answer d (b' k) [] room
  answers k room = each (λ y z. answer d y [] room ≡ answer d z [] room) (λ y. refl) (demand3.orders.answers d (b j) x [] [] room a r same_none) k

  memories : (k : ℕ) (w : List ℕ) → memory_after d (b k) [] w ≡ memory_after d (b' k) [] w
  memories k w = each (λ y z. memory_after d y [] w ≡ memory_after d z [] w) (λ y. refl) (demand3.orders.memories d (b j) x [] [] w a r same_none) k

  passed : accounts_check bs' ns' (length rs) ≡ Ok tt
  passed = rows_pass bs' ns' (length rs) (edit_rows bs ns x (length rs) j l (accounts_checked bs ns (length rs) e))

  count : length ns ≡ length ns'
  count = sym (length-set ns j (length x))

  same_outcome : SameOutcome d bs ns bs' ns' rs m
  same_outcome =
      record {
        answers =
            answer_past d bs ns (length rs) (length m) e
            ∙ ap (λ (n : ℕ). Ok n) (start_same d b b' answers (length m) (length ns) ∙ ap (report_start d b' (length m)) count)
            ∙ sym (answer_past d bs' ns' (length rs) (length m) passed);
        results =
            results_past d bs ns rs (length m) e
            ∙ results_same d b b' answers (length m) rs (length ns)
            ∙ ap (results_to d b' (length m) rs) count
            ∙ sym (results_past d bs' ns' rs (length m) passed);
        memories =
            memory_past d bs ns (length rs) m e
            ∙ memory_same d b b' answers memories m (length ns)
            ∙ ap (memory_to d b' m) count
            ∙ sym (memory_past d bs' ns' (length rs) m passed);
      }

local_account : (d bs ns x rs₁ m₁ rs₂ m₂ : List ℕ) (j g k : ℕ) → j < length ns → g < group_count → k < 2
    → Accepted d (batch_of bs ns j) [] → Accepted d x [] → Edit d g k (batch_of bs ns j) x
    → Enough d bs ns rs₁ m₁ → Enough d (edited_batches bs ns j x) (edited_lengths ns j x) rs₂ m₂
    → LocalChange (report_at d bs ns rs₁ m₁ j) (report_at d (edited_batches bs ns j x) (edited_lengths ns j x) rs₂ m₂ j) g k
local_account d bs ns x rs₁ m₁ rs₂ m₂ j g k l hg hk a₁ a₂ e q₁ q₂ =
    let bs' = edited_batches bs ns j x in
    let ns' = edited_lengths ns j x in
    let z : batch_of bs' ns' j ≡ x = edit_at bs ns x (length rs₁) j l (accounts_checked bs ns (length rs₁) q₁.passed) in
    let w₁ = whole d bs ns rs₁ m₁ q₁ j l a₁ in
    let w₂ = whole d bs' ns' rs₂ m₂ q₂ j (omega (arith, length-set ns j (length x))) (subst (λ (y : List ℕ). Accepted d y []) (sym z) a₂) ∙ ap (λ (y : List ℕ). report d y []) z in
    subst (λ (w : List ℕ). LocalChange w (report_at d bs' ns' rs₂ m₂ j) g k) (sym w₁)
    (subst (λ (w : List ℕ). LocalChange (report d (batch_of bs ns j) []) w g k) (sym w₂) (local_reports d (batch_of bs ns j) x g k hg hk a₁ a₂ e))

pub inside : Inside
inside = record { edits = local_account; orders = λ d bs ns x rs m j l e a r. same_outcome d bs ns x rs m j l e a r }
