-- An edit in one account moves nothing in another's report but its starting place (U1): with enough memory, each account gets what a single call gives it.
use Rattle.std.specs.Prelude.{◌≡◌, List, [], length, Ok, Err}
use Rattle.std.proofs.Math.Path.{refl}
use Rattle.std.proofs.Common.{sym, ap, ◌∙◌, arith, le-leb, eq-eqb, le-ltb, length-set}
use Prim.Native.Nat.{ℕ, zero, suc, ◌+◌, ◌-◌, ◌*◌, ◌≤◌, ◌<◌}
use Rattle.std.proofs.Math.Decide.{le_ind}
use Rattle.model.specs.Outcomes.{Answer}
use Rattle.model.specs.declared.AccountsFault.TheVariants.{BadLengths, ShortResults}
use Rattle.model.specs.declared.Check.TheVariants.{Accounts}
use Rattle.model.specs.Outcomes.{Verdict}
use Rattle.model.specs.Limits.{most_accounts}
use Rattle.model.specs.Calls.{verdict, Accepted, answer, answer_of, room_answer, needed, report}
use Rattle.model.specs.ManyAccounts.{words_before, batch_of, result_numbers, row60, row61, accounts_check, words_in, pair_of, report_start, answer_for}
use Rattle.model.specs.OtherAccounts.{pair_at, report_at, freely, needed_to, Enough, edited_batches, edited_lengths, SameAccount, OtherAccounts}
use Rattle.model.proofs.Verdicts.{◌then◌, tried_pass}
use Rattle.model.proofs.Accepted.{plain_back}
use Rattle.model.proofs.ManyAccounts.{AccountsRows, accounts_checked}
use Rattle.corollaries.specs.CallsInTurn.{wrote}
use Rattle.corollaries.specs.AccountEdits.{edit_rows, edit_at, edit_other}
use Rattle.corollaries.specs.InTurn.{pair_is, report_is}

-- ---- enough memory

-- with room for what it needs, an answer is the free one
free_of : (v : Verdict) (n room : ℕ) → words_in (answer_of v (Ok n)) ≤ room → answer_of v (room_answer n room) ≡ answer_of v (Ok n)
free_of (Ok _) n room h = rw (le-leb n room h)
free_of (Err k) n room h = refl

free_answer : (d b : List ℕ) (room : ℕ) → words_in (freely d b) ≤ room → answer d b [] room ≡ freely d b
unfolding answer
free_answer d b room h = free_of (verdict d b []) (needed d b) room h

needed-suc : (d : List ℕ) (b : ℕ → List ℕ) (i : ℕ) → needed_to d b (suc i) ≡ needed_to d b i + words_in (freely d (b i))
unfolding needed_to
needed-suc d b i = refl

needed_mono : (d : List ℕ) (b : ℕ → List ℕ) (i n : ℕ) → i ≤ n → needed_to d b i ≤ needed_to d b n
needed_mono d b i n h = le_ind (λ (m : ℕ). needed_to d b i ≤ needed_to d b m) (omega arith) (λ m l p. omega (arith, p, needed-suc d b m)) n h

module _ (d : List ℕ) (b : ℕ → List ℕ) (room n : ℕ) (r : needed_to d b n ≤ room) where
  free_step : (i : ℕ) → i < n → report_start d b room i ≡ needed_to d b i → answer_for d b room i ≡ freely d (b i)
  free_step i h e = free_answer d (b i) (room - report_start d b room i) (omega (arith, e, needed-suc d b i, needed_mono d b (suc i) n h))

  free_start : (i : ℕ) → i ≤ n → report_start d b room i ≡ needed_to d b i
  unfolding report_start needed_to
  free_start zero h = refl
  free_start (suc i) h = λ j. free_start i (omega arith) j + words_in (free_step i h (free_start i (omega arith)) j)

  free_for : (i : ℕ) → i < n → answer_for d b room i ≡ freely d (b i)
  free_for i h = free_step i h (free_start i (omega arith))

abbrev free_words : List ℕ → List ℕ → List ℕ
free_words d b = wrote (freely d b) (report d b [])

module _ (d bs ns rs m : List ℕ) (q : Enough d bs ns rs m) (k : ℕ) (h : k < length ns) where
  free_pair : pair_at d bs ns rs m k ≡ pair_of (freely d (batch_of bs ns k))
  free_pair = pair_is d bs ns rs m q.passed k h ∙ ap pair_of (free_for d (batch_of bs ns) (length m) (length ns) q.room k h)

  free_report : report_at d bs ns rs m k ≡ free_words d (batch_of bs ns k)
  free_report =
      report_is d bs ns rs m q.passed k h
      ∙ ap (λ (a : Answer). wrote a (report d (batch_of bs ns k) [])) (free_for d (batch_of bs ns) (length m) (length ns) q.room k h)

  -- an accepted account's report
  pub whole : Accepted d (batch_of bs ns k) [] → report_at d bs ns rs m k ≡ report d (batch_of bs ns k) []
  whole e = free_report ∙ ap (λ (v : Verdict). wrote (answer_of v (Ok (needed d (batch_of bs ns k)))) (report d (batch_of bs ns k) [])) e

-- any two calls of which account k has the same batch
same_batch : (d bs₁ ns₁ rs₁ m₁ bs₂ ns₂ rs₂ m₂ : List ℕ) (k : ℕ) → k < length ns₁ → k < length ns₂ → Enough d bs₁ ns₁ rs₁ m₁ → Enough d bs₂ ns₂ rs₂ m₂
    → batch_of bs₂ ns₂ k ≡ batch_of bs₁ ns₁ k → SameAccount d bs₁ ns₁ rs₁ m₁ bs₂ ns₂ rs₂ m₂ k
same_batch d bs₁ ns₁ rs₁ m₁ bs₂ ns₂ rs₂ m₂ k h₁ h₂ q₁ q₂ e =
    record {
      pair = free_pair d bs₁ ns₁ rs₁ m₁ q₁ k h₁ ∙ ap (λ (y : List ℕ). pair_of (freely d y)) (sym e) ∙ sym (free_pair d bs₂ ns₂ rs₂ m₂ q₂ k h₂);
      words = free_report d bs₁ ns₁ rs₁ m₁ q₁ k h₁ ∙ ap (free_words d) (sym e) ∙ sym (free_report d bs₂ ns₂ rs₂ m₂ q₂ k h₂);
    }

-- ---- the claims

-- rows 60 and 61, back
pub rows_pass : (bs ns : List ℕ) (entries : ℕ) → AccountsRows bs ns entries → accounts_check bs ns entries ≡ Ok tt
unfolding accounts_check row60 row61
rows_pass bs ns entries r =
    tried_pass _
    (plain_back (Accounts BadLengths) (row60 bs ns) (rw (le-ltb most_accounts (length ns) r.few, eq-eqb (words_before ns (length ns)) (length bs) r.sum))
    then plain_back (Accounts ShortResults) _ (le-ltb entries (result_numbers * length ns) r.list)
    then tt)

pub other_accounts : OtherAccounts
other_accounts =
    record {
      passes = λ bs ns x entries j l e. rows_pass (edited_batches bs ns j x) (edited_lengths ns j x) entries (edit_rows bs ns x entries j l (accounts_checked bs ns entries e));
      edited = λ bs ns x entries j l e. edit_at bs ns x entries j l (accounts_checked bs ns entries e);
      left = λ bs ns x entries j k l q e. edit_other bs ns x entries j l (accounts_checked bs ns entries e) k q;
      others = λ d bs ns x rs₁ m₁ rs₂ m₂ j k l h q e₁ e₂. same_batch d bs ns rs₁ m₁ (edited_batches bs ns j x) (edited_lengths ns j x) rs₂ m₂ k h (omega (arith, length-set ns j (length x))) e₁ e₂ (edit_other bs ns x (length rs₁) j l (accounts_checked bs ns (length rs₁) e₁.passed) k q);
      alone = λ d bs ns rs m k h q. (free_pair d bs ns rs m q k h, whole d bs ns rs m q k h);
    }
