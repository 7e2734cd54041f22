-- Accepted files: no row holds. And back: files at which no row holds are accepted.
use Rattle.std.specs.Prelude.{Option, Some, None, Ok}
use mathlib.Core.Path.{◌≡◌, refl}
use mathlib.Core.Bool.{Bool, true, false}
use mathlib.Core.List.{List}
use Prim.Native.Nat.{ℕ, ◌+◌, ◌<◌}
use Rattle.numbers.specs.Scan.{first_bad, first_clear, first-none}
use Rattle.model.specs.declared.Check.{Check}
use Rattle.model.specs.declared.Check.TheVariants.{DayHeader, DayLength, BatchHeader, BatchLength, Netting}
use Rattle.model.specs.declared.DayHeaderFault.TheVariants.{BadDayHeader}
use Rattle.model.specs.declared.DayLengthFault.TheVariants.{BadDayLength}
use Rattle.model.specs.declared.BatchHeaderFault.TheVariants.{BadBatchHeader}
use Rattle.model.specs.declared.BatchLengthFault.TheVariants.{BadBatchLength}
use Rattle.model.specs.declared.NettingFault.TheVariants.{BadDeposit}
use Rattle.model.specs.Rows.{plain_row, found_row, record_row}
use Rattle.model.specs.DayFile.{class_count, series_count}
use Rattle.model.specs.DayChecks.{row10, row11, row12, row13, row14, row18, row15, row16, row17, class_check, series_check, record_check, day_check}
use Rattle.model.specs.Batch.{record_count, batch_words}
use Rattle.model.specs.BatchChecks.{row20, row21, row22, row27, row28, row23, row24, row25, row26, word_check, batch_form, position_check, batch_check}
use Rattle.model.specs.Netting.{row30, netting_check}
use Rattle.model.specs.Deposits.{deposit_count}
use Rattle.model.specs.DepositChecks.{odd_words, row50, row51, deposit_check}
use Rattle.model.specs.Calls.{verdict, Accepted}
use Rattle.model.proofs.Verdicts.{◌then◌, failed_not, tried-passed, tried_pass}

pub plain_clear : (k : ℕ → Check) (b : Bool) → plain_row k b ≡ Ok tt → b ≡ false
plain_clear k true e = failed_not (k 0) e
plain_clear k false e = refl

pub plain_back : (k : ℕ → Check) (b : Bool) → b ≡ false → plain_row k b ≡ Ok tt
plain_back k b e = rw e

found : (k : ℕ → Check) (f : Option ℕ) → found_row k f ≡ Ok tt → f ≡ None
found k (Some i) e = failed_not (k i) e
found k None e = refl

pub clear : (k : ℕ → Check) (t : ℕ → Bool) (n : ℕ) → record_row k t n ≡ Ok tt → (i : ℕ) → i < n → t i ≡ false
clear k t n e = first_clear t n (found k (first_bad t n) e)

pub clear_back : (k : ℕ → Check) (t : ℕ → Bool) (n : ℕ) → ((i : ℕ) → i < n → t i ≡ false) → record_row k t n ≡ Ok tt
clear_back k t n h = rw (first-none t n h)

pub record DayRows (d : List ℕ) : Type 0 where
  pub at10 : row10 d ≡ false
  pub at11 : row11 d ≡ false
  pub at12 : (i : ℕ) → i < class_count d + series_count d → row12 d i ≡ false
  pub at13 : (c : ℕ) → c < class_count d → row13 d c ≡ false
  pub at14 : (c : ℕ) → c < class_count d → row14 d c ≡ false
  pub at18 : (c : ℕ) → c < class_count d → row18 d c ≡ false
  pub at15 : (s : ℕ) → s < series_count d → row15 d s ≡ false
  pub at16 : (s : ℕ) → s < series_count d → row16 d s ≡ false
  pub at17 : (s : ℕ) → s < series_count d → row17 d s ≡ false

-- the rows of a batch's records
pub record RecordRows (d b : List ℕ) : Type 0 where
  pub at22 : (i : ℕ) → i < batch_words (record_count b) → row22 b i ≡ false
  pub at27 : (i : ℕ) → i < batch_words (record_count b) → row27 b i ≡ false
  pub at28 : (i : ℕ) → i < batch_words (record_count b) → row28 b i ≡ false
  pub at23 : (r : ℕ) → r < record_count b → row23 d b r ≡ false
  pub at24 : (r : ℕ) → r < record_count b → row24 d b r ≡ false
  pub at25 : (r : ℕ) → r < record_count b → row25 d b r ≡ false
  pub at26 : (r : ℕ) → r < record_count b → row26 d b r ≡ false

-- the rows of the batch by itself, and with row 30
pub record BatchChecks (d b : List ℕ) : Type 0 where
  pub at20 : row20 b ≡ false
  pub at21 : row21 b ≡ false
  pub records : RecordRows d b

pub record BatchRows (d b : List ℕ) : Type 0 where
  pub checks : BatchChecks d b
  pub at30 : (r : ℕ) → r < record_count b → row30 d b r ≡ false

-- the rows of the deposits
pub record DepositRows (d x : List ℕ) : Type 0 where
  pub even : odd_words x ≡ false
  pub at50 : (i : ℕ) → i < deposit_count x → row50 d x i ≡ false
  pub at51 : (i : ℕ) → i < deposit_count x → row51 d x i ≡ false

pub day_checked : (d : List ℕ) → day_check d ≡ Ok tt → DayRows d
unfolding day_check record_check class_check series_check
day_checked d e =
    let file = tried-passed _ e in
    let records = tried-passed _ file.1.1.0 in
    let classes = tried-passed _ records.1.0 in
    let series = tried-passed _ records.1.1.0 in
    record {
      at10 = plain_clear (DayHeader BadDayHeader) _ file.0;
      at11 = plain_clear (DayLength BadDayLength) _ file.1.0;
      at12 = clear _ _ _ records.0;
      at13 = clear _ _ _ classes.0;
      at14 = clear _ _ _ classes.1.0;
      at18 = clear _ _ _ classes.1.1.0;
      at15 = clear _ _ _ series.0;
      at16 = clear _ _ _ series.1.0;
      at17 = clear _ _ _ series.1.1.0;
    }

-- and back
pub day_pass : (d : List ℕ) → DayRows d → day_check d ≡ Ok tt
unfolding day_check record_check class_check series_check
day_pass d r =
    tried_pass _
    (plain_back (DayHeader BadDayHeader) _ r.at10
    then plain_back (DayLength BadDayLength) _ r.at11
    then tried_pass _
    (clear_back _ _ _ r.at12
    then tried_pass _ (clear_back _ _ _ r.at13 then clear_back _ _ _ r.at14 then clear_back _ _ _ r.at18 then tt)
    then tried_pass _ (clear_back _ _ _ r.at15 then clear_back _ _ _ r.at16 then clear_back _ _ _ r.at17 then tt)
    then tt)
    then tt)

module _ (d x : List ℕ) where
  pub deposit_checked : deposit_check d x ≡ Ok tt → DepositRows d x
  unfolding deposit_check
  deposit_checked e =
      let rows = tried-passed _ e in
      record { even = plain_clear (Netting BadDeposit) _ rows.0; at50 = clear _ _ _ rows.1.0; at51 = clear _ _ _ rows.1.1.0 }

  pub deposits_pass : DepositRows d x → deposit_check d x ≡ Ok tt
  unfolding deposit_check
  deposits_pass r = tried_pass _ (plain_back (Netting BadDeposit) _ r.even then clear_back _ _ _ r.at50 then clear_back _ _ _ r.at51 then tt)

module _ (d b : List ℕ) where
  pub records_checked : word_check b ≡ Ok tt → position_check d b ≡ Ok tt → RecordRows d b
  unfolding word_check position_check
  records_checked e q =
      let words = tried-passed _ e in
      let positions = tried-passed _ q in
      record {
        at22 = clear _ _ _ words.0;
        at27 = clear _ _ _ words.1.0;
        at28 = clear _ _ _ words.1.1.0;
        at23 = clear _ _ _ positions.0;
        at24 = clear _ _ _ positions.1.0;
        at25 = clear _ _ _ positions.1.1.0;
        at26 = clear _ _ _ positions.1.1.1.0;
      }

  -- and back
  pub words_pass : RecordRows d b → word_check b ≡ Ok tt
  unfolding word_check
  words_pass r = tried_pass _ (clear_back _ _ _ r.at22 then clear_back _ _ _ r.at27 then clear_back _ _ _ r.at28 then tt)

  pub positions_pass : RecordRows d b → position_check d b ≡ Ok tt
  unfolding position_check
  positions_pass r = tried_pass _ (clear_back _ _ _ r.at23 then clear_back _ _ _ r.at24 then clear_back _ _ _ r.at25 then clear_back _ _ _ r.at26 then tt)

  pub batch_checked : batch_check d b ≡ Ok tt → BatchChecks d b
  unfolding batch_check batch_form
  batch_checked e =
      let batch = tried-passed _ e in
      let form = tried-passed _ batch.0 in
      record {
        at20 = plain_clear (BatchHeader BadBatchHeader) _ form.0;
        at21 = plain_clear (BatchLength BadBatchLength) _ form.1.0;
        records = records_checked form.1.1.0 batch.1.0;
      }

  pub netting_rows : netting_check d b ≡ Ok tt → (r : ℕ) → r < record_count b → row30 d b r ≡ false
  unfolding netting_check
  netting_rows e = clear _ _ _ e

module _ (d b x : List ℕ) where
  pub day-passed : Accepted d b x → day_check d ≡ Ok tt
  unfolding verdict
  day-passed e = (tried-passed _ e).0

  pub day_rows : Accepted d b x → DayRows d
  day_rows e = day_checked d (day-passed e)

  pub batch_rows : Accepted d b x → BatchRows d b
  unfolding verdict
  batch_rows e =
      let stages = tried-passed _ e in
      record { checks = batch_checked d b stages.1.0; at30 = netting_rows d b stages.1.1.0 }

  pub deposit_rows : Accepted d b x → DepositRows d x
  unfolding verdict
  deposit_rows e = deposit_checked d x (tried-passed _ e).1.1.1.0

  all_passed : day_check d ≡ Ok tt → batch_check d b ≡ Ok tt → netting_check d b ≡ Ok tt → deposit_check d x ≡ Ok tt → Accepted d b x
  unfolding verdict
  all_passed p q r z = tried_pass _ (p then q then r then z then tt)

  pub rows_accepted : day_check d ≡ Ok tt → BatchRows d b → DepositRows d x → Accepted d b x
  unfolding batch_check batch_form netting_check
  rows_accepted p r z =
      all_passed p
      (tried_pass _
      (tried_pass _
      (plain_back (BatchHeader BadBatchHeader) _ r.checks.at20
      then plain_back (BatchLength BadBatchLength) _ r.checks.at21
      then words_pass d b r.checks.records
      then tt)
      then positions_pass d b r.checks.records
      then tt))
      (clear_back _ _ _ r.at30)
      (deposits_pass d x z)
