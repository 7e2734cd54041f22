-- What the contract of the call over words rules out, each by an account on which the wrong program differs.
use Rattle.std.specs.Prelude.{◌≡◌, refl, List, [], ◌∷◌, ◌++◌, ℕ, ◌+◌, ◌*◌, ◌^◌, ◌≤◌, ◌<◌, length, get_or, take, drop, Ok, Err}
use Rattle.std.proofs.Common.{sym, ap, subst, ◌∙◌, arith, lit≤}
use Rattle.model.specs.Outcomes.{Answer}
use Rattle.model.specs.declared.Check.{Check}
use Rattle.model.specs.Words.{word}
use Rattle.model.specs.Answers.{status_of}
use Rattle.model.specs.Batch.{record_count}
use Rattle.model.specs.Calls.{Accepted, answer, needed, memory_after}
use Rattle.model.specs.Reading.{count_in}
use Rattle.model.specs.Computing.{everything}
use Rattle.model.specs.Accounts.{batch_file}
use Rattle.model.specs.Figures.{share, large, large_held}
use Rattle.model.specs.Mistakes.{two_records}
use Rattle.corollaries.specs.TwoGroups.{day, before, removed, memory, before_accepted, removed_accepted, before_room, removed_room}
use Rattle.model.specs.Report.{words_a_line}

-- a program: its answer, by the length of the report memory, and the memory that it leaves
pub record Program : Type 0 where
  pub answers : List ℕ → List ℕ → List ℕ → ℕ → Answer
  pub leaves : List ℕ → List ℕ → List ℕ → List ℕ → List ℕ

-- it meets the contract: both are those of specs/Calls, for all inputs
pub record Meets (p : Program) : Type 0 where
  pub answered : (d b x : List ℕ) (room : ℕ) → p.answers d b x room ≡ answer d b x room
  pub left : (d b x m : List ℕ) → p.leaves d b x m ≡ memory_after d b x m

-- some program does
pub contract_met : Meets (record { answers = answer; leaves = memory_after })
contract_met = record { answered = λ d b x room. refl; left = λ d b x m. refl }

-- wherever the files d, b are accepted with no deposits and the memory m has room, Q holds of them and the memory w that the program leaves
abbrev pub OnReports : Program → (List ℕ → List ℕ → List ℕ → List ℕ → Type 0) → Type 0
OnReports p Q = (d b m : List ℕ) → Accepted d b [] → needed d b ≤ length m → Q d b m (p.leaves d b [] m)

-- 1 for a report, 0 for a refusal
abbrev reports : Answer → ℕ
reports (Ok n) = 1
reports (Err k) = 0

-- a batch cut to its first record
abbrev pub first_record : List ℕ → List ℕ
first_record b = batch_file 1 (take 6 (drop 1 b))

-- the words of the six amounts of line i
abbrev pub amounts_of_line : List ℕ → ℕ → List ℕ
amounts_of_line w i = take 18 (drop (4 + words_a_line * i) w)

-- ---- the accounts: three lines; two lines; M3's share in two records, one line; M8's net of 1,001

before-reports : reports (answer day before [] 80) ≡ 1
unfolding everything
before-reports = refl

before-count : count_in (memory_after day before [] memory) ≡ 3
unfolding everything
before-count = refl

-- the MTM of its first line is a credit, that of its second a debit
first_sign : get_or (amounts_of_line (memory_after day before [] memory) 0) 3 0 ≡ word 5 (2 ^ 28)
unfolding everything
first_sign = refl

second_sign : get_or (amounts_of_line (memory_after day before [] memory) 1) 3 0 ≡ word 5 0
unfolding everything
second_sign = refl

first_count : count_in (memory_after day (first_record before) [] memory) ≡ 1
unfolding everything
first_count = refl

removed-count : count_in (memory_after day removed [] memory) ≡ 2
unfolding everything
removed-count = refl

two_accepted : Accepted share two_records []
unfolding everything
two_accepted = refl

two_room : needed share two_records ≤ length memory
unfolding everything
two_room = lit≤ tt

two-count : count_in (memory_after share two_records [] memory) ≡ 1
unfolding everything
two-count = refl

thirty : status_of (answer large (large_held 1001) [] 0) ≡ 30
unfolding everything
thirty = refl

some_needed : 0 < needed large (large_held 1001)
unfolding everything
some_needed = lit≤ tt

-- one word as deposits: row 50
fifty : status_of (answer day before (0 ∷ []) 80) ≡ 50
unfolding everything
fifty = refl

before_passes : status_of (answer day before [] 80) ≡ 0
unfolding everything
before_passes = refl

-- ---- no program that meets the contract does one of these

module _ (p : Program) (meets : Meets p) where
  -- what it leaves after the first account
  abbrev leaves_before : p.leaves day before [] memory ≡ memory_after day before [] memory
  leaves_before = meets.left day before [] memory

  -- it refuses always, with whichever refusals
  pub not_refusing : ((d b x : List ℕ) (room : ℕ) → (k : Check) × (p.answers d b x room ≡ Err k)) → ⊥
  not_refusing h =
      let z : ◌≡◌ {A = ℕ} 1 0 = sym before-reports ∙ ap reports (sym (meets.answered day before [] 80) ∙ (h day before [] 80).1) in
      absurd (omega arith)

  -- it writes nothing
  pub not_silent : OnReports p (λ d b m w. w ≡ m) → ⊥
  not_silent h =
      let z : ◌≡◌ {A = ℕ} 3 0 = sym before-count ∙ ap count_in (sym leaves_before ∙ h day before memory before_accepted before_room) in
      absurd (omega arith)

  -- it prints one fixed report, whichever
  pub not_fixed : (r : List ℕ) → OnReports p (λ d b m w. w ≡ r ++ drop (length r) m) → ⊥
  not_fixed r h =
      let e = sym leaves_before ∙ h day before memory before_accepted before_room in
      let f = sym (meets.left day removed [] memory) ∙ h day removed memory removed_accepted removed_room in
      let z : ◌≡◌ {A = ℕ} 3 2 = sym before-count ∙ ap count_in (e ∙ sym f) ∙ removed-count in
      absurd (omega arith)

  -- it handles only the first record
  pub not-first_only : OnReports p (λ d b m w. 1 ≤ record_count b → w ≡ memory_after d (first_record b) [] m) → ⊥
  not-first_only h =
      let e = sym leaves_before ∙ h day before memory before_accepted before_room (lit≤ tt) in
      let z : ◌≡◌ {A = ℕ} 3 1 = sym before-count ∙ ap count_in e ∙ first_count in
      absurd (omega arith)

  -- it copies the amounts of the first line onward
  pub not_copying : OnReports p (λ d b m w. (i : ℕ) → i < count_in w → amounts_of_line w i ≡ amounts_of_line w 0) → ⊥
  not_copying h =
      let c =
      subst (λ (w : List ℕ). (i : ℕ) → i < count_in w → amounts_of_line w i ≡ amounts_of_line w 0) leaves_before (h day before memory before_accepted before_room)
      in
      let z : word 5 0 ≡ word 5 (2 ^ 28) = sym second_sign ∙ ap (λ (l : List ℕ). get_or l 3 0) (c 1 (omega (arith, before-count))) ∙ first_sign in
      absurd (omega arith)

  -- it puts the number of records P in the header
  pub not_counting_records : OnReports p (λ d b m w. count_in w ≡ record_count b) → ⊥
  not_counting_records h =
      let z : ◌≡◌ {A = ℕ} 1 2 = sym two-count ∙ ap count_in (sym (meets.left share two_records [] memory)) ∙ h share two_records memory two_accepted two_room in
      absurd (omega arith)

  -- it answers 40 before the rows above
  pub not-short-first : ((d b x : List ℕ) (room : ℕ) → room < needed d b → status_of (p.answers d b x room) ≡ 40) → ⊥
  not-short-first h =
      let z : ◌≡◌ {A = ℕ} 30 40 =
      sym thirty ∙ ap status_of (sym (meets.answered large (large_held 1001) [] 0)) ∙ h large (large_held 1001) [] 0 some_needed
      in
      absurd (omega arith)

  -- it takes no notice of the deposits
  pub not_blind_to_deposits : ((d b x : List ℕ) (room : ℕ) → p.answers d b x room ≡ p.answers d b [] room) → ⊥
  not_blind_to_deposits h =
      let z : ◌≡◌ {A = ℕ} 50 0 =
      sym fifty ∙ ap status_of (sym (meets.answered day before (0 ∷ []) 80) ∙ h day before (0 ∷ []) 80 ∙ meets.answered day before [] 80) ∙ before_passes
      in
      absurd (omega arith)
