-- The two numbers of an answer, case by case: 0 and the length; 40 and the words needed; a refusal's number and place. The second is below 2 ^ 32.
use Rattle.std.specs.Prelude.{◌≡◌, refl, List, [], ℕ, ◌/◌, ◌^◌, ◌≤◌, ◌<◌, length, Ok, Err}
use Rattle.std.proofs.Common.{sym, subst, le-leb}
use Rattle.std.proofs.lemmas.Bool.{lt-leb}
use Rattle.model.specs.Outcomes.{Answer}
use Rattle.model.specs.declared.Check.{Check}
use Rattle.model.specs.Outcomes.{Verdict}
use Rattle.model.specs.Answers.{number_of, place_of, status_of, value_of}
use Rattle.model.specs.Rows.{◌or_else◌}
use Rattle.model.specs.Calls.{verdict, answer, answer_of, room_answer, needed}
use Rattle.model.specs.Bytes.{words_of, bytes_check, byte_answer}
use Rattle.model.specs.Rewriting.{rewriting, added}
use Rattle.model.specs.RewritingChecks.{rewrite_check, add_check}
use Rattle.model.specs.RewritingCalls.{rewrite_answer, add_answer}
use Rattle.model.specs.Cents.{to_cents, from_cents}
use Rattle.model.specs.CentsChecks.{to_cents_check, from_cents_check}
use Rattle.model.specs.CentsCalls.{to_cents_answer, from_cents_answer}
use Rattle.model.proofs.Places.{value_small, byte_value_small, rewrite_value_small, add_value_small, to_cents_value_small, from_cents_value_small}

-- a the answer of a call whose rows above 40 say v, that has n words to write, and whose memory has room for so many
pub record Numbers (v : Verdict) (n room : ℕ) (a : Answer) : Type 0 where
  pub reported : v ≡ Ok tt → n ≤ room → (status_of a ≡ 0) × (value_of a ≡ n)
  pub short : v ≡ Ok tt → room < n → (status_of a ≡ 40) × (value_of a ≡ n)
  pub refused : (k : Check) → v ≡ Err k → (status_of a ≡ number_of k) × (value_of a ≡ place_of k)
  pub small : value_of a < 2 ^ 32

-- rows that refuse, then others
answer_or : (v w : Verdict) (a : Answer) → answer_of v (answer_of w a) ≡ answer_of (v or_else w) a
answer_or (Ok _) w a = refl
answer_or (Err k) w a = refl

module _ (n room : ℕ) where
  enough : n ≤ room → (status_of (room_answer n room) ≡ 0) × (value_of (room_answer n room) ≡ n)
  enough h = rw (le-leb n room h) (refl, refl)

  lacking : room < n → (status_of (room_answer n room) ≡ 40) × (value_of (room_answer n room) ≡ n)
  lacking h = rw (lt-leb n room h) (refl, refl)

  numbers_of_lem : (v : Verdict) → value_of (answer_of v (room_answer n room)) < 2 ^ 32 → Numbers v n room (answer_of v (room_answer n room))
  numbers_of_lem v h =
      record {
        reported = λ e l. rw e (enough l);
        short = λ e l. rw e (lacking l);
        refused = λ k e. rw e (refl, refl);
        small = h;
      }

pub numbers : (d b x : List ℕ) (room : ℕ) → Numbers (verdict d b x) (needed d b) room (answer d b x room)
unfolding answer
numbers d b x room = numbers_of_lem (needed d b) room (verdict d b x) (value_small d b x room)

pub rewrite_numbers : (d b : List ℕ) (room : ℕ) → Numbers (rewrite_check d b) (length (rewriting b)) room (rewrite_answer d b room)
unfolding rewrite_answer
rewrite_numbers d b room = numbers_of_lem (length (rewriting b)) room (rewrite_check d b) (rewrite_value_small d b room)

pub add_numbers : (d b w : List ℕ) (room : ℕ) → Numbers (add_check d b w) (length (rewriting (added b w))) room (add_answer d b w room)
unfolding add_answer
add_numbers d b w room = numbers_of_lem (length (rewriting (added b w))) room (add_check d b w) (add_value_small d b w room)

pub to_cents_numbers : (b : List ℕ) (room : ℕ) → Numbers (to_cents_check b) (length (to_cents b)) room (to_cents_answer b room)
unfolding to_cents_answer
to_cents_numbers b room = numbers_of_lem (length (to_cents b)) room (to_cents_check b) (to_cents_value_small b room)

pub from_cents_numbers : (b : List ℕ) (room : ℕ) → Numbers (from_cents_check b) (length (from_cents b)) room (from_cents_answer b room)
unfolding from_cents_answer
from_cents_numbers b room = numbers_of_lem (length (from_cents b)) room (from_cents_check b) (from_cents_value_small b room)

pub byte_numbers : (day b : List ℕ) (room : ℕ)
    → Numbers (bytes_check day b or_else verdict (words_of day) (words_of b) []) (needed (words_of day) (words_of b)) (room / 4) (byte_answer day b room)
unfolding byte_answer answer
byte_numbers day b room =
    let v : Verdict = bytes_check day b in
    let w : Verdict = verdict (words_of day) (words_of b) [] in
    let n : ℕ = needed (words_of day) (words_of b) in
    let e = answer_or v w (room_answer n (room / 4)) in
    subst (Numbers (v or_else w) n (room / 4)) (sym e) (numbers_of_lem n (room / 4) (v or_else w) (subst (λ (a : Answer). value_of a < 2 ^ 32) e (byte_value_small day b room)))
